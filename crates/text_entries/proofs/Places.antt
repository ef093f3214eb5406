-- The entries in an array: none, one more where there is a place, one more where there is none; and what all of them are told to be.
-- At the end the loop over the entries of a text: those read so far, and those that the text from `at` on is.
-- Assumes nothing.
use mathlib.Core.Path.{◌≡◌, refl, sym, ap, ◌∙◌}
use mathlib.Core.Bool.{true, false, true≢false}
use mathlib.Core.List.{List, [], ◌∷◌, ◌++◌, map, map-append}
use mathlib.Core.Option
use mathlib.Core.Option.{Option, none, some}
use Prim.Native.Nat.{ℕ, ◌+◌, ◌≤◌, ◌<◌}
use native.Mathlib.Omega.{arith}
use borrow.Author.Tests.{lt-ltb, le-ltb, le-leb, lt-leb}
use lib.ListN.{length, drop, set, replicate, length-append, length-map}
use lib.Seq.{append_snoc}
use Rattle.listing.proofs.Numbers.{either, below?}
use Rattle.listing.specs.Limits.{most_ports, largest64}
use Rattle.words.specs.Told.{refused, nowhere}
use Rattle.words.specs.Padded.{padded}
use Rattle.words.proofs.Padded.{padded-set}
use Rattle.text_entries.specs.Entries.{entries_in, entry_byte, few_entries, entries_of}
use Rattle.text_entries.specs.Pieces.{HeldIs, EntriesAre}
use Rattle.text_entries.specs.declared.Held.{Held}
use Rattle.text_entries.specs.declared.Entries.{Entries}
use Rattle.std.specs.declared.result.Result.TheVariants.{Ok}

-- ---- an entry as a byte

-- up to 255 it is the byte
pub small-entry : (n : ℕ) → n ≤ 255 → n ≡ entry_byte n
small-entry n h = rw (le-leb n 255 h) refl

-- above, it is held as 0
pub large-entry : (n : ℕ) → 255 < n → 0 ≡ entry_byte n
large-entry n h = rw (lt-leb n 255 h) refl

-- ---- in the array

-- one entry more is one more
one-longer : (ns : List ℕ) (n : ℕ) → length (ns ++ (n ∷ [])) ≡ length ns + 1
one-longer ns n = length-append ns (n ∷ [])

module _ (ns : List ℕ) (h : Held) (H : HeldIs ns h) (n : ℕ) where
  -- where there is a place
  pub held_more : (b : ℕ) → b ≡ entry_byte n → h.len < most_ports
      → HeldIs (ns ++ (n ∷ [])) (record { bytes = set h.bytes h.len b; len = h.len + 1; over = h.over })
  held_more b s room =
      either (below? (length ns) most_ports)
      (λ few.
      let e : h.len ≡ length ns = H.len (omega arith) in
      let one = one-longer ns n in
      record {
        over = H.over ∙ le-ltb most_ports (length ns) (omega arith) ∙ sym (le-ltb most_ports (length (ns ++ (n ∷ []))) (omega arith));
        full = λ f. omega arith;
        len = λ f. omega arith;
        bytes = λ f. stored few e;
      })
      (λ many. absurd (omega (arith, H.full (omega arith))))
    where
      stored : length ns < most_ports → h.len ≡ length ns → set h.bytes h.len b ≡ padded most_ports 0 (map entry_byte (ns ++ (n ∷ [])))
      stored few e =
          (λ i. set (H.bytes (omega arith) i) ((e ∙ sym (length-map ns entry_byte)) i) (s i))
          ∙ padded-set most_ports 0 (entry_byte n) (map entry_byte ns) (omega (arith, length-map ns entry_byte))
          ∙ ap (padded most_ports 0) (sym (map-append entry_byte ns (n ∷ [])))

  -- where there is none
  pub held-over : most_ports ≤ h.len → HeldIs (ns ++ (n ∷ [])) (record { bytes = h.bytes; len = h.len; over = true })
  held-over full =
      either (below? (length ns) most_ports)
      (λ few. absurd (omega (arith, H.len (omega arith))))
      (λ many.
      let one = one-longer ns n in
      record {
        over = sym (lt-ltb most_ports (length (ns ++ (n ∷ []))) (omega arith));
        full = λ f. H.full many;
        len = λ f. absurd (omega arith);
        bytes = λ f. absurd (omega arith);
      })

-- ---- all of them

module _ (ns : List ℕ) (h : Held) (H : HeldIs ns h) where
  -- too many
  pub too_many : h.over ≡ true → refused 1 nowhere ≡ few_entries ns
  unfolding few_entries
  too_many e =
      either (below? most_ports (length ns))
      (λ m. rw (lt-leb (length ns) most_ports m) refl)
      (λ m. absurd (true≢false (sym e ∙ H.over ∙ le-ltb most_ports (length ns) m)))

  -- not too many
  few : h.over ≡ false → length ns ≤ most_ports
  few e = either (below? most_ports (length ns)) (λ m. absurd (true≢false (sym (lt-ltb most_ports (length ns) m) ∙ sym H.over ∙ e))) (λ m. m)

  pub few-enough : h.over ≡ false → EntriesAre (few_entries ns) (record { len = h.len; bytes = h.bytes })
  unfolding few_entries
  few-enough e =
      let m = few e in
      rw (le-leb (length ns) most_ports m)
      (record { judged = refl; len = H.len m ∙ sym (length-map ns entry_byte); bytes = H.bytes m })

-- ---- the loop

-- after some entries of a text t: they are held, and with those that t is from `at` on they are all of its entries
pub record Reading (t : List ℕ) (h : Held) (at : ℕ) : Type 0 where
  pub ns : List ℕ
  pub held : HeldIs ns h
  pub rest : entries_in largest64 t ≡ Option.map (λ ms. ns ++ ms) (entries_in largest64 (drop at t))

-- before the first
pub reading-none : (t : List ℕ) → Reading t (record { bytes = replicate most_ports 0; len = 0; over = false }) 0
reading-none t = record {
  ns = [];
  held = record { over = refl; full = λ f. absurd (omega arith); len = λ f. refl; bytes = λ f. refl };
  rest = same (entries_in largest64 t);
}
  where
    same : (o : Option (List ℕ)) → o ≡ Option.map (λ ms. [] ++ ms) o
    same none = refl
    same (some l) = refl

module _ (t : List ℕ) (h : Held) (at : ℕ) (R : Reading t h at) where
  -- one that is none
  pub entry-bad : none ≡ entries_in largest64 (drop at t) → refused 8 nowhere ≡ entries_of t
  unfolding entries_of
  entry-bad e = rw (R.rest, ← e)

  -- the last
  pub entry-last : (n : ℕ) → some (n ∷ []) ≡ entries_in largest64 (drop at t) → few_entries (R.ns ++ (n ∷ [])) ≡ entries_of t
  unfolding entries_of
  entry-last n e = rw (R.rest, ← e)

  -- one with others after it
  pub entry_more : (n next : ℕ) (g : Held) → HeldIs (R.ns ++ (n ∷ [])) g
      → Option.map (λ ms. n ∷ ms) (entries_in largest64 (drop next t)) ≡ entries_in largest64 (drop at t) → Reading t g next
  entry_more n next g G e = record {
    ns = R.ns ++ (n ∷ []);
    held = G;
    rest = R.rest ∙ ap (Option.map (λ ms. R.ns ++ ms)) (sym e) ∙ further (entries_in largest64 (drop next t));
  }
    where
      further : (o : Option (List ℕ)) → Option.map (λ ms. R.ns ++ ms) (Option.map (λ ms. n ∷ ms) o) ≡ Option.map (λ ms. (R.ns ++ (n ∷ [])) ++ ms) o
      further none = refl
      further (some l) = ap some (sym (append_snoc R.ns n l))
