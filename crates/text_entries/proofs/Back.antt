-- Texts put together are taken apart again into the same texts (`pieces-joined`), and the pieces of a text put together are the text (`joined-pieces`). So
-- entries are read back from their text as themselves (`entries-back`), and a text that is read as entries is the text of them (`entries-text`).
-- Assumes nothing.
use mathlib.Core.Path.{◌≡◌, refl, sym, ap, subst, ◌∙◌}
use mathlib.Core.Bool.{Bool, true, false, cond}
use mathlib.Core.List.{List, [], ◌∷◌, ◌++◌, append-nil, map}
use mathlib.Core.Option
use mathlib.Core.Option.{Option, none, some, bind}
use Prim.Native.Nat.{ℕ, ◌≤◌}
use native.Mathlib.Omega.{arith}
use lib.Dec.{eqb}
use lib.ListN.{length}
use borrow.Author.Tests.{eqb-true}
use Rattle.text_numbers.specs.Decimal.{digits_of, number_up_to}
use Rattle.text_numbers.proofs.Inverse.{none-some}
use Rattle.text_numbers.proofs.Limits.{number-up-to, digits-up-to}
use Rattle.text_keys.specs.Parts.{comma, first_of}
use Rattle.text_keys.proofs.Cuts.{digits-clear}
use Rattle.text_entries.specs.Entries.{on_first, pieces, following, joined, entries_text, each_number, entries_in}
use Rattle.text_entries.proofs.Cutting.{one_piece, first_piece}

-- ---- put together and taken apart

module _ (s : ℕ) where
  -- texts without s
  abbrev pub Clear : List (List ℕ) → Type 0
  Clear [] = Unit {0}
  Clear (p ∷ ps) = (first_of s p ≡ none) × Clear ps

  -- texts without s, of which there is one at least, are the pieces of what they are put together to
  pub pieces-joined : (p : List ℕ) (ps : List (List ℕ)) → Clear (p ∷ ps) → pieces s (joined s (p ∷ ps)) ≡ p ∷ ps
  unfolding joined following
  pieces-joined p [] c = ap (pieces s) (append-nil p) ∙ one_piece s p c.0
  pieces-joined p (q ∷ ps) c = first_piece s p (q ++ following s ps) c.0 ∙ ap (λ qs. p ∷ qs) (pieces-joined q ps c.1)

  -- one byte in front of the first text is one in front of all
  one-joined : (b : ℕ) (ps : List (List ℕ)) → joined s (on_first b ps) ≡ b ∷ joined s ps
  unfolding joined following
  one-joined b [] = refl
  one-joined b (p ∷ ps) = refl

  -- no text first puts s in front of the others, of which there is one at least
  none-joined : (ps : List (List ℕ)) → 1 ≤ length ps → joined s ([] ∷ ps) ≡ s ∷ joined s ps
  unfolding joined following
  none-joined [] h = absurd (omega arith)
  none-joined (p ∷ ps) h = refl

  -- there is a piece at least
  first_some : (b : ℕ) (ps : List (List ℕ)) → 1 ≤ length (on_first b ps)
  first_some b [] = omega arith
  first_some b (p ∷ ps) = omega arith

  pub some-piece : (t : List ℕ) → 1 ≤ length (pieces s t)
  unfolding pieces
  some-piece [] = omega arith
  some-piece (b ∷ t) = by (eqb b s)
    where
      by : (e : Bool) → 1 ≤ length (cond e ([] ∷ pieces s t) (on_first b (pieces s t)))
      by true = omega arith
      by false = first_some b (pieces s t)

  -- the pieces of a text put together are the text
  pub joined-pieces : (t : List ℕ) → joined s (pieces s t) ≡ t
  unfolding pieces joined following
  joined-pieces [] = refl
  joined-pieces (b ∷ t) = by (joined-pieces t) (eqb b s) refl
    where
      by : joined s (pieces s t) ≡ t → (e : Bool) → eqb b s ≡ e → joined s (cond e ([] ∷ pieces s t) (on_first b (pieces s t))) ≡ b ∷ t
      by back true q = none-joined (pieces s t) (some-piece t) ∙ (λ i. sym (eqb-true b s q) i ∷ back i)
      by back false q = one-joined b (pieces s t) ∙ ap (λ r. b ∷ r) back

-- ---- entries

-- entries up to `most`
abbrev pub EachUpTo : ℕ → List ℕ → Type 0
EachUpTo most [] = Unit {0}
EachUpTo most (n ∷ ns) = (n ≤ most) × EachUpTo most ns

-- no comma is in the texts of numbers
digits-apart : (ns : List ℕ) → Clear comma (map digits_of ns)
digits-apart [] = tt
digits-apart (n ∷ ns) = (digits-clear comma n (omega arith), digits-apart ns)

module _ (most : ℕ) where
  -- numbers are read back from their texts
  each_back : (ns : List ℕ) → EachUpTo most ns → each_number most (map digits_of ns) ≡ some ns
  unfolding each_number bind
  each_back [] h = refl
  each_back (n ∷ ns) h = rw (number-up-to most n h.0, each_back ns h.1)

  -- entries, of which there is one at least, are read back from their text
  pub entries-back : (ns : List ℕ) → 1 ≤ length ns → EachUpTo most ns → entries_in most (entries_text ns) ≡ some ns
  unfolding entries_in entries_text
  entries-back [] l h = absurd (omega arith)
  entries-back (n ∷ ns) l h =
      ap (each_number most) (pieces-joined comma (digits_of n) (map digits_of ns) (digits-apart (n ∷ ns))) ∙ each_back (n ∷ ns) h

  -- texts that are read as numbers are the texts of them
  abbrev Texts : List (List ℕ) → List ℕ → Type 0
  Texts ps ns = (ps ≡ map digits_of ns) × EachUpTo most ns

  text-more : (p : List ℕ) (ps : List (List ℕ)) (n : ℕ) (ms : List ℕ) → number_up_to most p ≡ some n → Texts ps ms → Texts (p ∷ ps) (n ∷ ms)
  text-more p ps n ms e h = let x = digits-up-to most p n e in (λ i. x.0 i ∷ h.0 i, (x.1, h.1))

  each-text : (ps : List (List ℕ)) (ns : List ℕ) → each_number most ps ≡ some ns → Texts ps ns
  unfolding each_number bind
  each-text [] ns e = let f : [] ≡ ns = cc in subst (Texts []) f (refl, tt)
  each-text (p ∷ ps) ns e = by (each-text ps) (number_up_to most p) refl (each_number most ps) refl e
    where
      by : ((ms : List ℕ) → each_number most ps ≡ some ms → Texts ps ms) → (o : Option ℕ) → number_up_to most p ≡ o → (r : Option (List ℕ))
          → each_number most ps ≡ r → bind o (λ n. Option.map (λ ms. n ∷ ms) r) ≡ some ns → Texts (p ∷ ps) ns
      by others none q r f e = absurd (none-some ns e)
      by others (some n) q none f e = absurd (none-some ns e)
      by others (some n) q (some ms) f e = let g : n ∷ ms ≡ ns = cc in subst (Texts (p ∷ ps)) g (text-more p ps n ms q (others ms f))

  -- a text that is read as entries is the text of them
  pub entries-text : (t ns : List ℕ) → entries_in most t ≡ some ns → (t ≡ entries_text ns) × EachUpTo most ns
  unfolding entries_in entries_text
  entries-text t ns e =
      let x = each-text (pieces comma t) ns e in
      (sym (joined-pieces comma t) ∙ ap (joined comma) x.0, x.1)
