-- A text by the first byte that parts it: what stands before it is the first piece, and what stands after it the others (`pieces-cut`). What the reader may
-- conclude of an entry with none after it (`last_entry`) and of one with others (`more-entries`).
-- Assumes nothing.
use mathlib.Core.Path.{◌≡◌, refl, sym, ap, ◌∙◌}
use mathlib.Core.Bool.{Bool, true, false, cond}
use mathlib.Core.List.{List, [], ◌∷◌, ◌++◌}
use mathlib.Core.Option.{Option, none, some, bind}
use Prim.Native.Nat.{ℕ, suc, ◌+◌, ◌<◌}
use native.Mathlib.Omega.{arith}
use lib.Dec.{eqb}
use lib.ListN.{length, take, drop, length-drop}
use lib.Seq.{drop-drop}
use Rattle.text_numbers.specs.Decimal.{number_up_to}
use Rattle.text_numbers.specs.Answers.{read_is}
use Rattle.text_keys.specs.Parts.{comma, later, first_of, Parts, around, cut}
use Rattle.text_keys.proofs.Cuts.{cut-joined, first-inside}
use Rattle.text_entries.specs.Entries.{on_first, pieces, each_number, entries_in, first_bad, bad_entry}
use Rattle.text_entries.specs.Pieces.{EntryOf, last_of, more_of}
use Rattle.std.specs.declared.option.Option.{Option as Maybe}
use Rattle.std.specs.declared.option.Option.TheVariants.{Some, None}

-- ---- the first byte that parts

module _ (s : ℕ) where
  -- a text that is whole, or cut at its first byte s and the rest cut again
  abbrev pub parted : List ℕ → Option Parts → List (List ℕ)
  parted t none = t ∷ []
  parted t (some p) = p.front ∷ pieces s p.rest

  -- one byte in front
  one-before : (x : ℕ) (t : List ℕ) (o : Option ℕ) → on_first x (parted t (around t o)) ≡ parted (x ∷ t) (around (x ∷ t) (later o))
  one-before x t none = refl
  one-before x t (some k) = refl

  -- the texts between the bytes s are what cutting at the first of them again and again gives
  pub pieces-cut : (t : List ℕ) → pieces s t ≡ parted t (cut s t)
  unfolding pieces first_of
  pieces-cut [] = refl
  pieces-cut (x ∷ t) = by (pieces-cut t) (eqb x s)
    where
      by : pieces s t ≡ parted t (cut s t) → (b : Bool)
          → cond b ([] ∷ pieces s t) (on_first x (pieces s t)) ≡ parted (x ∷ t) (around (x ∷ t) (cond b (some 0) (later (first_of s t))))
      by later-cut true = refl
      by later-cut false = ap (on_first x) later-cut ∙ one-before x t (first_of s t)

  -- a text without s is one piece, and with s and more after it the first of several
  pub one_piece : (t : List ℕ) → first_of s t ≡ none → pieces s t ≡ t ∷ []
  one_piece t e = pieces-cut t ∙ ap (λ o. parted t (around t o)) e

  pub first_piece : (p t : List ℕ) → first_of s p ≡ none → pieces s (p ++ (s ∷ t)) ≡ p ∷ pieces s t
  first_piece p t e = pieces-cut (p ++ (s ∷ t)) ∙ ap (parted (p ++ (s ∷ t))) (cut-joined s p t e)

-- ---- one entry

module _ (t : List ℕ) (at : ℕ) (k : ℕ) (e : some k ≡ first_of comma (drop at t)) where
  -- the comma after it stands inside the text
  pub comma-inside : at + k < length t
  comma-inside = omega (arith, first-inside comma (drop at t) k (sym e), length-drop at t)

  -- and the others begin after that
  others-after : pieces comma (drop at t) ≡ take k (drop at t) ∷ pieces comma (drop (at + k + 1) t)
  others-after =
      let next : at + suc k ≡ at + k + 1 = omega arith in
      pieces-cut comma (drop at t) ∙ ap (λ o. parted comma (drop at t) (around (drop at t) o)) (sym e)
      ∙ ap (λ r. take k (drop at t) ∷ pieces comma r) (drop-drop (suc k) at t ∙ ap (λ j. drop j t) next)

module _ (most : ℕ) (t : List ℕ) (at : ℕ) where
  -- the last one
  pub last_entry : (r : Maybe ℕ) → none ≡ first_of comma (drop at t) → read_is r ≡ number_up_to most (drop at t) → EntryOf most t at (last_of r)
  unfolding entries_in each_number bind bad_entry first_bad
  last_entry (Some n) e f =
      let p = one_piece comma (drop at t) (sym e) in
      record { entries = rw (p, ← f); bad = rw (p, ← f); within = tt }
  last_entry None e f =
      let p = one_piece comma (drop at t) (sym e) in
      record { entries = rw (p, ← f); bad = rw (p, ← f); within = tt }

  -- one with others after its comma
  pub more-entries : (k : ℕ) (r : Maybe ℕ) → some k ≡ first_of comma (drop at t) → read_is r ≡ number_up_to most (take k (drop at t))
      → EntryOf most t at (more_of (at + k + 1) r)
  unfolding entries_in each_number bind bad_entry first_bad
  more-entries k (Some n) e f =
      let p = others-after t at k e in
      record { entries = rw (p, ← f); bad = rw (p, ← f); within = (omega arith, omega (arith, comma-inside t at k e)) }
  more-entries k None e f =
      let p = others-after t at k e in
      record { entries = rw (p, ← f); bad = rw (p, ← f); within = tt }
