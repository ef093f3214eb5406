-- Entries put one behind the other: the first with none before it, and then each with a comma before it, until none is left.
-- Assumes nothing.
use mathlib.Core.Path.{◌≡◌, refl, sym, ap, ◌∙◌}
use mathlib.Core.List.{List, [], ◌∷◌, ◌++◌, map}
use Prim.Native.Nat.{ℕ, ◌+◌, ◌≤◌, ◌<◌}
use native.Mathlib.Numerals.{add-one}
use native.Mathlib.Omega.{arith}
use lib.ListN.{length, get_or, drop_of_length-le}
use lib.Seq.{drop-cons}
use Rattle.text_numbers.specs.Decimal.{digits_of}
use Rattle.text_keys.specs.Parts.{comma}
use Rattle.text_entries.specs.Entries.{following, joined, entries_text}
use Rattle.line_putting.specs.Putting.{Puts}
use Rattle.line_putting.proofs.Putting.{Going, going-first, going-room, going_on, going-over}
use Rattle.translating_names.specs.Pieces.{rest_text}

-- entry k with its comma
abbrev entry_text : List ℕ → ℕ → List ℕ
entry_text p k = (comma ∷ []) ++ digits_of (get_or p k 0)

-- it comes first of the entries from it on
rest-next : (p : List ℕ) (k : ℕ) → k < length p → rest_text p k ≡ entry_text p k ++ rest_text p (k + 1)
unfolding following
rest-next p k h =
    ap (λ q. following comma (map digits_of q)) (drop-cons p k 0 h) ∙ ap (λ j. comma ∷ (digits_of (get_or p k 0) ++ rest_text p j)) (sym (add-one k))

-- and past the last there is none
rest-none : (p : List ℕ) (k : ℕ) → length p ≤ k → rest_text p k ≡ []
unfolding following
rest-none p k h = ap (λ q. following comma (map digits_of q)) (drop_of_length-le p h)

-- ---- the loop: entries from k on are still to be put

module _ (p : List ℕ) (from : ℕ) (old : List ℕ) (at k : ℕ) (buf : List ℕ) (G : Going from (rest_text p 1) old at (rest_text p k) buf) where
  module _ (h : k < length p) where
    pub entry-room : at + length (entry_text p k) ≤ length buf
    entry-room = going-room (entry_text p k) (rest_text p (k + 1)) G (rest-next p k h)

    pub entry-on : (after : ℕ) (b : List ℕ) → Puts at (entry_text p k) buf after b → Going from (rest_text p 1) old after (rest_text p (k + 1)) b
    entry-on after b P = going_on (entry_text p k) (rest_text p (k + 1)) G (rest-next p k h) P

  pub entries_over : length p ≤ k → Puts from (rest_text p 1) old at buf
  entries_over h = going-over G (rest-none p k h)

-- ---- all of them: the first has no comma before it

all_first : (p : List ℕ) → 1 ≤ length p → entries_text p ≡ digits_of (get_or p 0 0) ++ rest_text p 1
unfolding entries_text joined
all_first [] h = absurd (omega arith)
all_first (x ∷ p) h = refl

module _ (p : List ℕ) (from : ℕ) (old : List ℕ) (some : 1 ≤ length p) (room : from + length (entries_text p) ≤ length old) where
  start : Going from (entries_text p) old from (entries_text p) old
  start = going-first from (entries_text p) old room

  pub first-room : from + length (digits_of (get_or p 0 0)) ≤ length old
  first-room = going-room (digits_of (get_or p 0 0)) (rest_text p 1) start (all_first p some)

  module _ (at : ℕ) (buf : List ℕ) (P : Puts from (digits_of (get_or p 0 0)) old at buf) where
    after : Going from (entries_text p) old at (rest_text p 1) buf
    after = going_on (digits_of (get_or p 0 0)) (rest_text p 1) start (all_first p some) P

    pub rest-room : at + length (rest_text p 1) ≤ length buf
    rest-room = after.room

    pub all-entries : (end : ℕ) (left : List ℕ) → Puts at (rest_text p 1) buf end left → Puts from (entries_text p) old end left
    all-entries = after.comes
