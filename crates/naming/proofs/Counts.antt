-- The three counts, each put behind the one before: there is room for each, and then they are all put (`counts-put`).
-- Assumes nothing.
use mathlib.Core.Path.{refl}
use mathlib.Core.List.{List, ◌++◌}
use Prim.Native.Nat.{ℕ, ◌+◌, ◌≤◌}
use native.Mathlib.Omega.{arith}
use lib.ListN.{length}
use Rattle.text_numbers.specs.Decimal.{digits_of}
use Rattle.plan_lines.specs.Field.{field_text}
use Rattle.naming.specs.Text.{named_key, of_key, gaps_key, counts_text}
use Rattle.line_putting.specs.Putting.{Puts}
use Rattle.line_putting.proofs.Putting.{Going, going-first, going-room, going_on}

module _ (named of gaps : ℕ) (old : List ℕ) (room : length (counts_text named of gaps) ≤ length old) where
  -- their lines
  abbrev a : List ℕ
  a = field_text named_key (digits_of named)

  abbrev b : List ℕ
  b = field_text of_key (digits_of of)

  abbrev c : List ℕ
  c = field_text gaps_key (digits_of gaps)

  -- what is left of them
  abbrev Left : ℕ → List ℕ → List ℕ → Type 0
  Left at rest buf = Going 0 (counts_text named of gaps) old at rest buf

  start : Left 0 (a ++ (b ++ c)) old
  unfolding counts_text
  start = going-first 0 (counts_text named of gaps) old (omega (arith, room))

  pub named-room : 0 + length a ≤ length old
  named-room = going-room a (b ++ c) start refl

  module _ (i : ℕ) (x : List ℕ) (P : Puts 0 a old i x) where
    named_put : Left i (b ++ c) x
    named_put = going_on a (b ++ c) start refl P

    pub of_room : i + length b ≤ length x
    of_room = going-room b c named_put refl

    module _ (j : ℕ) (y : List ℕ) (Q : Puts i b x j y) where
      of-put : Left j c y
      of-put = going_on b c named_put refl Q

      pub gaps-room : j + length c ≤ length y
      gaps-room = of-put.room

      pub counts-put : (k : ℕ) (z : List ℕ) → Puts j c y k z → Puts 0 (counts_text named of gaps) old k z
      counts-put = of-put.comes
