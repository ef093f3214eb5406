-- The parts of a line of names, each put behind the one before: there is room for each, and then the line is put (`names-put`).
-- Assumes nothing.
use mathlib.Core.Path.{◌≡◌, refl}
use mathlib.Core.List.{List, [], ◌∷◌, ◌++◌}
use Prim.Native.Nat.{ℕ, ◌+◌, ◌≤◌}
use native.Mathlib.Omega.{arith}
use lib.ListN.{length}
use Rattle.text_numbers.specs.Decimal.{digits_of}
use Rattle.text_keys.specs.Parts.{newline}
use Rattle.text_entries.specs.Entries.{entries_text}
use Rattle.line_format.specs.Calls.{over}
use Rattle.line_putting.specs.Putting.{Puts}
use Rattle.line_putting.proofs.Putting.{Going, going-first, going-room, going_on, puts-front}
use Rattle.translating.specs.Names.{Named, rank_key, number_key, pattern_key, space, names_text}

module _ (x : Named) (old : List ℕ) (room : length (names_text x) ≤ length old) where
  -- the parts, and those that come after each
  abbrev a : List ℕ
  a = rank_key ++ digits_of x.rank

  abbrev b : List ℕ
  b = (space ∷ number_key) ++ digits_of x.number

  abbrev c : List ℕ
  c = space ∷ pattern_key

  abbrev d : List ℕ
  d = entries_text x.pattern

  abbrev e : List ℕ
  e = newline ∷ []

  -- what is left of them
  abbrev Left : ℕ → List ℕ → List ℕ → Type 0
  Left at rest buf = Going 0 (names_text x) old at rest buf

  start : Left 0 (a ++ (b ++ (c ++ (d ++ e)))) old
  unfolding names_text
  start = going-first 0 (names_text x) old (omega (arith, room))

  pub rank_room : 0 + length a ≤ length old
  rank_room = going-room a (b ++ (c ++ (d ++ e))) start refl

  module _ (i : ℕ) (u : List ℕ) (P : Puts 0 a old i u) where
    rank-put : Left i (b ++ (c ++ (d ++ e))) u
    rank-put = going_on a (b ++ (c ++ (d ++ e))) start refl P

    pub number-room : i + length b ≤ length u
    number-room = going-room b (c ++ (d ++ e)) rank-put refl

    module _ (j : ℕ) (v : List ℕ) (Q : Puts i b u j v) where
      number_put : Left j (c ++ (d ++ e)) v
      number_put = going_on b (c ++ (d ++ e)) rank-put refl Q

      pub key-room : j + length c ≤ length v
      key-room = going-room c (d ++ e) number_put refl

      module _ (k : ℕ) (w : List ℕ) (R : Puts j c v k w) where
        key-put : Left k (d ++ e) w
        key-put = going_on c (d ++ e) number_put refl R

        pub entries-room : k + length d ≤ length w
        entries-room = going-room d e key-put refl

        module _ (l : ℕ) (y : List ℕ) (S : Puts k d w l y) where
          entries-put : Left l e y
          entries-put = going_on d e key-put refl S

          pub newline-room : l + length e ≤ length y
          newline-room = entries-put.room

          pub names-put : (m : ℕ) (z : List ℕ) → Puts l e y m z → (m ≡ length (names_text x)) × (z ≡ over (names_text x) old)
          names-put m z T = puts-front (names_text x) old m z (entries-put.comes m z T)
