-- One line and nothing after it: what is concluded of a text by its first newline, and by the bytes after that.
-- Assumes nothing.
use mathlib.Core.Path.{◌≡◌}
use mathlib.Core.List.{List}
use mathlib.Core.Option.{none, some}
use Prim.Native.Nat.{ℕ, suc, ◌+◌, ◌≤◌, ◌<◌}
use native.Mathlib.Omega.{arith}
use lib.ListN.{length, take, drop, length-drop}
use borrow.Author.Tests.{le-leb, lt-leb}
use Rattle.words.specs.Told.{accepted, refused, nowhere}
use Rattle.text_keys.specs.Parts.{newline, first_of}
use Rattle.text_entries.specs.Entries.{one_line}

module _ (t : List ℕ) where
  -- there is no newline
  pub no_line : none ≡ first_of newline t → refused 11 nowhere ≡ one_line t
  unfolding one_line
  no_line e = rw (← e)

  module _ (k : ℕ) (e : some k ≡ first_of newline t) where
    -- a byte comes after it
    pub goes-on : k + 1 < length t → refused 11 nowhere ≡ one_line t
    unfolding one_line
    goes-on h = rw (← e, lt-leb (length (drop (suc k) t)) 0 (omega (arith, length-drop (suc k) t)))

    -- none does: the line is what stands before it
    pub one-line : length t ≤ k + 1 → accepted (take k t) ≡ one_line t
    unfolding one_line
    one-line h = rw (← e, le-leb (length (drop (suc k) t)) 0 (omega (arith, length-drop (suc k) t)))
