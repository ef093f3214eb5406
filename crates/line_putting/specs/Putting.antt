-- A text put into a buffer from a place on.
-- Assumes nothing.
use Rattle.std.specs.Prelude.{ℕ, ◌+◌, ◌≡◌, List, ◌++◌, length, take, drop}
use Rattle.line_format.specs.Calls.{over}

-- a text put into a buffer from a place on: the place after it, and the bytes left
pub record Puts (at : ℕ) (t buf : List ℕ) (after : ℕ) (left : List ℕ) : Type 0 where
  pub place : after ≡ at + length t
  pub bytes : left ≡ take at buf ++ over t (drop at buf)
