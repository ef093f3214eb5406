-- Numbers from 1 to n, and the few ways in which the list changes one of them.
-- Assumes nothing.
use Rattle.std.specs.Prelude.{ℕ, zero, suc, ◌≤◌, Bool, false, not, cond, eqb, leb, ltb}

-- x is one of 1, 2, .., n: a jack or a port of a panel with n of each
abbrev pub Among : ℕ → ℕ → Type 0
Among n x = (1 ≤ x) × (x ≤ n)

-- the number before x, and 0 for 0
abbrev pub before : ℕ → ℕ
before zero = zero
before (suc x) = x

-- x where j is a, else y
unfoldable pub is : ℕ → ℕ → ℕ → ℕ → ℕ
is j a x y = cond (eqb j a) x y

-- b for a, and any other value as it is
unfoldable pub trade : ℕ → ℕ → ℕ → ℕ
trade a b v = is v a b v

-- one more from i on: room is made for i
unfoldable pub raise : ℕ → ℕ → ℕ
raise i v = cond (leb i v) (suc v) v

-- one less above i: the room at i is closed
unfoldable pub lower : ℕ → ℕ → ℕ
lower i v = cond (ltb i v) (before v) v

-- whether x is odd
unfoldable pub odd : ℕ → Bool
odd zero = false
odd (suc x) = not (odd x)
