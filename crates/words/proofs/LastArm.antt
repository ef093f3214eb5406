-- The last arm of a match on a number: a number that is none of those of the arms before, and not above the last, is the last.
-- Assumes nothing.
use mathlib.Core.Path.{◌≡◌}
use Prim.Native.Nat.{ℕ, zero, suc, ◌+◌, ◌≤◌}
use native.Mathlib.Omega.{arith}

-- n is none of the k numbers from a on
abbrev pub NoneFrom : ℕ → ℕ → ℕ → Type 0
NoneFrom a zero n = Unit {0}
NoneFrom a (suc k) n = NoneFrom a k n × (n ≡ a + k → ⊥)

-- so, from a on, it is past them
pub past : (a k n : ℕ) → NoneFrom a k n → a ≤ n → a + k ≤ n
past a zero n none h = omega arith
past a (suc k) n none h = let le = past a k n none.0 h in let ne = none.1 in omega arith

-- and if it is not above the next, it is the next
pub last_arm : (a k n : ℕ) → NoneFrom a k n → a ≤ n → n ≤ a + k → n ≡ a + k
last_arm a k n none h most = let le = past a k n none h in omega arith
