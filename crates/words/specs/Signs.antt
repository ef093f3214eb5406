-- A number by its sign: ahead of 0 or behind it, with its magnitude as people read it.
-- Assumes nothing.
use Rattle.std.specs.Prelude.{ℕ, suc, ◌≤◌, ◌≡◌, true, cond, false, ℤ, pos, negsuc, neg_ℤ}
use Rattle.words.specs.declared.Signed.{Signed}

-- ahead by n, and behind by n
abbrev pub ahead : ℕ → Signed
ahead n = record { back = false; magnitude = n }

abbrev pub behind : ℕ → Signed
behind n = record { back = true; magnitude = n }

-- nothing is behind by 0
abbrev pub Proper : Signed → Type 0
Proper s = s.back ≡ true → 1 ≤ s.magnitude

-- k by its sign
abbrev pub by_sign : ℤ → Signed
by_sign (pos n) = ahead n
by_sign (negsuc n) = behind (suc n)

-- the magnitude of the lowest signed number of 64 bits, 2^63; those ahead are below it
abbrev pub signed_limit : ℕ
signed_limit = 9223372036854775808

-- the number that a sign and a magnitude are
abbrev pub with_sign : Signed → ℤ
with_sign s = cond s.back (neg_ℤ (pos s.magnitude)) (pos s.magnitude)
