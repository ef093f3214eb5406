-- A sign and a magnitude below 2^63 put together: the number is one of 64 bits, and is stored as it is.
-- Assumes nothing.
use mathlib.Core.Path.{◌≡◌, sym, ap, subst, ◌∙◌}
use mathlib.Core.Bool.{Bool, true, false}
use Prim.Native.Nat.{ℕ, zero, suc, ◌<◌}
use native.Mathlib.Omega.{arith}
use lib.IntN.{pos, neg_ℤ, ◌-ℤ◌, +ℤ_idl}
use mir.Syntax.{w64}
use mir.Val.{SFits, to_z, of_z}
use mir.ValLaws.{to_z_pos, to_z-of_z}
use Rattle.words.specs.Signs.{ahead, behind, signed_limit, with_sign}
use Rattle.words.specs.declared.Signed.{Signed}

-- what lies as far behind 0 is a signed number of 64 bits
pub behind-fits : (m : ℕ) → m < signed_limit → SFits w64 (neg_ℤ (pos m))
behind-fits zero h = record { sfits = h }
behind-fits (suc n) h = record { sfits = omega arith }

module _ (m : ℕ) (h : m < signed_limit) where
  -- the magnitude as a signed number
  pub ahead-is : to_z w64 m ≡ with_sign (ahead m)
  ahead-is = to_z_pos w64 m h

  -- 0 less the magnitude
  less : pos 0 -ℤ to_z w64 m ≡ neg_ℤ (pos m)
  less = ap (λ z. pos 0 -ℤ z) ahead-is ∙ +ℤ_idl (neg_ℤ (pos m))

  pub behind-sub : SFits w64 (pos 0 -ℤ to_z w64 m)
  behind-sub = subst (SFits w64) (sym less) (behind-fits m h)

  pub behind-is : to_z w64 (of_z w64 (pos 0 -ℤ to_z w64 m)) ≡ with_sign (behind m)
  behind-is = ap (λ z. to_z w64 (of_z w64 z)) less ∙ to_z-of_z w64 (neg_ℤ (pos m)) (behind-fits m h)

  stored-by : (back : Bool) → let s : Signed = record { back = back; magnitude = m } in to_z w64 (of_z w64 (with_sign s)) ≡ with_sign s
  stored-by true = to_z-of_z w64 (neg_ℤ (pos m)) (behind-fits m h)
  stored-by false = ahead-is

-- it is stored as it is
pub stored : (s : Signed) → s.magnitude < signed_limit → to_z w64 (of_z w64 (with_sign s)) ≡ with_sign s
stored s h = stored-by s.magnitude h s.back
