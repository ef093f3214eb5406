-- A signed number by its sign. The code reads a signed value from its bits; `read z` is what it then has.
-- Assumes nothing.
use mathlib.Core.Path.{◌≡◌, refl, ap, sym, subst, ◌∙◌}
use mathlib.Core.Bool.{Bool, true, false, true≢false}
use Prim.Native.Nat.{ℕ, zero, suc, ◌+◌, ◌-◌}
use native.Mathlib.Numerals.{add-one}
use native.Mathlib.Omega.{arith}
use lib.Dec.{T, ltb}
use lib.IntN.{ℤ, pos, negsuc, nat_abs, ◌-ℤ◌}
use lib.Signed.{lt_z, non_neg}
use mir.Syntax.{w64}
use mir.Val.{Fits, SFits, to_z, of_z}
use mir.ValLaws.{to_z-of_z}
use borrow.Author.Tests.{le-ltb, ltb-true}
use Rattle.words.specs.Signs.{ahead, behind, Proper, by_sign, with_sign}
use Rattle.words.specs.declared.Signed.{Signed}

-- the number of a sign and a magnitude is the one that they were taken from
pub sign-back : (z : ℤ) → with_sign (by_sign z) ≡ z
sign-back (pos n) = refl
sign-back (negsuc n) = refl

-- and a sign and a magnitude that are not behind by 0 are those of their number
parts-by : (back : Bool) (n : ℕ) → let s : Signed = record { back = back; magnitude = n } in Proper s → by_sign (with_sign s) ≡ s
parts-by true zero p = absurd (omega (arith, p refl))
parts-by true (suc n) p = refl
parts-by false n p = refl

pub sign-parts : (s : Signed) → Proper s → by_sign (with_sign s) ≡ s
sign-parts s p = parts-by s.back s.magnitude p

-- the sign tells the number: one that goes on is its magnitude, one that goes back is behind by one or more
pub goes-on : {s : Signed} (z : ℤ) → s ≡ by_sign z → s.back ≡ false → pos s.magnitude ≡ z
goes-on (pos n) e b = ap (λ x. pos x.magnitude) e
goes-on (negsuc n) e b = absurd (true≢false (sym (ap (λ x. x.back) e) ∙ b))

pub record Back (s : Signed) (z : ℤ) : Type 0 where
  pub less : ℕ
  pub one_more : s.magnitude ≡ suc less
  pub is : negsuc less ≡ z

pub goes_back : {s : Signed} (z : ℤ) → s ≡ by_sign z → s.back ≡ true → Back s z
goes_back (pos n) e b = absurd (true≢false (sym b ∙ ap (λ x. x.back) e))
goes_back (negsuc n) e b = record { less = n; one_more = ap (λ x. x.magnitude) e; is = refl }

abbrev read : ℤ → ℤ
read z = to_z w64 (of_z w64 z)

-- -1 - (-(m + 1)) is m
gap : (m : ℕ) → negsuc 0 -ℤ negsuc m ≡ pos m
gap m =
    let a : ltb (suc m) 1 ≡ false = le-ltb (suc m) 1 (omega arith) in
    let b : suc m - 1 ≡ m = omega arith in
    rw (a, b)

-- what the code has of z, where x is z as it was read: a number of 63 bits, from which z follows
record Parts (z x : ℤ) (made : ℕ → ℤ) : Type 0 where
  steps : ℕ
  half : SFits w64 (pos steps)
  from : x ≡ made steps
  is : made steps ≡ z

when-behind : (z x : ℤ) → SFits w64 z → x ≡ z → lt_z x (pos 0) ≡ true → Parts z x negsuc
when-behind (pos n) x f e t = let u : ltb n 0 ≡ true = ap (λ (y : ℤ). lt_z y (pos 0)) (sym e) ∙ t in absurd (omega (arith, ltb-true))
when-behind (negsuc m) x f e t = record { steps = m; half = record { sfits = f.sfits }; from = e; is = refl }

when-ahead : (z x : ℤ) → SFits w64 z → x ≡ z → lt_z x (pos 0) ≡ false → Parts z x pos
when-ahead (pos n) x f e t = record { steps = n; half = f; from = e; is = refl }
when-ahead (negsuc m) x f e t =
    let u : true ≡ false = ap (λ (y : ℤ). lt_z y (pos 0)) (sym e) ∙ t in
    absurd (true≢false (cc))

-- a number of 63 bits is cast as it is
cast : (x : ℤ) (m : ℕ) → SFits w64 (pos m) → x ≡ pos m → T (non_neg x) × Fits w64 (nat_abs x)
cast x m f e = subst (λ (y : ℤ). T (non_neg y) × Fits w64 (nat_abs y)) (sym e) (tt, omega (arith, f.sfits))

module _ (z : ℤ) (f : SFits w64 z) where
  module _ (t : lt_z (read z) (pos 0) ≡ true) where
    b : Parts z (read z) negsuc
    b = when-behind z (read z) f (to_z-of_z w64 z f) t

    -- the difference is the number of steps
    less : negsuc 0 -ℤ read z ≡ pos b.steps
    less = ap (λ (y : ℤ). negsuc 0 -ℤ y) b.from ∙ gap b.steps

    pub behind-sub : SFits w64 (negsuc 0 -ℤ read z)
    behind-sub = subst (λ (y : ℤ). SFits w64 y) (sym less) b.half

    differs : read (negsuc 0 -ℤ read z) ≡ pos b.steps
    differs = ap read less ∙ to_z-of_z w64 (pos b.steps) b.half

    pub behind-cast : T (non_neg (read (negsuc 0 -ℤ read z))) × Fits w64 (nat_abs (read (negsuc 0 -ℤ read z)))
    behind-cast = cast (read (negsuc 0 -ℤ read z)) b.steps b.half differs

    -- one more is its magnitude, which fits as well
    pub behind_more : Fits w64 (nat_abs (read (negsuc 0 -ℤ read z)) + 1)
    behind_more = subst (λ (y : ℤ). Fits w64 (nat_abs y + 1)) (sym differs) (record { fits = omega (arith, b.half.sfits) })

    pub behind-is : behind (nat_abs (read (negsuc 0 -ℤ read z)) + 1) ≡ by_sign z
    behind-is = ap (λ (y : ℤ). behind (nat_abs y + 1)) differs ∙ ap behind (add-one b.steps) ∙ ap by_sign b.is

  module _ (t : lt_z (read z) (pos 0) ≡ false) where
    a : Parts z (read z) pos
    a = when-ahead z (read z) f (to_z-of_z w64 z f) t

    pub ahead-cast : T (non_neg (read z)) × Fits w64 (nat_abs (read z))
    ahead-cast = cast (read z) a.steps a.half a.from

    pub ahead-is : ahead (nat_abs (read z)) ≡ by_sign z
    ahead-is = ap (λ (y : ℤ). ahead (nat_abs y)) a.from ∙ ap by_sign a.is
