-- Two counts that make up a number, compared without their sum.
-- Assumes nothing.
use mathlib.Core.Path.{◌≡◌, sym, ◌∙◌}
use mathlib.Core.Bool.{false}
use Prim.Native.Nat.{ℕ, ◌+◌, ◌-◌, ◌≤◌, ◌<◌}
use native.Mathlib.Omega.{arith}
use lib.Dec.{eqb}
use borrow.Author.Tests.{eq-eqb, ne_eqb}
use Rattle.listing.proofs.Numbers.{either, same?}

-- more are covered than there are marks (m: the marks)
pub too_many : (m closed covered opened : ℕ) → m ≡ closed → m < covered → false ≡ eqb (covered + opened) closed
too_many m closed covered opened e h = sym (ne_eqb (covered + opened) closed (λ q. absurd (omega arith)))

-- as many are open as covered leaves
pub as_many : (m closed covered opened : ℕ) → m ≡ closed → covered ≤ m → eqb opened (m - covered) ≡ eqb (covered + opened) closed
as_many m closed covered opened e h =
    either (same? opened (m - covered))
    (λ q. let r : covered + opened ≡ closed = omega arith in eq-eqb opened (m - covered) q ∙ sym (eq-eqb (covered + opened) closed r))
    (λ q. ne_eqb opened (m - covered) q ∙ sym (ne_eqb (covered + opened) closed (λ r. q (omega arith))))
