-- A swap on a panel as the code makes it: two stores at the places below the jacks.
-- Assumes nothing.
use mathlib.Core.Path.{◌≡◌}
use mathlib.Core.Logic.{◌≢◌}
use mathlib.Core.List.{List}
use Prim.Native.Nat.{ℕ, zero, suc, ◌-◌}
use native.Mathlib.Omega.{arith}
use lib.ListN.{length, get_or, set}
use Rattle.listing.specs.Numbers.{Among}
use Rattle.listing.specs.Orders.{swap, carry}
use Rattle.listing.proofs.Moves.{swap-stores}

-- jack a gets what jack b held, and jack b what jack a held
pub jacks-swapped : (a b : ℕ) (p : List ℕ) → Among (length p) a → Among (length p) b → a ≢ b
    → set (set p (a - 1) (get_or p (b - 1) 0)) (b - 1) (get_or p (a - 1) 0) ≡ carry (swap a b) p
jacks-swapped zero b p ha hb ne = absurd (omega arith)
jacks-swapped (suc a) zero p ha hb ne = absurd (omega arith)
jacks-swapped (suc a) (suc b) p ha hb ne =
    let ea : suc a - 1 ≡ a = omega arith in
    let eb : suc b - 1 ≡ b = omega arith in
    rw (ea, eb, swap-stores a b p (omega arith) (omega arith) (omega arith))
