-- `raise` by cases: room is made for i.
-- Assumes nothing.
use mathlib.Core.Path.{◌≡◌}
use mathlib.Core.Logic.{◌⊎◌, inl, inr}
use Prim.Native.Nat.{ℕ, suc, ◌≤◌, ◌<◌}
use native.Mathlib.Omega.{arith}
use lib.Dec.{leb}
use borrow.Author.Tests.{leb-true, leb-false}
use Rattle.listing.specs.Numbers.{raise}
use Rattle.listing.proofs.Tests.{either, test}

pub raise-cases : (i v : ℕ) → ((v < i) × (raise i v ≡ v)) ⊎ ((i ≤ v) × (raise i v ≡ suc v))
unfolding raise
raise-cases i v = either (test (leb i v)) (λ e. inr (leb-true i v e, rw e)) (λ e. inl (leb-false i v e, rw e))
