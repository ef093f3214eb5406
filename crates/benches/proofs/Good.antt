-- A share of bench 0 that was not refused has good ports and good benches.
-- Assumes nothing.
use mathlib.Core.Path.{◌≡◌, sym}
use Prim.Native.Nat.{ℕ}
use Rattle.std.proofs.Common.{Option, Some, None, Ok}
use Rattle.words.specs.declared.Leg.{Leg}
use Rattle.benches_laws.specs.Calls.{Good, share_of}
use Rattle.benches_laws.proofs.Told.{share-good}
use Rattle.benches_calls.specs.Answers.{share_told}

pub shared-good : (n k b : ℕ) (x : Option Leg) → share_told (Ok x) ≡ share_of n k b → Good n k
shared-good n k b (Some l) e = share-good n k b _ (sym e)
shared-good n k b None e = share-good n k b _ (sym e)
