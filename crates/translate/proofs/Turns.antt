-- What is held fits the buffer, and no more lines have gone by than it has bytes (`holds-turn`).
-- Assumes nothing.
use mathlib.Core.Path.{sym, subst}
use Prim.Native.Nat.{ℕ, ◌+◌, ◌≤◌}
use native.Mathlib.Omega.{arith}
use Rattle.translating.specs.Lines.{SoFar}
use Rattle.translate.specs.Turns.{HoldsIs, TurnIs}
use Rattle.std.proofs.Common.{Option, Some, None}
use Rattle.translate.specs.declared.Held.{Held}

pub holds-turn : (room line left ports row : ℕ) → SoFar ports → left ≤ room → row ≤ line + room → (r : Option Held) → HoldsIs left ports row r → TurnIs room line r
holds-turn room line left ports row known a b (Some h) H = (subst SoFar (sym H.1) known, omega (arith, H.0), omega (arith, H.2))
holds-turn room line left ports row known a b None H = tt
