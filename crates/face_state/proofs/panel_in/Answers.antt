-- `face_state::panel_in` stores one word more at each turn.
-- Assumes nothing.
use mathlib.Core.Path.{refl, ◌∙◌}
use mathlib.Core.List.{map-id}
use Prim.Native.Nat.{ℕ}
use native.Mathlib.Omega.{arith}
use borrow.Author.Rules.{rules}
use Rattle.listing.specs.Limits.{most_ports}
use Rattle.face_state.specs.States.{panel_place, words_at}
use Rattle.face_state.proofs.Parts.{part-stored, part-all}
use Rattle.face_state.proofs.panel_in.Goals as goal

pub loop-i-preserved : goal.loop-i-preserved
loop-i-preserved c = (
  search rules,
  c.loop-i.invariant.1,
  search rules,
  part-stored (λ (w : ℕ). w) c.args.words.now panel_place c.loop-i.panel c.loop-i.i _ (omega arith) (omega arith) c.loop-i.invariant.3 refl,
)

pub returns : goal.returns
returns c =
    part-all (λ (w : ℕ). w) c.args.words.now panel_place c.loop-i.panel c.loop-i.i most_ports c.loop-i.invariant.3 (omega arith) (omega arith)
    ∙ map-id (words_at c.args.words.now panel_place most_ports)
