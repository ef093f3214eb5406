-- `face_state::plan_in` stores the start and the run of one leg more at each turn.
-- Assumes nothing.
use mathlib.Core.Path.{refl, ap, ◌∙◌}
use mathlib.Core.List.{map-id}
use Prim.Native.Nat.{ℕ, ◌+◌}
use native.Mathlib.Omega.{arith}
use lib.ListN.{get_or}
use mir.Syntax.{w64}
use mir.Val.{to_z, of_z}
use mir.ValLaws.{to_z-of_z}
use borrow.Author.Rules.{rules}
use Rattle.listing.specs.Limits.{most_legs}
use Rattle.face_state.specs.States.{starts_place, runs_place, run_in, words_at}
use Rattle.face_state.proofs.Parts.{part-stored, part-all}
use Rattle.face_state.proofs.Runs.{run_fits}
use Rattle.face_state.proofs.StateWords.{plan-of}
use Rattle.face_state.proofs.plan_in.Goals as goal

-- a word as it is
abbrev same : ℕ → ℕ
same w = w

pub loop-i-preserved : goal.loop-i-preserved
loop-i-preserved c =
    let w = get_or c.args.words.now (runs_place + c.loop-i.i) 0 in
    let fits = run_fits w (omega (arith, c.type_inv.words (runs_place + c.loop-i.i))) in (
      search rules,
      c.loop-i.invariant.1,
      search rules,
      search rules,
      part-stored same c.args.words.now starts_place c.loop-i.starts c.loop-i.i _ (omega arith) (omega arith) c.loop-i.invariant.4 refl,
      part-stored run_in c.args.words.now runs_place c.loop-i.runs c.loop-i.i _ (omega arith) (omega arith) c.loop-i.invariant.5
          (ap (λ z. to_z w64 (of_z w64 z)) c.run_in.ensures ∙ to_z-of_z w64 (run_in w) fits),
    )

pub returns : goal.returns
returns c =
    plan-of c.args.words.now
    (part-all same c.args.words.now starts_place c.loop-i.starts c.loop-i.i most_legs c.loop-i.invariant.4 (omega arith) (omega arith) ∙ map-id (words_at c.args.words.now starts_place most_legs))
    (part-all run_in c.args.words.now runs_place c.loop-i.runs c.loop-i.i most_legs c.loop-i.invariant.5 (omega arith) (omega arith))
