-- `plans::reading::read_legs`: the legs read so far stand in the first places, and the text from `at` on decides.
use mathlib.Core.Path.{◌≡◌, sym, ap, ◌∙◌}
use Prim.Native.Nat.{◌<◌}
use native.Mathlib.Omega.{arith}
use lib.ListN.{length-drop}
use mir.Syntax.{w64}
use mir.Val.{to_z, of_z}
use Rattle.std.proofs.lemmas.Result.{err_from_is_err_and}
use Rattle.listing.specs.Limits.{most_legs, largest64}
use Rattle.listing.proofs.Limits.{count_most}
use Rattle.words.specs.Meaning.{refusal_of}
use Rattle.plan_rules.specs.Planned.{run_of}
use Rattle.plan_rules.specs.Rules.{leg_is}
use Rattle.plans.proofs.Legs.{leg-accepted}
use Rattle.words.specs.Signs.{signed_limit}
use Rattle.words.proofs.WithSign.{stored}
use Rattle.plans.proofs.Turns.{read_more, leg-refused, byte-after, plan-read}
use Rattle.plans.proofs.reading.read_legs.Goals as goal
use Rattle.plans.proofs.reading.read_legs.Goals.{In_ok-leg}

-- the run that was read is below the count, so below 2^63
below : (c : In_ok-leg) → c.in_ok-leg.leg.run < signed_limit
below c =
    omega (arith, (leg-accepted largest64 _ _ _ _ (sym c.in_ok-leg.ensures.told)).fits.run, c.count_of-count.ensures, count_most c.args.ports c.requires.2)

pub returns-in_err-leg : goal.returns-in_err-leg
returns-in_err-leg c =
    let p = err_from_is_err_and c.from_residual.result c.from_residual.ensures.1 in
    rw (p.1, p.2)
    (leg-refused largest64 _ most_legs c.args.legs 3 _ _ _ _ c.loop-done.done c.loop-done.invariant.1 c.args.ports _ c.count_of-count.ensures _ _ (omega arith) c.in_err-leg.ensures.told)

pub with_sign-requires : goal.with_sign-requires
with_sign-requires c = below (goal.at.with_sign-requires c).In_ok-leg

pub loop-done-preserved : goal.loop-done-preserved
loop-done-preserved c = (
  c.in_ok-leg.ensures.within,
  read_more largest64 _ most_legs c.args.legs 3 _ _ _ _ c.loop-done.done c.loop-done.invariant.1 _ _ (omega arith)
      (omega (arith, c.requires.3)) c.in_ok-leg.ensures.told
      (ap (λ z. to_z w64 (of_z w64 z)) c.with_sign.ensures ∙ stored (run_of (leg_is c.in_ok-leg.leg)) (below (goal.at.loop-done-preserved c).In_ok-leg)),
)

pub returns-then-at-text : goal.returns-then-at-text
returns-then-at-text c =
    let end : c.loop-done.done ≡ c.args.legs = omega arith in
    ap refusal_of c.at_line.ensures
    ∙ byte-after largest64 _ most_legs c.args.legs 3 _ _ _ _ c.loop-done.done c.loop-done.invariant.1 c.args.ports _ c.count_of-count.ensures end
    (omega (arith, length-drop c.loop-done.at c.args.text.now, c.if-at-text.true))

pub returns : goal.returns
returns c =
    let end : c.loop-done.done ≡ c.args.legs = omega arith in
    plan-read largest64 _ most_legs c.args.legs 3 _ _ _ _ c.loop-done.done c.loop-done.invariant.1 c.args.ports _ c.count_of-count.ensures end
    (omega (arith, length-drop c.loop-done.at c.args.text.now, c.if-at-text.false))
