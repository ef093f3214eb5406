-- `plan_rules::places_ruled` asks of each place what the definition asks: those before `at` are right, so those from there on decide.
use mathlib.Core.Path.{◌≡◌, sym, ap, ◌∙◌}
use lib.IntN.{pos}
use lib.ListN.{get_or}
use mir.Syntax.{w64}
use mir.ValLaws.{to_z-of_z}
use borrow.Author.Rules.{rules}
use Rattle.plan_rules.specs.Places.{leg_held}
use Rattle.plan_rules.proofs.Rules.{place_ruled, place-right, place-wrong, places-done}
use Rattle.plan_rules.proofs.places_ruled.Goals as goal
use Rattle.plan_rules.proofs.places_ruled.Goals.{After-place_ruled}

-- what was asked of the place
asked : (c : After-place_ruled)
    → c.place_ruled.result ≡ place_ruled c.args.size c.args.p.legs c.loop-at.at (leg_held (get_or c.args.p.starts c.loop-at.at 0) (get_or c.args.p.runs c.loop-at.at (pos 0)))
asked c =
    c.place_ruled.ensures
    ∙ ap (place_ruled c.args.size c.args.p.legs c.loop-at.at)
    (c.leg_of.ensures ∙ ap (leg_held (get_or c.args.p.starts c.loop-at.at 0)) (to_z-of_z w64 (get_or c.args.p.runs c.loop-at.at (pos 0)) (search rules)))

pub loop-at-preserved : goal.loop-at-preserved
loop-at-preserved c =
    c.loop-at.invariant
    ∙ place-right c.args.size c.args.p.legs 16 c.args.p.starts c.args.p.runs (search rules) (search rules) c.loop-at.at (search rules) (sym (asked (goal.at.loop-at-preserved c).After-place_ruled) ∙ c.if-not-place_ruled.false)

pub returns-then-not-place_ruled : goal.returns-then-not-place_ruled
returns-then-not-place_ruled c =
    sym
    (c.loop-at.invariant
    ∙ place-wrong c.args.size c.args.p.legs 16 c.args.p.starts c.args.p.runs (search rules) (search rules) c.loop-at.at (search rules) (sym (asked (goal.at.returns-then-not-place_ruled c).After-place_ruled) ∙ c.if-not-place_ruled.true))

pub returns : goal.returns
returns c =
    sym (c.loop-at.invariant ∙ places-done c.args.size c.args.p.legs 16 c.args.p.starts c.args.p.runs (search rules) (search rules) c.loop-at.at (search rules))
