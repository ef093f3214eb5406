-- `campaign_state::judging::by_panel`: at a mark, at the end or before a seat the panel has the pattern; else what is to come decides.
use mathlib.Core.Path.{◌≡◌, sym, ap, ◌∙◌}
use borrow.Author.Rules.{rules}
use lib.ListN.{take}
use Rattle.promise.specs.Campaign.{todo, to_come}
use Rattle.promise.specs.Derangements.{derangements}
use Rattle.campaign_way.specs.Coming.{next_of, coming_is}
use Rattle.campaign_state.specs.Standing.{stance_is}
use Rattle.campaign_state.specs.State.{setting_of, moment_of}
use Rattle.campaign_state.proofs.Places.{Sized, few-ports, step-below, start-listed}
use Rattle.campaign_state.proofs.Stands.{mark-right, mark-wrong, end-panel-right, end-panel-wrong, seat-panel-right}
use Rattle.campaign_state.proofs.Stands.{seat-panel-wrong, way-panel}
use Rattle.campaign_state.proofs.judging.by_panel.Goals as goal
use Rattle.campaign_state.proofs.judging.by_panel.Goals.{After-coming, Start, then-s, else-s+then-s-2, else-s+else-s-2+then-s-gt0}

sized : (c : Start) → Sized c.args.s
sized c = record { starts = search rules; runs = search rules; panel = search rules }

-- what was found to come is what is to come before the mark
found : (c : After-coming)
    → coming_is c.coming.result ≡ next_of (todo (setting_of c.args.s) (moment_of c.args.s))
found c =
    c.coming.ensures ∙ ap (λ l. next_of (to_come (derangements c.args.s.plan.ports) l c.args.s.step (take c.args.s.plan.ports c.args.s.panel))) c.requires.1

pub returns-then-at_pattern : goal.returns-then-at_pattern
returns-then-at_pattern c =
    let same = sym c.at_pattern.ensures ∙ c.if-at_pattern.true in
    elim c.if-s.branch [
      | then-s w ↦ ap stance_is w.stance-is ∙ mark-right _ _ w.if-s.true same
      | else-s+then-s-2 w ↦ ap stance_is w.stance-is ∙ end-panel-right _ _ w.if-s.false w.if-s-2.true same
      | else-s+else-s-2+then-s-gt0 w ↦ ap stance_is w.stance-is ∙ seat-panel-right _ _ w.if-s.false w.if-s-2.false w.if-s-gt0.true same
    ]

pub returns-else-at_pattern : goal.returns-else-at_pattern
returns-else-at_pattern c =
    let other = sym c.at_pattern.ensures ∙ c.if-at_pattern.false in
    elim c.if-s.branch [
      | then-s w ↦ mark-wrong _ _ w.if-s.true other
      | else-s+then-s-2 w ↦ end-panel-wrong _ _ w.if-s.false w.if-s-2.true other
      | else-s+else-s-2+then-s-gt0 w ↦ seat-panel-wrong _ _ w.if-s.false w.if-s-2.false w.if-s-gt0.true other
    ]

pub coming-requires : goal.coming-requires
coming-requires c =
    let p = few-ports c.args.s (sized (goal.at.coming-requires c).Start) c.requires.0 in
    (p.0, p.1, start-listed c.args.s (sized (goal.at.coming-requires c).Start) c.requires.0 c.args.l c.requires.1, step-below c.args.s (sized (goal.at.coming-requires c).Start) c.requires.0)

pub returns-in-Astray : goal.returns-in-Astray
returns-in-Astray c =
    way-panel _ _ _ c.if-s.false c.if-s-2.false c.if-s-gt0.false (sym (ap coming_is c.in-Astray.is) ∙ found (goal.at.returns-in-Astray c).After-coming)

pub returns-in-Clear : goal.returns-in-Clear
returns-in-Clear c =
    way-panel _ _ _ c.if-s.false c.if-s-2.false c.if-s-gt0.false (sym (ap coming_is c.in-Clear.is) ∙ found (goal.at.returns-in-Clear c).After-coming)

pub returns-in-Next : goal.returns-in-Next
returns-in-Next c =
    way-panel _ _ _ c.if-s.false c.if-s-2.false c.if-s-gt0.false (sym (ap coming_is c.in-Next.is) ∙ found (goal.at.returns-in-Next c).After-coming)
