-- `line_sentence::other_text` spells the earlier jack for 4, and nothing for any other number or where no jack is said.
-- Assumes nothing.
use mathlib.Core.Path.{subst}
use Rattle.line_writer.specs.Answers.{Spells}
use Rattle.line_sentence.proofs.Parts.{other-nowhere, other-jack, other_none}
use Rattle.line_sentence.proofs.other_text.Goals as goal

pub returns-then-earlier-eq0 : goal.returns-then-earlier-eq0
returns-then-earlier-eq0 c =
    subst (Spells c.new.result) (other-nowhere c.args.number c.args.earlier c.if-earlier-eq0.true) c.new.ensures

pub returns-then-number-eq4 : goal.returns-then-number-eq4
returns-then-number-eq4 c =
    subst (Spells c.at_jack.result) (other-jack c.args.number c.args.earlier c.if-earlier-eq0.false c.if-number-eq4.true) c.at_jack.ensures

pub returns : goal.returns
returns c =
    subst (Spells c.new-2.result) (other_none c.args.number c.args.earlier c.if-earlier-eq0.false c.if-number-eq4.false) c.new-2.ensures
