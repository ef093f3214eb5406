-- `line_sentence::where_text` spells the place with the name that the number gives it, and nothing where no place is said.
-- Assumes nothing.
use mathlib.Core.Path.{subst}
use mathlib.Core.Logic.{inl, inr}
use Rattle.line_refusal.specs.Words.{quoted}
use Rattle.line_writer.specs.Answers.{Spells}
use native.Mathlib.Omega.{arith}
use Rattle.line_sentence.proofs.Parts.{where-nowhere, where-jack, where-line, where-none}
use Rattle.line_sentence.proofs.where_text.Goals as goal
use Rattle.line_sentence.proofs.where_text.Goals.{then-number-lt3, else-number-lt3+else-number-lt6+then-number-lt18}
use Rattle.line_sentence.proofs.where_text.Goals.{in_default-via-then-number-lt1, in_default-via-else-number-lt1+else-number-lt3+else-number-lt6+else-number-lt18}

pub returns-then-place-eq0 : goal.returns-then-place-eq0
returns-then-place-eq0 c =
    subst (Spells c.new.result) (where-nowhere c.args.number c.args.place c.if-place-eq0.true) c.new.ensures

pub returns-in-3-to-5 : goal.returns-in-3-to-5
unfolding quoted
returns-in-3-to-5 c =
    subst (Spells c.place_text.result) (where-jack c.args.number c.args.place c.if-place-eq0.false (omega arith) (omega arith)) c.place_text.ensures

pub returns-in-1-to-17 : goal.returns-in-1-to-17
unfolding quoted
returns-in-1-to-17 c =
    let line = where-line c.args.number c.args.place c.if-place-eq0.false (omega arith) in
    elim c.in-1-to-17-1.branch [
      | then-number-lt3 w ↦ subst (Spells c.place_text-in-1-to-17.result) (line (inl (omega arith))) c.place_text-in-1-to-17.ensures
      | else-number-lt3+else-number-lt6+then-number-lt18 w ↦
          subst (Spells c.place_text-in-1-to-17.result) (line (inr (omega arith, omega arith))) c.place_text-in-1-to-17.ensures
    ]

pub returns-in_default : goal.returns-in_default
returns-in_default c =
    let none = where-none c.args.number c.args.place c.if-place-eq0.false in
    elim c.in_default.branch [
      | in_default-via-then-number-lt1 w ↦ subst (Spells c.new-in_default.result) (none (inl (omega arith))) c.new-in_default.ensures
      | in_default-via-else-number-lt1+else-number-lt3+else-number-lt6+else-number-lt18 w ↦
          subst (Spells c.new-in_default.result) (none (inr (omega arith))) c.new-in_default.ensures
    ]
