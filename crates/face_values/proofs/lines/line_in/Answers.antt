-- `face_values::lines::line_in`: the first word decides what the others mean.
-- Assumes nothing.
use mathlib.Core.Path.{ap, ◌∙◌}
use native.Mathlib.Omega.{arith}
use Rattle.words.specs.declared.Line.TheVariants.{Seat}
use Rattle.face_values.proofs.LineWords.{swap-of, turn-of, from-swap, from-turn, from-mark, from_end, from-seat, from-none}
use Rattle.face_values.proofs.lines.line_in.Goals as goal

pub returns-in-1 : goal.returns-in-1
returns-in-1 c = swap-of c.jack_in.ensures c.jack_in-in-1.ensures ∙ from-swap _ _ _ _ c.in-1.is

pub returns-in-2 : goal.returns-in-2
returns-in-2 c = turn-of c.jack_in-in-2.ensures c.jack_in-in-2-2.ensures c.jack_in-in-2-3.ensures ∙ from-turn _ _ _ _ c.in-2.is

pub returns-in-3 : goal.returns-in-3
returns-in-3 c = from-mark _ _ _ _ c.in-3.is

pub returns-in-4 : goal.returns-in-4
returns-in-4 c = from_end _ _ _ _ c.in-4.is

pub returns-in-6 : goal.returns-in-6
returns-in-6 c = ap Seat c.jack_in-in-6.ensures ∙ from-seat _ _ _ _ c.in-6.is

pub returns-in_default : goal.returns-in_default
returns-in_default c =
    let other = c.in_default.in_default-own.rest in
    from-none _ _ _ _ (λ e. omega (arith, other, e)) (λ e. omega (arith, other, e)) (λ e. omega (arith, other, e)) (λ e. omega (arith, other, e)) (λ e. omega (arith, other, e))
