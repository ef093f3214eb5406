-- `explaining_levels::put_by` puts the text of the letter.
-- Assumes nothing.
use mathlib.Core.Path.{sym, ap}
use Rattle.line_putting.proofs.Putting.{puts-as}
use Rattle.line_refusal.specs.Words.{quoted}
use Rattle.pattern_levels.specs.Levels.{letter_of}
use Rattle.explaining.specs.Text.{by_text}
use Rattle.explaining_levels.proofs.put_by.Goals as goal

pub put_text-requires : goal.put_text-requires
unfolding quoted
put_text-requires c = rw c.in-ByA.is at c.requires

pub put_text-requires-in-ByB : goal.put_text-requires-in-ByB
unfolding quoted
put_text-requires-in-ByB c = rw c.in-ByB.is at c.requires

pub returns-in-ByA : goal.returns-in-ByA
unfolding quoted
returns-in-ByA c =
    puts-as (ap (λ x. by_text (letter_of x)) (sym c.in-ByA.is)) c.put_text.ensures

pub returns-in-ByB : goal.returns-in-ByB
unfolding quoted
returns-in-ByB c =
    puts-as (ap (λ x. by_text (letter_of x)) (sym c.in-ByB.is)) c.put_text-in-ByB.ensures
