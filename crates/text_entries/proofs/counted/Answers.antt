-- `text_entries::counted`: what is held is all there is, unless there were more entries than places.
-- Assumes nothing.
use mathlib.Core.Path.{ap, ◌∙◌}
use Rattle.words.specs.Meaning.{refusal_of}
use Rattle.text_entries.proofs.Places.{too_many, few-enough}
use Rattle.text_entries.proofs.counted.Goals as goal

pub returns-then-held : goal.returns-then-held
returns-then-held c ns H = ap refusal_of c.nowhere.ensures ∙ too_many ns _ H c.if-held.true

pub returns : goal.returns
returns c ns H = few-enough ns _ H c.if-held.false
