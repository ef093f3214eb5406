-- What the answer to a plan's text tells.
-- Assumes nothing.
use Rattle.words.specs.Told.{Told}
use Rattle.words.specs.Meaning.{answer_told}
use Rattle.plan_arcs.specs.declared.gaps.Tally.{Tally}
use Rattle.plan_named.specs.Calls as calls
use Rattle.std.specs.declared.result.Result.{Result}
use Rattle.words.specs.declared.Refusal.{Refusal}

abbrev pub tally_is : Tally → calls.Names
tally_is t = record { ranks = t.named; gaps = t.gaps }

abbrev pub survey_told : Result Tally Refusal → Told calls.Names
survey_told r = answer_told tally_is r
