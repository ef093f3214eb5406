-- What the reader of a leg answers: a place in the text, as the text from there on. A place past the end is not answered.
-- Assumes nothing.
use Rattle.std.specs.Prelude.{ℕ, ◌≤◌, List, length, drop}
use Rattle.promise.specs.Plan as model
use Rattle.words.specs.Told.{Told, accepted}
use Rattle.plan_rules.specs.Rules.{leg_is}
use Rattle.words.specs.Meaning.{refusal_of}
use Rattle.plan_lines.specs.Field.{Got}
use Rattle.std.specs.declared.result.Result.{Result}
use Rattle.std.specs.declared.result.Result.TheVariants.{Ok, Err}
use Rattle.words.specs.declared.Leg.{Leg}
use Rattle.words.specs.declared.Refusal.{Refusal}

-- a leg, and the text from the place after its lines on
abbrev pub leg_told : List ℕ → Result (Leg × ℕ) Refusal → Told (Got model.Leg)
leg_told t (Ok (l, next)) = accepted (record { value = leg_is l; rest = drop next t })
leg_told t (Err f) = refusal_of f

abbrev pub LegWithin : List ℕ → Result (Leg × ℕ) Refusal → Type 0
LegWithin t (Ok (l, next)) = next ≤ length t
LegWithin t (Err f) = Unit {0}
