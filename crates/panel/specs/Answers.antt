-- What each answer of the panel tells: the paper's number and place of a refusal, or the values that the call gives.
-- Assumes nothing.
use Rattle.std.specs.Prelude.{ℕ}
use Rattle.words.specs.Told.{Told}
use Rattle.words.specs.Meaning.{answer_told}
use Rattle.std.specs.declared.result.Result.{Result}
use Rattle.words.specs.declared.Refusal.{Refusal}
use Rattle.words.specs.declared.Port.{Port}
use Rattle.words.specs.declared.Jack.{Jack}

abbrev pub looked_told : Result Port Refusal → Told ℕ
looked_told r = answer_told (λ (v : Port). v.0) r

abbrev pub found_told : Result Jack Refusal → Told ℕ
found_told r = answer_told (λ (j : Jack). j.0) r
