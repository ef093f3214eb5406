-- What the answer of a translated line tells: the ports so far and how long its text is. The text itself is at the front of the buffer.
-- Assumes nothing.
use Rattle.std.specs.Prelude.{ℕ, List, [], length}
use Rattle.words.specs.Told.{Told, accepted, refused, then}
use Rattle.words.specs.Meaning.{refusal_of}
use Rattle.translating.specs.Lines.{Went as LineWent}
use Rattle.std.specs.declared.result.Result.{Result}
use Rattle.std.specs.declared.result.Result.TheVariants.{Ok, Err}
use Rattle.words.specs.declared.Refusal.{Refusal}

abbrev pub line_told : Result (ℕ × ℕ) Refusal → Told (ℕ × ℕ)
line_told (Ok (ports, len)) = accepted (ports, len)
line_told (Err f) = refusal_of f

-- the same of what a line is
abbrev pub went_told : Told LineWent → Told (ℕ × ℕ)
went_told told = then told (λ w. accepted (w.ports, length w.text))

-- and its text, none on a refusal
abbrev pub text_in : Told LineWent → List ℕ
text_in (accepted w) = w.text
text_in (refused k s) = []
