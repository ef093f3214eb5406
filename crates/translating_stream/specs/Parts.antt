-- What is said of a part of a text that was translated: whatever comes after it, what was printed and what will be printed of the rest is what the whole prints. So
-- parts one after the other print what the whole text prints.
-- Assumes nothing.
use Rattle.std.specs.Prelude.{ℕ, ◌+◌, ◌≤◌, ◌<◌, ◌≡◌, List, length, take, drop}
use Rattle.std.proofs.Math.Option.{none, some}
use Rattle.words.specs.Told.{accepted}
use Rattle.words.specs.Meaning.{refusal_of}
use Rattle.text_keys.specs.Parts.{newline, first_of}
use Rattle.line_putting.specs.Putting.{Puts}
use Rattle.translating.specs.Names.{most_names}
use Rattle.translating.specs.Lines.{Went, SoFar, line_of}
use Rattle.translating.specs.Whole.{Onward}
use Rattle.translating_stream.specs.declared.Stop.{Stop}
use Rattle.translating_stream.specs.declared.Stop.TheVariants.{More, Full, Refused}
use Rattle.translating_stream.specs.declared.Part.{Part}
use Rattle.std.specs.declared.result.Result.{Result}
use Rattle.std.specs.declared.result.Result.TheVariants.{Ok, Err}

-- why no line more: of a text that is left, with the ports so far, and of so many bytes in a buffer
abbrev pub StopIs : List ℕ → ℕ → ℕ → List ℕ → Stop → Type 0
StopIs left n len out More = first_of newline left ≡ none
StopIs left n len out Full = length out < len + most_names
StopIs left n len out (Refused f) = (k : ℕ) × (first_of newline left ≡ some k) × (line_of n (take k left) ≡ refusal_of f)

-- so far was a part t of a text taken, from a line on and with the ports n so far, into a buffer `old` that is left as `out`: so many bytes of each, up to line `row`
pub record Taken (n line : ℕ) (t old out : List ℕ) (ports row used len : ℕ) : Type 0 where
  pub within : used ≤ length t
  pub room : len ≤ length out
  pub known : SoFar ports
  pub lines : row ≤ line + used
  pub goes : Onward n line t (take len out) ports row (drop used t)
  pub keeps : drop len out ≡ drop len old

-- r says so, and why no line more
pub record PartIs (n line : ℕ) (t old out : List ℕ) (r : Part) : Type 0 where
  pub taken : Taken n line t old out r.ports r.line r.used r.len
  pub stop : StopIs (drop r.used t) r.ports r.len out r.stop

-- ---- inner pieces

-- a line that went, from a place of a text on: where its newline is, what it leaves and prints, and the places after it in the text and in the buffer
pub record LineWent (t : List ℕ) (used n len : ℕ) (old left : List ℕ) (ports next end : ℕ) : Type 0 where
  pub k : ℕ
  pub went : Went
  pub newline-at : first_of newline (drop used t) ≡ some k
  pub line : line_of n (take k (drop used t)) ≡ accepted went
  pub ports-are : ports ≡ went.ports
  pub next-at : next ≡ used + k + 1
  pub puts : Puts len went.text old end left
  pub fits : end ≤ length old

-- what one line came to: a line that went, or why not, and then the buffer is as it was
abbrev pub StepIs : List ℕ → ℕ → ℕ → ℕ → List ℕ → List ℕ → Result (ℕ × ℕ × ℕ) Stop → Type 0
StepIs t used n len old left (Ok (ports, next, end)) = LineWent t used n len old left ports next end
StepIs t used n len old left (Err stop) = StopIs (drop used t) n len old stop × (left ≡ old)
