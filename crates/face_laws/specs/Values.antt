-- The values that an accepted call gives, in words, as include/jidrofex.h names them at each call. The zeros after them are the answer's.
-- Assumes nothing.
use Rattle.std.specs.Prelude.{ℕ, Bool, List, [], ◌∷◌, ◌++◌, length}
use Rattle.std.proofs.Math.Option.{Option, none, some}
use Rattle.words.specs.declared.Line.{Line}
use Rattle.promise.specs.Campaign as model
use Rattle.line_format.specs.Format.{line_text}
use Rattle.campaign_state.specs.State.{answer_line}
use Rattle.face_values.specs.Lines.{line_words}
use Rattle.plan_named.specs.Calls.{Names}
use Rattle.campaign_onward.specs.declared.Whereabouts.{Whereabouts}
use Rattle.face_state.specs.States.{bit}

-- 'Gives the line's four words and the place after its newline'
abbrev pub line_and_place : Line × ℕ → List ℕ
line_and_place (l, place) = line_words l ++ (place ∷ [])

-- a line that was written, if there is one: its four words and 'how many bytes it takes'
abbrev pub written_line : Option Line → List ℕ
written_line none = []
written_line (some l) = line_words l ++ (length (line_text l) ∷ [])

-- 'Gives the line's four words and how many bytes it takes', of the answer to a request
abbrev pub order_and_bytes : model.Answer → List ℕ
order_and_bytes a = written_line (answer_line a)

-- the same with any number after the four words
abbrev pub line_then : ℕ → Option Line → List ℕ
line_then n none = []
line_then n (some l) = line_words l ++ (n ∷ [])

abbrev pub order_then : ℕ → model.Answer → List ℕ
order_then n a = line_then n (answer_line a)

-- 'Gives how many bytes they take, and 1 if the end is among them'
abbrev pub bytes_and_end : ℕ × Bool → List ℕ
bytes_and_end x = x.0 ∷ bit x.1 ∷ []

-- 'Gives how many ranks are named, and how many gaps there are'
abbrev pub names_words : Names → List ℕ
names_words n = n.ranks ∷ n.gaps ∷ []

-- 'Gives the plan's marks; the number and the rank of the mark that stands, or else of the next, or after the end of the last; 1 if that mark stands; 1 if the
-- end is shown'
abbrev pub where_words : Whereabouts → List ℕ
where_words w = w.marks ∷ w.number ∷ w.rank ∷ bit w.standing ∷ bit w.ended ∷ []
