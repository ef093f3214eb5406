-- What the writer tells, and which bytes it leaves ('Order lines' and 'Refusal numbers': in writing an order, 17 comes before 2): of any text, and of a line.
-- What the reader tells is `read_of` of Reading. The most jacks of the device is a parameter.
-- Assumes nothing.
use Rattle.std.specs.Prelude.{ℕ, cond, List, ◌++◌, leb, length, drop}
use Rattle.words.specs.Told.{Told, accepted, refused, nowhere, then, leaves}
use Rattle.words.specs.declared.Line.{Line}
use Rattle.line_format.specs.Format.{line_text}
use Rattle.line_format.specs.Reading.{fitting}

-- ---- any text

-- 'the line to be written does not fit the lent buffer' (2): how many bytes are written
unfoldable pub room_of : List ℕ → List ℕ → Told ℕ
room_of t buf = cond (leb (length t) (length buf)) (accepted (length t)) (refused 2 nowhere)

-- a text at the front of a buffer: later bytes keep their values
abbrev pub over : List ℕ → List ℕ → List ℕ
over t buf = t ++ drop (length t) buf

-- the bytes left: the text at the front; on a refusal all keep their values
unfoldable pub room_bytes : List ℕ → List ℕ → List ℕ
room_bytes t buf = leaves (room_of t buf) (over t buf) buf

-- ---- a line

-- a line written: 17, then 2
unfoldable pub write_of : ℕ → Line → List ℕ → Told ℕ
write_of jacks l buf = then (fitting jacks l) (λ k. room_of (line_text k) buf)

-- the bytes left: the line at the front and 'bytes after the written line keep their values'; on a refusal all do
unfoldable pub write_bytes : ℕ → Line → List ℕ → List ℕ
write_bytes jacks l buf = leaves (write_of jacks l buf) (over (line_text l) buf) buf
