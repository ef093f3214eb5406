-- A robot that knows nothing but bytes. After each request that was not refused it reads the text at the front of the buffer (as `read_line` does) and carries
-- the line out on its panel (as `carry` does). 'Carry out the orders on a panel that starts at home. Every mark then meets the pattern of its rank.'
-- Assumes nothing.
use Rattle.std.specs.Prelude.{ℕ, ◌≡◌, List, [], ◌∷◌, length, drop}
use Rattle.std.proofs.Math.Option.{Option, none, some}
use Rattle.listing.specs.Limits.{most_ports, largest64}
use Rattle.words.specs.Told.{Told, accepted, refused}
use Rattle.words.specs.Meaning.{order_of}
use Rattle.words.specs.declared.Line.{Line}
use Rattle.words.specs.declared.Line.TheVariants.{Movement, Seat, Mark, End}
use Rattle.line_format.specs.Format.{line_text}
use Rattle.line_format.specs.Reading.{read_of}
use Rattle.panel.specs.Calls.{carry_of, carry_bytes}
use Rattle.promise.specs.Campaign.{request, report_to}
use Rattle.promise.specs.Bench.{Act, moves, seats, meets, in_front}
use Rattle.campaign_state.specs.State.{answer_line}
use Rattle.campaign_state.specs.declared.State.{State}
use Rattle.campaign.specs.Calls.{answer_of, left_of, bytes_of}
use Rattle.campaign_reached.specs.Turns.{Called, asks, tells}
use Rattle.campaign_reached.specs.Shown.{MeetsAt}

-- ---- what the robot does

-- what it reads at the front of a buffer: the line, and the place after it
abbrev pub seen : List ℕ → Told (Line × ℕ)
seen bytes = read_of largest64 most_ports bytes 0

-- its panel q after what it read
abbrev pub obeyed : Told (Line × ℕ) → List ℕ → List ℕ
obeyed (accepted x) q = carry_bytes most_ports x.0 q
obeyed (refused k s) q = q

-- its panel after a request: it reads only where a line was written
abbrev pub panel_after : Option Line → List ℕ → List ℕ → List ℕ
panel_after none bytes q = q
panel_after (some l) bytes q = obeyed (seen bytes) q

-- ---- what is asked of each request

-- the answer's line l was written into the buffer buf, which has these bytes now; the robot's panel of n ports is q
pub record Obeys (n : ℕ) (l : Line) (buf bytes q : List ℕ) : Type 0 where
  -- the text reads as that line and as no other, and the place after it is the number of bytes written
  pub reads : seen bytes ≡ accepted (l, length (line_text l))
  -- 'Bytes after the written line keep their values'
  pub later : drop (length (line_text l)) bytes ≡ drop (length (line_text l)) buf
  pub long : length bytes ≡ length buf
  -- the panel takes the line: no order is refused
  pub takes : carry_of most_ports l q ≡ accepted tt
  -- 'Every mark then meets the pattern of its rank'
  pub meets : MeetsAt n l q

-- a request with its line; 'buffers stay' where it has none
abbrev pub Asked : ℕ → Option Line → List ℕ → List ℕ → List ℕ → Type 0
Asked n none buf bytes q = bytes ≡ buf
Asked n (some l) buf bytes q = Obeys n l buf bytes q

-- so of any calls, each on the state the last one left, with a robot whose panel of n ports is q at first
unfoldable pub RobotMeets : ℕ → List ℕ → List Called → State → Type 0
RobotMeets n q [] s = Unit {0}
RobotMeets n q (asks buf ∷ cs) s =
    let l = answer_line (answer_of (request (length buf)) s) in
    Asked n l buf (bytes_of s buf) q × RobotMeets n (panel_after l (bytes_of s buf) q) cs (left_of (request (length buf)) s)
RobotMeets n q (tells m kind ∷ cs) s = RobotMeets n q cs (left_of (report_to m kind) s)

-- ---- what happens on the bench, as the robot sees it

-- by what it read: it carries an order out, it seats a jack, it meets a mark
abbrev pub line_acts : Line → List Act → List Act
line_acts (Movement o) xs = moves (order_of o) ∷ xs
line_acts (Seat j) xs = seats j.0 ∷ xs
line_acts (Mark k r) xs = meets k r ∷ xs
line_acts (End k) xs = xs

abbrev pub seen_acts : Told (Line × ℕ) → List Act → List Act
seen_acts (accepted x) xs = line_acts x.0 xs
seen_acts (refused k s) xs = xs

abbrev pub asked_acts : Option Line → List ℕ → List Act → List Act
asked_acts none bytes xs = xs
asked_acts (some l) bytes xs = seen_acts (seen bytes) xs

-- of any calls: the orders, seats and marks that it reads, and the reports that were taken
unfoldable pub robot_acts : List Called → State → List Act
robot_acts [] s = []
robot_acts (asks buf ∷ cs) s = asked_acts (answer_line (answer_of (request (length buf)) s)) (bytes_of s buf) (robot_acts cs (left_of (request (length buf)) s))
robot_acts (tells m kind ∷ cs) s = let c = report_to m kind in in_front c (answer_of c s) (robot_acts cs (left_of c s))
