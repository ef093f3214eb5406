-- The order printer's lines: it 'takes every mark as run and prints every order' (the paper, 'Order lines'). As many whole lines as fit a lent buffer, and
-- the state that goes on with the rest.
-- Assumes nothing.
use Rattle.std.specs.Prelude.{ℕ, zero, suc, ◌-◌, Bool, true, false, cond, List, [], ◌++◌}
use Rattle.words.specs.Told.{Told, accepted, refused, nowhere}
use Rattle.promise.specs.Campaign as model
use Rattle.promise.specs.Campaign.{request, report, movement, seat, mark, the_end, taken, refusal}
use Rattle.campaign_state.specs.State.{answer_text, width}
use Rattle.campaign_state.specs.declared.State.{State}
use Rattle.campaign.specs.Calls.{answer_of, left_of}

-- a mark that was handed out is reported as run; after any other answer there is nothing to report
abbrev pub as_run : model.Answer → State → State
as_run (movement o) s = s
as_run (seat j) s = s
as_run (mark k r) s = left_of (report 0) s
as_run (the_end k) s = s
as_run taken s = s
as_run (refusal k) s = s

-- what follows an answer: lines after a movement, a seat or a mark (true), none after the end (false), or the refusal is told
abbrev pub sequel : model.Answer → Told Bool
sequel (movement o) = accepted true
sequel (seat j) = accepted true
sequel (mark k r) = accepted true
sequel (the_end k) = accepted false
sequel taken = accepted false
sequel (refusal k) = refused k nowhere

-- whether lines follow
abbrev pub more : Told Bool → Bool
more (accepted b) = b
more (refused k p) = false

-- what is printed: the text of the lines, the state that is left, and the answer after which no line came
pub record Printout : Type 0 where
  pub text : List ℕ
  pub left : State
  pub stop : model.Answer

-- with a text in front
abbrev pub in_front : List ℕ → Printout → Printout
in_front t p = record { text = t ++ p.text; left = p.left; stop = p.stop }

-- the state after a request with so much room, its mark reported as run
abbrev pub onward : ℕ → State → State
onward room s = as_run (answer_of (request room) s) (left_of (request room) s)

-- the lines of at most k requests, each with the room that the lines before it leave
unfoldable pub lines_from : ℕ → ℕ → State → Printout
lines_from zero room s = record { text = []; left = s; stop = refusal 2 }
lines_from (suc k) room s =
    let a = answer_of (request room) s in
    cond (more (sequel a))
    (in_front (answer_text a) (lines_from k (room - width a) (onward room s)))
    (record { text = answer_text a; left = onward room s; stop = a })

-- the lines that so much room takes: a line has a byte at least, so no more requests than bytes
abbrev pub lines_in : ℕ → State → Printout
lines_in room s = lines_from (suc room) room s
