-- How far a campaign has to go: as many calls as the end is away at most. And all that is to be printed on the way.
-- Assumes nothing.
use Rattle.std.specs.Prelude.{ℕ, zero, suc, Bool, cond, List, [], ◌++◌}
use Rattle.words.specs.Told.{Told, accepted, refused}
use Rattle.promise.specs.Campaign.{request}
use Rattle.promise.specs.Progress.{work}
use Rattle.campaign_state.specs.State.{answer_text, setting_of, moment_of}
use Rattle.campaign_state.specs.declared.State.{State}
use Rattle.line_format.specs.Campaign.{most_bytes}
use Rattle.campaign.specs.Calls.{answer_of}
use Rattle.printing.specs.Printing.{sequel, more, onward}

-- the work that is left
abbrev pub to_go : State → ℕ
to_go s = work (setting_of s) (moment_of s)

-- ---- the whole output

-- room for any line that a campaign writes
abbrev pub any_line : ℕ
any_line = most_bytes

-- the lines of at most k requests with room for any line, every mark taken as run, up to the end's
unfoldable pub whole_from : ℕ → State → List ℕ
whole_from zero s = []
whole_from (suc k) s =
    let a = answer_of (request any_line) s in
    answer_text a ++ cond (more (sequel a)) (whole_from k (onward any_line s)) []

-- every order from s on: of as many requests as there are calls to go, and of one more for the end
abbrev pub whole : State → List ℕ
whole s = whole_from (suc (to_go s)) s

-- what is still to be printed after lines that were followed so: nothing after the end, all that the state has after a refusal
abbrev pub still_to_come : Told Bool → State → List ℕ
still_to_come (accepted b) s = []
still_to_come (refused k p) s = whole s
