-- Demand three for the calls for C: any calls of include/jidrofex.h on the words of a state, each on the words the last one left. What a caller has is a number,
-- the words, and the bytes of the buffer.
-- Assumes nothing.
use Rattle.std.specs.Prelude.{ℕ, zero, suc, List, [], ◌∷◌, length}
use Rattle.words.specs.Told.{Told, accepted, refused}
use Rattle.promise.specs.Campaign as model
use Rattle.promise.specs.Campaign.{request, report_to, report_of, Answer, refusal}
use Rattle.promise.specs.Bench.{Turn, Act, says}
use Rattle.campaign_state.specs.State.{moment_of}
use Rattle.campaign_reached.specs.Turns.{Called, asks, tells, call_of}
use Rattle.face_values.specs.Answers.{number_told}
use Rattle.face_state.specs.States.{state_at}
use Rattle.face_laws.specs.Calls.{called_told, called_words, request_bytes}
use Rattle.demands.specs.Robot.{seen, seen_acts}

-- ---- turns in words

-- the words that calls leave
unfoldable pub words_after : List Called → List ℕ → List ℕ
words_after [] ws = ws
words_after (c ∷ cs) ws = words_after cs (called_words (call_of c) ws)

-- the answer that is told
abbrev pub answer_told : Told Answer → Answer
answer_told (accepted a) = a
answer_told (refused k p) = refusal k

-- the moment that words say, by their fields
abbrev pub moment_in : List ℕ → model.State
moment_in ws = moment_of (state_at ws)

-- the turns that calls make
unfoldable pub turns_in : List Called → List ℕ → List Turn
turns_in [] ws = []
turns_in (c ∷ cs) ws =
    let left = called_words (call_of c) ws in
    record { call = call_of c; answered = answer_told (called_told (call_of c) ws); left = moment_in left } ∷ turns_in cs left

-- ---- what happens on the bench

-- a request that answered 0: the robot reads the line at the front of the buffer
abbrev pub asked_in : ℕ → List ℕ → List Act → List Act
asked_in zero bytes xs = seen_acts (seen bytes) xs
asked_in (suc k) bytes xs = xs

-- a report that answered 0 was said
abbrev pub told_in : ℕ → ℕ → List Act → List Act
told_in kind zero xs = says (report_of kind) ∷ xs
told_in kind (suc k) xs = xs

-- by numbers and bytes alone
unfoldable pub robot_in : List Called → List ℕ → List Act
robot_in [] ws = []
robot_in (asks buf ∷ cs) ws =
    let c = request (length buf) in asked_in (number_told (called_told c ws)) (request_bytes ws buf) (robot_in cs (called_words c ws))
robot_in (tells m kind ∷ cs) ws =
    let c = report_to m kind in told_in kind (number_told (called_told c ws)) (robot_in cs (called_words c ws))
