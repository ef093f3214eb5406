-- Nothing else meets the calls' contracts: two answers that tell the same are the same, and state, written bytes and buffer are one.
-- Assumes nothing.
use mathlib.Core.Path.{◌≡◌, refl, sym, ap, ◌∙◌}
use mathlib.Core.List.{List}
use Prim.Native.Nat.{ℕ}
use Rattle.words.specs.Meaning.{jack_at}
use Rattle.words.proofs.Once.{order-once, answer-once, outcome-once}
use Rattle.promise.specs.Campaign as model
use Rattle.promise.specs.Campaign.{Call, taken}
use Rattle.campaign_state.specs.declared.State.{State}
use Rattle.campaign.specs.Calls.{bytes_of, line_is}
use Rattle.campaign.specs.Answers.{answer_told, heard_told, RequestIs, ReportIs, BeginIs}
use Rattle.campaign.specs.declared.Begun.{Begun}
use Rattle.campaign.specs.declared.Requested.{Requested}
use Rattle.campaign.specs.declared.Reported.{Reported}
use Rattle.std.specs.declared.result.Result.{Result}
use Rattle.words.specs.declared.Line.{Line}
use Rattle.words.specs.declared.Line.TheVariants.{Movement, Seat, Mark, End}
use Rattle.words.specs.declared.Refusal.{Refusal}

-- ---- two answers that tell the same

line-once : (l m : Line) → line_is l ≡ line_is m → l ≡ m
line-once (Movement o) (Movement v) e = ap Movement (order-once o v (cc))
line-once (Movement o) (Seat i) e = cc
line-once (Movement o) (Mark k r) e = cc
line-once (Movement o) (End k) e = cc
line-once (Seat j) (Movement o) e = cc
line-once (Seat j) (Seat i) e = let same : j.0 ≡ i.0 = cc in ap (λ k. Seat (jack_at k)) same
line-once (Seat j) (Mark k r) e = cc
line-once (Seat j) (End k) e = cc
line-once (Mark k r) (Movement o) e = cc
line-once (Mark k r) (Seat i) e = cc
line-once (Mark k r) (Mark j q) e = cc
line-once (Mark k r) (End j) e = cc
line-once (End k) (Movement o) e = cc
line-once (End k) (Seat i) e = cc
line-once (End k) (Mark j q) e = cc
line-once (End k) (End j) e = cc

request-once : (a b : Result Line Refusal) → answer_told a ≡ answer_told b → a ≡ b
request-once = answer-once line_is line-once

heard-once : (a b : Result (Unit {0}) Refusal) → heard_told a ≡ heard_told b → a ≡ b
heard-once = answer-once (λ u. taken) (λ a b e. refl)

-- ---- one answer, one state and one list of bytes to each call

pub only-request : (c : Call) (a : model.Answer) (s : State) (r q : Requested) → RequestIs c a s r → RequestIs c a s q → r ≡ q
only-request c a s r q e f =
    let x : r.answer ≡ q.answer = request-once r.answer q.answer (e.answer ∙ sym f.answer) in
    let y : r.campaign.state ≡ q.campaign.state = e.state ∙ sym f.state in
    let z : r.written ≡ q.written = e.written ∙ sym f.written in
    λ i. record { campaign = record { state = y i }; answer = x i; written = z i }

pub only-request-bytes : (s : State) (buf b c : List ℕ) → b ≡ bytes_of s buf → c ≡ bytes_of s buf → b ≡ c
only-request-bytes s buf b c e f = e ∙ sym f

pub only-report : (c : Call) (a : model.Answer) (s : State) (r q : Reported) → ReportIs c a s r → ReportIs c a s q → r ≡ q
only-report c a s r q e f =
    let x : r.answer ≡ q.answer = heard-once r.answer q.answer (e.answer ∙ sym f.answer) in
    let y : r.campaign.state ≡ q.campaign.state = e.state ∙ sym f.state in
    λ i. record { campaign = record { state = y i }; answer = x i }

pub only-begin : (t : List ℕ) (r q : Begun) → BeginIs t r → BeginIs t q → r ≡ q
only-begin t r q e f =
    let x : r.judged ≡ q.judged = outcome-once r.judged q.judged (e.judged ∙ sym f.judged) in
    let y : r.campaign.state ≡ q.campaign.state = e.state ∙ sym f.state in
    λ i. record { judged = x i; campaign = record { state = y i } }
