-- Demand three for the calls for C: from `jidrofex_begin` on, any calls of the header, each on the words the last one left, make the turns of the calls behind
-- them (`turns_same`), and a robot that has nothing but their numbers and the bytes sees what happens there (`robot-same`). So the demand holds of words and bytes
-- (`demand-words`), the full circuit too (`all-met-words`).
-- Assumes nothing.
use mathlib.Core.Path.{◌≡◌, refl, sym, ap, subst, ◌∙◌}
use mathlib.Core.Logic.{inl, inr}
use mathlib.Core.Bool.{true}
use mathlib.Core.List.{List, [], ◌∷◌, map}
use mathlib.Core.Option.{Option, none, some}
use Prim.Native.Nat.{ℕ, zero, suc}
use native.Mathlib.Omega.{arith}
use lib.ListN.{length}
use Rattle.listing.specs.Count.{count}
use Rattle.promise.specs.Plan.{Leg}
use Rattle.promise.specs.Campaign.{Setting, request, report_to, Answer, movement, seat, mark, the_end, taken, refusal}
use Rattle.promise.specs.Campaign as model
use Rattle.promise.specs.Bench.{Turn, Act, in_front}
use Rattle.promise.specs.Demand.{Demanded, FullCircuit}
use Rattle.promise.specs.Derangements.{derangements}
use Rattle.promise.proofs.Steps.{Does, moves-on, seats-on, hands_out, ends, closes, errs, refuses}
use Rattle.campaign_state.specs.State.{answer_line, moment_of}
use Rattle.campaign_state.specs.declared.State.{State}
use Rattle.campaign.specs.Calls.{answer_of, told_of, left_of, bytes_of}
use Rattle.campaign_reached.specs.Turns.{AcceptedPlan, campaign_of, begun, Called, asks, tells, call_of, turns_of, left_after}
use Rattle.campaign_reached.proofs.Reached.{does-there}
use Rattle.face_values.specs.Answers.{number_told}
use Rattle.face_state.specs.States.{state_count}
use Rattle.face_state.proofs.Back.{at-state}
use Rattle.face_laws.specs.Calls.{called_words, request_bytes, begin_words}
use Rattle.face_reached.proofs.Read.{Read, read-begun, read_left, told-there, bytes-there}
use Rattle.demands.specs.One.{OneOf}
use Rattle.demands.specs.Robot.{asked_acts, robot_acts}
use Rattle.demands.specs.Words.{words_after, answer_told, moment_in, turns_in, asked_in, told_in, robot_in}
use Rattle.demands.proofs.One.{demand-one}
use Rattle.demands.proofs.Bytes.{demand-bytes, all-met-bytes}

-- ---- what is told is the answer

answer-told : (a : Answer) → answer_told (told_of a) ≡ a
answer-told (movement o) = refl
answer-told (seat j) = refl
answer-told (mark k r) = refl
answer-told (the_end k) = refl
answer-told taken = refl
answer-told (refusal k) = refl

-- ---- a number that is not 0 is a refusal's

-- a request: the robot reads where a line was written
asked-so : {C : model.Setting} {m m' : model.State} {room : ℕ} {a : Answer} (bytes : List ℕ) (xs : List Act) → Does C m (request room) a m'
    → (a ≡ refusal 0 → ⊥) → asked_in (number_told (told_of a)) bytes xs ≡ asked_acts (answer_line a) bytes xs
asked-so bytes xs (moves-on o os st en ns w) h = refl
asked-so bytes xs (seats-on sn) h = refl
asked-so bytes xs (hands_out st en ns w) h = refl
asked-so bytes xs (ends en) h = refl
asked-so bytes xs (refuses zero n) h = absurd (h refl)
asked-so bytes xs (refuses (suc k) n) h = refl

-- a report: said where it was taken
said-so : {C : model.Setting} {m m' : model.State} {o : Option ℕ} {kind : ℕ} {a : Answer} (xs : List Act) → Does C m (report_to o kind) a m'
    → (a ≡ refusal 0 → ⊥) → told_in kind (number_told (told_of a)) xs ≡ in_front (report_to o kind) a xs
said-so xs (closes st cl x) h = refl
said-so xs (errs st lt) h = refl
said-so xs (refuses zero n) h = absurd (h refl)
said-so xs (refuses (suc k) n) h = refl

-- 0 is none of these numbers
not-zero : (ns : List ℕ) → OneOf (map suc ns) 0 → ⊥
not-zero [] h = h
not-zero (n ∷ ns) (inl e) = omega arith
not-zero (n ∷ ns) (inr h) = not-zero ns h

-- no call is refused with 0
asked-some : (room : ℕ) (s : State) → answer_of (request room) s ≡ refusal 0 → ⊥
asked-some room s e = not-zero (14 ∷ 12 ∷ 1 ∷ []) (demand-one.asked room s 0 e)

said-some : (m : Option ℕ) (kind : ℕ) (s : State) → answer_of (report_to m kind) s ≡ refusal 0 → ⊥
said-some none kind s e = not-zero (14 ∷ 13 ∷ 11 ∷ 15 ∷ []) (demand-one.reported kind s 0 e)
said-some (some m) kind s e = not-zero (14 ∷ 13 ∷ 11 ∷ 15 ∷ []) (demand-one.reported_mark m kind s 0 e)

-- ---- any calls on words of a state that calls leave

module _ (P : AcceptedPlan) where
  abbrev C : Setting
  C = campaign_of P

  -- the words that are left are those of the state that is left
  pub after_read : (cs : List Called) (ws : List ℕ) (s : State) → Read P ws s → Read P (words_after cs ws) (left_after cs s)
  unfolding words_after left_after
  after_read [] ws s r = r
  after_read (c ∷ cs) ws s r = after_read cs (called_words (call_of c) ws) (left_of (call_of c) s) (read_left P ws s r (call_of c))

  -- and say its moment
  pub moment-read : (ws : List ℕ) (s : State) → Read P ws s → moment_in ws ≡ moment_of s
  moment-read ws s r = ap moment_of (at-state ws s r.is)

  -- the turns are those of the calls behind
  pub turns-read : (cs : List Called) (ws : List ℕ) (s : State) → Read P ws s → turns_in cs ws ≡ turns_of cs s
  unfolding turns_in turns_of
  turns-read [] ws s r = refl
  turns-read (c ∷ cs) ws s r =
      let x = call_of c in
      let on = read_left P ws s r x in
      let made : Answer → model.State → List Turn → List Turn = λ a m ts. record { call = x; answered = a; left = m } ∷ ts in
      ap (λ a. made a (moment_in (called_words x ws)) (turns_in cs (called_words x ws))) (ap answer_told (told-there P ws s r x) ∙ answer-told (answer_of x s))
      ∙ ap (λ m. made (answer_of x s) m (turns_in cs (called_words x ws))) (moment-read (called_words x ws) (left_of x s) on)
      ∙ ap (made (answer_of x s) (moment_of (left_of x s))) (turns-read cs (called_words x ws) (left_of x s) on)

  -- and the robot sees the same
  pub robot-read : (cs : List Called) (ws : List ℕ) (s : State) → Read P ws s → robot_in cs ws ≡ robot_acts cs s
  unfolding robot_in robot_acts
  robot-read [] ws s r = refl
  robot-read (asks buf ∷ cs) ws s r =
      let c = request (length buf) in
      let xs = robot_in cs (called_words c ws) in
      ap (λ t. asked_in (number_told t) (request_bytes ws buf) xs) (told-there P ws s r c)
      ∙ ap (λ b. asked_in (number_told (told_of (answer_of c s))) b xs) (bytes-there P ws s r buf)
      ∙ asked-so (bytes_of s buf) xs (does-there P s r.reached c) (asked-some (length buf) s)
      ∙ ap (asked_acts (answer_line (answer_of c s)) (bytes_of s buf)) (robot-read cs (called_words c ws) (left_of c s) (read_left P ws s r c))
  robot-read (tells m kind ∷ cs) ws s r =
      let c = report_to m kind in
      let xs = robot_in cs (called_words c ws) in
      ap (λ t. told_in kind (number_told t) xs) (told-there P ws s r c)
      ∙ said-so xs (does-there P s r.reached c) (said-some m kind s)
      ∙ ap (in_front c (answer_of c s)) (robot-read cs (called_words c ws) (left_of c s) (read_left P ws s r c))

  -- ---- from `jidrofex_begin` on

  module _ (ws : List ℕ) (long : length ws ≡ state_count) (cs : List Called) where
    -- the words that it leaves
    abbrev first : List ℕ
    first = begin_words P.text ws

    begins : Read P first (begun P)
    begins = read-begun P ws long

    pub turns_same : turns_in cs first ≡ turns_of cs (begun P)
    turns_same = turns-read cs first (begun P) begins

    pub robot-same : robot_in cs first ≡ robot_acts cs (begun P)
    robot-same = robot-read cs first (begun P) begins

    pub moment-same : moment_in (words_after cs first) ≡ moment_of (left_after cs (begun P))
    moment-same = moment-read (words_after cs first) (left_after cs (begun P)) (after_read cs first (begun P) begins)

    -- demand three: of the turns, of what the robot reads, and of what the words say
    pub demand-words : Demanded C (turns_in cs first) (robot_in cs first) (moment_in (words_after cs first))
    demand-words = rw (turns_same, robot-same, moment-same) (demand-bytes P cs)

    -- its last clause
    pub all-met-words : (l : Leg) → P.plan.legs ≡ l ∷ [] → suc l.run ≡ count P.plan.ports → (moment_in (words_after cs first)).ended ≡ true
        → FullCircuit (derangements P.plan.ports) (robot_in cs first)
    all-met-words l one full ended =
        subst (FullCircuit (derangements P.plan.ports)) (sym robot-same)
        (all-met-bytes P cs l one full (ap (λ (m : model.State). m.ended) (sym moment-same) ∙ ended))
