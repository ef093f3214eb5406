-- Demand one, of the definitions that the public calls meet: each is accepted or refused with one of the paper's numbers, and a refused call leaves lent bytes
-- and the campaign's state as they were (`demand-one`).
-- Assumes nothing.
use mathlib.Core.Path.{◌≡◌, refl, sym, ap, ◌∙◌}
use mathlib.Core.Logic.{inl, inr}
use mathlib.Core.Bool.{Bool, true, false, not, ◌&&◌, true≢false}
use mathlib.Core.List.{List, [], ◌∷◌}
use mathlib.Core.Option.{Option, none, some}
use Prim.Native.Nat.{ℕ, zero, suc}
use lib.Dec.{eqb, leb, ltb}
use lib.ListN.{length, drop}
use Rattle.listing.specs.Orders.{Order}
use Rattle.listing.specs.Limits.{most_ports, largest64}
use Rattle.listing.specs.Count.{count}
use Rattle.listing.proofs.Numbers.{either, of_test}
use Rattle.words.specs.Told.{Told, Spot, nowhere, at_jack, at_jacks, accepted, refused, earlier_number, EachRefusal, then, leaves}
use Rattle.words.proofs.Told.{each-accepted, each-refused, each-then}
use Rattle.words.specs.declared.Line.{Line}
use Rattle.pattern_check.specs.Faults.{Fault, sound, outside, repeated, own_jack, fault_of, fault_told}
use Rattle.pattern_check.specs.Calls.{check_as, check_of}
use Rattle.pattern_check.proofs.Jacks.{check-second}
use Rattle.patterns.specs.Calls.{ranked, count_of, rank_of, listed_of, unrank_of, unrank_bytes, beside_of, beside_bytes, step_of}
use Rattle.dictionary_laws.specs.Calls.{dictionary_number_of, dictionary_pattern_of, dictionary_pattern_bytes, dictionary_next_of, dictionary_next_bytes}
use Rattle.dictionary_laws.specs.Calls.{number_to_rank_of, rank_to_number_of}
use Rattle.panel.specs.Calls.{on_panel, port_of, jack_of, carry_of, carry_bytes}
use Rattle.panel.proofs.Accepted.{panel-refused}
use Rattle.panel.proofs.Refusals.{refusals}
use Rattle.text_keys.specs.Parts.{newline, cut, after_key}
use Rattle.line_format.specs.Format.{Kind, swapping, turning, seating, marking, ending, key, commas, line_of, line_text}
use Rattle.line_format.specs.Calls.{room_of, room_bytes, write_of, write_bytes}
use Rattle.words.specs.Shape.{line_fits}
use Rattle.line_format.specs.Reading.{fitting, numbers_in, numbers_told, keyed, line_in, read_of}
use Rattle.line_refusal.specs.Words.{words_of, refusal_words_of, refusal_words_bytes}
use Rattle.line_sentence.specs.Sentences.{sentence_of, refusal_sentence_of, refusal_sentence_bytes}
use Rattle.promise.specs.Campaign.{Setting, movement, seat, mark, the_end, taken, refusal, Call, request, report_to, report_of}
use Rattle.promise.specs.Campaign.{is_error, todo, next, offer, stands_for, answer}
use Rattle.promise.specs.Campaign as model
use Rattle.campaign_state.specs.State.{setting_of, moment_of}
use Rattle.campaign_state.specs.Fitness.{places_fit, fit}
use Rattle.campaign_state.specs.declared.State.{State}
use Rattle.campaign.specs.Calls as calls
use Rattle.campaign.specs.Calls.{answer_of, left_of, bytes_of}
use Rattle.campaign.proofs.Moments.{refusal-leaves}
use Rattle.campaign.proofs.Tells.{bytes-stay}
use Rattle.printing.specs.Printing.{sequel, lines_in}
use Rattle.printing.specs.Answers.{stop_told}
use Rattle.printing.specs.Rehearsals.{state_of}
use Rattle.printing.specs.declared.Rehearsal.{Rehearsal}
use Rattle.campaign_onward.specs.Calls.{where_of, status_of, panel_in, going_on, fit_told, resume_of, resumed_of, goes_on}
use Rattle.printing.proofs.Refused.{refused-first, rehearsal-stays, bytes-stay as line-bytes-stay}
use Rattle.plan_rules.specs.Planned.{Planned, device}
use Rattle.plans.specs.Calls.{read_plan_of}
use Rattle.promise_arcs.specs.Named.{numbers}
use Rattle.plan_named.specs.Calls.{gaps_of, names_of, fitted, fitted_numbers, named_of, numbers_after, named_numbers}
use Rattle.demands.specs.One.{OneOf, Listed, Refuses, Keeps, RefusesAs, DemandOne}
use Rattle.demands.proofs.PlanNumbers.{plan-numbers}
use Rattle.demands.proofs.Jacks.{panel-second}
use Rattle.demands.proofs.Numbers.{from-refused, from-need, from-sized, with-more, answer-refusal, kept}

-- ---- patterns

abbrev of_pattern : List ℕ
of_pattern = 1 ∷ 3 ∷ 4 ∷ 5 ∷ []

fault-numbers : (f : Fault) → Refuses of_pattern (fault_told f (tt {0}))
fault-numbers sound = each-accepted (Listed of_pattern) tt
fault-numbers (outside j) = from-refused of_pattern 3 (at_jack j) refl (inr (inl refl))
fault-numbers (repeated j i) = each-refused (Listed of_pattern) 4 (at_jacks j i) (inr (inr (inl refl)), λ d. absurd (d refl))
fault-numbers (own_jack j) = from-refused of_pattern 5 (at_jack j) refl (inr (inr (inr (inl refl))))

check-numbers : (p : List ℕ) → Refuses of_pattern (check_of most_ports p)
unfolding check_as
check-numbers p = from-sized of_pattern most_ports (length p) _ (inl refl) (fault-numbers (fault_of true p))

-- 1 and then 6
ranked-numbers : {A : Type 0} (n r : ℕ) (a : A) → Refuses (1 ∷ 6 ∷ []) (ranked n r (accepted a))
unfolding ranked
ranked-numbers n r a =
    of_test (Refuses (1 ∷ 6 ∷ [])) (ltb r (count n)) _ _ (each-accepted (Listed (1 ∷ 6 ∷ [])) a) (from-refused (1 ∷ 6 ∷ []) 6 nowhere refl (inr (inl refl)))

listed-numbers : (n k : ℕ) → Refuses (1 ∷ 6 ∷ []) (listed_of most_ports n k)
unfolding listed_of
listed-numbers n k = from-sized (1 ∷ 6 ∷ []) most_ports n _ (inl refl) (ranked-numbers n k tt)

-- ---- the panel

-- 1, 3 or 4, and 17 after them
panel-numbers : {A : Type 0} (p : List ℕ) (fits : Bool) (a : A) → Refuses (1 ∷ 3 ∷ 4 ∷ 17 ∷ []) (on_panel most_ports p fits a)
panel-numbers p fits a k s e = (
  either (refusals most_ports p fits a k s (sym e))
      (λ h. either h inl (λ h. either h (λ x. inr (inl x)) (λ x. inr (inr (inl x)))))
      (λ h. inr (inr (inr (inl h.2)))),
  (panel-second p fits a k s e).other,
)

-- of the check alone there is no 17
check-panel-numbers : (p : List ℕ) → Refuses (1 ∷ 3 ∷ 4 ∷ []) (check_as false most_ports p)
check-panel-numbers p k s e = (
  either (refusals most_ports p true (tt {0}) k s (panel-refused most_ports p true (tt {0}) k s (sym e)))
      (λ h. either h inl (λ h. either h (λ x. inr (inl x)) (λ x. inr (inr (inl x)))))
      (λ h. absurd (true≢false h.1)),
  (check-second false most_ports p k s e).other,
)

-- ---- order text

abbrev of_line : List ℕ
of_line = 11 ∷ 7 ∷ 8 ∷ 17 ∷ []

fitting-numbers : (ns : List ℕ) (l : Line) → OneOf ns 17 → Refuses ns (fitting most_ports l)
unfolding fitting
fitting-numbers ns l h = of_test (Refuses ns) (line_fits most_ports l) _ _ (each-accepted (Listed ns) l) (from-refused ns 17 nowhere refl h)

keyed-numbers : (k : Kind) (o : Option (List ℕ)) (other : Told Line) → Refuses of_line other → Refuses of_line (keyed largest64 most_ports k o other)
unfolding numbers_told
keyed-numbers k none other h = h
keyed-numbers k (some v) other h =
    each-then (Listed of_line) _ _ (from-need of_line 8 nowhere (numbers_in largest64 (commas k) v) refl (inr (inr (inl refl))))
    (λ x. fitting-numbers of_line (line_of k x) (inr (inr (inr (inl refl)))))

line-numbers : (t : List ℕ) → Refuses of_line (line_in largest64 most_ports t)
unfolding line_in
line-numbers t =
    keyed-numbers swapping (after_key (key swapping) t) _
    (keyed-numbers turning (after_key (key turning) t) _
    (keyed-numbers seating (after_key (key seating) t) _
    (keyed-numbers marking (after_key (key marking) t) _
    (keyed-numbers ending (after_key (key ending) t) _
    (from-refused of_line 7 nowhere refl (inr (inl refl)))))))

read-numbers : (t : List ℕ) (place : ℕ) → Refuses of_line (read_of largest64 most_ports t place)
unfolding read_of
read-numbers t place =
    each-then (Listed of_line) _ _ (from-need of_line 11 nowhere (cut newline (drop place t)) refl (inl refl))
    (λ p. each-then (Listed of_line) _ _ (line-numbers p.front) (λ l. each-accepted (Listed of_line) _))

-- a text that has to fit
room-numbers : (ns : List ℕ) → OneOf ns 2 → (t buf : List ℕ) → Refuses ns (room_of t buf)
unfolding room_of
room-numbers ns h t buf = of_test (Refuses ns) (leb (length t) (length buf)) _ _ (each-accepted (Listed ns) _) (from-refused ns 2 nowhere refl h)

write-numbers : (l : Line) (buf : List ℕ) → Refuses (17 ∷ 2 ∷ []) (write_of most_ports l buf)
unfolding write_of
write-numbers l buf =
    each-then (Listed (17 ∷ 2 ∷ [])) _ _ (fitting-numbers (17 ∷ 2 ∷ []) l (inl refl)) (λ k. room-numbers (17 ∷ 2 ∷ []) (inr (inl refl)) (line_text k) buf)

-- ---- what a plan names

-- the plan's numbers
abbrev of_plan : List ℕ
of_plan = 11 ∷ 7 ∷ 8 ∷ 1 ∷ 9 ∷ 6 ∷ 10 ∷ []

abbrev of_named : List ℕ
of_named = 11 ∷ 7 ∷ 8 ∷ 1 ∷ 9 ∷ 6 ∷ 10 ∷ 2 ∷ []

named-numbers : (t old : List ℕ) → Refuses of_named (named_of t old)
unfolding named_of fitted
named-numbers t old =
    each-then (Listed of_named) (read_plan_of t) _ (with-more of_plan (2 ∷ []) (read_plan_of t) (plan-numbers device 1 t))
    (λ p.
    each-then (Listed of_named) _ _ (room-numbers of_named (inr (inr (inr (inr (inr (inr (inr (inl refl)))))))) (numbers (gaps_of p)) old)
    (λ n. each-accepted (Listed of_named) _))

-- what is left where there is no room, and of a plan that is refused
room-kept : {A : Type 0} (a : A) (room : Told ℕ) (made old : List ℕ) → Keeps (then room (λ n. accepted a)) (leaves room made old) old
room-kept a (accepted n) made old k s e = absurd (true≢false (cc))
room-kept a (refused i r) made old k s e = refl

named-kept : (t old : List ℕ) → Keeps (named_of t old) (named_numbers t old) old
unfolding named_of named_numbers fitted fitted_numbers room_bytes
named-kept t old = by (read_plan_of t)
  where
    by : (told : Told Planned) → Keeps (then told (λ p. fitted p old)) (numbers_after told old) old
    by (accepted p) = room-kept (names_of p) (room_of (numbers (gaps_of p)) old) _ old
    by (refused i r) = λ k s e. refl

-- ---- a refusal's words, and a refusal as a sentence

refusal-words-numbers : (number : ℕ) (buf : List ℕ) → Refuses (2 ∷ []) (refusal_words_of number buf)
unfolding refusal_words_of
refusal-words-numbers number buf = room-numbers (2 ∷ []) (inl refl) (words_of number) buf

refusal-words-kept : (number : ℕ) (buf : List ℕ) → Keeps (refusal_words_of number buf) (refusal_words_bytes number buf) buf
unfolding refusal_words_of refusal_words_bytes room_bytes
refusal-words-kept number buf = kept (room_of (words_of number) buf) _ buf

refusal-sentence-numbers : (number place earlier : ℕ) (buf : List ℕ) → Refuses (2 ∷ []) (refusal_sentence_of number place earlier buf)
unfolding refusal_sentence_of
refusal-sentence-numbers number place earlier buf = room-numbers (2 ∷ []) (inl refl) (sentence_of number place earlier) buf

refusal-sentence-kept : (number place earlier : ℕ) (buf : List ℕ)
    → Keeps (refusal_sentence_of number place earlier buf) (refusal_sentence_bytes number place earlier buf) buf
unfolding refusal_sentence_of refusal_sentence_bytes room_bytes
refusal-sentence-kept number place earlier buf = kept (room_of (sentence_of number place earlier) buf) _ buf

-- ---- states and reports

abbrev of_request : List ℕ
of_request = 15 ∷ 13 ∷ 2 ∷ []

abbrev of_report : List ℕ
of_report = 15 ∷ 14 ∷ 12 ∷ 16 ∷ []

-- what is offered is an order, a seat, a mark, the end, or 15
offer-numbers : (ns : List ℕ) → OneOf ns 15 → (C : Setting) (m : model.State) → RefusesAs ns (offer C m)
unfolding offer
offer-numbers ns h C m =
    of_test (RefusesAs ns) m.ended _ _ (λ k e. absurd (true≢false (cc))) (of_test (RefusesAs ns) (model.seating m) _ _ (λ k e. absurd (true≢false (cc))) (by (todo C m)))
  where
    by : (o : Option (List Order)) → RefusesAs ns (next C m o)
    by none = answer-refusal ns 15 h
    by (some []) = λ k e. absurd (true≢false (cc))
    by (some (o ∷ os)) = λ k e. absurd (true≢false (cc))

request-numbers : (room : ℕ) (s : State) → RefusesAs of_request (answer_of (request room) s)
unfolding answer_of answer
request-numbers room s =
    let C = setting_of s in
    let m = moment_of s in
    of_test (RefusesAs of_request) (places_fit s) _ _
    (of_test (RefusesAs of_request) (not (model.fit C m)) _ _ (answer-refusal of_request 15 (inl refl))
    (of_test (RefusesAs of_request) m.standing _ _ (answer-refusal of_request 13 (inr (inl refl)))
    (of_test (RefusesAs of_request) (ltb room (C.width (offer C m))) _ _ (answer-refusal of_request 2 (inr (inr (inl refl))))
    (offer-numbers of_request (inl refl) C m))))
    (answer-refusal of_request 15 (inl refl))

report-numbers : (o : Option ℕ) (kind : ℕ) (s : State) → RefusesAs of_report (answer_of (report_to o kind) s)
unfolding answer_of answer
report-numbers o kind s =
    let C = setting_of s in
    let m = moment_of s in
    of_test (RefusesAs of_report) (places_fit s) _ _
    (of_test (RefusesAs of_report) (not (model.fit C m)) _ _ (answer-refusal of_report 15 (inl refl))
    (of_test (RefusesAs of_report) (ltb 2 kind) _ _ (answer-refusal of_report 14 (inr (inl refl)))
    (of_test (RefusesAs of_report) (not (stands_for C o m)) _ _ (answer-refusal of_report 12 (inr (inr (inl refl))))
    (of_test (RefusesAs of_report) (is_error (report_of kind) && leb C.limit m.errors) _ _ (answer-refusal of_report 16 (inr (inr (inr (inl refl)))))
    (λ k e. absurd (true≢false (cc)))))))
    (answer-refusal of_report 15 (inl refl))

-- a state that is unfit
status-numbers : (s : State) → Refuses (15 ∷ []) (status_of s)
unfolding status_of
status-numbers s = of_test (Refuses (15 ∷ [])) (fit s) _ _ (each-accepted (Listed (15 ∷ [])) (where_of s)) (from-refused (15 ∷ []) 15 nowhere refl (inl refl))

-- a rehearsal has no mark standing, so its requests are not refused with 13
abbrev of_fill : List ℕ
of_fill = 15 ∷ 2 ∷ []

rehearsal-numbers : (room : ℕ) (r : Rehearsal) → RefusesAs of_fill (answer_of (request room) (state_of r))
unfolding answer_of answer
rehearsal-numbers room r =
    let s = state_of r in
    let C = setting_of s in
    let m = moment_of s in
    of_test (RefusesAs of_fill) (places_fit s) _ _
    (of_test (RefusesAs of_fill) (not (model.fit C m)) _ _ (answer-refusal of_fill 15 (inl refl))
    (of_test (RefusesAs of_fill) (ltb room (C.width (offer C m))) _ _ (answer-refusal of_fill 2 (inr (inl refl))) (offer-numbers of_fill (inl refl) C m)))
    (answer-refusal of_fill 15 (inl refl))

-- and they name no place
fill-nowhere : (n : ℕ) (a : model.Answer) → EachRefusal (λ k s. earlier_number s ≡ 0) (stop_told n (sequel a))
fill-nowhere n (movement o) = each-accepted _ _
fill-nowhere n (seat j) = each-accepted _ _
fill-nowhere n (mark m r) = each-accepted _ _
fill-nowhere n (the_end m) = each-accepted _ _
fill-nowhere n taken = each-accepted _ _
fill-nowhere zero (refusal k) = each-refused _ k nowhere refl
fill-nowhere (suc n) (refusal k) = each-accepted _ _

-- a refused call leaves the state as it was, fit or not
pub state-kept : (c : Call) (s : State) (k : ℕ) → answer_of c s ≡ refusal k → left_of c s ≡ s
unfolding left_of
state-kept c s k e = ap (λ a. calls.after c a s) e ∙ sym (refusal-leaves c k s)

-- and so the buffer
pub buffer-kept : (s : State) (buf : List ℕ) (k : ℕ) → answer_of (request (length buf)) s ≡ refusal k → bytes_of s buf ≡ buf
buffer-kept s buf k e = sym (bytes-stay s buf k e)

-- ---- going on after a power cut

abbrev of_resume : List ℕ
of_resume = 1 ∷ 3 ∷ 4 ∷ 15 ∷ []

resume-numbers : (s : State) (p : List ℕ) → Refuses of_resume (resume_of s p)
unfolding resume_of fit_told
resume-numbers s p =
    each-then (Listed of_resume) (check_as false most_ports p) _
    (λ k q e.
    let h = check-panel-numbers p k q e in
    (either h.0 inl (λ h. either h (λ x. inr (inl x)) (λ h. either h (λ x. inr (inr (inl x))) absurd)), h.1))
    (λ x.
    of_test (Refuses of_resume) (eqb (length p) s.plan.ports && fit (panel_in p s)) _ _ (each-accepted (Listed of_resume) tt)
    (from-refused of_resume 15 nowhere refl (inr (inr (inr (inl refl))))))

resume-kept : (s : State) (p : List ℕ) (k : ℕ) (q : Spot) → resume_of s p ≡ refused k q → resumed_of s p ≡ s
unfolding resumed_of
resume-kept s p k q e = ap (λ x. goes_on x (going_on p s) s) e

-- ---- demand one

pub demand-one : DemandOne
unfolding count_of rank_of unrank_bytes beside_of beside_bytes step_of dictionary_number_of dictionary_pattern_bytes dictionary_next_bytes number_to_rank_of rank_to_number_of port_of jack_of carry_of carry_bytes write_bytes
demand-one = record {
  check = check-numbers;
  check_panel = check-panel-numbers;
  count = λ n. from-sized (1 ∷ []) most_ports n _ (inl refl) (each-accepted (Listed (1 ∷ [])) _);
  rank = λ p. each-then (Listed of_pattern) _ _ (check-numbers p) (λ ok. each-accepted (Listed of_pattern) _);
  unrank = λ r out. listed-numbers (length out) r;
  unrank_keeps = λ r out. kept (unrank_of most_ports r out) _ out;
  beside = λ back p. each-then (Listed of_pattern) _ _ (check-numbers p) (λ ok. each-accepted (Listed of_pattern) _);
  beside_keeps = λ back p. kept (beside_of most_ports back p) _ p;
  step = λ n r z. from-sized (1 ∷ 6 ∷ []) most_ports n _ (inl refl) (ranked-numbers n r _);
  dictionary_number = λ p. each-then (Listed of_pattern) _ _ (check-numbers p) (λ ok. each-accepted (Listed of_pattern) _);
  dictionary_pattern = λ k out. listed-numbers (length out) k;
  dictionary_pattern_keeps = λ k out. kept (dictionary_pattern_of most_ports k out) _ out;
  dictionary_next = check-numbers;
  dictionary_next_keeps = λ p. kept (dictionary_next_of most_ports p) _ p;
  number_to_rank = λ n k. each-then (Listed (1 ∷ 6 ∷ [])) _ _ (listed-numbers n k) (λ ok. each-accepted (Listed (1 ∷ 6 ∷ [])) _);
  rank_to_number = λ n r. each-then (Listed (1 ∷ 6 ∷ [])) _ _ (listed-numbers n r) (λ ok. each-accepted (Listed (1 ∷ 6 ∷ [])) _);
  port_at = λ p j. panel-numbers p _ _;
  jack_of_port = λ p v. panel-numbers p _ _;
  carry = λ l p. panel-numbers p _ _;
  carry_keeps = λ l p. kept (carry_of most_ports l p) _ p;
  read_plan = plan-numbers device 1;
  read_line = read-numbers;
  write_line = write-numbers;
  write_keeps = λ l buf. kept (write_of most_ports l buf) _ buf;
  named = named-numbers;
  named_keeps = named-kept;
  refusal_words = refusal-words-numbers;
  refusal_words_keeps = refusal-words-kept;
  refusal_sentence = refusal-sentence-numbers;
  refusal_sentence_keeps = refusal-sentence-kept;
  asked = request-numbers;
  reported = report-numbers none;
  reported_mark = λ m. report-numbers (some m);
  status = status-numbers;
  state_keeps = state-kept;
  buffer_keeps = buffer-kept;
  resume = resume-numbers;
  resume_keeps = resume-kept;
  rehearse = λ t. each-then (Listed of_plan) _ _ (plan-numbers device 1 t) (λ p. each-accepted (Listed of_plan) tt);
  fill = λ room r k p e. (
    rehearsal-numbers room r k (refused-first room (state_of r) k p e),
    λ d. fill-nowhere (length (lines_in room (state_of r)).text) (lines_in room (state_of r)).stop k p e,
  );
  fill_keeps = rehearsal-stays;
  fill_bytes_keeps = λ r buf. line-bytes-stay (state_of r) buf;
}
