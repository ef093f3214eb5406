-- Answers and the states beside them: what is refused, what is taken, what is handed out.
-- Assumes nothing.
use mathlib.Core.Path.{◌≡◌, refl, sym, ap, ◌∙◌, subst}
use mathlib.Core.Bool.{Bool, true, false, not, cond}
use mathlib.Core.List.{List}
use mathlib.Core.Option.{Option}
use Prim.Native.Nat.{ℕ, ◌≤◌}
use native.Mathlib.Omega.{arith}
use lib.Dec.{ltb}
use lib.ListN.{length}
use borrow.Author.Tests.{ltb-false}
use Rattle.words.specs.Told.{Told, Spot, accepted, refused, nowhere}
use Rattle.words.specs.Meaning.{number_of}
use Rattle.words.specs.declared.Jack.{Jack}
use Rattle.words.specs.declared.Line.{Line}
use Rattle.words.specs.declared.Line.TheVariants.{Movement, Seat, Mark, End}
use Rattle.words.specs.declared.Reason.{Reason}
use Rattle.words.specs.declared.Place.TheVariants.{Nowhere}
use Rattle.words.proofs.Told.{not-both}
use Rattle.promise.proofs.Refusals.{stands-none}
use Rattle.promise.specs.Campaign as model
use Rattle.promise.specs.Campaign.{Call, request, report_to, report, movement, seat, mark, the_end, taken, refusal, fit, offer}
use Rattle.promise.specs.Derangements.{derangements}
use Rattle.line_format.specs.Calls.{over}
use Rattle.campaign_state.specs.State.{answer_text, width, setting_of, moment_of}
use Rattle.campaign_state.specs.Fitness.{places_fit}
use Rattle.campaign_state.specs.declared.State.{State}
use Rattle.campaign.specs.Calls.{answer_of, told_of, after, left_of, bytes_of, line_is}
use Rattle.campaign.specs.Answers.{answer_told, heard_told, RequestIs, ReportIs, UnheardIs}
use Rattle.campaign.specs.declared.Requested.{Requested}
use Rattle.campaign.specs.declared.Reported.{Reported}
use Rattle.campaign.proofs.Moments.{made, panel-stays, moment-stays, refusal-leaves}
use Rattle.std.specs.declared.result.Result.TheVariants.{Ok, Err}

module _ (c : Call) (a : model.Answer) (s : State) where
  -- a refused request
  pub request-refused : (r : Requested) (why : Reason) (k : ℕ)
      → r ≡ record { campaign = record { state = s }; answer = Err (record { reason = why; place = Nowhere }); written = 0 }
      → number_of why ≡ k → a ≡ refusal k → RequestIs c a s r
  request-refused r why k e n f = record {
    answer = ap (λ x. answer_told x.answer) e ∙ ap (λ j. refused j nowhere) n ∙ ap told_of (sym f);
    state = ap (λ x. x.campaign.state) e ∙ refusal-leaves c k s ∙ ap (λ x. after c x s) (sym f);
    written = ap (λ x. x.written) e ∙ ap width (sym f);
  }

  -- a refused report
  pub report-refused : (r : Reported) (why : Reason) (k : ℕ)
      → r ≡ record { campaign = record { state = s }; answer = Err (record { reason = why; place = Nowhere }) }
      → number_of why ≡ k → a ≡ refusal k → ReportIs c a s r
  report-refused r why k e n f = record {
    answer = ap (λ x. heard_told x.answer) e ∙ ap (λ j. refused j nowhere) n ∙ ap told_of (sym f);
    state = ap (λ x. x.campaign.state) e ∙ refusal-leaves c k s ∙ ap (λ x. after c x s) (sym f);
  }

  -- a report that is taken
  pub report-taken : (r : Reported) (t : State) → r ≡ record { campaign = record { state = t }; answer = Ok tt } → a ≡ taken → t ≡ after c taken s
      → ReportIs c a s r
  report-taken r t e f g = record {
    answer = ap (λ x. heard_told x.answer) e ∙ ap told_of (sym f);
    state = ap (λ x. x.campaign.state) e ∙ g ∙ ap (λ x. after c x s) (sym f);
  }

-- the same answer under another name
pub request-as : (c : Call) (a b : model.Answer) (s : State) (r : Requested) → a ≡ b → RequestIs c a s r → RequestIs c b s r
request-as c a b s r e h = subst (λ x. RequestIs c x s r) e h

-- a refusal tells the same of any call
pub retold : {A B : Type 0} (j k : ℕ) (p q : Spot) → ◌≡◌ {A = Told A} (refused j p) (refused k q) → ◌≡◌ {A = Told B} (refused j p) (refused k q)
retold j k p q e = let n : j ≡ k = cc in let s : p ≡ q = cc in λ i. refused (n i) (s i)

-- what is told is told of one answer
pub told-given : (a : model.Answer) {b : model.Answer} → told_of a ≡ accepted b → a ≡ b
told-given (movement o) e = cc
told-given (seat j) e = cc
told-given (mark k r) e = cc
told-given (the_end k) e = cc
told-given taken e = cc
told-given (refusal k) e = absurd (not-both e)

pub told-refused : (a : model.Answer) {k : ℕ} {p : Spot} → told_of a ≡ refused k p → a ≡ refusal k
told-refused (movement o) e = absurd (not-both (sym e))
told-refused (seat j) e = absurd (not-both (sym e))
told-refused (mark j r) e = absurd (not-both (sym e))
told-refused (the_end j) e = absurd (not-both (sym e))
told-refused taken e = absurd (not-both (sym e))
told-refused (refusal j) {k} e = let n : j ≡ k = cc in ap refusal n

-- what an answer leaves does not depend on the room
pub any-room : (r q : ℕ) (a : model.Answer) (s : State) → after (request r) a s ≡ after (request q) a s
unfolding model.after
any-room r q (movement o) s = refl
any-room r q (seat j) s = refl
any-room r q (mark k j) s = refl
any-room r q (the_end k) s = refl
any-room r q taken s = refl
any-room r q (refusal k) s = refl

-- the state that is left, by the answer
pub left_so : (c : Call) (s : State) {left : State} → left ≡ after c (answer_of c s) s → left ≡ left_of c s
unfolding left_of
left_so c s e = e

-- a line that was handed out
pub line-told : (l : Line) → answer_told (Ok l) ≡ told_of (line_is l)
line-told (Movement o) = refl
line-told (Seat j) = refl
line-told (Mark k r) = refl
line-told (End k) = refl

pub line-leaves-seat : (j : Jack) (s : State) (k : ℕ) → k ≡ model.seat_after s.plan.ports j.0
    → made s s.leg s.step s.covered s.opened s.errors s.standing s.ended k s.panel ≡ after (request 0) (line_is (Seat j)) s
unfolding model.after derangements
line-leaves-seat j s k e =
    ap (λ x. made s s.leg s.step s.covered s.opened s.errors s.standing s.ended x s.panel) e
    ∙ sym (panel-stays (model.with_seat (model.seat_after s.plan.ports j.0) (moment_of s)) s refl)

pub line-leaves-mark : (k r : ℕ) (s : State)
    → made s s.leg s.step s.covered s.opened s.errors true s.ended s.seat s.panel ≡ after (request 0) (line_is (Mark k r)) s
unfolding model.after
line-leaves-mark k r s = sym (panel-stays (model.with_mark true (moment_of s)) s refl)

pub line-leaves-end : (k : ℕ) (s : State) → s ≡ after (request 0) (line_is (End k)) s
unfolding model.after
line-leaves-end k s = sym (moment-stays s)

-- the bytes that a request leaves, by its answer
pub bytes-by : (s : State) (buf : List ℕ) (a : model.Answer) → answer_of (request (length buf)) s ≡ a → over (answer_text a) buf ≡ bytes_of s buf
unfolding bytes_of
bytes-by s buf a e = ap (λ x. over (answer_text x) buf) (sym e)

pub bytes-stay : (s : State) (buf : List ℕ) (k : ℕ) → answer_of (request (length buf)) s ≡ refusal k → buf ≡ bytes_of s buf
bytes-stay s buf k e = bytes-by s buf (refusal k) e

-- what an answer leaves does not depend on whether the report named its mark
any_name : (o : Option ℕ) (kind : ℕ) (a : model.Answer) (s : State) → after (report kind) a s ≡ after (report_to o kind) a s
unfolding model.after
any_name o kind (movement x) s = refl
any_name o kind (seat j) s = refl
any_name o kind (mark k j) s = refl
any_name o kind (the_end k) s = refl
any_name o kind taken s = refl
any_name o kind (refusal k) s = refl

-- so where it is answered as one that names none, it is that report
pub report-named : (o : Option ℕ) (kind : ℕ) (s : State) (r : Reported) → answer_of (report_to o kind) s ≡ answer_of (report kind) s
    → ReportIs (report kind) (answer_of (report kind) s) s r → ReportIs (report_to o kind) (answer_of (report_to o kind) s) s r
report-named o kind s r e h = record {
  answer = h.answer ∙ ap told_of (sym e);
  state = h.state ∙ any_name o kind (answer_of (report kind) s) s ∙ ap (λ a. after (report_to o kind) a s) (sym e);
}

-- where no mark stands, none stands for any report
pub unheard : (o : Option ℕ) {kind : ℕ} {s : State} {r : Reported} → UnheardIs kind s r → s.standing ≡ false
    → ReportIs (report_to o kind) (answer_of (report_to o kind) s) s r
unheard o {s = s} h st = h o (stands-none (setting_of s) (moment_of s) o st)

-- a report by the number of its kind
pub report-kind : (j k : ℕ) (s : State) (r : Reported) → k ≡ j → ReportIs (report j) (answer_of (report j) s) s r → ReportIs (report k) (answer_of (report k) s) s r
report-kind j k s r e h = subst (λ x. ReportIs (report x) (answer_of (report x) s) s r) (sym e) h

-- ---- the room

-- what a request writes fits the room
pub within-room : (room : ℕ) (s : State) → width (answer_of (request room) s) ≤ room
unfolding answer_of model.answer
within-room room s =
    let C = setting_of s in
    let m = moment_of s in
    by (places_fit s) (fit C m) m.standing (ltb room (width (offer C m))) refl
  where
    by : (a b c d : Bool) → ltb room (width (offer (setting_of s) (moment_of s))) ≡ d
        → width (cond a (cond (not b) (refusal 15) (cond c (refusal 13) (cond d (refusal 2) (offer (setting_of s) (moment_of s))))) (refusal 15)) ≤ room
    by false b c d e = omega arith
    by true false c d e = omega arith
    by true true true d e = omega arith
    by true true false true e = omega arith
    by true true false false e = ltb-false room (width (offer (setting_of s) (moment_of s))) e
