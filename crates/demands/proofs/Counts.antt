-- Only reports raise covered (`only-reports-raise`): of every state and every call, in the code and in the words for C.
-- Assumes nothing.
use mathlib.Core.Path.{◌≡◌, refl, sym, ap, ◌∙◌}
use mathlib.Core.Bool.{false}
use mathlib.Core.List.{List}
use mathlib.Core.Option.{none}
use Prim.Native.Nat.{ℕ, zero, suc, ◌+◌}
use native.Mathlib.Omega.{arith}
use lib.ListN.{length, take, drop, length-append, take-append-drop}
use Rattle.listing.proofs.Numbers.{either, test}
use Rattle.listing.specs.Limits.{most_ports}
use Rattle.words.specs.Told.{Told, accepted, refused, leaves}
use Rattle.words.proofs.Told.{then-accepted}
use Rattle.words.proofs.Padded.{padded-length}
use Rattle.pattern_check.specs.Calls.{check_as}
use Rattle.promise.specs.Campaign as model
use Rattle.promise.specs.Campaign.{Setting, Call, request, report_to, report, report_of, tallied, Answer, movement, seat, mark, the_end, taken, refusal, closed, heard}
use Rattle.campaign_state.specs.State.{setting_of, moment_of}
use Rattle.campaign_state.specs.declared.State.{State}
use Rattle.campaign_state.proofs.Places.{Sized}
use Rattle.campaign.specs.Calls.{answer_of, after, left_of, told_of}
use Rattle.campaign_onward.specs.Calls.{going_on, fit_told, resume_of, resumed_of, goes_on}
use Rattle.campaign_onward.proofs.Resumes.{few-ports}
use Rattle.campaign_reached.proofs.Kept.{closed-leaves, after-length}
use Rattle.face_state.specs.States.{covered_place, state_at, state_in, within, limits, word}
use Rattle.face_state.proofs.Within.{within-length}
use Rattle.face_state.proofs.StateWords.{last_word, is_state, no-state}
use Rattle.face_state.proofs.RehearsalWords.{sized-at}
use Rattle.face_laws.specs.Calls.{states, told_by, called_told, called_words, left_in, resume_told, resume_words}
use Rattle.face_laws.proofs.OnState.{on-told, off-told, off-left}
use Rattle.face_laws.proofs.Stays.{called-left}
use Rattle.face_laws.proofs.Resumes.{resume-left}
use Rattle.demands.specs.Counts.{raised, raised_by, OnlyReportsRaise}

-- ---- a state

-- closing a mark leaves covered
closed-covered : (C : Setting) (m : model.State) → (closed C m).covered ≡ m.covered
closed-covered C m = closed-leaves (λ s. s.covered) C m (λ i k b. refl)

-- a report that is taken adds one if it is of kind 0
heard-covered : (C : Setting) (kind : ℕ) (m : model.State) → (heard C (report_of kind) m).covered ≡ raised (report kind) taken + m.covered
unfolding heard
heard-covered C zero m = closed-covered C (tallied model.ran m)
heard-covered C (suc zero) m = refl
heard-covered C (suc (suc k)) m = closed-covered C (tallied model.gave_up m)

-- what a call adds, by its answer
after-covered : (c : Call) (a : Answer) (s : State) → (after c a s).covered ≡ raised c a + s.covered
unfolding model.after
after-covered (request room) (movement o) s = omega arith
after-covered (request room) (seat j) s = omega arith
after-covered (request room) (mark k r) s = omega arith
after-covered (request room) (the_end k) s = omega arith
after-covered (request room) taken s = omega arith
after-covered (request room) (refusal k) s = omega arith
after-covered (report_to m kind) (movement o) s = omega arith
after-covered (report_to m kind) (seat j) s = omega arith
after-covered (report_to m kind) (mark k r) s = omega arith
after-covered (report_to m kind) (the_end k) s = omega arith
after-covered (report_to m kind) taken s = heard-covered (setting_of s) kind (moment_of s)
after-covered (report_to m kind) (refusal k) s = omega arith

left-covered : (c : Call) (s : State) → (left_of c s).covered ≡ raised c (answer_of c s) + s.covered
unfolding left_of
left-covered c s = after-covered c (answer_of c s) s

-- ---- its words

-- a call leaves as many places
sized-left : (c : Call) (s : State) → Sized s → Sized (left_of c s)
unfolding left_of
sized-left c s z =
    let n = s.plan.ports in
    let q = (model.after (setting_of s) c (answer_of c s) (moment_of s)).panel in
    let same = after-length (setting_of s) c (answer_of c s) (moment_of s) in
    record {
      starts = z.starts;
      runs = z.runs;
      panel = omega (arith, length-append q (drop n s.panel), same, length-append (take n s.panel) (drop n s.panel), ap length (take-append-drop n s.panel), z.panel);
    }

-- what an answer adds, by what is told
told-raised : (c : Call) (a : Answer) → raised c a ≡ raised_by c (told_of a)
told-raised c (movement o) = refl
told-raised c (seat j) = refl
told-raised c (mark k r) = refl
told-raised c (the_end k) = refl
told-raised c taken = refl
told-raised (request room) (refusal k) = refl
told-raised (report_to m kind) (refusal k) = refl

words-covered : (c : Call) (ws : List ℕ) → word (called_words c ws) covered_place ≡ raised_by c (called_told c ws) + word ws covered_place
unfolding left_of
words-covered c ws =
    either (test (within ws limits))
    (λ t.
    let s = state_at ws in
    let is = is_state ws t s refl in
    let z = sized-at ws (within-length ws limits t) in
    ap (λ x. word x covered_place) (sym (called-left c ws is refl))
    ∙ last_word (left_of c s) (sized-left c s z) covered_place (omega arith)
    ∙ left-covered c s
    ∙ ap (λ k. k + s.covered) (told-raised c (answer_of c s) ∙ ap (raised_by c) (on-told states (told_by c) ws is)))
    (λ t.
    let no = no-state ws t in
    let told : raised_by c (called_told c ws) ≡ 0 = ap (raised_by c) (sym (off-told states ws no (told_by c))) in
    let left : word (called_words c ws) covered_place ≡ word ws covered_place = ap (λ x. word x covered_place) (sym (off-left states ws no (told_by c) (left_of c))) in
    omega (arith, told, left))

-- ---- going on

resumed-covered : (s : State) (p : List ℕ) → (resumed_of s p).covered ≡ s.covered
unfolding resumed_of
resumed-covered s p = by (resume_of s p)
  where
    by : (t : Told (Unit {0})) → (goes_on t (going_on p s) s).covered ≡ s.covered
    by (accepted x) = refl
    by (refused k q) = refl

-- it leaves as many places
sized-resumed : (s : State) (p : List ℕ) → Sized s → (t : Told (Unit {0})) → resume_of s p ≡ t → Sized (goes_on t (going_on p s) s)
unfolding resume_of
sized-resumed s p z (refused k q) e = z
sized-resumed s p z (accepted x) e = record {
  starts = z.starts;
  runs = z.runs;
  panel = padded-length most_ports 0 p (few-ports p (sym (then-accepted (check_as false most_ports p) (λ y. fit_told s p) x e).taken));
}

-- and words that are no state as they were
none_left : (p ws : List ℕ) → none ≡ state_in ws → resume_words p ws ≡ ws
unfolding resume_words
none_left p ws e = by (resume_told p ws)
  where
    by : (t : Told (Unit {0})) → leaves t (left_in states (going_on p) (state_in ws) ws) ws ≡ ws
    by (accepted x) = ap (λ o. left_in states (going_on p) o ws) (sym e)
    by (refused k q) = refl

resumed-words : (p ws : List ℕ) → word (resume_words p ws) covered_place ≡ word ws covered_place
unfolding resumed_of
resumed-words p ws =
    either (test (within ws limits))
    (λ t.
    let s = state_at ws in
    ap (λ x. word x covered_place) (sym (resume-left p ws (is_state ws t s refl) refl))
    ∙ last_word (resumed_of s p) (sized-resumed s p (sized-at ws (within-length ws limits t)) (resume_of s p) refl) covered_place (omega arith)
    ∙ resumed-covered s p)
    (λ t. ap (λ x. word x covered_place) (none_left p ws (no-state ws t)))

-- ---- all of them

pub only-reports-raise : OnlyReportsRaise
only-reports-raise = record {
  state = left-covered;
  first = λ t. refl;
  resumed = resumed-covered;
  words = words-covered;
  resumed_words = resumed-words;
}
