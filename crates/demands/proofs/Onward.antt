-- Demand three from any state on that is not refused with 15: for the code (`onward-left`), for the bytes (`onward-bytes`) and for the words of the calls for C
-- (`onward-words`). And after a power cut in any call: whichever of the two states was saved and whichever of the two panels stands, what the call `resume`
-- gives is the state before the cut call or the one after it, with the panel that stands and its seats begun anew (`cut-resumed`).
-- Assumes nothing.
use mathlib.Core.Path.{◌≡◌, refl, sym, ap, subst, ◌∙◌}
use mathlib.Core.Logic.{◌⊎◌, inl, inr}
use mathlib.Core.Bool.{true, and-eq-true_iff}
use mathlib.Core.List.{List, [], ◌∷◌, ◌++◌, map}
use mathlib.Core.Option.{some}
use Prim.Native.Nat.{ℕ, ◌-◌}
use native.Mathlib.Omega.{arith}
use lib.ListN.{length, take, drop, replicate, length-drop, take-append-drop}
use lib.Dec.{eqb}
use lib.Seq.{length-take-le}
use borrow.Author.Tests.{eqb-true}
use Rattle.listing.specs.Limits.{most_ports}
use Rattle.listing.specs.Pattern.{Permutation}
use Rattle.listing.proofs.Numbers.{either}
use Rattle.words.specs.Told.{accepted}
use Rattle.words.specs.Padded.{padded}
use Rattle.pattern_check.proofs.Accepted.{Panel, panel-accepted}
use Rattle.promise.specs.Campaign as model
use Rattle.promise.specs.Campaign.{with_panel, Setting, Call, after}
use Rattle.promise.specs.Bench.{acts, run, leaves}
use Rattle.promise.specs.Onward.{Onward, past_of}
use Rattle.promise.specs.Seats.{Reseats, seat_due}
use Rattle.promise.proofs.Fitness.{tells-fit}
use Rattle.promise.proofs.Onward.{onward-fit}
use Rattle.promise.proofs.Past.{own-past}
use Rattle.promise.proofs.Seats.{reseats-onward}
use Rattle.promise_onward.specs.Resume.{anew}
use Rattle.promise_onward.specs.Cuts.{left, Cut}
use Rattle.promise_onward.proofs.Panels.{fit-anew}
use Rattle.promise_onward.proofs.Cuts.{saved-itself, cut-so}
use Rattle.plan_rules.specs.Planned.{device}
use Rattle.plan_rules.specs.Rules.{plan_ruled}
use Rattle.plan_rules.specs.declared.Plan.{Plan}
use Rattle.campaign_state.specs.State.{setting_of, moment_of}
use Rattle.campaign_state.specs.Fitness.{empty_from, places_fit, fit}
use Rattle.campaign_state.specs.declared.State.{State}
use Rattle.campaign_state.proofs.Fit.{fit_parts, moment-fit}
use Rattle.campaign_state.proofs.Places.{Sized, empty-from}
use Rattle.campaign.specs.Calls.{left_of}
use Rattle.campaign_onward.specs.Calls.{with_places, panel_in, seats_anew, going_on, resume_of, resumed_of, goes_on}
use Rattle.campaign_onward.proofs.Resumes.{goes-fit, panel-taken}
use Rattle.campaign_reached.specs.Turns.{AcceptedPlan, Called, call_of, turns_of, left_after}
use Rattle.campaign_reached.proofs.Begun.{lawful, accepts, plan-fits}
use Rattle.campaign_reached.proofs.Kept.{Kept, turns-model, left_so, left-model, left-places}
use Rattle.campaign_reached.proofs.Own.{own, own-reached}
use Rattle.campaign_reached.proofs.Reached.{Reached, reached-left}
use Rattle.face_state.specs.States.{state_in, state_words}
use Rattle.face_laws.specs.Calls.{resume_told, resume_words}
use Rattle.face_laws.proofs.Resumes.{resume-told, resume-left}
use Rattle.face_reached.proofs.InRange.{words-hold}
use Rattle.face_reached.proofs.Read.{Read, read-own}
use Rattle.demands.specs.Robot.{robot_acts}
use Rattle.demands.specs.Words.{words_after, moment_in, turns_in, robot_in}
use Rattle.demands.proofs.Bytes.{sees-from}
use Rattle.demands.proofs.Words.{after_read, moment-read, turns-read, robot-read}

-- ---- from any fit state on

module _ (s : State) (z : Sized s) (f : fit s ≡ true) where
  -- its plan, and what holds of the states that calls on it leave
  abbrev P : AcceptedPlan
  P = own s z f

  abbrev C : Setting
  C = setting_of s

  R : Reached P s
  R = own-reached s z f

  module _ (cs : List Called) where
    -- demand three goes on from there: of the turns, and of the state that the code leaves
    pub onward-left : Onward C (moment_of s).panel (moment_of s) (past_of C (moment_of s)) (turns_of cs s) (acts (turns_of cs s)) (moment_of (left_after cs s))
    onward-left =
        let m = moment_of s in
        let turned : turns_of cs s ≡ run C (map call_of cs) m = turns-model C cs s R.kept refl in
        let stays : moment_of (left_after cs s) ≡ leaves m (run C (map call_of cs) m) = (left_so C cs s R.kept refl).moment ∙ ap (leaves m) turned in
        rw (turned, stays) (onward-fit C (lawful P) (accepts P) m R.fit (map call_of cs) m.panel refl)

    -- after an error the seats come in turn and then the same mark, from there on too
    pub reseats-left : let past = past_of C (moment_of s) in Reseats C.family.ports past.mark (seat_due C (moment_of s) past) (acts (turns_of cs s))
    reseats-left =
        let m = moment_of s in
        let turned : turns_of cs s ≡ run C (map call_of cs) m = turns-model C cs s R.kept refl in
        rw turned (reseats-onward C (lawful P) (accepts P) m R.fit (past_of C m) (own-past C (lawful P) (accepts P) m R.fit) (map call_of cs))

    -- of what a robot reads from the bytes alone, on a panel that is the state's
    pub onward-bytes : Onward C (moment_of s).panel (moment_of s) (past_of C (moment_of s)) (turns_of cs s) (robot_acts cs s) (moment_of (left_after cs s))
    onward-bytes = rw (sees-from P cs s R) onward-left

-- of the calls for C, on any words of a state that is fit
pub onward-words : (ws : List ℕ) (s : State) → state_in ws ≡ some s → fit s ≡ true → (cs : List Called)
    → let C = setting_of s in
    Onward C (moment_in ws).panel (moment_in ws) (past_of C (moment_in ws)) (turns_in cs ws) (robot_in cs ws) (moment_in (words_after cs ws))
onward-words ws s e f cs =
    let z : Sized s = (words-hold ws s e).sized in
    let P : AcceptedPlan = own s z f in
    let r : Read P ws s = read-own ws s e f in
    let here : moment_in ws ≡ moment_of s = moment-read P ws s r in
    let left : moment_in (words_after cs ws) ≡ moment_of (left_after cs s) = moment-read P (words_after cs ws) (left_after cs s) (after_read P cs ws s r) in
    let C = setting_of s in
    subst (λ m. Onward C m.panel m (past_of C m) (turns_in cs ws) (robot_in cs ws) (moment_in (words_after cs ws))) (sym here)
    (rw (turns-read P cs ws s r, robot-read P cs ws s r, left) (onward-bytes s z f cs))

-- ---- a state is its plan, its moment, and zeros beyond the ports

-- places that are all 0
zeros-are : (l : List ℕ) → empty_from 0 l ≡ true → l ≡ replicate (length l) 0
unfolding empty_from
zeros-are [] e = refl
zeros-are (x ∷ l) e =
    let both = (and-eq-true_iff (eqb x 0) (empty_from 0 l)).0 e in
    ap (λ y. y ∷ l) (eqb-true x 0 both.0) ∙ ap (λ m. 0 ∷ m) (zeros-are l both.1)

-- with its own panel put in a state is as it was
own_in : (s : State) → Sized s → Kept s → panel_in (moment_of s).panel s ≡ s
unfolding places_fit
own_in s z k =
    let n = s.plan.ports in
    let rest = drop n s.panel in
    let empty : empty_from 0 rest ≡ true = sym (empty-from n s.panel) ∙ ((and-eq-true_iff (plan_ruled device s.plan) (empty_from n s.panel)).0 k.fit).1 in
    let long : most_ports - length (take n s.panel) ≡ length rest =
    omega (arith, length-take-le n s.panel k.room, length-drop n s.panel, z.panel, k.room) in
    ap (λ q. with_places q s)
    (ap (λ j. take n s.panel ++ replicate j 0) long ∙ ap (λ l. take n s.panel ++ l) (sym (zeros-are rest empty)) ∙ take-append-drop n s.panel)

-- a panel put into x makes y where it makes the moment of y and the plan is that of y
put-so : (x y : State) (q : List ℕ) → x.plan ≡ y.plan → with_panel q (moment_of x) ≡ moment_of y → panel_in q x ≡ panel_in (moment_of y).panel y
put-so x y q p e = λ i. record {
  plan = p i;
  panel = padded most_ports 0 (e i).panel;
  leg = (e i).leg;
  step = (e i).step;
  covered = (e i).covered;
  opened = (e i).opened;
  errors = (e i).errors;
  standing = (e i).standing;
  ended = (e i).ended;
  seat = (e i).to_seat;
}

-- ---- after a power cut

-- going on from the saved state x with the panel q that stands is accepted, and gives y, whose panel that is
pub record GoesOnAs (x : State) (q : List ℕ) (y : State) : Type 0 where
  pub told : resume_of x q ≡ accepted tt
  pub gives : resumed_of x q ≡ y
  pub panel : q ≡ (moment_of y).panel

module _ (P : AcceptedPlan) where
  -- so it is, its seats begun anew, where the panel makes the moment of a state that calls leave
  goes-as : (x y : State) (q : List ℕ) → Reached P y → Sized y → fit y ≡ true → x.plan ≡ y.plan → with_panel q (moment_of x) ≡ moment_of y
      → GoesOnAs x q (seats_anew y)
  unfolding resumed_of
  goes-as x y q R z f p e =
      let put : panel_in q x ≡ y = put-so x y q p e ∙ own_in y z R.kept in
      let panel : q ≡ (moment_of y).panel = ap (λ (m : model.State). m.panel) e in
      let long : length q ≡ y.plan.ports = ap length panel ∙ length-take-le y.plan.ports y.panel R.kept.room in
      let is : Permutation P.plan.ports q = subst (Permutation P.plan.ports) (sym panel) R.permutation in
      let fits = plan-fits P in
      let one : Panel most_ports q = record { low = omega (arith, is.long, fits.few_ports); high = omega (arith, is.long, fits.many_ports); is = rw is.long is } in
      let told : accepted tt ≡ resume_of x q =
      goes-fit x q (long ∙ ap (λ (r : Plan). r.ports) (sym p)) (sym (ap fit put ∙ f)) ∙ panel-taken x q (panel-accepted most_ports q one) in
      record { told = sym told; gives = ap (λ r. goes_on r (going_on q x) x) (sym told) ∙ ap seats_anew put; panel = panel }

-- a fit state is fit with its seats begun anew
pub anew-fit : (s : State) → Sized s → fit s ≡ true → Sized (seats_anew s) × (fit (seats_anew s) ≡ true)
unfolding fit places_fit
anew-fit s z f =
    let m = moment_of s in (
      record { starts = z.starts; runs = z.runs; panel = z.panel },
      (and-eq-true_iff (places_fit s) (model.fit (setting_of s) (anew m))).1
          ((fit_parts s f).0, (tells-fit (setting_of s) (anew m)).1 (fit-anew (setting_of s) m (moment-fit s f))),
    )

-- a call that was cut short on a fit state: whichever of the two states was saved, and whichever of the two panels stands
module _ (s : State) (z : Sized s) (f : fit s ≡ true) (c : Call) where
  -- the state that the call leaves is fit too
  pub left-fit : (Reached (own s z f) (left_of c s)) × Sized (left_of c s) × (fit (left_of c s) ≡ true)
  unfolding left_of fit
  left-fit =
      let R = own-reached s z f in
      let L = reached-left (own s z f) s R c in (
        L,
        record { starts = z.starts; runs = z.runs; panel = left-places s R.kept c ∙ z.panel },
        (and-eq-true_iff (places_fit (left_of c s)) (model.fit (setting_of s) (moment_of (left_of c s)))).1 (L.kept.fit, (tells-fit (setting_of s) (moment_of (left_of c s))).1 L.fit),
      )

  -- it goes on as the state before the call or as the one after it, its seats begun anew: no movement is lost and none is done twice
  pub cut-resumed : (x : State) (q : List ℕ) → (x ≡ s) ⊎ (x ≡ left_of c s) → (q ≡ (moment_of s).panel) ⊎ (q ≡ (moment_of (left_of c s)).panel)
      → GoesOnAs x q (seats_anew s) ⊎ GoesOnAs x q (seats_anew (left_of c s))
  unfolding left_of
  cut-resumed x q saved read =
      let P : AcceptedPlan = own s z f in
      let R : Reached P s = own-reached s z f in
      let C : Setting = setting_of s in
      let m = moment_of s in
      let on : moment_of (left_of c s) ≡ left C c m = left-model s R.kept c in
      let plan : x.plan ≡ s.plan = either saved (ap (λ (t : State). t.plan)) (ap (λ (t : State). t.plan)) in
      let cut : Cut C c m (moment_of x) q = record {
        saved = either saved (λ e. inl (saved-itself m (moment_of x) (ap moment_of e))) (λ e. inr (saved-itself (left C c m) (moment_of x) (ap moment_of e ∙ on)));
        read = either read (λ e. inl e) (λ e. inr (e ∙ ap (λ (t : model.State). t.panel) on));
      } in
      either (cut-so C (lawful P) (accepts P) c m R.fit (past_of C m) (own-past C (lawful P) (accepts P) m R.fit) (moment_of x) q cut)
      (λ u. inl (goes-as P x s q R z f plan u.same))
      (λ u. inr (goes-as P x (left_of c s) q left-fit.0 left-fit.1 left-fit.2 plan (u.same ∙ sym on)))

-- so for C: the words that `jidrofex_resume` leaves of words of the saved state are those of the state that goes on
pub resumed-words : (ws : List ℕ) (x y : State) (q : List ℕ) → state_in ws ≡ some x → GoesOnAs x q y → (resume_told q ws ≡ accepted tt) × (resume_words q ws ≡ state_words y)
unfolding resumed_of
resumed-words ws x y q e g =
    (sym (resume-told q ws (sym e)) ∙ g.told, sym (resume-left q ws (sym e) refl) ∙ ap state_words g.gives)
