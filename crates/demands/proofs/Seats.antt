-- Request 4: after an error every jack is seated anew before the mark comes again, on any accepted plan and with any calls; what the state, the lines and the
-- refusals gain by it (`reseat-after-error`).
-- Assumes nothing.
use mathlib.Core.Path.{◌≡◌, sym, ap, subst, ◌∙◌}
use mathlib.Core.Bool.{Bool, true, false, not, cond, true≢false}
use mathlib.Core.List.{List, [], ◌∷◌, map}
use mathlib.Core.Option.{Option, none, some}
use Prim.Native.Nat.{ℕ, ◌<◌}
use native.Mathlib.Omega.{arith}
use lib.ListN.{length}
use lib.Dec.{ltb}
use borrow.Author.Tests.{lt-ltb}
use Rattle.listing.specs.Numbers.{Among}
use Rattle.listing.specs.Orders.{Order}
use Rattle.listing.specs.Limits.{most_ports, largest64}
use Rattle.listing.proofs.Numbers.{either, test}
use Rattle.words.specs.Told.{accepted, refused, nowhere, then}
use Rattle.words.specs.Meaning.{jack_at}
use Rattle.words.specs.Shape.{one_of, line_fits}
use Rattle.words.specs.declared.Jack.{Jack}
use Rattle.words.specs.declared.Line.TheVariants.{Seat}
use Rattle.words.proofs.Shape.{one-of}
use Rattle.pattern_check.proofs.Accepted.{Panel, panel-accepted}
use Rattle.line_format.proofs.Inverse.{read-written, written_read}
use Rattle.line_format.proofs.Written.{write-unfit}
use Rattle.panel.specs.Calls.{on_panel, carry_of}
use Rattle.panel.proofs.Carried.{seat-left}
use Rattle.promise.specs.Campaign as model
use Rattle.promise.specs.Plan.{marks}
use Rattle.promise.specs.Campaign.{Call, request, report_to, seat, the_end, taken, refusal, tick, wanted}
use Rattle.promise.specs.Derangements.{derangements}
use Rattle.promise.specs.Bench.{acts}
use Rattle.promise.specs.Seats.{Reseated}
use Rattle.promise.specs.Fitness as promise
use Rattle.promise.proofs.Refusals.{stands-none}
use Rattle.promise.proofs.Seats.{reseated, no-seats, row-after-errors}
use Rattle.campaign_state.specs.State.{setting_of, moment_of}
use Rattle.campaign_state.specs.Fitness.{places_fit, fit}
use Rattle.campaign_state.specs.declared.State.{State}
use Rattle.campaign_state.proofs.Fit.{moment-fit}
use Rattle.campaign.specs.Calls.{answer_of, left_of, after}
use Rattle.campaign.proofs.Asked.{unfit-answer, none-answer}
use Rattle.plan_rules.specs.Rules.{legs_of}
use Rattle.campaign_onward.specs.Calls.{going_on, goes_on, resumed_of}
use Rattle.campaign_reached.specs.Turns.{AcceptedPlan, campaign_of, begun, Called, call_of, turns_of}
use Rattle.campaign_reached.proofs.Begun.{lawful, accepts}
use Rattle.demands.specs.Seats.{ReseatAfterError}
use Rattle.demands.proofs.Three.{turned}
use Rattle.demands.proofs.Bytes.{robot-acts}
use Rattle.demands.proofs.Words.{robot-same}

-- ---- what a bench gets

pub comes-so : (P : AcceptedPlan) (cs : List Called) → Reseated P.plan.ports (acts (turns_of cs (begun P)))
unfolding derangements
comes-so P cs = subst (λ ts. Reseated P.plan.ports (acts ts)) (sym (turned P cs)) (reseated (campaign_of P) (lawful P) (accepts P) (map call_of cs))

-- ---- refusals

module _ (s : State) where
  -- a state whose moment is not fit is refused with 15
  unfit-so : ¬ promise.Fit (setting_of s) (moment_of s) → (c : Call) → answer_of c s ≡ refusal 15
  unfit-so n c = unfit-answer c s (either (test (fit s)) (λ e. absurd (n (moment-fit s e))) (λ e. e))

  -- and one with a jack to seat where it may not be
  seat-unfit : 0 < s.seat → ((s.standing ≡ false) × (s.ended ≡ false) × ((moment_of s).panel ≡ wanted (setting_of s) (moment_of s)) → ⊥) → (c : Call)
      → answer_of c s ≡ refusal 15
  seat-unfit sn n = unfit-so (λ f. n (f.seated sn))

-- a seat whose jack is none of n does not fit
not-fits : (n : ℕ) (j : Jack) → ¬ Among n j.0 → line_fits n (Seat j) ≡ false
not-fits n j h = either (test (one_of n j.0)) (λ e. absurd (h (one-of n j.0 e))) (λ e. e)

above-panel : (j : Jack) (p : List ℕ) → Panel most_ports p → ¬ Among (length p) j.0 → carry_of most_ports (Seat j) p ≡ refused 17 nowhere
unfolding carry_of on_panel
above-panel j p P h =
    ap (λ t. then t (λ ok. cond (line_fits (length p) (Seat j)) (accepted tt) (refused 17 nowhere))) (sym (panel-accepted most_ports p P))
    ∙ ap (λ b. cond b (accepted tt) (refused 17 nowhere)) (not-fits (length p) j h)

-- ---- the next jack to seat

-- after an error
after-error : (o : Option ℕ) (s : State) → answer_of (report_to o 1) s ≡ taken → (left_of (report_to o 1) s).seat ≡ 1
unfolding left_of model.after model.heard
after-error o s e = ap (λ a. (after (report_to o 1) a s).seat) e

-- a seat that is given is the next one
given-seat : (room : ℕ) (s : State) (j : ℕ) → answer_of (request room) s ≡ seat j → j ≡ s.seat
unfolding answer_of model.answer model.offer
given-seat room s j e =
    let C = setting_of s in
    let m = moment_of s in
    by (places_fit s) (model.fit C m) m.standing (ltb room (C.width (model.offer C m))) m.ended (model.seating m) (model.todo C m) e
  where
    by : (a b c d f g : Bool) (t : Option (List Order))
        → cond a (cond (not b) (refusal 15) (cond c (refusal 13) (cond d (refusal 2) (cond f (the_end (marks (legs_of s.plan)))
        (cond g (seat s.seat) (model.next (setting_of s) (moment_of s) t)))))) (refusal 15) ≡ seat j → j ≡ s.seat
    by false b c d f g t x = absurd (true≢false (cc))
    by true false c d f g t x = absurd (true≢false (cc))
    by true true true d f g t x = absurd (true≢false (cc))
    by true true false true f g t x = absurd (true≢false (cc))
    by true true false false true g t x = absurd (true≢false (cc))
    by true true false false false true t x = cc
    by true true false false false false none x = absurd (true≢false (cc))
    by true true false false false false (some []) x = absurd (true≢false (cc))
    by true true false false false false (some (o ∷ os)) x = absurd (true≢false (cc))

pub reseat-after-error : ReseatAfterError
unfolding resumed_of left_of model.after derangements
reseat-after-error = record {
  comes = comes-so;
  row = λ P cs. row-after-errors P.plan.ports (acts (turns_of cs (begun P))) (comes-so P cs);
  without = λ P cs e. no-seats P.plan.ports (acts (turns_of cs (begun P))) (comes-so P cs) e;
  bytes = λ P cs. subst (Reseated P.plan.ports) (sym (robot-acts P cs)) (comes-so P cs);
  words = λ P ws long cs. subst (Reseated P.plan.ports) (sym (robot-same P ws long cs ∙ robot-acts P cs)) (comes-so P cs);
  stays = seat-left most_ports;
  reads = λ j h before later. read-written largest64 most_ports (Seat (jack_at j)) (record { fits = h; numbers = omega (arith, h.1) }) before later;
  reads_only = λ t place j next e. (written_read largest64 most_ports t place (Seat j) next e).proper.fits;
  after_error = after-error;
  after_seat = λ room s j e. (given-seat room s j e, ap (λ a. (after (request room) a s).seat) e);
  begun_anew = λ s p e sn. ap (λ x. (goes_on x (going_on p s) s).seat) e ∙ ap tick (lt-ltb 0 s.seat sn);
  none_anew = λ s p e ns. ap (λ x. (goes_on x (going_on p s) s).seat) e ∙ ap (λ j. tick (ltb 0 j)) ns;
  twelve = λ s f sn o kind h. none-answer s f o kind h (stands-none (setting_of s) (moment_of s) o ((moment-fit s f).seated sn).0);
  above_n = λ s h. unfit-so s (λ f. omega (arith, f.seat));
  at_mark = λ s sn st. seat-unfit s sn (λ x. true≢false (sym st ∙ x.0));
  at_end = λ s sn en. seat-unfit s sn (λ x. true≢false (sym en ∙ x.1));
  elsewhere = λ s sn n. seat-unfit s sn (λ x. n x.2);
  outside = λ j h buf. sym (write-unfit most_ports (Seat j) buf (not-fits most_ports j h)).0;
  above_panel = above-panel;
}
