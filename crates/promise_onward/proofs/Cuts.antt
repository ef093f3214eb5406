-- After a power cut in any call the saved state with the panel read back is the state before the call or the state after it, with its seats begun anew: so the
-- campaign goes on from there, and no order is lost or done twice. In a call that gave an order the panel alone decides which; in every other call the saved
-- state does. A cut in a seat begins the seats anew, unless it was the last and the state after it was saved: so that state is saved only when the seat is done.
-- Assumes nothing.
use mathlib.Core.Path.{◌≡◌, refl, sym, ap, ◌∙◌, subst}
use mathlib.Core.Logic.{◌≢◌, ◌⊎◌, inl, inr}
use mathlib.Core.List.{List, []}
use Prim.Native.Nat.{ℕ, suc}
use native.Mathlib.Omega.{arith}
use Rattle.listing.specs.Orders.{Order, carry}
use Rattle.listing.proofs.Numbers.{either, is-cases}
use Rattle.promise.specs.Plan.{Lawful, Accepted}
use Rattle.promise.specs.Campaign.{State, with_panel, with_seat, Call, Answer, movement, seat, Setting, answer, after}
use Rattle.promise.specs.Fitness.{Fit}
use Rattle.promise.specs.Bench.{run, leaves, moves, in_front, acts}
use Rattle.promise.specs.Progress.{work}
use Rattle.promise.specs.Onward.{Past, Agrees, and_then, and_all, Onward}
use Rattle.promise.proofs.Steps.{Does, moves-on, seats-on, hands_out, ends, closes, errs, refuses, does-so, fit-after}
use Rattle.promise.proofs.Marks.{closed-so}
use Rattle.promise.proofs.Past.{past-on}
use Rattle.promise.proofs.Onward.{onward}
use Rattle.promise_onward.specs.Resume.{anew, resumed, resume, goes_on, TakenUp}
use Rattle.promise_onward.specs.Cuts.{left, past_left, SavedFor, Cut}
use Rattle.promise_onward.proofs.Panels.{put-own, anew-settled, anew-seating, fit-anew, agrees-anew, goes-on}
use Rattle.promise_onward.proofs.Calls.{shows}

-- ---- what is saved

-- a state is saved for itself
pub saved-itself : (s x : State) → x ≡ s → SavedFor s x
saved-itself s x e = ap (with_panel s.panel) e

-- an order changes nothing but the panel; every other answer leaves the panel
panel-only : {C : Setting} {s t : State} {c : Call} {a : Answer} → Does C s c a t → SavedFor t s ⊎ (t.panel ≡ s.panel)
panel-only (moves-on o os st en ns w) = inl refl
panel-only (seats-on sn) = inr refl
panel-only (hands_out st en ns w) = inr refl
panel-only (ends en) = inr refl
panel-only (closes st cl x) = inr (closed-so x).panel
panel-only (errs st lt) = inr refl
panel-only (refuses k n) = inr refl

-- whichever of two states that differ in the panel alone is saved, the panel decides
put-either : (q : List ℕ) (s t x : State) → SavedFor t s → SavedFor s x ⊎ SavedFor t x → with_panel q x ≡ with_panel q s
put-either q s t x e h = either h (ap (with_panel q)) (λ i. ap (with_panel q) (i ∙ sym e))

module _ (C : Setting) (lawful : Lawful C.family) (accepted : Accepted C.family C.legs) where
  -- ---- a cut in any call

  module _ (c : Call) (s : State) (f : Fit C s) (b : Past) (g : Agrees C s b) where
    -- what the call does
    does : Does C s c (answer C c s) (left C c s)
    does = does-so C s f c

    -- the state before the call is taken up
    as_before : (q : List ℕ) (x : State) → with_panel q x ≡ s → TakenUp C q x s b
    as_before q x e = record { same = e; fits = f; panel = ap (λ (y : State). y.panel) e; past = g }

    -- or the one after it
    as-after : (q : List ℕ) (x : State) → with_panel q x ≡ left C c s → TakenUp C q x (left C c s) (past_left C b c s)
    as-after q x e = record {
      same = e;
      fits = fit-after C lawful accepted f does;
      panel = ap (λ (y : State). y.panel) e;
      past = past-on C lawful accepted b f g does;
    }

    -- after a cut one of the two is, with what happened on the bench before it: so no order is lost or done twice
    pub cut-so : (x : State) (q : List ℕ) → Cut C c s x q → TakenUp C q x s b ⊎ TakenUp C q x (left C c s) (past_left C b c s)
    cut-so x q k = either (panel-only does) by-panel by-saved
      where
        by-panel : SavedFor (left C c s) s → TakenUp C q x s b ⊎ TakenUp C q x (left C c s) (past_left C b c s)
        by-panel e =
            let same : with_panel q x ≡ with_panel q s = put-either q s (left C c s) x e k.saved in
            either k.read
            (λ h. inl (as_before q x (same ∙ put-own q s h)))
            (λ h. inr (as-after q x (same ∙ ap (λ p. with_panel p s) h ∙ e)))

        by-saved : (left C c s).panel ≡ s.panel → TakenUp C q x s b ⊎ TakenUp C q x (left C c s) (past_left C b c s)
        by-saved e =
            let read : q ≡ s.panel = either k.read (λ h. h) (λ h. h ∙ e) in
            either k.saved
            (λ h. inl (as_before q x (ap (λ p. with_panel p x) read ∙ h)))
            (λ h. inr (as-after q x (ap (λ p. with_panel p x) (read ∙ sym e) ∙ h)))

    -- ---- a cut in a request that gives a seat

    -- the seats begin anew; or it was the last one, and the state after it was saved
    pub seats-anew : (j : ℕ) → answer C c s ≡ seat j → (x : State) (q : List ℕ) → Cut C c s x q
        → (resumed q x ≡ with_seat 1 s) ⊎ ((j ≡ C.family.ports) × (resumed q x ≡ left C c s))
    seats-anew j e x q k =
        let h = shows C lawful accepted s f c (seat j) e in
        let n : ℕ = C.family.ports in
        let begun : anew s ≡ with_seat 1 s = anew-seating s (omega (arith, h.0, h.1)) in
        either (cut-so x q k) (λ u. inl (ap anew u.same ∙ begun)) (λ u.
        either (is-cases j n 0 (suc j))
        (λ i.
        let over : left C c s ≡ with_seat 0 s = h.2 ∙ ap (λ z. with_seat z s) i.1 in
        inr (i.0, ap anew u.same ∙ anew-settled (left C c s) (omega (arith, ap (λ (y : State). y.to_seat) over))))
        (λ i.
        let next : left C c s ≡ with_seat (suc j) s = h.2 ∙ ap (λ z. with_seat z s) i.1 in
        inl (ap anew (u.same ∙ next) ∙ anew-seating (with_seat (suc j) s) (omega arith))))

    -- ---- a cut in a request that gives an order

    module _ (o : Order) (given : answer C c s ≡ movement o) where
      -- it leaves the state with the panel after the order
      left-order : left C c s ≡ with_panel (carry o s.panel) s
      unfolding after
      left-order = ap (λ a. after C c a s) given

      -- so the two states differ in the panel alone
      panel-alone : SavedFor (left C c s) s
      panel-alone = ap (λ (y : State). with_panel y.panel s) left-order ∙ sym left-order

      -- the order is one more since the last mark
      past-order : past_left C b c s ≡ and_then b s.panel (moves o)
      unfolding and_all
      past-order = ap (λ a. and_all b s.panel (in_front c a [])) given

      -- the two panels differ, so that the one read back is that of one state only
      pub panels-differ : s.panel ≢ (left C c s).panel
      panels-differ e =
          let same : left C c s ≡ s = sym panel-alone ∙ ap (λ p. with_panel p s) (sym e) in
          omega (arith, (shows C lawful accepted s f c (movement o) given).0, ap (work C) same)

      -- whichever state is saved: where the robot did not obey, the state before the order is taken up, and the order is asked again
      pub not-obeyed : (x : State) (q : List ℕ) → SavedFor s x ⊎ SavedFor (left C c s) x → q ≡ s.panel → TakenUp C q x s b
      not-obeyed x q h e = as_before q x (put-either q s (left C c s) x panel-alone h ∙ put-own q s e)

      -- where it obeyed, the state after it, with the order among those since the last mark
      pub obeyed : (x : State) (q : List ℕ) → SavedFor s x ⊎ SavedFor (left C c s) x → q ≡ (left C c s).panel
          → TakenUp C q x (left C c s) (and_then b s.panel (moves o))
      obeyed x q h e =
          subst (TakenUp C q x (left C c s)) past-order
          (as-after q x (put-either q s (left C c s) x panel-alone h ∙ ap (λ p. with_panel p s) e ∙ panel-alone))

  -- ---- going on

  module _ (q : List ℕ) (x y : State) (b : Past) (u : TakenUp C q x y b) where
    -- what is taken up is not refused, and its seats begin anew
    pub taken-goes-on : resume C q x ≡ goes_on (anew y)
    taken-goes-on = goes-on C q x (subst (Fit C) (sym u.same) u.fits) ∙ ap (λ z. goes_on (anew z)) u.same

    -- and demand three holds from there on, on the bench as it is and with what happened on it before
    pub taken-onward : (cs : List Call) → let z = anew y in Onward C q z b (run C cs z) (acts (run C cs z)) (leaves z (run C cs z))
    taken-onward cs = onward C lawful accepted (anew y) (fit-anew C y u.fits) b (agrees-anew C y b u.past) cs q u.panel
