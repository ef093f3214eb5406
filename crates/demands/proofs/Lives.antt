-- A life with any number of power cuts is an uncut campaign in what was kept: the bench comes out with the state that the kept calls leave, demand three holds
-- of them, and after an error the seats come in turn and then the mark, from any fit state on in which no row of seats is under way (`lived`).
-- Assumes nothing.
use mathlib.Core.Path.{◌≡◌, refl, sym, ap, ◌∙◌}
use mathlib.Core.Logic.{◌⊎◌, inl, inr}
use mathlib.Core.Bool.{true}
use mathlib.Core.List.{List, [], ◌∷◌}
use Prim.Native.Nat.{ℕ, ◌≤◌}
use Rattle.listing.proofs.Numbers.{either}
use Rattle.promise.specs.Campaign as model
use Rattle.promise.specs.Campaign.{Call, Answer, movement, seat, mark, the_end, taken, refusal}
use Rattle.promise.specs.Bench.{acts}
use Rattle.promise.specs.Onward.{Onward, past_of}
use Rattle.promise.specs.Seats.{Reseats, seat_due}
use Rattle.promise_onward.specs.Resume.{anew}
use Rattle.promise_onward.specs.Lives.{OfRow}
use Rattle.promise_onward.proofs.Panels.{anew-settled, settled-anew}
use Rattle.promise_onward.proofs.Lives.{settled-or-row}
use Rattle.campaign_state.specs.State.{setting_of, moment_of}
use Rattle.campaign_state.specs.Fitness.{fit}
use Rattle.campaign_state.specs.declared.State.{State}
use Rattle.campaign_state.proofs.Places.{Sized}
use Rattle.campaign.specs.Calls.{answer_of, after, left_of}
use Rattle.campaign.proofs.Moments.{made as with-fields, panel-stays, refusal-leaves}
use Rattle.campaign_onward.specs.Calls.{seats_anew, resumed_of}
use Rattle.campaign_reached.specs.Turns.{campaign_of, Called, call_of, turns_of, left_after}
use Rattle.campaign_reached.proofs.Begun.{lawful, accepts}
use Rattle.campaign_reached.proofs.Own.{own, own-reached}
use Rattle.campaign_reached.proofs.Reached.{does-there}
use Rattle.demands.specs.Lives.{Event, made, cut, Possible, through, HasCut, KeptOf, none, made_kept, row-broken, cut-kept}
use Rattle.demands.specs.Lives.{cut-lost}
use Rattle.demands.proofs.Onward.{left-fit, onward-left, cut-resumed, anew-fit, reseats-left}

-- ---- seats begun anew

-- the state with another jack to seat
abbrev at-seat : State → ℕ → State
at-seat s j = with-fields s s.leg s.step s.covered s.opened s.errors s.standing s.ended j s.panel

-- with no row of seats under way they are as they were
settled : (s : State) → s.seat ≤ 1 → seats_anew s ≡ s
settled s h = ap (λ (m : model.State). at-seat s m.to_seat) (anew-settled (moment_of s) h)

-- an answer that a row has leaves nothing else
row_same : (c : Call) (a : Answer) (s : State) → OfRow a → (anew (moment_of (after c a s))).to_seat ≡ (anew (moment_of s)).to_seat → seats_anew (after c a s) ≡ seats_anew s
unfolding model.after
row_same c (movement o) s h e = absurd h
row_same c (seat j) s h e =
    ap seats_anew (panel-stays (model.with_seat (model.seat_after (setting_of s).family.ports j) (moment_of s)) s refl) ∙ ap (at-seat s) e
row_same c (mark k r) s h e = absurd h
row_same c (the_end k) s h e = absurd h
row_same c taken s h e = absurd h
row_same c (refusal k) s h e = ap seats_anew (sym (refusal-leaves c k s))

module _ (s : State) (z : Sized s) (f : fit s ≡ true) (c : Call) where
  -- a call leaves no row under way, or it is one of the row, which is the same before and after it
  row-or-not : ((left_of c s).seat ≤ 1) ⊎ (OfRow (answer_of c s) × (seats_anew (left_of c s) ≡ seats_anew s))
  unfolding left_of
  row-or-not =
      let P = own s z f in
      let R = own-reached s z f in
      either (settled-or-row (campaign_of P) (lawful P) (accepts P) R.fit (does-there P s R c))
      (λ h. inl h) (λ h. inr (h.0, row_same c (answer_of c s) s h.0 (ap (λ (m : model.State). m.to_seat) h.1)))

-- ---- what a life kept

-- the calls that a life kept, and that it comes out as they do
pub record Kept (es : List Event) (s : State) : Type 0 where
  pub calls : List Called
  pub those : KeptOf s es calls
  pub comes_out : through es s ≡ left_after calls s

-- the same from s on, or where a cut is among the events from where its seats begin anew
record Parted (es : List Event) (s : State) : Type 0 where
  from : State
  begins : (from ≡ s) ⊎ ((from ≡ seats_anew s) × HasCut es)
  calls : List Called
  those : KeptOf s es calls
  comes_out : through es s ≡ left_after calls from

-- after a call that is kept, or of a row that was broken later
after-made : (c : Called) (es : List Event) (s : State) → Sized s → fit s ≡ true → Parted es (left_of (call_of c) s) → Parted (made c ∷ es) s
unfolding through left_after HasCut
after-made c es s z f r =
    either (row-or-not s z f (call_of c))
    (λ h. keeps (either r.begins (λ e. e) (λ e. e.0 ∙ settled (left_of (call_of c) s) h)))
    (λ h. either r.begins keeps (λ e. record {
      from = r.from;
      begins = inr (e.0 ∙ h.1, e.1);
      calls = r.calls;
      those = row-broken c h.0 e.1 r.those;
      comes_out = r.comes_out;
    }))
  where
    keeps : r.from ≡ left_of (call_of c) s → Parted (made c ∷ es) s
    keeps e = record { from = s; begins = inl refl; calls = c ∷ r.calls; those = made_kept c r.those; comes_out = r.comes_out ∙ ap (left_after r.calls) e }

-- after a cut: what goes on is settled, so it goes on from there
after-cut : (c : Called) (x : State) (q : List ℕ) (es : List Event) (s y : State) → Sized s → fit s ≡ true → resumed_of x q ≡ seats_anew y
    → (y ≡ s) ⊎ (y ≡ left_of (call_of c) s) → Parted es (resumed_of x q) → Parted (cut c x q ∷ es) s
unfolding through left_after HasCut
after-cut c x q es s y z f g which r =
    either which
    (λ e. loses (from ∙ ap seats_anew e))
    (λ e. either (row-or-not s z f (call_of c))
    (λ h. keeps (from ∙ ap seats_anew e ∙ settled (left_of (call_of c) s) h)) (λ h. loses (from ∙ ap seats_anew e ∙ h.1)))
  where
    from : r.from ≡ seats_anew y
    from = either r.begins (λ e. e ∙ g) (λ e. e.0 ∙ ap seats_anew g ∙ settled (seats_anew y) (settled-anew (moment_of y)))

    loses : r.from ≡ seats_anew s → Parted (cut c x q ∷ es) s
    loses e = record { from = r.from; begins = inr (e, tt); calls = r.calls; those = cut-lost c x q r.those; comes_out = r.comes_out }

    keeps : r.from ≡ left_of (call_of c) s → Parted (cut c x q ∷ es) s
    keeps e = record { from = s; begins = inl refl; calls = c ∷ r.calls; those = cut-kept c x q r.those; comes_out = r.comes_out ∙ ap (left_after r.calls) e }

parted : (es : List Event) (s : State) → Sized s → fit s ≡ true → Possible es s → Parted es s
unfolding Possible through left_after
parted [] s z f h = record { from = s; begins = inl refl; calls = []; those = none; comes_out = refl }
parted (made c ∷ es) s z f h = let left = left-fit s z f (call_of c) in after-made c es s z f (parted es (left_of (call_of c) s) left.1 left.2 h)
parted (cut c x q ∷ es) s z f h =
    either (cut-resumed s z f (call_of c) x q h.0.0 h.0.1)
    (λ g.
    let a = anew-fit s z f in
    after-cut c x q es s s z f g.gives (inl refl) (parted es (resumed_of x q) (rw g.gives a.0) (rw g.gives a.1) h.1))
    (λ g.
    let left = left-fit s z f (call_of c) in
    let a = anew-fit (left_of (call_of c) s) left.1 left.2 in
    after-cut c x q es s (left_of (call_of c) s) z f g.gives (inr refl) (parted es (resumed_of x q) (rw g.gives a.0) (rw g.gives a.1) h.1))

kept : (es : List Event) (s : State) → Sized s → fit s ≡ true → s.seat ≤ 1 → Possible es s → Kept es s
kept es s z f n h =
    let r = parted es s z f h in
    let from : r.from ≡ s = either r.begins (λ e. e) (λ e. e.0 ∙ settled s n) in
    record { calls = r.calls; those = r.those; comes_out = r.comes_out ∙ ap (left_after r.calls) from }

-- what a bench went through, from the fit state s on
pub record Lived (es : List Event) (s : State) : Type 0 where
  pub kept : Kept es s
  -- demand three of the kept calls, and of the state with which it comes out
  pub as_uncut : let C = setting_of s in
      Onward C (moment_of s).panel (moment_of s) (past_of C (moment_of s)) (turns_of kept.calls s) (acts (turns_of kept.calls s)) (moment_of (through es s))
  -- and after an error exactly the seats 1 to n in turn and then the same mark
  pub reseats : let C = setting_of s in
      let past = past_of C (moment_of s) in
      Reseats C.family.ports past.mark (seat_due C (moment_of s) past) (acts (turns_of kept.calls s))

-- from any fit state on in which no seat of a row is done while others are to come, as in the first and in each that `resume` gives
pub lived : (es : List Event) (s : State) → Sized s → fit s ≡ true → s.seat ≤ 1 → Possible es s → Lived es s
lived es s z f n h =
    let k = kept es s z f n h in
    record { kept = k; as_uncut = rw k.comes_out (onward-left s z f k.calls); reseats = reseats-left s z f k.calls }
