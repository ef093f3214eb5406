-- Refusal 15 is exact: the test tells the sentence (`tells-fit`). And what a stand says of the state (`stands`).
-- Assumes nothing.
use mathlib.Core.Path.{◌≡◌, refl, sym, subst}
use mathlib.Core.Bool.{Bool, true, false, cond, and-eq-true_iff, true≢false}
use mathlib.Core.List.{List, [], ◌∷◌}
use mathlib.Core.Option.{Option, none, some}
use Prim.Native.Nat.{◌<◌}
use native.Mathlib.Omega.{arith}
use lib.Dec.{ltb}
use borrow.Author.Tests.{ltb-true, ltb-false}
use Rattle.listing.specs.Orders.{Order}
use Rattle.promise.specs.Tests.{same}
use Rattle.promise.specs.Campaign as model
use Rattle.promise.specs.Campaign.{here, wanted, todo}
use Rattle.promise.specs.Fitness as promise
use Rattle.promise.proofs.Tests.{Tells, tells-same}
use Rattle.promise.proofs.Ways.{way-found}
use Rattle.promise.proofs.Fitness as promise-proofs
use Rattle.plan_rules.specs.Planned.{device}
use Rattle.campaign_way.specs.Coming.{next_of}
use Rattle.plan_rules.specs.Rules.{plan_ruled}
use Rattle.plan_rules.proofs.Rules.{tells-ruled}
use Rattle.campaign_state.specs.State.{setting_of, moment_of}
use Rattle.campaign_state.specs.Fitness.{Fit, empty_from, places_fit, fit, InPlan}
use Rattle.campaign_state.specs.Standing.{Stand, unfit, at_mark, at_end, seat, clear, next, way_stand, panel_stand, stand_of}
use Rattle.campaign_state.specs.declared.State.{State}
use Rattle.campaign_state.proofs.Places.{Sized, tells-empty, rules}

-- ---- the test

-- a state passes the test exactly if it is fit
pub tells-fit : (s : State) → Sized s → Tells (fit s) (Fit s)
unfolding fit places_fit
tells-fit s z =
    let moment = promise-proofs.tells-fit (setting_of s) (moment_of s) in
    let empty = tells-empty s.plan.ports s.panel in (
      λ e.
          let t = (and-eq-true_iff (places_fit s) (model.fit (setting_of s) (moment_of s))).0 e in
          let u = (and-eq-true_iff (plan_ruled device s.plan) (empty_from s.plan.ports s.panel)).0 t.0 in
          record { plan = rules s z t.0; unused = empty.0 u.1; moment = moment.0 t.1 },
      λ F.
          (and-eq-true_iff (places_fit s) (model.fit (setting_of s) (moment_of s))).1 (
            (and-eq-true_iff (plan_ruled device s.plan) (empty_from s.plan.ports s.panel)).1
                ((tells-ruled device s.plan z.starts z.runs).1 F.plan, empty.1 F.unused),
            moment.1 F.moment,
          ),
    )

-- ---- what a stand says

-- a fit state: its places are within the rules, and its moment is fit
pub fit_parts : (s : State) → fit s ≡ true → (places_fit s ≡ true) × (model.fit (setting_of s) (moment_of s) ≡ true)
unfolding fit
fit_parts s e = (and-eq-true_iff (places_fit s) (model.fit (setting_of s) (moment_of s))).0 e

pub moment-fit : (s : State) → fit s ≡ true → promise.Fit (setting_of s) (moment_of s)
moment-fit s e = (promise-proofs.tells-fit (setting_of s) (moment_of s)).0 (fit_parts s e).1

-- it is at a leg and a step of its plan
pub fit-inside : (s : State) → fit s ≡ true → InPlan s
fit-inside s e = let f = moment-fit s e in record { places = (fit_parts s e).0; leg = f.leg; step = f.step }

-- an order is to come, and others after it
pub record Coming (s : State) (o : Order) : Type 0 where
  pub fits : fit s ≡ true
  pub none : s.standing ≡ false
  pub going : s.ended ≡ false
  pub unseated : s.seat ≡ 0
  pub others : List Order
  pub orders : todo (setting_of s) (moment_of s) ≡ some (o ∷ others)

-- what each stand says of the state
abbrev pub Stood : State → Stand → Type 0
Stood s unfit = fit s ≡ false
Stood s at_mark = (fit s ≡ true) × (s.standing ≡ true)
Stood s at_end = (fit s ≡ true) × (s.standing ≡ false) × (s.ended ≡ true)
Stood s (seat j) = (fit s ≡ true) × (0 < s.seat) × (j ≡ s.seat)
Stood s clear = (fit s ≡ true) × (s.standing ≡ false) × (s.ended ≡ false) × (s.seat ≡ 0) × (todo (setting_of s) (moment_of s) ≡ some [])
Stood s (next o) = Coming s o

stood : (s : State) → Stood s (stand_of s)
unfolding stand_of panel_stand
stood s = by (fit s) refl
  where
    by_way : (t : Option (List Order)) (vs : List Order) → fit s ≡ true → s.standing ≡ false → s.ended ≡ false → s.seat ≡ 0
        → todo (setting_of s) (moment_of s) ≡ t → t ≡ some vs → Stood s (way_stand (next_of t))
    by_way none vs e st en ns w h = absurd (true≢false (cc))
    by_way (some []) vs e st en ns w h = (e, st, en, ns, w)
    by_way (some (o ∷ os)) vs e st en ns w h = record { fits = e; none = st; going = en; unseated = ns; others = os; orders = w }

    by-seat : (b sm : Bool) → fit s ≡ true → s.standing ≡ false → s.ended ≡ false → ltb 0 s.seat ≡ b → (b ≡ true → sm ≡ true)
        → Stood s (cond b (cond sm (seat s.seat) unfit) (way_stand (next_of (todo (setting_of s) (moment_of s)))))
    by-seat true true e st en sn h = (e, ltb-true 0 s.seat sn, refl)
    by-seat true false e st en sn h = absurd (true≢false (sym (h refl)))
    by-seat false sm e st en sn h =
        let f = moment-fit s e in
        let w = way-found (setting_of s).family (here (setting_of s) (moment_of s)) s.step (moment_of s).panel (f.between st en) in
        by_way (todo (setting_of s) (moment_of s)) w.0 e st en (omega (arith, ltb-false 0 s.seat sn)) refl w.1

    by_end : (b sm : Bool) → fit s ≡ true → s.standing ≡ false → s.ended ≡ b → (b ≡ true → sm ≡ true) → (ltb 0 s.seat ≡ true → sm ≡ true)
        → Stood s (cond b (cond sm at_end unfit)
        (cond (ltb 0 s.seat) (cond sm (seat s.seat) unfit) (way_stand (next_of (todo (setting_of s) (moment_of s))))))
    by_end true true e st en h l = (e, st, en)
    by_end true false e st en h l = absurd (true≢false (sym (h refl)))
    by_end false sm e st en h l = by-seat (ltb 0 s.seat) sm e st en refl l

    by-mark : (b sm : Bool) → fit s ≡ true → s.standing ≡ b → (b ≡ true → sm ≡ true) → (s.ended ≡ true → sm ≡ true) → (ltb 0 s.seat ≡ true → sm ≡ true)
        → Stood s (cond b (cond sm at_mark unfit) (cond s.ended (cond sm at_end unfit)
        (cond (ltb 0 s.seat) (cond sm (seat s.seat) unfit) (way_stand (next_of (todo (setting_of s) (moment_of s)))))))
    by-mark true true e st h k l = (e, st)
    by-mark true false e st h k l = absurd (true≢false (sym (h refl)))
    by-mark false sm e st h k l = by_end s.ended sm e st refl k l

    by : (b : Bool) → fit s ≡ b → Stood s (cond b (panel_stand (setting_of s) (moment_of s)) unfit)
    by true e =
        let f = moment-fit s e in
        let sm = same (moment_of s).panel (wanted (setting_of s) (moment_of s)) in
        by-mark s.standing sm e refl (λ st. (tells-same _ _).1 (f.at_mark st)) (λ en. (tells-same _ _).1 (f.at_end en))
        (λ sn. (tells-same _ _).1 (f.seated (ltb-true 0 s.seat sn)).2)
    by false e = e

-- so of a stand that a state is found at
pub stands : (s : State) (x : Stand) → x ≡ stand_of s → Stood s x
stands s x e = subst (Stood s) (sym e) (stood s)
