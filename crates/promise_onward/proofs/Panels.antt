-- Which panels may be put into a fit state: before a leg's first mark any permutation, later in a leg a panel on the way, at a mark, while jacks are seated and
-- after the end only its own. What seats begun anew leave. And what taking a campaign up answers: refusal 15 is exact here too.
-- Assumes nothing.
use mathlib.Core.Path.{◌≡◌, refl, sym, ap, ◌∙◌, subst}
use mathlib.Core.Logic.{◌≢◌, ◌↔◌, ◌⊎◌, inl, inr}
use mathlib.Core.Bool.{Bool, true, false, cond, true≢false}
use mathlib.Core.List.{List, []}
use Prim.Native.Nat.{ℕ, zero, suc, ◌≤◌, ◌<◌}
use native.Mathlib.Omega.{arith}
use lib.Dec.{ltb}
use borrow.Author.Tests.{lt-ltb}
use Rattle.listing.specs.Pattern.{Permutation}
use Rattle.listing.specs.Orders.{carry_all}
use Rattle.listing.proofs.Numbers.{either, test, below?}
use Rattle.promise.specs.Plan.{Passed, Lawful, Accepted, rank_at}
use Rattle.promise.specs.Campaign.{State, with_panel, with_seat, Call, tick, refusal, seating, Setting, here, wanted, fit, answer}
use Rattle.promise.specs.Fitness.{OnTheWay, Fit, unfit}
use Rattle.promise.specs.Bench.{run, leaves, acts}
use Rattle.promise.specs.Onward.{Past, Agrees, past_of, Onward}
use Rattle.promise.proofs.Tests.{clash, fails}
use Rattle.promise.proofs.Ways.{found-way, way-over}
use Rattle.promise.proofs.Fitness.{tells-fit}
use Rattle.promise.proofs.Refusals.{refused-so, tells-refusal, no-fifteen}
use Rattle.promise.proofs.Steps.{listed_here}
use Rattle.promise.proofs.Past.{past-seated}
use Rattle.promise.proofs.Onward.{onward-fit}
use Rattle.promise_onward.specs.Resume.{anew, Settled, resumed, goes_on, refused, resume, MayStand}

-- ---- the panel that is put in

-- what goes on has the panel that was read back
pub has-read : (q : List ℕ) (x : State) → (resumed q x).panel ≡ q
has-read q x = refl

-- a state with its own panel put in is the state
pub put-own : (q : List ℕ) (s : State) → q ≡ s.panel → with_panel q s ≡ s
put-own q s e = ap (λ p. with_panel p s) e

-- ---- seats begun anew

-- a state with no jack to seat, or with all, stays
pub anew-settled : (s : State) → Settled s → anew s ≡ s
anew-settled s h = ap (λ j. with_seat j s) (by-seat s.to_seat h)
  where
    by-seat : (j : ℕ) → j ≤ 1 → tick (ltb 0 j) ≡ j
    by-seat zero h = refl
    by-seat (suc zero) h = refl
    by-seat (suc (suc j)) h = absurd (omega arith)

-- one with a jack to seat begins with jack 1
pub anew-seating : (s : State) → 0 < s.to_seat → anew s ≡ with_seat 1 s
anew-seating s h = ap (λ b. with_seat (tick b) s) (lt-ltb 0 s.to_seat h)

-- it is so settled
pub settled-anew : (s : State) → Settled (anew s)
settled-anew s = by-test (seating s)
  where
    by-test : (b : Bool) → tick b ≤ 1
    by-test true = omega arith
    by-test false = omega arith

-- there is none to seat, or there is one
pub none-or-one : (s : State) → (s.to_seat ≡ 0) ⊎ (0 < s.to_seat)
none-or-one s = either (below? 0 s.to_seat) (λ h. inr h) (λ h. inl (omega arith))

module _ (C : Setting) (s : State) where
  -- with any jack of the panel to seat a state that has one to seat is fit as with another
  fit-seat : (j : ℕ) → Fit C s → 0 < s.to_seat → j ≤ C.family.ports → Fit C (with_seat j s)
  fit-seat j f sn h = record {
    leg = f.leg;
    step = f.step;
    errors = f.errors;
    counts = f.counts;
    end = f.end;
    at_mark = f.at_mark;
    at_end = f.at_end;
    between = f.between;
    seat = h;
    seated = λ x. f.seated sn;
  }

  -- a fit state is fit with its seats begun anew
  pub fit-anew : Fit C s → Fit C (anew s)
  fit-anew f =
      either (none-or-one s)
      (λ ns. subst (Fit C) (sym (anew-settled s (omega arith))) f)
      (λ sn. subst (Fit C) (sym (anew-seating s sn)) (fit-seat 1 f sn (omega (arith, f.seat))))

  -- what went before goes on to agree
  pub agrees-anew : (b : Past) → Agrees C s b → Agrees C (anew s) b
  agrees-anew b g =
      either (none-or-one s)
      (λ ns. subst (λ t. Agrees C t b) (sym (anew-settled s (omega arith))) g)
      (λ sn. subst (λ t. Agrees C t b) (sym (anew-seating s sn)) (past-seated C s b 1 g sn))

-- ---- which panels may be put in

module _ (C : Setting) (s : State) (f : Fit C s) (q : List ℕ) where
  -- a fit state with another panel is fit exactly if the panel may stand there
  pub tells-stand : Fit C (with_panel q s) ↔ MayStand C s q
  tells-stand = (
    λ g. record { at_mark = g.at_mark; at_end = g.at_end; between = g.between; at_seat = λ h. (g.seated h).2 },
    λ m. record {
      leg = f.leg;
      step = f.step;
      errors = f.errors;
      counts = f.counts;
      end = f.end;
      at_mark = m.at_mark;
      at_end = m.at_end;
      between = m.between;
      seat = f.seat;
      seated = λ h. ((f.seated h).0, (f.seated h).1, m.at_seat h);
    },
  )

  -- where it may not, every call is refused with 15
  pub else-fifteen : ¬ MayStand C s q → (c : Call) → answer C c (with_panel q s) ≡ refusal 15
  else-fifteen n c = refused-so C (with_panel q s) (unfit (λ g. n (tells-stand.0 g)))

  -- where it may, none is
  pub never-fifteen : MayStand C s q → (c : Call) → answer C c (with_panel q s) ≢ refusal 15
  never-fifteen m c e = no-fifteen C (with_panel q s) (tells-stand.1 m) ((tells-refusal C (with_panel q s) c 15).0 e) refl

  -- while a mark stands only the state's own panel may
  pub stand-at-mark : s.standing ≡ true → MayStand C s q ↔ (q ≡ s.panel)
  stand-at-mark st = (
    λ m. m.at_mark st ∙ sym (f.at_mark st),
    λ e. record { at_mark = λ x. e ∙ f.at_mark st; at_end = λ x. e ∙ f.at_mark st; between = λ x. clash st x; at_seat = λ h. e ∙ f.at_mark st },
  )

  -- so after the end
  pub stand-at-end : s.ended ≡ true → MayStand C s q ↔ (q ≡ s.panel)
  stand-at-end en = (
    λ m. m.at_end en ∙ sym (f.at_end en),
    λ e. record { at_mark = λ x. e ∙ f.at_end en; at_end = λ x. e ∙ f.at_end en; between = λ x y. clash en y; at_seat = λ h. e ∙ f.at_end en },
  )

  -- so while a jack is to be seated
  pub stand-seating : 0 < s.to_seat → MayStand C s q ↔ (q ≡ s.panel)
  stand-seating sn = (
    λ m. m.at_seat sn ∙ sym (f.seated sn).2,
    λ e. record {
      at_mark = λ x. e ∙ (f.seated sn).2;
      at_end = λ x. e ∙ (f.seated sn).2;
      between = λ st en. subst (OnTheWay C.family (here C s) s.step) (sym e) (f.between st en);
      at_seat = λ h. e ∙ (f.seated sn).2;
    },
  )

  module _ (st : s.standing ≡ false) (en : s.ended ≡ false) (ns : s.to_seat ≡ 0) where
    -- before a mark, with no jack to seat, a panel that may stand before it
    stand-between : MayStand C s q ↔ OnTheWay C.family (here C s) s.step q
    stand-between =
        (λ m. m.between st en, λ w. record { at_mark = λ x. clash x st; at_end = λ x. clash x en; between = λ x y. w; at_seat = λ h. absurd (omega arith) })

    -- before a leg's first mark that is any permutation
    pub stand-first : s.step ≡ 0 → MayStand C s q ↔ Permutation C.family.ports q
    unfolding OnTheWay
    stand-first e = subst (λ k. MayStand C s q ↔ OnTheWay C.family (here C s) k q) e stand-between

    -- later in a leg a panel on the way from the mark before
    pub stand-later : (k : ℕ) → s.step ≡ suc k
        → let r = rank_at C.family (here C s) k in MayStand C s q ↔ Passed (C.family.pattern r) (C.family.orders (here C s).back r) q
    unfolding OnTheWay
    stand-later k e = subst (λ j. MayStand C s q ↔ OnTheWay C.family (here C s) j q) e stand-between

-- ---- panels that always may stand

module _ (C : Setting) (s : State) (f : Fit C s) where
  -- the state's own
  pub stand-own : MayStand C s s.panel
  stand-own = record { at_mark = f.at_mark; at_end = f.at_end; between = f.between; at_seat = λ h. (f.seated h).2 }

  -- inside a leg, with no mark standing and no jack to seat, the pattern of the mark before
  pub stand-before : s.standing ≡ false → s.ended ≡ false → s.to_seat ≡ 0 → (k : ℕ) → s.step ≡ suc k
      → MayStand C s (C.family.pattern (rank_at C.family (here C s) k))
  unfolding carry_all
  stand-before st en ns k e = (stand-later C s f _ st en ns k e).1 (0, omega arith, refl)

  -- the pattern of its mark
  pub stand-wanted : Lawful C.family → Accepted C.family C.legs → MayStand C s (wanted C s)
  stand-wanted lawful accepted = record {
    at_mark = λ st. refl;
    at_end = λ en. refl;
    between = λ st en.
        found-way C.family (here C s) s.step (wanted C s) [] (way-over C.family lawful (here C s) s.step (listed_here C lawful accepted s f));
    at_seat = λ h. refl;
  }

-- ---- what taking a campaign up answers

-- a state on which some call is not refused with 15 is fit
pub fit-unless : (C : Setting) (s : State) (c : Call) → answer C c s ≢ refusal 15 → Fit C s
fit-unless C s c n =
    either (test (fit C s)) (tells-fit C s).0 (λ e. absurd (n (refused-so C s (unfit (λ f. clash ((tells-fit C s).1 f) e)))))

module _ (C : Setting) (q : List ℕ) (x : State) where
  -- it goes on with the saved state with the panel put in and its seats begun anew, if it is fit with the panel
  pub goes-on : Fit C (with_panel q x) → resume C q x ≡ goes_on (resumed q x)
  unfolding resume
  goes-on f = ap (λ b. cond b (goes_on (resumed q x)) (refused 15)) ((tells-fit C (with_panel q x)).1 f)

  -- else it is refused with 15
  pub refuses-on : ¬ Fit C (with_panel q x) → resume C q x ≡ refused 15
  unfolding resume
  refuses-on n = ap (λ b. cond b (goes_on (resumed q x)) (refused 15)) (fails (fit C (with_panel q x)) (tells-fit C (with_panel q x)) n)

  -- it goes on with a state exactly if that is the one, and the saved one is fit with the panel
  pub tells-goes : (y : State) → (resume C q x ≡ goes_on y) ↔ (Fit C (with_panel q x) × (resumed q x ≡ y))
  unfolding resume
  tells-goes y = (λ e. by-fit (fit C (with_panel q x)) refl e, λ h. goes-on h.0 ∙ ap goes_on h.1)
    where
      by-fit : (b : Bool) → fit C (with_panel q x) ≡ b → cond b (goes_on (resumed q x)) (refused 15) ≡ goes_on y → Fit C (with_panel q x) × (resumed q x ≡ y)
      by-fit true e h = ((tells-fit C (with_panel q x)).0 e, cc)
      by-fit false e h = absurd (true≢false (cc))

-- with the state's own panel nothing changes but that its seats begin anew
pub resume-own : (C : Setting) (s : State) → Fit C s → resume C s.panel s ≡ goes_on (anew s)
resume-own C s f = goes-on C s.panel s f

-- what panel was put in before does not matter, and seats that began anew begin anew: a campaign may be taken up as often as the power fails
pub resume-again : (C : Setting) (q before : List ℕ) (x : State) → Fit C (with_panel before x) → resume C q (resumed before x) ≡ resume C q x
unfolding resume
resume-again C q before x f =
    either (none-or-one x)
    (λ ns. ap (resume C q) (anew-settled (with_panel before x) (omega arith)))
    (λ sn. ap (resume C q) (anew-seating (with_panel before x) sn) ∙ by-fit sn)
  where
    by-fit : 0 < x.to_seat → resume C q (with_seat 1 (with_panel before x)) ≡ resume C q x
    by-fit sn =
        either (test (fit C (with_panel q x)))
        (λ e.
        let g : Fit C (with_panel q x) = (tells-fit C (with_panel q x)).0 e in
        goes-on C q (with_seat 1 (with_panel before x)) (fit-seat C (with_panel q x) 1 g sn (omega (arith, g.seat)))
        ∙ ap goes_on (sym (anew-seating (with_panel q x) sn)) ∙ sym (goes-on C q x g))
        (λ e.
        refuses-on C q (with_seat 1 (with_panel before x))
        (λ g. clash ((tells-fit C (with_panel q x)).1 (fit-seat C (with_seat 1 (with_panel q x)) x.to_seat g (omega arith) f.seat)) e)
        ∙ sym (refuses-on C q x (λ g. clash ((tells-fit C (with_panel q x)).1 g) e)))

-- ---- going on

module _ (C : Setting) (lawful : Lawful C.family) (accepted : Accepted C.family C.legs) where
  -- whatever was saved: where the campaign is taken up, demand three holds from there on, on the bench as it is
  pub resume-onward : (q : List ℕ) (x y : State) → resume C q x ≡ goes_on y → (cs : List Call)
      → Onward C q y (past_of C y) (run C cs y) (acts (run C cs y)) (leaves y (run C cs y))
  resume-onward q x y e cs =
      let h : Fit C (with_panel q x) × (resumed q x ≡ y) = (tells-goes C q x y).0 e in
      onward-fit C lawful accepted y (subst (Fit C) h.1 (fit-anew C (with_panel q x) h.0)) cs q (ap (λ (z : State). z.panel) h.1)

  -- so after any panel that may stand was set by hand
  pub by_hand : (s : State) → Fit C s → (q : List ℕ) → MayStand C s q → (cs : List Call)
      → let y = resumed q s in Onward C q y (past_of C y) (run C cs y) (acts (run C cs y)) (leaves y (run C cs y))
  by_hand s f q m = resume-onward q s (resumed q s) (goes-on C q s ((tells-stand C s f q).1 m))
