-- The place of a mark: its leg and its step are had back from them (`leg-of`, `leg-found`, `step-of`), and every mark of a plan has one (`mark-placed`).
-- At the end the loop over the legs.
-- Assumes nothing.
use mathlib.Core.Path.{◌≡◌, refl, sym, ap, subst, ◌∙◌}
use mathlib.Core.List.{List, [], ◌∷◌}
use Prim.Native.Nat.{ℕ, zero, suc, ◌+◌, ◌-◌, ◌≤◌, ◌<◌}
use native.Mathlib.Omega.{arith}
use lib.ListN.{length, take}
use borrow.Author.Tests.{le-leb, lt-leb}
use Rattle.listing.proofs.Numbers.{either, below?}
use Rattle.promise.specs.Plan.{Leg, leg_at, marks, number, place_of, leg_of, step_of}
use Rattle.promise.proofs.Legs.{place_of-number}
use Rattle.plan_rules.proofs.Marks.{marks-more, marks-all, number-before}
use Rattle.showing.specs.Places.{leg_number, PlaceIs}
use Rattle.showing.specs.declared.marks.MarkPlace.{MarkPlace}

-- ---- back from a place

-- the leg of the mark at step k of leg i is leg i
pub leg-back : (ls : List Leg) (i k : ℕ) → i < length ls → k ≤ (leg_at ls i).run → leg_number ls (number ls i k) ≡ i
unfolding number leg_number
leg-back [] i k h e = absurd (omega arith)
leg-back (l ∷ ls) zero k h e = rw (le-leb k l.run e)
leg-back (l ∷ ls) (suc i) k h e =
    let past : l.run < suc l.run + number ls i k = omega arith in
    let within : suc l.run + number ls i k - suc l.run ≡ number ls i k = omega arith in
    rw (lt-leb (suc l.run + number ls i k) l.run past, within) (ap suc (leg-back ls i k (omega arith) e))

-- ---- of a mark

module _ (ls : List Leg) (k : ℕ) (r : MarkPlace) (P : PlaceIs ls k r) where
  -- its leg
  pub leg-of : r.leg ≡ leg_number ls k
  leg-of = sym (leg-back ls r.leg r.step P.leg P.step) ∙ ap (leg_number ls) P.number

  -- as a leg, and its step
  both : (leg_at ls r.leg, r.step) ≡ place_of ls k
  both = sym (place_of-number ls r.leg r.step P.leg P.step) ∙ ap (place_of ls) P.number

  pub leg-found : leg_at ls r.leg ≡ leg_of ls k
  leg-found = ap (λ (z : Leg × ℕ). z.0) both

  pub step-of : r.step ≡ step_of ls k
  step-of = ap (λ (z : Leg × ℕ). z.1) both

-- every mark stands somewhere
stands : (ls : List Leg) (k : ℕ) → k < marks ls → (r : MarkPlace) × PlaceIs ls k r
unfolding marks number
stands [] k h = absurd (omega arith)
stands (l ∷ ls) k h =
    either (below? l.run k)
    (λ past.
    let x = stands ls (k - suc l.run) (omega arith) in
    (record { leg = suc x.0.leg; step = x.0.step }, record { leg = omega (arith, x.1.leg); step = x.1.step; number = omega (arith, x.1.number) }))
    (λ here. (record { leg = 0; step = k }, record { leg = omega arith; step = here; number = refl }))

-- the leg and the step that a mark is told to stand at are one of the plan, and the mark there has its number
pub mark-placed : (ls : List Leg) (k : ℕ) → k < marks ls → PlaceIs ls k (record { leg = leg_number ls k; step = step_of ls k })
mark-placed ls k h =
    let x = stands ls k h in
    subst (PlaceIs ls k) (λ i. record { leg = leg-of ls k x.0 x.1 i; step = step-of ls k x.0 x.1 i }) x.1

-- ---- the loop: of the legs before `leg` all marks are counted off, and `step` is what is left

module _ (ls : List Leg) (k leg step run : ℕ) (h : leg < length ls) (e : marks (take leg ls) + step ≡ k) (f : run ≡ (leg_at ls leg).run) where
  -- it is a step of this leg
  pub place_here : step ≤ run → PlaceIs ls k (record { leg = leg; step = step })
  place_here s = record { leg = h; step = omega arith; number = number-before ls leg step h ∙ e }

  module _ (s : run < step) (below : k < marks ls) where
    more : marks (take leg ls) + (run + 1) ≡ marks (take (leg + 1) ls)
    more = marks-more ls leg (marks (take leg ls)) run h refl f

    -- it is one of a later leg
    pub leg-on : leg + 1 < length ls
    leg-on =
        either (below? (leg + 1) (length ls)) (λ l. l)
        (λ l. absurd (omega (arith, more, marks-all ls (leg + 1) (omega arith))))

    pub step-on : marks (take (leg + 1) ls) + (step - run - 1) ≡ k
    step-on = omega (arith, more)

-- before the first leg nothing is counted off
pub some-leg : (ls : List Leg) (k : ℕ) → k < marks ls → (0 < length ls) × (marks (take 0 ls) + k ≡ k)
unfolding marks
some-leg [] k h = absurd (omega arith)
some-leg (l ∷ ls) k h = (omega arith, omega arith)
