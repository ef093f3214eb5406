-- Of a plan within the rules, what is asked where its ports and its legs are shown; and a line that was written lies within its buffer.
-- Assumes nothing.
use mathlib.Core.Path.{◌≡◌, refl, sym, ap, subst}
use mathlib.Core.Bool.{Bool, true, false, cond, true≢false}
use mathlib.Core.List.{List, []}
use Prim.Native.Nat.{ℕ, ◌+◌, ◌≤◌, ◌<◌}
use native.Mathlib.Omega.{arith}
use lib.Dec.{leb}
use lib.ListN.{length, take}
use borrow.Author.Tests.{leb-true}
use Rattle.listing.specs.Count.{count}
use Rattle.listing.specs.Limits.{most_ports, most_legs, largest64}
use Rattle.words.specs.Told.{Told, accepted, refused, nowhere, then}
use Rattle.words.specs.declared.Leg as words
use Rattle.words.specs.declared.Line.{Line}
use Rattle.promise.specs.Plan.{Leg, leg_at, marks}
use Rattle.line_format.specs.Format.{line_text}
use Rattle.line_format.specs.Reading.{fitting}
use Rattle.line_format.specs.Calls.{room_of, write_of}
use Rattle.plan_rules.specs.Planned.{LegFits, device}
use Rattle.plan_rules.specs.Rules.{leg_is, legs_of, Ruled, plan_ruled}
use Rattle.plan_rules.specs.declared.Plan.{Plan}
use Rattle.plan_rules.proofs.Held.{each_fits}
use Rattle.plan_rules.proofs.Rules.{ruled, legs-many}
use Rattle.printing.proofs.Ran.{ran-room}

-- ---- a plan with its places

module _ (p : Plan) (ls : length p.starts ≡ most_legs) (lr : length p.runs ≡ most_legs) (e : plan_ruled device p ≡ true) where
  rules : Ruled device p
  rules = ruled device p ls lr e

  -- its ports
  pub ports-ruled : (2 ≤ p.ports) × (p.ports ≤ most_ports)
  ports-ruled = (rules.fits.few_ports, rules.fits.many_ports)

  -- its legs fit
  pub leg-fits : (i : ℕ) (l : words.Leg) → i < length (legs_of p) → leg_is l ≡ leg_at (legs_of p) i → LegFits (count p.ports) (leg_is l)
  leg-fits i l h is = subst (LegFits (count p.ports)) (sym is) (each_fits (count p.ports) (legs_of p) rules.fits.each i h)

  -- leg i
  module _ (i : ℕ) (h : i < p.legs) (l : words.Leg) (is : leg_is l ≡ leg_at (legs_of p) i) where
    fits : LegFits (count p.ports) (leg_is l)
    fits = leg-fits i l (omega (arith, legs-many device p ls lr e)) is

    -- what is asked of the rank of its last mark
    pub last-asked : (2 ≤ p.ports) × (p.ports ≤ most_ports) × (l.start < count p.ports) × (l.run < count p.ports)
    last-asked = (rules.fits.few_ports, rules.fits.many_ports, fits.start, fits.run)

    -- the number of that mark is one of 64 bits
    pub last-number : (m : ℕ) → m ≡ marks (take i (legs_of p)) → m + l.run < largest64
    last-number m f =
        let run : (leg_at (legs_of p) i).run ≡ l.run = sym (ap (λ (x : Leg). x.run) is) in
        let room =
        ran-room (record { plan = p; panel = []; leg = i; step = l.run; ended = false })
        (record { starts = ls; runs = lr; plan = e; leg = h; step = omega arith }) in
        omega (arith, room)

-- ---- a line

-- what was written lies within the buffer
pub written-within : (l : Line) (buf : List ℕ) (n : ℕ) → accepted n ≡ write_of most_ports l buf → n ≤ length buf
unfolding write_of room_of
written-within l buf n e = by (fitting most_ports l) e
  where
    fit : (k : Line) (b : Bool) → leb (length (line_text k)) (length buf) ≡ b
        → accepted n ≡ cond b (accepted (length (line_text k))) (refused 2 nowhere) → n ≤ length buf
    fit k true q e = let m : n ≡ length (line_text k) = cc in omega (arith, leb-true (length (line_text k)) (length buf) q)
    fit k false q e = absurd (true≢false (cc))

    by : (told : Told Line) → accepted n ≡ then told (λ k. cond (leb (length (line_text k)) (length buf)) (accepted (length (line_text k))) (refused 2 nowhere))
        → n ≤ length buf
    by (accepted k) e = fit k (leb (length (line_text k)) (length buf)) refl e
    by (refused j s) e = absurd (true≢false (cc))
