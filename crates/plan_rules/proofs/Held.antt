-- The legs that places hold: how many, each of them, and the first ones of all places. At the end, that places lose nothing (`held-planned`), and how many they are
-- (`held-places`).
-- Assumes nothing.
use mathlib.Core.Path.{◌≡◌, refl, ap, ◌∙◌}
use mathlib.Core.List.{List, [], ◌∷◌, ◌++◌, map}
use Prim.Native.Nat.{ℕ, zero, suc, ◌-◌, ◌≤◌, ◌<◌}
use native.Mathlib.Omega.{arith}
use lib.IntN.{ℤ, pos}
use lib.ListN.{length, get_or, take, drop, replicate, length-map}
use Rattle.promise.specs.Plan.{Leg, leg_at}
use Rattle.words.specs.Told.{accepted}
use Rattle.words.specs.Signs.{with_sign}
use Rattle.words.proofs.BySign.{sign-parts}
use Rattle.words.proofs.Padded.{padded-length}
use Rattle.plan_rules.specs.Planned.{Planned, run_of, leg_by, Limits, LegFits, EachFits, Fits}
use Rattle.plan_rules.specs.Places.{placed, held_of, leg_held, legs_held, planned_of}

-- as many legs as are asked for
pub length-held : (k : ℕ) (s : List ℕ) (r : List ℤ) → k ≤ length s → k ≤ length r → length (legs_held k s r) ≡ k
unfolding legs_held
length-held zero s r a b = refl
length-held (suc k) [] r a b = absurd (omega arith)
length-held (suc k) (x ∷ s) [] a b = absurd (omega arith)
length-held (suc k) (x ∷ s) (y ∷ r) a b = ap suc (length-held k s r (omega arith) (omega arith))

-- the leg with number i is the one in place i
pub held_at : (k : ℕ) (s : List ℕ) (r : List ℤ) (i : ℕ) → k ≤ length s → k ≤ length r → i < k
    → leg_at (legs_held k s r) i ≡ leg_held (get_or s i 0) (get_or r i (pos 0))
unfolding legs_held
held_at zero s r i a b h = absurd (omega arith)
held_at (suc k) [] r i a b h = absurd (omega arith)
held_at (suc k) (x ∷ s) [] i a b h = absurd (omega arith)
held_at (suc k) (x ∷ s) (y ∷ r) zero a b h = refl
held_at (suc k) (x ∷ s) (y ∷ r) (suc i) a b h = held_at k s r i (omega arith) (omega arith) (omega arith)

-- fewer legs are the first of them
pub held-take : (j k : ℕ) (s : List ℕ) (r : List ℤ) → j ≤ k → legs_held j s r ≡ take j (legs_held k s r)
unfolding legs_held
held-take zero k s r h = refl
held-take (suc j) zero s r h = absurd (omega arith)
held-take (suc j) (suc k) [] r h = refl
held-take (suc j) (suc k) (x ∷ s) [] h = refl
held-take (suc j) (suc k) (x ∷ s) (y ∷ r) h = ap (λ ls. leg_held x y ∷ ls) (held-take j k s r (omega arith))

-- a leg and those after it
pub legs-from : (ls : List Leg) (i : ℕ) → i < length ls → drop i ls ≡ leg_at ls i ∷ drop (suc i) ls
legs-from [] i h = absurd (omega arith)
legs-from (l ∷ ls) zero h = refl
legs-from (l ∷ ls) (suc i) h = legs-from ls i (omega arith)

-- a leg of legs that fit fits
pub each_fits : (size : ℕ) (ls : List Leg) → EachFits size ls → (i : ℕ) → i < length ls → LegFits size (leg_at ls i)
each_fits size [] h i l = absurd (omega arith)
each_fits size (x ∷ ls) h zero l = h.0
each_fits size (x ∷ ls) h (suc i) l = each_fits size ls h.1 i (omega arith)

-- ---- places lose nothing

-- legs by their places, whatever stands behind them
held-legs : (size : ℕ) (ls : List Leg) (xs : List ℕ) (ys : List ℤ) → EachFits size ls
    → legs_held (length ls) (map (λ l. l.start) ls ++ xs) (map (λ l. with_sign (run_of l)) ls ++ ys) ≡ ls
unfolding legs_held
held-legs size [] xs ys h = refl
held-legs size (l ∷ ls) xs ys h =
    ap (λ x. x ∷ legs_held (length ls) (map (λ l. l.start) ls ++ xs) (map (λ l. with_sign (run_of l)) ls ++ ys))
    (ap (leg_by l.start) (sign-parts (run_of l) h.0.behind))
    ∙ ap (λ x. l ∷ x) (held-legs size ls xs ys h.1)

-- the places of an accepted plan that fits hold that plan: nothing is lost
pub held-planned : (most : Limits) (places : ℕ) (p : Planned) → Fits most p → planned_of (held_of places (accepted p)) ≡ p
unfolding placed
held-planned most places p h =
    let xs = map (λ l. l.start) p.legs in
    let ys = map (λ l. with_sign (run_of l)) p.legs in
    let e = held-legs _ p.legs (replicate (places - length xs) 0) (replicate (places - length ys) (pos 0)) h.each in
    λ i. record { ports = p.ports; legs = e i }

-- they are as many as the most legs
pub held-places : (most : ℕ) (p : Planned) → length p.legs ≤ most
    → let held = held_of most (accepted p) in (length held.starts ≡ most) × (length held.runs ≡ most)
unfolding placed
held-places most p h =
    let xs = map (λ l. l.start) p.legs in
    let ys = map (λ l. with_sign (run_of l)) p.legs in (
      padded-length most 0 xs (omega (arith, length-map p.legs (λ l. l.start))),
      padded-length most (pos 0) ys (omega (arith, length-map p.legs (λ l. with_sign (run_of l)))),
    )
