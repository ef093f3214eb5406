-- The orders still to come: the panels on their way, what they lead to, how many they are, and what is left after one of them is carried out.
-- Assumes nothing.
use mathlib.Core.Path.{◌≡◌, refl, sym, ap, ap₂, ◌∙◌, subst}
use mathlib.Core.Bool.{Bool, true, false, cond, true≢false}
use mathlib.Core.List.{List, [], ◌∷◌, ◌++◌, head-eq_of_cons-eq, tail-eq_of_cons-eq}
use mathlib.Core.Option.{Option, none, some, or_else}
use Prim.Native.Nat.{ℕ, zero, suc, ◌-◌, ◌≤◌, ◌<◌}
use native.Mathlib.Omega.{arith}
use lib.ListN.{length, get_or, take, drop, length-drop, take-append-drop}
use lib.Seq.{take-suc, drop-cons, take-length, drop-length}
use Rattle.listing.specs.Pattern.{Permutation}
use Rattle.listing.specs.Orders.{Order, carry, carry_all, AllInShape}
use Rattle.listing.proofs.Panels.{carry_all-append}
use Rattle.promise.specs.Tests.{is_permutation, same}
use Rattle.promise.specs.Carriage.{carriage}
use Rattle.promise.specs.Plan.{cords, Passed, Straight, Family, Step, Lawful, Leg, rank_at}
use Rattle.promise.specs.Campaign.{rest, to_come, found}
use Rattle.promise.specs.Fitness.{OnTheWay}
use Rattle.promise.specs.Onward.{carried_out}
use Rattle.promise.proofs.Tests.{Tells, clash, tells-permutation, tells-same, same_self}
use Rattle.promise.proofs.Carriage.{First, carriage-first, carriage-reaches, carriage-few, carriage-shaped, carriage-still}

-- ---- outcomes of a search

-- what is found is one thing
pub some-eq : {A : Type 0} {a b : A} → some a ≡ some b → a ≡ b
some-eq e = cc

-- and is not nothing
pub no_none : {A B : Type 0} {a : A} {o : Option A} → o ≡ none → o ≡ some a → B
no_none e f = absurd (true≢false (cc))

-- ---- what is left of a list of orders

-- where a panel is found on a way: further on, at its first panel, or nowhere
data Spot (p : List ℕ) (o : Order) (os : List Order) (q : List ℕ) : Type 0 where
  further : (us : List Order) → rest (carry o p) os q ≡ some us → rest p (o ∷ os) q ≡ some us → Spot p o os q
  at_first : p ≡ q → rest p (o ∷ os) q ≡ some (o ∷ os) → Spot p o os q
  nowhere : rest p (o ∷ os) q ≡ none → Spot p o os q

-- it is found at one of these
spot : (p : List ℕ) (o : Order) (os : List Order) (q : List ℕ) → Spot p o os q
unfolding rest or_else
spot p o os q = go (rest (carry o p) os q) refl (same p q) refl
  where
    go : (r : Option (List Order)) → rest (carry o p) os q ≡ r → (b : Bool) → same p q ≡ b → Spot p o os q
    go (some us) e b f = further us e (rw e)
    go none e true f = at_first ((tells-same p q).0 f) (rw (e, f))
    go none e false f = nowhere (rw (e, f))

-- what is found: the orders vs after the first i of os, which have led from p to q
record Rest (p : List ℕ) (os : List Order) (q : List ℕ) (vs : List Order) : Type 0 where
  done : ℕ
  within : done ≤ length os
  panel : carry_all (take done os) p ≡ q
  left : drop done os ≡ vs

-- what the search gives is so
rest-so : (p : List ℕ) (os : List Order) (q : List ℕ) (vs : List Order) → rest p os q ≡ some vs → Rest p os q vs
unfolding rest carry_all
rest-so p [] q vs h = by-test (same p q) refl h
  where
    by-test : (b : Bool) → same p q ≡ b → cond b (some []) none ≡ some vs → Rest p [] q vs
    by-test true e f = record { done = 0; within = omega arith; panel = (tells-same p q).0 e; left = some-eq f }
    by-test false e f = no_none refl f
rest-so p (o ∷ os) q vs h = go (rest-so (carry o p) os q vs) (spot p o os q)
  where
    go : (rest (carry o p) os q ≡ some vs → Rest (carry o p) os q vs) → Spot p o os q → Rest p (o ∷ os) q vs
    go later (further us e f) =
        let r : Rest (carry o p) os q vs = later (e ∙ sym f ∙ h) in
        record { done = suc r.done; within = omega (arith, r.within); panel = r.panel; left = r.left }
    go later (at_first e f) = record { done = 0; within = omega arith; panel = e; left = some-eq (sym f ∙ h) }
    go later (nowhere f) = no_none f h

-- each panel on the way is found
rest-passed : (p : List ℕ) (os : List Order) (q : List ℕ) → Passed p os q → (vs : List Order) × (rest p os q ≡ some vs)
unfolding rest or_else carry_all
rest-passed p [] q (zero, h, e) = ([], rw (e, same_self q))
rest-passed p [] q (suc i, h, e) = absurd (omega arith)
rest-passed p (o ∷ os) q (zero, h, e) = go (rest (carry o p) os q) refl
  where
    go : (r : Option (List Order)) → rest (carry o p) os q ≡ r → (vs : List Order) × (rest p (o ∷ os) q ≡ some vs)
    go (some us) f = (us, rw f)
    go none f = (o ∷ os, rw (f, (tells-same p q).1 e))
rest-passed p (o ∷ os) q (suc i, h, e) =
    let r : (vs : List Order) × (rest (carry o p) os q ≡ some vs) = rest-passed (carry o p) os q (i, omega arith, e) in
    (r.0, rw r.1)

-- on a way that passes no panel twice, after the first i orders the others are left
rest-after : (p : List ℕ) (os : List Order) → Straight p os → (i : ℕ) → i ≤ length os → rest p os (carry_all (take i os) p) ≡ some (drop i os)
rest-after p os straight i h =
    let f : (vs : List Order) × (rest p os (carry_all (take i os) p) ≡ some vs) = rest-passed p os (carry_all (take i os) p) (i, h, refl) in
    let r : Rest p os (carry_all (take i os) p) f.0 = rest-so p os (carry_all (take i os) p) f.0 f.1 in
    f.1 ∙ ap {B = Option (List Order)} some (sym r.left ∙ ap (λ j. drop j os) (straight r.done i r.within h r.panel))

-- the first order of what is left, carried out, leaves the others
rest-step : (p : List ℕ) (os : List Order) → Straight p os → (q : List ℕ) (w : Order) (ws : List Order) → rest p os q ≡ some (w ∷ ws)
    → rest p os (carry w q) ≡ some ws
unfolding carry_all
rest-step p os straight q w ws h =
    let r : Rest p os q (w ∷ ws) = rest-so p os q (w ∷ ws) h in
    let more : r.done < length os = omega (arith, ap length r.left, length-drop r.done os) in
    let cut : w ∷ ws ≡ get_or os r.done w ∷ drop (suc r.done) os = sym r.left ∙ drop-cons os r.done w more in
    let moved : carry_all (take (suc r.done) os) p ≡ carry w q =
    ap (λ l. carry_all l p) (take-suc os r.done w more) ∙ carry_all-append (take r.done os) (get_or os r.done w ∷ []) p
    ∙ ap₂ carry (sym (head-eq_of_cons-eq cut)) r.panel in
    ap (rest p os) (sym moved) ∙ rest-after p os straight (suc r.done) more ∙ ap {B = Option (List Order)} some (sym (tail-eq_of_cons-eq cut))

-- what is left leads from the panel to the way's end
rest-leads : (p : List ℕ) (os : List Order) (q : List ℕ) (vs : List Order) → Rest p os q vs → carry_all vs q ≡ carry_all os p
rest-leads p os q vs r =
    ap₂ carry_all (sym r.left) (sym r.panel) ∙ sym (carry_all-append (take r.done os) (drop r.done os) p)
    ∙ ap (λ l. carry_all l p) (take-append-drop r.done os)

-- later orders name no more cords and are in shape where all are
cords-drop : (i : ℕ) (os : List Order) → cords (drop i os) ≤ cords os
unfolding cords
cords-drop zero os = omega arith
cords-drop (suc i) [] = omega arith
cords-drop (suc i) (o ∷ os) = omega (arith, cords-drop i os)

-- and are in shape where all are
shaped-drop : (n i : ℕ) (os : List Order) → AllInShape n os → AllInShape n (drop i os)
shaped-drop n zero os h = h
shaped-drop n (suc i) [] h = tt
shaped-drop n (suc i) (o ∷ os) h = shaped-drop n i os h.1

-- ---- what is to come before a mark

-- before a leg's first mark: any permutation may stand, and the carriage is to come
pub way-first : (F : Family) (l : Leg) (q : List ℕ) → Permutation F.ports q → to_come F l 0 q ≡ some (carriage q (F.pattern (rank_at F l 0)))
unfolding to_come
way-first F l q P = rw ((tells-permutation F.ports q).1 P)

-- and where something is to come the panel is one, and it is the carriage
way-carriage : (F : Family) (l : Leg) (q : List ℕ) (vs : List Order) → to_come F l 0 q ≡ some vs
    → Permutation F.ports q × (carriage q (F.pattern (rank_at F l 0)) ≡ vs)
unfolding to_come
way-carriage F l q vs h = go (is_permutation F.ports q) refl h
  where
    go : (b : Bool) → is_permutation F.ports q ≡ b → cond b (some (carriage q (F.pattern (rank_at F l 0)))) none ≡ some vs
        → Permutation F.ports q × (carriage q (F.pattern (rank_at F l 0)) ≡ vs)
    go true e f = ((tells-permutation F.ports q).0 e, some-eq f)
    go false e f = no_none refl f

-- what the orders still to come do
pub record Coming (F : Family) (l : Leg) (k : ℕ) (q : List ℕ) (vs : List Order) : Type 0 where
  pub leads : carry_all vs q ≡ F.pattern (rank_at F l k)
  pub few : length vs ≤ F.ports - 1
  pub near : 0 < k → cords vs ≤ F.reach
  pub shaped : AllInShape F.ports vs

-- the ranks that the leg names up to step k are listed
abbrev pub Listed : Family → Leg → ℕ → Type 0
Listed F l k = (i : ℕ) → i ≤ k → rank_at F l i < F.size

module _ (F : Family) (lawful : Lawful F) (l : Leg) where
  -- the pattern of a listed rank is a permutation
  wanted-permutation : (k : ℕ) → Listed F l k → Permutation F.ports (F.pattern (rank_at F l k))
  wanted-permutation k listed = lawful.listed (rank_at F l k) (listed k (omega arith))

  -- two listed ranks that a leg names one after the other are a step of the family
  inner : (k : ℕ) → Listed F l (suc k) → Step F l.back (rank_at F l k)
  inner k listed = lawful.steps l.back (rank_at F l k) (listed k (omega arith)) (listed (suc k) (omega arith))

  -- inside a leg: after the first i orders of the move to the neighbour the others are to come
  pub way-after : (k : ℕ) → Listed F l (suc k) → (i : ℕ) → i ≤ length (F.orders l.back (rank_at F l k))
      → to_come F l (suc k) (carry_all (take i (F.orders l.back (rank_at F l k))) (F.pattern (rank_at F l k)))
      ≡ some (drop i (F.orders l.back (rank_at F l k)))
  unfolding to_come
  way-after k listed i h = rest-after (F.pattern (rank_at F l k)) (F.orders l.back (rank_at F l k)) (inner k listed).straight i h

  -- the orders still to come do this
  pub coming : (k : ℕ) → Listed F l k → (q : List ℕ) (vs : List Order) → to_come F l k q ≡ some vs → Coming F l k q vs
  unfolding to_come
  coming zero listed q vs h =
      let t : List ℕ = F.pattern (rank_at F l 0) in
      let c : Permutation F.ports q × (carriage q t ≡ vs) = way-carriage F l q vs h in
      let T : Permutation F.ports t = wanted-permutation 0 listed in
      rw (← c.1) (record {
        leads = carriage-reaches F.ports q t c.0 T;
        few = carriage-few F.ports q t c.0 T;
        near = λ b. absurd (omega arith);
        shaped = carriage-shaped F.ports q t c.0 T;
      })
  coming (suc k) listed q vs h =
      let i : Step F l.back (rank_at F l k) = inner k listed in
      let os : List Order = F.orders l.back (rank_at F l k) in
      let r : Rest (F.pattern (rank_at F l k)) os q vs = rest-so (F.pattern (rank_at F l k)) os q vs h in
      record {
        leads = rest-leads (F.pattern (rank_at F l k)) os q vs r ∙ i.leads;
        few = omega (arith, ap length r.left, length-drop r.done os, i.few);
        near = λ b. omega (arith, ap cords r.left, cords-drop r.done os, i.near);
        shaped = subst (AllInShape F.ports) r.left (shaped-drop F.ports r.done os i.shaped);
      }

  -- after the first of them the others are to come
  pub way_step : (k : ℕ) → Listed F l k → (q : List ℕ) (o : Order) (os : List Order) → to_come F l k q ≡ some (o ∷ os) → to_come F l k (carry o q) ≡ some os
  unfolding to_come
  way_step zero listed q o os h =
      let t : List ℕ = F.pattern (rank_at F l 0) in
      let c : Permutation F.ports q × (carriage q t ≡ o ∷ os) = way-carriage F l q (o ∷ os) h in
      let f : First F.ports q t o os = carriage-first F.ports q t c.0 (wanted-permutation 0 listed) o os c.1 in
      way-first F l (carry o q) f.permutation ∙ ap {B = Option (List Order)} some f.afterwards
  way_step (suc k) listed q o os h = rest-step (F.pattern (rank_at F l k)) (F.orders l.back (rank_at F l k)) (inner k listed).straight q o os h

  -- from the last mark's pattern all the family's orders are to come
  pub way_next : (k : ℕ) → Listed F l (suc k) → to_come F l (suc k) (F.pattern (rank_at F l k)) ≡ some (F.orders l.back (rank_at F l k))
  unfolding carry_all
  way_next k listed = way-after k listed 0 (omega arith)

  -- at the mark's pattern nothing is to come
  pub way-over : (k : ℕ) → Listed F l k → to_come F l k (F.pattern (rank_at F l k)) ≡ some []
  way-over zero listed =
      let t : List ℕ = F.pattern (rank_at F l 0) in
      way-first F l t (wanted-permutation 0 listed) ∙ ap {B = Option (List Order)} some (carriage-still t)
  way-over (suc k) listed =
      let os : List Order = F.orders l.back (rank_at F l k) in
      ap (to_come F l (suc k)) (sym (inner k listed).leads ∙ ap (λ vs. carry_all vs (F.pattern (rank_at F l k))) (sym (take-length os)))
      ∙ way-after k listed (length os) (omega arith) ∙ ap {B = Option (List Order)} some (drop-length os)

  -- and where nothing is to come the panel has the mark's pattern
  pub way-done : (k : ℕ) → Listed F l k → (q : List ℕ) → to_come F l k q ≡ some [] → q ≡ F.pattern (rank_at F l k)
  unfolding carry_all
  way-done k listed q h = (coming k listed q [] h).leads

-- for a panel that may stand there the search finds what is to come
pub way-found : (F : Family) (l : Leg) (k : ℕ) (q : List ℕ) → OnTheWay F l k q → (vs : List Order) × (to_come F l k q ≡ some vs)
unfolding OnTheWay to_come
way-found F l zero q P = (carriage q (F.pattern (rank_at F l 0)), way-first F l q P)
way-found F l (suc k) q h = rest-passed (F.pattern (rank_at F l k)) (F.orders l.back (rank_at F l k)) q h

-- and for no other
pub found-way : (F : Family) (l : Leg) (k : ℕ) (q : List ℕ) (vs : List Order) → to_come F l k q ≡ some vs → OnTheWay F l k q
unfolding OnTheWay to_come
found-way F l zero q vs h = (way-carriage F l q vs h).0
found-way F l (suc k) q vs h =
    let r : Rest (F.pattern (rank_at F l k)) (F.orders l.back (rank_at F l k)) q vs =
    rest-so (F.pattern (rank_at F l k)) (F.orders l.back (rank_at F l k)) q vs h in
    (r.done, r.within, r.panel)

-- the test tells whether it may stand there
pub tells-way : (F : Family) (l : Leg) (k : ℕ) (q : List ℕ) → Tells (found (to_come F l k q)) (OnTheWay F l k q)
tells-way F l k q = (λ e. there (to_come F l k q) refl e, λ h. rw (way-found F l k q h).1)
  where
    there : (r : Option (List Order)) → to_come F l k q ≡ r → found r ≡ true → OnTheWay F l k q
    there none e f = clash f refl
    there (some vs) e f = found-way F l k q vs e

-- the last mark's pattern may stand before the next mark of the leg
pub way_on : (F : Family) (l : Leg) (k : ℕ) → OnTheWay F l (suc k) (F.pattern (rank_at F l k))
unfolding OnTheWay carry_all
way_on F l k = (0, omega arith, refl)

-- inside a leg the orders carried out and those still to come are the family's, and those carried out lead from the last mark's pattern to the panel
pub way-gone : (F : Family) (l : Leg) (k : ℕ) (q : List ℕ) (vs : List Order) → to_come F l (suc k) q ≡ some vs
    → let os = F.orders l.back (rank_at F l k) in
    (carried_out os (some vs) ++ vs ≡ os) × (carry_all (carried_out os (some vs)) (F.pattern (rank_at F l k)) ≡ q)
unfolding to_come
way-gone F l k q vs h =
    let os : List Order = F.orders l.back (rank_at F l k) in
    let r : Rest (F.pattern (rank_at F l k)) os q vs = rest-so (F.pattern (rank_at F l k)) os q vs h in
    let so-many : length os - length vs ≡ r.done = omega (arith, ap length r.left, length-drop r.done os, r.within) in (
      ap (λ i. take i os ++ vs) so-many ∙ ap (λ l. take r.done os ++ l) (sym r.left) ∙ take-append-drop r.done os,
      ap (λ i. carry_all (take i os) (F.pattern (rank_at F l k))) so-many ∙ r.panel,
    )
