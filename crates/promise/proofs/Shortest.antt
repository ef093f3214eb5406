-- The carriage is a shortest way by swaps (request 14): one swap on the panel makes it shorter by one at the most (`near`). Jack by jack: where the swap is of
-- later jacks, the jack is right on both panels or wrong on both, and after both fetched its port they still differ by that swap; where the swap is of this
-- jack and another, one of the two panels is the other with the port fetched, or both fetch it from a third jack, and then differ by the swap of the other
-- two. No cycles are counted.
-- Assumes nothing.
use mathlib.Core.Path.{◌≡◌, refl, sym, ap, ◌∙◌, subst}
use mathlib.Core.Logic.{◌≢◌}
use mathlib.Core.List.{List, [], ◌∷◌, ◌++◌}
use Prim.Native.Nat.{ℕ, zero, suc, ◌+◌, ◌*◌, ◌≤◌, ◌<◌}
use native.Mathlib.Omega.{arith}
use lib.ListN.{length}
use Rattle.listing.specs.Numbers.{Among, is}
use Rattle.listing.specs.Pattern.{entry, tabulate, Permutation}
use Rattle.listing.specs.Orders.{Order, swap, turn, source, carry, carry_all, InShape, AllInShape}
use Rattle.listing.proofs.Numbers.{either, below?, same?}
use Rattle.listing.proofs.Panels.{entry-carry, length-carry, carry_all-append}
use Rattle.listing.proofs.Sources.{source-unnamed, swap-first, swap-second, carry-permutation}
use Rattle.listing.proofs.Moves.{turn-split}
use Rattle.listing.proofs.Renamed.{plain, same-orders}
use Rattle.promise.specs.Carriage.{holder, fetch, carriage_from, carriage, OneByOne}
use Rattle.promise.specs.Shortest.{TwoJacks, OnJacks, AllOnJacks, Way, Swaps, Shortest, in_swaps}
use Rattle.promise.proofs.Carriage.{Ready, ready-first, ready-right, held, later, ready-fetched, carriage-wrong, carriage-still, carriage-once}
use Rattle.promise.proofs.Carriage.{carriage-reaches, carriage-shaped, carriage-few}

-- ---- two panels that differ by one swap

module _ (n a b : ℕ) (p : List ℕ) (long : length p ≡ n) (s : InShape n (swap a b)) where
  -- the port at each jack after the swap
  at_first : entry (carry (swap a b) p) a ≡ entry p b
  at_first = entry-carry (swap a b) p a (omega arith) ∙ ap (entry p) (swap-first a b)

  at_second : entry (carry (swap a b) p) b ≡ entry p a
  at_second = entry-carry (swap a b) p b (omega arith) ∙ ap (entry p) (swap-second a b s.1)

  at_other : (i : ℕ) → Among n i → i ≢ a → i ≢ b → entry (carry (swap a b) p) i ≡ entry p i
  at_other i h na nb = entry-carry (swap a b) p i (omega arith) ∙ ap (entry p) (source-unnamed (swap a b) i (na, nb))

-- two or three swaps that do the same: tried on (1, 2, ..), so for any different jacks
module _ (n : ℕ) (p : List ℕ) (long : length p ≡ n) where
  -- it does not matter which jack of a swap is named first
  either_first : (a b : ℕ) → TwoJacks n a b → carry (swap a b) p ≡ carry (swap b a) p
  unfolding carry_all carry plain tabulate source is
  either_first a b d = same-orders n (a ∷ b ∷ []) (omega (arith, d.2)) (swap 1 2 ∷ []) (swap 2 1 ∷ []) (omega arith) (omega arith) refl p long

  -- the same swap leads back
  swapped-back : (a b : ℕ) → TwoJacks n a b → carry (swap a b) (carry (swap a b) p) ≡ p
  unfolding carry_all carry plain tabulate source is
  swapped-back a b d = same-orders n (a ∷ b ∷ []) (omega (arith, d.2)) (swap 1 2 ∷ swap 1 2 ∷ []) [] (omega arith) tt refl p long

  -- jack j gets what jack a held, which the swap of a and b has brought to b
  fetched-moved : (j a b : ℕ) → TwoJacks n j a → TwoJacks n a b → j ≢ b → carry (swap j b) (carry (swap a b) p) ≡ carry (swap a b) (carry (swap j a) p)
  unfolding carry_all carry plain tabulate source is
  fetched-moved j a b d e f =
      same-orders n (j ∷ a ∷ b ∷ []) (omega (arith, d.2, e.2)) (swap 2 3 ∷ swap 1 3 ∷ []) (swap 1 2 ∷ swap 2 3 ∷ []) (omega arith) (omega arith) refl p long

  -- jack j gets what a fourth jack g held
  fetched-fourth : (j g a b : ℕ) → TwoJacks n j g → TwoJacks n a b → j ≢ a → j ≢ b → g ≢ a → g ≢ b
      → carry (swap j g) (carry (swap a b) p) ≡ carry (swap a b) (carry (swap j g) p)
  unfolding carry_all carry plain tabulate source is
  fetched-fourth j g a b d e ja jb ga gb =
      same-orders n (j ∷ g ∷ a ∷ b ∷ []) (omega (arith, d.2, e.2)) (swap 3 4 ∷ swap 1 2 ∷ []) (swap 1 2 ∷ swap 3 4 ∷ []) (omega arith) (omega arith) refl p long

  -- jack j, which was swapped with b, gets what a third jack g held
  fetched-third : (j b g : ℕ) → TwoJacks n j b → TwoJacks n j g → b ≢ g → carry (swap j g) (carry (swap j b) p) ≡ carry (swap b g) (carry (swap j g) p)
  unfolding carry_all carry plain tabulate source is
  fetched-third j b g d e f =
      same-orders n (j ∷ b ∷ g ∷ []) (omega (arith, d.2, e.2)) (swap 1 2 ∷ swap 1 3 ∷ []) (swap 1 3 ∷ swap 2 3 ∷ []) (omega arith) (omega arith) refl p long

-- a swap of different jacks, in either order, makes a permutation of a permutation
swapped-permutation : (n a b : ℕ) (p : List ℕ) → Permutation n p → TwoJacks n a b → Permutation n (carry (swap a b) p)
swapped-permutation n a b p P d =
    either (below? a b) (λ l. carry-permutation n (swap a b) p (omega arith) P) (λ l.
    rw (either_first n p P.long a b d) (carry-permutation n (swap b a) p (omega (arith, d.2)) P))

-- ---- one jack of the carriage

-- jack j, wrong on p, gets its port from jack g: that is further on, the new panel has one jack less to go, and its carriage is one order shorter
record Fetched (n j k g : ℕ) (p t : List ℕ) : Type 0 where
  far : j < g
  ready : Ready n (suc j) k (carry (swap j g) p) t
  longer : length (carriage p t) ≡ suc (length (carriage (carry (swap j g) p) t))

-- it does so from whichever jack holds the port
fetched : (n j k g : ℕ) (p t : List ℕ) → Ready n j (suc k) p t → entry p j ≢ entry t j → Among n g → entry p g ≡ entry t j → Fetched n j k g p t
fetched n j k g p t R wrong h e =
    let found : Among n (holder p (entry t j)) × (entry p (holder p (entry t j)) ≡ entry t j) = held n j k p t R wrong in
    subst (λ x. Fetched n j k x p t) (R.from.apart (holder p (entry t j)) g found.0 h (found.1 ∙ sym e))
    (record { far = later n j k p t R wrong; ready = ready-fetched n j k p t R wrong; longer = ap length (carriage-wrong n j k p t R wrong) })

-- the panel after a swap of jacks that are left is on its way too
ready-swapped : (n j k a b : ℕ) (p t : List ℕ) → Ready n j k p t → j ≤ a → InShape n (swap a b) → Ready n j k (carry (swap a b) p) t
ready-swapped n j k a b p t R l s = record {
  from = carry-permutation n (swap a b) p s R.from;
  to = R.to;
  jack = R.jack;
  left = R.left;
  right = λ i x y. at_other n a b p R.from.long s i (omega arith) (omega arith) (omega arith) ∙ R.right i x y;
}

-- ---- one swap makes the carriage shorter by one at the most

-- from jack j on
Near : ℕ → ℕ → ℕ → Type 0
Near n j k = (a b : ℕ) (p t : List ℕ) → Ready n j k p t → j ≤ a → InShape n (swap a b) → length (carriage p t) ≤ suc (length (carriage (carry (swap a b) p) t))

-- a swap of jacks past j, where jack j is wrong
near-past : (n j k : ℕ) → Near n (suc j) k → (a b : ℕ) (p t : List ℕ) → Ready n j (suc k) p t → j < a → InShape n (swap a b) → entry p j ≢ entry t j
    → length (carriage p t) ≤ suc (length (carriage (carry (swap a b) p) t))
unfolding Near
near-past n j k near a b p t R l s wrong = either (same? g a) from-a (λ ga. either (same? g b) from-b (λ gb. from-other ga gb))
  where
    long : length p ≡ n
    long = R.from.long

    g : ℕ
    g = holder p (entry t j)

    found : Among n g × (entry p g ≡ entry t j)
    found = held n j k p t R wrong

    F : Fetched n j k g p t
    F = fetched n j k g p t R wrong found.0 found.1

    -- the port stands at jack h after the swap, and fetched from there the panels differ by the same swap
    by : (h : ℕ) → Among n h → entry (carry (swap a b) p) h ≡ entry t j
        → carry (swap j h) (carry (swap a b) p) ≡ carry (swap a b) (carry (swap j g) p)
        → length (carriage p t) ≤ suc (length (carriage (carry (swap a b) p) t))
    by h among e same =
        let G : Fetched n j k h (carry (swap a b) p) t =
        fetched n j k h (carry (swap a b) p) t (ready-swapped n j (suc k) a b p t R (omega arith) s)
        (λ x. wrong (sym (at_other n a b p long s j (omega (arith, R.jack)) (omega arith) (omega arith)) ∙ x)) among e in
        omega (arith, F.longer, G.longer, ap (λ x. length (carriage x t)) same, near a b (carry (swap j g) p) t F.ready (omega arith) s)

    from-a : g ≡ a → length (carriage p t) ≤ suc (length (carriage (carry (swap a b) p) t))
    from-a e = by b (omega arith) (at_second n a b p long s ∙ ap (entry p) (sym e) ∙ found.1)
        (fetched-moved n p long j a b (omega (arith, R.jack)) (omega arith) (omega arith) ∙ ap (λ x. carry (swap a b) (carry (swap j x) p)) (sym e))

    from-b : g ≡ b → length (carriage p t) ≤ suc (length (carriage (carry (swap a b) p) t))
    from-b e = by a (omega arith) (at_first n a b p long s ∙ ap (entry p) (sym e) ∙ found.1)
        (ap (carry (swap j a)) (either_first n p long a b (omega arith)) ∙ fetched-moved n p long j b a (omega (arith, R.jack)) (omega arith) (omega arith)
        ∙ either_first n (carry (swap j b) p) (length-carry (swap j b) p ∙ long) b a (omega arith)
        ∙ ap (λ x. carry (swap a b) (carry (swap j x) p)) (sym e))

    from-other : g ≢ a → g ≢ b → length (carriage p t) ≤ suc (length (carriage (carry (swap a b) p) t))
    from-other ga gb = by g found.0 (at_other n a b p long s g found.0 ga gb ∙ found.1)
        (fetched-fourth n p long j g a b (omega (arith, R.jack, F.far, found.0)) (omega arith) (omega arith) (omega arith) ga gb)

-- a swap of jack j itself with a later one
near-here : (n j k : ℕ) → Near n (suc j) k → (b : ℕ) (p t : List ℕ) → Ready n j (suc k) p t → InShape n (swap j b)
    → length (carriage p t) ≤ suc (length (carriage (carry (swap j b) p) t))
unfolding Near
near-here n j k near b p t R s =
    either (same? (entry p j) (entry t j)) right (λ wrong. either (same? (entry p b) (entry t j)) (there wrong) (neither wrong))
  where
    long : length p ≡ n
    long = R.from.long

    q : List ℕ
    q = carry (swap j b) p

    Q : Ready n j (suc k) q t
    Q = ready-swapped n j (suc k) j b p t R (omega arith) s

    -- right on p: on q its port is fetched back
    right : entry p j ≡ entry t j → length (carriage p t) ≤ suc (length (carriage q t))
    right e =
        let wrong : entry q j ≢ entry t j =
        λ x. omega (arith, R.from.apart b j (omega arith) (omega arith) (sym (at_first n j b p long s) ∙ x ∙ sym e)) in
        let F : Fetched n j k b q t = fetched n j k b q t Q wrong (omega arith) (at_second n j b p long s ∙ e) in
        omega (arith, F.longer, ap (λ x. length (carriage x t)) (swapped-back n p long j b (omega arith)))

    -- right on q: the swap was the fetching
    there : entry p j ≢ entry t j → entry p b ≡ entry t j → length (carriage p t) ≤ suc (length (carriage q t))
    there wrong e = omega (arith, (fetched n j k b p t R wrong (omega arith) e).longer)

    -- wrong on both: both fetch from a third jack
    neither : entry p j ≢ entry t j → entry p b ≢ entry t j → length (carriage p t) ≤ suc (length (carriage q t))
    neither wrong other =
        let g : ℕ = holder p (entry t j) in
        let found : Among n g × (entry p g ≡ entry t j) = held n j k p t R wrong in
        let F : Fetched n j k g p t = fetched n j k g p t R wrong found.0 found.1 in
        let gb : b ≢ g = λ e. other (ap (entry p) e ∙ found.1) in
        let gj : j < g = F.far in
        let G : Fetched n j k g q t =
        fetched n j k g q t Q (λ x. other (sym (at_first n j b p long s) ∙ x)) found.0
        (at_other n j b p long s g found.0 (omega arith) (λ e. gb (sym e)) ∙ found.1) in
        let u : List ℕ = carry (swap j g) p in
        let same : carry (swap j g) q ≡ carry (swap b g) u = fetched-third n p long j b g (omega arith) (omega (arith, found.0)) gb in
        let turned : carry (swap b g) u ≡ carry (swap g b) u = either_first n u F.ready.from.long b g (omega (arith, found.0)) in
        let closer : length (carriage u t) ≤ suc (length (carriage (carry (swap j g) q) t)) =
        either (below? b g)
        (λ l. subst (λ x. length (carriage u t) ≤ suc (length (carriage x t))) (sym same) (near b g u t F.ready (omega arith) (omega (arith, found.0))))
        (λ l. subst (λ x. length (carriage u t) ≤ suc (length (carriage x t))) (sym (same ∙ turned))
        (near g b u t F.ready (omega arith) (omega arith))) in
        omega (arith, F.longer, G.longer, closer)

-- so from any jack on
near-from : (n k j : ℕ) → Near n j k
unfolding Near
near-from n zero j a b p t R l s = absurd (omega (arith, R.left))
near-from n (suc k) j a b p t R l s =
    either (same? a j) (λ e. rw e (near-here n j k (near-from n k (suc j)) b p t R (rw e at s))) (λ na.
    either (same? (entry p j) (entry t j))
    (λ right. near-from n k (suc j) a b p t (ready-right n j k p t R right) (omega arith) s)
    (near-past n j k (near-from n k (suc j)) a b p t R (omega arith) s))

-- one swap of different jacks, in either order, makes the carriage shorter by one at the most
pub near : (n a b : ℕ) (p t : List ℕ) → Permutation n p → Permutation n t → TwoJacks n a b
    → length (carriage p t) ≤ suc (length (carriage (carry (swap a b) p) t))
unfolding Near
near n a b p t P T d =
    either (below? a b) (λ l. near-from n n 1 a b p t (ready-first n p t P T) (omega arith) (omega arith)) (λ l.
    rw (either_first n p P.long a b d) (near-from n n 1 b a p t (ready-first n p t P T) (omega arith) (omega (arith, d.2))))

-- ---- no way is shorter

-- counted in swaps, no way is shorter than the carriage, turns among its orders or not
pub fewest-in-swaps : (n : ℕ) (os : List Order) (p t : List ℕ) → Permutation n p → Permutation n t → Way n p t os → length (carriage p t) ≤ in_swaps os
unfolding carry_all in_swaps
fewest-in-swaps n [] p t P T w = rw w.leads (omega (arith, ap length (carriage-still t)))
fewest-in-swaps n (swap a b ∷ os) p t P T w =
    let d : TwoJacks n a b = w.orders.0 in
    let rest : length (carriage (carry (swap a b) p) t) ≤ in_swaps os =
    fewest-in-swaps n os (carry (swap a b) p) t (swapped-permutation n a b p P d) T (record { orders = w.orders.1; leads = w.leads }) in
    omega (arith, near n a b p t P T d, rest)
fewest-in-swaps n (turn a b c ∷ os) p t P T w =
    let d : TwoJacks n a b = w.orders.0.0 in
    let e : TwoJacks n b c = w.orders.0.1 in
    let q : List ℕ = carry (swap a b) p in
    let r : List ℕ = carry (swap b c) q in
    let Q : Permutation n q = swapped-permutation n a b p P d in
    let same : carry (turn a b c) p ≡ r = turn-split a b c p (omega (arith, P.long, d.2, e.2, w.orders.0.2)) in
    let rest : length (carriage r t) ≤ in_swaps os =
    fewest-in-swaps n os r t (swapped-permutation n b c q Q e) T (record { orders = w.orders.1; leads = ap (carry_all os) (sym same) ∙ w.leads }) in
    omega (arith, near n a b p t P T d, near n b c q t Q T e, rest)

-- a way by swaps has as many swaps as orders
in-swaps : (os : List Order) → Swaps os → in_swaps os ≡ length os
unfolding in_swaps
in-swaps [] s = refl
in-swaps (swap a b ∷ os) s = omega (arith, in-swaps os s)
in-swaps (turn a b c ∷ os) s = absurd s

-- the swaps of the carriage, as a way
one-by-one-swaps : (j : ℕ) (os : List Order) → OneByOne j os → Swaps os
unfolding OneByOne
one-by-one-swaps j [] h = tt
one-by-one-swaps j (swap a b ∷ os) h = one-by-one-swaps (suc a) os h.1
one-by-one-swaps j (turn a b c ∷ os) h = h

-- orders in shape are orders on the panel
shaped-orders : (n : ℕ) (os : List Order) → AllInShape n os → AllOnJacks n os
shaped-orders n [] s = tt
shaped-orders n (swap a b ∷ os) s = (omega (arith, s.0), shaped-orders n os s.1)
shaped-orders n (turn a b c ∷ os) s = (omega (arith, s.0), shaped-orders n os s.1)

module _ (n : ℕ) (p t : List ℕ) (P : Permutation n p) (T : Permutation n t) where
  -- the carriage is a way
  pub carriage-way : Way n p t (carriage p t)
  carriage-way = record { orders = shaped-orders n (carriage p t) (carriage-shaped n p t P T); leads = carriage-reaches n p t P T }

  -- from any permutation to any other of the same length no sequence of swaps that reaches the target is shorter than the carriage
  pub carriage-shortest : Shortest n p t (carriage p t)
  carriage-shortest = record {
    way = carriage-way;
    swaps = one-by-one-swaps 1 (carriage p t) (carriage-once p t);
    fewest = λ os w s. omega (arith, fewest-in-swaps n os p t P T w, in-swaps os s);
  }

-- orders that are a shortest way are one to wherever they lead
pub shortest-here : {n : ℕ} {p t q : List ℕ} {os vs : List Order} → Shortest n p t vs → os ≡ vs → carry_all os p ≡ q → Shortest n p q os
shortest-here {n} {p} {os = os} S e f = subst (λ x. Shortest n p x os) (sym S.way.leads ∙ ap (λ x. carry_all x p) (sym e) ∙ f) (rw e S)

-- ---- ways one behind the other

-- ways that meet at a panel are a way, whatever panel it is: self-joins are passed like any other
pub way_on : {n : ℕ} {p q t : List ℕ} (os vs : List Order) → Way n p q os → Way n q t vs → Way n p t (os ++ vs)
way_on {n} {p} os vs w v = record { orders = both os w.orders; leads = carry_all-append os vs p ∙ ap (carry_all vs) w.leads ∙ v.leads }
  where
    both : (us : List Order) → AllOnJacks n us → AllOnJacks n (us ++ vs)
    both [] h = v.orders
    both (o ∷ us) h = (h.0, both us h.1)

-- ---- turns

-- a turn is one order for two swaps
pub in-swaps-half : (os : List Order) → in_swaps os ≤ 2 * length os
unfolding in_swaps
in-swaps-half [] = omega arith
in-swaps-half (swap a b ∷ os) = omega (arith, in-swaps-half os)
in-swaps-half (turn a b c ∷ os) = omega (arith, in-swaps-half os)

module _ (n : ℕ) (p t : List ℕ) (P : Permutation n p) (T : Permutation n t) (os : List Order) (w : Way n p t os) where
  -- so no way has fewer than half as many orders as the carriage
  pub half-at-best : length (carriage p t) ≤ 2 * length os
  half-at-best = omega (arith, fewest-in-swaps n os p t P T w, in-swaps-half os)

  -- and none has fewer at all where there are less than 3 ports, or less than 2 swaps
  pub wins-from : length os < length (carriage p t) → (3 ≤ n) × (2 ≤ length (carriage p t))
  wins-from l = omega (arith, carriage-few n p t P T, half-at-best)

-- the smallest example: from 2,3,1 to 3,1,2 the carriage has two swaps, and one turn leads there
pub turn-wins : (carriage (2 ∷ 3 ∷ 1 ∷ []) (3 ∷ 1 ∷ 2 ∷ []) ≡ swap 1 2 ∷ swap 2 3 ∷ []) × Way 3 (2 ∷ 3 ∷ 1 ∷ []) (3 ∷ 1 ∷ 2 ∷ []) (turn 1 2 3 ∷ [])
unfolding carriage carriage_from holder carry_all carry tabulate source is
turn-wins = (refl, record { orders = omega arith; leads = refl })

-- between them the carriage passes 3,2,1, where jack 2 is joined to port 2
pub self-join-passed : carry (swap 1 2) (2 ∷ 3 ∷ 1 ∷ []) ≡ 3 ∷ 2 ∷ 1 ∷ []
unfolding carry tabulate source is
self-join-passed = refl
