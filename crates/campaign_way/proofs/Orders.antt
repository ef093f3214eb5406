-- The next order on a way, from the orders still to come: of a move inside a leg, and of the carriage before its first mark.
-- Assumes nothing.
use mathlib.Core.Path.{◌≡◌, refl, sym, ap, ◌∙◌, subst}
use mathlib.Core.Bool.{Bool, true, false, cond, true≢false}
use mathlib.Core.Logic.{◌≢◌}
use mathlib.Core.List.{List, [], ◌∷◌, ◌++◌}
use mathlib.Core.Option.{Option, none, some, or_else}
use Prim.Native.Nat.{ℕ, zero, suc, ◌-◌, ◌≤◌, ◌<◌}
use native.Mathlib.Omega.{arith}
use lib.ListN.{length, take, drop}
use lib.Seq.{length-take-le, take_at}
use borrow.Author.Tests.{ne_eqb}
use Rattle.listing.specs.Numbers.{Among}
use Rattle.listing.specs.Pattern.{entry, Permutation}
use Rattle.listing.specs.Orders.{Order, swap, carry, Move, orders, InForm}
use Rattle.listing.specs.Count.{count}
use Rattle.listing.specs.Listing.{at}
use Rattle.listing.specs.Neighbours.{move_beside}
use Rattle.listing.specs.Limits.{most_ports}
use Rattle.listing.proofs.Numbers.{from-two}
use Rattle.listing.proofs.Panels.{length-carry}
use Rattle.listing.proofs.Ranks.{rank-at}
use Rattle.listing.proofs.Neighbours.{beside-leads}
use Rattle.listing_course.specs.Course.{CourseOf}
use Rattle.listing_course.specs.Onward.{course_move}
use Rattle.listing_course.proofs.Beside.{course-beside}
use Rattle.promise.specs.Tests.{same, is_permutation}
use Rattle.promise.specs.Carriage.{holder, carriage}
use Rattle.promise.specs.Plan.{Leg, stepped}
use Rattle.promise.specs.Campaign.{rest, to_come}
use Rattle.promise.specs.Derangements.{derangements}
use Rattle.promise.proofs.Onto.{holds}
use Rattle.promise.proofs.Tests.{tells-permutation, fails}
use Rattle.words.specs.Told.{Spot, accepted, refused}
use Rattle.pattern_check.specs.Faults.{seek}
use Rattle.pattern_check.specs.Calls.{check_as}
use Rattle.pattern_check.proofs.Accepted.{accepted-panel, panel-accepted}
use Rattle.pattern_carry.proofs.Held.{only-held}
use Rattle.pattern_carry.specs.Panels.{wrong_from}
use Rattle.pattern_carry.proofs.Differ.{wrong-among}
use Rattle.campaign_way.specs.Coming.{next_of, or_next}
use Rattle.campaign_way.proofs.Differ.{carriage-first}

-- ---- inside a leg

-- at the end of the way
pub rest-arrived : (p q : List ℕ) → next_of (rest p [] q) ≡ cond (same p q) (some none) none
unfolding rest
rest-arrived p q = by (same p q)
  where
    by : (b : Bool) → next_of (cond b (some []) none) ≡ cond b (some none) none
    by true = refl
    by false = refl

-- so nothing is to come where the panel is p, and any other panel is astray
pub rest-there : (p q : List ℕ) → same p q ≡ true → next_of (rest p [] q) ≡ some none
rest-there p q e = rest-arrived p q ∙ rw e refl

pub rest-elsewhere : (p q : List ℕ) → same p q ≡ false → next_of (rest p [] q) ≡ none
rest-elsewhere p q e = rest-arrived p q ∙ rw e refl

-- one order before: what is found after it, or else itself
pub rest-order : (p : List ℕ) (o : Order) (os : List Order) (q : List ℕ)
    → next_of (rest p (o ∷ os) q) ≡ or_next (next_of (rest (carry o p) os q)) (cond (same p q) (some (some o)) none)
unfolding rest or_else
rest-order p o os q = by (rest (carry o p) os q) (same p q)
  where
    by : (f : Option (List Order)) (b : Bool) → next_of (or_else f (cond b (some (o ∷ os)) none)) ≡ or_next (next_of f) (cond b (some (some o)) none)
    by none true = refl
    by none false = refl
    by (some []) b = refl
    by (some (v ∷ vs)) b = refl

-- the front of an array whose panel an order was carried out on
pub carried-front : (n : ℕ) (p r : List ℕ) (o : Order) → n ≤ length p → r ≡ carry o (take n p) ++ drop n p → take n r ≡ carry o (take n p)
carried-front n p r o h e =
    ap (take n) e ∙ take_at (carry o (take n p)) (drop n p) n (length-carry o (take n p) ∙ length-take-le n p h)

-- so what is found on the way after an order, and else the order itself, is what is found on the way before it (a: the panel after the order)
pub way-order : (p a : List ℕ) (o : Order) (os : List Order) (q : List ℕ) (f r : Option (Option Order)) → a ≡ carry o p → f ≡ next_of (rest a os q)
    → r ≡ or_next f (cond (same p q) (some (some o)) none) → r ≡ next_of (rest p (o ∷ os) q)
way-order p a o os q f r e g h =
    h ∙ ap (λ x. or_next x (cond (same p q) (some (some o)) none)) (g ∙ ap (λ x. next_of (rest x os q)) e) ∙ sym (rest-order p o os q)

-- what was found further on stands
pub further : (f b : Option (Option Order)) (a : Option Order) → f ≡ some a → some a ≡ or_next f b
further f b a e = rw e refl

-- where nothing was, the order is next exactly if the panel is there
pub order-next : (f : Option (Option Order)) (o : Order) (b : Bool) → f ≡ none → b ≡ true → some (some o) ≡ or_next f (cond b (some (some o)) none)
order-next f o b e t = rw (e, t) refl

pub order-gone : (f : Option (Option Order)) (o : Order) (b : Bool) → f ≡ none → b ≡ false → none ≡ or_next f (cond b (some (some o)) none)
order-gone f o b e t = rw (e, t) refl

-- the move beside a listed rank is in the paper's form
pub beside-form : (n : ℕ) → 2 ≤ n → (back : Bool) (r : ℕ) → r < count n → InForm n (move_beside n back r)
beside-form n two back r h = from-two (λ n. r < count n → InForm n (move_beside n back r)) (λ m l. (beside-leads m back r l).form) n two h

-- the move read off the course of a rank is the move beside the rank
pub course-move : (n r : ℕ) (c : List ℕ) (back : Bool) (v : Move) → 2 ≤ n → r < count n → CourseOf c n (at n r) → v ≡ course_move c n back
    → v ≡ move_beside n back r
course-move n r c back v two l C told = told ∙ course-beside c n (at n r) back two C ∙ ap (move_beside n back) (rank-at n r l)

-- ---- before a leg's first mark

-- on a permutation the first jack that holds a port is the port's holder
pub seek-holder : (n : ℕ) (p : List ℕ) → Permutation n p → (x : ℕ) → Among n x → seek p x 1 (length p) ≡ holder p x
seek-holder n p P x a =
    let h = holds n p P x a in
    only-held p (subst (λ m. Permutation m p) (sym P.long) P) x (holder p x) (rw P.long h.0) h.1

-- no jack is wrong: nothing is to come
pub carriage-done : (n : ℕ) (p t : List ℕ) (w : ℕ) → length t ≡ n → w ≡ wrong_from n 1 p t → w ≡ 0 → some none ≡ next_of (some (carriage p t))
carriage-done n p t w l e z = sym (carriage-first n p t l ∙ rw (sym e ∙ z) refl)

-- the first wrong jack swaps with the jack h that holds the port v wanted there
pub carriage-fetched : (n : ℕ) (p t : List ℕ) (w v h : ℕ) → Permutation n p → Permutation n t → w ≡ wrong_from n 1 p t → w ≢ 0 → v ≡ entry t w
    → h ≡ seek p v 1 (length p) → some (some (swap w h)) ≡ next_of (some (carriage p t))
carriage-fetched n p t w v h P T e z f g =
    let z' : wrong_from n 1 p t ≢ 0 = λ q. z (e ∙ q) in
    let port : Among n (entry t (wrong_from n 1 p t)) = T.ports (wrong_from n 1 p t) (wrong-among n p t z') in
    let held : h ≡ holder p (entry t (wrong_from n 1 p t)) =
    g ∙ ap (λ x. seek p x 1 (length p)) (f ∙ ap (entry t) e) ∙ seek-holder n p P (entry t (wrong_from n 1 p t)) port in
    sym (carriage-first n p t T.long ∙ rw (ne_eqb (wrong_from n 1 p t) 0 z', e, held) refl)

-- the front of an array that is accepted as a panel is a permutation, and one that is refused is none
pub front-accepted : (n : ℕ) (q : List ℕ) → n ≤ length q → accepted tt ≡ check_as false most_ports (take n q) → Permutation n (take n q)
front-accepted n q h e =
    subst (λ m. Permutation m (take n q)) (length-take-le n q h) (accepted-panel most_ports (take n q) e).is

pub front-refused : (n : ℕ) (q : List ℕ) (k : ℕ) (s : Spot) → 2 ≤ n → n ≤ most_ports → n ≤ length q → refused k s ≡ check_as false most_ports (take n q)
    → ¬ Permutation n (take n q)
front-refused n q k s low high h e P =
    let l : length (take n q) ≡ n = length-take-le n q h in
    let a : accepted tt ≡ check_as false most_ports (take n q) =
    panel-accepted most_ports (take n q) (record { low = rw l low; high = rw l high; is = subst (λ m. Permutation m (take n q)) (sym l) P }) in
    true≢false (cc)

-- a panel that is no permutation may not stand there
pub first-astray : (n : ℕ) (l : Leg) (q : List ℕ) → ¬ Permutation n q → next_of (to_come (derangements n) l 0 q) ≡ none
unfolding to_come derangements
first-astray n l q h = rw (fails (is_permutation n q) (tells-permutation n q) h) refl

-- from one that is the carriage comes
pub first-carried : (n : ℕ) (l : Leg) (q : List ℕ) → Permutation n q → to_come (derangements n) l 0 q ≡ some (carriage q (at n l.start))
unfolding to_come derangements
first-carried n l q h = rw ((tells-permutation n q).1 h) refl

-- inside a leg the orders of the move beside the last mark's rank, r
pub later-way : (n : ℕ) (l : Leg) (k : ℕ) (q p : List ℕ) (r : ℕ) (v : Move) (a : Option (Option Order)) → k ≢ 0
    → r ≡ stepped (derangements n) l.back l.start (k - 1) → p ≡ at n r → v ≡ move_beside n l.back r → a ≡ next_of (rest p (orders v) q)
    → a ≡ next_of (to_come (derangements n) l k q)
unfolding to_come derangements
later-way n l zero q p r v a z er ep ev ea = absurd (z refl)
later-way n l (suc k) q p r v a z er ep ev ea =
    let back : suc k - 1 ≡ k = omega arith in
    let rank : r ≡ stepped (derangements n) l.back l.start k = er ∙ ap (λ j. stepped (derangements n) l.back l.start j) back in
    ea ∙ rw (ep, ev, rank) refl
