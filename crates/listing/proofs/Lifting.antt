-- A move on a shorter pattern is the same move on the pattern that A(i) makes of it, and the move with its jacks raised on the one that B(i) makes.
-- Assumes nothing.
use mathlib.Core.Path.{◌≡◌, refl, sym, ap, ◌∙◌}
use mathlib.Core.Logic.{◌≢◌}
use mathlib.Core.List.{List, [], ◌∷◌, map}
use Prim.Native.Nat.{ℕ, suc, ◌≤◌}
use native.Mathlib.Omega.{arith}
use lib.ListN.{length}
use Rattle.listing.specs.Numbers.{Among, trade, raise, lower}
use Rattle.listing.specs.Pattern.{entry}
use Rattle.listing.specs.Steps.{step_a, step_b}
use Rattle.listing.specs.Orders.{Order, swap, turn, source, carry, carry_all, InShape, AllInShape}
use Rattle.listing.specs.Orders.{Move, nothing, one, two, orders, InForm, Leads, raised_order, raised}
use Rattle.listing.proofs.Numbers.{either, same?, raise-near, raise-less, raise-inj, raise-lower, raise-apart, lower-among}
use Rattle.listing.proofs.Panels.{length-carry, entry-carry, carries-to}
use Rattle.listing.proofs.Sources.{Each, source-unnamed, shape-each, source-among, source-past}
use Rattle.listing.proofs.Renamed.{renamed, source-renamed}
use Rattle.listing.proofs.Moves.{orders-shaped}
use Rattle.listing.proofs.StepEntries.{length-a, A-other, A-last, length-b, B-at, B-last, B-raised}

-- ---- A(i)

-- an order goes with A(i)
carry-a : (m i : ℕ) (o : Order) (p : List ℕ) → InShape (suc m) o → length p ≡ suc m
    → carry o (step_a (suc (suc m)) i p) ≡ step_a (suc (suc m)) i (carry o p)
carry-a m i o p s long =
    let n : ℕ = suc (suc m) in
    let len : length (step_a n i p) ≡ n = length-a n i p in
    carries-to o (step_a n i p) (step_a n i (carry o p)) (length-a n i (carry o p) ∙ sym len) (λ j h.
    either (same? j n)
    (λ e. rw (e, source-past (suc m) o s n (omega arith)) (A-last n i p (omega arith) ∙ sym (A-last n i (carry o p) (omega arith))))
    (λ ne. let k : Among (suc m) (source o j) = source-among (suc m) o s j (omega arith) in
    A-other n i p (source o j) (omega arith) (omega arith)
    ∙ ap (trade i n) (sym (entry-carry o p j (omega arith)))
    ∙ sym (A-other n i (carry o p) j (omega arith) ne)))

-- and so do several
carry_all-a : (m i : ℕ) (os : List Order) (p : List ℕ) → AllInShape (suc m) os → length p ≡ suc m
    → carry_all os (step_a (suc (suc m)) i p) ≡ step_a (suc (suc m)) i (carry_all os p)
unfolding carry_all
carry_all-a m i [] p s long = refl
carry_all-a m i (o ∷ os) p s long = ap (carry_all os) (carry-a m i o p s.0 long) ∙ carry_all-a m i os (carry o p) s.1 (length-carry o p ∙ long)

-- what is in form for m jacks is so for more
pub form-more : (m n : ℕ) (v : Move) → m ≤ n → InForm m v → InForm n v
form-more m n nothing h f = tt
form-more m n (one (swap a b)) h f = omega arith
form-more m n (one (turn a b c)) h f = omega arith
form-more m n (two a b c d) h f = omega arith

-- a move between two patterns leads from A(i) of the one to A(i) of the other
pub leads-a : (m i : ℕ) {v : Move} {p q : List ℕ} → Leads (suc m) v p q → Leads (suc (suc m)) v (step_a (suc (suc m)) i p) (step_a (suc (suc m)) i q)
leads-a m i {v} {p} {q} l =
    record {
      long = length-a (suc (suc m)) i p;
      form = form-more (suc m) (suc (suc m)) v (omega arith) l.form;
      makes = carry_all-a m i (orders v) p (orders-shaped (suc m) v l.form) l.long ∙ ap (step_a (suc (suc m)) i) l.makes;
    }

-- ---- B(i)

-- to raise the jacks of an order is to rename them
raised_is : (i : ℕ) (o : Order) → renamed (raise i) o ≡ raised_order i o
raised_is i (swap a b) = refl
raised_is i (turn a b c) = refl

-- different numbers stay different
-- a raised order is in shape for one jack more
raised-shape : (n i : ℕ) (o : Order) → InShape n o → InShape (suc n) (raised_order i o)
raised-shape n i (swap a b) s = omega (arith, raise-near i a, raise-near i b, raise-less i a b s.1)
raised-shape n i (turn a b c) s =
    omega (arith, raise-near i a, raise-near i b, raise-near i c, raise-less i a b s.1, raise-less i a c s.3, raise-apart i b c s.5)

-- and does not name jack i
raised-free : (i : ℕ) (o : Order) → Each (λ a. i ≢ a) (raised_order i o)
raised-free i (swap a b) = omega (arith, raise-near i a, raise-near i b)
raised-free i (turn a b c) = omega (arith, raise-near i a, raise-near i b, raise-near i c)

-- at the jack that jack u of the shorter pattern becomes
from-b : (m i : ℕ) → Among (suc m) i → (o : Order) (p : List ℕ) → InShape m o → length p ≡ m → (u : ℕ) → Among m u
    → entry (step_b (suc (suc m)) i p) (source (raised_order i o) (raise i u)) ≡ entry (step_b (suc (suc m)) i (carry o p)) (raise i u)
from-b m i hi o p s long u hu =
    let n : ℕ = suc (suc m) in
    let w : Among m (source o u) = source-among m o s u hu in
    rw (← raised_is i o, source-renamed (Among m) (raise i) o u (λ a h. raise-inj i u a) (shape-each m o s))
    (B-raised n i p (source o u) (omega (arith, raise-near i (source o u))) (omega (arith, raise-near i (source o u)))
    ∙ ap (raise i) (sym (entry-carry o p u (omega arith)))
    ∙ sym (B-raised n i (carry o p) u (omega (arith, raise-near i u)) (omega (arith, raise-near i u))))

-- an order goes with B(i), its jacks raised
carry-b : (m i : ℕ) → Among (suc m) i → (o : Order) (p : List ℕ) → InShape m o → length p ≡ m
    → carry (raised_order i o) (step_b (suc (suc m)) i p) ≡ step_b (suc (suc m)) i (carry o p)
carry-b m i hi o p s long =
    let n : ℕ = suc (suc m) in
    let len : length (step_b n i p) ≡ n = length-b n i p in
    carries-to (raised_order i o) (step_b n i p) (step_b n i (carry o p)) (length-b n i (carry o p) ∙ sym len) (λ j h.
    either (same? j n)
    (λ e. rw (e, source-past (suc m) (raised_order i o) (raised-shape m i o s) n (omega arith))
    (B-last n i p (omega arith) ∙ sym (B-last n i (carry o p) (omega arith))))
    (λ nn. either (same? j i)
    (λ e. rw (e, source-unnamed (raised_order i o) i (raised-free i o))
    (B-at n i p (omega arith) (omega arith) ∙ sym (B-at n i (carry o p) (omega arith) (omega arith))))
    (λ ni. rw (← raise-lower i j ni) (from-b m i hi o p s long (lower i j) (lower-among m i j hi (omega arith) ni)))))

-- and so do several
carry_all-b : (m i : ℕ) → Among (suc m) i → (os : List Order) (p : List ℕ) → AllInShape m os → length p ≡ m
    → carry_all (map (raised_order i) os) (step_b (suc (suc m)) i p) ≡ step_b (suc (suc m)) i (carry_all os p)
unfolding carry_all
carry_all-b m i hi [] p s long = refl
carry_all-b m i hi (o ∷ os) p s long =
    ap (carry_all (map (raised_order i) os)) (carry-b m i hi o p s.0 long) ∙ carry_all-b m i hi os (carry o p) s.1 (length-carry o p ∙ long)

-- the orders of a raised move are its orders raised
raised-orders : (i : ℕ) (v : Move) → orders (raised i v) ≡ map (raised_order i) (orders v)
raised-orders i nothing = refl
raised-orders i (one o) = refl
raised-orders i (two a b c d) = refl

-- a raised move is in the paper's form for one jack more
raised-form : (n i : ℕ) (v : Move) → InForm n v → InForm (suc n) (raised i v)
raised-form n i nothing f = tt
raised-form n i (one o) f = raised-shape n i o f
raised-form n i (two a b c d) f =
    (raised-shape n i (swap a b) f.0, raised-shape n i (swap c d) f.1, raise-less i a c f.2, raise-apart i b c f.3, raise-apart i b d f.4)

-- a move between two patterns leads, its jacks raised, from B(i) of the one to B(i) of the other
pub leads-b : (m i : ℕ) → Among (suc m) i → {v : Move} {p q : List ℕ} → Leads m v p q
    → Leads (suc (suc m)) (raised i v) (step_b (suc (suc m)) i p) (step_b (suc (suc m)) i q)
leads-b m i hi {v} {p} {q} l =
    record {
      long = length-b (suc (suc m)) i p;
      form = form-more (suc m) (suc (suc m)) (raised i v) (omega arith) (raised-form m i v l.form);
      makes = rw (raised-orders i v) (carry_all-b m i hi (orders v) p (orders-shaped m v l.form) l.long ∙ ap (step_b (suc (suc m)) i) l.makes);
    }
