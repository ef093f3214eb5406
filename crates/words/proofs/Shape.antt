-- The test of an order's shape is true exactly if the order is in shape, that of a number exactly if it is among 1..n, that of a line exactly if it fits.
-- Assumes nothing.
use mathlib.Core.Path.{◌≡◌, refl}
use mathlib.Core.Bool.{Bool, true, false, not, ◌&&◌, and-eq-true_iff}
use Prim.Native.Nat.{ℕ, ◌≤◌, ◌<◌}
use native.Mathlib.Omega.{arith}
use lib.Dec.{eqb, leb, ltb}
use borrow.Author.Tests.{leb-true, ltb-true, eqb-false, not-true, le-leb, lt-leb, lt-ltb, ne_eqb}
use Rattle.listing.specs.Numbers.{Among}
use Rattle.listing.specs.Orders.{Order, swap, turn, InShape}
use Rattle.words.specs.Shape.{within, one_of, rising, shaped, line_fits, LineFits}
use Rattle.words.specs.Meaning.{order_of}
use Rattle.words.specs.declared.Line.{Line}
use Rattle.words.specs.declared.Line.TheVariants.{Movement, Seat, Mark, End}

-- both tests hold where their conjunction does
both : (a b : Bool) → (a && b) ≡ true → (a ≡ true) × (b ≡ true)
both a b e = (and-eq-true_iff a b).0 e

-- ---- a number

-- from a to b, before a, and after b
pub within-true : (a b n : ℕ) → a ≤ n → n ≤ b → within a b n ≡ true
within-true a b n h k = rw (le-leb a n h, le-leb n b k) refl

pub within-below : (a b n : ℕ) → n < a → within a b n ≡ false
within-below a b n h = rw (lt-leb a n h) refl

pub within-above : (a b n : ℕ) → b < n → within a b n ≡ false
within-above a b n h = rw (lt-leb n b h) (neither (leb a n))
  where
    neither : (t : Bool) → (t && false) ≡ false
    neither true = refl
    neither false = refl

-- a number that passes the test is among 1..n
pub one-of : (n x : ℕ) → one_of n x ≡ true → Among n x
unfolding one_of
one-of n x e = let t = both (leb 1 x) (leb x n) e in (leb-true 1 x t.0, leb-true x n t.1)

-- and each number among them passes it
pub among_one : (n x : ℕ) → Among n x → one_of n x ≡ true
unfolding one_of
among_one n x h = within-true 1 n x h.0 h.1

-- ---- an order

rising-parts : (n a b : ℕ) → rising n a b ≡ true → (1 ≤ a) × (a < b) × (b ≤ n)
unfolding rising
rising-parts n a b e =
    let t = both (leb 1 a && ltb a b) (leb b n) e in
    let s = both (leb 1 a) (ltb a b) t.0 in
    (leb-true 1 a s.0, ltb-true a b s.1, leb-true b n t.1)

parts-rising : (n a b : ℕ) → 1 ≤ a → a < b → b ≤ n → rising n a b ≡ true
unfolding rising
parts-rising n a b low order high = rw (le-leb 1 a low, lt-ltb a b order, le-leb b n high)

-- an order that passes the test is in shape
pub shaped-shape : (n : ℕ) (o : Order) → shaped n o ≡ true → InShape n o
unfolding shaped
shaped-shape n (swap a b) e = rising-parts n a b e
shaped-shape n (turn a b c) e =
    let t = both (not (eqb b c) && rising n a b) (rising n a c) e in
    let s = both (not (eqb b c)) (rising n a b) t.0 in
    let ab = rising-parts n a b s.1 in
    let ac = rising-parts n a c t.1 in
    (ab.0, ab.1, ab.2, ac.1, ac.2, eqb-false b c (not-true (eqb b c) s.0))

-- and each order in shape passes it
pub shape-shaped : (n : ℕ) (o : Order) → InShape n o → shaped n o ≡ true
unfolding shaped
shape-shaped n (swap a b) s = parts-rising n a b s.0 s.1 s.2
shape-shaped n (turn a b c) s = rw (ne_eqb b c s.5, parts-rising n a b s.0 s.1 s.2, parts-rising n a c s.0 s.3 s.4)

-- what is in shape on some jacks is in shape on more
pub shape-more : (n k : ℕ) (o : Order) → n ≤ k → InShape n o → InShape k o
shape-more n k (swap a b) h s = (s.0, s.1, omega arith)
shape-more n k (turn a b c) h s = (s.0, s.1, omega arith, s.3, omega arith, s.5)

-- ---- a line

-- a line that fits passes the test
pub fits-passes : (n : ℕ) (l : Line) → LineFits n l → line_fits n l ≡ true
fits-passes n (Movement o) h = shape-shaped n (order_of o) h
fits-passes n (Seat j) h = among_one n j.0 h
fits-passes n (Mark m r) h = refl
fits-passes n (End m) h = refl

-- and one that passes it fits
pub passes-fits : (n : ℕ) (l : Line) → line_fits n l ≡ true → LineFits n l
passes-fits n (Movement o) e = shaped-shape n (order_of o) e
passes-fits n (Seat j) e = one-of n j.0 e
passes-fits n (Mark m r) e = tt
passes-fits n (End m) e = tt

-- what fits some jacks fits more
pub fits_more : (n k : ℕ) (l : Line) → n ≤ k → line_fits n l ≡ true → line_fits k l ≡ true
fits_more n k (Movement o) h e = shape-shaped k (order_of o) (shape-more n k (order_of o) h (shaped-shape n (order_of o) e))
fits_more n k (Seat j) h e = let t = one-of n j.0 e in among_one k j.0 (t.0, omega arith)
fits_more n k (Mark m r) h e = refl
fits_more n k (End m) h e = refl
