-- Laws of moves: the way back, the orders of a move in shape, a swap as two stores, a turn as two swaps, and at most four cords.
-- Assumes nothing.
use mathlib.Core.Path.{◌≡◌, refl, sym, ap, ◌∙◌}
use mathlib.Core.Logic.{◌≢◌}
use mathlib.Core.List.{List, [], ◌∷◌}
use Prim.Native.Nat.{ℕ, zero, suc, ◌+◌, ◌≤◌, ◌<◌}
use native.Mathlib.Omega.{arith}
use lib.ListN.{length, get_or, set, length-set}
use lib.Seq.{get_or-set_same, get_or-set_other}
use Rattle.listing.specs.Numbers.{Among, is}
use Rattle.listing.specs.Pattern.{entry, tabulate, differing}
use Rattle.listing.specs.Orders.{Order, swap, turn, source, carry, carry_all, InShape, AllInShape}
use Rattle.listing.specs.Orders.{Move, nothing, one, two, orders, moved, InForm, Leads, inverse}
use Rattle.listing.proofs.Numbers.{either, is_same, is-cases}
use Rattle.listing.proofs.Panels.{length-carry, length-carry_all, carries-to}
use Rattle.listing.proofs.Sources.{by-swap, shape-each}
use Rattle.listing.proofs.Renamed.{EachOf, Different, plain, same-orders}

-- ---- where a move leads, and back

-- the panel after a move is as long as before
pub leads-long : {n : ℕ} {v : Move} {p q : List ℕ} → Leads n v p q → length q ≡ n
leads-long {v = v} {p = p} l = ap length (sym l.makes) ∙ length-carry_all (orders v) p ∙ l.long

-- the move back is in the paper's form
pub inverse-form : (n : ℕ) (v : Move) → InForm n v → InForm n (inverse v)
inverse-form n nothing f = f
inverse-form n (one (swap a b)) f = f
inverse-form n (one (turn a b c)) f = omega arith
inverse-form n (two a b c d) f = f

-- a move and then the move back change nothing
inverse-after : (n : ℕ) (v : Move) → InForm n v → (p : List ℕ) → length p ≡ n → moved (inverse v) (moved v p) ≡ p
unfolding carry_all carry plain tabulate source is
inverse-after n nothing f p long = refl
inverse-after n (one (swap a b)) f p long =
    same-orders n (a ∷ b ∷ []) (omega arith) (swap 1 2 ∷ swap 1 2 ∷ []) [] (omega arith) tt refl p long
inverse-after n (one (turn a b c)) f p long =
    same-orders n (a ∷ b ∷ c ∷ []) (omega arith) (turn 1 2 3 ∷ turn 1 3 2 ∷ []) [] (omega arith) tt refl p long
inverse-after n (two a b c d) f p long =
    same-orders n (a ∷ b ∷ c ∷ d ∷ []) (omega arith) (swap 1 2 ∷ swap 3 4 ∷ swap 1 2 ∷ swap 3 4 ∷ []) [] (omega arith) tt refl p long

-- if a move makes q of p, the move back makes p of q
pub leads-back : {n : ℕ} {v : Move} {p q : List ℕ} → Leads n v p q → Leads n (inverse v) q p
leads-back {n} {v} {p} {q} l =
    record {
      long = leads-long l;
      form = inverse-form n v l.form;
      makes = ap (moved (inverse v)) (sym l.makes) ∙ inverse-after n v l.form p l.long;
    }

-- the orders of a move in the paper's form are in shape
pub orders-shaped : (n : ℕ) (v : Move) → InForm n v → AllInShape n (orders v)
orders-shaped n nothing f = tt
orders-shaped n (one o) f = (f, tt)
orders-shaped n (two a b c d) f = (f.0, (f.1, tt))

-- orders in shape name jacks of 1..n
pub shapes-each : (n : ℕ) (os : List Order) → AllInShape n os → EachOf (Among n) os
shapes-each n [] s = tt
shapes-each n (o ∷ os) s = (shape-each n o s.0, shapes-each n os s.1)

-- ---- a swap as two stores, a turn as two swaps

-- a swap is two stores at the places below its jacks
pub swap-stores : (a b : ℕ) (p : List ℕ) → a < length p → b < length p → a ≢ b
    → carry (swap (suc a) (suc b)) p ≡ set (set p a (get_or p b 0)) b (get_or p a 0)
swap-stores a b p ha hb ne =
    let q : List ℕ = set p a (get_or p b 0) in
    let long : length q ≡ length p = length-set p a (get_or p b 0) in
    carries-to (swap (suc a) (suc b)) p (set q b (get_or p a 0)) (length-set q b (get_or p a 0) ∙ long)
    (λ j h. by-swap (λ k. entry p k ≡ entry (set q b (get_or p a 0)) j) (suc a) (suc b) j
    (λ e. rw e (sym (get_or-set_other q b a (get_or p a 0) 0 ne ∙ get_or-set_same p a (get_or p b 0) 0 ha)))
    (λ na e. rw e (sym (get_or-set_same q b (get_or p a 0) 0 (omega arith))))
    (λ na nb. kept j na nb))
  where
    kept : (j : ℕ) → j ≢ suc a → j ≢ suc b → entry p j ≡ entry (set (set p a (get_or p b 0)) b (get_or p a 0)) j
    kept zero na nb = refl
    kept (suc j) na nb =
        sym (get_or-set_other (set p a (get_or p b 0)) b j (get_or p a 0) 0 (omega arith) ∙ get_or-set_other p a j (get_or p b 0) 0 (omega arith))

-- a turn is the swap of its first two jacks and then of its last two
pub turn-swaps : (a b c : ℕ) (p : List ℕ) → InShape (length p) (turn a b c) → carry (turn a b c) p ≡ carry (swap b c) (carry (swap a b) p)
unfolding carry_all carry plain tabulate source is
turn-swaps a b c p s =
    same-orders (length p) (a ∷ b ∷ c ∷ []) (omega arith) (turn 1 2 3 ∷ []) (swap 1 2 ∷ swap 2 3 ∷ []) (omega arith) (omega arith) refl p refl

-- a turn of any three different jacks, named in any order, is the swap of its first two jacks and then of its last two
pub turn-split : (a b c : ℕ) (p : List ℕ) → Different (length p) (a ∷ b ∷ c ∷ []) → carry (turn a b c) p ≡ carry (swap b c) (carry (swap a b) p)
unfolding carry_all carry plain tabulate source is
turn-split a b c p d =
    same-orders (length p) (a ∷ b ∷ c ∷ []) d (turn 1 2 3 ∷ []) (swap 1 2 ∷ swap 2 3 ∷ []) (omega arith) (omega arith) refl p refl

-- ---- at most four cords

-- of x, y, z the ends differ only if two neighbours do
one-by : (x y z : ℕ) → is x z 0 1 ≤ is x y 0 1 + is y z 0 1
one-by x y z =
    either (is-cases x y 0 1)
    (λ c. omega (arith, ap (λ (u : ℕ). is u z 0 1) c.0))
    (λ c. either (is-cases x z 0 1) (λ d. omega arith) (λ d. omega arith))

-- a panel differs nowhere from itself
pub differing-same : (p : List ℕ) → differing p p ≡ 0
unfolding differing is
differing-same [] = refl
differing-same (x ∷ p) = omega (arith, is_same x x 0 1 refl, differing-same p)

-- two panels differ at no more jacks than each of them does from a third, in all
pub differing-by : (p q r : List ℕ) → length q ≡ length p → differing p r ≤ differing p q + differing q r
unfolding differing is
differing-by [] q r e = omega arith
differing-by (x ∷ p) [] r e = absurd (omega arith)
differing-by (x ∷ p) (y ∷ q) [] e = omega arith
differing-by (x ∷ p) (y ∷ q) (z ∷ r) e = omega (arith, one-by x y z, differing-by p q r (omega arith))

-- one store changes at most one jack
pub differing-set : (p : List ℕ) (k v : ℕ) → differing p (set p k v) ≤ 1
unfolding differing is
differing-set [] k v = omega arith
differing-set (x ∷ p) zero v = either (is-cases x v 0 1) (λ c. omega (arith, differing-same p)) (λ c. omega (arith, differing-same p))
differing-set (x ∷ p) (suc k) v = omega (arith, is_same x x 0 1 refl, differing-set p k v)

-- a swap changes at most two
differing-swap : (a b : ℕ) (p : List ℕ) → Among (length p) a → Among (length p) b → a ≢ b → differing p (carry (swap a b) p) ≤ 2
differing-swap zero b p ha hb ne = absurd (omega arith)
differing-swap (suc a) zero p ha hb ne = absurd (omega arith)
differing-swap (suc a) (suc b) p ha hb ne =
    let q : List ℕ = set p a (get_or p b 0) in
    rw (swap-stores a b p (omega arith) (omega arith) (omega arith))
    (omega (arith, differing-by p q (set q b (get_or p a 0)) (length-set p a (get_or p b 0)), differing-set p a (get_or p b 0), differing-set q b (get_or p a 0)))

-- and two swaps at most four
differing-swaps : (n a b c d : ℕ) (p : List ℕ) → length p ≡ n → Among n a → Among n b → a ≢ b → Among n c → Among n d → c ≢ d
    → differing p (carry (swap c d) (carry (swap a b) p)) ≤ 4
differing-swaps n a b c d p long ha hb ab hc hd cd =
    let q : List ℕ = carry (swap a b) p in
    let same : length q ≡ length p = length-carry (swap a b) p in
    omega (
      arith,
      differing-by p q (carry (swap c d) q) same,
      differing-swap a b p (omega arith) (omega arith) ab,
      differing-swap c d q (omega arith) (omega arith) cd,
    )

four-moved : (n : ℕ) (v : Move) (p : List ℕ) → InForm n v → length p ≡ n → differing p (moved v p) ≤ 4
unfolding carry_all
four-moved n nothing p f long = omega (arith, differing-same p)
four-moved n (one (swap a b)) p f long = omega (arith, differing-swap a b p (omega arith) (omega arith) (omega arith))
four-moved n (one (turn a b c)) p f long =
    rw (turn-swaps a b c p (omega arith)) (differing-swaps n a b b c p long (omega arith) (omega arith) (omega arith) (omega arith) (omega arith) (omega arith))
four-moved n (two a b c d) p f long =
    differing-swaps n a b c d p long (omega arith) (omega arith) (omega arith) (omega arith) (omega arith) (omega arith)

-- a move changes at most four cords
pub four-jacks : {n : ℕ} {v : Move} {p q : List ℕ} → Leads n v p q → differing p q ≤ 4
four-jacks {n} {v} {p} l = rw l.makes at (four-moved n v p l.form l.long)
