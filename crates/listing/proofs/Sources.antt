-- The sources of an order: the jack whose port each jack gets. What holds of every order in shape is proved here by the jacks that it names.
-- Assumes nothing.
use mathlib.Core.Path.{◌≡◌, refl, sym, ◌∙◌}
use mathlib.Core.Logic.{◌≢◌}
use mathlib.Core.List.{List}
use Prim.Native.Nat.{ℕ, ◌<◌}
use native.Mathlib.Omega.{arith}
use Rattle.listing.specs.Numbers.{Among, is}
use Rattle.listing.specs.Pattern.{entry, Permutation}
use Rattle.listing.specs.Orders.{Order, swap, turn, source, carry, InShape}
use Rattle.listing.proofs.Numbers.{either, is_same, is-other, is-cases}
use Rattle.listing.proofs.Panels.{length-carry, entry-carry}

-- ---- what holds of a source, jack by jack

by-is : (P : ℕ → Type 0) (j a x y : ℕ) → (j ≡ a → P x) → (j ≢ a → P y) → P (is j a x y)
by-is P j a x y f g = either (is-cases j a x y) (λ c. rw c.1 (f c.0)) (λ c. rw c.1 (g c.0))

pub by-swap : (P : ℕ → Type 0) (a b j : ℕ) → (j ≡ a → P b) → (j ≢ a → j ≡ b → P a) → (j ≢ a → j ≢ b → P j) → P (source (swap a b) j)
unfolding source
by-swap P a b j at_a at_b else = by-is P j a b (is j b a j) at_a (λ na. by-is P j b a j (at_b na) (else na))

pub by_turn : (P : ℕ → Type 0) (a b c j : ℕ) → (j ≡ a → P b) → (j ≢ a → j ≡ b → P c) → (j ≢ a → j ≢ b → j ≡ c → P a) → (j ≢ a → j ≢ b → j ≢ c → P j)
    → P (source (turn a b c) j)
unfolding source
by_turn P a b c j at_a at_b at_c else =
    by-is P j a b (is j b c (is j c a j)) at_a (λ na. by-is P j b c (is j c a j) (at_b na) (λ nb. by-is P j c a j (at_c na nb) (else na nb)))

-- ---- the jacks that an order names

-- P holds of each of them
abbrev pub Each : (ℕ → Type 0) → Order → Type 0
Each P (swap a b) = P a × P b
Each P (turn a b c) = P a × P b × P c

-- a source is a jack that the order names, or the jack itself
pub source-each : (P : ℕ → Type 0) (o : Order) (j : ℕ) → Each P o → P j → P (source o j)
source-each P (swap a b) j e h = by-swap P a b j (λ x. e.1) (λ x y. e.0) (λ x y. h)
source-each P (turn a b c) j e h = by_turn P a b c j (λ x. e.1) (λ x y. e.2) (λ x y z. e.0) (λ x y z. h)

-- a jack that the order does not name is its own source
pub source-unnamed : (o : Order) (j : ℕ) → Each (λ a. j ≢ a) o → source o j ≡ j
unfolding source
source-unnamed (swap a b) j e = is-other j a _ _ e.0 ∙ is-other j b _ _ e.1
source-unnamed (turn a b c) j e = is-other j a _ _ e.0 ∙ is-other j b _ _ e.1 ∙ is-other j c _ _ e.2

-- each jack of a swap, and of a turn
pub swap-first : (a b : ℕ) → source (swap a b) a ≡ b
unfolding source
swap-first a b = is_same a a b _ refl

pub swap-second : (a b : ℕ) → a < b → source (swap a b) b ≡ a
unfolding source
swap-second a b h = is-other b a b _ (omega arith) ∙ is_same b b a _ refl

pub turn-first : (a b c : ℕ) → source (turn a b c) a ≡ b
unfolding source
turn-first a b c = is_same a a b _ refl

pub turn-second : (a b c : ℕ) → a < b → source (turn a b c) b ≡ c
unfolding source
turn-second a b c h = is-other b a b _ (omega arith) ∙ is_same b b c _ refl

pub turn-third : (a b c : ℕ) → a < c → b ≢ c → source (turn a b c) c ≡ a
turn-third a b c l d = by_turn (λ k. k ≡ a) a b c c (λ e. omega arith) (λ na e. omega arith) (λ na nb e. refl) (λ na nb nc. omega arith)

-- ---- an order in shape for n jacks

-- it names jacks of 1..n
pub shape-each : (n : ℕ) (o : Order) → InShape n o → Each (Among n) o
shape-each n (swap a b) s = omega arith
shape-each n (turn a b c) s = omega arith

-- the sources of jacks 1..n are among them
pub source-among : (n : ℕ) (o : Order) → InShape n o → (j : ℕ) → Among n j → Among n (source o j)
source-among n o s j h = source-each (Among n) o j (shape-each n o s) h

-- a jack past n is its own source
pub source-past : (n : ℕ) (o : Order) → InShape n o → (j : ℕ) → n < j → source o j ≡ j
source-past n (swap a b) s j h = source-unnamed (swap a b) j (omega arith)
source-past n (turn a b c) s j h = source-unnamed (turn a b c) j (omega arith)

-- no two jacks have one source
pub source-inj : (n : ℕ) (o : Order) → InShape n o → (j k : ℕ) → source o j ≡ source o k → j ≡ k
source-inj n (swap a b) s j k =
    by-swap (λ x. x ≡ source (swap a b) k → j ≡ k) a b j
    (λ e. by-swap (λ y. b ≡ y → j ≡ k) a b k (λ f. omega arith) (λ u f. omega arith) (λ u v. omega arith))
    (λ na e. by-swap (λ y. a ≡ y → j ≡ k) a b k (λ f. omega arith) (λ u f. omega arith) (λ u v. omega arith))
    (λ na nb. by-swap (λ y. j ≡ y → j ≡ k) a b k (λ f. omega arith) (λ u f. omega arith) (λ u v. omega arith))
source-inj n (turn a b c) s j k =
    by_turn (λ x. x ≡ source (turn a b c) k → j ≡ k) a b c j
    (λ e. by_turn (λ y. b ≡ y → j ≡ k) a b c k (λ f. omega arith) (λ u f. omega arith) (λ u v f. omega arith) (λ u v w. omega arith))
    (λ na e. by_turn (λ y. c ≡ y → j ≡ k) a b c k (λ f. omega arith) (λ u f. omega arith) (λ u v f. omega arith) (λ u v w. omega arith))
    (λ na nb e. by_turn (λ y. a ≡ y → j ≡ k) a b c k (λ f. omega arith) (λ u f. omega arith) (λ u v f. omega arith) (λ u v w. omega arith))
    (λ na nb nc. by_turn (λ y. j ≡ y → j ≡ k) a b c k (λ f. omega arith) (λ u f. omega arith) (λ u v f. omega arith) (λ u v w. omega arith))

-- an order in shape makes a permutation of a permutation
pub carry-permutation : (n : ℕ) (o : Order) (p : List ℕ) → InShape n o → Permutation n p → Permutation n (carry o p)
carry-permutation n o p s P =
    let here : (j : ℕ) → Among n j → entry (carry o p) j ≡ entry p (source o j) = λ j h. entry-carry o p j (omega (arith, P.long)) in
    record {
      long = length-carry o p ∙ P.long;
      ports = λ j h. rw (here j h) (P.ports (source o j) (source-among n o s j h));
      apart = λ j k hj hk e.
          source-inj n o s j k
          (P.apart (source o j) (source o k) (source-among n o s j hj) (source-among n o s k hk) (sym (here j hj) ∙ e ∙ here k hk));
    }
