-- What was accepted after several steps was accepted by each. What is refused is told whole, by a call that goes on too; and what is so of each refusal, by how a
-- call is built (the laws that begin with `each`).
-- Assumes nothing.
use mathlib.Core.Path.{◌≡◌, refl, sym, ap, subst}
use mathlib.Core.Bool.{true≢false}
use mathlib.Core.Option.{Option, none, some}
use Prim.Native.Nat.{ℕ}
use Rattle.words.specs.Told.{Told, Spot, accepted, refused, EachRefusal, told_alone, then, need}

-- what is refused is not accepted
pub not-both : {A : Type 0} {k : ℕ} {s : Spot} {a : A} → refused k s ≡ accepted a → ⊥
not-both e = true≢false (cc)

-- what is accepted is one thing
pub accepted-once : {A : Type 0} {a b : A} → accepted a ≡ accepted b → a ≡ b
accepted-once e = cc

-- what has to be there is there
pub need-accepted : {A : Type 0} (k : ℕ) (s : Spot) (o : Option A) (a : A) → need k s o ≡ accepted a → o ≡ some a
need-accepted k s none a e = absurd (not-both e)
need-accepted k s (some x) a e = cc

-- a call that goes on: both it and the one before it were accepted
pub record Both {A B : Type 0} (told : Told A) (go : A → Told B) (b : B) : Type 0 where
  pub first : A
  pub taken : told ≡ accepted first
  pub on : go first ≡ accepted b

pub then-accepted : {A B : Type 0} (told : Told A) (go : A → Told B) (b : B) → then told go ≡ accepted b → Both told go b
then-accepted (accepted a) go b e = record { first = a; taken = refl; on = e }
then-accepted (refused k s) go b e = absurd (not-both e)

-- what is accepted gives something
pub accepted-gives : {A B : Type 0} (told : Told A) (f : A → B) (b : B) → accepted b ≡ then told (λ a. accepted (f a)) → (a : A) × (told ≡ accepted a)
accepted-gives told f b e = let x = then-accepted told (λ a. accepted (f a)) b (sym e) in (x.first, x.taken)

-- what is refused on the way to one thing is refused on the way to another
pub refused-on : {A B C : Type 0} (told : Told A) (f : A → B) (g : A → Told C) (k : ℕ) (s : Spot) → refused k s ≡ then told (λ a. accepted (f a))
    → refused k s ≡ then told g
refused-on (accepted a) f g k s e = absurd (true≢false (cc))
refused-on (refused j p) f g k s e = cc

-- a call that goes on passes a refusal on whole: its number, its place and its second number
pub then-passes : {A B : Type 0} (told : Told A) (go : A → Told B) (k : ℕ) (s : Spot) → told ≡ refused k s → then told go ≡ refused k s
then-passes told go k s e = ap (λ t. then t go) e

-- and so it does without the second number, if what it goes on with has none
pub then-alone : {A B : Type 0} (told : Told A) (go : A → Told B) → ((a : A) → told_alone (go a) ≡ go a) → told_alone (then told go) ≡ then (told_alone told) go
then-alone (accepted a) go plain = plain a
then-alone (refused k s) go plain = refl

-- ---- what is so of each refusal

module _ (Is : ℕ → Spot → Type 0) where
  -- what is accepted has none
  pub each-accepted : {A : Type 0} (a : A) → EachRefusal Is (accepted a)
  each-accepted a k s e = absurd (true≢false (cc))

  pub each-refused : {A : Type 0} (i : ℕ) (r : Spot) → Is i r → let told : Told A = refused i r in EachRefusal Is told
  each-refused i r h k s e =
      let number : i ≡ k = cc in
      let place : r ≡ s = cc in
      subst (λ x. Is x s) number (subst (Is i) place h)

  -- a call that goes on
  pub each-then : {A B : Type 0} (told : Told A) (go : A → Told B) → EachRefusal Is told → ((a : A) → EachRefusal Is (go a)) → EachRefusal Is (then told go)
  each-then (accepted a) go h g = g a
  each-then (refused i r) go h g = λ k s e. h k s (cc)

  -- what has to be there
  pub each-need : {A : Type 0} (i : ℕ) (r : Spot) (o : Option A) → Is i r → EachRefusal Is (need i r o)
  each-need i r none h = each-refused i r h
  each-need i r (some a) h = each-accepted a
