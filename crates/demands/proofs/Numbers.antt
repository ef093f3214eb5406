-- Which numbers a call can be refused with, by how its definition is built: what has to be there, sizes.
-- Assumes nothing.
use mathlib.Core.Path.{◌≡◌, refl, ap, subst}
use mathlib.Core.Logic.{inl, inr}
use mathlib.Core.List.{List, [], ◌∷◌, ◌++◌}
use mathlib.Core.Option.{Option}
use Prim.Native.Nat.{ℕ}
use Rattle.listing.proofs.Numbers.{of_test}
use Rattle.words.specs.Told.{Told, Spot, nowhere, refused, earlier_number, need, leaves}
use Rattle.words.proofs.Told.{each-refused, each-need}
use Rattle.pattern_check.specs.Calls.{in_size, sized}
use Rattle.promise.specs.Campaign.{refusal}
use Rattle.demands.specs.One.{OneOf, Listed, Refuses, Keeps, RefusesAs}

module _ (ns : List ℕ) where
  -- a refusal at a place with no second number
  pub from-refused : {A : Type 0} (i : ℕ) (r : Spot) → earlier_number r ≡ 0 → OneOf ns i → Refuses {A = A} ns (refused i r)
  from-refused i r z h = each-refused (Listed ns) i r (h, λ d. z)

  -- what has to be there
  pub from-need : {A : Type 0} (i : ℕ) (r : Spot) (o : Option A) → earlier_number r ≡ 0 → OneOf ns i → Refuses ns (need i r o)
  from-need i r o z h = each-need (Listed ns) i r o (h, λ d. z)

  -- 2 to `most` ports
  pub from-sized : {A : Type 0} (most n : ℕ) (t : Told A) → OneOf ns 1 → Refuses ns t → Refuses ns (sized most n t)
  unfolding sized
  from-sized most n t one h = of_test (Refuses ns) (in_size most n) t _ h (from-refused 1 nowhere refl one)

  -- a refusal of the campaign's
  pub answer-refusal : (i : ℕ) → OneOf ns i → RefusesAs ns (refusal i)
  answer-refusal i h k e = subst (OneOf ns) (cc) h

-- with more numbers after them
one-of-more : (ns ms : List ℕ) (k : ℕ) → OneOf ns k → OneOf (ns ++ ms) k
one-of-more [] ms k h = absurd h
one-of-more (n ∷ ns) ms k (inl e) = inl e
one-of-more (n ∷ ns) ms k (inr h) = inr (one-of-more ns ms k h)

pub with-more : {A : Type 0} (ns ms : List ℕ) (t : Told A) → Refuses ns t → Refuses (ns ++ ms) t
with-more ns ms t h k s e = (one-of-more ns ms k (h k s e).0, (h k s e).1)

-- bytes that are left only if the call is accepted
pub kept : {A : Type 0} (t : Told A) (made found : List ℕ) → Keeps t (leaves t made found) found
kept t made found k s e = ap (λ x. leaves x made found) e
