-- The free ports: what is taken, what is left, and how many of them have their own jack still to come.
-- Assumes nothing.
use mathlib.Core.Path.{◌≡◌, refl, sym, ap, ◌∙◌}
use mathlib.Core.Logic.{◌≢◌, ◌⊎◌, inl, inr}
use mathlib.Core.Bool.{cond}
use mathlib.Core.List.{List, [], ◌∷◌}
use Prim.Native.Nat.{ℕ, suc, ◌+◌, ◌-◌, ◌≤◌, ◌<◌}
use native.Mathlib.Omega.{arith}
use lib.Dec.{ltb}
use lib.ListN.{length}
use borrow.Author.Tests.{eq-eqb, ne_eqb, lt-ltb, le-ltb}
use Rattle.listing.proofs.Numbers.{either, below?, same?}
use Rattle.listing_dictionary.specs.Free.{without, later}
use Rattle.listing_dictionary.proofs.Lists.{Has}

-- ---- rising lists

-- the first is above a, and each other is above the one before it
abbrev pub Above : ℕ → List ℕ → Type 0
Above a [] = Unit {0}
Above a (x ∷ xs) = (a < x) × Above x xs

above_lower : (a b : ℕ) (ys : List ℕ) → a ≤ b → Above b ys → Above a ys
above_lower a b [] h r = tt
above_lower a b (y ∷ ys) h r = (omega (arith, r.0), r.1)

-- so all are above a
pub above-all : (a x : ℕ) (ys : List ℕ) → Above a ys → Has x ys → a < x
above-all a x [] r h = absurd h
above-all a x (y ∷ ys) r (inl e) = omega (arith, r.0)
above-all a x (y ∷ ys) r (inr h) = omega (arith, r.0, above-all y x ys r.1 h)

-- ---- a port is taken

pub without-here : (x y : ℕ) (ys : List ℕ) → y ≡ x → without x (y ∷ ys) ≡ ys
unfolding without
without-here x y ys e = rw (eq-eqb y x e)

pub without_on : (x y : ℕ) (ys : List ℕ) → y ≢ x → without x (y ∷ ys) ≡ y ∷ without x ys
unfolding without
without_on x y ys e = rw (ne_eqb y x e)

-- a member that is not the first is one of the others
pub has_on : (x y : ℕ) (ys : List ℕ) → y ≢ x → Has x (y ∷ ys) → Has x ys
has_on x y ys ne (inl e) = absurd (ne (sym e))
has_on x y ys ne (inr h) = h

pub length_without : (x : ℕ) (ys : List ℕ) → Has x ys → suc (length (without x ys)) ≡ length ys
length_without x [] h = absurd h
length_without x (y ∷ ys) h =
    either (same? y x)
    (λ e. rw (without-here x y ys e))
    (λ ne. rw (without_on x y ys ne) (ap suc (length_without x ys (has_on x y ys ne h))))

-- what is left was there
pub was-there : (x z : ℕ) (ys : List ℕ) → Has z (without x ys) → Has z ys
unfolding without
was-there x z [] h = absurd h
was-there x z (y ∷ ys) h =
    either (same? y x)
    (λ e. inr (rw (without-here x y ys e) at h))
    (λ ne. either (rw (without_on x y ys ne) at h) (λ e. inl e) (λ g. inr (was-there x z ys g)))

-- the others are left
pub still-there : (x z : ℕ) (ys : List ℕ) → z ≢ x → Has z ys → Has z (without x ys)
still-there x z [] ne h = absurd h
still-there x z (y ∷ ys) ne (inl e) = rw (without_on x y ys (λ f. ne (e ∙ f))) (inl e)
still-there x z (y ∷ ys) ne (inr h) =
    either (same? y x)
    (λ e. rw (without-here x y ys e) h)
    (λ nf. rw (without_on x y ys nf) (inr (still-there x z ys ne h)))

pub above-without : (a x : ℕ) (ys : List ℕ) → Above a ys → Above a (without x ys)
unfolding without
above-without a x [] r = tt
above-without a x (y ∷ ys) r =
    either (same? y x)
    (λ e. rw (without-here x y ys e) (above_lower a y ys (omega (arith, r.0)) r.1))
    (λ ne. rw (without_on x y ys ne) (r.0, above-without y x ys r.1))

-- the port itself is gone
pub gone : (a x : ℕ) (ys : List ℕ) → Above a ys → Has x (without x ys) → ⊥
unfolding without
gone a x [] r h = h
gone a x (y ∷ ys) r h =
    either (same? y x)
    (λ e. let z : y < x = above-all y x ys r.1 (rw (without-here x y ys e) at h) in omega arith)
    (λ ne. gone y x ys r.1 (has_on x y (without x ys) ne (rw (without_on x y ys ne) at h)))

-- ---- how many are above i

pub later-none : (i : ℕ) → later i [] ≡ 0
unfolding later
later-none i = refl

pub later-yes : (i y : ℕ) (ys : List ℕ) → i < y → later i (y ∷ ys) ≡ suc (later i ys)
unfolding later
later-yes i y ys h = rw (lt-ltb i y h) (omega arith)

pub later-no : (i y : ℕ) (ys : List ℕ) → y ≤ i → later i (y ∷ ys) ≡ later i ys
unfolding later
later-no i y ys h = rw (le-ltb i y h) (omega arith)

-- all of those that are above it
pub later-all : (i : ℕ) (ys : List ℕ) → Above i ys → later i ys ≡ length ys
unfolding later
later-all i [] r = refl
later-all i (y ∷ ys) r = later-yes i y ys r.0 ∙ ap suc (later-all i ys (above_lower i y ys (omega (arith, r.0)) r.1))

-- one that is taken counts if it is above i
later-taken : (i x : ℕ) (ys : List ℕ) → Has x ys → later i ys ≡ cond (ltb i x) 1 0 + later i (without x ys)
unfolding later
later-taken i x [] h = absurd h
later-taken i x (y ∷ ys) h =
    either (same? y x)
    (λ e. rw (without-here x y ys e, e))
    (λ ne. rw (without_on x y ys ne) (omega (arith, later-taken i x ys (has_on x y ys ne h))))

pub later-without : (i x : ℕ) (ys : List ℕ) → Has x ys
    → ((i < x) × (later i ys ≡ suc (later i (without x ys)))) ⊎ ((x ≤ i) × (later i ys ≡ later i (without x ys)))
later-without i x ys h =
    either (below? i x)
    (λ b. let t : later i ys ≡ 1 + later i (without x ys) = rw (lt-ltb i x b) at (later-taken i x ys h) in inl (b, omega arith))
    (λ b. let t : later i ys ≡ 0 + later i (without x ys) = rw (le-ltb i x b) at (later-taken i x ys h) in inr (b, omega arith))

-- a port other than i + 1 is above both i and i + 1, or above neither
later-alike : (i y : ℕ) (ys : List ℕ) → y ≢ suc i → later i (y ∷ ys) + later (suc i) ys ≡ later (suc i) (y ∷ ys) + later i ys
later-alike i y ys ne =
    either (below? i y)
    (λ h. let g : suc i < y = omega arith in omega (arith, later-yes i y ys h, later-yes (suc i) y ys g))
    (λ h. let g : y ≤ suc i = omega arith in omega (arith, later-no i y ys h, later-no (suc i) y ys g))

-- with jack i + 1 its own port goes out of the count, if it is free
pub own-port? : (i a : ℕ) (ys : List ℕ) → Above a ys
    → (Has (suc i) ys × (later i ys ≡ suc (later (suc i) ys))) ⊎ ((Has (suc i) ys → ⊥) × (later i ys ≡ later (suc i) ys))
own-port? i a [] r = inr (λ h. h, later-none i ∙ sym (later-none (suc i)))
own-port? i a (y ∷ ys) r =
    either (same? y (suc i))
    (λ e.
    let all = later-all i ys (above_lower i y ys (omega arith) r.1) in
    let all' = later-all (suc i) ys (above_lower (suc i) y ys (omega arith) r.1) in
    inl (inl (sym e), omega (arith, later-yes i y ys (omega arith), later-no (suc i) y ys (omega arith))))
    (λ ne.
    let alike = later-alike i y ys ne in
    either (own-port? i y ys r.1)
    (λ c. inl (inr c.0, omega arith))
    (λ c. inr (λ h. c.0 (has_on (suc i) y ys ne h), omega arith)))

-- all free ports are at most b: there are no more than b - a of them above a
length-bound : (b a : ℕ) (ys : List ℕ) → Above a ys → ((y : ℕ) → Has y ys → y ≤ b) → length ys ≤ b - a
length-bound b a [] r top = omega arith
length-bound b a (y ∷ ys) r top = omega (arith, r.0, top y (inl refl), length-bound b y ys r.1 (λ z h. top z (inr h)))

pub later-bound : (i b a : ℕ) (ys : List ℕ) → Above a ys → ((y : ℕ) → Has y ys → y ≤ b) → later i ys ≤ b - i
unfolding later
later-bound i b a [] r top = omega arith
later-bound i b a (y ∷ ys) r top =
    either (below? i y)
    (λ h. rw (later-all i (y ∷ ys) (h, r.1)) (length-bound b i (y ∷ ys) (h, r.1) top))
    (λ h. rw (later-no i y ys h) (later-bound i b y ys r.1 (λ z m. top z (inr m))))

-- how many are below j
unfoldable pub earlier : ℕ → List ℕ → ℕ
earlier j [] = 0
earlier j (y ∷ ys) = cond (ltb y j) 1 0 + earlier j ys

pub earlier-yes : (j y : ℕ) (ys : List ℕ) → y < j → earlier j (y ∷ ys) ≡ suc (earlier j ys)
unfolding earlier
earlier-yes j y ys h = rw (lt-ltb y j h) (omega arith)

pub earlier-no : (j y : ℕ) (ys : List ℕ) → j ≤ y → earlier j (y ∷ ys) ≡ earlier j ys
unfolding earlier
earlier-no j y ys h = rw (le-ltb y j h) (omega arith)

-- every port is at most i or above it
pub earlier-later : (i : ℕ) (ys : List ℕ) → earlier (suc i) ys + later i ys ≡ length ys
unfolding later earlier
earlier-later i [] = refl
earlier-later i (y ∷ ys) =
    either (below? i y)
    (λ h. omega (arith, later-yes i y ys h, earlier-no (suc i) y ys h, earlier-later i ys))
    (λ h. omega (arith, later-no i y ys h, earlier-yes (suc i) y ys (omega arith), earlier-later i ys))

-- ---- what is left after the first i jacks

-- m free ports, in rising order, all at most i + m
pub record Left (i m : ℕ) (free : List ℕ) : Type 0 where
  pub long : length free ≡ m
  pub up : Above 0 free
  pub top : (y : ℕ) → Has y free → y ≤ i + m

-- one more jack gets one of them
pub left-without : (i m x : ℕ) (free : List ℕ) → Left i (suc m) free → Has x free → Left (suc i) m (without x free)
left-without i m x free L h =
    record {
      long = omega (arith, length_without x free h, L.long);
      up = above-without 0 x free L.up;
      top = λ y g. omega (arith, L.top y (was-there x y free g));
    }
