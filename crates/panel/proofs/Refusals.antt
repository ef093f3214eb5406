-- The numbers of the panel's refusals: 1, 3 and 4 for the panel, never 5; 17 only on a panel that has none of these, for what does not fit it.
-- Assumes nothing.
use mathlib.Core.Path.{◌≡◌, refl}
use mathlib.Core.Logic.{◌⊎◌, inl, inr}
use mathlib.Core.Bool.{Bool, true, false, cond, true≢false}
use mathlib.Core.List.{List}
use Prim.Native.Nat.{ℕ, zero, suc}
use lib.Dec.{eqb, leb}
use lib.ListN.{length}
use Rattle.listing.specs.Pattern.{entry}
use Rattle.listing.proofs.Numbers.{either}
use Rattle.words.specs.Told.{Spot, nowhere, Told, accepted, refused, then}
use Rattle.pattern_check.specs.Faults.{Fault, sound, outside, repeated, own_jack, earlier, fault_at, first_of, fault_from, fault_of, fault_told}
use Rattle.pattern_check.specs.Calls.{in_size, sized, check_as}
use Rattle.pattern_check.proofs.Accepted.{Panel, accepted-panel}
use Rattle.panel.specs.Calls.{on_panel}

-- the number of a refusal of the panel
abbrev pub PanelNumber : ℕ → Type 0
PanelNumber k = (k ≡ 1) ⊎ (k ≡ 3) ⊎ (k ≡ 4)

-- a fault that a panel can have
abbrev OfPanel : Fault → Type 0
OfPanel sound = Unit {0}
OfPanel (outside j) = Unit {0}
OfPanel (repeated j k) = Unit {0}
OfPanel (own_jack j) = ⊥

-- the tests at a jack, by their results: on a panel none of them says 5
at-panel : (zero? in? fresh? own? : Bool) (j k : ℕ)
    → OfPanel (cond zero? (outside j) (cond in? (cond fresh? (cond false (cond own? (own_jack j) sound) sound) (repeated j k)) (outside j)))
at-panel true i f o j k = tt
at-panel false false f o j k = tt
at-panel false true true o j k = tt
at-panel false true false o j k = tt

-- of two such faults the first is one
first-panel : (f g : Fault) → OfPanel f → OfPanel g → OfPanel (first_of f g)
first-panel sound g a b = b
first-panel (outside j) g a b = tt
first-panel (repeated j k) g a b = tt
first-panel (own_jack j) g a b = a

-- the first fault of a panel is never a port at its own jack
from-panel : (n : ℕ) (p : List ℕ) (j k : ℕ) → OfPanel (fault_from false n p j k)
unfolding fault_from fault_at
from-panel n p j zero = tt
from-panel n p j (suc k) =
    first-panel (fault_at false n p j) (fault_from false n p (suc j) k)
    (at-panel (eqb (entry p j) 0) (leb (entry p j) n) (eqb (earlier p j) 0) (eqb (entry p j) j) j (earlier p j))
    (from-panel n p (suc j) k)

-- such a fault tells 3 or 4
told-number : (f : Fault) → OfPanel f → (k : ℕ) (s : Spot) → refused k s ≡ fault_told f (tt {0}) → PanelNumber k
told-number sound o k s e = absurd (true≢false (cc))
told-number (outside j) o k s e = inr (inl (cc))
told-number (repeated j i) o k s e = inr (inr (cc))
told-number (own_jack j) o k s e = absurd o

-- and the length 1
sized-number : (size : Bool) (f : Fault) → OfPanel f → (k : ℕ) (s : Spot) → refused k s ≡ cond size (fault_told f (tt {0})) (refused 1 nowhere) → PanelNumber k
sized-number true f o k s e = told-number f o k s e
sized-number false f o k s e = inl (cc)

-- a panel is refused with 1, 3 or 4
check-number : (most : ℕ) (p : List ℕ) (k : ℕ) (s : Spot) → refused k s ≡ check_as false most p → PanelNumber k
unfolding check_as sized
check-number most p k s e = sized-number (in_size most (length p)) (fault_of false p) (from-panel (length p) p 1 (length p)) k s e

-- a refusal is the panel's own, or 17
parts : {A : Type 0} (t : Told (Unit {0})) (fits : Bool) (b : A) (k : ℕ) (s : Spot) → refused k s ≡ then t (λ ok. cond fits (accepted b) (refused 17 nowhere))
    → (refused k s ≡ t) ⊎ ((accepted tt ≡ t) × (fits ≡ false) × (k ≡ 17) × (s ≡ nowhere))
parts (refused i r) fits b k s e = inl (cc)
parts (accepted ok) false b k s e = inr (refl, refl, cc, cc)
parts (accepted ok) true b k s e = absurd (true≢false (cc))

-- a call is refused with 1, 3 or 4 for the panel, or with 17 at no place, and then the panel is one and what was asked does not fit it
pub refusals : {A : Type 0} (most : ℕ) (p : List ℕ) (fits : Bool) (a : A) (k : ℕ) (s : Spot) → refused k s ≡ on_panel most p fits a
    → PanelNumber k ⊎ (Panel most p × (fits ≡ false) × (k ≡ 17) × (s ≡ nowhere))
unfolding on_panel
refusals most p fits a k s e =
    either (parts (check_as false most p) fits a k s e)
    (λ t. inl (check-number most p k s t))
    (λ t. inr (accepted-panel most p t.0, t.1, t.2, t.3))
