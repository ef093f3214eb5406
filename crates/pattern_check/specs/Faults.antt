-- The first fault of a pattern or a panel (the paper, 'Refusal numbers': jacks are tried from 1, each for 3, 4, 5; the first position at fault decides).
-- Assumes nothing.
use Rattle.std.specs.Prelude.{ℕ, zero, suc, Bool, cond, List, eqb, leb, length}
use Rattle.listing.specs.Numbers.{before}
use Rattle.listing.specs.Pattern.{entry}
use Rattle.words.specs.Told.{Told, accepted, refused, at_jack, at_jacks}

-- what is found at a jack: no fault; a port outside 1..n; a port that an earlier jack holds too, with that jack; a port at its own jack
pub data Fault : Type 0 where
  sound : Fault
  outside : ℕ → Fault
  repeated : ℕ → ℕ → Fault
  own_jack : ℕ → Fault

-- the first of k jacks, from jack i on, that holds port v; 0 if none does
unfoldable pub seek : List ℕ → ℕ → ℕ → ℕ → ℕ
seek p v i zero = 0
seek p v i (suc k) = cond (eqb (entry p i) v) i (seek p v (suc i) k)

-- the first jack before j that holds the port of jack j; 0 if none does
abbrev pub earlier : List ℕ → ℕ → ℕ
earlier p j = seek p (entry p j) 1 (before j)

-- the fault at jack j of n: 3, then 4, then, of a pattern and not of a panel, 5
unfoldable pub fault_at : Bool → ℕ → List ℕ → ℕ → Fault
fault_at pattern n p j =
    cond (eqb (entry p j) 0) (outside j)
    (cond (leb (entry p j) n)
    (cond (eqb (earlier p j) 0)
    (cond pattern (cond (eqb (entry p j) j) (own_jack j) sound) sound)
    (repeated j (earlier p j)))
    (outside j))

-- the first fault, or the one found later
abbrev pub first_of : Fault → Fault → Fault
first_of sound g = g
first_of (outside j) g = outside j
first_of (repeated j k) g = repeated j k
first_of (own_jack j) g = own_jack j

-- the first fault at k jacks, from jack j on
unfoldable pub fault_from : Bool → ℕ → List ℕ → ℕ → ℕ → Fault
fault_from pattern n p j zero = sound
fault_from pattern n p j (suc k) = first_of (fault_at pattern n p j) (fault_from pattern n p (suc j) k)

-- the first fault of p, as a pattern or as a panel
abbrev pub fault_of : Bool → List ℕ → Fault
fault_of pattern p = fault_from pattern (length p) p 1 (length p)

-- what a fault tells: its number and the jack at fault; of a repeated port also the earlier jack that holds it (request 7, 'Say where the other one is')
abbrev pub fault_told : {A : Type 0} → Fault → A → Told A
fault_told sound a = accepted a
fault_told (outside j) a = refused 3 (at_jack j)
fault_told (repeated j k) a = refused 4 (at_jacks j k)
fault_told (own_jack j) a = refused 5 (at_jack j)

-- what the paper alone lists of it: its number, and the jack at fault
abbrev pub paper_told : {A : Type 0} → Fault → A → Told A
paper_told sound a = accepted a
paper_told (outside j) a = refused 3 (at_jack j)
paper_told (repeated j k) a = refused 4 (at_jack j)
paper_told (own_jack j) a = refused 5 (at_jack j)
