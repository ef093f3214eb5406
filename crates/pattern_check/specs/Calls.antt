-- What the check tells (the paper, 'Refusal numbers': length comes before all). The most ports of the device is a parameter.
-- Assumes nothing.
use Rattle.std.specs.Prelude.{ℕ, Bool, true, cond, List, length}
use Rattle.words.specs.Told.{Told, refused, nowhere}
use Rattle.words.specs.Shape.{within}
use Rattle.pattern_check.specs.Faults.{fault_of, fault_told, paper_told}

-- whether the ports are 2 to most
unfoldable pub in_size : ℕ → ℕ → Bool
in_size most n = within 2 most n

-- refusal 1 unless they are
unfoldable pub sized : {A : Type 0} → ℕ → ℕ → Told A → Told A
sized most n t = cond (in_size most n) t (refused 1 nowhere)

-- the check of a pattern, or of a panel: 1; then at each jack from 1: 3, 4 and, of a pattern and not of a panel, 5
unfoldable pub check_as : Bool → ℕ → List ℕ → Told (Unit {0})
check_as pattern most p = sized most (length p) (fault_told (fault_of pattern p) tt)

-- the check of a pattern
abbrev pub check_of : ℕ → List ℕ → Told (Unit {0})
check_of most p = check_as true most p

-- the check as the paper alone has it, with no second number
unfoldable pub paper_check : Bool → ℕ → List ℕ → Told (Unit {0})
paper_check pattern most p = sized most (length p) (paper_told (fault_of pattern p) tt)
