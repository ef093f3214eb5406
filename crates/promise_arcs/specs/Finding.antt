-- How the gaps that arcs leave are found, with no walk over ranks: a gap begins right after some arc's last rank, where no arc lies, and ends before the arc that
-- begins nearest ahead. Sixteen arcs leave at most sixteen gaps, each by a few times sixteen tests.
-- Assumes nothing.
use Rattle.std.specs.Prelude.{ℕ, zero, suc, ◌-◌, Bool, true, false, cond, ◌||◌, List, [], ◌∷◌, map, leb, ltb}
use Rattle.promise.specs.Plan.{Leg}
use Rattle.promise_arcs.specs.Circle.{onward, backward, ahead}
use Rattle.promise_arcs.specs.Gaps.{Arc}

-- ---- the arc of a leg: from its start on, or from run steps before its start

abbrev pub first_of : ℕ → Bool → ℕ → ℕ → ℕ
first_of c false start run = start
first_of c true start run = backward c start run

abbrev pub arc_of : ℕ → Leg → Arc
arc_of c l = record { first = first_of c l.back l.start l.run; many = suc l.run }

-- ---- one gap

-- the smaller of two
unfoldable pub lesser : ℕ → ℕ → ℕ
lesser a b = cond (leb a b) a b

-- whether rank r lies on one of the arcs
unfoldable pub on_some : ℕ → List Arc → ℕ → Bool
on_some c [] r = false
on_some c (A ∷ As) r = ltb (ahead c A.first r) A.many || on_some c As r

-- the rank after an arc's last
abbrev pub past : ℕ → Arc → ℕ
past c A = onward c A.first A.many

-- where a gap begins after an arc: past it, unless one of the arcs As lies there; c stands for nowhere
unfoldable pub opening : ℕ → List Arc → Arc → ℕ
opening c As A = cond (on_some c As (past c A)) c (past c A)

-- how many steps on from rank e the nearest arc begins; c where there is none
unfoldable pub nearest : ℕ → List Arc → ℕ → ℕ
nearest c [] e = c
nearest c (A ∷ As) e = lesser (ahead c e A.first) (nearest c As e)

-- the gap that begins at rank e
abbrev pub gap_at : ℕ → List Arc → ℕ → Arc
gap_at c As e = record { first = e; many = nearest c As e }

-- ---- all of them

-- where gaps begin, an entry for each arc
abbrev pub openings : ℕ → List Arc → List ℕ
openings c As = map (opening c As) As

-- the lowest entry from x on; c where there is none
unfoldable pub lowest : ℕ → ℕ → List ℕ → ℕ
lowest c x [] = c
lowest c x (e ∷ es) = cond (leb x e) (lesser e (lowest c x es)) (lowest c x es)

-- the gaps whose first ranks are among the k ranks from x on
unfoldable pub gaps_from : ℕ → List Arc → ℕ → ℕ → List Arc
gaps_from c As zero x = []
gaps_from c As (suc k) x =
    let e = lowest c x (openings c As) in
    cond (ltb e c) (gap_at c As e ∷ gaps_from c As k (suc e)) []

-- those whose first ranks are from x on, and all
abbrev pub gaps_on : ℕ → List Arc → ℕ → List Arc
gaps_on c As x = gaps_from c As (c - x) x

abbrev pub gaps_between : ℕ → List Arc → List Arc
gaps_between c As = gaps_on c As 0
