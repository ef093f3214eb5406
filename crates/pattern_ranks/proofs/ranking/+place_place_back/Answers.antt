-- `pattern_ranks::ranking::place` and `place_back` meet their contracts: each level's law of the place, read forward and read backward.
-- Assumes nothing.
use mathlib.Core.Bool.{true, false}
use native.Mathlib.Omega.{arith}
use Rattle.pattern_levels.proofs.Came.{two-jacks}
use Rattle.pattern_ranks.proofs.Passing.{place_none, onward}
use Rattle.pattern_ranks.proofs.ranking.+place_place_back.Goals as goal

pub place-returns-then-t-eq0 : goal.place-returns-then-t-eq0
place-returns-then-t-eq0 t c = place_none true c.args.t.now.ports _ _ c.if-t-eq0.true

pub place-level-l-requires : goal.place-level-l-requires
place-level-l-requires t c = two-jacks c.if-t-eq0.false c.args.t.now.arrays.pattern

pub place-overflow_add-passed : goal.place-overflow_add-passed
place-overflow_add-passed t c = (onward c.level-l.ensures c.requires).sum

pub place-place-requires : goal.place-place-requires
place-place-requires t c = let o = onward c.level-l.ensures c.requires in (omega (arith, o.fewer), o.placing c.if-l.true)

pub place-returns-then-l : goal.place-returns-then-l
place-returns-then-l t c = (onward c.level-l.ensures c.requires).place c.if-l.true c.place.ensures

pub place-overflow_add-passed-2 : goal.place-overflow_add-passed-2
place-overflow_add-passed-2 t c = (onward c.level-l.ensures c.requires).sum

pub place-place_back-requires : goal.place-place_back-requires
place-place_back-requires t c = let o = onward c.level-l.ensures c.requires in (omega (arith, o.fewer), o.placing c.if-l.false)

pub place-returns : goal.place-returns
place-returns t c = (onward c.level-l.ensures c.requires).place c.if-l.false c.place_back.ensures

pub place_back-returns-then-t-eq0 : goal.place_back-returns-then-t-eq0
place_back-returns-then-t-eq0 t c = place_none false c.args.t.now.ports _ _ c.if-t-eq0.true

pub place_back-level-l-requires : goal.place_back-level-l-requires
place_back-level-l-requires t c = two-jacks c.if-t-eq0.false c.args.t.now.arrays.pattern

pub place_back-overflow_add-passed : goal.place_back-overflow_add-passed
place_back-overflow_add-passed t c = (onward c.level-l.ensures c.requires).sum

pub place_back-place-requires : goal.place_back-place-requires
place_back-place-requires t c = let o = onward c.level-l.ensures c.requires in (omega (arith, o.fewer), o.placing c.if-l.true)

pub place_back-returns-then-l : goal.place_back-returns-then-l
place_back-returns-then-l t c = (onward c.level-l.ensures c.requires).place c.if-l.true c.place.ensures

pub place_back-overflow_add-passed-2 : goal.place_back-overflow_add-passed-2
place_back-overflow_add-passed-2 t c = (onward c.level-l.ensures c.requires).sum

pub place_back-place_back-requires : goal.place_back-place_back-requires
place_back-place_back-requires t c = let o = onward c.level-l.ensures c.requires in (omega (arith, o.fewer), o.placing c.if-l.false)

pub place_back-returns : goal.place_back-returns
place_back-returns t c = (onward c.level-l.ensures c.requires).place c.if-l.false c.place_back.ensures
