-- `pattern_levels::peeling::peel` meets its contract: the inverse tells the letter, and each step back is that of the laws on both arrays.
-- Assumes nothing.
use native.Mathlib.Omega.{arith}
use Prim.Native.Nat.{◌-◌}
use lib.ListN.{get_or, set, take}
use borrow.Author.Rules.{rules}
use Rattle.listing.specs.Numbers.{Among}
use Rattle.pattern_levels.specs.declared.types.Came.TheVariants.{ByA, ByB}
use Rattle.pattern_levels.proofs.Taken.{Off, ends, taken-a, taken-b}
use Rattle.pattern_levels.proofs.peeling.peel.Goals as goal
use Rattle.pattern_levels.proofs.peeling.peel.Goals.{Start, After-back_b-then-holder-i, Else-holder-i}

-- the partners of the last jack and of the last port
partners : (c : Start) → Among c.args.t.now.ports (get_or c.args.t.now.copy (c.args.t.now.ports - 1) 0) × Among c.args.t.now.ports (get_or c.args.t.now.inverse (c.args.t.now.ports - 1) 0)
partners c = ends c.args.t.now.ports c.args.t.now.copy c.args.t.now.inverse c.requires c.args.t.now.arrays

pub overflow_sub-jack : goal.overflow_sub-jack
overflow_sub-jack c = omega (arith, partners (goal.at.overflow_sub-jack c).Start)

pub overflow_sub-port : goal.overflow_sub-port
overflow_sub-port c = omega (arith, partners (goal.at.overflow_sub-port c).Start)

pub bounds-t-jack : goal.bounds-t-jack
bounds-t-jack c = omega (arith, partners (goal.at.bounds-t-jack c).Start, c.args.t.now.fits)

pub bounds-t-port : goal.bounds-t-port
bounds-t-port c = omega (arith, partners (goal.at.bounds-t-port c).Start, c.args.t.now.fits)

-- a level by B is off
off-b : (c : After-back_b-then-holder-i) → Off c.args.t.now.ports (take c.args.t.now.ports c.args.t.now.copy) (ByB (get_or c.args.t.now.copy (c.args.t.now.ports - 1) 0))
    (c.args.t.now.ports - 2) c.back_b.new.p c.back_b-then-holder-i.new.p
off-b c = taken-b _ _ _ _ _ c.requires c.args.t.now.arrays c.if-holder-i.true c.back_b.ensures c.back_b-then-holder-i.ensures

pub invariant_of-t-clause-arrays : goal.invariant_of-t-clause-arrays
invariant_of-t-clause-arrays c = (off-b c).arrays

pub returns-then-holder-i : goal.returns-then-holder-i
returns-then-holder-i c =
    let o = off-b (goal.at.returns-then-holder-i c).After-back_b-then-holder-i in
    record { came = o.came; left = o.ports; shown = o.shown }

-- a level by A is off
off-a : (c : Else-holder-i) → let p = c.args.t.now.copy in let q = c.args.t.now.inverse in let last = c.args.t.now.ports - 1 in
    Off c.args.t.now.ports (take c.args.t.now.ports p) (ByA (get_or p last 0)) last (set p (get_or q last 0 - 1) (get_or p last 0)) (set q (get_or p last 0 - 1) (get_or q last 0))
off-a c = taken-a _ _ _ c.requires c.args.t.now.fits (search rules) (search rules) c.args.t.now.arrays c.if-holder-i.false

pub invariant_of-t-else-holder-i-clause-arrays : goal.invariant_of-t-else-holder-i-clause-arrays
invariant_of-t-else-holder-i-clause-arrays c = (off-a c).arrays

pub returns-else-holder-i : goal.returns-else-holder-i
returns-else-holder-i c =
    let o = off-a (goal.at.returns-else-holder-i c).Else-holder-i in
    record { came = o.came; left = o.ports; shown = o.shown }
