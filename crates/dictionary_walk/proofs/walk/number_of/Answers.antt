-- `dictionary_walk::walk::number_of` meets its contract: each turn adds what the port of one jack passes over. The loop's invariant: the arrays are as the jacks
-- so far leave them, and the sum with the number of the jacks that are left is the number of the pattern.
-- Assumes nothing.
use mathlib.Core.Path.{refl, sym, subst}
use mathlib.Core.List.{List}
use Prim.Native.Nat.{ℕ}
use native.Mathlib.Numerals.{add-one}
use native.Mathlib.Omega.{arith}
use lib.ListN.{length}
use borrow.Author.Rules.{rules}
use Rattle.listing.specs.Limits.{most_ports}
use Rattle.dictionary_walk.proofs.Flags.{frees-first, has-frees}
use Rattle.dictionary_walk.proofs.Jacks.{walks-first, own-least, here-most, looked}
use Rattle.dictionary_walk.proofs.Turns.{Counted, counted-first, counted-port, counted-all, sum_fits, counted-on}
use Rattle.dictionary_walk.proofs.walk.number_of.Goals as goal

pub loop-at-init : goal.loop-at-init
loop-at-init c = (
  walks-first _ _ c.requires.1 c.row_of-row.ensures,
  subst (λ (l : List ℕ). Counted (length c.args.p.now) c.args.p.now 0 l 0) (sym (frees-first most_ports 0 (length c.args.p.now) (omega (arith, c.requires.1)))) (counted-first _ _ c.requires.2),
)

pub less_if-here-requires : goal.less_if-here-requires
less_if-here-requires c = own-least _ _ _ _ _ (omega arith) c.loop-at.invariant.0

pub shares_of-requires : goal.shares_of-requires
shares_of-requires c = here-most _ _ _ _ _ (omega arith) c.loop-at.invariant.0 _ c.less_if-here.ensures

pub pass_over-sum-requires : goal.pass_over-sum-requires
pass_over-sum-requires c =
    let K = looked _ _ _ _ _ (omega arith) c.loop-at.invariant.0 _ c.less_if-here.ensures _ _ (c.shares_of.ensures.early, c.shares_of.ensures.late) in
    let port = (has-frees _ 0 _ _ (counted-port _ _ _ _ _ refl c.loop-at.invariant.1 (omega arith))).1 in
    (omega (arith, port, c.requires.1), omega (arith, sum_fits _ _ _ c.loop-at.sum _ _ _ _ _ _ (omega arith) refl c.loop-at.invariant.0 c.loop-at.invariant.1 K _ c.requires.2 refl))

pub overflow_add-sum : goal.overflow_add-sum
overflow_add-sum c =
    let K = looked _ _ _ _ _ (omega arith) c.loop-at.invariant.0 _ c.less_if-here.ensures _ _ (c.shares_of.ensures.early, c.shares_of.ensures.late) in
    omega (arith, sum_fits _ _ _ c.loop-at.sum _ _ _ _ _ _ (omega arith) refl c.loop-at.invariant.0 c.loop-at.invariant.1 K _ c.requires.2 c.pass_over-sum.ensures)

pub leave-own-requires : goal.leave-own-requires
leave-own-requires c =
    let K = looked _ _ _ _ _ (omega arith) c.loop-at.invariant.0 _ c.less_if-here.ensures _ _ (c.shares_of.ensures.early, c.shares_of.ensures.late) in
    (search rules, c.loop-at.invariant.0.stands, counted-port _ _ _ _ _ refl c.loop-at.invariant.1 (omega arith), K.owned)

pub loop-at-preserved : goal.loop-at-preserved
loop-at-preserved c =
    let K = looked _ _ _ _ _ (omega arith) c.loop-at.invariant.0 _ c.less_if-here.ensures _ _ (c.shares_of.ensures.early, c.shares_of.ensures.late) in
    let on = counted-on _ _ _ c.loop-at.sum _ _ _ _ _ _ (omega arith) refl c.loop-at.invariant.0 c.loop-at.invariant.1 K _ _ c.pass_over-sum.ensures c.leave-own.ensures.free in
    (rw add-one (record { stands = c.leave-own.ensures.stands; owned = c.leave-own.ensures.own }), rw add-one on)

pub returns : goal.returns
returns c = counted-all _ _ _ _ _ refl c.loop-at.invariant.1 (omega arith) (omega arith)
