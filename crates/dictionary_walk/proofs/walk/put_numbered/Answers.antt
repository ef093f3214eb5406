-- `dictionary_walk::walk::put_numbered` meets its contract: each turn gives one jack its port. The loop's invariant: the arrays are as the jacks so far leave them,
-- and the ports so far with those that the rest of the number makes are the pattern of the number.
-- Assumes nothing.
use mathlib.Core.Path.{refl, sym, subst}
use mathlib.Core.List.{List}
use Prim.Native.Nat.{ℕ}
use native.Mathlib.Numerals.{add-one}
use native.Mathlib.Omega.{arith}
use lib.ListN.{length, length-set}
use borrow.Author.Rules.{rules}
use Rattle.listing.specs.Limits.{most_ports}
use Rattle.dictionary_walk.proofs.Flags.{frees-first}
use Rattle.dictionary_walk.proofs.Jacks.{walks-first, own-least, here-most, looked}
use Rattle.dictionary_walk.proofs.Turns.{Made, made-first, rest_below, made-port, made-on, made_all}
use Rattle.dictionary_walk.proofs.walk.put_numbered.Goals as goal

pub loop-at-init : goal.loop-at-init
loop-at-init c =
    let n = length c.args.out.now in (
      refl,
      walks-first _ _ c.requires.1 c.row_of-row.ensures,
      subst (λ (l : List ℕ). Made n c.args.number 0 l c.args.out.now c.args.number) (sym (frees-first most_ports 0 n (omega (arith, c.requires.1))))
          (made-first _ _ _ c.requires.2),
    )

pub less_if-here-requires : goal.less_if-here-requires
less_if-here-requires c = own-least _ _ _ _ _ (omega arith) c.loop-at.invariant.1

pub shares_of-requires : goal.shares_of-requires
shares_of-requires c = here-most _ _ _ _ _ (omega arith) c.loop-at.invariant.1 _ c.less_if-here.ensures

pub choose-choice-requires : goal.choose-choice-requires
choose-choice-requires c =
    let K = looked _ _ _ _ _ (omega arith) c.loop-at.invariant.1 _ c.less_if-here.ensures _ _ (c.shares_of.ensures.early, c.shares_of.ensures.late) in
    (c.loop-at.invariant.1.stands.most, rest_below _ _ _ _ _ _ _ _ _ _ _ (omega arith) c.loop-at.invariant.1 c.loop-at.invariant.2 K)

pub leave-own-requires : goal.leave-own-requires
leave-own-requires c =
    let K = looked _ _ _ _ _ (omega arith) c.loop-at.invariant.1 _ c.less_if-here.ensures _ _ (c.shares_of.ensures.early, c.shares_of.ensures.late) in
    (search rules, c.loop-at.invariant.1.stands, made-port _ _ _ _ _ _ _ _ _ _ _ (omega arith) c.loop-at.invariant.1 c.loop-at.invariant.2 K _ _ (c.choose-choice.ensures.port, c.choose-choice.ensures.within), K.owned)

pub loop-at-preserved : goal.loop-at-preserved
loop-at-preserved c =
    let K = looked _ _ _ _ _ (omega arith) c.loop-at.invariant.1 _ c.less_if-here.ensures _ _ (c.shares_of.ensures.early, c.shares_of.ensures.late) in
    let on = made-on _ _ _ _ _ _ _ _ _ _ _ (omega arith) c.loop-at.invariant.1 c.loop-at.invariant.2 K _ _ (c.choose-choice.ensures.port, c.choose-choice.ensures.within) _ c.loop-at.invariant.0 c.leave-own.ensures.free in
    (simp length-set c.loop-at.invariant.0, rw add-one (record { stands = c.leave-own.ensures.stands; owned = c.leave-own.ensures.own }), rw add-one on)

pub returns : goal.returns
returns c = made_all _ _ _ _ _ _ c.requires.2 c.loop-at.invariant.0 (omega arith) (omega arith) c.loop-at.invariant.2
