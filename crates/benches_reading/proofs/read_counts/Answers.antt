-- `benches_reading::read_counts`: so many lines were read, up to a place, and their numbers stand at the front of the slice as far as it has room. Each turn passes
-- a newline.
use mathlib.Core.Path.{◌≡◌, sym, ap, ◌∙◌}
use mathlib.Core.Option.{none, some}
use Prim.Native.Nat.{◌+◌, ◌-◌, ◌<◌}
use native.Mathlib.Omega.{arith}
use lib.ListN.{length, take, drop}
use borrow.Author.Rules.{rules}
use Rattle.text_keys.specs.Parts.{newline, first_of}
use Rattle.text_keys.specs.Answers.{found_is}
use Rattle.text_keys.proofs.Cuts.{to_the_end}
use Rattle.benches_text.specs.Reading.{three_in}
use Rattle.benches_text.proofs.Reading.{read-unended, read-bad, read_more, read_all, read-front, not-read, newline-inside, line_as}
use Rattle.benches_reading.specs.Answers.{triple_is}
use Rattle.benches_reading.proofs.read_counts.Goals as goal
use Rattle.benches_reading.proofs.read_counts.Goals.{After-three_in, In-Some}

-- the newline stands k after the place
at-newline : (c : In-Some)
    → some c.in-Some.k ≡ first_of newline (drop c.loop-at.at c.args.t.now)
at-newline c =
    sym (ap found_is c.in-Some.is) ∙ c.find.ensures
    ∙ ap (first_of newline) (to_the_end c.args.t.now c.loop-at.at)

inside : (c : In-Some)
    → c.loop-at.at + c.in-Some.k < length c.args.t.now
inside c = newline-inside _ _ _ _ c.loop-at.invariant.4 _ (at-newline c)

-- what the line is read as
line_read : (c : After-three_in)
    → triple_is c.three_in.result ≡ three_in (take c.in-Some.k (drop c.loop-at.at c.args.t.now))
line_read c =
    let e : c.loop-at.at + c.in-Some.k - c.loop-at.at ≡ c.in-Some.k = omega arith in
    c.three_in.ensures ∙ ap (λ j. three_in (take j (drop c.loop-at.at c.args.t.now))) e

-- no newline comes
pub returns-in-None-clause-told : goal.returns-in-None-clause-told
returns-in-None-clause-told c = let nowhere : none ≡ first_of newline (drop c.loop-at.at c.args.t.now) =
    sym (ap found_is c.in-None.is) ∙ c.find.ensures ∙ ap (first_of newline) (to_the_end c.args.t.now c.loop-at.at) in
    let inside : c.loop-at.at < length c.args.t.now = omega (arith, c.loop-at.invariant.0, c.loop-at-test.true) in
    let N = not-read c.args.t.now c.loop-at.counts _ _ (line_as (read-unended _ _ _ _ c.loop-at.invariant.4 nowhere inside)) in
    N.0

pub returns-in-None-clause-front : goal.returns-in-None-clause-front
returns-in-None-clause-front c = let nowhere : none ≡ first_of newline (drop c.loop-at.at c.args.t.now) =
    sym (ap found_is c.in-None.is) ∙ c.find.ensures ∙ ap (first_of newline) (to_the_end c.args.t.now c.loop-at.at) in
    let inside : c.loop-at.at < length c.args.t.now = omega (arith, c.loop-at.invariant.0, c.loop-at-test.true) in
    let N = not-read c.args.t.now c.loop-at.counts _ _ (line_as (read-unended _ _ _ _ c.loop-at.invariant.4 nowhere inside)) in
    λ ns e h. N.1 ns e (omega (arith, c.loop-at.invariant.3))

pub overflow_add-to : goal.overflow_add-to
overflow_add-to c = let h = inside c in search rules

pub slice_bounds-three_in-end : goal.slice_bounds-three_in-end
slice_bounds-three_in-end c = let h = inside c in search rules

pub returns-in-None-three_in-clause-told : goal.returns-in-None-three_in-clause-told
returns-in-None-three_in-clause-told c = let N = not-read c.args.t.now c.loop-at.counts _ _
    (line_as (read-bad _ _ _ _ c.loop-at.invariant.4 _ (at-newline (goal.at.returns-in-None-three_in-clause-told c).In-Some) (sym (ap triple_is c.in-None-three_in.is) ∙ line_read (goal.at.returns-in-None-three_in-clause-told c).After-three_in))) in
    N.0

pub returns-in-None-three_in-clause-front : goal.returns-in-None-three_in-clause-front
returns-in-None-three_in-clause-front c = let N = not-read c.args.t.now c.loop-at.counts _ _
    (line_as (read-bad _ _ _ _ c.loop-at.invariant.4 _ (at-newline (goal.at.returns-in-None-three_in-clause-front c).In-Some) (sym (ap triple_is c.in-None-three_in.is) ∙ line_read (goal.at.returns-in-None-three_in-clause-front c).After-three_in))) in
    λ ns e h. N.1 ns e (omega (arith, c.loop-at.invariant.3))

pub loop-at-preserved : goal.loop-at-preserved
loop-at-preserved c =
    let h = inside (goal.at.loop-at-preserved c).In-Some in (
      c.loop-at.invariant.0,
      omega arith,
      omega (arith, c.loop-at.invariant.2),
      c.put_three.ensures.long ∙ c.loop-at.invariant.3,
      read_more _ _ _ _ c.loop-at.invariant.4 _ (at-newline (goal.at.loop-at-preserved c).In-Some) _ (sym (ap triple_is c.in-Some-three_in.is) ∙ line_read (goal.at.loop-at-preserved c).After-three_in) _ c.put_three.ensures.long c.put_three.ensures.front,
    )

pub returns-clause-told : goal.returns-clause-told
returns-clause-told c = let end : c.loop-at.at ≡ length c.args.t.now = omega (arith, c.loop-at.invariant.0, c.loop-at.invariant.1, c.loop-at-test.false) in
    read_all _ _ _ _ c.loop-at.invariant.4 end

pub returns-clause-front : goal.returns-clause-front
returns-clause-front c = let end : c.loop-at.at ≡ length c.args.t.now = omega (arith, c.loop-at.invariant.0, c.loop-at.invariant.1, c.loop-at-test.false) in
    λ ns e h. read-front _ _ _ _ c.loop-at.invariant.4 end ns e (omega (arith, c.loop-at.invariant.3))
