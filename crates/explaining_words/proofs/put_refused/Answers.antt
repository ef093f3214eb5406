-- `explaining_words::put_refused` puts the two lines of the refusal, the words, and the end of their line.
-- Assumes nothing.
use mathlib.Core.Path.{refl}
use mathlib.Core.List.{List, ◌++◌}
use Prim.Native.Nat.{ℕ, ◌+◌, ◌≤◌}
use native.Mathlib.Omega.{arith}
use lib.ListN.{length}
use borrow.Author.Rules.{rules}
use Rattle.listing.specs.Limits.{largest64}
use Rattle.words.specs.Meaning.{number_of}
use Rattle.line_putting.specs.Putting.{Puts}
use Rattle.line_putting.proofs.Putting.{Going, going-first, going-room, going_on, spelled-puts}
use Rattle.line_refusal.specs.Text.{refusal_text}
use Rattle.explaining.specs.Text.{ended, wrong_text, refused_text, most_explained}
use Rattle.explaining.proofs.Longest.{refused-fits}
use Rattle.explaining_words.proofs.Wrong.{number-small}
use Rattle.explaining_words.proofs.put_refused.Goals as goal
use Rattle.explaining_words.proofs.put_refused.Goals.{After-put_spelled-words, Start}

-- it is no longer than any text
short : (c : Start) → length (refused_text (number_of c.args.reason) c.args.place c.args.earlier c.args.x) ≤ most_explained
short c =
    let k : number_of c.args.reason ≤ largest64 = number-small c.args.reason in
    let j : c.args.place ≤ largest64 = search rules in
    let i : c.args.earlier ≤ largest64 = search rules in
    let x : c.args.x ≤ largest64 = search rules in
    refused-fits (number_of c.args.reason) c.args.place c.args.earlier c.args.x k j i x

-- what is left of it: after the lines, the words and the end of their line; after the words, that end
module _ (number place earlier x : ℕ) (old : List ℕ) (fits : 0 + length (refused_text number place earlier x) ≤ length old) where
  at-lines : Going 0 (refused_text number place earlier x) old 0 (refusal_text number place ++ (wrong_text number place earlier x ++ ended)) old
  unfolding refused_text
  at-lines = going-first _ _ _ fits

  at_words : (m : ℕ) (mid : List ℕ) → Puts 0 (refusal_text number place) old m mid
      → Going 0 (refused_text number place earlier x) old m (wrong_text number place earlier x ++ ended) mid
  at_words m mid P = going_on _ _ at-lines refl P

  at-end : (m : ℕ) (mid : List ℕ) → Puts 0 (refusal_text number place) old m mid
      → (after : ℕ) (left : List ℕ) → Puts m (wrong_text number place earlier x) mid after left
      → Going 0 (refused_text number place earlier x) old after ended left
  at-end m mid P after left Q = going_on _ _ (at_words m mid P) refl Q

-- the lines are put
lines-put : (c : After-put_spelled-words) → Puts 0 (refusal_text (number_of c.args.reason) c.args.place) c.args.buf.now c.put_spelled-words.result c.put_spelled-words.new.buf
lines-put c = spelled-puts c.refusal_text.result _ c.refusal_text.ensures.spells 0 _ _ _ c.put_spelled-words.ensures

pub put_wrong-end-requires : goal.put_wrong-end-requires
put_wrong-end-requires c =
    let g = goal.at.put_wrong-end-requires c in
    let a = c.args in
    let words = at_words (number_of a.reason) a.place a.earlier a.x a.buf.now (omega (arith, short g.Start, c.requires))
    c.put_spelled-words.result c.put_spelled-words.new.buf (lines-put g.After-put_spelled-words) in
    going-room (wrong_text (number_of a.reason) a.place a.earlier a.x) _ words refl

pub put_text-requires : goal.put_text-requires
put_text-requires c =
    let g = goal.at.put_text-requires c in
    let a = c.args in
    let end = at-end (number_of a.reason) a.place a.earlier a.x a.buf.now (omega (arith, short g.Start, c.requires))
    c.put_spelled-words.result c.put_spelled-words.new.buf (lines-put g.After-put_spelled-words)
    c.put_wrong-end.result c.put_wrong-end.new.buf c.put_wrong-end.ensures in
    end.room

pub returns-clause-puts : goal.returns-clause-puts
returns-clause-puts c =
    let g = goal.at.returns-clause-puts c in
    let a = c.args in
    let end = at-end (number_of a.reason) a.place a.earlier a.x a.buf.now (omega (arith, short g.Start, c.requires))
    c.put_spelled-words.result c.put_spelled-words.new.buf (lines-put g.After-put_spelled-words)
    c.put_wrong-end.result c.put_wrong-end.new.buf c.put_wrong-end.ensures in
    end.comes _ _ c.put_text.ensures

pub returns-clause-fits : goal.returns-clause-fits
returns-clause-fits c =
    let g = goal.at.returns-clause-fits c in
    let a = c.args in
    let fits = short g.Start in
    let end = at-end (number_of a.reason) a.place a.earlier a.x a.buf.now (omega (arith, fits, c.requires))
    c.put_spelled-words.result c.put_spelled-words.new.buf (lines-put g.After-put_spelled-words)
    c.put_wrong-end.result c.put_wrong-end.new.buf c.put_wrong-end.ensures in
    let all = end.comes _ _ c.put_text.ensures in
    omega (arith, all.place, fits)
