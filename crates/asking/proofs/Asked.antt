-- What an accepted question asks: a plan that fits, and a mark that it has (`question-fits`). So an answer's plan has the mark
-- (`answer-mark`), whichever kind of question it was.
-- Assumes nothing.
use mathlib.Core.Path.{◌≡◌, refl, sym, ap, subst, ◌∙◌}
use mathlib.Core.Bool.{Bool, true, false, cond, true≢false}
use mathlib.Core.List.{List, [], ◌∷◌}
use Prim.Native.Nat.{ℕ, ◌≤◌, ◌<◌}
use native.Mathlib.Omega.{arith}
use lib.Dec.{leb, ltb}
use lib.ListN.{length, drop}
use borrow.Author.Tests.{le-leb, lt-leb, ltb-true}
use Rattle.listing.specs.Count.{count}
use Rattle.listing.specs.Rank.{rank}
use Rattle.listing.specs.Limits.{most_ports, most_legs}
use Rattle.listing.proofs.Numbers.{either, below?}
use Rattle.promise.specs.Plan.{Leg, marks}
use Rattle.words.specs.Told.{accepted, refused, nowhere}
use Rattle.text_keys.specs.Parts.{begins}
use Rattle.pattern_check.specs.Calls.{check_of}
use Rattle.pattern_check.proofs.Accepted.{accepted-pattern}
use Rattle.patterns.specs.Calls.{rank_of}
use Rattle.patterns.proofs.Accepted.{rank-fits}
use Rattle.plan_lines.specs.Field.{field_in}
use Rattle.plan_rules.specs.Planned.{Planned, Fits, device}
use Rattle.plan_rules.specs.Places.{placed}
use Rattle.plan_rules.specs.Rules.{legs_of, plan_ruled}
use Rattle.plan_rules.proofs.Marks.{count-within}
use Rattle.plans.specs.Calls.{read_plan_of}
use Rattle.plans.proofs.Plans.{accepted-fits}
use Rattle.text_entries.specs.Entries.{one_line, entries_of}
use Rattle.asking.specs.Questions.{pattern_key, mark_key, Asked, of_pattern, entries_asked, pattern_asked, question_of}
use Rattle.asking.specs.Questions.{mark_field, of_mark, mark_of, marked_asked, mark_asked, whole_plan, whole_asked}
use Rattle.asking.specs.Answers.{plan_in, mark_in, QuestionAsks}
use Rattle.asking.specs.declared.Question.{Question}
use Rattle.words.proofs.Told.{then-accepted}
use Rattle.plan_rules.proofs.Within.{held-ruled}
use Rattle.asking.proofs.Ruled.{held-legs}

-- what an accepted question is: a plan that fits, and a mark of it
pub record Asks (a : Asked) : Type 0 where
  pub fits : Fits device a.plan
  pub mark : a.mark < marks a.plan.legs

-- ---- a pattern

-- the leg from a pattern is no longer than the circuit
step-below : (n : ℕ) → 2 ≤ n → 0 < count n → cond (leb n 2) 0 1 < count n
unfolding count
step-below n h z =
    either (below? 2 n)
    (λ m. rw (lt-leb n 2 m) (omega (arith, count-within 3 n (omega arith) m)))
    (λ m. rw (le-leb n 2 m) z)

-- the plan of one leg from a rank on fits, and has its first mark
one-leg : (n r : ℕ) → 2 ≤ n → n ≤ most_ports → r < count n → Asks (of_pattern n r)
unfolding marks
one-leg n r low high below = record {
  fits = record {
    few_ports = low;
    many_ports = high;
    few_legs = omega arith;
    many_legs = omega arith;
    each = (record { start = below; run = step-below n low (omega arith); behind = λ e. absurd (true≢false (sym e)) }, tt);
  };
  mark = omega arith;
}

-- and so the places that hold it are within the rules, if the rank is a pattern's
pub from-pattern-ruled : (p : List ℕ) (r : ℕ) → accepted r ≡ rank_of most_ports p → plan_ruled device (placed most_legs (of_pattern (length p) r).plan) ≡ true
unfolding rank_of
from-pattern-ruled p r e =
    let z = then-accepted (check_of most_ports p) (λ ok. accepted (rank (length p) p)) r (sym e) in
    let ok : accepted tt ≡ check_of most_ports p = sym z.taken in
    let P = accepted-pattern most_ports p ok in
    let q : r ≡ rank (length p) p = cc z.on in
    held-ruled (of_pattern (length p) r).plan (one-leg (length p) r P.low P.high (omega (arith, rank-fits most_ports p ok, q))).fits

entries-ask : (t : List ℕ) (a : Asked) → entries_asked t ≡ accepted a → Asks a
unfolding entries_asked rank_of
entries-ask t a e =
    let x = then-accepted (entries_of t) _ a e in
    let p : List ℕ = x.first in
    let y = then-accepted (rank_of most_ports p) _ a x.on in
    let z = then-accepted (check_of most_ports p) (λ ok. accepted (rank (length p) p)) y.first y.taken in
    let ok : accepted tt ≡ check_of most_ports p = sym z.taken in
    let P = accepted-pattern most_ports p ok in
    let r : y.first ≡ rank (length p) p = cc z.on in
    let is : of_pattern (length p) y.first ≡ a = cc y.on in
    subst Asks is (one-leg (length p) y.first P.low P.high (omega (arith, rank-fits most_ports p ok, r)))

pattern-asks : (t : List ℕ) (a : Asked) → pattern_asked t ≡ accepted a → Asks a
unfolding pattern_asked
pattern-asks t a e = let x = then-accepted (one_line t) entries_asked a e in entries-ask x.first a x.on

-- ---- a plan

-- a plan that fits has a mark
some-mark : (ls : List Leg) → 1 ≤ length ls → 0 < marks ls
unfolding marks
some-mark [] h = absurd (omega arith)
some-mark (l ∷ ls) h = omega arith

whole-asks : (t : List ℕ) (a : Asked) → whole_asked t ≡ accepted a → Asks a
unfolding whole_asked
whole-asks t a e =
    let x = then-accepted (read_plan_of t) (λ p. accepted (whole_plan p)) a e in
    let f = (accepted-fits device 1 t x.first x.taken).0 in
    let is : whole_plan x.first ≡ a = cc x.on in
    subst Asks is (record { fits = f; mark = some-mark x.first.legs f.few_legs })

mark-asks : (t : List ℕ) (a : Asked) → mark_asked t ≡ accepted a → Asks a
unfolding mark_asked marked_asked
mark-asks t a e =
    let x = then-accepted (field_in mark_field 0 t) _ a e in
    let k : ℕ = x.first.value.magnitude in
    let y = then-accepted (read_plan_of x.first.rest) (mark_of k) a x.on in
    has k y.first (accepted-fits device 1 x.first.rest y.first y.taken).0 (ltb k (marks y.first.legs)) refl y.on
  where
    has : (k : ℕ) (p : Planned) → Fits device p → (b : Bool) → ltb k (marks p.legs) ≡ b
        → cond b (accepted (of_mark k p)) (refused 6 nowhere) ≡ accepted a → Asks a
    has k p f true q e = let is : of_mark k p ≡ a = cc e in subst Asks is (record { fits = f; mark = ltb-true k (marks p.legs) q })
    has k p f false q e = absurd (true≢false (cc))

-- ---- any question

pub question-fits : (t : List ℕ) (a : Asked) → question_of t ≡ accepted a → Asks a
unfolding question_of
question-fits t a e = by (begins pattern_key t) (begins mark_key t) e
  where
    by : (b c : Bool) → cond b (pattern_asked (drop (length pattern_key) t)) (cond c (mark_asked t) (whole_asked t)) ≡ accepted a → Asks a
    by true c e = pattern-asks (drop (length pattern_key) t) a e
    by false true e = mark-asks t a e
    by false false e = whole-asks t a e

-- ---- its answer

module _ (t : List ℕ) (q : Question) (Q : QuestionAsks (question_of t) q) where
  asks : Asks Q.asked
  asks = question-fits t Q.asked Q.is

  -- its plan has its mark
  pub answer-mark : mark_in q < marks (legs_of (plan_in q))
  answer-mark =
      let l : marks (legs_of (plan_in q)) ≡ marks Q.asked.plan.legs =
      ap (λ p. marks (legs_of p)) Q.plan ∙ ap marks (held-legs Q.asked.plan asks.fits) in
      omega (arith, asks.mark, Q.mark)
