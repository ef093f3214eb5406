-- The text as a whole: what was counted and what was read back from numbers are its parts (`is-text`), and put one behind the other they are the text (`all-put`).
-- Assumes nothing.
use mathlib.Core.Path.{◌≡◌, sym, ap, ◌∙◌}
use mathlib.Core.List.{List, ◌++◌}
use Prim.Native.Nat.{ℕ, ◌+◌, ◌*◌, ◌≤◌}
use native.Mathlib.Omega.{arith}
use lib.ListN.{length, length-append}
use Rattle.listing.specs.Count.{count}
use Rattle.promise_arcs.specs.Named.{numbers}
use Rattle.promise_arcs.proofs.Named.{length-numbers}
use Rattle.line_format.specs.Calls.{over}
use Rattle.plan_rules.specs.Planned.{device}
use Rattle.plan_rules.specs.Rules.{Ruled}
use Rattle.plan_rules.specs.declared.Plan.{Plan}
use Rattle.plan_arcs.specs.Arcs.{gaps_in, Tallies}
use Rattle.plan_arcs.specs.declared.gaps.Tally.{Tally}
use Rattle.naming.specs.Text.{counts_text, gaps_text, named_text, most_named}
use Rattle.line_putting.specs.Putting.{Puts}
use Rattle.naming.specs.Arcs.{arcs_in}
use Rattle.line_putting.proofs.Putting.{Going, going-first, going-room, going_on, puts-front}
use Rattle.naming.proofs.Gaps.{arcs-back}
use Rattle.plan_arcs.proofs.Found.{left-few}
use Rattle.naming.proofs.Longest.{text-fits}

-- the numbers of the gaps fit 34 places
pub numbers_fit : (p : Plan) → Ruled device p → length (numbers (gaps_in p)) ≤ 34
numbers_fit p R = omega (arith, length-numbers (gaps_in p), left-few p R)

-- a plan within the rules, what was counted of it, its gaps as numbers at the front of u, and a buffer that is long enough
pub record Known (p : Plan) (t : Tally) (of : ℕ) (u old : List ℕ) : Type 0 where
  pub rules : Ruled device p
  pub tally : Tallies p t
  pub size : of ≡ count p.ports
  pub more : List ℕ
  pub gaps : u ≡ numbers (gaps_in p) ++ more
  pub room : most_named ≤ length old

module _ (p : Plan) (t : Tally) (of : ℕ) (u old : List ℕ) (K : Known p t of u old) where
  abbrev counts : List ℕ
  counts = counts_text t.named of t.gaps

  abbrev lines : List ℕ
  lines = gaps_text (arcs_in t.gaps u)

  -- the parts of the text
  is-text : named_text p ≡ counts ++ lines
  unfolding named_text
  is-text =
      let back : arcs_in t.gaps u ≡ gaps_in p =
      ap (λ k. arcs_in k u) K.tally.gaps ∙ ap (arcs_in (length (gaps_in p))) K.gaps ∙ arcs-back (gaps_in p) K.more in
      sym (λ i. counts_text (K.tally.named i) (K.size i) (K.tally.gaps i) ++ gaps_text (back i))

  start : Going 0 (named_text p) old 0 (named_text p) old
  start = going-first 0 (named_text p) old (omega (arith, text-fits p K.rules, K.room))

  -- the counts first
  pub counts-room : length counts ≤ length old
  counts-room = omega (arith, going-room counts lines start is-text)

  -- the numbers of the gaps are there
  pub gaps-there : 2 * t.gaps ≤ length u
  gaps-there = omega (arith, K.tally.gaps, ap length K.gaps, length-append (numbers (gaps_in p)) K.more, length-numbers (gaps_in p))

  -- then their lines
  module _ (at : ℕ) (b : List ℕ) (P : Puts 0 counts old at b) where
    after : Going 0 (named_text p) old at lines b
    after = going_on counts lines start is-text P

    pub lines-room : at + length lines ≤ length b
    lines-room = after.room

    pub all-put : (r : ℕ) (d : List ℕ) → Puts at lines b r d → (r ≡ length (named_text p)) × (d ≡ over (named_text p) old)
    all-put r d Q = puts-front (named_text p) old r d (after.comes r d Q)
