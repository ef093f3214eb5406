-- A gap's line (`spells-gap`); gaps in numbers, which are read back from the front of a slice (`arcs-back`); and the loop that puts a line for each (`gap-room`,
-- `gap-on`, `gaps-over`).
-- Assumes nothing.
use mathlib.Core.Path.{◌≡◌, refl, ap, ◌∙◌}
use mathlib.Core.List.{List, [], ◌∷◌, ◌++◌}
use Prim.Native.Nat.{ℕ, suc, ◌+◌, ◌-◌, ◌≤◌, ◌<◌}
use native.Mathlib.Omega.{arith}
use lib.ListN.{length, drop, get_or}
use lib.Seq.{drop-drop, get_or-drop}
use Rattle.promise_arcs.specs.Gaps.{Arc}
use Rattle.promise_arcs.specs.Named.{numbers}
use Rattle.line_writer.specs.Answers.{Spells}
use Rattle.line_writer.specs.declared.order_lines.Spelled.{Spelled}
use Rattle.plan_facts.specs.Facts.{pair_text}
use Rattle.naming.specs.Text.{gap_key, gap_text, gaps_text}
use Rattle.line_putting.specs.Putting.{Puts}
use Rattle.naming.specs.Arcs.{arcs_in}
use Rattle.line_putting.proofs.Putting.{Going, going-room, going_on, going-over}

-- a gap's line is spelled from its first rank and how many ranks it has
pub spells-gap : (s : Spelled) (A : Arc) → Spells s (pair_text gap_key A.first A.many) → Spells s (gap_text A)
unfolding gap_text
spells-gap s A h = h

-- the arcs whose numbers stand at the front are read back
pub arcs-back : (As : List Arc) (more : List ℕ) → arcs_in (length As) (numbers As ++ more) ≡ As
unfolding numbers arcs_in
arcs-back [] more = refl
arcs-back (A ∷ As) more = ap (λ Bs. A ∷ Bs) (arcs-back As more)

-- ---- the loop: of numbers, from number k on, the lines of the gaps that are left

abbrev pub lines_from : List ℕ → ℕ → ℕ → List ℕ
lines_from ns k left = gaps_text (arcs_in left (drop k ns))

-- the gap at number k
abbrev pub gap_at : List ℕ → ℕ → Arc
gap_at ns k = record { first = get_or ns k 0; many = get_or ns (k + 1) 0 }

-- its line comes first
lines_next : (ns : List ℕ) (k left : ℕ) → 0 < left → lines_from ns k left ≡ gap_text (gap_at ns k) ++ lines_from ns (k + 2) (left - 1)
unfolding arcs_in gaps_text
lines_next ns k left h =
    let some : left ≡ suc (left - 1) = omega arith in
    let here : k + 0 ≡ k = omega arith in
    let first : get_or (drop k ns) 0 0 ≡ get_or ns k 0 = get_or-drop k ns 0 0 ∙ ap (λ j. get_or ns j 0) here in
    let many : get_or (drop k ns) 1 0 ≡ get_or ns (k + 1) 0 = get_or-drop k ns 1 0 in
    ap (lines_from ns k) some
    ∙ (λ i. gap_text (record { first = first i; many = many i }) ++ gaps_text (arcs_in (left - 1) (drop-drop 2 k ns i)))

lines_none : (ns : List ℕ) (k left : ℕ) → left ≡ 0 → lines_from ns k left ≡ []
unfolding arcs_in gaps_text
lines_none ns k left e = ap (lines_from ns k) e

module _ (from : ℕ) (all old : List ℕ) (at : ℕ) (ns : List ℕ) (k left : ℕ) (buf : List ℕ) (G : Going from all old at (lines_from ns k left) buf) where
  -- there is room for it, and when it is put the others are left
  module _ (some : 0 < left) where
    pub gap-room : at + length (gap_text (gap_at ns k)) ≤ length buf
    gap-room = going-room (gap_text (gap_at ns k)) (lines_from ns (k + 2) (left - 1)) G (lines_next ns k left some)

    pub gap-on : (after : ℕ) (b : List ℕ) → Puts at (gap_text (gap_at ns k)) buf after b → Going from all old after (lines_from ns (k + 2) (left - 1)) b
    gap-on after b P = going_on (gap_text (gap_at ns k)) (lines_from ns (k + 2) (left - 1)) G (lines_next ns k left some) P

  -- none is left: all are put
  pub gaps-over : left ≡ 0 → Puts from all old at buf
  gaps-over e = going-over G (lines_none ns k left e)
