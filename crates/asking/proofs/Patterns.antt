-- What a line of entries is concluded to ask: by whether it is one line, by its entries, and by the rank of the pattern that they are.
-- Assumes nothing.
use mathlib.Core.Path.{◌≡◌, sym, ap, subst, ◌∙◌}
use mathlib.Core.Bool.{Bool, true, false, cond}
use mathlib.Core.List.{List, ◌∷◌}
use Prim.Native.Nat.{ℕ, ◌<◌}
use native.Mathlib.Omega.{arith}
use lib.Dec.{leb}
use lib.IntN.{ℤ, pos}
use lib.ListN.{length, take, replicate}
use mir.Syntax.{w64}
use mir.Val.{to_z, of_z}
use Rattle.listing.specs.Limits.{most_ports, most_legs}
use Rattle.words.specs.Told.{Told, Spot, accepted, refused, then}
use Rattle.words.specs.Signs.{signed_limit}
use Rattle.words.proofs.WithSign.{stored}
use Rattle.plan_rules.specs.Planned.{run_of, device}
use Rattle.plan_rules.specs.Places.{placed}
use Rattle.plan_rules.specs.Rules.{plan_ruled}
use Rattle.plan_rules.specs.declared.Plan.{Plan}
use Rattle.patterns.specs.Calls.{rank_of}
use Rattle.text_entries.specs.Entries.{one_line, entries_of}
use Rattle.text_entries.specs.Pieces.{EntriesAre}
use Rattle.text_entries.proofs.Read.{given, given-long, given-front}
use Rattle.asking.specs.Questions.{pattern_leg, of_pattern, entries_asked, pattern_asked}
use Rattle.text_entries.specs.declared.Entries.{Entries}
use Rattle.asking.proofs.Asked.{from-pattern-ruled}

-- ---- the line

-- a text that is not one line is refused, and of one that is the entries decide
pub line-asked : (t : List ℕ) (told : Told (List ℕ)) → told ≡ one_line t → then told entries_asked ≡ pattern_asked t
unfolding pattern_asked
line-asked t told e = ap (λ x. then x entries_asked) e

-- ---- the entries

-- they were refused
pub not-entries : (t : List ℕ) {k : ℕ} {s : Spot} → refused k s ≡ entries_of t → refused k s ≡ entries_asked t
unfolding entries_asked
not-entries t e = ap (λ told. then told (λ p. then (rank_of most_ports p) (λ x. accepted (of_pattern (length p) x)))) e

-- they were read
module _ (t : List ℕ) (r : Entries) (R : EntriesAre (entries_of t) r) where
  -- their rank is refused
  pub unranked : (k : ℕ) (s : Spot) → refused k s ≡ rank_of most_ports (take r.len r.bytes) → refused k s ≡ entries_asked t
  unfolding entries_asked
  unranked k s e =
      let g = given t r R in
      let f : refused k s ≡ rank_of most_ports g.0 = e ∙ ap (rank_of most_ports) (given-front t r R) in
      rw (g.1, ← f)

  -- they have a rank
  pub ranked : (x : ℕ) → accepted x ≡ rank_of most_ports (take r.len r.bytes) → accepted (of_pattern r.len x) ≡ entries_asked t
  unfolding entries_asked
  ranked x e =
      let g = given t r R in
      let f : accepted x ≡ rank_of most_ports g.0 = e ∙ ap (rank_of most_ports) (given-front t r R) in
      ap (λ n. accepted (of_pattern n x)) (given-long t r R) ∙ rw (g.1, ← f)

  -- from which a leg within the rules starts
  pub ranked-ruled : (x : ℕ) → accepted x ≡ rank_of most_ports (take r.len r.bytes) → plan_ruled device (placed most_legs (of_pattern r.len x).plan) ≡ true
  ranked-ruled x e =
      let g = given t r R in
      subst (λ n. plan_ruled device (placed most_legs (of_pattern n x).plan) ≡ true) (sym (given-long t r R))
      (from-pattern-ruled g.0 x (e ∙ ap (rank_of most_ports) (given-front t r R)))

-- ---- the plan

-- the step is small
step_small : (b : Bool) → cond b 0 1 < signed_limit
step_small true = omega arith
step_small false = omega arith

-- one leg from a rank on, in its places
pub from-rank-placed : (n r : ℕ) (z : ℤ) → z ≡ pos (cond (leb n 2) 0 1)
    → ◌≡◌ {A = Plan} (record { ports = n; legs = 1; starts = r ∷ replicate 15 0; runs = to_z w64 (of_z w64 z) ∷ replicate 15 (pos 0) })
    (placed most_legs (of_pattern n r).plan)
unfolding placed
from-rank-placed n r z e =
    ap (λ (y : ℤ). record { ports = n; legs = 1; starts = r ∷ replicate 15 0; runs = y ∷ replicate 15 (pos 0) })
    (ap (λ y. to_z w64 (of_z w64 y)) e ∙ stored (run_of (pattern_leg n r)) (step_small (leb n 2)))
