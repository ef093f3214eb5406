-- What the call tells and leaves, case by case: of a plan, 2 (`no_room`) or the tally with the gaps in front (`room`); of a text, its refusal with every number kept
-- (`text-refused`), or what is so of its plan (`text-read`).
-- Assumes nothing.
use mathlib.Core.Path.{◌≡◌, refl, sym, ap, ap₂}
use mathlib.Core.List.{List}
use Prim.Native.Nat.{ℕ, ◌*◌, ◌≤◌, ◌<◌}
use native.Mathlib.Omega.{arith}
use lib.ListN.{length}
use Rattle.words.specs.Told.{Spot, nowhere, Told, accepted, refused, then}
use Rattle.words.proofs.Told.{not-both}
use Rattle.line_format.specs.Calls.{over}
use Rattle.line_format.proofs.Written.{text-room, text-front}
use Rattle.promise_arcs.specs.Named.{numbers}
use Rattle.promise_arcs.proofs.Named.{length-numbers}
use Rattle.plan_rules.specs.Planned.{Planned}
use Rattle.plan_rules.specs.Places.{planned_of}
use Rattle.plan_rules.specs.declared.Plan.{Plan}
use Rattle.plans.specs.Calls.{read_plan_of}
use Rattle.plan_arcs.specs.Arcs.{Tallies}
use Rattle.plan_arcs.specs.declared.gaps.Tally.{Tally}
use Rattle.plan_named.specs.Calls.{Names, gaps_of, names_of, fitted, fitted_numbers, named_of, numbers_after, named_numbers}
use Rattle.plan_named.specs.Answers.{tally_is}

-- ---- a plan

module _ (p : Planned) (old : List ℕ) where
  -- the slice is shorter than twice the number of gaps
  pub no-room : length old < 2 * length (gaps_of p) → (refused 2 nowhere ≡ fitted p old) × (old ≡ fitted_numbers p old)
  unfolding fitted fitted_numbers
  no-room h =
      let t = text-room (numbers (gaps_of p)) old (omega (arith, length-numbers (gaps_of p))) in
      (ap (λ told. then told (λ n. accepted (names_of p))) t.0, t.1)

  -- or it is not
  pub room : 2 * length (gaps_of p) ≤ length old → (accepted (names_of p) ≡ fitted p old) × (over (numbers (gaps_of p)) old ≡ fitted_numbers p old)
  unfolding fitted fitted_numbers
  room h =
      let t = text-front (numbers (gaps_of p)) old (omega (arith, length-numbers (gaps_of p))) in
      (ap (λ told. then told (λ n. accepted (names_of p))) t.0, t.1)

-- a tally tells what a plan names
pub tally-names : (p : Plan) (t : Tally) → Tallies p t → tally_is t ≡ names_of (planned_of p)
tally-names p t T = ap₂ {C = Names} (λ x y. record { ranks = x; gaps = y }) T.named T.gaps

-- ---- a text

-- it is judged as a plan: the refusal is the call's, whole
refused-whole : (old : List ℕ) (told : Told Planned) (k : ℕ) (s : Spot) → refused k s ≡ then told (λ p. accepted (tt {0}))
    → (refused k s ≡ then told (λ p. fitted p old)) × (old ≡ numbers_after told old)
refused-whole old (accepted p) k s e = absurd (not-both e)
refused-whole old (refused j q) k s e = (cc, refl)

module _ (t old : List ℕ) where
  pub text-refused : (k : ℕ) (s : Spot) → refused k s ≡ then (read_plan_of t) (λ p. accepted (tt {0}))
      → (refused k s ≡ named_of t old) × (old ≡ named_numbers t old)
  unfolding named_of named_numbers
  text-refused k s e = refused-whole old (read_plan_of t) k s e

  -- or it is a plan
  pub text-read : (p : Planned) → read_plan_of t ≡ accepted p → (fitted p old ≡ named_of t old) × (fitted_numbers p old ≡ named_numbers t old)
  unfolding named_of named_numbers
  text-read p e = (ap (λ told. then told (λ q. fitted q old)) (sym e), ap (λ told. numbers_after told old) (sym e))
