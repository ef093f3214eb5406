-- `plans::reading::leg_at` reads the start's line and then the run's, which has the next number, and passes a refusal of either on.
use mathlib.Core.Path.{◌≡◌}
use Prim.Native.Nat.{ℕ}
use lib.ListN.{drop}
use Rattle.std.proofs.lemmas.Result.{err_from_is_err_and}
use Rattle.listing.specs.Limits.{largest64}
use Rattle.words.specs.Told.{accepted}
use Rattle.plan_lines.specs.Field.{field_in}
use Rattle.plans.specs.Reading.{start_field}
use Rattle.plans.proofs.Legs.{start-refused, run-refused, leg-taken}
use Rattle.plans.proofs.reading.leg_at.Goals as goal
use Rattle.plans.proofs.reading.leg_at.Goals.{In_ok-start}

-- the start that was read, and the text after its line
started : (c : In_ok-start)
    → accepted (record { value = c.in_ok-start.start; rest = drop {A = ℕ} c.in_ok-start.next c.args.text.now })
    ≡ field_in (start_field largest64 c.args.count) c.args.line (drop {A = ℕ} c.args.at c.args.text.now)
started c = c.in_ok-start.ensures.told

pub returns-in_err-start-clause-told : goal.returns-in_err-start-clause-told
returns-in_err-start-clause-told c =
    let p = err_from_is_err_and c.from_residual.result c.from_residual.ensures.1 in
    rw (p.1, p.2) (start-refused largest64 c.args.count c.args.line (drop c.args.at c.args.text.now) _ _ c.in_err-start.ensures.told)

pub returns-in_err-run-clause-told : goal.returns-in_err-run-clause-told
returns-in_err-run-clause-told c =
    let p = err_from_is_err_and c.from_residual-in_err-run.result c.from_residual-in_err-run.ensures.1 in
    rw (p.1, p.2)
    (run-refused largest64 c.args.count c.args.line (drop c.args.at c.args.text.now) _ (started (goal.at.returns-in_err-run-clause-told c).In_ok-start) _ _ c.in_err-run.ensures.told)

pub returns-clause-told : goal.returns-clause-told
returns-clause-told c =
    leg-taken largest64 c.args.count c.args.line (drop c.args.at c.args.text.now) _ (started (goal.at.returns-clause-told c).In_ok-start) _ c.in_ok-run.ensures.told
