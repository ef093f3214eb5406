-- `text_entries::entry_at` finds the first comma from the place on and reads what stands before it; without a comma it reads all that is left.
-- Assumes nothing.
use mathlib.Core.Path.{◌≡◌, sym, ap, subst, ◌∙◌}
use mathlib.Core.Option.{some}
use Prim.Native.Nat.{ℕ, ◌+◌, ◌<◌}
use native.Mathlib.Omega.{arith}
use lib.ListN.{length, drop, take, length-take}
use borrow.Author.Rules.{rules}
use Rattle.listing.specs.Limits.{largest64}
use Rattle.text_keys.specs.Parts.{comma, first_of}
use Rattle.text_keys.specs.Answers.{found_is}
use Rattle.text_keys.proofs.Cuts.{first-inside, to_the_end}
use Rattle.text_numbers.specs.Decimal.{number_up_to}
use Rattle.text_entries.specs.Pieces.{EntryOf}
use Rattle.text_entries.proofs.Cutting.{comma-inside, last_entry, more-entries}
use Rattle.text_entries.proofs.entry_at.Goals as goal
use Rattle.text_entries.proofs.entry_at.Goals.{In-Some}

-- the first comma stands k after the place
at-comma : (c : In-Some)
    → some c.in-Some.k ≡ first_of comma (drop c.args.at c.args.t.now)
at-comma c =
    sym (ap found_is c.in-Some.is) ∙ c.find.ensures ∙ ap (first_of comma) (to_the_end c.args.t.now c.args.at)

-- so it stands inside the text
inside : (c : In-Some) → c.args.at + c.in-Some.k < length c.args.t.now
inside c = comma-inside _ _ _ (at-comma c)

pub slice_bounds-read_number-end : goal.slice_bounds-read_number-end
slice_bounds-read_number-end c = let h = first-inside comma _ _ (sym c.in-Some.ensures) in omega (arith, length-take {A = ℕ})

pub overflow_add-at : goal.overflow_add-at
overflow_add-at c = let h = inside (goal.at.overflow_add-at c).In-Some in search rules

pub overflow_add-at-in-Some : goal.overflow_add-at-in-Some
overflow_add-at-in-Some c = let h = inside (goal.at.overflow_add-at-in-Some c).In-Some in search rules

pub returns-in-None : goal.returns-in-None
returns-in-None c =
    let e = to_the_end c.args.t.now c.args.at in
    subst (EntryOf _ _ _) (sym c.last.ensures)
    (last_entry largest64 c.args.t.now c.args.at c.read_number-in-None.result
    (sym (ap found_is c.in-None.is) ∙ c.find.ensures ∙ ap (first_of comma) e)
    (c.read_number-in-None.ensures ∙ ap (number_up_to largest64) e))

pub returns-in-Some : goal.returns-in-Some
returns-in-Some c =
    subst (EntryOf _ _ _) (sym c.more.ensures)
    (more-entries largest64 c.args.t.now c.args.at c.in-Some.k c.read_number.result (at-comma (goal.at.returns-in-Some c).In-Some)
    (c.read_number.ensures ∙ ap (λ r. number_up_to largest64 (take c.in-Some.k r)) (to_the_end c.args.t.now c.args.at)))
