-- `line_reader::order_lines::read_line` judges what stands before the first newline from the place on. No sum wraps: the newline is inside the text.
use mathlib.Core.Path.{◌≡◌, sym, ap, ◌∙◌}
use mathlib.Core.Option.{some}
use native.Mathlib.Omega.{arith}
use Prim.Native.Nat.{◌+◌, ◌<◌}
use lib.ListN.{length, drop}
use borrow.Author.Rules.{rules}
use Rattle.std.proofs.lemmas.Result.{err_from_is_err_and}
use Rattle.listing.specs.Limits.{most_ports, largest64}
use Rattle.words.specs.declared.Reason.TheVariants.{Ended}
use Rattle.text_keys.specs.Parts.{newline, first_of}
use Rattle.text_keys.specs.Answers.{found_is}
use Rattle.line_reader.proofs.Reader.{newline-inside, no-newline, before-newline}
use Rattle.line_reader.proofs.order_lines.read_line.Goals as goal
use Rattle.line_reader.proofs.order_lines.read_line.Goals.{In_ok-k}

-- the first newline from the place on stands k further
at-newline : (c : In_ok-k) → some c.in_ok-k.k ≡ first_of newline (drop c.args.place c.args.text.now)
at-newline c = sym (ap found_is c.in_ok-k.ensures.ok_part) ∙ c.newline_from.ensures

-- so it stands inside the text
inside : (c : In_ok-k) → c.args.place + c.in_ok-k.k < length c.args.text.now
inside c = newline-inside c.args.text.now c.args.place c.in_ok-k.k (at-newline c)

pub overflow_add-place : goal.overflow_add-place
overflow_add-place c = let h = inside c in search rules

pub slice_bounds-line_in-end : goal.slice_bounds-line_in-end
slice_bounds-line_in-end c = let h = inside c in search rules

pub overflow_add-result-2 : goal.overflow_add-result-2
overflow_add-result-2 c = let h = inside (goal.at.overflow_add-result-2 c).In_ok-k in search rules

pub returns-in_err-k : goal.returns-in_err-k
returns-in_err-k c =
    let p = err_from_is_err_and c.from_residual.result c.from_residual.ensures.1 in
    let why : c.in_err-k.field-0.0 ≡ Ended = grind (arith, c.in_err-k.ensures.value, c.in_err-k.ensures.ok_part) in
    rw (p.1, p.2, why) (no-newline largest64 most_ports _ _ (sym (ap found_is c.in_err-k.ensures.ok_part) ∙ c.newline_from.ensures))

pub returns-in_err-line : goal.returns-in_err-line
returns-in_err-line c =
    let p = err_from_is_err_and c.from_residual-in_err-line.result c.from_residual-in_err-line.ensures.1 in
    rw (p.1, p.2) (before-newline largest64 most_ports _ _ _ _ (at-newline (goal.at.returns-in_err-line c).In_ok-k) c.in_err-line.ensures)

pub returns : goal.returns
returns c = before-newline largest64 most_ports _ _ _ _ (at-newline (goal.at.returns c).In_ok-k) c.in_ok-line.ensures
