-- `translating_stream::line_at`: the first newline from the place on ends the line, which is translated into the part of the buffer from its place on.
-- Assumes nothing.
use mathlib.Core.Path.{◌≡◌, sym, ap, ◌∙◌}
use mathlib.Core.Option.{some}
use Prim.Native.Nat.{◌+◌, ◌<◌}
use native.Mathlib.Omega.{arith}
use lib.ListN.{length, drop}
use borrow.Author.Rules.{rules}
use Rattle.std.proofs.Common.{Some}
use Rattle.text_keys.specs.Parts.{newline, first_of}
use Rattle.text_keys.specs.Answers.{found_is}
use Rattle.translating_stream.proofs.Steps.{from_place, inside}
use Rattle.translating_stream.proofs.line_at.Goals as goal
use Rattle.translating_stream.proofs.line_at.Goals.{In_ok-k}

-- where the newline was found
newline-at : (c : In_ok-k) → first_of newline (drop c.args.used c.args.text.now) ≡ some c.in_ok-k.k
newline-at c =
    let e : c.find.result ≡ Some c.in_ok-k.k = grind (arith, c.ok_or.ensures.value, c.in_ok-k.was) in
    from_place c.args.text.now c.args.used _ (sym (ap found_is e) ∙ c.find.ensures)

-- it stands inside the text
within : (c : In_ok-k) → c.args.used + c.in_ok-k.k < length c.args.text.now
within c =
    inside c.args.text.now c.args.used _ c.requires.1 (newline-at c)

pub overflow_add-to : goal.overflow_add-to
overflow_add-to c = let h = within (goal.at.overflow_add-to c).In_ok-k in search rules

pub slice_bounds-translate_line-end : goal.slice_bounds-translate_line-end
slice_bounds-translate_line-end c = let h = within (goal.at.slice_bounds-translate_line-end c).In_ok-k in search rules
