-- `text_numbers::reading::read_number` gives the number that the text is: what was found so far, and the bytes after it, decide,
-- and a number that is too large is none at once.
use mathlib.Core.Path.{◌≡◌}
use lib.ListN.{drop}
use Rattle.listing.specs.Limits.{largest64}
use Rattle.text_numbers.specs.Decimal.{onward, up_to, number_up_to}
use Rattle.text_numbers.specs.Answers.{read_is}
use Rattle.text_numbers.proofs.reading.read_number.Given as goal

-- what was found, and the bytes after it, decide; and what was found is not too large
abbrev pub invariant-loop-b : goal.invariant-loop-b
invariant-loop-b l = record {
  decide : number_up_to largest64 l.fn.t ≡ up_to largest64 (onward (read_is l.found) (drop l.b-index l.rest));
  fits : up_to largest64 (read_is l.found) ≡ read_is l.found;
}
