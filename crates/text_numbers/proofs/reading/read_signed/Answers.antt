-- `text_numbers::reading::read_signed` gives the signed number that the text is: after `-` the rest is the magnitude, and not 0; else the whole is.
use mathlib.Core.Path.{sym, ap, ◌∙◌}
use Rattle.listing.specs.Limits.{largest64}
use Rattle.text_numbers.specs.Decimal.{number_up_to}
use Rattle.text_numbers.specs.Signed.{plain, negative}
use Rattle.text_numbers.proofs.Signed.{signed-minus, signed-plain}
use Rattle.text_numbers.proofs.reading.read_signed.Goals as goal

pub returns-in-Some : goal.returns-in-Some
returns-in-Some c =
    c.behind.ensures
    ∙ ap negative (c.read_number.ensures ∙ ap (number_up_to largest64) c.in-Some.ensures.cases.1)
    ∙ sym (signed-minus largest64 _ c.in-Some.ensures.cases.0)

pub returns-in-None : goal.returns-in-None
returns-in-None c = c.ahead.ensures ∙ ap plain c.read_number-in-None.ensures ∙ sym (signed-plain largest64 _ c.in-None.ensures.cases)
