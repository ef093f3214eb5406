-- `text_numbers::reading::read_number` gives the number that the text is: what was found so far, and the bytes after it, decide,
-- and a number that is too large is none at once.
use mathlib.Core.Path.{sym, ap, ◌∙◌}
use mathlib.Core.List.{◌∷◌}
use Prim.Native.Nat.{◌+◌}
use native.Mathlib.Omega.{arith}
use lib.ListN.{drop}
use Rattle.listing.specs.Limits.{largest64}
use Rattle.text_numbers.specs.Decimal.{onward, up_to, number_up_to}
use Rattle.text_numbers.specs.Answers.{read_is}
use Rattle.text_numbers.proofs.Limits.{none-up-to, up-to-twice, digit-within, read-on, read_all, number-empty, number-first}
use Rattle.text_numbers.proofs.reading.read_number.Goals as goal

pub returns-in_err-first : goal.returns-in_err-first
returns-in_err-first c =
    rw c.from_residual.ensures (sym (ap (up_to largest64) (number-empty _ (omega (arith, c.in_err-first.ensures.cases))) ∙ none-up-to largest64))

pub loop-b-init : goal.loop-b-init
loop-b-init c = record {
  decide =
      ap (number_up_to largest64) c.in_ok-first.ensures.cases.0
      ∙ ap (up_to largest64) (number-first (_ ∷ _) (omega arith) ∙ ap (λ o. onward o c.in_ok-first.rest.now) (sym c.digit_in-found.ensures));
  fits = ap (up_to largest64) c.digit_in-found.ensures ∙ digit-within largest64 _ (omega arith) ∙ sym c.digit_in-found.ensures;
}

pub loop-b-preserved : goal.loop-b-preserved
loop-b-preserved c = record {
  decide =
      c.loop-b.invariant.decide
      ∙ read-on largest64 _ _ _ c.loop-b-test.true
      ∙ ap (λ o. up_to largest64 (onward o (drop (c.loop-b.b-index + 1) c.in_ok-first.rest.now))) (sym c.and_byte-found.ensures);
  fits = ap (up_to largest64) c.and_byte-found.ensures ∙ up-to-twice largest64 _ ∙ sym c.and_byte-found.ensures;
}

pub returns : goal.returns
returns c = sym (c.loop-b.invariant.decide ∙ read_all largest64 _ _ _ c.loop-b-test.false ∙ c.loop-b.invariant.fits)
