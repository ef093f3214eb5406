-- `line_refusal::refusal_text` spells the two keys, each with its number and a newline, one after the other. A refusal's number has at most 3 digits, a place of 64
-- bits at most 20.
-- Assumes nothing.
use mathlib.Core.Path.{◌≡◌, ap, sym, subst, ◌∙◌}
use mathlib.Core.List.{[], ◌∷◌, ◌++◌, append_assoc}
use Prim.Native.Nat.{◌≤◌}
use native.Mathlib.Omega.{arith}
use lib.ListN.{length-append}
use borrow.Author.Rules.{rules}
use Rattle.text_numbers.specs.Decimal.{digits_of}
use Rattle.text_numbers.proofs.Lengths.{digits-64}
use Rattle.text_keys.specs.Parts.{newline}
use Rattle.words.specs.Meaning.{number_of}
use Rattle.line_writer.specs.Answers.{Spells}
use Rattle.line_writer.proofs.Spelling.{digits_8, spells-length, spells-more}
use Rattle.line_refusal.specs.Text.{refused_key, at_key, refusal_text}
use Rattle.line_refusal.proofs.refusal_text.Goals as goal
use Rattle.line_refusal.proofs.refusal_text.Goals.{After-and_both-at, After-begun-refused}

-- what is spelled of the number has at most 11 bytes
number_short : (c : After-begun-refused) → c.begun-refused.result.len ≤ 11
number_short c = omega (arith, spells-length _ refused_key c.reason_number.result c.begun-refused.ensures, digits_8 c.reason_number.result (search rules))

-- and with the place at most 35
place_short : (c : After-and_both-at) → c.and_both-at.result.len ≤ 35
place_short c =
    omega (arith, c.and_both-at.ensures.len, length-append (newline ∷ at_key) (digits_of c.args.place), digits-64 c.args.place (search rules), number_short c.before.before.before)

pub and_both-at-requires : goal.and_both-at-requires
and_both-at-requires c =
    omega (arith, number_short (goal.at.and_both-at-requires c).After-begun-refused, digits-64 c.args.place (search rules))

pub and_part-requires : goal.and_part-requires
and_part-requires c = omega (arith, place_short (goal.at.and_part-requires c).After-and_both-at)

pub returns-clause-spells : goal.returns-clause-spells
unfolding refusal_text
returns-clause-spells c = let number = refused_key ++ digits_of c.reason_number.result in
    let place = spells-more _ c.and_both-at.result number ((newline ∷ at_key) ++ digits_of c.args.place) c.begun-refused.ensures c.and_both-at.ensures in
    let all = spells-more _ c.and_part.result _ (newline ∷ []) place c.and_part.ensures in
    let same : (number ++ ((newline ∷ at_key) ++ digits_of c.args.place)) ++ (newline ∷ []) ≡ refusal_text (number_of c.args.reason) c.args.place =
    ap (λ t. t ++ (newline ∷ [])) (sym (append_assoc number (newline ∷ at_key) (digits_of c.args.place))) ∙ ap (λ x. refusal_text x c.args.place) c.reason_number.ensures in
    subst (Spells c.and_part.result) same all
