-- `plan_facts::pair_line` spells the key and the first number, then a comma and the second, then the newline. A number of 64 bits has at most 20 digits.
-- Assumes nothing.
use Prim.Native.Nat.{◌≤◌}
use native.Mathlib.Omega.{arith}
use mathlib.Core.List.{[], ◌∷◌}
use lib.ListN.{length-append}
use borrow.Author.Rules.{rules}
use Rattle.text_numbers.specs.Decimal.{digits_of}
use Rattle.text_numbers.proofs.Lengths.{digits-64}
use Rattle.text_keys.specs.Parts.{comma}
use Rattle.line_writer.proofs.Spelling.{spells-length}
use Rattle.plan_facts.proofs.pair_line.Goals as goal
use Rattle.plan_facts.proofs.pair_line.Goals.{After-begun}

-- what is spelled of the first number has at most 25 bytes
first_short : (c : After-begun) → c.begun.result.len ≤ 25
first_short c =
    omega (arith, spells-length _ c.args.key.now c.args.a c.begun.ensures, digits-64 c.args.a (search rules), c.requires)

pub and_both-requires : goal.and_both-requires
and_both-requires c =
    omega (arith, first_short (goal.at.and_both-requires c).After-begun, digits-64 c.args.b (search rules))

pub and_part-requires : goal.and_part-requires
and_part-requires c =
    omega (arith, c.and_both.ensures.len, length-append (comma ∷ []) (digits_of c.args.b), first_short (goal.at.and_part-requires c).After-begun, digits-64 c.args.b (search rules))
