-- `text_keys::find` gives the place of the first b, as the library's `position` finds it.
use mathlib.Core.Path.{◌≡◌, ap, ◌∙◌}
use lib.Dec.{eqb}
use Rattle.std.proofs.Common.{rules, tests}
use Rattle.std.proofs.lemmas.Iterator.{YieldsList-from_slice}
use Rattle.std.proofs.lemmas.Iterator.Search.{position_from_yields_List}
use Rattle.std.specs.List.{position}
use Rattle.text_keys.specs.Answers.{found_is}
use Rattle.text_keys.proofs.Cuts.{first_of_is}
use Rattle.text_keys.proofs.find.Goals as goal

pub returns : goal.returns
returns c =
    let found : c.position.result ≡ position (λ x. eqb x c.args.b) c.args.t.now = position_from_yields_List (λ x. eqb x c.args.b) _ _ c.position.result c.position.ensures.ran (YieldsList-from_slice _ c.iter.ensures.rest) (λ x b q k. search (rules, tests)) in
    ap found_is found ∙ first_of_is c.args.b c.args.t.now
