-- `pattern_carry::swap_entries` meets its contract: the two places below the jacks are exchanged.
-- Assumes nothing.
use mathlib.Core.Path.{sym, ◌∙◌}
use native.Mathlib.Omega.{arith}
use Rattle.std.proofs.lemmas.List.Edits.{swap_is}
use Rattle.pattern_carry.proofs.Stores.{jacks-swapped}
use Rattle.pattern_carry.proofs.swap_entries.Goals as goal

pub returns : goal.returns
returns c =
    c.swap.ensures.after ∙ sym (swap_is _ _ _ 0 (omega arith) (omega arith)) ∙ jacks-swapped _ _ _ c.requires.0 c.requires.1 c.requires.2
