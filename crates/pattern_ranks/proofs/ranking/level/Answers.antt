-- `pattern_ranks::ranking::level` meets its contract: what the step that the pattern came by tells is the law of the place.
-- Assumes nothing.
use Rattle.pattern_ranks.proofs.Passing.{level-of}
use Rattle.pattern_ranks.proofs.ranking.level.Goals as goal

pub returns : goal.returns
returns c =
    level-of _ c.requires c.peel-c.ensures c.placed_by.ensures
