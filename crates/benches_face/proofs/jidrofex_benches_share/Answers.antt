-- `benches_face::jidrofex_benches_share` tells what `share` does.
use mathlib.Core.Path.{sym, ◌∙◌}
use Rattle.benches_laws.proofs.Told.{run_small}
use Rattle.benches_face.proofs.jidrofex_benches_share.Goals as goal

pub give_share-requires : goal.give_share-requires
give_share-requires c l e = run_small _ _ _ l (sym c.share.ensures ∙ e)
