-- `text_keys::has_key` says whether a text begins with a key, as the library's `starts_with` compares them.
use mathlib.Core.Path.{◌∙◌}
use Rattle.text_keys.proofs.Keys.{begins_is}
use Rattle.text_keys.proofs.has_key.Goals as goal

pub returns : goal.returns
returns c = c.starts_with.ensures.value ∙ begins_is c.args.key.now c.args.t.now
