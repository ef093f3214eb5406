-- `explaining_words::put_own` puts the jack and the port, and then what is wrong with it.
-- Assumes nothing.
use mathlib.Core.Path.{refl}
use mathlib.Core.List.{◌++◌}
use Rattle.line_putting.proofs.Putting.{Going, going-first, going-room, going_on}
use Rattle.line_refusal.specs.Words.{quoted}
use Rattle.explaining.specs.Text.{jack_text}
use Rattle.explaining_words.proofs.put_own.Goals as goal
use Rattle.explaining_words.proofs.put_own.Goals.{After-put_jack-own, Start}

-- before the jack, and after it
at-jack : (c : Start) → let all = jack_text c.args.j (quoted ": port ") c.args.j ++ quoted " has the jack's own number" in
    Going c.args.from all c.args.buf.now c.args.from all c.args.buf.now
at-jack c = going-first _ _ _ c.requires

at_own : (c : After-put_jack-own) → Going c.args.from (jack_text c.args.j (quoted ": port ") c.args.j ++ quoted " has the jack's own number") c.args.buf.now c.put_jack-own.result
    (quoted " has the jack's own number") c.put_jack-own.new.buf
unfolding quoted
at_own c = going_on _ _ (at-jack c.before.before.before.before.before) refl c.put_jack-own.ensures

pub put_jack-own-requires : goal.put_jack-own-requires
unfolding quoted
put_jack-own-requires c = going-room (jack_text c.args.j (quoted ": port ") c.args.j) _ (at-jack (goal.at.put_jack-own-requires c).Start) refl

pub put_text-requires : goal.put_text-requires
unfolding quoted
put_text-requires c = (at_own (goal.at.put_text-requires c).After-put_jack-own).room

pub returns : goal.returns
unfolding quoted
returns c = (at_own (goal.at.returns c).After-put_jack-own).comes _ _ c.put_text.ensures
