-- `explaining_words::put_jack` puts the words with the jack, and then the number.
-- Assumes nothing.
use mathlib.Core.Path.{refl}
use mathlib.Core.List.{◌++◌}
use borrow.Author.Rules.{rules}
use Rattle.text_numbers.specs.Decimal.{digits_of}
use Rattle.line_putting.proofs.Putting.{Going, going-first, going-room, going_on}
use Rattle.line_refusal.specs.Words.{quoted}
use Rattle.explaining.specs.Text.{said, jack_text}
use Rattle.explaining_words.proofs.put_jack.Goals as goal
use Rattle.explaining_words.proofs.put_jack.Goals.{After-put_said-number, Start}

-- before the words, and after them
at_words : (c : Start) → let all = said (quoted "jack ") c.args.j c.args.rest.now ++ digits_of c.args.n in
    Going c.args.from (jack_text c.args.j c.args.rest.now c.args.n) c.args.buf.now c.args.from all c.args.buf.now
at_words c = going-first _ _ _ c.requires

at-number : (c : After-put_said-number) → Going c.args.from (jack_text c.args.j c.args.rest.now c.args.n) c.args.buf.now c.put_said-number.result (digits_of c.args.n) c.put_said-number.new.buf
unfolding quoted
at-number c = going_on _ _ (at_words c.before.before.before.before.before.before.before) refl c.put_said-number.ensures

pub put_said-number-requires : goal.put_said-number-requires
unfolding quoted
put_said-number-requires c =
    going-room (said (quoted "jack ") c.args.j c.args.rest.now) _ (at_words (goal.at.put_said-number-requires c).Start) refl

pub put_number-requires : goal.put_number-requires
put_number-requires c = (search rules, (at-number (goal.at.put_number-requires c).After-put_said-number).room)

pub returns : goal.returns
returns c = (at-number (goal.at.returns c).After-put_said-number).comes _ _ c.put_number.ensures
