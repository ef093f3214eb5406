-- `explaining_words::put_wrong` puts the words that its reason says.
-- Assumes nothing.
use mathlib.Core.Path.{◌≡◌, ap}
use mathlib.Core.List.{List, ◌++◌}
use Prim.Native.Nat.{ℕ}
use Rattle.text_numbers.specs.Decimal.{digits_of}
use Rattle.words.specs.Meaning.{number_of}
use Rattle.words.specs.declared.Reason.TheVariants.{Ports, Outside, Repeated, Number, Ended}
use Rattle.line_putting.proofs.Putting.{puts-as, room_as}
use Rattle.line_refusal.specs.Words.{quoted}
use Rattle.explaining.specs.Text.{said, jack_text, wrong_text}
use Rattle.explaining_words.proofs.Wrong.{wrong-11, wrong-8, wrong-1, wrong-3, wrong-4, wrong-5, not-number}
use Rattle.explaining_words.proofs.put_wrong.Goals as goal
use Rattle.explaining_words.proofs.put_wrong.Goals.{In-Ports, In-Ended, In-Outside, In-Repeated, In-Number, In_default, Start}

-- the words of the refusal
abbrev words : Start → List ℕ
words c = wrong_text (number_of c.args.reason) c.args.place c.args.earlier c.args.x

-- which they are
ended_so : (c : In-Ended) → quoted "the newline is missing or not last" ≡ words c.before.before.before
ended_so c = wrong-11 _ _ _ _ (ap number_of c.in-Ended.is)

number-so : (c : In-Number) → said (quoted "jack ") c.args.x (quoted ": not a plain decimal number of at most 64 bits") ≡ words c.before.before.before
number-so c = wrong-8 _ _ _ _ (ap number_of c.in-Number.is)

size-so : (c : In-Ports) → quoted "a pattern has 2 to 20 entries" ≡ words c.before.before.before
size-so c = wrong-1 _ _ _ _ (ap number_of c.in-Ports.is)

outside-so : (c : In-Outside) → jack_text c.args.place (quoted ": its entry is none of the ports 1 to ") c.args.x ≡ words c.before.before.before
outside-so c = wrong-3 _ _ _ _ (ap number_of c.in-Outside.is)

repeated-so : (c : In-Repeated) → jack_text c.args.place (quoted ": port ") c.args.x ++ (quoted " is already at jack " ++ digits_of c.args.earlier) ≡ words c.before.before.before
repeated-so c = wrong-4 _ _ _ _ (ap number_of c.in-Repeated.is)

own-so : (c : In_default) → jack_text c.args.place (quoted ": port ") c.args.place ++ quoted " has the jack's own number" ≡ words c.before.before.before
own-so c =
    let D = c.in_default in
    wrong-5 _ _ _ _ (
      not-number _ Ended D.not-Ended,
      not-number _ Number D.not-Number,
      not-number _ Ports D.not-Ports,
      not-number _ Outside D.not-Outside,
      not-number _ Repeated D.not-Repeated,
    )

pub put_text-requires : goal.put_text-requires
unfolding quoted
put_text-requires c = room_as c.args.from c.args.buf.now (ended_so (goal.at.put_text-requires c).In-Ended) c.requires

pub put_said-requires : goal.put_said-requires
unfolding quoted
put_said-requires c = room_as c.args.from c.args.buf.now (number-so (goal.at.put_said-requires c).In-Number) c.requires

pub put_text-requires-in-Ports : goal.put_text-requires-in-Ports
unfolding quoted
put_text-requires-in-Ports c = room_as c.args.from c.args.buf.now (size-so (goal.at.put_text-requires-in-Ports c).In-Ports) c.requires

pub put_jack-requires : goal.put_jack-requires
unfolding quoted
put_jack-requires c = room_as c.args.from c.args.buf.now (outside-so (goal.at.put_jack-requires c).In-Outside) c.requires

pub put_repeated-requires : goal.put_repeated-requires
put_repeated-requires c = room_as c.args.from c.args.buf.now (repeated-so (goal.at.put_repeated-requires c).In-Repeated) c.requires

pub put_own-requires : goal.put_own-requires
put_own-requires c = room_as c.args.from c.args.buf.now (own-so (goal.at.put_own-requires c).In_default) c.requires

pub returns-in-Ended : goal.returns-in-Ended
unfolding quoted
returns-in-Ended c = puts-as (ended_so (goal.at.returns-in-Ended c).In-Ended) c.put_text.ensures

pub returns-in-Number : goal.returns-in-Number
unfolding quoted
returns-in-Number c = puts-as (number-so (goal.at.returns-in-Number c).In-Number) c.put_said.ensures

pub returns-in-Ports : goal.returns-in-Ports
unfolding quoted
returns-in-Ports c = puts-as (size-so (goal.at.returns-in-Ports c).In-Ports) c.put_text-in-Ports.ensures

pub returns-in-Outside : goal.returns-in-Outside
unfolding quoted
returns-in-Outside c = puts-as (outside-so (goal.at.returns-in-Outside c).In-Outside) c.put_jack.ensures

pub returns-in-Repeated : goal.returns-in-Repeated
returns-in-Repeated c = puts-as (repeated-so (goal.at.returns-in-Repeated c).In-Repeated) c.put_repeated.ensures

pub returns-in_default : goal.returns-in_default
returns-in_default c = puts-as (own-so (goal.at.returns-in_default c).In_default) c.put_own.ensures
