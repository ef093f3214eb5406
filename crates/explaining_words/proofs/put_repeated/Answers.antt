-- `explaining_words::put_repeated` puts the jack and the port, and then the earlier jack.
-- Assumes nothing.
use mathlib.Core.Path.{refl}
use mathlib.Core.List.{List, ◌++◌}
use Prim.Native.Nat.{ℕ}
use borrow.Author.Rules.{rules}
use Rattle.text_numbers.specs.Decimal.{digits_of}
use Rattle.line_putting.proofs.Putting.{Going, going-first, going-room, going_on}
use Rattle.line_refusal.specs.Words.{quoted}
use Rattle.explaining.specs.Text.{jack_text}
use Rattle.explaining_words.proofs.put_repeated.Goals as goal
use Rattle.explaining_words.proofs.put_repeated.Goals.{After-put_jack-already, After-put_text-number, Start}

-- what is left of it
abbrev Left : Start → ℕ → List ℕ → List ℕ → Type 0
Left c at rest buf =
    Going c.args.from (jack_text c.args.j (quoted ": port ") c.args.port ++ (quoted " is already at jack " ++ digits_of c.args.earlier)) c.args.buf.now at rest buf

at-jack : (c : Start) → Left c c.args.from (jack_text c.args.j (quoted ": port ") c.args.port ++ (quoted " is already at jack " ++ digits_of c.args.earlier)) c.args.buf.now
at-jack c = going-first _ _ _ c.requires

abbrev s1 : After-put_jack-already → Start
s1 c = c.before.before.before.before.before

abbrev s2 : After-put_text-number → Start
s2 c = s1 c.before.before.before.before.before.before

at-already : (c : After-put_jack-already)
    → Left (s1 c) c.put_jack-already.result (quoted " is already at jack " ++ digits_of (s1 c).args.earlier) c.put_jack-already.new.buf
unfolding quoted
at-already c = going_on _ _ (at-jack (s1 c)) refl c.put_jack-already.ensures

at-earlier : (c : After-put_text-number) → Left (s2 c) c.put_text-number.result (digits_of (s2 c).args.earlier) c.put_text-number.new.buf
unfolding quoted
at-earlier c = going_on _ _ (at-already c.before.before.before.before.before.before) refl c.put_text-number.ensures

pub put_jack-already-requires : goal.put_jack-already-requires
unfolding quoted
put_jack-already-requires c = going-room (jack_text c.args.j (quoted ": port ") c.args.port) _ (at-jack (goal.at.put_jack-already-requires c).Start) refl

pub put_text-number-requires : goal.put_text-number-requires
unfolding quoted
put_text-number-requires c = going-room (quoted " is already at jack ") _ (at-already (goal.at.put_text-number-requires c).After-put_jack-already) refl

pub put_number-requires : goal.put_number-requires
put_number-requires c = (search rules, (at-earlier (goal.at.put_number-requires c).After-put_text-number).room)

pub returns : goal.returns
returns c = (at-earlier (goal.at.returns c).After-put_text-number).comes _ _ c.put_number.ensures
