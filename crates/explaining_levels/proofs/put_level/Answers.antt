-- `explaining_levels::put_level` puts each part of the line behind the one before.
-- Assumes nothing.
use mathlib.Core.Path.{refl, ap}
use mathlib.Core.List.{List, ◌++◌}
use Prim.Native.Nat.{ℕ}
use borrow.Author.Rules.{rules}
use Rattle.listing_levels.specs.Levels.{Level}
use Rattle.text_numbers.specs.Decimal.{digits_of}
use Rattle.line_putting.specs.Putting.{Puts}
use Rattle.line_putting.proofs.Putting.{Going, going-first, going-room, going_on, puts-as}
use Rattle.line_refusal.specs.Words.{quoted}
use Rattle.explaining.specs.Text.{by_text, read_text, ended, level_text}
use Rattle.explaining_levels.specs.Levels.{level_is}
use Rattle.explaining_levels.proofs.put_level.Goals as goal
use Rattle.explaining_levels.proofs.put_level.Goals.{After-put_by-read, After-put_number-by, After-put_number-end, After-put_number-last, After-put_read-over, Start}

-- the parts of the line that are numbers
abbrev ports : Level → List ℕ
ports l = quoted "level=" ++ digits_of l.ports

abbrev last : Level → List ℕ
last l = quoted " last=" ++ digits_of l.last

abbrev over : Level → List ℕ
over l = quoted " over=" ++ digits_of l.over

-- the level, and what is left of its line
abbrev level : Start → Level
level c = level_is c.args.n c.args.c c.args.l

abbrev Left : Start → ℕ → List ℕ → List ℕ → Type 0
Left c at rest buf = Going c.args.from (level_text (level c)) c.args.buf.now at rest buf

at-ports : (c : Start) → let l = level c in
    Left c c.args.from (ports l ++ (last l ++ (by_text l.by ++ (read_text l.forward ++ (over l ++ ended))))) c.args.buf.now
unfolding level_text
at-ports c = going-first _ _ _ c.requires

-- where the calls began
abbrev s1 : After-put_number-last → Start
s1 c = c.before.before.before.before.before

abbrev s2 : After-put_number-by → Start
s2 c = s1 c.before.before.before.before.before.before.before

abbrev s3 : After-put_by-read → Start
s3 c = s2 c.before.before.before.before

abbrev s4 : After-put_read-over → Start
s4 c = s3 c.before.before.before.before

abbrev s5 : After-put_number-end → Start
s5 c = s4 c.before.before.before.before.before.before

at_last : (c : After-put_number-last) → let l = level (s1 c) in
    Left (s1 c) c.put_number-last.result (last l ++ (by_text l.by ++ (read_text l.forward ++ (over l ++ ended)))) c.put_number-last.new.buf
unfolding quoted
at_last c = going_on _ _ (at-ports (s1 c)) refl c.put_number-last.ensures

-- the number that was put
said : (c : After-put_number-by) → Puts c.put_number-last.result (last (level (s2 c)))
    c.put_number-last.new.buf c.put_number-by.result c.put_number-by.new.buf
unfolding quoted
said c = puts-as (ap (λ i. quoted " last=" ++ digits_of i) c.block_of.ensures) c.put_number-by.ensures

at-by : (c : After-put_number-by) → let l = level (s2 c) in
    Left (s2 c) c.put_number-by.result (by_text l.by ++ (read_text l.forward ++ (over l ++ ended))) c.put_number-by.new.buf
at-by c = going_on _ _ (at_last c.before.before.before.before.before.before.before) refl (said c)

at_read : (c : After-put_by-read) → let l = level (s3 c) in
    Left (s3 c) c.put_by-read.result (read_text l.forward ++ (over l ++ ended)) c.put_by-read.new.buf
at_read c = going_on _ _ (at-by c.before.before.before.before) refl c.put_by-read.ensures

at-over : (c : After-put_read-over) → Left (s4 c) c.put_read-over.result (over (level (s4 c)) ++ ended) c.put_read-over.new.buf
at-over c = going_on _ _ (at_read c.before.before.before.before) refl c.put_read-over.ensures

at-end : (c : After-put_number-end) → Left (s5 c) c.put_number-end.result ended c.put_number-end.new.buf
unfolding quoted
at-end c = going_on _ _ (at-over c.before.before.before.before.before.before) refl c.put_number-end.ensures

pub put_number-last-requires : goal.put_number-last-requires
unfolding quoted
put_number-last-requires c = (search rules, going-room (ports (level (goal.at.put_number-last-requires c).Start)) _ (at-ports (goal.at.put_number-last-requires c).Start) refl)

pub put_number-by-requires : goal.put_number-by-requires
unfolding quoted
put_number-by-requires c =
    (search rules, rw c.block_of.ensures (going-room (last (level (s1 (goal.at.put_number-by-requires c).After-put_number-last))) _ (at_last (goal.at.put_number-by-requires c).After-put_number-last) refl))

pub put_by-read-requires : goal.put_by-read-requires
put_by-read-requires c = going-room (by_text (level (s2 (goal.at.put_by-read-requires c).After-put_number-by)).by) _ (at-by (goal.at.put_by-read-requires c).After-put_number-by) refl

pub put_read-over-requires : goal.put_read-over-requires
put_read-over-requires c = going-room (read_text (level (s3 (goal.at.put_read-over-requires c).After-put_by-read)).forward) _ (at_read (goal.at.put_read-over-requires c).After-put_by-read) refl

pub put_number-end-requires : goal.put_number-end-requires
unfolding quoted
put_number-end-requires c =
    (search rules, going-room (over (level (s4 (goal.at.put_number-end-requires c).After-put_read-over))) ended (at-over (goal.at.put_number-end-requires c).After-put_read-over) refl)

pub put_text-requires : goal.put_text-requires
put_text-requires c = (at-end (goal.at.put_text-requires c).After-put_number-end).room

pub returns : goal.returns
returns c = (at-end (goal.at.returns c).After-put_number-end).comes _ _ c.put_text.ensures
