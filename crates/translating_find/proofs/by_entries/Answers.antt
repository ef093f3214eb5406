-- `translating_find::by_entries`: as many entries as there are ports are put over the bytes that were there.
-- Assumes nothing.
use mathlib.Core.Path.{ap, ◌∙◌}
use Rattle.words.specs.Meaning.{refusal_of}
use Rattle.line_putting.proofs.Putting.{puts-front}
use Rattle.translating_find.proofs.Found.{no-entries, wrong-count, right-count}
use Rattle.translating_find.proofs.by_entries.Goals as goal

pub returns-then-len-p : goal.returns-then-len-p
returns-then-len-p c =
    let found = right-count _ c.args.p.now c.requires _ c.in-Ok.ensures c.if-len-p.true _ (puts-front _ c.args.p.now _ _ c.put_text.ensures).1 in
    record { told = found.0; bytes = found.1 }

pub returns-else-len-p : goal.returns-else-len-p
returns-else-len-p c =
    let found = wrong-count _ c.args.p.now c.requires _ c.in-Ok.ensures c.if-len-p.false in
    record { told = ap refusal_of c.nowhere-in-Ok.ensures ∙ found.0; bytes = found.1 }

pub returns-in-Err : goal.returns-in-Err
returns-in-Err c =
    let found = no-entries _ c.args.p.now c.requires c.in-Err.ensures in
    record { told = ap refusal_of c.nowhere.ensures ∙ found.0; bytes = found.1 }
