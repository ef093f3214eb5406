-- `explaining_line::explain` asks where the line ends: it has to be the whole text, and what is said is said of it.
-- Assumes nothing.
use mathlib.Core.Path.{sym, ap, ◌∙◌}
use lib.ListN.{take}
use Rattle.words.specs.Told.{nowhere}
use Rattle.words.specs.Meaning.{number_of, spot_of, refusal_of}
use Rattle.words.specs.declared.Refusal.{Refusal}
use Rattle.text_entries.specs.Pieces.{line_is}
use Rattle.explaining.proofs.Steps.{refusal_at, text-refused, text-accepted}
use Rattle.explaining_line.proofs.Explains.{explained-as}
use Rattle.explaining_line.proofs.explain.Goals as goal

pub returns-in-None : goal.returns-in-None
returns-in-None c =
    let w = text-refused _ 11 nowhere (sym (ap (line_is _) c.in-None.is) ∙ c.one_line.ensures.line) in
    explained-as (ap refusal_of c.nowhere.ensures ∙ w.0)
    (ap (λ (f : Refusal). refusal_at (number_of f.reason) (spot_of f.place) 0) c.nowhere.ensures ∙ w.1) c.refuse.ensures

pub returns-in-Some : goal.returns-in-Some
returns-in-Some c =
    let w = text-accepted c.args.t.now (take c.in-Some.k c.args.t.now) (sym (ap (line_is _) c.in-Some.is) ∙ c.one_line.ensures.line) in
    explained-as w.0 w.1 c.explain_line.ensures
