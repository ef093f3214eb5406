-- `explaining_line::explain_line` reads the entries and says their refusal, or what is said of them as a pattern.
-- Assumes nothing.
use mathlib.Core.Path.{sym, ap, ◌∙◌}
use Rattle.listing.specs.Limits.{most_ports}
use Rattle.words.specs.Told.{accepted, then}
use Rattle.text_entries.proofs.Read.{given, given-front}
use Rattle.pattern_check.specs.Calls.{check_of}
use Rattle.explaining.proofs.Steps.{line_refused, line-accepted}
use Rattle.explaining_line.proofs.Explains.{explained-as}
use Rattle.explaining_line.proofs.explain_line.Goals as goal

pub returns-in-Err : goal.returns-in-Err
returns-in-Err c =
    explained-as (ap (λ x. then x (check_of most_ports)) c.in-Err.ensures) (line_refused _ _ _ _ c.bad_entry.ensures c.in-Err.ensures) c.refuse.ensures

pub returns-in-Ok : goal.returns-in-Ok
returns-in-Ok c =
    let e = ap accepted (given-front _ _ c.in-Ok.ensures) ∙ sym (given _ _ c.in-Ok.ensures).1 in
    explained-as (ap (λ told. then told (check_of most_ports)) e) (line-accepted _ _ e) c.explain_pattern.ensures
