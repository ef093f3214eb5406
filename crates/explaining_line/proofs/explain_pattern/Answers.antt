-- `explaining_line::explain_pattern` says the check's refusal, or why the pattern that the check accepted has its rank, by the arrays that it left.
-- Assumes nothing.
use mathlib.Core.Path.{◌≡◌, sym, ap, ◌∙◌}
use Rattle.listing.specs.Limits.{most_ports}
use Rattle.words.specs.Told.{accepted}
use Rattle.words.specs.Meaning.{answer_told}
use Rattle.pattern_check.specs.Calls.{check_of}
use Rattle.pattern_check.proofs.Accepted.{accepted-pattern}
use Rattle.line_putting.proofs.Putting.{puts-as}
use Rattle.explaining.specs.Text.{why_text}
use Rattle.explaining.proofs.Steps.{pattern-refused, pattern-accepted}
use Rattle.explaining_line.proofs.Explains.{explained-as}
use Rattle.explaining_line.proofs.explain_pattern.Goals as goal
use Rattle.explaining_line.proofs.explain_pattern.Goals.{In-Ok}

-- the check that the match found sound was accepted
sound : (c : In-Ok) → accepted tt ≡ check_of most_ports c.args.p.now
sound c = ap (answer_told (λ t. tt {0})) (sym c.in-Ok.is) ∙ c.check_inverse.ensures.answer

pub put_why-requires : goal.put_why-requires
put_why-requires c = (rw c.in-Ok.ensures.taken.0 (accepted-pattern most_ports _ (sound (goal.at.put_why-requires c).In-Ok)).low, c.requires)

pub returns-in-Err : goal.returns-in-Err
returns-in-Err c =
    let told = ap (answer_told (λ t. tt {0})) (sym c.in-Err.is) ∙ c.check_inverse.ensures.answer in
    explained-as told
    (pattern-refused _ _ _ _ _ told c.place_number.ensures c.named_in-x.ensures) c.refuse.ensures

pub returns-in-Ok : goal.returns-in-Ok
returns-in-Ok c =
    record {
      judged = sound (goal.at.returns-in-Ok c).In-Ok;
      puts = puts-as (ap why_text c.in-Ok.ensures.taken.1 ∙ pattern-accepted _ (sound (goal.at.returns-in-Ok c).In-Ok)) c.put_why.ensures.puts;
      fits = c.put_why.ensures.fits;
    }
