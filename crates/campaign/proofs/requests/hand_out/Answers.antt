-- `campaign::requests::hand_out`: where the line was written it is the answer; where there was no room the answer is 2 and all is as it was.
use mathlib.Core.Path.{sym, ap, ◌∙◌}
use lib.ListN.{length}
use Rattle.promise.specs.Campaign.{request}
use Rattle.line_format.specs.Calls.{over}
use Rattle.line_writer.specs.Answers.{written_told}
use Rattle.campaign_state.specs.State.{answer_text, width}
use Rattle.campaign.specs.Calls.{told_of, after, line_is}
use Rattle.campaign.proofs.Moments.{refusal-leaves}
use Rattle.campaign.proofs.Written.{was-written, not_written}
use Rattle.campaign.proofs.Tells.{line-told, any-room, retold}
use Rattle.campaign.proofs.requests.hand_out.Goals as goal

pub returns-in-Err-clause-told : goal.returns-in-Err-clause-told
returns-in-Err-clause-told c = let n = not_written c.args.s.plan.ports c.requires.0 c.args.line c.requires.1 c.args.buf.now _ _
    (ap written_told (sym c.in-Err.is) ∙ c.write_line.ensures.answer) in record {
      answer = retold _ _ _ _ n.told ∙ ap told_of n.answer;
      state = refusal-leaves (request (length c.args.buf.now)) 2 c.args.s ∙ ap (λ x. after (request (length c.args.buf.now)) x c.args.s) n.answer;
      written = ap width n.answer;
    }

pub returns-in-Err-clause-bytes : goal.returns-in-Err-clause-bytes
returns-in-Err-clause-bytes c = let n = not_written c.args.s.plan.ports c.requires.0 c.args.line c.requires.1 c.args.buf.now _ _
    (ap written_told (sym c.in-Err.is) ∙ c.write_line.ensures.answer) in c.write_line.ensures.bytes ∙ n.left ∙ ap (λ x. over (answer_text x) c.args.buf.now) n.answer

pub returns-in-Ok-clause-told : goal.returns-in-Ok-clause-told
returns-in-Ok-clause-told c = let d = was-written c.args.s.plan.ports c.requires.0 c.args.line c.requires.1 c.args.buf.now _
    (ap written_told (sym c.in-Ok.is) ∙ c.write_line.ensures.answer) in record {
      answer = line-told c.args.line ∙ ap told_of d.answer;
      state = c.after_line.ensures ∙ any-room 0 (length c.args.buf.now) (line_is c.args.line) c.args.s ∙ ap (λ x. after (request (length c.args.buf.now)) x c.args.s) d.answer;
      written = d.bytes ∙ ap width d.answer;
    }

pub returns-in-Ok-clause-bytes : goal.returns-in-Ok-clause-bytes
returns-in-Ok-clause-bytes c = let d = was-written c.args.s.plan.ports c.requires.0 c.args.line c.requires.1 c.args.buf.now _
    (ap written_told (sym c.in-Ok.is) ∙ c.write_line.ensures.answer) in c.write_line.ensures.bytes ∙ d.left
