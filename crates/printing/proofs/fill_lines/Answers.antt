-- `printing::fill_lines`: line by line the text so far stands at the front of the buffer, and each line leaves less room.
use mathlib.Core.Path.{refl, sym, ap}
use Rattle.printing.specs.Answers.{sequel_told}
use Rattle.printing.proofs.Filling.{line-less, line_on, line-last}
use Rattle.printing.specs.declared.Filled.TheVariants.{Ended}
use Rattle.printing.proofs.fill_lines.Goals as goal

pub loop-campaign-smaller : goal.loop-campaign-smaller
loop-campaign-smaller c =
    line-less _ _ _ _ _ c.loop-campaign.invariant _ _ (c.request_line-given.ensures.told, c.request_line-given.ensures.bytes) (ap sequel_told (sym c.in-More.is))

pub loop-campaign-preserved : goal.loop-campaign-preserved
loop-campaign-preserved c =
    line_on _ _ _ _ _ c.loop-campaign.invariant _ _ (c.request_line-given.ensures.told, c.request_line-given.ensures.bytes) (ap sequel_told (sym c.in-More.is))

pub returns-in-Ended-clause-told : goal.returns-in-Ended-clause-told
returns-in-Ended-clause-told c = (line-last _ _ _ _ _ c.loop-campaign.invariant _ _ (c.request_line-given.ensures.told, c.request_line-given.ensures.bytes) _ _ refl (ap sequel_told (sym c.in-Ended.is)) refl refl).0

pub returns-in-Ended-clause-bytes : goal.returns-in-Ended-clause-bytes
returns-in-Ended-clause-bytes c = (line-last _ _ _ _ _ c.loop-campaign.invariant _ _ (c.request_line-given.ensures.told, c.request_line-given.ensures.bytes)
    (record { campaign = c.request_line-given.result.campaign; filled = Ended c.request_line-given.result.at }) _ refl (ap sequel_told (sym c.in-Ended.is)) refl refl).1

pub returns-in-Refused-clause-told : goal.returns-in-Refused-clause-told
returns-in-Refused-clause-told c = (line-last _ _ _ _ _ c.loop-campaign.invariant _ _ (c.request_line-given.ensures.told, c.request_line-given.ensures.bytes) _ _ refl (ap sequel_told (sym c.in-Refused.is)) c.stopped.ensures refl).0

pub returns-in-Refused-clause-bytes : goal.returns-in-Refused-clause-bytes
returns-in-Refused-clause-bytes c = (line-last _ _ _ _ _ c.loop-campaign.invariant _ _ (c.request_line-given.ensures.told, c.request_line-given.ensures.bytes)
    (record { campaign = c.request_line-given.result.campaign; filled = c.stopped.result }) _ refl (ap sequel_told (sym c.in-Refused.is)) c.stopped.ensures refl).1
