-- `campaign::reports::stands_for`: any mark for a report that names none; else the one with its number.
use Rattle.campaign_state.proofs.Fit.{fit-inside}
use Rattle.campaign.proofs.reports.stands_for.Goals as goal

pub mark_number-requires : goal.mark_number-requires
mark_number-requires c = fit-inside _ c.requires.0
