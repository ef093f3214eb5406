-- `show::put_question`: the plan of an accepted question has its mark.
-- Assumes nothing.
use Rattle.asking.proofs.Asked.{answer-mark}
use Rattle.show.proofs.put_question.Goals as goal

pub put_facts-requires : goal.put_facts-requires
put_facts-requires c = answer-mark _ c.in-Ok.question c.in-Ok.ensures
