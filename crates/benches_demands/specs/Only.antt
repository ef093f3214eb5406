-- 'Prove that nothing else would satisfy it', of the calls on several benches: of each public call, that two runs on the same input that both meet the call's own
-- contract give the same answer. `Learnt` is the contract itself, all of its clauses, as the kit makes it of the source.
-- Assumes nothing.
use Rattle.std.specs.Prelude.{[]}
use Rattle.words.specs.Contract.{One}
use Rattle.face_values.specs.Only.{result}
use Rattle.demands.specs.Only.{OneAnswer}
use Rattle.benches_calls.proofs.sharing.share.Reads as share
use Rattle.benches_calls.proofs.adding.sum.Reads as sum
use Rattle.benches_face.proofs.jidrofex_benches_version.Reads as face-version
use Rattle.benches_face.proofs.jidrofex_benches_share.Reads as face-share
use Rattle.benches_face.proofs.jidrofex_benches_sum.Reads as face-sum

-- the public calls, by crate
pub record EachCallOne : Type 0 where
  -- ---- the shares and the sums
  pub share : OneAnswer share.Learnt
  pub sum : OneAnswer sum.Learnt
  -- ---- the calls for C: the number and the words of the answer
  pub face_version : One face-version.Learnt (λ κs r (answer, _). result r answer.now [])
  pub face_share : One face-share.Learnt (λ κs r (_, (_, (_, (answer, _)))). result r answer.now [])
  pub face_sum : One face-sum.Learnt (λ κs r (_, (_, (_, (answer, _)))). result r answer.now [])
