-- Nothing else meets a contract of a public call on several benches (`each-call-one`): what each contract says (`-says`), and that this has one answer (`only-`),
-- both laws of the call's crate.
-- Assumes nothing.
use Rattle.demands.proofs.Only.{one-by}
use Rattle.benches_calls.proofs.Only.{only-share, only_sum}
use Rattle.benches_calls.proofs.Contracts.{share-says, sum-says}
use Rattle.benches_face.proofs.Only as face
use Rattle.benches_face.proofs.Contracts as face-benches
use Rattle.benches_demands.specs.Only.{EachCallOne}

pub each-call-one : EachCallOne
each-call-one = record {
  share = one-by share-says (λ κs a r s e f. only-share _ _ _ r s);
  sum = one-by sum-says (λ κs (ports, (benches, (counts, _))) r s e f. only_sum ports benches counts.now r s);
  face_version = one-by face-benches.version-says (λ κs a r s e f. face.only-version _ _);
  face_share = one-by face-benches.share-says (λ κs (ports, (benches, (bench, _))) r s e f. face.only-share ports benches bench _ _);
  face_sum = one-by face-benches.sum-says (λ κs (ports, (benches, (counts, _))) r s e f. face.only_sum ports benches counts.now _ _);
}
