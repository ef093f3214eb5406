-- What the contract of each call for C says, its number and the words of its answer, in the definitions that the laws speak of. A clause that is lost or weakened
-- is missed here.
-- Assumes nothing.
use mathlib.Core.List.{[]}
use Rattle.words.specs.Contract.{Says}
use Rattle.face_values.specs.Answers.{one_number}
use Rattle.face_values.specs.Only.{Meets, result}
use Rattle.face_values.proofs.Meets.{meets}
use Rattle.benches_laws.specs.Calls.{share_of, sum_of}
use Rattle.benches_face.specs.Values.{version_told, share_words, counts_words}
use Rattle.benches_face.proofs.jidrofex_benches_version.Reads as version
use Rattle.benches_face.proofs.jidrofex_benches_share.Reads as share
use Rattle.benches_face.proofs.jidrofex_benches_sum.Reads as sum

-- jidrofex_benches_version(answer: &mut [u64; 5]) -> u8
pub version-says : Says version.Learnt (λ κs a r (answer, _). Meets one_number version_told [] (result r answer.now []))
version-says κs a r e h = meets h

-- jidrofex_benches_share(ports: u64, benches: u64, bench: u64, answer: &mut [u64; 5]) -> u8
pub share-says : Says share.Learnt
    (λ κs (ports, (benches, (bench, _))) r (_, (_, (_, (answer, _)))). Meets share_words (share_of ports benches bench) [] (result r answer.now []))
share-says κs a r e h = meets h

-- jidrofex_benches_sum(ports: u64, benches: u64, counts: &[u64], answer: &mut [u64; 5]) -> u8
pub sum-says : Says sum.Learnt
    (λ κs (ports, (benches, (counts, _))) r (_, (_, (_, (answer, _)))). Meets counts_words (sum_of ports benches counts.now) [] (result r answer.now []))
sum-says κs a r e h = meets h
