-- What the contract of each call says, in the definitions that the laws speak of. A clause that is lost or weakened is missed here.
-- Assumes nothing.
use mathlib.Core.Path.{◌≡◌}
use Rattle.words.specs.Contract.{Says}
use Rattle.benches_laws.specs.Calls.{share_of, sum_of}
use Rattle.benches_calls.specs.Answers.{share_told, sum_told}
use Rattle.benches_calls.proofs.sharing.share.Reads as share
use Rattle.benches_calls.proofs.adding.sum.Reads as sum

-- share(ports: u64, benches: u64, bench: u64) -> Result<Option<Leg>, Fault>
pub share-says : Says share.Learnt (λ κs (ports, (benches, (bench, _))) r e. share_told r ≡ share_of ports benches bench)
share-says κs a r e h = h

-- sum(ports: u64, benches: u64, counts: &[u64]) -> Result<Counts, Fault>
pub sum-says : Says sum.Learnt (λ κs (ports, (benches, (counts, _))) r e. sum_told r ≡ sum_of ports benches counts.now)
sum-says κs a r e h = h
