-- What the contract of each call says, in the definitions that the laws speak of. A clause that is lost or weakened is missed here.
-- Assumes nothing.
use mathlib.Core.Path.{◌≡◌}
use mathlib.Core.Bool.{true, false}
use Rattle.listing.specs.Limits.{most_ports}
use Rattle.words.specs.Contract.{Says}
use Rattle.words.specs.Meaning.{numbered_told, outcome_told}
use Rattle.patterns.specs.Calls.{count_of, rank_of, unrank_of, unrank_bytes, beside_of, beside_bytes, step_of}
use Rattle.patterns.specs.Answers.{moved_told}
use Rattle.patterns.proofs.counting.count.Reads as count
use Rattle.patterns.proofs.ranking.rank.Reads as rank
use Rattle.patterns.proofs.ranking.unrank.Reads as unrank
use Rattle.patterns.proofs.neighbours.next.Reads as next
use Rattle.patterns.proofs.neighbours.previous.Reads as previous
use Rattle.patterns.proofs.counting.step.Reads as step

-- count(ports: u8) -> Numbered
pub count-says : Says count.Learnt (λ κs (ports, _) r e. numbered_told r ≡ count_of most_ports ports)
count-says κs a r e h = h

-- rank(p: &[u8]) -> Numbered
pub rank-says : Says rank.Learnt (λ κs (p, _) r e. numbered_told r ≡ rank_of most_ports p.now)
rank-says κs a r e h = h

-- unrank(rank: u64, out: &mut [u8]) -> Outcome
pub unrank-says : Says unrank.Learnt
    (λ κs (rank, (out, _)) r (_, (left, _)). (outcome_told r ≡ unrank_of most_ports rank out.now) × (left.now ≡ unrank_bytes most_ports rank out.now))
unrank-says κs a r e h = h

-- next(p: &mut [u8]) -> Moved
pub next-says : Says next.Learnt
    (λ κs (p, _) r (left, _). (moved_told r ≡ beside_of most_ports false p.now) × (left.now ≡ beside_bytes most_ports false p.now))
next-says κs a r e h = h

-- previous(p: &mut [u8]) -> Moved
pub previous-says : Says previous.Learnt
    (λ κs (p, _) r (left, _). (moved_told r ≡ beside_of most_ports true p.now) × (left.now ≡ beside_bytes most_ports true p.now))
previous-says κs a r e h = h

-- step(ports: u8, rank: u64, k: i64) -> Numbered
pub step-says : Says step.Learnt (λ κs (ports, (rank, (k, _))) r e. numbered_told r ≡ step_of most_ports ports rank k)
step-says κs a r e h = h
