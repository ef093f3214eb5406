-- What the contract of each call says, in the definitions that the laws speak of. A clause that is lost or weakened is missed here.
-- Assumes nothing.
use mathlib.Core.Path.{◌≡◌}
use Rattle.listing.specs.Limits.{most_ports}
use Rattle.words.specs.Contract.{Says}
use Rattle.words.specs.Meaning.{numbered_told, outcome_told}
use Rattle.dictionary_laws.specs.Calls.{dictionary_number_of, dictionary_pattern_of, dictionary_pattern_bytes, dictionary_next_of, dictionary_next_bytes}
use Rattle.dictionary_laws.specs.Calls.{number_to_rank_of, rank_to_number_of}
use Rattle.dictionary.proofs.numbering.number.Reads as number
use Rattle.dictionary.proofs.numbering.numbered.Reads as numbered
use Rattle.dictionary.proofs.onward.next.Reads as next
use Rattle.dictionary.proofs.translation.to_rank.Reads as to-rank
use Rattle.dictionary.proofs.translation.to_number.Reads as to_number

-- number(p: &[u8]) -> Numbered
pub number-says : Says number.Learnt (λ κs (p, _) r e. numbered_told r ≡ dictionary_number_of most_ports p.now)
number-says κs a r e h = h

-- numbered(number: u64, out: &mut [u8]) -> Outcome
pub numbered-says : Says numbered.Learnt
    (λ κs (k, (out, _)) r (_, (left, _)).
    (outcome_told r ≡ dictionary_pattern_of most_ports k out.now) × (left.now ≡ dictionary_pattern_bytes most_ports k out.now))
numbered-says κs a r e h = h

-- next(p: &mut [u8]) -> Outcome
pub next-says : Says next.Learnt
    (λ κs (p, _) r (left, _). (outcome_told r ≡ dictionary_next_of most_ports p.now) × (left.now ≡ dictionary_next_bytes most_ports p.now))
next-says κs a r e h = h

-- to_rank(ports: u8, number: u64) -> Numbered
pub to-rank-says : Says to-rank.Learnt (λ κs (ports, (k, _)) r e. numbered_told r ≡ number_to_rank_of most_ports ports k)
to-rank-says κs a r e h = h

-- to_number(ports: u8, rank: u64) -> Numbered
pub to-number-says : Says to_number.Learnt (λ κs (ports, (k, _)) r e. numbered_told r ≡ rank_to_number_of most_ports ports k)
to-number-says κs a r e h = h
