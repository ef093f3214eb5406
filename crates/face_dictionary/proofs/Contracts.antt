-- What the contract of each call for C says, its number, the words of its answer and each lent slice, in the definitions that the laws speak of. A clause that
-- is lost or weakened is missed here.
-- Assumes nothing.
use mathlib.Core.List.{[], ◌∷◌}
use Rattle.listing.specs.Limits.{most_ports}
use Rattle.words.specs.Contract.{Says}
use Rattle.dictionary_laws.specs.Calls.{dictionary_number_of, dictionary_pattern_of, dictionary_pattern_bytes, dictionary_next_of, dictionary_next_bytes}
use Rattle.dictionary_laws.specs.Calls.{number_to_rank_of, rank_to_number_of}
use Rattle.face_values.specs.Answers.{nothing, one_number}
use Rattle.face_values.specs.Only.{Meets, result}
use Rattle.face_values.proofs.Meets.{meets, meets-leaving}
use Rattle.face_dictionary.proofs.jidrofex_dictionary_number.Reads as dictionary-number
use Rattle.face_dictionary.proofs.jidrofex_dictionary_pattern.Reads as dictionary-pattern
use Rattle.face_dictionary.proofs.jidrofex_dictionary_next.Reads as dictionary-next
use Rattle.face_dictionary.proofs.jidrofex_number_to_rank.Reads as number-to-rank
use Rattle.face_dictionary.proofs.jidrofex_rank_to_number.Reads as rank-to-number

-- jidrofex_dictionary_number(pattern: &[u8], answer: &mut [u64; 5]) -> u8
pub dictionary-number-says : Says dictionary-number.Learnt (λ κs (p, _) r (_, (answer, _)). Meets one_number (dictionary_number_of most_ports p.now) [] (result r answer.now []))
dictionary-number-says κs a r e h = meets h

-- jidrofex_dictionary_pattern(number: u64, pattern: &mut [u8], answer: &mut [u64; 5]) -> u8
pub dictionary-pattern-says : Says dictionary-pattern.Learnt
    (λ κs (k, (p, _)) r (_, (left, (answer, _))).
    Meets nothing (dictionary_pattern_of most_ports k p.now) (dictionary_pattern_bytes most_ports k p.now ∷ []) (result r answer.now (left.now ∷ [])))
dictionary-pattern-says κs a r e h = meets-leaving h

-- jidrofex_dictionary_next(pattern: &mut [u8], answer: &mut [u64; 5]) -> u8
pub dictionary-next-says : Says dictionary-next.Learnt
    (λ κs (p, _) r (left, (answer, _)).
    Meets nothing (dictionary_next_of most_ports p.now) (dictionary_next_bytes most_ports p.now ∷ []) (result r answer.now (left.now ∷ [])))
dictionary-next-says κs a r e h = meets-leaving h

-- jidrofex_number_to_rank(ports: u8, number: u64, answer: &mut [u64; 5]) -> u8
pub number-to-rank-says : Says number-to-rank.Learnt
    (λ κs (ports, (k, _)) r (_, (_, (answer, _))). Meets one_number (number_to_rank_of most_ports ports k) [] (result r answer.now []))
number-to-rank-says κs a r e h = meets h

-- jidrofex_rank_to_number(ports: u8, rank: u64, answer: &mut [u64; 5]) -> u8
pub rank-to-number-says : Says rank-to-number.Learnt
    (λ κs (ports, (k, _)) r (_, (_, (answer, _))). Meets one_number (rank_to_number_of most_ports ports k) [] (result r answer.now []))
rank-to-number-says κs a r e h = meets h
