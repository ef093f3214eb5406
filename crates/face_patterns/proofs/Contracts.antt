-- What the contract of each call for C says, its number, the words of its answer and each lent slice, in the definitions that the laws speak of. A clause that
-- is lost or weakened is missed here.
-- Assumes nothing.
use mathlib.Core.Bool.{true, false}
use mathlib.Core.List.{[], ◌∷◌}
use Rattle.listing.specs.Limits.{most_ports}
use Rattle.words.specs.Contract.{Says}
use Rattle.pattern_check.specs.Calls.{check_as}
use Rattle.patterns.specs.Calls.{count_of, rank_of, unrank_of, unrank_bytes, beside_of, beside_bytes, step_of}
use Rattle.face_values.specs.Answers.{nothing, one_number}
use Rattle.face_values.specs.Lines.{move_words}
use Rattle.face_values.specs.Only.{Meets, result}
use Rattle.face_values.proofs.Meets.{meets, meets-leaving}
use Rattle.face_patterns.proofs.jidrofex_check.Reads as check
use Rattle.face_patterns.proofs.jidrofex_check_panel.Reads as check-panel
use Rattle.face_patterns.proofs.jidrofex_count.Reads as count
use Rattle.face_patterns.proofs.jidrofex_rank.Reads as rank
use Rattle.face_patterns.proofs.jidrofex_unrank.Reads as unrank
use Rattle.face_patterns.proofs.jidrofex_next.Reads as next
use Rattle.face_patterns.proofs.jidrofex_previous.Reads as previous
use Rattle.face_patterns.proofs.jidrofex_step.Reads as step

-- jidrofex_check(pattern: &[u8], answer: &mut [u64; 5]) -> u8
pub check-says : Says check.Learnt (λ κs (p, _) r (_, (answer, _)). Meets nothing (check_as true most_ports p.now) [] (result r answer.now []))
check-says κs a r e h = meets h

-- jidrofex_check_panel(panel: &[u8], answer: &mut [u64; 5]) -> u8
pub check-panel-says : Says check-panel.Learnt (λ κs (p, _) r (_, (answer, _)). Meets nothing (check_as false most_ports p.now) [] (result r answer.now []))
check-panel-says κs a r e h = meets h

-- jidrofex_count(ports: u8, answer: &mut [u64; 5]) -> u8
pub count-says : Says count.Learnt (λ κs (ports, _) r (_, (answer, _)). Meets one_number (count_of most_ports ports) [] (result r answer.now []))
count-says κs a r e h = meets h

-- jidrofex_rank(pattern: &[u8], answer: &mut [u64; 5]) -> u8
pub rank-says : Says rank.Learnt (λ κs (p, _) r (_, (answer, _)). Meets one_number (rank_of most_ports p.now) [] (result r answer.now []))
rank-says κs a r e h = meets h

-- jidrofex_unrank(rank: u64, pattern: &mut [u8], answer: &mut [u64; 5]) -> u8
pub unrank-says : Says unrank.Learnt
    (λ κs (rank, (p, _)) r (_, (left, (answer, _))).
    Meets nothing (unrank_of most_ports rank p.now) (unrank_bytes most_ports rank p.now ∷ []) (result r answer.now (left.now ∷ [])))
unrank-says κs a r e h = meets-leaving h

-- jidrofex_next(pattern: &mut [u8], answer: &mut [u64; 5]) -> u8
pub next-says : Says next.Learnt
    (λ κs (p, _) r (left, (answer, _)).
    Meets move_words (beside_of most_ports false p.now) (beside_bytes most_ports false p.now ∷ []) (result r answer.now (left.now ∷ [])))
next-says κs a r e h = meets-leaving h

-- jidrofex_previous(pattern: &mut [u8], answer: &mut [u64; 5]) -> u8
pub previous-says : Says previous.Learnt
    (λ κs (p, _) r (left, (answer, _)).
    Meets move_words (beside_of most_ports true p.now) (beside_bytes most_ports true p.now ∷ []) (result r answer.now (left.now ∷ [])))
previous-says κs a r e h = meets-leaving h

-- jidrofex_step(ports: u8, rank: u64, k: i64, answer: &mut [u64; 5]) -> u8
pub step-says : Says step.Learnt
    (λ κs (ports, (rank, (k, _))) r (_, (_, (_, (answer, _)))). Meets one_number (step_of most_ports ports rank k) [] (result r answer.now []))
step-says κs a r e h = meets h
