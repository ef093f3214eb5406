-- Nothing else meets the contract of a call for C: what two runs of it answer is the same.
-- Assumes nothing.
use mathlib.Core.List.{List, []}
use Prim.Native.Nat.{ℕ}
use Rattle.face_values.specs.Answers.{one_number}
use Rattle.face_values.specs.Only.{Only}
use Rattle.face_values.proofs.Meets.{only}
use Rattle.benches_laws.specs.Calls.{share_of, sum_of}
use Rattle.benches_face.specs.Values.{version_told, share_words, counts_words}

pub only-version : Only one_number version_told []
only-version = only _ _ _

pub only-share : (n k b : ℕ) → Only share_words (share_of n k b) []
only-share n k b = only _ _ _

pub only_sum : (n k : ℕ) (ns : List ℕ) → Only counts_words (sum_of n k ns) []
only_sum n k ns = only _ _ _
