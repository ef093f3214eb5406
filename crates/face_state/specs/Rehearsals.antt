-- A rehearsal in words, each field at its place, and the rehearsal that words are ('A rehearsal', include/jidrofex.h).
-- Assumes nothing.
use Rattle.std.specs.Prelude.{ℕ, ◌+◌, List, [], ◌∷◌, ◌++◌, map, take, drop}
use Rattle.std.proofs.Math.Option
use Rattle.std.proofs.Math.Option.{Option, none, some}
use Rattle.printing.specs.Rehearsals.{rehearsal_of}
use Rattle.printing.specs.declared.Rehearsal.{Rehearsal}
use Rattle.face_state.specs.States.{step_place, run_bits, bit, state_in}
use Rattle.std.specs.declared.option.Option.{Option as Maybe}
use Rattle.std.specs.declared.option.Option.TheVariants.{Some, None}

-- ---- the places: those of a state up to the step, then JIDROFEX_REHEARSAL_ENDED; JIDROFEX_REHEARSAL_WORDS

abbrev pub end_place : ℕ
end_place = step_place + 1

abbrev pub rehearsal_count : ℕ
rehearsal_count = end_place + 1

-- ---- a rehearsal in words

-- ports, legs, starts, runs, panel, leg, step, ended
abbrev pub rehearsal_words : Rehearsal → List ℕ
rehearsal_words r = r.plan.ports ∷ r.plan.legs ∷ (r.plan.starts ++ (map run_bits r.plan.runs ++ (r.panel ++ (r.leg ∷ r.step ∷ bit r.ended ∷ []))))

-- ---- the rehearsal that words are

-- the words of a state with the same fields: zeros for covered, open, errors and standing, and for the seat
abbrev pub widened : List ℕ → List ℕ
widened ws = take end_place ws ++ (0 ∷ 0 ∷ 0 ∷ 0 ∷ (drop end_place ws ++ (0 ∷ [])))

-- 'A slice of another length, or a word that its field cannot hold, is no rehearsal': as those words are a state, or none
unfoldable pub rehearsal_in : List ℕ → Option Rehearsal
rehearsal_in ws = Option.map rehearsal_of (state_in (widened ws))

-- the rehearsal of an answer of the code, if the words are one
abbrev pub held_rehearsal_is : Maybe Rehearsal → Option Rehearsal
held_rehearsal_is (Some r) = some r
held_rehearsal_is None = none
