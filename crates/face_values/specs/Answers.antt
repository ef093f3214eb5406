-- What a call tells, as it crosses to C: a number and the five words of the answer (include/jidrofex.h, at its head).
-- Assumes nothing.
use Rattle.std.specs.Prelude.{ℕ, List, [], ◌∷◌}
use Rattle.words.specs.Told.{Told, accepted, refused, spot_number, earlier_number}
use Rattle.words.specs.Padded.{padded}

-- 'a number: 0 if it was accepted, else the number of the refusal'
abbrev pub number_told : {A : Type 0} → Told A → ℕ
number_told (accepted a) = 0
number_told (refused k s) = k

-- JIDROFEX_ANSWER_WORDS
abbrev pub answer_count : ℕ
answer_count = 5

-- five words: these, 'then zeros'
abbrev pub five : List ℕ → List ℕ
five l = padded answer_count 0 l

-- 'accepted: the values that the call names, then zeros; refused: the place, then a second number: for 4 the jack of the earlier equal entry, for every other
-- refusal 0; then zeros'
abbrev pub words_told : {A : Type 0} → (A → List ℕ) → Told A → List ℕ
words_told values (accepted a) = five (values a)
words_told values (refused k s) = five (spot_number s ∷ earlier_number s ∷ [])

-- ---- the version

-- JIDROFEX_VERSION
abbrev pub version : ℕ
version = 5

-- 'Gives the version of the library. Never refused'
abbrev pub version_told : Told ℕ
version_told = accepted version

-- ---- the values that an accepted call gives

-- 'Gives nothing'
abbrev pub nothing : {A : Type 0} → A → List ℕ
nothing a = []

-- 'Gives the count', the rank, the port, the jack, how many bytes, the version: one number
abbrev pub one_number : ℕ → List ℕ
one_number k = k ∷ []
