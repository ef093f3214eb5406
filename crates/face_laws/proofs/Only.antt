-- Nothing else meets the contract of a call: what two runs of it answer and leave is the same. A law for each call, all by `only`.
-- Assumes nothing.
use mathlib.Core.Bool.{Bool}
use mathlib.Core.List.{List, [], ◌∷◌}
use Prim.Native.Nat.{ℕ}
use lib.IntN.{ℤ}
use lib.ListN.{length}
use Rattle.listing.specs.Limits.{most_ports, largest64}
use Rattle.promise.specs.Campaign.{request, report, report_on}
use Rattle.pattern_check.specs.Calls.{check_as}
use Rattle.patterns.specs.Calls.{count_of, rank_of, unrank_of, unrank_bytes, beside_of, beside_bytes, step_of}
use Rattle.dictionary_laws.specs.Calls.{dictionary_number_of, dictionary_pattern_of, dictionary_pattern_bytes, dictionary_next_of, dictionary_next_bytes}
use Rattle.dictionary_laws.specs.Calls.{number_to_rank_of, rank_to_number_of}
use Rattle.panel.specs.Calls.{port_of, jack_of, carry_of, carry_bytes}
use Rattle.line_format.specs.Calls.{write_of, write_bytes}
use Rattle.line_format.specs.Reading.{read_of}
use Rattle.line_refusal.specs.Words.{refusal_words_of, refusal_words_bytes}
use Rattle.line_sentence.specs.Sentences.{refusal_sentence_of, refusal_sentence_bytes}
use Rattle.plan_named.specs.Calls.{named_of, named_numbers}
use Rattle.face_values.specs.Answers.{version_told, nothing, one_number}
use Rattle.face_values.specs.Lines.{move_words, line_in}
use Rattle.face_values.specs.Only.{Only}
use Rattle.face_values.proofs.Meets.{only}
use Rattle.face_laws.specs.Values.{line_and_place, names_words, order_and_bytes, bytes_and_end, where_words}
use Rattle.face_laws.specs.Calls.{called_told, called_words, request_bytes, status_in, orders_told, orders_words, orders_bytes, begin_told, begin_words, resume_told, resume_words, rehearse_told, rehearse_words}

-- ---- the library

pub only-version : Only one_number version_told []
only-version = only _ _ _

pub only-refusal-words : (number : ℕ) (buf : List ℕ) → Only one_number (refusal_words_of number buf) (refusal_words_bytes number buf ∷ [])
only-refusal-words number buf = only _ _ _

pub only-refusal-sentence : (number place earlier : ℕ) (buf : List ℕ)
    → Only one_number (refusal_sentence_of number place earlier buf) (refusal_sentence_bytes number place earlier buf ∷ [])
only-refusal-sentence number place earlier buf = only _ _ _

-- ---- patterns

-- check and check_panel
pub only-check : (pattern : Bool) (p : List ℕ) → Only nothing (check_as pattern most_ports p) []
only-check pattern p = only _ _ _

pub only-count : (ports : ℕ) → Only one_number (count_of most_ports ports) []
only-count ports = only _ _ _

pub only-rank : (p : List ℕ) → Only one_number (rank_of most_ports p) []
only-rank p = only _ _ _

pub only-unrank : (rank : ℕ) (p : List ℕ) → Only nothing (unrank_of most_ports rank p) (unrank_bytes most_ports rank p ∷ [])
only-unrank rank p = only _ _ _

-- next and previous
pub only-beside : (back : Bool) (p : List ℕ) → Only move_words (beside_of most_ports back p) (beside_bytes most_ports back p ∷ [])
only-beside back p = only _ _ _

pub only_step : (ports rank : ℕ) (k : ℤ) → Only one_number (step_of most_ports ports rank k) []
only_step ports rank k = only _ _ _

-- ---- dictionary numbers

pub only-dictionary-number : (p : List ℕ) → Only one_number (dictionary_number_of most_ports p) []
only-dictionary-number p = only _ _ _

pub only-dictionary-pattern : (number : ℕ) (p : List ℕ) → Only nothing (dictionary_pattern_of most_ports number p) (dictionary_pattern_bytes most_ports number p ∷ [])
only-dictionary-pattern number p = only _ _ _

pub only-dictionary-next : (p : List ℕ) → Only nothing (dictionary_next_of most_ports p) (dictionary_next_bytes most_ports p ∷ [])
only-dictionary-next p = only _ _ _

pub only-number-to-rank : (ports number : ℕ) → Only one_number (number_to_rank_of most_ports ports number) []
only-number-to-rank ports number = only _ _ _

pub only-rank-to-number : (ports rank : ℕ) → Only one_number (rank_to_number_of most_ports ports rank) []
only-rank-to-number ports rank = only _ _ _

-- ---- a panel

pub only-port-at : (p : List ℕ) (jack : ℕ) → Only one_number (port_of most_ports p jack) []
only-port-at p jack = only _ _ _

pub only-jack-of : (p : List ℕ) (port : ℕ) → Only one_number (jack_of most_ports p port) []
only-jack-of p port = only _ _ _

pub only-carry : (line p : List ℕ) → Only nothing (carry_of most_ports (line_in line) p) (carry_bytes most_ports (line_in line) p ∷ [])
only-carry line p = only _ _ _

-- ---- order lines

pub only-write-line : (line buf : List ℕ) → Only one_number (write_of most_ports (line_in line) buf) (write_bytes most_ports (line_in line) buf ∷ [])
only-write-line line buf = only _ _ _

pub only-read-line : (t : List ℕ) (place : ℕ) → Only line_and_place (read_of largest64 most_ports t place) []
only-read-line t place = only _ _ _

-- ---- a plan, before its campaign starts

pub only-named : (t old : List ℕ) → Only names_words (named_of t old) (named_numbers t old ∷ [])
only-named t old = only _ _ _

-- ---- a campaign

pub only-begin : (t ws : List ℕ) → Only nothing (begin_told t ws) (begin_words t ws ∷ [])
only-begin t ws = only _ _ _

pub only-request : (ws buf : List ℕ)
    → Only order_and_bytes (called_told (request (length buf)) ws) (called_words (request (length buf)) ws ∷ request_bytes ws buf ∷ [])
only-request ws buf = only _ _ _

pub only-report : (ws : List ℕ) (kind : ℕ) → Only nothing (called_told (report kind) ws) (called_words (report kind) ws ∷ [])
only-report ws kind = only _ _ _

pub only-report-mark : (ws : List ℕ) (mark kind : ℕ) → Only nothing (called_told (report_on mark kind) ws) (called_words (report_on mark kind) ws ∷ [])
only-report-mark ws mark kind = only _ _ _

pub only-status : (ws : List ℕ) → Only where_words (status_in ws) []
only-status ws = only _ _ _

pub only-resume : (p ws : List ℕ) → Only nothing (resume_told p ws) (resume_words p ws ∷ [])
only-resume p ws = only _ _ _

-- ---- a rehearsal

pub only-rehearse : (t ws : List ℕ) → Only nothing (rehearse_told t ws) (rehearse_words t ws ∷ [])
only-rehearse t ws = only _ _ _

pub only-orders : (ws buf : List ℕ) → Only bytes_and_end (orders_told (length buf) ws) (orders_words (length buf) ws ∷ orders_bytes ws buf ∷ [])
only-orders ws buf = only _ _ _
