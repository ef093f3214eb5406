-- The customer's first demand as one record over the definitions that the public calls meet: 'Bad input gets the refusal number that the paper lists. Lent
-- buffers and the campaign state are then as they were.' That every call ends properly on every input is what its own proof says: no call has a `requires`.
-- Assumes nothing.
use Rattle.std.specs.Prelude.{ℕ, ◌≡◌, ◌⊎◌, ◌≢◌, Bool, false, List, [], ◌∷◌, ℤ, length}
use Rattle.listing.specs.Limits.{most_ports, largest64}
use Rattle.words.specs.Told.{Told, Spot, accepted, refused, earlier_number, EachRefusal, then}
use Rattle.words.specs.declared.Line.{Line}
use Rattle.pattern_check.specs.Calls.{check_as, check_of}
use Rattle.patterns.specs.Calls.{count_of, rank_of, unrank_of, unrank_bytes, beside_of, beside_bytes, step_of}
use Rattle.dictionary_laws.specs.Calls.{dictionary_number_of, dictionary_pattern_of, dictionary_pattern_bytes, dictionary_next_of, dictionary_next_bytes}
use Rattle.dictionary_laws.specs.Calls.{number_to_rank_of, rank_to_number_of}
use Rattle.panel.specs.Calls.{port_of, jack_of, carry_of, carry_bytes}
use Rattle.line_format.specs.Calls.{write_of, write_bytes}
use Rattle.line_format.specs.Reading.{read_of}
use Rattle.line_refusal.specs.Words.{refusal_words_of, refusal_words_bytes}
use Rattle.line_sentence.specs.Sentences.{refusal_sentence_of, refusal_sentence_bytes}
use Rattle.plans.specs.Calls.{read_plan_of}
use Rattle.plan_named.specs.Calls.{named_of, named_numbers}
use Rattle.promise.specs.Campaign.{Answer, refusal, Call, request, report, report_on}
use Rattle.campaign_state.specs.declared.State.{State}
use Rattle.campaign.specs.Calls.{answer_of, left_of, bytes_of}
use Rattle.printing.specs.Printing.{lines_in}
use Rattle.campaign_onward.specs.Calls.{status_of, resume_of, resumed_of}
use Rattle.printing.specs.Rehearsals.{rehearsal_of, state_of}
use Rattle.printing.specs.Answers.{fill_of, fill_bytes}
use Rattle.printing.specs.declared.Rehearsal.{Rehearsal}

-- k is one of these numbers
abbrev pub OneOf : List ℕ → ℕ → Type 0
OneOf [] k = ⊥
OneOf (n ∷ ns) k = (k ≡ n) ⊎ OneOf ns k

-- refusal k is one of these numbers, and but for 4 its second number is 0 (request 7; of 4 it is what `demands.Jacks.BothJacks` says)
abbrev pub Listed : List ℕ → ℕ → Spot → Type 0
Listed ns k s = OneOf ns k × (k ≢ 4 → earlier_number s ≡ 0)

-- a call that tells this is accepted, or refused so
abbrev pub Refuses : {A : Type 0} → List ℕ → Told A → Type 0
Refuses ns t = EachRefusal (Listed ns) t

-- if it is refused, the bytes left are those found
abbrev pub Keeps : {A : Type 0} → Told A → List ℕ → List ℕ → Type 0
Keeps t left found = EachRefusal (λ k s. left ≡ found) t

-- the same of the campaign's answers
abbrev pub RefusesAs : List ℕ → Answer → Type 0
RefusesAs ns a = (k : ℕ) → a ≡ refusal k → OneOf ns k

-- the public calls, each with its numbers in the paper's order
pub record DemandOne : Type 0 where
  -- ---- patterns
  pub check : (p : List ℕ) → Refuses (1 ∷ 3 ∷ 4 ∷ 5 ∷ []) (check_of most_ports p)
  pub check_panel : (p : List ℕ) → Refuses (1 ∷ 3 ∷ 4 ∷ []) (check_as false most_ports p)
  pub count : (n : ℕ) → Refuses (1 ∷ []) (count_of most_ports n)
  pub rank : (p : List ℕ) → Refuses (1 ∷ 3 ∷ 4 ∷ 5 ∷ []) (rank_of most_ports p)
  pub unrank : (r : ℕ) (out : List ℕ) → Refuses (1 ∷ 6 ∷ []) (unrank_of most_ports r out)
  pub unrank_keeps : (r : ℕ) (out : List ℕ) → Keeps (unrank_of most_ports r out) (unrank_bytes most_ports r out) out
  pub beside : (back : Bool) (p : List ℕ) → Refuses (1 ∷ 3 ∷ 4 ∷ 5 ∷ []) (beside_of most_ports back p)
  pub beside_keeps : (back : Bool) (p : List ℕ) → Keeps (beside_of most_ports back p) (beside_bytes most_ports back p) p
  pub step : (n r : ℕ) (z : ℤ) → Refuses (1 ∷ 6 ∷ []) (step_of most_ports n r z)
  -- ---- dictionary numbers: 'Refusals: 1, 3 to 6 as today, in the same order'
  pub dictionary_number : (p : List ℕ) → Refuses (1 ∷ 3 ∷ 4 ∷ 5 ∷ []) (dictionary_number_of most_ports p)
  pub dictionary_pattern : (k : ℕ) (out : List ℕ) → Refuses (1 ∷ 6 ∷ []) (dictionary_pattern_of most_ports k out)
  pub dictionary_pattern_keeps : (k : ℕ) (out : List ℕ) → Keeps (dictionary_pattern_of most_ports k out) (dictionary_pattern_bytes most_ports k out) out
  pub dictionary_next : (p : List ℕ) → Refuses (1 ∷ 3 ∷ 4 ∷ 5 ∷ []) (dictionary_next_of most_ports p)
  pub dictionary_next_keeps : (p : List ℕ) → Keeps (dictionary_next_of most_ports p) (dictionary_next_bytes most_ports p) p
  pub number_to_rank : (n k : ℕ) → Refuses (1 ∷ 6 ∷ []) (number_to_rank_of most_ports n k)
  pub rank_to_number : (n r : ℕ) → Refuses (1 ∷ 6 ∷ []) (rank_to_number_of most_ports n r)
  -- ---- the panel
  pub port_at : (p : List ℕ) (j : ℕ) → Refuses (1 ∷ 3 ∷ 4 ∷ 17 ∷ []) (port_of most_ports p j)
  pub jack_of_port : (p : List ℕ) (v : ℕ) → Refuses (1 ∷ 3 ∷ 4 ∷ 17 ∷ []) (jack_of most_ports p v)
  pub carry : (l : Line) (p : List ℕ) → Refuses (1 ∷ 3 ∷ 4 ∷ 17 ∷ []) (carry_of most_ports l p)
  pub carry_keeps : (l : Line) (p : List ℕ) → Keeps (carry_of most_ports l p) (carry_bytes most_ports l p) p
  -- ---- plan text and order text
  pub read_plan : (t : List ℕ) → Refuses (11 ∷ 7 ∷ 8 ∷ 1 ∷ 9 ∷ 6 ∷ 10 ∷ []) (read_plan_of t)
  pub read_line : (t : List ℕ) (place : ℕ) → Refuses (11 ∷ 7 ∷ 8 ∷ 17 ∷ []) (read_of largest64 most_ports t place)
  pub write_line : (l : Line) (buf : List ℕ) → Refuses (17 ∷ 2 ∷ []) (write_of most_ports l buf)
  pub write_keeps : (l : Line) (buf : List ℕ) → Keeps (write_of most_ports l buf) (write_bytes most_ports l buf) buf
  -- ---- what a plan names: 'after all plan refusals' 2
  pub named : (t old : List ℕ) → Refuses (11 ∷ 7 ∷ 8 ∷ 1 ∷ 9 ∷ 6 ∷ 10 ∷ 2 ∷ []) (named_of t old)
  pub named_keeps : (t old : List ℕ) → Keeps (named_of t old) (named_numbers t old) old
  -- ---- a refusal's words, and a refusal as a sentence
  pub refusal_words : (number : ℕ) (buf : List ℕ) → Refuses (2 ∷ []) (refusal_words_of number buf)
  pub refusal_words_keeps : (number : ℕ) (buf : List ℕ) → Keeps (refusal_words_of number buf) (refusal_words_bytes number buf) buf
  pub refusal_sentence : (number place earlier : ℕ) (buf : List ℕ) → Refuses (2 ∷ []) (refusal_sentence_of number place earlier buf)
  pub refusal_sentence_keeps : (number place earlier : ℕ) (buf : List ℕ)
      → Keeps (refusal_sentence_of number place earlier buf) (refusal_sentence_bytes number place earlier buf) buf
  -- ---- states and reports: 'For the campaign: 15 first, then 14, 12, 13, 16, last 2'
  pub asked : (room : ℕ) (s : State) → RefusesAs (15 ∷ 13 ∷ 2 ∷ []) (answer_of (request room) s)
  pub reported : (kind : ℕ) (s : State) → RefusesAs (15 ∷ 14 ∷ 12 ∷ 16 ∷ []) (answer_of (report kind) s)
  pub reported_mark : (m kind : ℕ) (s : State) → RefusesAs (15 ∷ 14 ∷ 12 ∷ 16 ∷ []) (answer_of (report_on m kind) s)
  pub status : (s : State) → Refuses (15 ∷ []) (status_of s)
  pub state_keeps : (c : Call) (s : State) (k : ℕ) → answer_of c s ≡ refusal k → left_of c s ≡ s
  pub buffer_keeps : (s : State) (buf : List ℕ) (k : ℕ) → answer_of (request (length buf)) s ≡ refusal k → bytes_of s buf ≡ buf
  -- ---- going on after a power cut: the panel's own numbers, then 15
  pub resume : (s : State) (p : List ℕ) → Refuses (1 ∷ 3 ∷ 4 ∷ 15 ∷ []) (resume_of s p)
  pub resume_keeps : (s : State) (p : List ℕ) (k : ℕ) (q : Spot) → resume_of s p ≡ refused k q → resumed_of s p ≡ s
  -- ---- lines in bulk: the plan's numbers for its text; no mark stands in a rehearsal, so 15 and then 2
  pub rehearse : (t : List ℕ) → Refuses (11 ∷ 7 ∷ 8 ∷ 1 ∷ 9 ∷ 6 ∷ 10 ∷ []) (then (read_plan_of t) (λ p. accepted (tt {0})))
  pub fill : (room : ℕ) (r : Rehearsal) → Refuses (15 ∷ 2 ∷ []) (fill_of room (state_of r))
  pub fill_keeps : (room : ℕ) (r : Rehearsal) (k : ℕ) (p : Spot) → fill_of room (state_of r) ≡ refused k p → rehearsal_of (lines_in room (state_of r)).left ≡ r
  pub fill_bytes_keeps : (r : Rehearsal) (buf : List ℕ) → Keeps (fill_of (length buf) (state_of r)) (fill_bytes (state_of r) buf) buf
