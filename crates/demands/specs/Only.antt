-- 'Prove that nothing else would satisfy it': of each public call, that two runs on the same input that both meet the call's own contract give the same answer
-- and leave the same in each lent slice. `Learnt` is the contract itself, all of its clauses, as the kit makes it of the source.
-- Assumes nothing.
use Rattle.std.specs.Prelude.{ℕ, List, [], ◌∷◌}
use Rattle.words.specs.Contract.{Contract, One}
use Rattle.face_values.specs.Only.{result}
use Rattle.pattern_check.proofs.checking.check.Reads as check
use Rattle.pattern_check.proofs.checking.check_panel.Reads as check-panel
use Rattle.patterns.proofs.counting.count.Reads as count
use Rattle.patterns.proofs.ranking.rank.Reads as rank
use Rattle.patterns.proofs.ranking.unrank.Reads as unrank
use Rattle.patterns.proofs.neighbours.next.Reads as next
use Rattle.patterns.proofs.neighbours.previous.Reads as previous
use Rattle.patterns.proofs.counting.step.Reads as step
use Rattle.dictionary.proofs.numbering.number.Reads as number
use Rattle.dictionary.proofs.numbering.numbered.Reads as numbered
use Rattle.dictionary.proofs.onward.next.Reads as next-in-order
use Rattle.dictionary.proofs.translation.to_rank.Reads as to-rank
use Rattle.dictionary.proofs.translation.to_number.Reads as to_number
use Rattle.panel.proofs.lookups.port_at.Reads as port-at
use Rattle.panel.proofs.lookups.jack_of.Reads as jack-of
use Rattle.panel.proofs.lines.carry.Reads as carry
use Rattle.text_numbers.proofs.reading.read_number.Reads as read_number
use Rattle.text_numbers.proofs.reading.read_signed.Reads as read-signed
use Rattle.text_numbers.proofs.writing.places.Reads as places
use Rattle.text_numbers.proofs.writing.digits.Reads as digits
use Rattle.text_keys.proofs.find.Reads as find
use Rattle.text_keys.proofs.has_key.Reads as has_key_lem
use Rattle.line_writer.proofs.order_lines.write_line.Reads as write-line
use Rattle.line_reader.proofs.order_lines.read_line.Reads as read-line
use Rattle.line_refusal.proofs.wording.refusal_words.Reads as refusal-words
use Rattle.line_sentence.proofs.refusal_sentence.Reads as refusal-sentence
use Rattle.plans.proofs.reading.read_plan.Reads as read-plan
use Rattle.plan_named.proofs.named.Reads as named
use Rattle.campaign.proofs.Campaign.begin.Reads as begin
use Rattle.campaign.proofs.Campaign.request.Reads as request
use Rattle.campaign.proofs.Campaign.report.Reads as report
use Rattle.campaign.proofs.Campaign.report_mark.Reads as report-mark
use Rattle.campaign_onward.proofs.status.Reads as status
use Rattle.campaign_onward.proofs.resume.Reads as resume
use Rattle.printing.proofs.rehearse.Reads as rehearse
use Rattle.printing.proofs.fill.Reads as fill
use Rattle.face_words.proofs.jidrofex_version.Reads as face-version
use Rattle.face_words.proofs.jidrofex_refusal_words.Reads as face-refusal-words
use Rattle.face_words.proofs.jidrofex_refusal_sentence.Reads as face-refusal-sentence
use Rattle.face_patterns.proofs.jidrofex_check.Reads as face-check
use Rattle.face_patterns.proofs.jidrofex_check_panel.Reads as face-check-panel
use Rattle.face_patterns.proofs.jidrofex_count.Reads as face-count
use Rattle.face_patterns.proofs.jidrofex_rank.Reads as face-rank
use Rattle.face_patterns.proofs.jidrofex_unrank.Reads as face-unrank
use Rattle.face_patterns.proofs.jidrofex_next.Reads as face-next
use Rattle.face_patterns.proofs.jidrofex_previous.Reads as face-previous
use Rattle.face_patterns.proofs.jidrofex_step.Reads as face-step
use Rattle.face_dictionary.proofs.jidrofex_dictionary_number.Reads as face-dictionary-number
use Rattle.face_dictionary.proofs.jidrofex_dictionary_pattern.Reads as face-dictionary-pattern
use Rattle.face_dictionary.proofs.jidrofex_dictionary_next.Reads as face-dictionary-next
use Rattle.face_dictionary.proofs.jidrofex_number_to_rank.Reads as face-number-to-rank
use Rattle.face_dictionary.proofs.jidrofex_rank_to_number.Reads as face-rank-to-number
use Rattle.face_panel.proofs.jidrofex_port_at.Reads as face-port-at
use Rattle.face_panel.proofs.jidrofex_jack_of.Reads as face-jack-of
use Rattle.face_panel.proofs.jidrofex_carry.Reads as face-carry
use Rattle.face_lines.proofs.jidrofex_write_line.Reads as face-write-line
use Rattle.face_lines.proofs.jidrofex_read_line.Reads as face-read-line
use Rattle.face_plans.proofs.jidrofex_named.Reads as face-named
use Rattle.face_campaign.proofs.jidrofex_begin.Reads as face-begin
use Rattle.face_campaign.proofs.jidrofex_request.Reads as face-request
use Rattle.face_campaign.proofs.jidrofex_report.Reads as face-report
use Rattle.face_campaign.proofs.jidrofex_report_mark.Reads as face-report-mark
use Rattle.face_campaign.proofs.jidrofex_status.Reads as face-status
use Rattle.face_campaign.proofs.jidrofex_resume.Reads as face-resume
use Rattle.face_campaign.proofs.jidrofex_rehearse.Reads as face-rehearse
use Rattle.face_campaign.proofs.jidrofex_orders.Reads as face-orders

-- one answer: of a call that leaves nothing in what it was lent
abbrev pub OneAnswer : {K : Type 0} {A R E : K → Type 0} → Contract K A R E → Type 0
OneAnswer learnt = One learnt (λ κs r e. r)

-- one answer, and with it the bytes that are left in a lent slice
abbrev pub OneWith : {K : Type 0} {A R E : K → Type 0} → Contract K A R E → ((κs : K) → E κs → List ℕ) → Type 0
OneWith {R = R} learnt left = One {L = λ κs. R κs × List ℕ} learnt (λ κs r e. (r, left κs e))

-- the public calls, by crate
pub record EachCallOne : Type 0 where
  -- ---- checks
  pub check : OneAnswer check.Learnt
  pub check_panel : OneAnswer check-panel.Learnt
  -- ---- patterns
  pub count : OneAnswer count.Learnt
  pub rank : OneAnswer rank.Learnt
  pub unrank : OneWith unrank.Learnt (λ κs (_, (out, _)). out.now)
  pub next : OneWith next.Learnt (λ κs (p, _). p.now)
  pub previous : OneWith previous.Learnt (λ κs (p, _). p.now)
  pub step : OneAnswer step.Learnt
  -- ---- dictionary numbers
  pub number : OneAnswer number.Learnt
  pub numbered : OneWith numbered.Learnt (λ κs (_, (out, _)). out.now)
  pub next_in_order : OneWith next-in-order.Learnt (λ κs (p, _). p.now)
  pub to_rank : OneAnswer to-rank.Learnt
  pub to_number : OneAnswer to_number.Learnt
  -- ---- panel
  pub port_at : OneAnswer port-at.Learnt
  pub jack_of : OneAnswer jack-of.Learnt
  pub carry : OneWith carry.Learnt (λ κs (panel, _). panel.now)
  -- ---- numbers and texts
  pub read_number : OneAnswer read_number.Learnt
  pub read_signed : OneAnswer read-signed.Learnt
  pub places : OneAnswer places.Learnt
  pub digits : OneAnswer digits.Learnt
  pub find : OneAnswer find.Learnt
  pub has_key : OneAnswer has_key_lem.Learnt
  -- ---- order lines
  pub write_line : OneWith write-line.Learnt (λ κs (_, (buf, _)). buf.now)
  pub read_line : OneAnswer read-line.Learnt
  -- ---- a refusal's words, and a refusal as a sentence
  pub refusal_words : OneWith refusal-words.Learnt (λ κs (_, (buf, _)). buf.now)
  pub refusal_sentence : OneWith refusal-sentence.Learnt (λ κs (_, (_, (_, (buf, _)))). buf.now)
  -- ---- plans
  pub read_plan : OneAnswer read-plan.Learnt
  pub named : OneWith named.Learnt (λ κs (_, (gaps, _)). gaps.now)
  -- ---- the campaign
  pub begin : OneAnswer begin.Learnt
  pub request : OneWith request.Learnt (λ κs (_, (buf, _)). buf.now)
  pub report : OneAnswer report.Learnt
  pub report_mark : OneAnswer report-mark.Learnt
  pub status : OneAnswer status.Learnt
  pub resume : OneAnswer resume.Learnt
  -- ---- lines in bulk
  pub rehearse : OneAnswer rehearse.Learnt
  pub fill : OneWith fill.Learnt (λ κs (_, (buf, _)). buf.now)
  -- ---- the calls for C: the number, the words of the answer and each lent slice
  -- ---- the library
  pub face_version : One face-version.Learnt (λ κs r (answer, _). result r answer.now [])
  pub face_refusal_words : One face-refusal-words.Learnt (λ κs r (_, (buf, (answer, _))). result r answer.now (buf.now ∷ []))
  pub face_refusal_sentence : One face-refusal-sentence.Learnt (λ κs r (_, (_, (buf, (answer, _)))). result r answer.now (buf.now ∷ []))
  -- ---- patterns, dictionary numbers, the panel, order lines, plans, the campaign and lines in bulk
  pub face_check : One face-check.Learnt (λ κs r (_, (answer, _)). result r answer.now [])
  pub face_check_panel : One face-check-panel.Learnt (λ κs r (_, (answer, _)). result r answer.now [])
  pub face_count : One face-count.Learnt (λ κs r (_, (answer, _)). result r answer.now [])
  pub face_rank : One face-rank.Learnt (λ κs r (_, (answer, _)). result r answer.now [])
  pub face_unrank : One face-unrank.Learnt (λ κs r (_, (p, (answer, _))). result r answer.now (p.now ∷ []))
  pub face_next : One face-next.Learnt (λ κs r (p, (answer, _)). result r answer.now (p.now ∷ []))
  pub face_previous : One face-previous.Learnt (λ κs r (p, (answer, _)). result r answer.now (p.now ∷ []))
  pub face_step : One face-step.Learnt (λ κs r (_, (_, (_, (answer, _)))). result r answer.now [])
  pub face_dictionary_number : One face-dictionary-number.Learnt (λ κs r (_, (answer, _)). result r answer.now [])
  pub face_dictionary_pattern : One face-dictionary-pattern.Learnt (λ κs r (_, (p, (answer, _))). result r answer.now (p.now ∷ []))
  pub face_dictionary_next : One face-dictionary-next.Learnt (λ κs r (p, (answer, _)). result r answer.now (p.now ∷ []))
  pub face_number_to_rank : One face-number-to-rank.Learnt (λ κs r (_, (_, (answer, _))). result r answer.now [])
  pub face_rank_to_number : One face-rank-to-number.Learnt (λ κs r (_, (_, (answer, _))). result r answer.now [])
  pub face_port_at : One face-port-at.Learnt (λ κs r (_, (_, (answer, _))). result r answer.now [])
  pub face_jack_of : One face-jack-of.Learnt (λ κs r (_, (_, (answer, _))). result r answer.now [])
  pub face_carry : One face-carry.Learnt (λ κs r (panel, (_, (answer, _))). result r answer.now (panel.now ∷ []))
  pub face_write_line : One face-write-line.Learnt (λ κs r (_, (buf, (answer, _))). result r answer.now (buf.now ∷ []))
  pub face_read_line : One face-read-line.Learnt (λ κs r (_, (_, (answer, _))). result r answer.now [])
  pub face_named : One face-named.Learnt (λ κs r (_, (gaps, (answer, _))). result r answer.now (gaps.now ∷ []))
  pub face_begin : One face-begin.Learnt (λ κs r (_, (state, (answer, _))). result r answer.now (state.now ∷ []))
  pub face_request : One face-request.Learnt (λ κs r (state, (buf, (answer, _))). result r answer.now (state.now ∷ buf.now ∷ []))
  pub face_report : One face-report.Learnt (λ κs r (state, (_, (answer, _))). result r answer.now (state.now ∷ []))
  pub face_report_mark : One face-report-mark.Learnt (λ κs r (state, (_, (_, (answer, _)))). result r answer.now (state.now ∷ []))
  pub face_status : One face-status.Learnt (λ κs r (_, (answer, _)). result r answer.now [])
  pub face_resume : One face-resume.Learnt (λ κs r (state, (_, (answer, _))). result r answer.now (state.now ∷ []))
  pub face_rehearse : One face-rehearse.Learnt (λ κs r (_, (rehearsal, (answer, _))). result r answer.now (rehearsal.now ∷ []))
  pub face_orders : One face-orders.Learnt (λ κs r (rehearsal, (buf, (answer, _))). result r answer.now (rehearsal.now ∷ buf.now ∷ []))
