-- Nothing else meets a contract of a public call (`each-call-one`): what each contract says (`-says`), and that this has one answer (`only-`), both laws of the
-- call's crate.
-- Assumes nothing.
use mathlib.Core.Path.{◌≡◌}
use lib.ListN.{get_or}
use Rattle.words.specs.Contract.{Contract, Says, One}
use Rattle.pattern_check.proofs.Only.{only-check}
use Rattle.pattern_check.proofs.Contracts.{check-says, check-panel-says}
use Rattle.patterns.proofs.Only.{only-count, only-rank, only-unrank, only-beside, only_step}
use Rattle.patterns.proofs.Contracts.{count-says, rank-says, unrank-says, next-says, previous-says, step-says}
use Rattle.dictionary.proofs.Only.{only-number, only-numbered, only_next, only-to-rank, only-to-number}
use Rattle.dictionary.proofs.Contracts as dictionary
use Rattle.panel.proofs.Only.{only-port-at, only-jack-of, only-carry}
use Rattle.panel.proofs.Contracts.{port-at-says, jack-of-says, carry-says}
use Rattle.text_numbers.proofs.Only.{only-read-number, only-read-signed, only-places, only-digits}
use Rattle.text_numbers.proofs.Contracts.{read-number-says, read-signed-says, places-says, digits-says}
use Rattle.text_keys.proofs.Only.{only-find, only-has-key}
use Rattle.text_keys.proofs.Contracts.{find-says, has-key-says}
use Rattle.line_writer.proofs.Only.{only-write-line}
use Rattle.line_writer.proofs.Contracts.{write-line-says}
use Rattle.line_reader.proofs.Only.{only-read-line}
use Rattle.line_reader.proofs.Contracts.{read-line-says}
use Rattle.line_refusal.proofs.Only.{only-refusal-words}
use Rattle.line_refusal.proofs.Contracts.{refusal-words-says}
use Rattle.line_sentence.proofs.Only.{only-refusal-sentence}
use Rattle.line_sentence.proofs.Contracts.{refusal-sentence-says}
use Rattle.plans.proofs.Only.{only-read-plan}
use Rattle.plans.proofs.Contracts.{read-plan-says}
use Rattle.plan_named.proofs.Only.{only-named}
use Rattle.plan_named.proofs.Contracts.{named-says}
use Rattle.campaign.proofs.Only.{only-request, only-request-bytes, only-report, only-begin}
use Rattle.campaign.proofs.Contracts.{begin-says, request-says, report-says, report-mark-says}
use Rattle.campaign_onward.proofs.Only.{only-status, only-resume}
use Rattle.campaign_onward.proofs.Contracts.{status-says, resume-says}
use Rattle.printing.proofs.Only.{only-rehearse, only-fill}
use Rattle.printing.proofs.Contracts.{rehearse-says, fill-says}
use Rattle.face_laws.proofs.Only as face
use Rattle.face_words.proofs.Contracts as face-words
use Rattle.face_patterns.proofs.Contracts as face-patterns
use Rattle.face_dictionary.proofs.Contracts as face-dictionary
use Rattle.face_panel.proofs.Contracts as face-panel
use Rattle.face_lines.proofs.Contracts as face-lines
use Rattle.face_plans.proofs.Contracts as face-plans
use Rattle.face_campaign.proofs.Contracts as face-campaign
use Rattle.demands.specs.Only.{EachCallOne}

-- two runs give the same if what the contract says of them makes them so
pub one-by : {K : Type 0} {A R E L : K → Type 0} {learnt this : Contract K A R E} {gives : (κs : K) → R κs → E κs → L κs}
    → Says learnt this → One this gives → One learnt gives
one-by says one κs a r s e f h k = one κs a r s e f (says κs a r e h) (says κs a s f k)

-- the answer and the bytes beside it
both : {X Y : Type 0} {r s : X} {b c : Y} → (r ≡ s) × (b ≡ c) → ◌≡◌ {A = X × Y} (r, b) (s, c)
both p = λ i. (p.0 i, p.1 i)

pub each-call-one : EachCallOne
each-call-one = record {
  check = one-by check-says (λ κs a r s e f. only-check _ _ r s);
  check_panel = one-by check-panel-says (λ κs a r s e f. only-check _ _ r s);
  count = one-by count-says (λ κs a r s e f. only-count _ r s);
  rank = one-by rank-says (λ κs a r s e f. only-rank _ r s);
  unrank = one-by unrank-says (λ κs a r s e f h k. both (only-unrank _ _ r s _ _ h.0 h.1 k.0 k.1));
  next = one-by next-says (λ κs a r s e f h k. both (only-beside _ _ r s _ _ h.0 h.1 k.0 k.1));
  previous = one-by previous-says (λ κs a r s e f h k. both (only-beside _ _ r s _ _ h.0 h.1 k.0 k.1));
  step = one-by step-says (λ κs a r s e f. only_step _ _ _ r s);
  number = one-by dictionary.number-says (λ κs a r s e f. only-number _ r s);
  numbered = one-by dictionary.numbered-says (λ κs a r s e f h k. both (only-numbered _ _ r s _ _ h.0 h.1 k.0 k.1));
  next_in_order = one-by dictionary.next-says (λ κs a r s e f h k. both (only_next _ r s _ _ h.0 h.1 k.0 k.1));
  to_rank = one-by dictionary.to-rank-says (λ κs a r s e f. only-to-rank _ _ r s);
  to_number = one-by dictionary.to-number-says (λ κs a r s e f. only-to-number _ _ r s);
  port_at = one-by port-at-says (λ κs a r s e f. only-port-at _ _ r s);
  jack_of = one-by jack-of-says (λ κs a r s e f. only-jack-of _ _ r s);
  carry = one-by carry-says (λ κs a r s e f h k. both (only-carry _ _ r s _ _ h.0 h.1 k.0 k.1));
  read_number = one-by read-number-says (λ κs a r s e f. only-read-number _ r s);
  read_signed = one-by read-signed-says (λ κs a r s e f. only-read-signed _ r s);
  places = one-by places-says (λ κs a r s e f. only-places _ r s);
  digits = one-by digits-says (λ κs a r s e f. only-digits _ r s);
  find = one-by find-says (λ κs a r s e f. only-find _ _ r s);
  has_key = one-by has-key-says (λ κs a r s e f. only-has-key _ _ r s);
  write_line = one-by write-line-says (λ κs a r s e f h k. both (only-write-line _ _ r s _ _ h.0 h.1 k.0 k.1));
  read_line = one-by read-line-says (λ κs a r s e f. only-read-line _ _ r s);
  refusal_words = one-by refusal-words-says (λ κs (number, (buf, _)) r s e f h k. both (only-refusal-words number buf.now r s _ _ h.0 h.1 k.0 k.1));
  refusal_sentence = one-by refusal-sentence-says
      (λ κs (number, (place, (earlier, (buf, _)))) r s e f h k.
      both (only-refusal-sentence number place earlier buf.now r s _ _ h.0 h.1 k.0 k.1));
  read_plan = one-by read-plan-says (λ κs a r s e f. only-read-plan _ r s);
  named = one-by named-says (λ κs (text, (gaps, _)) r s e f h k. both (only-named text.now gaps.now r s _ _ h.0 h.1 k.0 k.1));
  begin = one-by begin-says (λ κs a r s e f. only-begin _ r s);
  request = one-by request-says (λ κs a r s e f h k. both (only-request _ _ _ r s h.0 k.0, only-request-bytes _ _ _ _ h.1 k.1));
  report = one-by report-says (λ κs a r s e f. only-report _ _ _ r s);
  report_mark = one-by report-mark-says (λ κs a r s e f. only-report _ _ _ r s);
  status = one-by status-says (λ κs (c, _) r s e f. only-status c.state r s);
  resume = one-by resume-says (λ κs (c, (panel, _)) r s e f. only-resume c.state panel.now r s);
  rehearse = one-by rehearse-says (λ κs a r s e f. only-rehearse _ r s);
  fill = one-by fill-says (λ κs (p, (buf, _)) r s e f h k. both (only-fill p buf.now r s _ _ h.0 h.1 k.0 k.1));
  face_version = one-by face-words.version-says (λ κs a r s e f. face.only-version _ _);
  face_refusal_words = one-by face-words.refusal-words-says (λ κs (number, (buf, _)) r s e f. face.only-refusal-words number buf.now _ _);
  face_refusal_sentence = one-by face-words.refusal-sentence-says
      (λ κs (number, (refused, (buf, _))) r s e f. face.only-refusal-sentence number (get_or refused.now 0 0) (get_or refused.now 1 0) buf.now _ _);
  face_check = one-by face-patterns.check-says (λ κs a r s e f. face.only-check _ _ _ _);
  face_check_panel = one-by face-patterns.check-panel-says (λ κs a r s e f. face.only-check _ _ _ _);
  face_count = one-by face-patterns.count-says (λ κs a r s e f. face.only-count _ _ _);
  face_rank = one-by face-patterns.rank-says (λ κs a r s e f. face.only-rank _ _ _);
  face_unrank = one-by face-patterns.unrank-says (λ κs a r s e f. face.only-unrank _ _ _ _);
  face_next = one-by face-patterns.next-says (λ κs a r s e f. face.only-beside _ _ _ _);
  face_previous = one-by face-patterns.previous-says (λ κs a r s e f. face.only-beside _ _ _ _);
  face_step = one-by face-patterns.step-says (λ κs a r s e f. face.only_step _ _ _ _ _);
  face_dictionary_number = one-by face-dictionary.dictionary-number-says (λ κs a r s e f. face.only-dictionary-number _ _ _);
  face_dictionary_pattern = one-by face-dictionary.dictionary-pattern-says (λ κs a r s e f. face.only-dictionary-pattern _ _ _ _);
  face_dictionary_next = one-by face-dictionary.dictionary-next-says (λ κs a r s e f. face.only-dictionary-next _ _ _);
  face_number_to_rank = one-by face-dictionary.number-to-rank-says (λ κs a r s e f. face.only-number-to-rank _ _ _ _);
  face_rank_to_number = one-by face-dictionary.rank-to-number-says (λ κs a r s e f. face.only-rank-to-number _ _ _ _);
  face_port_at = one-by face-panel.port-at-says (λ κs a r s e f. face.only-port-at _ _ _ _);
  face_jack_of = one-by face-panel.jack-of-says (λ κs a r s e f. face.only-jack-of _ _ _ _);
  face_carry = one-by face-panel.carry-says (λ κs (panel, (line, _)) r s e f. face.only-carry line.now panel.now _ _);
  face_write_line = one-by face-lines.write-line-says (λ κs (line, (buf, _)) r s e f. face.only-write-line line.now buf.now _ _);
  face_read_line = one-by face-lines.read-line-says (λ κs a r s e f. face.only-read-line _ _ _ _);
  face_named = one-by face-plans.named-says (λ κs (text, (gaps, _)) r s e f. face.only-named text.now gaps.now _ _);
  face_begin = one-by face-campaign.begin-says (λ κs a r s e f. face.only-begin _ _ _ _);
  face_request = one-by face-campaign.request-says (λ κs (state, (buf, _)) r s e f. face.only-request state.now buf.now _ _);
  face_report = one-by face-campaign.report-says (λ κs a r s e f. face.only-report _ _ _ _);
  face_report_mark = one-by face-campaign.report-mark-says (λ κs a r s e f. face.only-report-mark _ _ _ _ _);
  face_status = one-by face-campaign.status-says (λ κs a r s e f. face.only-status _ _ _);
  face_resume = one-by face-campaign.resume-says (λ κs (state, (panel, _)) r s e f. face.only-resume panel.now state.now _ _);
  face_rehearse = one-by face-campaign.rehearse-says (λ κs a r s e f. face.only-rehearse _ _ _ _);
  face_orders = one-by face-campaign.orders-says (λ κs (rehearsal, (buf, _)) r s e f. face.only-orders rehearsal.now buf.now _ _);
}
