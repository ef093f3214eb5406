-- A refused call leaves the state or the rehearsal as it was, so the words of what a call leaves are those that are left: after a request or a report
-- (`called-left`, of a report whole `reported-told`, `unread-told`), and after the orders in bulk (`orders-left`).
-- Assumes nothing.
use mathlib.Core.Path.{◌≡◌, sym, ap, ◌∙◌}
use mathlib.Core.List.{List}
use mathlib.Core.Option.{none, some}
use Prim.Native.Nat.{ℕ}
use Rattle.words.specs.Told.{Spot, refused, nowhere}
use Rattle.promise.specs.Campaign.{Call, refusal}
use Rattle.campaign_state.specs.declared.State.{State}
use Rattle.campaign.specs.Calls.{answer_of, after, left_of}
use Rattle.campaign.specs.Answers.{heard_told, ReportIs}
use Rattle.campaign.specs.declared.Reported.{Reported}
use Rattle.campaign.proofs.Tells.{told-refused, left_so}
use Rattle.campaign.proofs.Moments.{refusal-leaves}
use Rattle.printing.specs.declared.Rehearsal.{Rehearsal}
use Rattle.printing.proofs.Refused.{rehearsal-stays}
use Rattle.face_state.specs.States.{state_words, state_in}
use Rattle.face_state.specs.Rehearsals.{rehearsal_words, rehearsal_in}
use Rattle.face_state.proofs.Back.{words_back}
use Rattle.face_state.proofs.RehearsalWords.{rehearsal-words-back}
use Rattle.face_laws.specs.Calls.{states, rehearsals, told_by, called_told, called_words, print_told, print_left, orders_words}
use Rattle.face_laws.proofs.OnState.{on-told, on-left, off-told, off-left}

-- a refusal leaves the state
refusal-stays : (c : Call) (s : State) (k : ℕ) → answer_of c s ≡ refusal k → left_of c s ≡ s
unfolding left_of
refusal-stays c s k e = ap (λ a. after c a s) e ∙ sym (refusal-leaves c k s)

-- so does a refused request or report
call_stays : (c : Call) (s : State) (k : ℕ) (p : Spot) → told_by c s ≡ refused k p → left_of c s ≡ s
call_stays c s k p e = refusal-stays c s k (told-refused (answer_of c s) e)

pub called-left : (c : Call) (ws : List ℕ) {s left : State} → some s ≡ state_in ws → left ≡ after c (answer_of c s) s → state_words left ≡ called_words c ws
called-left c ws {s} e l = on-left states (told_by c) ws e words_back (left_of c) (call_stays c s) (left_so c s l)

-- ---- a report, of the mark that stands or of one that it names

module _ (c : Call) (ws : List ℕ) where
  -- on words of a state: what it answered is told, and the words of the state that it left are left
  pub reported-told : {s : State} {r : Reported} → some s ≡ state_in ws → ReportIs c (answer_of c s) s r
      → (heard_told r.answer ≡ called_told c ws) × (state_words r.campaign.state ≡ called_words c ws)
  reported-told e h = (h.answer ∙ on-told states (told_by c) ws e, called-left c ws e h.state)

  -- on others: 15, and they stay
  pub unread-told : none ≡ state_in ws → (refused 15 nowhere ≡ called_told c ws) × (ws ≡ called_words c ws)
  unread-told e = (off-told states ws e (told_by c), off-left states ws e (told_by c) (left_of c))

-- ---- the orders in bulk
pub orders-left : (room : ℕ) (ws : List ℕ) {r left : Rehearsal} → some r ≡ rehearsal_in ws → left ≡ print_left room r → rehearsal_words left ≡ orders_words room ws
orders-left room ws {r} e l = on-left rehearsals (print_told room) ws e rehearsal-words-back (print_left room) (rehearsal-stays room r) l
