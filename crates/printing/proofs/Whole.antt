-- Each buffer holds the next part of the whole output, and what it leaves goes on with the rest (`next-part`): nothing is lost between buffers and nothing
-- is printed twice, whatever the buffers' sizes.
-- Assumes nothing.
use mathlib.Core.Path.{◌≡◌, refl, sym, ap, subst, ◌∙◌}
use mathlib.Core.Bool.{Bool, true, false, cond, true≢false}
use mathlib.Core.List.{[], ◌++◌, append_assoc, append-nil}
use Prim.Native.Nat.{ℕ, zero, suc, ◌-◌, ◌<◌}
use native.Mathlib.Omega.{arith}
use Rattle.listing.proofs.Numbers.{either, test}
use Rattle.words.specs.Told.{Told, Spot, accepted, refused}
use Rattle.words.proofs.Told.{not-both}
use Rattle.promise.specs.Campaign as model
use Rattle.promise.specs.Campaign.{Call, request, movement, seat, mark, the_end, taken, refusal}
use Rattle.promise.proofs.Refusals.{Answered, refused as why-refused, given, answered-so, served}
use Rattle.campaign_state.specs.State.{answer_text, width, moment_of}
use Rattle.campaign_state.specs.declared.State.{State}
use Rattle.campaign.specs.Calls.{answer_of, after, left_of}
use Rattle.campaign.proofs.Moments.{refusal-leaves}
use Rattle.campaign.proofs.Tells.{any-room}
use Rattle.campaign_reached.specs.Turns.{campaign_of}
use Rattle.campaign_reached.proofs.Kept.{answer-on}
use Rattle.campaign_reached.proofs.Room.{offer-45}
use Rattle.printing.specs.Printing.{as_run, sequel, more, Printout, onward, lines_from, lines_in}
use Rattle.printing.specs.Progress.{to_go, any_line, whole_from, whole, still_to_come}
use Rattle.printing.proofs.Lines.{lines-on, lines-off}
use Rattle.printing.proofs.Progress.{Running, run_on}

-- ---- the room decides only whether a line is given

module _ (s : State) (R : Running s) (room : ℕ) where
  -- a line that is given is the one that any room gives
  line_same : (b : Bool) → sequel (answer_of (request room) s) ≡ accepted b → answer_of (request any_line) s ≡ answer_of (request room) s
  line_same b e =
      let C = campaign_of R.plan in
      let m = moment_of s in
      let k = R.reached.kept in
      let said : (c : Call) → answer_of c s ≡ model.answer C c m = answer-on C s k R.reached.setting in
      said (request any_line)
      ∙ by (model.answer C (request room) m) (answered-so C m (request room) R.reached.fit) (ap sequel (sym (said (request room))) ∙ e)
      ∙ sym (said (request room))
    where
      by : (x : model.Answer) → Answered (campaign_of R.plan) (moment_of s) (request room) x → sequel x ≡ accepted b
          → model.answer (campaign_of R.plan) (request any_line) (moment_of s) ≡ x
      by x (why-refused w) h = absurd (not-both h)
      by x (given st) h =
          served (campaign_of R.plan) (moment_of s) any_line R.reached.fit st (offer-45 R.plan (moment_of s) R.reached.fit st)

  -- and leaves what that leaves
  onward-same : (b : Bool) → sequel (answer_of (request room) s) ≡ accepted b → onward any_line s ≡ onward room s
  unfolding left_of
  onward-same b e =
      let a = answer_of (request room) s in
      ap (λ x. as_run x (after (request any_line) x s)) (line_same b e) ∙ ap (as_run a) (any-room any_line room a s)

-- ---- the whole output, line by line

-- more requests than calls to go print the same
whole-enough : (j k : ℕ) (s : State) → Running s → to_go s < j → to_go s < k → whole_from j s ≡ whole_from k s
unfolding whole_from
whole-enough zero k s R h g = absurd (omega arith)
whole-enough (suc j) zero s R h g = absurd (omega arith)
whole-enough (suc j) (suc k) s R h g =
    let a = answer_of (request any_line) s in
    either (test (more (sequel a)))
    (λ e.
    let on = run_on s R any_line a refl e in
    ap (λ x. answer_text a ++ cond (more (sequel a)) x [])
    (whole-enough j k (onward any_line s) on.0 (omega (arith, on.1)) (omega (arith, on.1))))
    (λ e.
    ap (λ b. answer_text a ++ cond b (whole_from j (onward any_line s)) []) e
    ∙ sym (ap (λ b. answer_text a ++ cond b (whole_from k (onward any_line s)) []) e))

module _ (s : State) (R : Running s) where
  abbrev a : model.Answer
  a = answer_of (request any_line) s

  -- a line in front of what follows it
  whole-on : more (sequel a) ≡ true → whole s ≡ answer_text a ++ whole (onward any_line s)
  unfolding whole_from
  whole-on e =
      let on = run_on s R any_line a refl e in
      ap (λ b. answer_text a ++ cond b (whole_from (to_go s) (onward any_line s)) []) e
      ∙ ap (λ x. answer_text a ++ x) (whole-enough (to_go s) (suc (to_go (onward any_line s))) (onward any_line s) on.0 on.1 (omega arith))

  -- the last line
  whole-off : more (sequel a) ≡ false → whole s ≡ answer_text a
  unfolding whole_from
  whole-off e = ap (λ b. answer_text a ++ cond b (whole_from (to_go s) (onward any_line s)) []) e ∙ append-nil (answer_text a)

-- ---- buffer by buffer

-- lines follow an answer that is not refused
more-follow : (t : Told Bool) → more t ≡ true → t ≡ accepted true
more-follow (accepted b) e = ap accepted e
more-follow (refused k p) e = absurd (true≢false (sym e))

-- a refusal writes nothing and leaves the state
pub refused-still : (room : ℕ) (s : State) (k : ℕ) → answer_of (request room) s ≡ refusal k → (answer_text (answer_of (request room) s) ≡ []) × (onward room s ≡ s)
unfolding left_of
refused-still room s k e =
    (ap answer_text e, ap (λ x. as_run x (after (request room) x s)) e ∙ sym (refusal-leaves (request room) k s))

sequel-refused : (a : model.Answer) (k : ℕ) {p : Spot} → sequel a ≡ refused k p → a ≡ refusal k
sequel-refused (movement o) k e = absurd (not-both (sym e))
sequel-refused (seat j) k e = absurd (not-both (sym e))
sequel-refused (mark j r) k e = absurd (not-both (sym e))
sequel-refused (the_end j) k e = absurd (not-both (sym e))
sequel-refused taken k e = absurd (not-both (sym e))
sequel-refused (refusal j) k e = let n : j ≡ k = cc in ap refusal n

-- what lines print, and what is still to come after them, are the whole
abbrev Parts : State → Printout → Type 0
Parts s x = whole s ≡ x.text ++ still_to_come (sequel x.stop) x.left

lines-part : (k room : ℕ) (s : State) → Running s → Parts s (lines_from k room s)
unfolding lines_from
lines-part zero room s R = refl
lines-part (suc k) room s R =
    let x = answer_of (request room) s in
    either (test (more (sequel x)))
    (λ e.
    let same = line_same s R room true (more-follow (sequel x) e) in
    let rest = lines_from k (room - width x) (onward room s) in
    subst (Parts s) (sym (lines-on room s k e))
    (whole-on s R (ap (λ y. more (sequel y)) same ∙ e)
    ∙ ap (λ y. answer_text y ++ whole (onward any_line s)) same
    ∙ ap (λ y. answer_text x ++ whole y) (onward-same s R room true (more-follow (sequel x) e))
    ∙ ap (λ y. answer_text x ++ y) (lines-part k (room - width x) (onward room s) (run_on s R room x refl e).0)
    ∙ sym (append_assoc (answer_text x) rest.text (still_to_come (sequel rest.stop) rest.left))))
    (λ e. subst (Parts s) (sym (lines-off room s k e)) (last room s R (sequel x) refl e))
  where
    last : (room : ℕ) (s : State) → Running s → (t : Told Bool) → sequel (answer_of (request room) s) ≡ t → more (sequel (answer_of (request room) s)) ≡ false
        → whole s ≡ answer_text (answer_of (request room) s) ++ still_to_come t (onward room s)
    last room s R (accepted b) h e =
        let same = line_same s R room b h in
        whole-off s R (ap (λ y. more (sequel y)) same ∙ e) ∙ ap answer_text same ∙ sym (append-nil (answer_text (answer_of (request room) s)))
    last room s R (refused k p) h e =
        let r = refused-still room s k (sequel-refused (answer_of (request room) s) k h) in
        ap whole (sym r.1) ∙ ap (λ y. y ++ whole (onward room s)) (sym r.0)

-- so each buffer has the next part
pub next-part : (room : ℕ) (s : State) → Running s → whole s ≡ (lines_in room s).text ++ still_to_come (sequel (lines_in room s).stop) (lines_in room s).left
next-part room s R = lines-part (suc room) room s R
