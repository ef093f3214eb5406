-- A buffer that is filled with more to come leaves less to go (`filled-less`), on every state that calls on an accepted plan leave: so the order printer
-- ends, however many marks the plan has.
-- Assumes nothing.
use mathlib.Core.Path.{◌≡◌, refl, sym, ap, subst, ◌∙◌}
use mathlib.Core.Logic.{◌≢◌}
use mathlib.Core.Bool.{true, false, true≢false}
use mathlib.Core.List.{List}
use mathlib.Core.Option.{Option}
use Prim.Native.Nat.{ℕ, zero, suc, ◌-◌, ◌≤◌, ◌<◌}
use native.Mathlib.Omega.{arith}
use lib.ListN.{length}
use Rattle.listing.proofs.Numbers.{either, test}
use Rattle.words.specs.Told.{Told, accepted, refused, then}
use Rattle.promise.specs.Campaign as model
use Rattle.promise.specs.Campaign.{Setting, Call, request, report_to, report, movement, seat, mark, the_end, taken, refusal}
use Rattle.promise.specs.Fitness.{Fit}
use Rattle.promise.specs.Progress.{work, brings_on}
use Rattle.promise.proofs.Steps.{Does, moves-on, seats-on, hands_out, ends, closes, errs, refuses}
use Rattle.promise.proofs.Progress.{work-moved, work-seated, work-marked, work-closing}
use Rattle.promise.proofs.Refusals.{ran-taken}
use Rattle.plan_rules.specs.Planned.{Planned}
use Rattle.plans.specs.Calls.{read_plan_of}
use Rattle.campaign_state.specs.State.{width, setting_of, moment_of}
use Rattle.campaign_state.specs.declared.State.{State}
use Rattle.campaign.specs.Calls.{answer_of, left_of, begun_of}
use Rattle.campaign_reached.specs.Turns.{AcceptedPlan, campaign_of}
use Rattle.campaign_reached.proofs.Begun.{lawful, accepts}
use Rattle.campaign_reached.proofs.Kept.{left-setting, answer-on, left-on}
use Rattle.campaign_reached.proofs.Reached.{Reached, reached-first, does-there, reached-left}
use Rattle.printing.specs.Printing.{as_run, sequel, more, Printout, onward, lines_from, lines_in}
use Rattle.printing.specs.Answers.{stop_told, fill_of}
use Rattle.printing.specs.Progress.{to_go}
use Rattle.printing.proofs.Lines.{lines-on, lines-off, goes-on, stops, ends as finishes}

-- a state that calls on an accepted plan leave
pub record Running (s : State) : Type 0 where
  pub plan : AcceptedPlan
  pub reached : Reached plan s

-- the campaign that a text begins, where it is accepted
pub running-begun : (t : List ℕ) → ◌≡◌ {A = Told (Unit {0})} (accepted tt) (then (read_plan_of t) (λ p. accepted tt)) → Running (begun_of t)
running-begun t e = by (read_plan_of t) refl e
  where
    by : (r : Told Planned) → read_plan_of t ≡ r → ◌≡◌ {A = Told (Unit {0})} (accepted tt) (then r (λ p. accepted tt)) → Running (begun_of t)
    by (accepted p) x h = let P : AcceptedPlan = record { text = t; plan = p; accepts = x } in record { plan = P; reached = reached-first P }
    by (refused k q) x h = absurd (true≢false (cc))

module _ (s : State) (R : Running s) where
  abbrev C : Setting
  C = campaign_of R.plan

  -- what is to go, by the plan
  go-by : to_go s ≡ work C (moment_of s)
  go-by = ap (λ D. work D (moment_of s)) R.reached.setting

  pub running-left : (c : Call) → Running (left_of c s)
  running-left c = record { plan = R.plan; reached = reached-left R.plan s R.reached c }

  -- what a call does to it, but for an error
  does-less : {c : Call} {a : model.Answer} {n : model.State} → ((o : Option ℕ) → c ≢ report_to o 1) → brings_on a ≡ true → Fit C n → Does C (moment_of s) c a n
      → work C n < work C (moment_of s)
  does-less x b g (moves-on o os st en ns w) =
      work-moved C (lawful R.plan) (accepts R.plan) (moment_of s) R.reached.fit o os st en w
  does-less x b g (seats-on sn) =
      omega (arith, work-seated C (lawful R.plan) (accepts R.plan) (moment_of s) R.reached.fit sn)
  does-less x b g (hands_out st en ns w) =
      work-marked C (lawful R.plan) (accepts R.plan) (moment_of s) st en w
  does-less x b g (ends en) = absurd (true≢false (sym b))
  does-less {n = n} x b g (closes {kind = kind} st cl h) =
      work-closing C (lawful R.plan) (accepts R.plan) (moment_of s) n kind R.reached.fit st h g
  does-less x b g (errs {o = o} st lt) = absurd (x o refl)
  does-less x b g (refuses k k15) = absurd (true≢false (sym b))

-- a call that brings the campaign on leaves less to go
go-less : (s : State) (R : Running s) (c : Call) → ((o : Option ℕ) → c ≢ report_to o 1) → brings_on (answer_of c s) ≡ true → to_go (left_of c s) < to_go s
unfolding running-left
go-less s R c x b =
    let l = does-less s R x b (running-left s R c).reached.fit (does-there R.plan s R.reached c) in
    omega (arith, l, go-by s R, go-by (left_of c s) (running-left s R c))

-- an answer that no line follows leaves the moment, and nothing is to be reported
still : (C : Setting) (room : ℕ) (m : model.State) (a : model.Answer) → more (sequel a) ≡ false → model.after C (request room) a m ≡ m
unfolding model.after
still C room m (movement o) h = absurd (true≢false h)
still C room m (seat j) h = absurd (true≢false h)
still C room m (mark k r) h = absurd (true≢false h)
still C room m (the_end k) h = refl
still C room m taken h = refl
still C room m (refusal k) h = refl

none-ran : (a : model.Answer) → more (sequel a) ≡ false → (s : State) → as_run a s ≡ s
none-ran (movement o) h s = refl
none-ran (seat j) h s = refl
none-ran (mark k r) h s = absurd (true≢false h)
none-ran (the_end k) h s = refl
none-ran taken h s = refl
none-ran (refusal k) h s = refl

module _ (s : State) (R : Running s) (room : ℕ) where
  -- after a mark, the report that it ran is taken
  pub mark-taken : (k r : ℕ) → answer_of (request room) s ≡ mark k r → answer_of (report 0) (left_of (request room) s) ≡ taken
  unfolding running-left model.after
  mark-taken k r e =
      let c : Call = request room in
      let t = left_of c s in
      let D = campaign_of R.plan in
      let Q = (running-left s R c).reached in
      let said = answer-on D s R.reached.kept R.reached.setting c in
      let st : (moment_of t).standing ≡ true =
      ap (λ m. m.standing)
      (left-on D s R.reached.kept R.reached.setting c ∙ ap (λ a. model.after D c a (moment_of s)) (sym said ∙ e)) in
      answer-on D t Q.kept Q.setting (report 0) ∙ ran-taken D (moment_of t) Q.fit st

  -- after a request whose line others follow, its mark reported as run, the campaign runs on with less to go
  pub run_on : (a : model.Answer) → answer_of (request room) s ≡ a → more (sequel a) ≡ true
      → Running (as_run a (left_of (request room) s)) × (to_go (as_run a (left_of (request room) s)) < to_go s)
  run_on (movement o) e h = (running-left s R (request room), go-less s R (request room) (λ o x. true≢false (cc)) (ap brings_on e))
  run_on (seat j) e h = (running-left s R (request room), go-less s R (request room) (λ o x. true≢false (cc)) (ap brings_on e))
  run_on (mark k r) e h =
      let Q = running-left s R (request room) in
      let less = go-less s R (request room) (λ o x. true≢false (cc)) (ap brings_on e) in
      let ran = go-less (left_of (request room) s) Q (report 0) (λ o x. true≢false (cc)) (ap brings_on (mark-taken k r e)) in
      (running-left (left_of (request room) s) Q (report 0), omega (arith, less, ran))
  run_on (the_end k) e h = absurd (true≢false (sym h))
  run_on taken e h = absurd (true≢false (sym h))
  run_on (refusal k) e h = absurd (true≢false (sym h))

  -- after the last line it has as much to go
  run-last : more (sequel (answer_of (request room) s)) ≡ false → Running (onward room s) × (to_go (onward room s) ≡ to_go s)
  run-last h =
      let c : Call = request room in
      let D = campaign_of R.plan in
      let k = R.reached.kept in
      let said = answer-on D s k R.reached.setting c in
      let left : moment_of (left_of c s) ≡ moment_of s =
      left-on D s k R.reached.setting c ∙ ap (λ a. model.after D c a (moment_of s)) (sym said) ∙ still D room (moment_of s) (answer_of c s) h in
      let same : to_go (left_of c s) ≡ to_go s = ap (λ E. work E (moment_of (left_of c s))) (left-setting s k c) ∙ ap (work (setting_of s)) left in
      subst (λ x. Running x × (to_go x ≡ to_go s)) (sym (none-ran (answer_of c s) h (left_of c s))) (running-left s R c, same)

-- after an answer that no line follows nothing is
not_more : (a : model.Answer) → more (sequel a) ≡ false → (n : ℕ) → stop_told (width a) (sequel a) ≢ accepted (n, false)
unfolding finishes
not_more (movement o) h n e = absurd (true≢false h)
not_more (seat j) h n e = absurd (true≢false h)
not_more (mark k r) h n e = absurd (true≢false h)
not_more (the_end k) h n e = true≢false (ap finishes e)
not_more taken h n e = true≢false (ap finishes e)
not_more (refusal k) h n e = true≢false (ap finishes e)

-- the lines leave a campaign that runs on, with no more to go
lines-run : (k room : ℕ) (s : State) → Running s → Running (lines_from k room s).left × (to_go (lines_from k room s).left ≤ to_go s)
unfolding lines_from
lines-run zero room s R = (R, omega arith)
lines-run (suc k) room s R =
    let a = answer_of (request room) s in
    either (test (more (sequel a)))
    (λ e.
    let on = run_on s R room a refl e in
    let rest = lines-run k (room - width a) (onward room s) on.0 in
    subst (λ (x : Printout). Running x.left × (to_go x.left ≤ to_go s)) (sym (lines-on room s k e)) (rest.0, omega (arith, rest.1, on.1)))
    (λ e.
    let last = run-last s R room e in
    subst (λ (x : Printout). Running x.left × (to_go x.left ≤ to_go s)) (sym (lines-off room s k e)) (last.0, omega (arith, last.1)))

module _ (room : ℕ) (s : State) (R : Running s) where
  -- so a filled buffer leaves a campaign that runs on,
  pub filled-run : Running (lines_in room s).left
  filled-run = (lines-run (suc room) room s R).0

  -- with less to go where more is to come
  pub filled-less : (n : ℕ) → fill_of room s ≡ accepted (n, false) → to_go (lines_in room s).left < to_go s
  filled-less n h =
      let a = answer_of (request room) s in
      either (test (more (sequel a)))
      (λ e.
      let on = run_on s R room a refl e in
      let rest = lines-run (suc (room - width a)) (room - width a) (onward room s) on.0 in
      subst (λ (x : Printout). to_go x.left < to_go s) (sym (goes-on room s e)) (omega (arith, rest.1, on.1)))
      (λ e. absurd (not_more a e n (ap (λ (x : Printout). stop_told (length x.text) (sequel x.stop)) (sym (stops room s e)) ∙ h)))
