-- What an answer shows of the state that it was given on and of the state that is left.
-- Assumes nothing.
use mathlib.Core.Path.{◌≡◌, refl, subst}
use mathlib.Core.Bool.{false}
use mathlib.Core.Option.{some}
use mathlib.Core.List.{[]}
use Prim.Native.Nat.{ℕ, ◌<◌}
use Rattle.promise.specs.Plan.{Lawful, Accepted}
use Rattle.promise.specs.Campaign.{State, with_seat, Call, Answer, movement, seat, mark, the_end, taken, refusal, seat_after, Setting, here, number_of, rank_of}
use Rattle.promise.specs.Campaign.{todo, answer}
use Rattle.promise.specs.Fitness.{Fit}
use Rattle.promise.specs.Progress.{work}
use Rattle.promise.proofs.Ways.{way-done}
use Rattle.promise.proofs.Steps.{Does, moves-on, seats-on, hands_out, ends, closes, errs, refuses, does-so, listed_here, fit-after}
use Rattle.promise.proofs.Marks.{closed-so}
use Rattle.promise.proofs.Progress.{work-moved}
use Rattle.promise_onward.specs.Cuts.{left}

-- a mark is handed out where nothing is to come before it: it is the state's, and its pattern is on the panel
pub record Handed (C : Setting) (s : State) (k r : ℕ) : Type 0 where
  pub number : k ≡ number_of C s
  pub rank : r ≡ rank_of C s
  pub standing : s.standing ≡ false
  pub ended : s.ended ≡ false
  pub unseated : s.to_seat ≡ 0
  pub over : todo C s ≡ some []
  pub met : s.panel ≡ C.family.pattern r

-- what an answer shows, t being left of s: an order brings the end nearer, and no jack is to be seated; a seat is the one that is next, and leaves the jack
-- after it; a mark is handed out so; after a report no mark stands
abbrev pub Shows : Setting → State → State → Answer → Type 0
Shows C s t (movement o) = (work C t < work C s) × (s.to_seat ≡ 0)
Shows C s t (seat j) = (j ≡ s.to_seat) × (0 < j) × (t ≡ with_seat (seat_after C.family.ports j) s)
Shows C s t (mark k r) = Handed C s k r
Shows C s t (the_end k) = Unit {0}
Shows C s t taken = t.standing ≡ false
Shows C s t (refusal k) = Unit {0}

module _ (C : Setting) (lawful : Lawful C.family) (accepted : Accepted C.family C.legs) (s : State) (f : Fit C s) where
  -- the state that a call leaves is fit
  pub left-fit : (c : Call) → Fit C (left C c s)
  left-fit c = fit-after C lawful accepted f (does-so C s f c)

  -- every answer on a fit state shows that
  shows-so : {t : State} {c : Call} {a : Answer} → Does C s c a t → Shows C s t a
  shows-so (moves-on o os st en ns w) = (work-moved C lawful accepted s f o os st en w, ns)
  shows-so (seats-on sn) = (refl, sn, refl)
  shows-so (hands_out st en ns w) = record {
    number = refl;
    rank = refl;
    standing = st;
    ended = en;
    unseated = ns;
    over = w;
    met = way-done C.family lawful (here C s) s.step (listed_here C lawful accepted s f) s.panel w;
  }
  shows-so (ends en) = tt
  shows-so (closes st cl x) = (closed-so x).standing
  shows-so (errs st lt) = refl
  shows-so (refuses k n) = tt

  -- so where the answer is known
  pub shows : (c : Call) (a : Answer) → answer C c s ≡ a → Shows C s (left C c s) a
  shows c a e = subst (Shows C s (left C c s)) e (shows-so (does-so C s f c))
