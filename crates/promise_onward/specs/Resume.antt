-- A campaign taken up again: the panel that is read back, put into the saved state, and its seats begun anew.
-- Assumes nothing.
use Rattle.std.specs.Prelude.{ℕ, ◌≤◌, ◌<◌, ◌≡◌, true, false, cond, List}
use Rattle.promise.specs.Campaign.{State, with_panel, with_seat, tick, seating, Setting, here, wanted, fit}
use Rattle.promise.specs.Fitness.{OnTheWay, Fit}
use Rattle.promise.specs.Onward.{Past, Agrees}

-- the state with its seats begun anew: a panel that is read back cannot show whether a seat was done, and a seat done twice harms nothing. A state with no jack
-- to seat stays
abbrev pub anew : State → State
anew s = with_seat (tick (seating s)) s

-- a state in which no seat of a row is done while others are to come: with none to seat, or with all
abbrev pub Settled : State → Type 0
Settled s = s.to_seat ≤ 1

-- the saved state x with the panel q that was read back, and its seats begun anew
abbrev pub resumed : List ℕ → State → State
resumed q x = anew (with_panel q x)

-- what taking it up answers: the state to go on with, or a refusal
pub data Resumption : Type 0 where
  goes_on : State → Resumption
  refused : ℕ → Resumption

-- the campaign is taken up: the panel is put in, and the state that this makes is refused with 15 if it is unfit; else its seats begin anew
unfoldable pub resume : Setting → List ℕ → State → Resumption
resume C q x = cond (fit C (with_panel q x)) (goes_on (resumed q x)) (refused 15)

-- the panel q may stand in the state s: 'the mark's pattern while a mark stands; any permutation before a leg's first mark; later in a leg' a panel on the
-- way to the mark; 'after the end, the last mark's pattern'; and while a jack is to be seated the mark's pattern (request 4)
pub record MayStand (C : Setting) (s : State) (q : List ℕ) : Type 0 where
  pub at_mark : s.standing ≡ true → q ≡ wanted C s
  pub at_end : s.ended ≡ true → q ≡ wanted C s
  pub between : s.standing ≡ false → s.ended ≡ false → OnTheWay C.family (here C s) s.step q
  pub at_seat : 0 < s.to_seat → q ≡ wanted C s

-- the saved state x with the panel q is the state y, which goes on with its seats begun anew: it is fit, its panel is the bench's, and what went before it, as it
-- happened on the bench, is b
pub record TakenUp (C : Setting) (q : List ℕ) (x y : State) (b : Past) : Type 0 where
  pub same : with_panel q x ≡ y
  pub fits : Fit C y
  pub panel : q ≡ y.panel
  pub past : Agrees C y b
