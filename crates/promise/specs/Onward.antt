-- Demand three from any fit state on: what went before it, and the record of the calls after it, in the words of specs/Demand.antt.
-- Assumes nothing.
use Rattle.std.specs.Prelude.{ℕ, zero, suc, ◌+◌, ◌-◌, ◌≤◌, ◌<◌, ◌≡◌, ◌≢◌, ◌↔◌, Bool, true, false, not, cond, ◌||◌, List, [], ◌∷◌, ◌++◌, length, take, drop}
use Rattle.std.proofs.Math.Option.{Option, none, some}
use Rattle.listing.specs.Pattern.{Permutation}
use Rattle.listing.specs.Orders.{Order, carry_all, InShape}
use Rattle.promise.specs.Plan.{cords, Family, Leg, rank_at, marks}
use Rattle.promise.specs.Campaign.{State, is_ran, is_error, is_gave_up, is_closing, movement, refusal, Setting, seating, here, rank_of, number_of, wanted, todo}
use Rattle.promise.specs.Fitness.{Fit, Why}
use Rattle.promise.specs.Bench.{Turn, Each, Act, moves, seats, meets, says, bench, Meets}
use Rattle.promise.specs.Bench.{fresh, planned, Begins, Again, stands, closed_last, reports, reported_as}
use Rattle.promise.specs.Bench.{Rising, InTurn, Spaced, lead_to, Led, NamesFew, DiffersFew, Suits, EndRight}

-- ---- where a state stands

-- its mark, standing or next, with number and rank
abbrev pub mark_of : Setting → State → ℕ × ℕ
mark_of C s = (number_of C s, rank_of C s)

-- the number of its mark if that stands
abbrev pub standing_mark : Setting → State → Option ℕ
standing_mark C s = cond s.standing (some (number_of C s)) none

-- the number of the next mark that is no repeat: all after the end; one on while a mark stands, or after an error (again); else that of the next mark
unfoldable pub newest : Bool → Bool → Bool → ℕ → ℕ → ℕ
newest true standing again total n = total
newest false true again total n = suc n
newest false false true total n = suc n
newest false false false total n = n

-- the same of a state
abbrev pub new_mark : Setting → State → Bool → ℕ
new_mark C s again = newest s.ended s.standing again (marks C.legs) (number_of C s)

-- the plan's list from there on
abbrev pub ahead : Setting → State → Bool → List (ℕ × ℕ)
ahead C s again = drop (new_mark C s again) (planned C)

-- ---- what went before a state

-- whether the last report was an error, the last mark, the panel at it, and the orders since
pub record Past : Type 0 where
  pub again : Bool
  pub mark : ℕ × ℕ
  pub last : List ℕ
  pub since : List Order

-- the state is one that this past may leave
pub record Agrees (C : Setting) (s : State) (b : Past) : Type 0 where
  -- a mark that stands is the last mark, and no order came since
  pub at_mark : s.standing ≡ true → (b.mark ≡ mark_of C s) × (b.since ≡ [])
  -- so is a mark that comes again after an error, and its pattern is on the panel
  pub at_repeat : b.again ≡ true → (b.mark ≡ mark_of C s) × (b.since ≡ []) × (s.panel ≡ wanted C s)
  -- a jack is to be seated only after an error
  pub at_seat : 0 < s.to_seat → b.again ≡ true
  -- after the end no order came since the last mark
  pub at_end : s.ended ≡ true → b.since ≡ []
  -- the orders since the last mark led from a panel of all ports to the state's
  pub from : Permutation C.family.ports b.last
  pub carried : carry_all b.since b.last ≡ s.panel
  -- before a new mark they are, with those still to come, the orders that lead there
  pub leading : s.standing ≡ false → s.ended ≡ false → b.again ≡ false → (vs : List Order) → todo C s ≡ some vs
      → b.since ++ vs ≡ lead_to C.family (here C s) s.step b.last

-- a past with no error and no order since the last mark: that mark, and the panel at it
abbrev pub none_since : ℕ × ℕ → List ℕ → Past
none_since m q = record { again = false; mark = m; last = q; since = [] }

-- the same after an error: jacks are to be seated, and then that mark comes again
abbrev pub erred : ℕ × ℕ → List ℕ → Past
erred m q = record { again = true; mark = m; last = q; since = [] }

-- the past of the first state: no mark, no order, the panel at home
abbrev pub first_past : Setting → Past
first_past C = none_since (0, 0) C.family.home

-- of the orders os those that are carried out where vs are still to come
abbrev pub carried_out : List Order → Option (List Order) → List Order
carried_out os none = []
carried_out os (some vs) = take (length os - length vs) os

-- the past that a state by itself tells of, by its parts: at a mark, after the end and before a leg's first mark its panel; inside a leg the mark before
abbrev pub past_by : Bool → Family → Leg → ℕ → List ℕ → Option (List Order) → ℕ × ℕ → Past
past_by true F l k q vs m = none_since m q
past_by false F l zero q vs m = none_since m q
past_by false F l (suc k) q vs m =
    let r = rank_at F l k in
    record { again = false; mark = m; last = F.pattern r; since = carried_out (F.orders l.back r) vs }

-- the same of a state; one with a jack to seat tells of an error
abbrev pub past_of : Setting → State → Past
past_of C s =
    cond (seating s) (erred (mark_of C s) s.panel)
    (past_by (s.standing || s.ended) C.family (here C s) s.step s.panel (todo C s) (mark_of C s))

-- the past with one act more, on a panel that is p: an order is one more since the mark, a seat is none, a mark is the last one from now, a report is an error
-- or not
abbrev pub and_then : Past → List ℕ → Act → Past
and_then b p (moves o) = record { again = b.again; mark = b.mark; last = b.last; since = b.since ++ (o ∷ []) }
and_then b p (seats j) = b
and_then b p (meets k r) = none_since (k, r) p
and_then b p (says w) = record { again = not (is_closing w); mark = b.mark; last = b.last; since = b.since }

-- the past with all that happens, on a panel that starts as p
unfoldable pub and_all : Past → List ℕ → List Act → Past
and_all b p [] = b
and_all b p (x ∷ xs) = and_all (and_then b p x) (bench p (x ∷ [])) xs

-- ---- the demand

-- Take any accepted plan, a fit state s with its past b, a bench whose panel is p, and any calls, each on the state the last one left. Of the turns ts of such
-- calls, with xs what happens on the bench and t the state that is left:
pub record Onward (C : Setting) (p : List ℕ) (s : State) (b : Past) (ts : List Turn) (xs : List Act) (t : State) : Type 0 where
  -- ---- the customer's sentences
  -- 'a. Every mark then meets the pattern of its rank.'
  pub every_mark_meets : Meets C.family p xs
  -- 'b. The marks, with repeats after errors struck out, are a beginning of the plan's list' from where the state stands,
  pub marks_begin : Begins (fresh b.again b.mark xs) (ahead C s b.again)
  -- 'and all of it at the end'
  pub marks_all_at_end : t.ended ≡ true → fresh b.again b.mark xs ≡ ahead C s b.again
  -- 'c. Covered counts exactly the marks reported as run'; none of them twice, and none that was closed before
  pub covered_counts : t.covered ≡ s.covered + length (reported_as is_ran (standing_mark C s) xs)
  pub covered_once : Rising (s.covered + s.opened) (reported_as is_ran (standing_mark C s) xs)
  -- 'd. At most ports less one movements come without a mark between', those before the state counted in
  pub few_movements : Spaced (C.family.ports - 1) (length b.since) xs
  -- 'e. Within a leg at most four cords change between marks', those before the state counted in
  pub few_cords_named : NamesFew C.legs C.family.reach (cords b.since) xs
  pub few_cords_differ : DiffersFew C.legs C.family.reach b.last p xs
  -- ---- the paper's sentences, of what happens on the bench and of the counts
  -- the panel of the bench is the state's
  pub panel_is_carried : bench p xs ≡ t.panel
  -- between marks exactly the orders come that lead there
  pub orders_lead : Led C b.again b.since b.last p xs
  -- a mark stands from when it is handed out until its report
  pub mark_stands : t.standing ≡ stands s.standing xs
  -- after an error the same mark comes, with its number, and no movement between
  pub same_mark_again : Again b.again b.mark xs
  -- the counts go up by the reports
  pub covered_reports : t.covered ≡ s.covered + reports is_ran xs
  pub open_reports : t.opened ≡ s.opened + reports is_gave_up xs
  pub error_reports : t.errors ≡ s.errors + reports is_error xs
  pub errors_stop : t.errors ≤ C.limit
  -- the marks are closed by their numbers in turn, each by one report, from the number where the state stands
  pub closed_in_turn : InTurn (s.covered + s.opened) (reported_as is_closing (standing_mark C s) xs)
  pub closed_counts : t.covered + t.opened ≡ s.covered + s.opened + length (reported_as is_closing (standing_mark C s) xs)
  -- 'A finished campaign has covered plus open equal to the plan's marks', and no other has
  pub finished_counts : (t.ended ≡ true) ↔ (t.covered + t.opened ≡ marks C.legs)
  -- the end is shown by a report that closes a mark, and nothing happens on the bench after it
  pub end_after_closing : t.ended ≡ true → closed_last s.ended xs ≡ true
  -- ---- and of each call by itself
  -- 'After the end, each request gives the end again', with the plan's marks; before it none does
  pub end_right : Each (EndRight C) s ts
  -- a request is answered with an order, a seat, a mark, the end or a refusal; a report is taken or refused
  pub suits : Each (λ s t. Suits t.call t.answered) s ts
  -- a movement order is in shape for the panel
  pub in_shape : Each (λ s t. (o : Order) → t.answered ≡ movement o → InShape C.family.ports o) s ts
  -- each refusal is given exactly when the paper says
  pub refusals : Each (λ s t. (k : ℕ) → (t.answered ≡ refusal k) ↔ Why C s t.call k) s ts
  -- no call is refused with 15, and the next will not be
  pub left_fit : Fit C t
  pub never_unfit : Each (λ s t. t.answered ≢ refusal 15) s ts
  -- a refused call leaves the state as it was
  pub refused_leaves : Each (λ s t. (k : ℕ) → t.answered ≡ refusal k → t.left ≡ s) s ts
