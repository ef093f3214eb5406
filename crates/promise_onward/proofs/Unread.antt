-- Wrong practice by computation, on 4 ports: a saved state that goes on without the panel read back, and a report repeated too late; and a mark that a cut
-- lost. On 2 ports: the state of the last seat saved before that seat is done.
-- Assumes nothing.
use mathlib.Core.Path.{◌≡◌, refl, sym, ◌∙◌, subst}
use mathlib.Core.Bool.{true, false}
use mathlib.Core.List.{List, [], ◌∷◌, head-eq_of_cons-eq}
use mathlib.Core.Option.{or_else}
use Prim.Native.Nat.{ℕ}
use native.Mathlib.Omega.{arith}
use Rattle.listing.specs.Numbers.{is, trade, raise, lower, odd}
use Rattle.listing.specs.Pattern.{tabulate}
use Rattle.listing.specs.Count.{count}
use Rattle.listing.specs.Steps.{step_a, step_b}
use Rattle.listing.specs.Listing.{joined, block, blocks, listing, at}
use Rattle.listing.specs.Ends.{home}
use Rattle.listing.specs.Orders.{swap, source, carry, carry_all}
use Rattle.listing.specs.Joins.{hop_b, hop_a, hop, join4, join5, join, closing}
use Rattle.listing.specs.Neighbours.{next_rank, previous_rank, inside, on_from, next_move, previous_move}
use Rattle.promise.specs.Tests.{all, implies, is_permutation, same}
use Rattle.promise.specs.Carriage.{holder, carriage_from, carriage}
use Rattle.promise.specs.Plan.{marks, number}
use Rattle.promise.specs.Campaign.{State, with_seat, ran, request, report, report_on, movement, seat, mark, taken, refusal, Setting}
use Rattle.promise.specs.Campaign.{rest, to_come, first, fit, offer, answer, closed, heard, after}
use Rattle.promise.specs.Bench.{run, leaves, left_by, Act, moves, meets, says, acts, Meets}
use Rattle.promise.specs.Derangements.{derangements, on_ports}
use Rattle.promise.proofs.Example.{answers}
use Rattle.promise_onward.specs.Resume.{goes_on, resume}
use Rattle.promise_onward.specs.Cuts.{left}
use Rattle.promise_onward.specs.Lives.{Moment, kept, lost, kept_calls, happened}

-- ---- the panel not read back

-- ports=4, legs=1, start=1, run=0: from home, 2341, to rank 1, 3421, it takes two orders
unfoldable pub short : Setting
short = on_ports 4 (record { start = 1; back = false; run = 0 } ∷ []) (λ a. 45)

-- the state that is saved after the first of them
unfoldable pub saved_short : State
saved_short = left short (request 45) (first short)

-- what two requests from it bring
unfoldable pub two_acts : List Act
two_acts = acts (run short (request 45 ∷ request 45 ∷ []) saved_short)

-- the first order is given, and the state that is left is fit; two requests from it bring the second order and the mark; with the panel at home put in, the
-- state is the first one again; reported as run, the mark counts as covered
abbrev pub GoesOn : Type 0
GoesOn =
    (answer short (request 45) (first short) ≡ movement (swap 1 2)) × (fit short saved_short ≡ true)
    × (two_acts ≡ moves (swap 2 3) ∷ meets 0 1 ∷ []) × (resume short (home 4) saved_short ≡ goes_on (first short))
    × ((leaves saved_short (run short (request 45 ∷ request 45 ∷ report 0 ∷ []) saved_short)).covered ≡ 1)

-- the bench's panel where the robot did not carry out the first order, and the pattern of rank 1
abbrev Panels : Type 0
Panels = (carry (swap 2 3) (home 4) ≡ 2 ∷ 4 ∷ 3 ∷ 1 ∷ []) × ((derangements 4).pattern 1 ≡ 3 ∷ 4 ∷ 2 ∷ 1 ∷ [])

-- ---- a report repeated too late, and a mark run twice

-- ports=4, legs=2, both start=0, run=0: the second mark follows the first with no order between
unfoldable pub twice : Setting
twice = on_ports 4 (record { start = 0; back = false; run = 0 } ∷ record { start = 0; back = false; run = 0 } ∷ []) (λ a. 45)

-- repeated at once a report that was taken is refused with 12; repeated after the next request it is taken for the next mark, which was not run, unless it
-- names its mark
abbrev pub TooLate : Type 0
TooLate =
    (answers twice (request 45 ∷ report 0 ∷ report 0 ∷ []) ≡ mark 0 0 ∷ taken ∷ refusal 12 ∷ [])
    × (answers twice (request 45 ∷ report 0 ∷ request 45 ∷ report 0 ∷ []) ≡ mark 0 0 ∷ taken ∷ mark 1 0 ∷ taken ∷ [])
    × (answers twice (request 45 ∷ report_on 0 0 ∷ request 45 ∷ report_on 0 0 ∷ []) ≡ mark 0 0 ∷ taken ∷ mark 1 0 ∷ refusal 12 ∷ [])

-- a mark is handed out, lost in a cut, handed out again and reported as run
unfoldable pub lost_mark : List Moment
lost_mark = lost (request 45) ∷ kept (request 45) ∷ kept (report 0) ∷ []

-- the bench meets it twice, and counts it once
abbrev pub MetTwice : Type 0
MetTwice = (happened twice lost_mark (first twice) ≡ meets 0 0 ∷ meets 0 0 ∷ says ran ∷ []) × ((left_by twice (kept_calls lost_mark)).covered ≡ 1)

-- ---- the state of the last seat saved too early

-- ports=2, legs=1, start=0, run=0; its mark is reported as an error, and jack 1 is seated
unfoldable pub pair : Setting
pair = on_ports 2 (record { start = 0; back = false; run = 0 } ∷ []) (λ a. 45)

unfoldable pub at_last_seat : State
at_last_seat = left_by pair (request 45 ∷ report 1 ∷ request 45 ∷ [])

-- the next request gives the last seat. Where the state before it was saved the seats begin anew; where the state after it was, the mark comes at once, and
-- nothing shows whether jack 2 was seated
abbrev pub SavedEarly : Type 0
SavedEarly =
    (answer pair (request 45) at_last_seat ≡ seat 2)
    × (resume pair (home 2) at_last_seat ≡ goes_on (with_seat 1 at_last_seat))
    × (resume pair (home 2) (left pair (request 45) at_last_seat) ≡ goes_on (with_seat 0 at_last_seat))
    × (answer pair (request 45) (with_seat 0 at_last_seat) ≡ mark 0 0)

-- ---- all of it by computation

computed : GoesOn × Panels × TooLate × MetTwice × SavedEarly
unfolding short saved_short two_acts twice lost_mark pair at_last_seat answers resume happened kept_calls acts run leaves first fit offer answer closed heard after rest to_come or_else
    marks number holder carriage_from carriage all implies is_permutation same derangements next_rank previous_rank inside on_from next_move previous_move hop_b hop_a hop
    join4 join5 join closing source carry carry_all home joined block blocks listing at step_a step_b count tabulate is trade raise lower odd
computed = ((refl, refl, refl, refl, refl), (refl, refl), (refl, refl, refl), (refl, refl), (refl, refl, refl, refl))

-- the saved state goes on without the panel read back, no call is refused, and the mark counts as covered
pub goes-on-unread : GoesOn
goes-on-unread = computed.0

-- and on a bench whose panel is still at home that mark does not meet its pattern: the panel must be read back
pub unread : ¬ Meets (derangements 4) (home 4) two_acts
unfolding Meets
unread h =
    let m : Meets (derangements 4) (home 4) (moves (swap 2 3) ∷ meets 0 1 ∷ []) = subst (Meets (derangements 4) (home 4)) computed.0.2 h in
    let e : ◌≡◌ {A = List ℕ} (2 ∷ 4 ∷ 3 ∷ 1 ∷ []) (3 ∷ 4 ∷ 2 ∷ 1 ∷ []) = sym computed.1.0 ∙ m.0 ∙ computed.1.1 in
    omega (arith, head-eq_of_cons-eq e)

-- a bench that does not know whether its report was saved must repeat it before any request, or name the mark
pub too-late : TooLate
too-late = computed.2

-- a mark that a cut lost may be run twice, and is counted once
pub met-twice : MetTwice
met-twice = computed.3

-- so the state of a seat is saved only when the seat is done
pub saved-early : SavedEarly
saved-early = computed.4
