-- The words that a call for C leaves are the words of the state that the call behind it leaves, and it tells and writes what that call does: from the words
-- that `jidrofex_begin` leaves on (`read-begun`), and from call to call (`read_left`).
-- Assumes nothing.
use mathlib.Core.Path.{◌≡◌, refl, sym, ap, ◌∙◌}
use mathlib.Core.List.{List}
use mathlib.Core.Option.{some}
use mathlib.Core.Bool.{true}
use Prim.Native.Nat.{ℕ}
use lib.ListN.{length}
use borrow.Author.Tests.{eq-eqb}
use Rattle.promise.specs.Campaign.{Call}
use Rattle.campaign_state.specs.Fitness.{fit}
use Rattle.campaign_state.specs.declared.State.{State}
use Rattle.campaign.specs.Calls.{left_of, bytes_of}
use Rattle.campaign_reached.specs.Turns.{AcceptedPlan, begun}
use Rattle.campaign_reached.proofs.Own.{own, own-reached}
use Rattle.campaign_reached.proofs.Reached.{Reached, reached-first, reached-left}
use Rattle.face_state.specs.States.{state_count, state_in}
use Rattle.face_laws.specs.Calls.{states, told_by, called_told, called_words, request_bytes, begun_with, begin_words}
use Rattle.face_laws.proofs.OnState.{on-told, on-bytes}
use Rattle.face_laws.proofs.Stays.{called-left}
use Rattle.face_reached.proofs.InRange.{Holds, begun-holds, words-hold, left-holds, reached-back}

-- these words are those of a state that calls on the plan leave
pub record Read (P : AcceptedPlan) (ws : List ℕ) (s : State) : Type 0 where
  pub reached : Reached P s
  pub holds : Holds s
  pub is : state_in ws ≡ some s

module _ (P : AcceptedPlan) where
  -- the words that `jidrofex_begin` leaves of an accepted text
  pub read-begun : (ws : List ℕ) → length ws ≡ state_count → Read P (begin_words P.text ws) (begun P)
  unfolding begun_with
  read-begun ws long = record {
    reached = reached-first P;
    holds = begun-holds P;
    is = rw (eq-eqb (length ws) state_count long) (reached-back P (begun P) (reached-first P) (begun-holds P));
  }

  module _ (ws : List ℕ) (s : State) (r : Read P ws s) (c : Call) where
    -- a call on them tells what the call behind it tells of the state
    pub told-there : called_told c ws ≡ told_by c s
    told-there = sym (on-told states (told_by c) ws (sym r.is))

    -- and leaves the words of the state that this one leaves
    pub read_left : Read P (called_words c ws) (left_of c s)
    unfolding left_of
    read_left =
        let reached = reached-left P s r.reached c in
        let holds = left-holds s r.reached.kept r.holds c in
        record {
          reached = reached;
          holds = holds;
          is = ap state_in (sym (called-left c ws (sym r.is) refl)) ∙ reached-back P (left_of c s) reached holds;
        }

  -- a request writes the same bytes
  pub bytes-there : (ws : List ℕ) (s : State) → Read P ws s → (buf : List ℕ) → request_bytes ws buf ≡ bytes_of s buf
  bytes-there ws s r buf = sym (on-bytes states bytes_of ws (sym r.is) buf)

-- and so any words of a state that is fit, on its own plan
pub read-own : (ws : List ℕ) (s : State) (e : state_in ws ≡ some s) (f : fit s ≡ true) → Read (own s (words-hold ws s e).sized f) ws s
read-own ws s e f = record { reached = own-reached s (words-hold ws s e).sized f; holds = words-hold ws s e; is = e }
