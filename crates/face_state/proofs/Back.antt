-- Nothing is lost between a state and its words: a state is read back from its words (`state-back`), and words are had back from the state that they are
-- (`words_back`).
-- Assumes nothing.
use mathlib.Core.Path.{◌≡◌, refl, sym, ap, ◌∙◌}
use mathlib.Core.Bool.{Bool, true, false}
use mathlib.Core.List.{List, [], ◌∷◌, ◌++◌, map}
use mathlib.Core.Option.{some}
use Prim.Native.Nat.{ℕ, zero, suc, ◌+◌, ◌≤◌, ◌<◌}
use native.Mathlib.Omega.{arith}
use lib.Dec.{eqb, leb}
use lib.IntN.{pos}
use lib.ListN.{length, get_or, take, drop, replicate, get_or-replicate, length-take, take-append-drop, drop_of_length-le, get_or-map, get_or-eq_default}
use lib.Seq.{take_at, drop_at, drop-cons, drop-drop, get_or-take, get_or-drop}
use mir.Syntax.{w64}
use mir.Val.{SFits}
use borrow.Author.Tests.{le-leb}
use Rattle.listing.specs.Limits.{most_ports, most_legs, largest64}
use Rattle.listing.proofs.Numbers.{either, test, below?}
use Rattle.campaign_state.specs.declared.State.{State}
use Rattle.campaign_state.proofs.Places.{Sized}
use Rattle.face_values.specs.Lines.{largest8}
use Rattle.face_state.specs.States.{ports_place, legs_place, starts_place, runs_place, panel_place, leg_place, step_place, covered_place, open_place, errors_place, standing_place, ended_place, seat_place, state_count, largest32, run_bits, run_in, bit, last_words, state_words, limits, within, word, words_at, state_at, state_in}
use Rattle.face_state.proofs.Parts.{drop_past}
use Rattle.face_state.proofs.Within.{within-length, within-at, within-parts, within_same}
use Rattle.face_state.proofs.Runs.{bits_fit, all-bits-back, all-runs-back}
use Rattle.text_numbers.proofs.Inverse.{none-some}
use Rattle.face_state.proofs.StateWords.{bits-length, last_word, is_state, no-state}

-- ---- a bit

bit-held : (b : Bool) → leb (bit b) 1 ≡ true
bit-held true = refl
bit-held false = refl

bool-back : (b : Bool) → eqb (bit b) 1 ≡ b
bool-back true = refl
bool-back false = refl

bit-back : (w : ℕ) → w ≤ 1 → bit (eqb w 1) ≡ w
bit-back zero h = refl
bit-back (suc zero) h = refl
bit-back (suc (suc w)) h = absurd (omega arith)

-- ---- a state is read back from its words

-- what the fields of a state can hold
pub record InRange (s : State) : Type 0 where
  pub sized : Sized s
  pub ports : s.plan.ports ≤ largest8
  pub legs : s.plan.legs ≤ largest8
  pub starts : (i : ℕ) → get_or s.plan.starts i 0 ≤ largest64
  pub runs : (i : ℕ) → SFits w64 (get_or s.plan.runs i (pos 0))
  pub panel : (i : ℕ) → get_or s.panel i 0 ≤ largest8
  pub leg : s.leg ≤ largest8
  pub step : s.step ≤ largest64
  pub covered : s.covered ≤ largest64
  pub opened : s.opened ≤ largest64
  pub errors : s.errors ≤ largest32
  pub seat : s.seat ≤ largest8

module _ (s : State) (k : InRange s) where
  last_within : within (last_words s) (largest8 ∷ largest64 ∷ largest64 ∷ largest64 ∷ largest32 ∷ 1 ∷ 1 ∷ largest8 ∷ []) ≡ true
  unfolding within
  last_within =
      rw (le-leb s.leg largest8 k.leg, le-leb s.step largest64 k.step, le-leb s.covered largest64 k.covered)
      (rw (le-leb s.opened largest64 k.opened, le-leb s.errors largest32 k.errors, bit-held s.standing, bit-held s.ended)
      (rw (le-leb s.seat largest8 k.seat) refl))

  counts-within : within (s.plan.ports ∷ s.plan.legs ∷ []) (largest8 ∷ largest8 ∷ []) ≡ true
  unfolding within
  counts-within = rw (le-leb s.plan.ports largest8 k.ports, le-leb s.plan.legs largest8 k.legs) refl

  bits-held : (i : ℕ) → word (map run_bits s.plan.runs) i ≤ largest64
  bits-held i = omega (arith, get_or-map run_bits s.plan.runs i (pos 0), bits_fit (get_or s.plan.runs i (pos 0)) (k.runs i))

  -- its words are within the limits
  pub kept-within : within (state_words s) limits ≡ true
  kept-within =
      let z = k.sized in
      within-parts (s.plan.ports ∷ s.plan.legs ∷ []) (s.plan.starts ++ (map run_bits s.plan.runs ++ (s.panel ++ last_words s)))
      (take starts_place limits) (drop starts_place limits) counts-within
      (within-parts s.plan.starts (map run_bits s.plan.runs ++ (s.panel ++ last_words s)) (replicate most_legs largest64) (drop runs_place limits)
      (within_same s.plan.starts most_legs largest64 z.starts k.starts)
      (within-parts (map run_bits s.plan.runs) (s.panel ++ last_words s) (replicate most_legs largest64) (drop panel_place limits)
      (within_same (map run_bits s.plan.runs) most_legs largest64 (bits-length s z) bits-held)
      (within-parts s.panel (last_words s) (replicate most_ports largest8) (drop leg_place limits)
      (within_same s.panel most_ports largest8 z.panel k.panel) last_within)))

  starts-back : words_at (state_words s) starts_place most_legs ≡ s.plan.starts
  starts-back = take_at s.plan.starts (map run_bits s.plan.runs ++ (s.panel ++ last_words s)) most_legs k.sized.starts

  runs-back : map run_in (words_at (state_words s) runs_place most_legs) ≡ s.plan.runs
  runs-back =
      ap (λ l. map run_in (take most_legs l)) (drop_at s.plan.starts (map run_bits s.plan.runs ++ (s.panel ++ last_words s)) most_legs k.sized.starts)
      ∙ ap (map run_in) (take_at (map run_bits s.plan.runs) (s.panel ++ last_words s) most_legs (bits-length s k.sized))
      ∙ all-runs-back s.plan.runs k.runs

  panel-back : words_at (state_words s) panel_place most_ports ≡ s.panel
  panel-back =
      ap (take most_ports)
      (drop_past s.plan.starts (map run_bits s.plan.runs ++ (s.panel ++ last_words s)) most_legs most_legs k.sized.starts
      ∙ drop_at (map run_bits s.plan.runs) (s.panel ++ last_words s) most_legs (bits-length s k.sized))
      ∙ take_at s.panel (last_words s) most_ports k.sized.panel

  -- the fields at their places are its own
  at_back : state_at (state_words s) ≡ s
  at_back =
      let z = k.sized in
      let stands = ap (λ w. eqb w 1) (last_word s z standing_place (omega arith)) ∙ bool-back s.standing in
      let ends = ap (λ w. eqb w 1) (last_word s z ended_place (omega arith)) ∙ bool-back s.ended in
      λ i. record {
        plan = record { ports = s.plan.ports; legs = s.plan.legs; starts = starts-back i; runs = runs-back i };
        panel = panel-back i;
        leg = last_word s z leg_place (omega arith) i;
        step = last_word s z step_place (omega arith) i;
        covered = last_word s z covered_place (omega arith) i;
        opened = last_word s z open_place (omega arith) i;
        errors = last_word s z errors_place (omega arith) i;
        standing = stands i;
        ended = ends i;
        seat = last_word s z seat_place (omega arith) i;
      }

  -- the state of a state's words is that state
  pub state-back : state_in (state_words s) ≡ some s
  state-back = sym (is_state (state_words s) kept-within s (sym at_back))

-- ---- words are had back from their state

module _ (ws : List ℕ) (e : within ws limits ≡ true) where
  many : length ws ≡ state_count
  many = within-length ws limits e

  -- each word is one of 64 bits
  word_held : (i : ℕ) → word ws i ≤ largest64
  unfolding within
  word_held i =
      either (below? i state_count)
      (λ low. omega (arith, within-at ws limits e i low, within-at limits (replicate state_count largest64) refl i low, get_or-replicate state_count i largest64 0 low))
      (λ high. omega (arith, get_or-eq_default ws 0 {n = i} (omega (arith, many))))

  -- and so is each of a part
  pub part_held : (at n i : ℕ) → word (words_at ws at n) i ≤ largest64
  part_held at n i =
      either (below? i n)
      (λ low. omega (arith, get_or-take n (drop at ws) i 0 low, get_or-drop at ws i 0, word_held (at + i)))
      (λ high. omega (arith, get_or-eq_default (words_at ws at n) 0 {n = i} (omega (arith, length-take n (drop at ws)))))

  -- the words from a place on begin with the word there
  next : (at : ℕ) → at < state_count → drop at ws ≡ word ws at ∷ drop (suc at) ws
  next at h = drop-cons ws at 0 (omega (arith, many))

  -- or with the n words there
  part : (at n : ℕ) → drop at ws ≡ words_at ws at n ++ drop (at + n) ws
  part at n = sym (take-append-drop n (drop at ws)) ∙ ap (λ l. words_at ws at n ++ l) (drop-drop n at ws)

  -- the last eight
  last-back : drop leg_place ws ≡ last_words (state_at ws)
  last-back =
      next leg_place (omega arith)
      ∙ ap (λ l. word ws leg_place ∷ l) (next step_place (omega arith)
      ∙ ap (λ l. word ws step_place ∷ l) (next covered_place (omega arith)
      ∙ ap (λ l. word ws covered_place ∷ l) (next open_place (omega arith)
      ∙ ap (λ l. word ws open_place ∷ l) (next errors_place (omega arith)
      ∙ ap (λ l. word ws errors_place ∷ l) (next standing_place (omega arith)
      ∙ ap (λ l. word ws standing_place ∷ l) (next ended_place (omega arith)
      ∙ ap (λ l. word ws ended_place ∷ l) (next seat_place (omega arith)
      ∙ ap (λ l. word ws seat_place ∷ l) (drop_of_length-le ws {i = state_count} (omega (arith, many)))))
      ∙ bits)))))
    where
      bits : word ws standing_place ∷ word ws ended_place ∷ word ws seat_place ∷ []
          ≡ bit (eqb (word ws standing_place) 1) ∷ bit (eqb (word ws ended_place) 1) ∷ word ws seat_place ∷ []
      bits = rw (bit-back (word ws standing_place) (within-at ws limits e standing_place (omega arith)), bit-back (word ws ended_place) (within-at ws limits e ended_place (omega arith))) refl

  -- all of them
  pub words_of : state_words (state_at ws) ≡ ws
  words_of =
      let runs = ap (λ l. l ++ (words_at ws panel_place most_ports ++ drop leg_place ws)) (all-bits-back (words_at ws runs_place most_legs) (part_held runs_place most_legs)) in
      sym
      (next ports_place (omega arith)
      ∙ ap (λ l. word ws ports_place ∷ l) (next legs_place (omega arith)
      ∙ ap (λ l. word ws legs_place ∷ l) (part starts_place most_legs
      ∙ ap (λ l. words_at ws starts_place most_legs ++ l) (part runs_place most_legs
      ∙ ap (λ l. words_at ws runs_place most_legs ++ l) (part panel_place most_ports)
      ∙ sym runs
      ∙ ap (λ l. map run_bits (map run_in (words_at ws runs_place most_legs)) ++ (words_at ws panel_place most_ports ++ l)) last-back))))

-- words are one state only
one_state : {s t : State} → some s ≡ some t → s ≡ t
one_state e = cc

-- words that are a state are within the limits
pub is_within : (ws : List ℕ) (s : State) → state_in ws ≡ some s → within ws limits ≡ true
is_within ws s e = either (test (within ws limits)) (λ t. t) (λ t. absurd (none-some s (no-state ws t ∙ e)))

-- the state that words are has the fields at their places
pub at-state : (ws : List ℕ) (s : State) → state_in ws ≡ some s → state_at ws ≡ s
at-state ws s e = one_state (is_state ws (is_within ws s e) (state_at ws) refl ∙ e)

-- and its words are these words
pub words_back : (ws : List ℕ) (s : State) → state_in ws ≡ some s → state_words s ≡ ws
words_back ws s e = ap state_words (sym (at-state ws s e)) ∙ words_of ws (is_within ws s e)
