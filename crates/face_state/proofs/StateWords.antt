-- States in words: what the words of a state are, place by place (`start_word` to `last_word`), and the state that
-- words are, field by field (`state-of`, `words-fit`, `is_state`, `no-state`). That neither loses anything of the other is said in Back.
-- Assumes nothing.
use mathlib.Core.Path.{◌≡◌, refl, sym, ap, ◌∙◌}
use mathlib.Core.Bool.{Bool, true, false}
use mathlib.Core.List.{List, [], ◌∷◌, ◌++◌, map}
use mathlib.Core.Option.{none, some}
use Prim.Native.Nat.{ℕ, ◌+◌, ◌-◌, ◌≤◌, ◌<◌}
use native.Mathlib.Omega.{arith}
use lib.Dec.{eqb}
use lib.IntN.{ℤ, pos}
use lib.ListN.{length, get_or, take, drop, length-append, length-map, get_or-map}
use mir.Val.{bool_byte}
use Rattle.listing.specs.Limits.{most_ports, most_legs}
use Rattle.listing.proofs.Numbers.{either, test}
use Rattle.text_numbers.proofs.Inverse.{none-some}
use Rattle.plan_rules.specs.declared.Plan.{Plan}
use Rattle.campaign_state.specs.declared.State.{State}
use Rattle.campaign_state.proofs.Places.{Sized}
use Rattle.face_values.specs.Lines.{largest8}
use Rattle.face_state.specs.States.{ports_place, legs_place, starts_place, runs_place, panel_place, leg_place, step_place, covered_place, open_place, errors_place, standing_place, ended_place, seat_place, state_count, run_bits, bit, last_words, state_words, limits, within, word, state_at, state_in}
use Rattle.face_state.specs.Held.{WordsFit}
use Rattle.face_state.proofs.Parts.{past, inside, run_at}
use Rattle.face_state.proofs.Within.{within-length, within-at}

-- ---- the words of a state, place by place

module _ (s : State) (z : Sized s) where
  pub bits-length : length (map run_bits s.plan.runs) ≡ most_legs
  bits-length = length-map s.plan.runs run_bits ∙ z.runs

  -- they are 62
  pub words-length : length (state_words s) ≡ state_count
  words-length =
      let a = length-append s.plan.starts (map run_bits s.plan.runs ++ (s.panel ++ last_words s)) in
      let b = length-append (map run_bits s.plan.runs) (s.panel ++ last_words s) in
      let c = length-append s.panel (last_words s) in
      omega (arith, bits-length, z.starts, z.panel)

  -- a front of the words, and what stands past it
  abbrev two : List ℕ
  two = s.plan.ports ∷ s.plan.legs ∷ []

  pub start_word : (at : ℕ) → starts_place ≤ at → at < runs_place → word (state_words s) at ≡ word s.plan.starts (at - starts_place)
  start_word at low high =
      past two (s.plan.starts ++ (map run_bits s.plan.runs ++ (s.panel ++ last_words s))) starts_place at 0 refl low
      ∙ inside s.plan.starts (map run_bits s.plan.runs ++ (s.panel ++ last_words s)) most_legs (at - starts_place) 0 z.starts (omega arith)

  -- from the runs on
  from-runs : (at : ℕ) → runs_place ≤ at → word (state_words s) at ≡ word (map run_bits s.plan.runs ++ (s.panel ++ last_words s)) (at - runs_place)
  from-runs at low =
      let less : at - starts_place - most_legs ≡ at - runs_place = omega arith in
      past two (s.plan.starts ++ (map run_bits s.plan.runs ++ (s.panel ++ last_words s))) starts_place at 0 refl (omega arith)
      ∙ past s.plan.starts (map run_bits s.plan.runs ++ (s.panel ++ last_words s)) most_legs (at - starts_place) 0 z.starts (omega arith)
      ∙ ap (word (map run_bits s.plan.runs ++ (s.panel ++ last_words s))) less

  pub run-word : (at : ℕ) → runs_place ≤ at → at < panel_place → word (state_words s) at ≡ run_bits (get_or s.plan.runs (at - runs_place) (pos 0))
  run-word at low high =
      from-runs at low
      ∙ inside (map run_bits s.plan.runs) (s.panel ++ last_words s) most_legs (at - runs_place) 0 bits-length (omega arith)
      ∙ get_or-map run_bits s.plan.runs (at - runs_place) (pos 0)

  -- from the panel on
  from-panel : (at : ℕ) → panel_place ≤ at → word (state_words s) at ≡ word (s.panel ++ last_words s) (at - panel_place)
  from-panel at low =
      let less : at - runs_place - most_legs ≡ at - panel_place = omega arith in
      from-runs at (omega arith)
      ∙ past (map run_bits s.plan.runs) (s.panel ++ last_words s) most_legs (at - runs_place) 0 bits-length (omega arith)
      ∙ ap (word (s.panel ++ last_words s)) less

  pub panel-word : (at : ℕ) → panel_place ≤ at → at < leg_place → word (state_words s) at ≡ word s.panel (at - panel_place)
  panel-word at low high = from-panel at low ∙ inside s.panel (last_words s) most_ports (at - panel_place) 0 z.panel (omega arith)

  pub last_word : (at : ℕ) → leg_place ≤ at → word (state_words s) at ≡ word (last_words s) (at - leg_place)
  last_word at low =
      let less : at - panel_place - most_ports ≡ at - leg_place = omega arith in
      from-panel at (omega arith) ∙ past s.panel (last_words s) most_ports (at - panel_place) 0 z.panel (omega arith) ∙ ap (word (last_words s)) less

-- ---- the fields of words

module _ (ws : List ℕ) where
  -- the plan that the code makes of its legs
  pub plan-of : {starts : List ℕ} {runs : List ℤ} → starts ≡ (state_at ws).plan.starts → runs ≡ (state_at ws).plan.runs
      → record { ports = word ws ports_place; legs = word ws legs_place; starts = starts; runs = runs } ≡ (state_at ws).plan
  plan-of a b = λ i. record { ports = word ws ports_place; legs = word ws legs_place; starts = a i; runs = b i }

  -- the state that it makes of plan and panel
  abbrev state_with : Plan → List ℕ → State
  state_with plan panel = record {
    plan = plan;
    panel = panel;
    leg = word ws leg_place;
    step = word ws step_place;
    covered = word ws covered_place;
    opened = word ws open_place;
    errors = word ws errors_place;
    standing = eqb (word ws standing_place) 1;
    ended = eqb (word ws ended_place) 1;
    seat = word ws seat_place;
  }

  pub state-of : {plan : Plan} {panel : List ℕ} → plan ≡ (state_at ws).plan → panel ≡ (state_at ws).panel → state_with plan panel ≡ state_at ws
  state-of a b = λ i. state_with (a i) (b i)

-- ---- words within the limits

module _ (ws : List ℕ) (e : within ws limits ≡ true) where
  -- they fit their fields
  pub words-fit : WordsFit ws
  words-fit = record {
    many = within-length ws limits e;
    ports = within-at ws limits e ports_place (omega arith);
    legs = within-at ws limits e legs_place (omega arith);
    panel = λ i h.
        let a = within-at ws limits e (panel_place + i) (omega arith) in
        omega (arith, run_at (take panel_place limits) (drop step_place limits) panel_place 21 largest8 (panel_place + i) refl (omega arith) (omega arith));
    leg = within-at ws limits e leg_place (omega arith);
    errors = within-at ws limits e errors_place (omega arith);
    seat = within-at ws limits e seat_place (omega arith);
  }

  -- the state that they are
  pub is_state : (s : State) → s ≡ state_at ws → some s ≡ state_in ws
  unfolding state_in
  is_state s f = ap some f ∙ rw e refl

-- any other words are none
pub no-state : (ws : List ℕ) → within ws limits ≡ false → none ≡ state_in ws
unfolding state_in
no-state ws e = rw e refl

-- ---- a bit

-- the byte that the code has of a bool is its bit
pub byte-bit : (b : Bool) → bool_byte b ≡ bit b
byte-bit true = refl
byte-bit false = refl

-- ---- what the code has of words

-- words that are a state are 62
pub state-length : (ws : List ℕ) {s : State} → some s ≡ state_in ws → length ws ≡ state_count
state-length ws e =
    either (test (within ws limits))
    (λ t. within-length ws limits t)
    (λ t. absurd (none-some _ (no-state ws t ∙ sym e)))
