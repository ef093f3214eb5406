-- Rehearsals in words: a rehearsal is read back from its words (`rehearsal-back`), and words are had back from the rehearsal that they are
-- (`rehearsal-words-back`). Its words and those of a state have one front
-- (`front-word`).
-- Assumes nothing.
use mathlib.Core.Path.{◌≡◌, refl, sym, ap, ◌∙◌}
use mathlib.Core.Bool.{true}
use mathlib.Core.List.{List, [], ◌∷◌, ◌++◌, map, append_assoc}
use mathlib.Core.Option
use mathlib.Core.Option.{Option, none, some}
use Prim.Native.Nat.{ℕ, ◌+◌, ◌-◌, ◌≤◌, ◌<◌}
use native.Mathlib.Omega.{arith}
use lib.ListN.{length, take, drop, replicate, length-append, length-take, length-drop, length-map, take-append-drop, get_or-replicate}
use lib.Seq.{take_at, drop_at, length-take-le, get_or-take, get_or-drop}
use Rattle.listing.specs.Limits.{most_ports, most_legs}
use Rattle.listing.proofs.Numbers.{either, test, below?}
use Rattle.text_numbers.proofs.Inverse.{none-some}
use Rattle.campaign_state.specs.declared.State.{State}
use Rattle.campaign_state.proofs.Places.{Sized}
use Rattle.printing.specs.Rehearsals.{rehearsal_of, state_with}
use Rattle.printing.specs.declared.Rehearsal.{Rehearsal}
use Rattle.face_state.specs.States.{starts_place, runs_place, panel_place, ended_place, state_count, run_bits, run_in, bit, state_words, limits, within, word, words_at, state_at, state_in}
use Rattle.face_state.specs.Rehearsals.{end_place, rehearsal_count, rehearsal_words, widened, rehearsal_in}
use Rattle.face_state.proofs.Parts.{past, inside, drop_past}
use Rattle.face_state.proofs.Within.{within-length, not-as-many}
use Rattle.face_state.proofs.StateWords.{bits-length, is_state, no-state, state-length}
use Rattle.face_state.proofs.Back.{InRange, state-back, words_of}

-- ---- one front

-- a text in parts, the last one after the others
grouped : (a b c d e : List ℕ) → a ++ (b ++ (c ++ (d ++ e))) ≡ (a ++ (b ++ (c ++ d))) ++ e
grouped a b c d e =
    sym (append_assoc a (b ++ (c ++ d)) e ∙ ap (λ x. a ++ x) (append_assoc b (c ++ d) e ∙ ap (λ x. b ++ x) (append_assoc c d e)))

module _ (s : State) where
  -- ports, legs, starts, runs, panel, leg and step
  abbrev front : List ℕ
  front = s.plan.ports ∷ s.plan.legs ∷ (s.plan.starts ++ (map run_bits s.plan.runs ++ (s.panel ++ (s.leg ∷ s.step ∷ []))))

  -- what follows them in a rehearsal, and in a state
  abbrev end : List ℕ
  end = bit s.ended ∷ []

  abbrev counts : List ℕ
  counts = s.covered ∷ s.opened ∷ s.errors ∷ bit s.standing ∷ bit s.ended ∷ s.seat ∷ []

  words-parts : rehearsal_words (rehearsal_of s) ≡ front ++ end
  words-parts =
      ap (λ l. s.plan.ports ∷ s.plan.legs ∷ l) (grouped s.plan.starts (map run_bits s.plan.runs) s.panel (s.leg ∷ s.step ∷ []) end)

  state-parts : state_words s ≡ front ++ counts
  state-parts =
      ap (λ l. s.plan.ports ∷ s.plan.legs ∷ l) (grouped s.plan.starts (map run_bits s.plan.runs) s.panel (s.leg ∷ s.step ∷ []) counts)

  module _ (z : Sized s) where
    front_length : length front ≡ end_place
    front_length =
        let l : List ℕ = s.leg ∷ s.step ∷ [] in
        let a = length-append s.plan.starts (map run_bits s.plan.runs ++ (s.panel ++ l)) in
        let b = length-append (map run_bits s.plan.runs) (s.panel ++ l) in
        let c = length-append s.panel l in
        omega (arith, bits-length s z, z.starts, z.panel)

    -- they are 57
    pub rehearsal-length : length (rehearsal_words (rehearsal_of s)) ≡ rehearsal_count
    rehearsal-length = ap length words-parts ∙ omega (arith, length-append front end, front_length)

    -- up to the step they are the state's
    pub front-word : (at : ℕ) → at < end_place → word (state_words s) at ≡ word (rehearsal_words (rehearsal_of s)) at
    front-word at h =
        ap (λ ws. word ws at) state-parts
        ∙ inside front counts end_place at 0 front_length h
        ∙ sym (inside front end end_place at 0 front_length h)
        ∙ ap (λ ws. word ws at) (sym words-parts)

    -- and then the end
    pub end-word : bit s.ended ≡ word (rehearsal_words (rehearsal_of s)) end_place
    end-word = sym (ap (λ ws. word ws end_place) words-parts ∙ past front end end_place end_place 0 front_length (omega arith))

-- ---- a rehearsal is read back from its words

-- with zeros for the counts and the seat its words are those of a state
wide-words : (r : Rehearsal) → Sized (state_with 0 r) → widened (rehearsal_words r) ≡ state_words (state_with 0 r)
wide-words r z =
    let s = state_with 0 r in
    let zeros : List ℕ → List ℕ = λ x. 0 ∷ 0 ∷ 0 ∷ 0 ∷ (x ++ (0 ∷ [])) in
    ap widened (words-parts s)
    ∙ ap (λ x. x ++ zeros (drop end_place (front s ++ end s))) (take_at (front s) (end s) end_place (front_length s z))
    ∙ ap (λ x. front s ++ zeros x) (drop_at (front s) (end s) end_place (front_length s z))
    ∙ sym (state-parts s)

-- the rehearsal of a rehearsal's words is that rehearsal
pub rehearsal-back : (r : Rehearsal) → InRange (state_with 0 r) → rehearsal_in (rehearsal_words r) ≡ some r
unfolding rehearsal_in
rehearsal-back r k =
    ap (λ ws. Option.map rehearsal_of (state_in ws)) (wide-words r k.sized) ∙ ap (Option.map rehearsal_of) (state-back (state_with 0 r) k)

-- ---- words are had back from their rehearsal

-- the words of a state without the four of its counts and without its seat
abbrev narrowed : List ℕ → List ℕ
narrowed ws = take end_place ws ++ words_at ws ended_place 1

-- those are the words of its rehearsal
narrow-words : (s : State) → Sized s → narrowed (state_words s) ≡ rehearsal_words (rehearsal_of s)
narrow-words s z =
    ap narrowed (state-parts s)
    ∙ ap (λ x. x ++ words_at (front s ++ counts s) ended_place 1) (take_at (front s) (counts s) end_place (front_length s z))
    ∙ ap (λ x. front s ++ take 1 x) (drop_past (front s) (counts s) end_place 4 (front_length s z))
    ∙ sym (words-parts s)

-- the state of 62 words has its places
pub sized-at : (ws : List ℕ) → length ws ≡ state_count → Sized (state_at ws)
sized-at ws e = record {
  starts = omega (arith, length-take most_legs (drop starts_place ws), length-drop starts_place ws);
  runs = length-map (words_at ws runs_place most_legs) run_in ∙ omega (arith, length-take most_legs (drop runs_place ws), length-drop runs_place ws);
  panel = omega (arith, length-take most_ports (drop panel_place ws), length-drop panel_place ws);
}

module _ (ws : List ℕ) where
  -- five words more: four before the end, and one after it
  abbrev rest : List ℕ
  rest = 0 ∷ 0 ∷ 0 ∷ 0 ∷ (drop end_place ws ++ (0 ∷ []))

  wide-length : length (widened ws) ≡ length ws + 5
  wide-length =
      let more = length-append (drop end_place ws) (0 ∷ []) in
      omega (arith, length-append (take end_place ws) rest, more, ap length (take-append-drop end_place ws), length-append (take end_place ws) (drop end_place ws))

  module _ (many : length ws ≡ rehearsal_count) where
    fore : length (take end_place ws) ≡ end_place
    fore = length-take-le end_place ws (omega (arith, many))

    last : length (drop end_place ws) ≡ 1
    last = omega (arith, length-drop end_place ws, many)

    -- they are taken away again
    narrow_wide : narrowed (widened ws) ≡ ws
    narrow_wide =
        ap (λ x. x ++ words_at (widened ws) ended_place 1) (take_at (take end_place ws) rest end_place fore)
        ∙ ap (λ x. take end_place ws ++ take 1 x) (drop_past (take end_place ws) rest end_place 4 fore)
        ∙ ap (λ x. take end_place ws ++ x) (take_at (drop end_place ws) (0 ∷ []) 1 last)
        ∙ take-append-drop end_place ws

    -- the words of the state, place by place
    pub wide-front : (at : ℕ) → at < end_place → word ws at ≡ word (widened ws) at
    wide-front at h = sym (inside (take end_place ws) rest end_place at 0 fore h ∙ get_or-take end_place ws at 0 h)

    pub wide-end : word ws end_place ≡ word (widened ws) ended_place
    wide-end = sym (past (take end_place ws) rest end_place ended_place 0 fore (omega arith) ∙ inside (drop end_place ws) (0 ∷ []) 1 0 0 last (omega arith) ∙ get_or-drop end_place ws 0 0)

    pub wide-none : (at : ℕ) → end_place ≤ at → at < state_count → (at ≡ ended_place → ⊥) → 0 ≡ word (widened ws) at
    wide-none at low high other =
        sym
        (past (take end_place ws) rest end_place at 0 fore low
        ∙ either (below? at ended_place)
        (λ b. inside (replicate 4 0) (drop end_place ws ++ (0 ∷ [])) 4 (at - end_place) 0 refl (omega arith) ∙ get_or-replicate 4 (at - end_place) 0 0 (omega arith))
        (λ b. let e : at - end_place ≡ 5 = omega arith in ap (word rest) e ∙ past (drop end_place ws) (0 ∷ []) 1 1 0 last (omega arith)))

    pub wide-many : length (widened ws) ≡ state_count
    wide-many = omega (arith, wide-length, many)

  -- another number of words is none
  pub not-rehearsal : (length ws ≡ rehearsal_count → ⊥) → none ≡ rehearsal_in ws
  unfolding rehearsal_in
  not-rehearsal f =
      ap (Option.map rehearsal_of) (no-state (widened ws) (not-as-many (widened ws) limits (λ e. f (omega (arith, wide-length, e)))))

-- words that are a rehearsal: those of a state
module _ (ws : List ℕ) (r : Rehearsal) (e : rehearsal_in ws ≡ some r) where
  abbrev wide : List ℕ
  wide = widened ws

  they-fit : within wide limits ≡ true
  unfolding rehearsal_in
  they-fit =
      either (test (within wide limits)) (λ t. t) (λ t. absurd (none-some r (ap (Option.map rehearsal_of) (no-state wide t) ∙ e)))

  -- they are 57
  pub words-many : length ws ≡ rehearsal_count
  words-many = omega (arith, wide-length ws, within-length wide limits they-fit)

  the_one : rehearsal_of (state_at wide) ≡ r
  unfolding rehearsal_in
  the_one = one (ap (Option.map rehearsal_of) (is_state wide they-fit (state_at wide) refl) ∙ e)
    where
      one : {a b : Rehearsal} → some a ≡ some b → a ≡ b
      one x = cc

  -- the words of the rehearsal that words are, are these words
  pub rehearsal-words-back : rehearsal_words r ≡ ws
  rehearsal-words-back =
      ap rehearsal_words (sym the_one)
      ∙ sym (narrow-words (state_at wide) (sized-at wide (within-length wide limits they-fit)))
      ∙ ap narrowed (words_of wide they-fit)
      ∙ narrow_wide ws words-many

-- no words are a state and a rehearsal
pub never_both : (ws : List ℕ) (s : State) (r : Rehearsal) → some s ≡ state_in ws → rehearsal_in ws ≡ some r → ⊥
never_both ws s r e f = omega (arith, state-length ws e, words-many ws r f)
