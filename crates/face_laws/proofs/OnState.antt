-- Calls on a state or a rehearsal that stands in words: what they tell and leave where the words are one (`on-told`, `on-left`, `on-bytes`) and where they are none
-- (`off-told`, `off-left`, and with a buffer `off-buffer`); what the answers of a campaign give (`order-bytes`, `heard`); and the beginning (`begin-right`, `begin-wrong`).
-- Assumes nothing.
use mathlib.Core.Path.{◌≡◌, refl, sym, ap, ◌∙◌}
use mathlib.Core.List.{List, [], ◌∷◌, ◌++◌}
use mathlib.Core.Option.{none, some}
use Prim.Native.Nat.{ℕ}
use lib.ListN.{length}
use borrow.Author.Tests.{eq-eqb, ne_eqb}
use Rattle.words.specs.Told.{Told, Spot, accepted, refused, nowhere, then, leaves}
use Rattle.words.specs.Meaning.{order_of, outcome_told}
use Rattle.words.specs.declared.Line.TheVariants.{Movement}
use Rattle.words.specs.declared.Order.{Order}
use Rattle.words.specs.declared.Order.TheVariants.{Swap, Turn}
use Rattle.promise.specs.Campaign as model
use Rattle.promise.specs.Campaign.{movement, seat, mark, the_end, taken, refusal}
use Rattle.plans.specs.Calls.{read_plan_of}
use Rattle.campaign_state.specs.State.{width}
use Rattle.campaign.specs.Answers.{heard_told}
use Rattle.campaign.specs.Calls.{told_of}
use Rattle.face_values.specs.Answers.{five, words_told, nothing}
use Rattle.face_values.specs.Lines.{line_words}
use Rattle.face_values.proofs.Tells.{Tells}
use Rattle.face_laws.specs.Values.{order_and_bytes, order_then}
use Rattle.face_laws.specs.Calls.{Crossing, on_words, left_in, words_left, bytes_in, bytes_left, judged_for, begun_with}
use Rattle.std.specs.declared.result.Result.{Result}
use Rattle.std.specs.declared.result.Result.TheVariants.{Ok, Err}
use Rattle.words.specs.declared.Refusal.{Refusal}

-- ---- words that are one

-- the words of what words are, are these words
abbrev pub HadBack : {S : Type 0} → Crossing S → Type 0
HadBack {S} W = (ws : List ℕ) (s : S) → W.reads ws ≡ some s → W.writes s ≡ ws

module _ {S A : Type 0} (W : Crossing S) (f : S → Told A) (ws : List ℕ) {s : S} (e : some s ≡ W.reads ws) where
  -- what is told of it
  pub on-told : f s ≡ on_words W f ws
  unfolding on_words
  on-told = rw (← e) refl

  -- the words of what is left are left: a refused call leaves it, and its words are those that were there
  pub on-left : HadBack W → (g : S → S) {left : S} → ((k : ℕ) (p : Spot) → f s ≡ refused k p → g s ≡ s) → left ≡ g s → W.writes left ≡ words_left W f g ws
  unfolding words_left
  on-left back g stays l = ap W.writes l ∙ by (f s) refl ∙ ap (λ x. leaves x (left_in W g (W.reads ws) ws) ws) on-told
    where
      by : (t : Told A) → f s ≡ t → W.writes (g s) ≡ leaves t (left_in W g (W.reads ws) ws) ws
      by (accepted a) h = ap (λ o. left_in W g o ws) e
      by (refused k p) h = ap W.writes (stays k p h) ∙ back ws s (sym e)

-- and the bytes of its buffer
pub on-bytes : {S : Type 0} (W : Crossing S) (h : S → List ℕ → List ℕ) (ws : List ℕ) {s : S} → some s ≡ W.reads ws → (buf : List ℕ)
    → h s buf ≡ bytes_left W h ws buf
unfolding bytes_left
on-bytes W h ws e buf = ap (λ o. bytes_in W h o buf) e

-- ---- words that are none

module _ {S : Type 0} (W : Crossing S) (ws : List ℕ) (e : none ≡ W.reads ws) where
  pub off-told : {A : Type 0} (f : S → Told A) → refused 15 nowhere ≡ on_words W f ws
  unfolding on_words
  off-told f = rw (← e) refl

  pub off-left : {A : Type 0} (f : S → Told A) (g : S → S) → ws ≡ words_left W f g ws
  unfolding words_left
  off-left f g = ap (λ x. leaves x (left_in W g (W.reads ws) ws) ws) (off-told f)

  -- all that such a call tells and leaves
  pub off-buffer : {A : Type 0} (f : S → Told A) (g : S → S) (h : S → List ℕ → List ℕ) (buf : List ℕ)
      → (refused 15 nowhere ≡ on_words W f ws) × ((ws ≡ words_left W f g ws) × (buf ≡ bytes_left W h ws buf))
  unfolding bytes_left
  off-buffer f g h buf = (off-told f, (off-left f g, ap (λ o. bytes_in W h o buf) e))

-- ---- the answers of a campaign

-- an order's words and any number after them
pub order-words : (o : Order) (n : ℕ) → five (line_words (Movement o) ++ (n ∷ [])) ≡ five (order_then n (movement (order_of o)))
order-words (Swap a b) n = refl
order-words (Turn a b c) n = refl

-- where that is how many bytes its line takes, they are what a request gives
by_width : (a : model.Answer) {n : ℕ} → n ≡ width a → words_told (order_then n) (told_of a) ≡ words_told order_and_bytes (told_of a)
by_width (movement o) e = ap (λ m. words_told (order_then m) (told_of (movement o))) e
by_width (seat j) e = ap (λ m. words_told (order_then m) (told_of (seat j))) e
by_width (mark k r) e = ap (λ m. words_told (order_then m) (told_of (mark k r))) e
by_width (the_end k) e = ap (λ m. words_told (order_then m) (told_of (the_end k))) e
by_width taken e = refl
by_width (refusal k) e = refl

pub order-bytes : (a : model.Answer) {n m : ℕ} {w : List ℕ} → n ≡ width a → Tells (order_then n) (told_of a) m w → Tells order_and_bytes (told_of a) m w
order-bytes a e t = (t.0, t.1 ∙ by_width a e)

-- a report tells what its outcome tells
pub heard : (o : Result (Unit {0}) Refusal) {n : ℕ} {w : List ℕ} → Tells nothing (outcome_told o) n w → Tells nothing (heard_told o) n w
heard (Ok tt) t = t
heard (Err f) t = t

-- ---- the beginning

module _ (many : ℕ) (t first ws : List ℕ) where
  -- as many words as wanted
  pub begin-right : length ws ≡ many → (then (read_plan_of t) (λ p. accepted tt) ≡ judged_for many t ws) × (first ≡ begun_with many first ws)
  unfolding judged_for begun_with
  begin-right e = let b = eq-eqb (length ws) many e in (rw b refl, rw b refl)

  -- and another number
  pub begin-wrong : (length ws ≡ many → ⊥) → (refused 15 nowhere ≡ judged_for many t ws) × (ws ≡ begun_with many first ws)
  unfolding judged_for begun_with
  begin-wrong f = let b = ne_eqb (length ws) many f in (rw b refl, rw b refl)
