-- The printer's lines one at a time: a line fits the room and takes a byte at least, so the room is as many requests as can be wanted, and a line in front of
-- what follows is what is printed (`goes_on`, `stops`).
-- Assumes nothing.
use mathlib.Core.Path.{◌≡◌, refl, sym, ap, subst, ◌∙◌}
use mathlib.Core.Logic.{◌≢◌}
use mathlib.Core.Bool.{Bool, true, false, cond, true≢false}
use Prim.Native.Nat.{ℕ, zero, suc, ◌-◌, ◌≤◌, ◌<◌}
use native.Mathlib.Omega.{arith}
use lib.ListN.{length, length-append}
use Rattle.listing.proofs.Numbers.{either, test}
use Rattle.words.specs.Told.{Told, Spot, accepted, refused}
use Rattle.words.specs.Meaning.{jack_at, order_from}
use Rattle.words.specs.declared.Line.TheVariants.{Movement, Seat, Mark}
use Rattle.line_format.proofs.Inverse.{text-length}
use Rattle.promise.specs.Campaign as model
use Rattle.promise.specs.Campaign.{request, movement, seat, mark, the_end, taken, refusal}
use Rattle.campaign_state.specs.State.{answer_text, width}
use Rattle.campaign_state.specs.declared.State.{State}
use Rattle.campaign.specs.Calls.{answer_of}
use Rattle.campaign.proofs.Tells.{within-room}
use Rattle.printing.specs.Printing.{sequel, more, Printout, in_front, onward, lines_from, lines_in}
use Rattle.printing.specs.Answers.{stop_told, fill_of}

-- ---- a line

-- it has a byte at least
pub some_byte : (a : model.Answer) → more (sequel a) ≡ true → 1 ≤ width a
some_byte (movement o) e = omega (arith, text-length (Movement (order_from o)))
some_byte (seat j) e = omega (arith, text-length (Seat (jack_at j)))
some_byte (mark k r) e = omega (arith, text-length (Mark k r))
some_byte (the_end k) e = absurd (true≢false (cc))
some_byte taken e = absurd (true≢false (cc))
some_byte (refusal k) e = absurd (true≢false (cc))

-- ---- the lines

module _ (room : ℕ) (s : State) where
  -- what is printed, by whether lines go on
  by-going : ℕ → Bool → Printout
  by-going k b =
      let a = answer_of (request room) s in
      cond b (in_front (answer_text a) (lines_from k (room - width a) (onward room s))) (record { text = answer_text a; left = onward room s; stop = a })

  lines-by : (k : ℕ) (b : Bool) → more (sequel (answer_of (request room) s)) ≡ b → lines_from (suc k) room s ≡ by-going k b
  unfolding lines_from by-going
  lines-by k b e = ap (by-going k) e

  -- a line and those that follow it
  pub lines-on : (k : ℕ) → more (sequel (answer_of (request room) s)) ≡ true
      → lines_from (suc k) room s ≡ in_front (answer_text (answer_of (request room) s)) (lines_from k (room - width (answer_of (request room) s)) (onward room s))
  unfolding by-going
  lines-on k e = lines-by k true e

  -- the last answer
  pub lines-off : (k : ℕ) → more (sequel (answer_of (request room) s)) ≡ false
      → lines_from (suc k) room s ≡ record { text = answer_text (answer_of (request room) s); left = onward room s; stop = answer_of (request room) s }
  unfolding by-going
  lines-off k e = lines-by k false e

-- more requests than bytes print the same
enough : (j k room : ℕ) (s : State) → room < j → room < k → lines_from j room s ≡ lines_from k room s
enough zero k room s h g = absurd (omega arith)
enough (suc j) zero room s h g = absurd (omega arith)
enough (suc j) (suc k) room s h g =
    let a = answer_of (request room) s in
    either (test (more (sequel a)))
    (λ e.
    let b : 1 ≤ width a = some_byte a e in
    let w : width a ≤ room = within-room room s in
    lines-on room s j e
    ∙ ap (in_front (answer_text a)) (enough j k (room - width a) (onward room s) (omega arith) (omega arith))
    ∙ sym (lines-on room s k e))
    (λ e. lines-off room s j e ∙ sym (lines-off room s k e))

module _ (room : ℕ) (s : State) where
  abbrev given : model.Answer
  given = answer_of (request room) s

  -- a line that goes on, in front of the lines in the room that it leaves
  pub goes-on : more (sequel given) ≡ true → lines_in room s ≡ in_front (answer_text given) (lines_in (room - width given) (onward room s))
  goes-on e =
      let b : 1 ≤ width given = some_byte given e in
      let w : width given ≤ room = within-room room s in
      lines-on room s room e
      ∙ ap (in_front (answer_text given)) (enough room (suc (room - width given)) (room - width given) (onward room s) (omega arith) (omega arith))

  -- the last answer
  pub stops : more (sequel given) ≡ false → lines_in room s ≡ record { text = answer_text given; left = onward room s; stop = given }
  stops e = lines-off room s room e

-- the lines fit the room
pub text-fits : (k room : ℕ) (s : State) → length (lines_from k room s).text ≤ room
unfolding lines_from
text-fits zero room s = omega arith
text-fits (suc k) room s =
    let a = answer_of (request room) s in
    let w : width a ≤ room = within-room room s in
    either (test (more (sequel a)))
    (λ e.
    let rest = lines_from k (room - width a) (onward room s) in
    subst (λ (x : Printout). length x.text ≤ room) (sym (lines-on room s k e))
    (omega (arith, w, text-fits k (room - width a) (onward room s), length-append (answer_text a) rest.text)))
    (λ e. subst (λ (x : Printout). length x.text ≤ room) (sym (lines-off room s k e)) w)

-- ---- a refusal after so many bytes

pub stop-none : (n : ℕ) → n ≡ 0 → (k : ℕ) (p : Spot) → refused k p ≡ stop_told n (refused k p)
stop-none zero e k p = refl
stop-none (suc n) e k p = absurd (omega arith)

pub stop-some : (n : ℕ) → n ≢ 0 → (k : ℕ) (p : Spot) → accepted (n, false) ≡ stop_told n (refused k p)
stop-some zero e k p = absurd (e refl)
stop-some (suc n) e k p = refl

-- ---- how many bytes are told

-- how many, and whether the end is among them
unfoldable pub bytes : Told (ℕ × Bool) → ℕ
bytes (accepted x) = x.0
bytes (refused k p) = 0

unfoldable pub ends : Told (ℕ × Bool) → Bool
ends (accepted x) = x.1
ends (refused k p) = true

-- as many as there are
told-bytes : (m : ℕ) (t : Told Bool) (n : ℕ) (b : Bool) → stop_told m t ≡ accepted (n, b) → n ≡ m
unfolding bytes
told-bytes m (accepted x) n b e = sym (ap bytes e)
told-bytes zero (refused k p) n b e = sym (ap bytes e)
told-bytes (suc m) (refused k p) n b e = sym (ap bytes e)

-- so no more than the room
pub told-within : (room : ℕ) (s : State) (n : ℕ) (b : Bool) → fill_of room s ≡ accepted (n, b) → n ≤ room
told-within room s n b e =
    omega (arith, text-fits (suc room) room s, told-bytes (length (lines_in room s).text) (sequel (lines_in room s).stop) n b e)
