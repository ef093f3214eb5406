-- A refused buffer: only the first line can be refused (`refused-first`), and then state, rehearsal and bytes are as they were (`state-stays`,
-- `rehearsal-stays`, `bytes-stay`).
-- Assumes nothing.
use mathlib.Core.Path.{◌≡◌, refl, sym, ap, ◌∙◌}
use mathlib.Core.List.{List, [], ◌++◌}
use mathlib.Core.Bool.{Bool}
use Prim.Native.Nat.{ℕ, zero, suc, ◌-◌, ◌≤◌}
use native.Mathlib.Omega.{arith}
use lib.ListN.{length, length-append}
use Rattle.listing.proofs.Numbers.{either, test}
use Rattle.words.specs.Told.{Told, Spot, accepted, refused}
use Rattle.words.proofs.Told.{not-both}
use Rattle.promise.specs.Campaign as model
use Rattle.promise.specs.Campaign.{request, movement, seat, mark, the_end, taken, refusal}
use Rattle.line_format.specs.Calls.{over}
use Rattle.campaign_state.specs.State.{answer_text, width}
use Rattle.campaign_state.specs.declared.State.{State}
use Rattle.campaign.specs.Calls.{answer_of}
use Rattle.printing.specs.Printing.{sequel, more, Printout, onward, lines_in}
use Rattle.printing.specs.Rehearsals.{rehearsal_of, state_of}
use Rattle.printing.specs.Answers.{stop_told, fill_of, fill_bytes}
use Rattle.printing.specs.declared.Rehearsal.{Rehearsal}
use Rattle.printing.proofs.Lines.{some_byte, goes-on, stops}
use Rattle.printing.proofs.Whole.{refused-still}

-- nothing is refused after a byte
stop-taken : (n : ℕ) (t : Told Bool) {k : ℕ} {p : Spot} → 1 ≤ n → stop_told n t ≡ refused k p → ⊥
stop-taken n (accepted b) h e = not-both (sym e)
stop-taken zero (refused j q) h e = omega arith
stop-taken (suc n) (refused j q) h e = not-both (sym e)

-- what is told of printed lines
abbrev print_told : Printout → Told (ℕ × Bool)
print_told x = stop_told (length x.text) (sequel x.stop)

-- an answer after no line that is refused
last-refused : (a : model.Answer) {k : ℕ} {p : Spot} → stop_told (width a) (sequel a) ≡ refused k p → a ≡ refusal k
last-refused (movement o) e = absurd (stop-taken (width (movement o)) (sequel (movement o)) (some_byte (movement o) refl) e)
last-refused (seat j) e = absurd (stop-taken (width (seat j)) (sequel (seat j)) (some_byte (seat j) refl) e)
last-refused (mark m r) e = absurd (stop-taken (width (mark m r)) (sequel (mark m r)) (some_byte (mark m r) refl) e)
last-refused (the_end m) e = absurd (not-both (sym e))
last-refused taken e = absurd (not-both (sym e))
last-refused (refusal m) {k} e = let n : m ≡ k = cc in ap refusal n

module _ (room : ℕ) (s : State) (k : ℕ) (p : Spot) (e : fill_of room s ≡ refused k p) where
  abbrev given : model.Answer
  given = answer_of (request room) s

  -- that is the first answer, and it is all that there is
  only-first : (given ≡ refusal k) × (lines_in room s ≡ record { text = answer_text given; left = onward room s; stop = given })
  only-first =
      either (test (more (sequel given)))
      (λ t.
      let on = goes-on room s t in
      let rest = lines_in (room - width given) (onward room s) in
      let long : 1 ≤ length (answer_text given ++ rest.text) = omega (arith, some_byte given t, length-append (answer_text given) rest.text) in
      absurd (stop-taken (length (answer_text given ++ rest.text)) (sequel rest.stop) long (ap print_told (sym on) ∙ e)))
      (λ t. let off = stops room s t in (last-refused given (ap print_told (sym off) ∙ e), off))

  -- the first request was refused so
  pub refused-first : answer_of (request room) s ≡ refusal k
  refused-first = only-first.0

  -- the state is as it was
  pub state-stays : (lines_in room s).left ≡ s
  state-stays = ap (λ (x : Printout). x.left) only-first.1 ∙ (refused-still room s k refused-first).1

  -- nothing was printed
  none-printed : (lines_in room s).text ≡ []
  none-printed = ap (λ (x : Printout). x.text) only-first.1 ∙ (refused-still room s k refused-first).0

-- so the rehearsal is as it was,
pub rehearsal-stays : (room : ℕ) (r : Rehearsal) (k : ℕ) (p : Spot) → fill_of room (state_of r) ≡ refused k p → rehearsal_of (lines_in room (state_of r)).left ≡ r
rehearsal-stays room r k p e = ap rehearsal_of (state-stays room (state_of r) k p e)

-- and so are the bytes
pub bytes-stay : (s : State) (buf : List ℕ) (k : ℕ) (p : Spot) → fill_of (length buf) s ≡ refused k p → fill_bytes s buf ≡ buf
bytes-stay s buf k p e = ap (λ t. over t buf) (none-printed (length buf) s k p e)
