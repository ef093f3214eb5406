-- What the writer of lines tells, for a line of the panel: it is written where there is room, and refused with 2 where there is none.
-- Assumes nothing.
use mathlib.Core.Path.{◌≡◌, refl, sym, ap, ◌∙◌}
use mathlib.Core.Bool.{true}
use mathlib.Core.List.{List}
use Prim.Native.Nat.{ℕ, ◌≤◌, ◌<◌}
use lib.ListN.{length}
use borrow.Author.Tests.{lt-ltb, le-ltb}
use Rattle.listing.specs.Limits.{most_ports}
use Rattle.listing.proofs.Numbers.{either, below?}
use Rattle.words.specs.Told.{Told, Spot, accepted, refused, nowhere}
use Rattle.words.specs.Shape.{line_fits}
use Rattle.words.specs.declared.Line.{Line}
use Rattle.words.specs.declared.Line.TheVariants.{Movement, Seat, Mark, End}
use Rattle.words.proofs.Once.{order-back}
use Rattle.words.proofs.Shape.{fits_more}
use Rattle.words.proofs.Told.{not-both, accepted-once}
use Rattle.line_format.specs.Format.{line_text}
use Rattle.line_format.specs.Calls.{over, write_of, write_bytes}
use Rattle.line_format.proofs.Written.{write-room, write-front}
use Rattle.promise.specs.Campaign.{refusal}
use Rattle.campaign_state.specs.State.{answer_text, width}
use Rattle.campaign.specs.Calls.{line_is, roomed}

-- the text of the answer that a line is, is the line's
pub text-of-line : (l : Line) → answer_text (line_is l) ≡ line_text l
text-of-line (Movement o) = ap (λ x. line_text (Movement x)) (order-back o)
text-of-line (Seat j) = refl
text-of-line (Mark k r) = refl
text-of-line (End k) = refl

module _ (n : ℕ) (few : n ≤ most_ports) (l : Line) (fits : line_fits n l ≡ true) (buf : List ℕ) where
  -- it fits the writer's jacks
  wide : line_fits most_ports l ≡ true
  wide = fits_more n most_ports l few fits

  -- where it was written there was room: so the answer stands, and its text is in front
  pub record WrittenAs (k : ℕ) : Type 0 where
    pub bytes : k ≡ width (line_is l)
    pub answer : line_is l ≡ roomed (length buf) (line_is l)
    pub left : write_bytes most_ports l buf ≡ over (answer_text (roomed (length buf) (line_is l))) buf

  -- there is room
  room-answer : length (line_text l) ≤ length buf → line_is l ≡ roomed (length buf) (line_is l)
  unfolding roomed
  room-answer h = let w : length (answer_text (line_is l)) ≤ length buf = rw (text-of-line l) h in rw (le-ltb (length buf) (length (answer_text (line_is l))) w) refl

  -- there is none
  pub short-answer : length buf < length (line_text l) → refusal 2 ≡ roomed (length buf) (line_is l)
  unfolding roomed
  short-answer h = let w : length buf < length (answer_text (line_is l)) = rw (text-of-line l) h in rw (lt-ltb (length buf) (length (answer_text (line_is l))) w) refl

  pub was-written : (k : ℕ) → accepted k ≡ write_of most_ports l buf → WrittenAs k
  was-written k e =
      either (below? (length buf) (length (line_text l)))
      (λ h. absurd (not-both ((write-room most_ports l buf wide h).0 ∙ sym e)))
      (λ h.
      let w = write-front most_ports l buf wide h in
      record {
        bytes = accepted-once (e ∙ sym w.0) ∙ ap length (sym (text-of-line l));
        answer = room-answer h;
        left = sym w.1 ∙ ap (λ t. over t buf) (sym (text-of-line l)) ∙ ap (λ a. over (answer_text a) buf) (room-answer h);
      })

  -- where it was not there was none: 2 at no place, and the buffer is as it was
  pub record NotWritten (k : ℕ) (s : Spot) : Type 0 where
    pub told : ◌≡◌ {A = Told ℕ} (refused k s) (refused 2 nowhere)
    pub answer : refusal 2 ≡ roomed (length buf) (line_is l)
    pub left : write_bytes most_ports l buf ≡ buf

  pub not_written : (k : ℕ) (s : Spot) → refused k s ≡ write_of most_ports l buf → NotWritten k s
  not_written k s e =
      either (below? (length buf) (length (line_text l)))
      (λ h.
      let w = write-room most_ports l buf wide h in
      record { told = e ∙ sym w.0; answer = short-answer h; left = sym w.1 })
      (λ h. absurd (not-both (e ∙ sym (write-front most_ports l buf wide h).0)))
