-- What the writer tells and which bytes it leaves, case by case. Of any text: 2 (`text-room`), or the text at the front (`text-front`). Of a line: 17 first,
-- then what is so of its text. So a refused call leaves every byte as it was (`refused-kept`), and an accepted one leaves the bytes after the line and has the
-- line in front (`rest-kept`, `line-in-front`).
-- Assumes nothing.
use mathlib.Core.Path.{◌≡◌, refl, sym, ap, ◌∙◌}
use mathlib.Core.Bool.{true, false}
use mathlib.Core.List.{List}
use Prim.Native.Nat.{ℕ, ◌≤◌, ◌<◌}
use lib.ListN.{length, take, drop}
use lib.Seq.{take_at, drop_at}
use borrow.Author.Tests.{le-leb, lt-leb}
use Rattle.listing.proofs.Numbers.{either, below?, test}
use Rattle.words.specs.Told.{Spot, nowhere, accepted, refused}
use Rattle.words.specs.declared.Line.{Line}
use Rattle.line_format.specs.Format.{line_text}
use Rattle.words.specs.Shape.{line_fits}
use Rattle.line_format.specs.Reading.{fitting}
use Rattle.line_format.specs.Calls.{room_of, over, room_bytes, write_of, write_bytes}
use Rattle.words.proofs.Told.{not-both, accepted-once}

-- ---- any text

module _ (t buf : List ℕ) where
  -- the buffer has no room for it
  pub text-room : length buf < length t → (refused 2 nowhere ≡ room_of t buf) × (buf ≡ room_bytes t buf)
  unfolding room_of room_bytes
  text-room h = rw (lt-leb (length t) (length buf) h) (refl, refl)

  -- it is put at the front: a buffer that is just as long is enough
  pub text-front : length t ≤ length buf → (accepted (length t) ≡ room_of t buf) × (over t buf ≡ room_bytes t buf)
  unfolding room_of room_bytes
  text-front h = rw (le-leb (length t) (length buf) h) (refl, refl)

-- ---- a line

module _ (jacks : ℕ) (l : Line) (buf : List ℕ) where
  -- a line that does not fit is refused, whatever the room
  pub write-unfit : line_fits jacks l ≡ false → (refused 17 nowhere ≡ write_of jacks l buf) × (buf ≡ write_bytes jacks l buf)
  unfolding write_of write_bytes fitting
  write-unfit e = rw e (refl, refl)

  -- any other is written as its text is
  pub write-fit : line_fits jacks l ≡ true → (room_of (line_text l) buf ≡ write_of jacks l buf) × (room_bytes (line_text l) buf ≡ write_bytes jacks l buf)
  unfolding write_of write_bytes fitting room_bytes
  write-fit e = rw e (refl, refl)

  -- so it is refused where the buffer has no room for it
  pub write-room : line_fits jacks l ≡ true → length buf < length (line_text l) → (refused 2 nowhere ≡ write_of jacks l buf) × (buf ≡ write_bytes jacks l buf)
  write-room e h = let t = text-room (line_text l) buf h in let w = write-fit e in (t.0 ∙ w.0, t.1 ∙ w.1)

  -- and else written at the front
  pub write-front : line_fits jacks l ≡ true → length (line_text l) ≤ length buf
      → (accepted (length (line_text l)) ≡ write_of jacks l buf) × (over (line_text l) buf ≡ write_bytes jacks l buf)
  write-front e h = let t = text-front (line_text l) buf h in let w = write-fit e in (t.0 ∙ w.0, t.1 ∙ w.1)

  -- ---- the bytes

  -- a refused call leaves them as they were
  pub refused-kept : (k : ℕ) (s : Spot) → write_of jacks l buf ≡ refused k s → write_bytes jacks l buf ≡ buf
  unfolding write_bytes
  refused-kept k s e = rw e

  -- what was accepted fits and has room
  accepted-front : (n : ℕ) → write_of jacks l buf ≡ accepted n → (length (line_text l) ≡ n) × (over (line_text l) buf ≡ write_bytes jacks l buf)
  accepted-front n e =
      either (test (line_fits jacks l))
      (λ f. either (below? (length buf) (length (line_text l)))
      (λ h. absurd (not-both ((write-room f h).0 ∙ e)))
      (λ h. (accepted-once ((write-front f h).0 ∙ e), (write-front f h).1)))
      (λ f. absurd (not-both ((write-unfit f).0 ∙ e)))

  -- 'bytes after the written line keep their values'
  pub rest-kept : (n : ℕ) → write_of jacks l buf ≡ accepted n → drop n (write_bytes jacks l buf) ≡ drop n buf
  rest-kept n e =
      let w = accepted-front n e in
      ap (drop n) (sym w.1) ∙ drop_at (line_text l) (drop (length (line_text l)) buf) n w.0 ∙ ap (λ k. drop k buf) w.0

  -- the line stands in front, in as many bytes as were told
  pub line-in-front : (n : ℕ) → write_of jacks l buf ≡ accepted n → take n (write_bytes jacks l buf) ≡ line_text l
  line-in-front n e =
      let w = accepted-front n e in ap (take n) (sym w.1) ∙ take_at (line_text l) (drop (length (line_text l)) buf) n w.0
