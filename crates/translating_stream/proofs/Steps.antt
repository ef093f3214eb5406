-- What one line of a text from a place on comes to: that it has no newline, and the places of a line that has one (`no-newline`, `inside`); that it went
-- (`line-went`), with room for its text (`line-room`), or was refused (`line_refused`).
-- Assumes nothing.
use mathlib.Core.Path.{◌≡◌, refl, sym, ap, ◌∙◌}
use mathlib.Core.List.{List, ◌++◌}
use mathlib.Core.Option.{Option, some}
use Prim.Native.Nat.{ℕ, ◌+◌, ◌-◌, ◌≤◌, ◌<◌}
use native.Mathlib.Omega.{arith}
use lib.ListN.{length, take, drop, length-drop}
use borrow.Rule.Slice.PartMut.{mid_of, put_mid, put_same}
use Rattle.words.specs.Told.{Told, Spot, accepted, refused}
use Rattle.words.proofs.Told.{not-both, accepted-once}
use Rattle.text_keys.specs.Parts.{newline, first_of}
use Rattle.text_keys.proofs.Cuts.{first-inside, to_the_end}
use Rattle.line_format.specs.Calls.{over}
use Rattle.line_sentence.proofs.Writing.{part-whole, part-put}
use Rattle.translating.specs.Names.{most_names}
use Rattle.translating.specs.Lines.{Went, SoFar, line_of}
use Rattle.translating.proofs.Good.{line-109}
use Rattle.translating_line.specs.Answers.{went_told, text_in}
use Rattle.translating_stream.specs.Parts.{LineWent}

-- ---- the newline

-- the first newline from a place on, as the code looks for it
pub from_place : (t : List ℕ) (used : ℕ) (o : Option ℕ) → o ≡ first_of newline (take (length t - used) (drop used t)) → first_of newline (drop used t) ≡ o
from_place t used o e = sym (e ∙ ap (first_of newline) (to_the_end t used))

-- it stands inside the text
pub inside : (t : List ℕ) (used k : ℕ) → used ≤ length t → first_of newline (drop used t) ≡ some k → used + k < length t
inside t used k h e = omega (arith, first-inside newline (drop used t) k e, length-drop used t)

-- ---- what was told of the line

-- it went
went_back : (told : Told Went) (ports many : ℕ) → accepted (ports, many) ≡ went_told told
    → (w : Went) × (told ≡ accepted w) × (ports ≡ w.ports) × (many ≡ length w.text)
went_back (accepted w) ports many e =
    let f : ◌≡◌ {A = ℕ × ℕ} (ports, many) (w.ports, length w.text) = accepted-once e in
    (w, refl, ap (λ x. x.0) f, ap (λ x. x.1) f)
went_back (refused k s) ports many e = absurd (not-both (sym e))

-- it was refused
refused-back : (told : Told Went) (k : ℕ) (s : Spot) → refused k s ≡ went_told told → told ≡ refused k s
refused-back (accepted w) k s e = absurd (not-both e)
refused-back (refused j q) k s e = cc

-- ---- the line in its places: t from `used` on up to its newline, and the buffer from `len` on

module _ (t : List ℕ) (used n : ℕ) (known : SoFar n) (old : List ℕ) (len : ℕ) (within : len ≤ length old) (k : ℕ) (e : first_of newline (drop used t) ≡ some k) where
  -- the line, as the code cuts it
  abbrev cut : List ℕ
  cut = take (used + k - used) (drop used t)

  same : cut ≡ take k (drop used t)
  same = let f : used + k - used ≡ k = omega arith in ap (λ j. take j (drop used t)) f

  -- the part of the buffer
  abbrev part : List ℕ
  part = mid_of len (length old - len) old

  module _ (ports many : ℕ) (told : accepted (ports, many) ≡ went_told (line_of n cut)) where
    -- what the line leaves and prints
    w : (w : Went) × (line_of n cut ≡ accepted w) × (ports ≡ w.ports) × (many ≡ length w.text)
    w = went_back (line_of n cut) ports many told

    -- no more than a line of names
    pub line-room : many ≤ most_names
    line-room = omega (arith, line-109 n known cut w.0 w.1, w.3)

    pub line-went : len + most_names ≤ length old → (ys : List ℕ) → ys ≡ over (text_in (line_of n cut)) part
        → LineWent t used n len old (put_mid len (length old - len) old ys) ports (used + k + 1) (len + many)
    line-went room ys left = record {
      k = k;
      went = w.0;
      newline-at = e;
      line = ap (line_of n) (sym same) ∙ w.1;
      ports-are = w.2;
      next-at = refl;
      puts = record {
        place = ap (λ m. len + m) w.3;
        bytes = part-put old len within ys
            ∙ ap (λ x. take len old ++ x) (left ∙ ap (λ told. over (text_in told) part) w.1 ∙ ap (over w.0.text) (part-whole old len within));
      };
      fits = omega (arith, line-room);
    }

  -- a line that is refused leaves the buffer as it was
  pub line_refused : (i : ℕ) (s : Spot) → refused i s ≡ went_told (line_of n cut) → (ys : List ℕ) → ys ≡ over (text_in (line_of n cut)) part
      → (line_of n (take k (drop used t)) ≡ refused i s) × (put_mid len (length old - len) old ys ≡ old)
  line_refused i s told ys left =
      let r : line_of n cut ≡ refused i s = refused-back (line_of n cut) i s told in
      let kept : ys ≡ part = left ∙ ap (λ x. over (text_in x) part) r in
      (ap (line_of n) (sym same) ∙ r, ap (put_mid len (length old - len) old) kept ∙ put_same len (length old - len) old)
