-- A part of a text taken line by line: nothing yet (`taken_none`), and one line more (`line-inside`, `taken-line`). What it says of the whole text: that a line was
-- refused (`part-refused`), that parts one after the other print what the whole prints (`parts-both`), and how the text ends (`text-over`, `text-cut`, `text-long`).
-- Assumes nothing.
use mathlib.Core.Path.{◌≡◌, refl, sym, ap, subst, ◌∙◌}
use mathlib.Core.List.{List, [], ◌++◌}
use mathlib.Core.Option.{none, some}
use Prim.Native.Nat.{ℕ, suc, ◌+◌, ◌≤◌, ◌<◌}
use native.Mathlib.Numerals.{add-one}
use native.Mathlib.Omega.{arith}
use lib.ListN.{length, take, drop}
use lib.Seq.{drop-drop}
use Rattle.words.specs.Meaning.{number_of, refusal_of}
use Rattle.words.specs.declared.Refusal.{Refusal}
use Rattle.text_keys.specs.Parts.{newline, first_of}
use Rattle.line_format.proofs.Buffer.{put, put_front, put_rest, put-length, rest-first}
use Rattle.line_refusal.specs.Text.{refusal_text}
use Rattle.translating.specs.Lines.{most_line, SoFar, line_of}
use Rattle.translating.specs.Whole.{printed_of, Onward, overlong}
use Rattle.translating.proofs.Good.{line-ports}
use Rattle.translating.proofs.Whole.{onward-none, onward-both, line-goes, line_refused, all-taken, all-but-newline, too_long}
use Rattle.translating_stream.specs.Parts.{StopIs, Taken, PartIs, LineWent}
use Rattle.translating_stream.specs.declared.Stop.{Stop}
use Rattle.translating_stream.proofs.Steps.{inside}

-- ---- line by line

-- nothing yet
pub taken_none : (n line : ℕ) (t old : List ℕ) → SoFar n → Taken n line t old old n line 0 0
taken_none n line t old known =
    record { within = omega arith; room = omega arith; known = known; lines = omega arith; goes = onward-none n line t; keeps = refl }

module _ (n line : ℕ) (t old out : List ℕ) (ports row used len : ℕ) (T : Taken n line t old out ports row used len)
    (left : List ℕ) (after next end : ℕ) (L : LineWent t used ports len out left after next end) where
  -- a line more is inside the text
  pub line-inside : (used < next) × (next ≤ length t)
  line-inside = let h = inside t used L.k T.within L.newline-at in (omega (arith, L.next-at), omega (arith, L.next-at))

  -- its text stands behind the others
  fits : len + length L.went.text ≤ length out
  fits = omega (arith, L.puts.place, L.fits)

  is-put : left ≡ put len L.went.text out
  is-put = L.puts.bytes

  end-at : end ≡ len + length L.went.text
  end-at = L.puts.place

  printed : take end left ≡ take len out ++ L.went.text
  printed = (λ i. take (end-at i) (is-put i)) ∙ put_front len L.went.text out fits

  kept : drop end left ≡ drop end old
  kept =
      (λ i. drop (end-at i) (is-put i)) ∙ put_rest len L.went.text out fits ∙ rest-first len L.went.text out fits old T.keeps
      ∙ ap (λ k. drop k old) (sym end-at)

  onward : Onward n line t (take end left) after (row + 1) (drop next t)
  onward =
      let o = line-goes n line t (take len out) ports row (drop used t) T.goes L.k L.newline-at L.went L.line in
      let place : drop (suc L.k) (drop used t) ≡ drop next t =
      drop-drop (suc L.k) used t ∙ (let e : used + suc L.k ≡ next = omega (arith, L.next-at) in ap (λ j. drop j t) e) in
      λ more.
      o more
      ∙ (λ i. sym printed i ++ printed_of (sym L.ports-are i) (sym (add-one row) i) (place i ++ more))

  pub taken-line : Taken n line t old left after (row + 1) next end
  taken-line = record {
    within = line-inside.1;
    room = omega (arith, L.fits, ap length is-put, put-length len L.went.text out fits);
    known = subst SoFar (sym L.ports-are) (line-ports ports T.known _ L.went L.line);
    lines = omega (arith, T.lines, line-inside.0);
    goes = onward;
    keeps = kept;
  }

-- no line more: the buffer is as it was
pub part-stopped : (n line : ℕ) (t old out : List ℕ) (ports row used len : ℕ) → Taken n line t old out ports row used len
    → (left : List ℕ) (stop : Stop) → StopIs (drop used t) ports len out stop × (left ≡ out)
    → PartIs n line t old left (record { ports = ports; line = row; used = used; len = len; stop = stop })
part-stopped n line t old out ports row used len T left stop S =
    subst (λ b. PartIs n line t old b (record { ports = ports; line = row; used = used; len = len; stop = stop })) (sym S.1) (record { taken = T; stop = S.0 })

-- ---- what a part says of the whole text

module _ (n line : ℕ) (t old out : List ℕ) (ports row used len : ℕ) (T : Taken n line t old out ports row used len) where
  -- a line was refused: its refusal with its number comes next, and nothing after it
  pub part-refused : (f : Refusal) (k : ℕ) → first_of newline (drop used t) ≡ some k → line_of ports (take k (drop used t)) ≡ refusal_of f → (more : List ℕ)
      → printed_of n line (t ++ more) ≡ take len out ++ refusal_text (number_of f.reason) row
  part-refused f k e r = line_refused n line t (take len out) ports row (drop used t) T.goes k e _ _ r

  -- the next part is what is left of this one, and more text
  pub parts-both : (chunk old' out' : List ℕ) (ports' row' used' len' : ℕ) → Taken ports row (drop used t ++ chunk) old' out' ports' row' used' len'
      → Onward n line (t ++ chunk) (take len out ++ take len' out') ports' row' (drop used' (drop used t ++ chunk))
  parts-both chunk old' out' ports' row' used' len' U =
      onward-both n line t (take len out) ports row (drop used t) T.goes chunk (take len' out') ports' row' (drop used' (drop used t ++ chunk)) U.goes

  -- the text is over: nothing is left of it, or a line without its newline
  pub text-over : drop used t ≡ [] → printed_of n line t ≡ take len out
  text-over e = all-taken n line t (take len out) ports row (subst (Onward n line t (take len out) ports row) e T.goes)

  module _ (e : first_of newline (drop used t) ≡ none) where
    pub text-cut : 1 ≤ length (drop used t) → printed_of n line t ≡ take len out ++ refusal_text 11 row
    text-cut h = all-but-newline n line t (take len out) ports row (drop used t) T.goes e h

    -- what is left is longer than any good line: whatever comes, that line is refused, by whether its newline comes
    pub text-long : most_line < length (drop used t) → (more : List ℕ)
        → printed_of n line (t ++ more) ≡ take len out ++ refusal_text (overlong (first_of newline more)) row
    text-long h more = T.goes more ∙ ap (λ u. take len out ++ u) (too_long ports row (drop used t) e h more)
