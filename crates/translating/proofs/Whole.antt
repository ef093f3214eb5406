-- A text taken line by line and part by part. Its first line decides what is printed first (`first-line`): one that goes is followed by the rest (`line-goes`), one
-- that is refused ends it (`line_refused`). Parts that are taken one after the other print what the whole text prints (`onward-both`). At the end of the text nothing is
-- left (`nothing_left`), or a line without its newline (`left_over`); a line that is too long is refused by whether its newline comes (`too_long`).
-- Assumes nothing.
use mathlib.Core.Path.{◌≡◌, refl, sym, ap, ◌∙◌}
use mathlib.Core.List.{List, [], ◌∷◌, ◌++◌, append_assoc, append-nil}
use mathlib.Core.Option.{Option, none, some}
use Prim.Native.Nat.{ℕ, suc, ◌≤◌, ◌<◌}
use native.Mathlib.Omega.{arith}
use lib.ListN.{length, take, drop, length-append}
use borrow.Author.Tests.{lt-ltb}
use Rattle.words.specs.Told.{Spot, accepted, refused, nowhere}
use Rattle.text_keys.specs.Parts.{newline, first_of, around}
use Rattle.text_keys.proofs.Cuts.{CutAt, cut_parts, first-append}
use Rattle.text_entries.specs.Entries.{pieces}
use Rattle.text_entries.proofs.Cutting.{one_piece, first_piece}
use Rattle.text_entries.proofs.Back.{some-piece}
use Rattle.line_refusal.specs.Text.{refusal_text}
use Rattle.translating.specs.Lines.{most_line, Went, line_of}
use Rattle.translating.specs.Whole.{end_text, went_text, translated, printed_of, Onward, overlong}

-- ---- the first line

-- a piece with others after it is a line
line-piece : (n line : ℕ) (t : List ℕ) (ps : List (List ℕ)) → 1 ≤ length ps
    → translated n line (t ∷ ps) ≡ went_text line (line_of n t) (λ w. translated w.ports (suc line) ps)
unfolding translated
line-piece n line t [] h = absurd (omega arith)
line-piece n line t (u ∷ ps) h = refl

-- a line with its newline, and a text after it
whole-line : (n line : ℕ) (t u : List ℕ) → first_of newline t ≡ none
    → printed_of n line (t ++ (newline ∷ u)) ≡ went_text line (line_of n t) (λ w. printed_of w.ports (suc line) u)
whole-line n line t u e =
    ap (translated n line) (first_piece newline t u e) ∙ line-piece n line t (pieces newline u) (some-piece newline u)

module _ (t : List ℕ) (k : ℕ) (e : first_of newline t ≡ some k) (more : List ℕ) where
  parts : CutAt newline t (record { front = take k t; rest = drop (suc k) t })
  parts = cut_parts newline t _ (ap (λ o. around t o) e)

  -- a text with a newline in it, whatever comes after it
  apart : t ++ more ≡ take k t ++ (newline ∷ (drop (suc k) t ++ more))
  apart = ap (λ s. s ++ more) parts.whole ∙ append_assoc (take k t) (newline ∷ drop (suc k) t) more

  -- the line up to its first newline decides
  pub first-line : (n line : ℕ) → printed_of n line (t ++ more)
      ≡ went_text line (line_of n (take k t)) (λ w. printed_of w.ports (suc line) (drop (suc k) t ++ more))
  first-line n line = ap (printed_of n line) apart ∙ whole-line n line (take k t) (drop (suc k) t ++ more) parts.clear

-- ---- part after part

-- nothing taken
pub onward-none : (n line : ℕ) (t : List ℕ) → Onward n line t [] n line t
onward-none n line t more = refl

-- two parts: what was left of the first, and more text, is the second
pub onward-both : (n line : ℕ) (t out : List ℕ) (m row : ℕ) (left : List ℕ) → Onward n line t out m row left
    → (chunk out' : List ℕ) (m' row' : ℕ) (left' : List ℕ) → Onward m row (left ++ chunk) out' m' row' left'
    → Onward n line (t ++ chunk) (out ++ out') m' row' left'
onward-both n line t out m row left O chunk out' m' row' left' P more =
    ap (printed_of n line) (append_assoc t chunk more)
    ∙ O (chunk ++ more)
    ∙ ap (λ u. out ++ printed_of m row u) (sym (append_assoc left chunk more))
    ∙ ap (λ u. out ++ u) (P more)
    ∙ sym (append_assoc out out' (printed_of m' row' (left' ++ more)))

module _ (n line : ℕ) (t out : List ℕ) (m row : ℕ) (left : List ℕ) (O : Onward n line t out m row left) (k : ℕ) (e : first_of newline left ≡ some k) where
  -- one line more that goes
  pub line-goes : (w : Went) → line_of m (take k left) ≡ accepted w → Onward n line t (out ++ w.text) w.ports (suc row) (drop (suc k) left)
  line-goes w f more =
      O more
      ∙ ap (λ u. out ++ u) (first-line left k e more m row)
      ∙ ap (λ told. out ++ went_text row told (λ v. printed_of v.ports (suc row) (drop (suc k) left ++ more))) f
      ∙ sym (append_assoc out w.text (printed_of w.ports (suc row) (drop (suc k) left ++ more)))

  -- or that is refused: nothing comes after it, whatever the rest of the text is
  pub line_refused : (i : ℕ) (s : Spot) → line_of m (take k left) ≡ refused i s → (more : List ℕ) → printed_of n line (t ++ more) ≡ out ++ refusal_text i row
  line_refused i s f more =
      O more
      ∙ ap (λ u. out ++ u) (first-line left k e more m row)
      ∙ ap (λ told. out ++ went_text row told (λ v. printed_of v.ports (suc row) (drop (suc k) left ++ more))) f

-- ---- at the end

-- nothing is left
pub nothing_left : (n line : ℕ) → printed_of n line [] ≡ []
unfolding translated pieces
nothing_left n line = refl

-- a line without its newline is left: 11
ended : (line : ℕ) (t : List ℕ) → 1 ≤ length t → end_text line t ≡ refusal_text 11 line
ended line [] h = absurd (omega arith)
ended line (b ∷ t) h = refl

pub left-over : (n line : ℕ) (t : List ℕ) → first_of newline t ≡ none → 1 ≤ length t → printed_of n line t ≡ refusal_text 11 line
unfolding translated
left-over n line t e h = ap (translated n line) (one_piece newline t e) ∙ ended line t h

-- so the whole text has been translated where parts have been taken to its end
pub all-taken : (n line : ℕ) (t out : List ℕ) (m row : ℕ) → Onward n line t out m row [] → printed_of n line t ≡ out
all-taken n line t out m row O =
    ap (printed_of n line) (sym (append-nil t)) ∙ O [] ∙ ap (λ u. out ++ u) (nothing_left m row) ∙ append-nil out

pub all-but-newline : (n line : ℕ) (t out : List ℕ) (m row : ℕ) (left : List ℕ) → Onward n line t out m row left → first_of newline left ≡ none → 1 ≤ length left
    → printed_of n line t ≡ out ++ refusal_text 11 row
all-but-newline n line t out m row left O e h =
    ap (printed_of n line) (sym (append-nil t)) ∙ O []
    ∙ ap (λ u. out ++ printed_of m row u) (append-nil left)
    ∙ ap (λ u. out ++ u) (left-over m row left e h)

-- ---- a line that is too long

-- a line of more than 58 bytes is 8
long-line : (n : ℕ) (t : List ℕ) → most_line < length t → line_of n t ≡ refused 8 nowhere
unfolding line_of
long-line n t h = rw (lt-ltb most_line (length t) h)

-- more than 58 bytes without a newline: 8 if one comes, 11 if none does
pub too_long : (n line : ℕ) (t : List ℕ) → first_of newline t ≡ none → most_line < length t → (more : List ℕ)
    → printed_of n line (t ++ more) ≡ refusal_text (overlong (first_of newline more)) line
too_long n line t e h more = by (first_of newline more) refl
  where
    by : (o : Option ℕ) → first_of newline more ≡ o → printed_of n line (t ++ more) ≡ refusal_text (overlong o) line
    by none f = left-over n line (t ++ more) (first-append newline t more e f) (omega (arith, length-append t more))
    by (some k) f =
        let P = cut_parts newline more _ (ap (λ o. around more o) f) in
        let front = t ++ take k more in
        let long : most_line < length front = omega (arith, length-append t (take k more)) in
        ap (λ u. printed_of n line (t ++ u)) P.whole
        ∙ ap (printed_of n line) (sym (append_assoc t (take k more) (newline ∷ drop (suc k) more)))
        ∙ whole-line n line front (drop (suc k) more) (first-append newline t (take k more) e P.clear)
        ∙ ap (λ told. went_text line told (λ w. printed_of w.ports (suc line) (drop (suc k) more))) (long-line n front long)
