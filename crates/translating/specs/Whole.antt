-- A whole text translated: what is printed for each of its lines in turn. The first line that is refused is told by its refusal and its number, and ends it.
-- Assumes nothing.
use Rattle.std.specs.Prelude.{ℕ, suc, ◌≡◌, List, [], ◌∷◌, ◌++◌}
use Rattle.std.proofs.Math.Option.{Option, none, some}
use Rattle.words.specs.Told.{Told, accepted, refused}
use Rattle.text_keys.specs.Parts.{newline}
use Rattle.text_entries.specs.Entries.{pieces}
use Rattle.line_refusal.specs.Text.{refusal_text}
use Rattle.translating.specs.Lines.{Went, line_of}

-- what follows the last newline: nothing, or a line without its newline (11)
abbrev pub end_text : ℕ → List ℕ → List ℕ
end_text line [] = []
end_text line (b ∷ t) = refusal_text 11 line

-- what is printed of a line that went, and then of those after it; of one that was refused, the refusal with the number of the line
abbrev pub went_text : ℕ → Told Went → (Went → List ℕ) → List ℕ
went_text line (accepted w) onward = w.text ++ onward w
went_text line (refused k s) onward = refusal_text k line

-- what is printed of the pieces of a text between its newlines, from a line on and with the ports so far
unfoldable pub translated : ℕ → ℕ → List (List ℕ) → List ℕ
translated n line [] = []
translated n line (t ∷ []) = end_text line t
translated n line (t ∷ u ∷ ps) = went_text line (line_of n t) (λ w. translated w.ports (suc line) (u ∷ ps))

-- ---- texts

-- what is printed of a text, from a line on and with the ports so far
abbrev pub printed_of : ℕ → ℕ → List ℕ → List ℕ
printed_of n line t = translated n line (pieces newline t)

-- what is printed of a whole text: from line 1 on, with no ports yet
abbrev pub translation_of : List ℕ → List ℕ
translation_of t = printed_of 0 1 t

-- part of a text, whatever comes after it: `out` is printed, and then what is printed from another line on, with the ports so far, of what is left of the part
abbrev pub Onward : ℕ → ℕ → List ℕ → List ℕ → ℕ → ℕ → List ℕ → Type 0
Onward n line t out m row left = (more : List ℕ) → printed_of n line (t ++ more) ≡ out ++ printed_of m row (left ++ more)

-- the refusal of a line that is too long, by whether its newline comes: 8, and 11 if none does
abbrev pub overlong : Option ℕ → ℕ
overlong none = 11
overlong (some k) = 8
