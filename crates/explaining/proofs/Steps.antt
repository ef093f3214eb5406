-- What is printed, step by step: of a refusal its own text (`pattern-refused`, `line_refused`, `text-refused`), and of what was accepted that of the next step
-- (`pattern-accepted`, `line-accepted`, `text-accepted`).
-- Assumes nothing.
use mathlib.Core.Path.{◌≡◌, ap, ◌∙◌}
use mathlib.Core.List.{List}
use Prim.Native.Nat.{ℕ}
use Rattle.listing.specs.Limits.{most_ports, largest64}
use Rattle.words.specs.Told.{Spot, spot_number, earlier_number, accepted, refused, then}
use Rattle.text_entries.specs.Entries.{one_line, entries_of, bad_entry}
use Rattle.pattern_check.specs.Calls.{check_of}
use Rattle.explaining.specs.Text.{why_text, refused_text, told_text, named_in, pattern_text, line_text, explained, explain_of}

-- the text of a refusal
abbrev pub refusal_at : ℕ → Spot → ℕ → List ℕ
refusal_at k s x = refused_text k (spot_number s) (earlier_number s) x

module _ (p : List ℕ) where
  pub pattern-refused : (k : ℕ) (s : Spot) (x j : ℕ) → refused k s ≡ check_of most_ports p → j ≡ spot_number s → x ≡ named_in p k j
      → refusal_at k s x ≡ pattern_text p
  unfolding pattern_text
  pattern-refused k s x j e f g = ap (refusal_at k s) (g ∙ ap (named_in p k) f) ∙ ap (λ told. told_text told (named_in p) (λ ok. why_text p)) e

  pub pattern-accepted : accepted tt ≡ check_of most_ports p → why_text p ≡ pattern_text p
  unfolding pattern_text
  pattern-accepted e = ap (λ told. told_text told (named_in p) (λ ok. why_text p)) e

module _ (t : List ℕ) where
  pub line_refused : (k : ℕ) (s : Spot) (x : ℕ) → x ≡ bad_entry largest64 t → refused k s ≡ entries_of t → refusal_at k s x ≡ line_text t
  unfolding line_text
  line_refused k s x f e = ap (refusal_at k s) f ∙ ap (λ told. told_text told (λ k j. bad_entry largest64 t) pattern_text) e

  pub line-accepted : (p : List ℕ) → accepted p ≡ entries_of t → pattern_text p ≡ line_text t
  unfolding line_text
  line-accepted p e = ap (λ told. told_text told (λ k j. bad_entry largest64 t) pattern_text) e

  pub text-refused : (k : ℕ) (s : Spot) → refused k s ≡ one_line t → (refused k s ≡ explain_of t) × (refusal_at k s 0 ≡ explained t)
  unfolding explained explain_of
  text-refused k s e = (ap (λ told. then told (λ line. then (entries_of line) (check_of most_ports))) e, ap (λ told. told_text told (λ k j. 0) line_text) e)

  pub text-accepted : (line : List ℕ) → accepted line ≡ one_line t → (then (entries_of line) (check_of most_ports) ≡ explain_of t) × (line_text line ≡ explained t)
  unfolding explained explain_of
  text-accepted line e = (ap (λ told. then told (λ line. then (entries_of line) (check_of most_ports))) e, ap (λ told. told_text told (λ k j. 0) line_text) e)
