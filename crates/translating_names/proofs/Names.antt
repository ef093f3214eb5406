-- What is concluded of the names of a pattern from its rank and its dictionary number: a refusal is the check's (`rank-refused`, `number-refused`), and else there is
-- room for their line (`names-room`), which is written (`named`).
-- Assumes nothing.
use mathlib.Core.Path.{◌≡◌, refl, sym, ap, subst, ◌∙◌}
use mathlib.Core.List.{List}
use Prim.Native.Nat.{ℕ, ◌≤◌}
use native.Mathlib.Omega.{arith}
use lib.ListN.{length}
use Rattle.listing.specs.Rank as list
use Rattle.listing.specs.Limits.{most_ports}
use Rattle.listing_dictionary.specs.Number as dictionary
use Rattle.words.specs.Told.{Told, Spot, accepted, refused, then}
use Rattle.words.proofs.Told.{accepted-once, then-accepted, refused-on}
use Rattle.line_format.specs.Calls.{over}
use Rattle.pattern_check.specs.Calls.{check_of}
use Rattle.pattern_check.proofs.Accepted.{accepted-pattern}
use Rattle.patterns.specs.Calls.{rank_of}
use Rattle.dictionary_laws.specs.Calls.{dictionary_number_of}
use Rattle.translating.specs.Names.{Named, names, names_text, most_names}
use Rattle.translating.proofs.Longest.{names-109}
use Rattle.translating_names.specs.Pieces.{names_of, names_length, names_line}

-- what was told of the names of a pattern, and the bytes left
abbrev pub Writes : Told Named → List ℕ → Told ℕ → List ℕ → Type 0
Writes told old answer left = (answer ≡ names_length told) × (left ≡ over (names_line told) old)

-- a refusal leaves the bytes as they were
writes-refused : (told : Told Named) (old : List ℕ) (k : ℕ) (s : Spot) → refused k s ≡ told → Writes told old (refused k s) old
writes-refused told old k s e = subst (λ x. Writes x old (refused k s) old) e (refl, refl)

module _ (p old : List ℕ) where
  module _ (k : ℕ) (s : Spot) where
    pub rank-refused : refused k s ≡ rank_of most_ports p → Writes (names_of p) old (refused k s) old
    unfolding rank_of names_of
    rank-refused e = writes-refused (names_of p) old k s (refused-on (check_of most_ports p) (λ ok. list.rank (length p) p) (λ ok. accepted (names (length p) p)) k s e)

    pub number-refused : refused k s ≡ dictionary_number_of most_ports p → Writes (names_of p) old (refused k s) old
    unfolding dictionary_number_of names_of
    number-refused e =
        writes-refused (names_of p) old k s (refused-on (check_of most_ports p) (λ ok. dictionary.number (length p) p) (λ ok. accepted (names (length p) p)) k s e)

  module _ (r k : ℕ) (e : accepted r ≡ rank_of most_ports p) (f : accepted k ≡ dictionary_number_of most_ports p) where
    -- the names that were found
    abbrev x : Named
    x = record { rank = r; number = k; pattern = p }

    -- the check accepted the pattern, and they are its names
    sound : accepted tt ≡ check_of most_ports p
    unfolding rank_of
    sound = sym (then-accepted (check_of most_ports p) (λ ok. accepted (list.rank (length p) p)) r (sym e)).taken

    same : names (length p) p ≡ x
    unfolding rank_of dictionary_number_of
    same =
        let a : list.rank (length p) p ≡ r = accepted-once (then-accepted (check_of most_ports p) (λ ok. accepted (list.rank (length p) p)) r (sym e)).on in
        let b : dictionary.number (length p) p ≡ k = accepted-once (then-accepted (check_of most_ports p) (λ ok. accepted (dictionary.number (length p) p)) k (sym f)).on in
        λ i. record { rank = a i; number = b i; pattern = p }

    -- there is room for their line
    pub names-room : most_names ≤ length old → (1 ≤ length p) × (length (names_text x) ≤ length old)
    names-room h =
        let P = accepted-pattern most_ports p sound in
        let some : 1 ≤ length p = omega (arith, P.low) in
        let short : length (names_text x) ≤ most_names = subst (λ y. length (names_text y) ≤ most_names) same (names-109 (length p) p P.is some P.high) in
        (some, omega arith)

    -- and it is told and written
    pub named : (n : ℕ) (left : List ℕ) → n ≡ length (names_text x) → left ≡ over (names_text x) old → Writes (names_of p) old (accepted n) left
    unfolding names_of
    named n left g h =
        let told : accepted x ≡ names_of p = ap accepted (sym same) ∙ ap (λ ok. then ok (λ u. accepted (names (length p) p))) sound in
        subst (λ y. Writes y old (accepted n) left) told (ap accepted g, h)
