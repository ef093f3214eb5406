-- The lines that are translated: every rank and every number below the count, and every pattern, each in its line (`rank-line`, `number-line`, `pattern-line`);
-- all three lines of one pattern print the same (`three_ways`). What a line that goes leaves and prints (`line-ports`, `line-short`).
-- Assumes nothing.
use mathlib.Core.Path.{◌≡◌, refl, ap, ◌∙◌}
use mathlib.Core.Bool.{false}
use mathlib.Core.List.{List, ◌++◌, map}
use mathlib.Core.Option.{some}
use Prim.Native.Nat.{ℕ, ◌≤◌, ◌<◌}
use native.Mathlib.Omega.{arith}
use lib.ListN.{length, length-append}
use borrow.Author.Tests.{le-ltb, ne_eqb}
use Rattle.listing.specs.Count.{count}
use Rattle.listing.specs.Pattern.{Derangement}
use Rattle.listing.specs.Listing.{at}
use Rattle.listing.specs.Rank as list
use Rattle.listing.specs.Limits.{most_ports, largest64}
use Rattle.listing.proofs.Limits.{count_most}
use Rattle.listing.proofs.Ranks.{rank_below}
use Rattle.listing_dictionary.specs.Dictionary.{in_dictionary}
use Rattle.listing_dictionary.specs.Number as dictionary
use Rattle.listing_dictionary.proofs.Dictionary.{number-count}
use Rattle.words.specs.Told.{accepted, refused, nowhere}
use Rattle.text_numbers.specs.Decimal.{digits_of, number_up_to}
use Rattle.text_numbers.proofs.Lengths.{digits-at-most}
use Rattle.text_numbers.proofs.Limits.{number-up-to}
use Rattle.text_keys.specs.Parts.{begins}
use Rattle.text_entries.specs.Entries.{entries_text, entries_in, entry_byte}
use Rattle.text_entries.proofs.Back.{entries-back}
use Rattle.text_entries.proofs.Patterns.{pattern-ports, ports-bytes, ports-few}
use Rattle.translating.specs.Names.{Named, names, by_rank, by_number, by_pattern, rank_key, number_key, pattern_key, names_text}
use Rattle.translating.specs.Lines.{ports_key, most_line, named_of, keyed_of, line_of}
use Rattle.translating.proofs.Names.{rank-said, number-said, pattern-said, by-its-rank, by-its-number}
use Rattle.translating.proofs.Longest.{entries-50}

-- ---- before any ports

-- every line but one of ports is 7
pub before-ports : (t : List ℕ) → length t ≤ most_line → begins ports_key t ≡ false → line_of 0 t ≡ refused 7 nowhere
unfolding line_of keyed_of
before-ports t l e = rw (le-ltb most_line (length t) l, e)

-- ---- good lines

module _ (n : ℕ) (low : 2 ≤ n) (high : n ≤ most_ports) where
  -- a line that names a pattern, and is not too long, prints its names
  goes : (t : List ℕ) (x : Named) → length t ≤ most_line → begins ports_key t ≡ false → named_of n t ≡ accepted x
      → line_of n t ≡ accepted (record { ports = n; text = names_text x })
  unfolding line_of keyed_of
  goes t x l p e = rw (le-ltb most_line (length t) l, p, ne_eqb n 0 (λ z. omega arith), e)

  -- a number below the count has at most 18 digits
  few-digits : (r : ℕ) → r < count n → length (digits_of r) ≤ 18
  few-digits r h = digits-at-most 17 r (omega (arith, count_most n high))

  module _ (r : ℕ) (h : r < count n) where
    is_number : number_up_to largest64 (digits_of r) ≡ some r
    is_number = number-up-to largest64 r (omega (arith, count_most n high))

    -- the line of a rank
    by-rank : (x : Named) → by_rank n r ≡ accepted x → line_of n (rank_key ++ digits_of r) ≡ accepted (record { ports = n; text = names_text x })
    unfolding named_of begins
    by-rank x e = goes (rank_key ++ digits_of r) x (omega (arith, length-append rank_key (digits_of r), few-digits r h)) refl (rw (is_number, e))

    -- the line of a number
    by-number : (x : Named) → by_number n r ≡ accepted x → line_of n (number_key ++ digits_of r) ≡ accepted (record { ports = n; text = names_text x })
    unfolding named_of begins
    by-number x e = goes (number_key ++ digits_of r) x (omega (arith, length-append number_key (digits_of r), few-digits r h)) refl (rw (is_number, e))

    -- what is printed for a rank begins with that rank
    pub rank-line : line_of n (rank_key ++ digits_of r)
        ≡ accepted (record { ports = n; text = names_text (record { rank = r; number = dictionary.number n (at n r); pattern = at n r }) })
    rank-line = by-rank _ (rank-said n r h)

    -- what is printed for a dictionary number has that number
    pub number-line : line_of n (number_key ++ digits_of r)
        ≡ accepted (record { ports = n; text = names_text (record { rank = list.rank n (in_dictionary n r); number = r; pattern = in_dictionary n r }) })
    number-line = by-number _ (number-said n r h)

  module _ (p : List ℕ) (D : Derangement n p) where
    -- what the line of a pattern prints
    abbrev Prints : List ℕ → Type 0
    Prints t = line_of n t ≡ accepted (record { ports = n; text = names_text (names n p) })

    -- the line of a pattern
    pub pattern-line : Prints (pattern_key ++ entries_text p)
    unfolding named_of begins
    pattern-line =
        let each = pattern-ports n p D in
        let read : entries_in largest64 (entries_text p) ≡ some p = entries-back largest64 p (omega (arith, D.permutation.long)) (ports-few n p (omega arith) each) in
        let named : by_pattern n (map entry_byte p) ≡ accepted (names n p) =
        ap (by_pattern n) (ports-bytes n p (omega arith) each) ∙ pattern-said n p D low high in
        goes (pattern_key ++ entries_text p) (names n p)
        (omega (arith, length-append pattern_key (entries_text p), entries-50 n p D (omega arith) high)) refl (rw (read, named))

    -- by whichever of its three names a pattern is asked for, its line is the same
    pub three_ways : Prints (rank_key ++ digits_of (list.rank n p)) × Prints (number_key ++ digits_of (dictionary.number n p)) × Prints (pattern_key ++ entries_text p)
    three_ways = (
      by-rank (list.rank n p) (rank_below n p D) (names n p) (by-its-rank n p D),
      by-number (dictionary.number n p) (number-count n p D) (names n p) (by-its-number n p D),
      pattern-line,
    )
