-- The names that a line asks for are those of the pattern that it finds (`through`). So what is told of the pattern, and then of its names, is what is told of the line
-- (`not_found`, `unnamed`, `written`).
-- Assumes nothing.
use mathlib.Core.Path.{◌≡◌, refl, sym, ap, subst, ◌∙◌}
use mathlib.Core.Bool.{Bool, true, false, cond}
use mathlib.Core.List.{List, map}
use mathlib.Core.Option.{Option, none, some}
use Prim.Native.Nat.{ℕ, ◌≤◌, ◌<◌}
use native.Mathlib.Omega.{arith}
use lib.Dec.{eqb, ltb}
use lib.ListN.{length, drop}
use borrow.Author.Tests.{eqb-true, ltb-true}
use Rattle.listing.specs.Count.{count}
use Rattle.listing.specs.Pattern.{Derangement}
use Rattle.listing.specs.Listing.{at}
use Rattle.listing.specs.Limits.{most_ports, largest64}
use Rattle.listing.proofs.Ranks.{at-derangement}
use Rattle.listing_dictionary.specs.Dictionary.{in_dictionary}
use Rattle.listing_dictionary.proofs.Dictionary.{dictionary-derangement}
use Rattle.words.specs.Told.{Told, Spot, accepted, refused, nowhere, then, need}
use Rattle.words.proofs.Told.{not-both, refused-on}
use Rattle.text_numbers.specs.Decimal.{number_up_to}
use Rattle.text_keys.specs.Parts.{begins}
use Rattle.text_entries.specs.Entries.{entries_in, entry_byte}
use Rattle.line_format.specs.Calls.{over}
use Rattle.pattern_check.specs.Calls.{check_of}
use Rattle.pattern_check.proofs.Accepted.{pattern-accepted}
use Rattle.patterns.specs.Calls.{ranked}
use Rattle.translating.specs.Names.{Named, names, by_rank, by_number, by_pattern, rank_key, number_key, pattern_key, names_text}
use Rattle.translating.specs.Lines.{numbered, named_of, Went}
use Rattle.translating_names.specs.Pieces.{names_of, names_length, names_line}
use Rattle.translating_find.specs.Pieces.{in_order, counted, in_entries, pattern_of, found_told, found_bytes}
use Rattle.translating_line.specs.Pieces.{named_line_of}
use Rattle.translating_line.specs.Answers.{went_told, text_in}
use Rattle.translating_line.proofs.Answers.{Goes, goes-refused}

-- a line with such names
abbrev line_with : ℕ → Told Named → Told Went
line_with n told = then told (λ x. accepted (record { ports = n; text = names_text x }))

module _ (n : ℕ) (low : 2 ≤ n) (high : n ≤ most_ports) where
  -- a pattern of n ports has its names
  pattern-names : (p : List ℕ) → Derangement n p → names_of p ≡ accepted (names n p)
  unfolding names_of
  pattern-names p D =
      let long : length p ≡ n = D.permutation.long in
      let ok : accepted tt ≡ check_of most_ports p =
      pattern-accepted most_ports p (record { low = omega arith; high = omega arith; is = subst (λ m. Derangement m p) (sym long) D }) in
      ap (λ told. then told (λ ok. accepted (names (length p) p))) (sym ok) ∙ ap (λ m. accepted (names m p)) long

  -- ---- in an order of the patterns

  module _ (order : ℕ → List ℕ) (is : (r : ℕ) → r < count n → Derangement n (order r)) (t : List ℕ) where
    ordered : (r : ℕ) → ranked n r (accepted (names n (order r))) ≡ then (ranked n r (accepted (order r))) names_of
    unfolding ranked
    ordered r = by (ltb r (count n)) refl
      where
        by : (b : Bool) → ltb r (count n) ≡ b → cond b (accepted (names n (order r))) (refused 6 nowhere) ≡ then (cond b (accepted (order r)) (refused 6 nowhere)) names_of
        by true q = sym (pattern-names (order r) (is r (ltb-true r (count n) q)))
        by false q = refl

    order-through : numbered t (λ r. ranked n r (accepted (names n (order r)))) ≡ then (in_order order n t) names_of
    unfolding in_order
    order-through = by (number_up_to largest64 t)
      where
        by : (o : Option ℕ) → then (need 8 nowhere o) (λ r. ranked n r (accepted (names n (order r))))
            ≡ then (then (need 8 nowhere o) (λ r. ranked n r (accepted (order r)))) names_of
        by none = refl
        by (some r) = ordered r

  -- ---- by entries

  counted-through : (p : List ℕ) → by_pattern n p ≡ then (counted n p) names_of
  unfolding by_pattern counted names_of
  counted-through p = by (eqb (length p) n) refl
    where
      by : (b : Bool) → eqb (length p) n ≡ b
          → cond b (then (check_of most_ports p) (λ ok. accepted (names n p))) (refused 8 nowhere) ≡ then (cond b (accepted p) (refused 8 nowhere)) names_of
      by true q = ap (λ m. then (check_of most_ports p) (λ ok. accepted (names m p))) (sym (eqb-true (length p) n q))
      by false q = refl

  module _ (t : List ℕ) where
    entries-through : then (need 8 nowhere (entries_in largest64 t)) (λ ns. by_pattern n (map entry_byte ns)) ≡ then (in_entries n t) names_of
    unfolding in_entries
    entries-through = by (entries_in largest64 t)
      where
        by : (o : Option (List ℕ)) → then (need 8 nowhere o) (λ ns. by_pattern n (map entry_byte ns))
            ≡ then (then (need 8 nowhere o) (λ ns. counted n (map entry_byte ns))) names_of
        by none = refl
        by (some ns) = counted-through (map entry_byte ns)

  -- ---- by any key

  module _ (t : List ℕ) where
    through : named_of n t ≡ then (pattern_of n t) names_of
    unfolding named_of pattern_of by_rank by_number
    through = by (begins rank_key t) (begins number_key t) (begins pattern_key t)
      where
        entries : List ℕ
        entries = drop (length pattern_key) t

        by : (b c d : Bool)
            → cond b (numbered (drop (length rank_key) t) (by_rank n))
            (cond c (numbered (drop (length number_key) t) (by_number n))
            (cond d (then (need 8 nowhere (entries_in largest64 entries)) (λ ns. by_pattern n (map entry_byte ns))) (refused 7 nowhere)))
            ≡ then (cond b (in_order (at n) n (drop (length rank_key) t))
            (cond c (in_order (in_dictionary n) n (drop (length number_key) t)) (cond d (in_entries n entries) (refused 7 nowhere)))) names_of
        by true c d = order-through (at n) (at-derangement n) (drop (length rank_key) t)
        by false true d = order-through (in_dictionary n) (dictionary-derangement n) (drop (length number_key) t)
        by false false true = entries-through entries
        by false false false = refl

    -- no pattern was found
    pub not_found : (old : List ℕ) (k : ℕ) (s : Spot) → refused k s ≡ found_told (pattern_of n t) → Goes (named_line_of n t) old (refused k s) old
    not_found old k s e =
        let f : refused k s ≡ named_of n t = refused-on (pattern_of n t) (λ p. tt) names_of k s e ∙ sym through in
        goes-refused (named_line_of n t) old k s (rw (← f))

    -- one was: it stands in the bytes that are left, and its names are the line's
    found : (was p : List ℕ) → accepted tt ≡ found_told (pattern_of n t) → p ≡ found_bytes (pattern_of n t) was → named_of n t ≡ names_of p
    found was p = by (pattern_of n t) refl
      where
        by : (told : Told (List ℕ)) → pattern_of n t ≡ told → accepted tt ≡ found_told told → p ≡ found_bytes told was → named_of n t ≡ names_of p
        by (accepted q) r e f = through ∙ ap (λ told. then told names_of) r ∙ ap names_of (sym f)
        by (refused j q) r e f = absurd (not-both (sym e))

    module _ (was p : List ℕ) (e : accepted tt ≡ found_told (pattern_of n t)) (f : p ≡ found_bytes (pattern_of n t) was) (old : List ℕ) where
      -- what is told of the names is told of the line
      line-told : (told : Told ℕ) → told ≡ names_length (names_of p) → then told (λ len. accepted (n, len)) ≡ went_told (named_line_of n t)
      line-told told g = ap (λ x. then x (λ len. accepted (n, len))) g ∙ by (names_of p) ∙ ap (λ x. went_told (line_with n x)) (sym (found was p e f))
        where
          by : (x : Told Named) → then (names_length x) (λ len. accepted (n, len)) ≡ went_told (line_with n x)
          by (accepted x) = refl
          by (refused k s) = refl

      line-left : (left : List ℕ) → left ≡ over (names_line (names_of p)) old → left ≡ over (text_in (named_line_of n t)) old
      line-left left g = g ∙ ap (λ u. over u old) (by (names_of p)) ∙ ap (λ x. over (text_in (line_with n x)) old) (sym (found was p e f))
        where
          by : (x : Told Named) → names_line x ≡ text_in (line_with n x)
          by (accepted x) = refl
          by (refused k s) = refl

      -- its names were refused
      pub unnamed : (k : ℕ) (s : Spot) (left : List ℕ) → refused k s ≡ names_length (names_of p) → left ≡ over (names_line (names_of p)) old
          → Goes (named_line_of n t) old (refused k s) left
      unnamed k s left g h = (line-told (refused k s) g, line-left left h)

      -- they were written
      pub written : (ports : ℕ) → ports ≡ n → (len : ℕ) (left : List ℕ) → accepted len ≡ names_length (names_of p) → left ≡ over (names_line (names_of p)) old
          → Goes (named_line_of n t) old (accepted (ports, len)) left
      written ports i len left g h = (ap (λ m. accepted (m, len)) i ∙ line-told (accepted len) g, line-left left h)
