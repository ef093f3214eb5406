-- What is concluded of the pattern that a line names: by a number in an order (`no_number`, `by_order`), and by entries (`no-entries`, `wrong-count`, `right-count`).
-- Assumes nothing.
use mathlib.Core.Path.{◌≡◌, refl, sym, ap, subst, ◌∙◌}
use mathlib.Core.Bool.{Bool, true, false, cond}
use mathlib.Core.Logic.{◌≢◌}
use mathlib.Core.List.{List, [], ◌++◌, append-nil, map}
use mathlib.Core.Option.{Option, none, some}
use Prim.Native.Nat.{ℕ, ◌≤◌, ◌<◌}
use native.Mathlib.Omega.{arith}
use lib.Dec.{ltb}
use lib.ListN.{length, take, drop, length-map, drop_of_length-le}
use borrow.Author.Tests.{eq-eqb, ne_eqb, le-leb, lt-leb}
use Rattle.listing.specs.Count.{count}
use Rattle.listing.specs.Listing.{at}
use Rattle.listing.specs.Limits.{most_ports, largest64}
use Rattle.listing.proofs.Numbers.{either, below?}
use Rattle.listing_dictionary.specs.Dictionary.{in_dictionary}
use Rattle.words.specs.Told.{Told, Spot, accepted, refused, nowhere, then, need, leaves}
use Rattle.text_numbers.specs.Decimal.{number_up_to}
use Rattle.text_entries.specs.Entries.{entries_in, entry_byte, few_entries, entries_of}
use Rattle.text_entries.specs.Pieces.{EntriesAre}
use Rattle.text_entries.proofs.Read.{given, given-long, given-front}
use Rattle.text_entries.specs.declared.Entries.{Entries}
use Rattle.line_format.specs.Calls.{over}
use Rattle.pattern_check.specs.Calls.{sized}
use Rattle.pattern_check.proofs.Calls.{fits}
use Rattle.patterns.specs.Calls.{ranked, listed_of, unrank_of, unrank_bytes}
use Rattle.dictionary_laws.specs.Calls.{dictionary_pattern_of, dictionary_pattern_bytes}
use Rattle.translating_find.specs.Pieces.{in_order, counted, in_entries, found_told, found_bytes}

-- what was told of a pattern and the bytes left
abbrev pub Finds : Told (List ℕ) → List ℕ → Told (Unit {0}) → List ℕ → Type 0
Finds told old answer left = (answer ≡ found_told told) × (left ≡ found_bytes told old)

-- what is told of one pattern is told of another that is the same
pub finds-as : (told other : Told (List ℕ)) → told ≡ other → (old : List ℕ) (answer : Told (Unit {0})) (left : List ℕ) → Finds told old answer left
    → Finds other old answer left
finds-as told other e old answer left F = subst (λ x. Finds x old answer left) e F

-- a refusal leaves the bytes as they were
pub finds-refused : (told : Told (List ℕ)) (old : List ℕ) (k : ℕ) (s : Spot) → refused k s ≡ told → Finds told old (refused k s) old
finds-refused told old k s e = finds-as (refused k s) told e old (refused k s) old (refl, refl)

-- ---- by a number in an order

module _ (order : ℕ → List ℕ) (n : ℕ) (t old : List ℕ) where
  -- it is none
  pub no_number : none ≡ number_up_to largest64 t → Finds (in_order order n t) old (refused 8 nowhere) old
  unfolding in_order
  no_number e = (rw (← e), rw (← e))

  -- it is one: found where it is below the count
  pub by_order : (r : ℕ) → some r ≡ number_up_to largest64 t → (answer : Told (Unit {0})) (left : List ℕ) → answer ≡ ranked n r (accepted tt)
      → left ≡ leaves {A = Unit {0}} (ranked n r (accepted tt)) (order r) old → Finds (in_order order n t) old answer left
  unfolding in_order ranked
  by_order r e answer left f g = rw (← e) (by (ltb r (count n)) f g)
    where
      by : (b : Bool) → answer ≡ cond b (accepted tt) (refused 6 nowhere) → left ≡ leaves {A = Unit {0}} (cond b (accepted tt) (refused 6 nowhere)) (order r) old
          → Finds (cond b (accepted (order r)) (refused 6 nowhere)) old answer left
      by true f g = (f, g)
      by false f g = (f, g)

  -- as a call tells it that looks at the size first
  sized-order : 2 ≤ n → n ≤ most_ports → (r : ℕ) → some r ≡ number_up_to largest64 t → (answer : Told (Unit {0})) (left : List ℕ)
      → answer ≡ sized most_ports n (ranked n r (accepted tt)) → left ≡ leaves {A = Unit {0}} (sized most_ports n (ranked n r (accepted tt))) (order r) old
      → Finds (in_order order n t) old answer left
  sized-order low high r e answer left f g =
      let size = fits most_ports n (ranked n r (accepted tt)) low high in
      by_order r e answer left (f ∙ size) (g ∙ ap (λ told. leaves told (order r) old) size)

module _ (t old : List ℕ) (low : 2 ≤ length old) (high : length old ≤ most_ports) (r : ℕ) (e : some r ≡ number_up_to largest64 t)
    (answer : Told (Unit {0})) (left : List ℕ) where
  -- by a rank in the list
  pub by-unrank : answer ≡ unrank_of most_ports r old → left ≡ unrank_bytes most_ports r old → Finds (in_order (at (length old)) (length old) t) old answer left
  unfolding unrank_bytes listed_of
  by-unrank f g = sized-order (at (length old)) (length old) t old low high r e answer left f g

  -- by a number in the dictionary
  pub by-numbered : answer ≡ dictionary_pattern_of most_ports r old → left ≡ dictionary_pattern_bytes most_ports r old
      → Finds (in_order (in_dictionary (length old)) (length old) t) old answer left
  unfolding dictionary_pattern_bytes listed_of
  by-numbered f g = sized-order (in_dictionary (length old)) (length old) t old low high r e answer left f g

-- ---- by entries

-- entries that were given are counted, and any others are refused alike
abbrev on_given : ℕ → Told (List ℕ) → Told (List ℕ)
on_given n (accepted p) = counted n p
on_given n (refused k s) = refused 8 nowhere

-- too many for any device are not n
many-counted : (n : ℕ) (p : List ℕ) → n < length p → counted n p ≡ refused 8 nowhere
unfolding counted
many-counted n p h = rw (ne_eqb (length p) n (λ e. omega arith))

as-given : (n : ℕ) → n ≤ most_ports → (t : List ℕ) → in_entries n t ≡ on_given n (entries_of t)
unfolding in_entries entries_of few_entries
as-given n h t = by (entries_in largest64 t)
  where
    by : (o : Option (List ℕ)) → then (need 8 nowhere o) (λ ns. counted n (map entry_byte ns)) ≡ on_given n (then (need 8 nowhere o) few_entries)
    by none = refl
    by (some ns) =
        either (below? most_ports (length ns))
        (λ m. rw (lt-leb (length ns) most_ports m) (many-counted n (map entry_byte ns) (omega (arith, length-map ns entry_byte))))
        (λ m. rw (le-leb (length ns) most_ports m))

module _ (t old : List ℕ) (high : length old ≤ most_ports) where
  -- they are none
  pub no-entries : {k : ℕ} {s : Spot} → refused k s ≡ entries_of t → Finds (in_entries (length old) t) old (refused 8 nowhere) old
  no-entries e = rw (as-given (length old) high t, ← e) (refl, refl)

  module _ (r : Entries) (R : EntriesAre (entries_of t) r) where
    -- they are not as many as there are ports
    pub wrong-count : r.len ≢ length old → Finds (in_entries (length old) t) old (refused 8 nowhere) old
    unfolding counted
    wrong-count ne =
        let g = given t r R in
        rw (as-given (length old) high t, g.1, ne_eqb (length g.0) (length old) (λ e. ne (given-long t r R ∙ e))) (refl, refl)

    -- they are: then they are put over all bytes that were there
    pub right-count : r.len ≡ length old → (left : List ℕ) → left ≡ over (take r.len r.bytes) old → Finds (in_entries (length old) t) old (accepted tt) left
    unfolding counted
    right-count e left f =
        let g = given t r R in
        let long : length g.0 ≡ length old = sym (given-long t r R) ∙ e in
        let few : length old ≤ length g.0 = omega arith in
        let none_left : drop (length g.0) old ≡ [] = drop_of_length-le old few in
        let all : left ≡ g.0 = f ∙ ap (λ p. over p old) (given-front t r R) ∙ ap (λ u. g.0 ++ u) none_left ∙ append-nil g.0 in
        rw (as-given (length old) high t, g.1, eq-eqb (length g.0) (length old) long) (refl, all)
