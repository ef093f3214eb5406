-- How long the text of a pattern is: on the device with 20 ports its entries have at most 50 bytes (`entries-50`), and those of 20 ports have exactly 50
-- (`entries-full`). So a line of names has at most 109 bytes (`names-109`).
-- Assumes nothing.
use mathlib.Core.Path.{◌≡◌, refl, sym, ap, ◌∙◌}
use mathlib.Core.List.{List, [], ◌∷◌, ◌++◌, map}
use Prim.Native.Nat.{ℕ, zero, suc, ◌+◌, ◌-◌, ◌^◌, ◌≤◌, ◌<◌}
use native.Mathlib.Omega.{arith}
use lib.ListN.{length, length-append}
use Rattle.listing.specs.Pattern.{Derangement}
use Rattle.listing.specs.Count.{count}
use Rattle.listing.specs.Rank as list
use Rattle.listing.specs.Limits.{most_ports}
use Rattle.listing.proofs.Limits.{count_most}
use Rattle.listing.proofs.Ranks.{rank_below}
use Rattle.listing.proofs.Numbers.{either, same?}
use Rattle.listing_dictionary.specs.Free.{ports, without}
use Rattle.listing_dictionary.specs.Number as dictionary
use Rattle.listing_dictionary.proofs.Lists.{Has}
use Rattle.listing_dictionary.proofs.Walk.{total}
use Rattle.listing_dictionary.proofs.Free.{without-here, without_on, has_on, length_without}
use Rattle.listing_dictionary.proofs.Fillings.{Fits}
use Rattle.listing_dictionary.proofs.Patterns.{length-ports, derangement-fills}
use Rattle.listing_dictionary.proofs.Dictionary.{number-count}
use Rattle.text_numbers.specs.Decimal.{spell, digits_of}
use Rattle.text_numbers.proofs.Lengths.{digits-at-most}
use Rattle.text_keys.specs.Parts.{newline, comma}
use Rattle.text_entries.specs.Entries.{following, joined, entries_text}
use Rattle.translating.specs.Names.{names, rank_key, number_key, pattern_key, space, names_text, most_names}

-- how many digits a port has
abbrev places : ℕ → ℕ
places y = length (digits_of y)

-- ---- the digits of a pattern are those of its ports, in whichever order

-- a port taken out of the free ones takes its size with it
total-without : (size : ℕ → ℕ) (x : ℕ) (ys : List ℕ) → Has x ys → total size ys ≡ size x + total size (without x ys)
unfolding total
total-without size x [] h = absurd h
total-without size x (y ∷ ys) h =
    either (same? y x)
    (λ e. ap (λ z. size z + total size ys) e ∙ ap (λ zs. size x + total size zs) (sym (without-here x y ys e)))
    (λ ne.
    let rest : total size ys ≡ size x + total size (without x ys) = total-without size x ys (has_on x y ys ne h) in
    let both : size y + total size ys ≡ size x + (size y + total size (without x ys)) = omega arith in
    both ∙ ap (λ zs. size x + total size zs) (sym (without_on x y ys ne)))

-- where each jack gets a free port and none is left, the sizes of all are those of the free ports
total-fits : (size : ℕ → ℕ) (i : ℕ) (free p : List ℕ) → length p ≡ length free → Fits i free p → total size p ≡ total size free
unfolding total
total-fits size i [] [] l F = refl
total-fits size i (y ∷ ys) [] l F = absurd (omega (arith, l))
total-fits size i free (x ∷ p) l F =
    let fewer : length p ≡ length (without x free) = omega (arith, l, length_without x free F.0) in
    ap (λ k. size x + k) (total-fits size (suc i) (without x free) p fewer F.2) ∙ sym (total-without size x free F.0)

pattern-total : (size : ℕ → ℕ) (n : ℕ) (p : List ℕ) → Derangement n p → total size p ≡ total size (ports 0 n)
pattern-total size n p D = let F = derangement-fills n p D in total-fits size 0 (ports 0 n) p (F.0 ∙ sym (length-ports 0 n)) F.1

-- more ports have no fewer digits
one_more : (size : ℕ → ℕ) (m i : ℕ) → total size (ports i m) ≤ total size (ports i (suc m))
unfolding total ports
one_more size zero i = omega arith
one_more size (suc m) i = omega (arith, one_more size m (suc i))

total-grows : (size : ℕ → ℕ) (n k : ℕ) → total size (ports 0 n) ≤ total size (ports 0 (n + k))
total-grows size n zero = let e : n + 0 ≡ n = omega arith in rw e (omega arith)
total-grows size n (suc k) = let e : n + suc k ≡ suc (n + k) = omega arith in rw e (omega (arith, total-grows size n k, one_more size (n + k) 0))

-- the ports 1 to 20 have 31 digits
digits-31 : total places (ports 0 most_ports) ≡ 31
unfolding total ports digits_of spell
digits-31 = refl

-- ---- entries

-- texts that come after another have a byte more each
following-length : (s : ℕ) (ns : List ℕ) → length (following s (map digits_of ns)) ≡ total places ns + length ns
unfolding following total
following-length s [] = refl
following-length s (n ∷ ns) = omega (arith, length-append (digits_of n) (following s (map digits_of ns)), following-length s ns)

-- entries have as many bytes as they have digits, and a comma less than there are entries
pub entries-length : (n : ℕ) (ns : List ℕ) → length (entries_text (n ∷ ns)) ≡ total places (n ∷ ns) + length ns
unfolding entries_text joined total
entries-length n ns = omega (arith, length-append (digits_of n) (following comma (map digits_of ns)), following-length comma ns)

-- those of a pattern
pattern-length : (n : ℕ) (p : List ℕ) → Derangement n p → 1 ≤ n → length (entries_text p) + 1 ≡ total places (ports 0 n) + n
pattern-length n [] D h = absurd (omega (arith, D.permutation.long))
pattern-length n (x ∷ p) D h = omega (arith, entries-length x p, pattern-total places n (x ∷ p) D, D.permutation.long)

module _ (n : ℕ) (p : List ℕ) (D : Derangement n p) where
  -- at most 50 bytes
  pub entries-50 : 1 ≤ n → n ≤ most_ports → length (entries_text p) ≤ 50
  entries-50 h l =
      let k = most_ports - n in
      let e : n + k ≡ most_ports = omega arith in
      let most : total places (ports 0 n) ≤ total places (ports 0 most_ports) = rw (← e) (total-grows places n k) in
      omega (arith, pattern-length n p D h, most, digits-31)

  -- and with 20 ports just as many
  pub entries-full : n ≡ most_ports → length (entries_text p) ≡ 50
  entries-full e =
      let same : total places (ports 0 n) ≡ total places (ports 0 most_ports) = ap (λ m. total places (ports 0 m)) e in
      omega (arith, pattern-length n p D (omega arith), same, digits-31)

  -- ---- names

  -- a rank or a number below the count has at most 18 digits
  pub names-109 : 1 ≤ n → n ≤ most_ports → length (names_text (names n p)) ≤ most_names
  unfolding names_text
  names-109 h l =
      let r = list.rank n p in
      let k = dictionary.number n p in
      let entries = entries_text p ++ (newline ∷ []) in
      let third = (space ∷ pattern_key) ++ entries in
      let second = (space ∷ number_key) ++ digits_of k in
      let first = rank_key ++ digits_of r in
      let few : count n < 10 ^ 18 = omega (arith, count_most n l) in
      omega (
        arith,
        length-append first (second ++ third),
        length-append second third,
        length-append rank_key (digits_of r),
        length-append (space ∷ number_key) (digits_of k),
        length-append (space ∷ pattern_key) entries,
        length-append (entries_text p) (newline ∷ []),
        digits-at-most 17 r (omega (arith, rank_below n p D, few)),
        digits-at-most 17 k (omega (arith, number-count n p D, few)),
        entries-50 h l,
      )
