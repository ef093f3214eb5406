-- A line goes only if it is one of the four good ones (`good-line`): `ports=` with 2 to 20, `rank=` or `number=` with a number below the count, or `pattern=` with
-- the entries of a pattern. So none is longer than 58 bytes (`good-58`), which the line of a pattern of 20 ports has (`full-58`, `met-58`): no line is refused for its
-- length alone (`only-length`). What a line leaves are ports so far (`line-ports`), and what it prints has at most 109 bytes (`line-109`).
-- Assumes nothing.
use mathlib.Core.Path.{◌≡◌, refl, sym, ap, subst, ◌∙◌}
use mathlib.Core.Bool.{Bool, true, false, cond}
use mathlib.Core.Logic.{◌≢◌}
use mathlib.Core.List.{List, [], ◌++◌, map}
use mathlib.Core.Option.{none, some}
use Prim.Native.Nat.{ℕ, ◌≤◌, ◌<◌}
use native.Mathlib.Omega.{arith}
use lib.Dec.{eqb, ltb}
use lib.ListN.{length, drop, length-append}
use borrow.Author.Tests.{le-ltb, eqb-false}
use Rattle.listing.specs.Count.{count}
use Rattle.listing.specs.Pattern.{Derangement}
use Rattle.listing.specs.Listing.{at}
use Rattle.listing.specs.Limits.{most_ports, largest64}
use Rattle.listing.proofs.Limits.{count_most, count-20}
use Rattle.listing.proofs.Ranks.{at-derangement}
use Rattle.words.specs.Told.{Told, accepted, refused, nowhere, then, need}
use Rattle.words.proofs.Told.{not-both, accepted-once, need-accepted, then-accepted}
use Rattle.text_numbers.specs.Decimal.{digits_of, number_up_to}
use Rattle.text_numbers.proofs.Lengths.{digits-at-most}
use Rattle.text_numbers.proofs.Limits.{digits-up-to}
use Rattle.text_keys.specs.Parts.{begins}
use Rattle.text_keys.proofs.Keys.{key-after}
use Rattle.text_entries.specs.Entries.{entries_text, entries_in, entry_byte}
use Rattle.text_entries.proofs.Back.{entries-text}
use Rattle.text_entries.proofs.Patterns.{pattern-ports, bytes_back}
use Rattle.pattern_check.specs.Calls.{in_size, sized}
use Rattle.pattern_check.proofs.Calls.{size-within}
use Rattle.translating.specs.Names.{Named, names, by_rank, by_number, by_pattern, rank_key, number_key, pattern_key, names_text, most_names}
use Rattle.translating.specs.Lines.{ports_key, most_line, numbered, named_of, Went, SoFar, ports_of, keyed_of, line_of}
use Rattle.translating.proofs.Names.{Names, rank-names, number-names, pattern-names}
use Rattle.translating.proofs.Longest.{entries-50, entries-full, names-109}
use Rattle.translating.proofs.Lines.{pattern-line}

-- ---- parts of a line

-- a line that begins with a key is the key and what follows
key-and : (key t : List ℕ) → begins key t ≡ true → t ≡ key ++ drop (length key) t
key-and key t e = key-after key t (drop (length key) t) (ap (λ b. cond b (some (drop (length key) t)) none) e)

-- a number that was taken is the text after the key
module _ {A : Type 0} (key t : List ℕ) (b : begins key t ≡ true) (on : ℕ → Told A) (a : A) (e : numbered (drop (length key) t) on ≡ accepted a) where
  taken : (r : ℕ) × (t ≡ key ++ digits_of r) × (on r ≡ accepted a)
  taken =
      let rest = drop (length key) t in
      let x = then-accepted (need 8 nowhere (number_up_to largest64 rest)) on a e in
      let is = (digits-up-to largest64 rest x.first (need-accepted 8 nowhere (number_up_to largest64 rest) x.first x.taken)).0 in
      (x.first, key-and key t b ∙ ap (λ v. key ++ v) is, x.on)

-- ---- the four good lines

-- what a line names: the text that it is, and the names
pub data Asks (n : ℕ) (t : List ℕ) : Type 0 where
  rank : (r : ℕ) → r < count n → t ≡ rank_key ++ digits_of r → Asks n t
  number : (k : ℕ) → k < count n → t ≡ number_key ++ digits_of k → Asks n t
  pattern : (p : List ℕ) → Derangement n p → t ≡ pattern_key ++ entries_text p → Asks n t

-- what is named is named by one of the three, and the names are those of a pattern
pub asked : (n : ℕ) (t : List ℕ) (x : Named) → named_of n t ≡ accepted x → Asks n t × Names n x
unfolding named_of
asked n t x e = by (begins rank_key t) refl (begins number_key t) refl (begins pattern_key t) refl e
  where
    entries : List ℕ
    entries = drop (length pattern_key) t

    by : (b : Bool) → begins rank_key t ≡ b → (c : Bool) → begins number_key t ≡ c → (d : Bool) → begins pattern_key t ≡ d
        → cond b (numbered (drop (length rank_key) t) (by_rank n))
        (cond c (numbered (drop (length number_key) t) (by_number n))
        (cond d (then (need 8 nowhere (entries_in largest64 entries)) (λ ns. by_pattern n (map entry_byte ns))) (refused 7 nowhere))) ≡ accepted x
        → Asks n t × Names n x
    by true q c r d s e =
        let y = taken rank_key t q (by_rank n) x e in
        let z = rank-names n y.0 x y.2 in
        (rank y.0 z.0 y.1, z.1)
    by false q true r d s e =
        let y = taken number_key t r (by_number n) x e in
        let z = number-names n y.0 x y.2 in
        (number y.0 z.0 y.1, z.1)
    by false q false r true s e =
        let y = then-accepted (need 8 nowhere (entries_in largest64 entries)) (λ ns. by_pattern n (map entry_byte ns)) x e in
        let ns = y.first in
        let z = pattern-names n (map entry_byte ns) x y.on in
        let is = (entries-text largest64 entries ns (need-accepted 8 nowhere (entries_in largest64 entries) ns y.taken)).0 in
        let same = bytes_back n ns (pattern-ports n (map entry_byte ns) z.0) in
        (pattern (map entry_byte ns) z.0 (key-and pattern_key t s ∙ ap (λ v. pattern_key ++ v) (is ∙ ap entries_text (sym same))), z.1)
    by false q false r false s e = absurd (not-both e)

-- what is so of a line that goes
pub data Goes (n : ℕ) (t : List ℕ) (w : Went) : Type 0 where
  ports : (m : ℕ) → 2 ≤ m → m ≤ most_ports → t ≡ ports_key ++ digits_of m → record { ports = m; text = [] } ≡ w → Goes n t w
  line : (x : Named) → n ≢ 0 → Asks n t → Names n x → record { ports = n; text = names_text x } ≡ w → Goes n t w

-- 2 to the most ports
sized-accepted : {A : Type 0} (m : ℕ) (told : Told A) (a : A) → sized most_ports m told ≡ accepted a → (2 ≤ m) × (m ≤ most_ports) × (told ≡ accepted a)
unfolding sized
sized-accepted m told a e = by (in_size most_ports m) refl e
  where
    by : (b : Bool) → in_size most_ports m ≡ b → cond b told (refused 1 nowhere) ≡ accepted a → (2 ≤ m) × (m ≤ most_ports) × (told ≡ accepted a)
    by true q e = let s = size-within most_ports m (sym q) refl in (s.0, s.1, e)
    by false q e = absurd (not-both e)

pub good-line : (n : ℕ) (t : List ℕ) (w : Went) → keyed_of n t ≡ accepted w → Goes n t w
unfolding keyed_of ports_of
good-line n t w e = by (begins ports_key t) refl (eqb n 0) refl e
  where
    by : (b : Bool) → begins ports_key t ≡ b → (z : Bool) → eqb n 0 ≡ z
        → cond b (ports_of (drop (length ports_key) t))
        (cond z (refused 7 nowhere) (then (named_of n t) (λ x. accepted (record { ports = n; text = names_text x })))) ≡ accepted w
        → Goes n t w
    by true q z r e =
        let y = taken ports_key t q (λ m. sized most_ports m (accepted (record { ports = m; text = [] }))) w e in
        let s = sized-accepted y.0 (accepted (record { ports = y.0; text = [] })) w y.2 in
        ports y.0 s.0 s.1 y.1 (accepted-once s.2)
    by false q true r e = absurd (not-both e)
    by false q false r e =
        let y = then-accepted (named_of n t) (λ x. accepted (record { ports = n; text = names_text x })) w e in
        let a = asked n t y.first y.taken in
        line y.first (eqb-false n 0 r) a.0 a.1 (accepted-once y.on)

-- ---- how long a good line is

module _ (n : ℕ) (known : SoFar n) where
  asks-58 : (t : List ℕ) → n ≢ 0 → Asks n t → length t ≤ most_line
  asks-58 t nz (rank r h e) =
      omega (arith, ap length e, length-append rank_key (digits_of r), digits-at-most 17 r (omega (arith, count_most n known.0)))
  asks-58 t nz (number k h e) =
      omega (arith, ap length e, length-append number_key (digits_of k), digits-at-most 17 k (omega (arith, count_most n known.0)))
  asks-58 t nz (pattern p D e) =
      omega (arith, ap length e, length-append pattern_key (entries_text p), entries-50 n p D (omega (arith, nz)) known.0)

  goes-58 : (t : List ℕ) (w : Went) → Goes n t w → length t ≤ most_line
  goes-58 t w (ports m low high e q) = omega (arith, ap length e, length-append ports_key (digits_of m), digits-at-most 1 m (omega arith))
  goes-58 t w (line x nz a x-names q) = asks-58 t nz a

  -- no good line has more than 58 bytes
  pub good-58 : (t : List ℕ) (w : Went) → keyed_of n t ≡ accepted w → length t ≤ most_line
  good-58 t w e = goes-58 t w (good-line n t w e)

  -- so a line goes exactly if it goes by its key: none is refused for its length alone
  pub only-length : (t : List ℕ) (w : Went) → keyed_of n t ≡ accepted w → line_of n t ≡ accepted w
  unfolding line_of
  only-length t w e = rw (le-ltb most_line (length t) (good-58 t w e)) e

  -- ---- what it leaves and prints

  goes-ports : (t : List ℕ) (w : Went) → Goes n t w → SoFar w.ports
  goes-ports t w (ports m low high e q) = subst (λ v. SoFar v.ports) q (high, λ z. omega arith)
  goes-ports t w (line x nz a x-names q) = subst (λ v. SoFar v.ports) q known

  goes-109 : (t : List ℕ) (w : Went) → Goes n t w → length w.text ≤ most_names
  goes-109 t w (ports m low high e q) = subst (λ v. length v.text ≤ most_names) q (omega arith)
  goes-109 t w (line x nz a x-names q) =
      let short : length (names_text x) ≤ most_names =
      subst (λ y. length (names_text y) ≤ most_names) x-names.is (names-109 n x.pattern x-names.pattern (omega (arith, nz)) known.0) in
      subst (λ v. length v.text ≤ most_names) q short

-- a line that went, went by its key
by_key : (n : ℕ) (t : List ℕ) (w : Went) → line_of n t ≡ accepted w → keyed_of n t ≡ accepted w
unfolding line_of
by_key n t w e = by (ltb most_line (length t)) e
  where
    by : (b : Bool) → cond b (refused 8 nowhere) (keyed_of n t) ≡ accepted w → keyed_of n t ≡ accepted w
    by true e = absurd (not-both e)
    by false e = e

module _ (n : ℕ) (known : SoFar n) (t : List ℕ) (w : Went) (e : line_of n t ≡ accepted w) where
  went : Goes n t w
  went = good-line n t w (by_key n t w e)

  -- it leaves ports so far
  pub line-ports : SoFar w.ports
  line-ports = goes-ports n known t w went

  -- and prints at most 109 bytes
  pub line-109 : length w.text ≤ most_names
  line-109 = goes-109 n known t w went

-- ---- 58 is met

-- the line of every pattern of 20 ports has 58 bytes
pub full-58 : (p : List ℕ) → Derangement most_ports p → length (pattern_key ++ entries_text p) ≡ most_line
full-58 p D = omega (arith, length-append pattern_key (entries_text p), entries-full most_ports p D refl)

-- and there is one, which is good
pub met-58 : (p : List ℕ) × Derangement most_ports p × (length (pattern_key ++ entries_text p) ≡ most_line)
    × (line_of most_ports (pattern_key ++ entries_text p) ≡ accepted (record { ports = most_ports; text = names_text (names most_ports p) }))
met-58 =
    let p = at most_ports 0 in
    let D = at-derangement most_ports 0 (omega (arith, count-20)) in
    (p, D, full-58 p D, pattern-line most_ports (omega arith) (omega arith) p D)
