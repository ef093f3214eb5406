-- The entries of a pattern: each is one of its ports (`pattern-ports`), so they are bytes (`ports-bytes`, `bytes_back`), and a pattern is read back from its
-- text (`pattern-read`), which is one line (`entries-line`).
-- Assumes nothing.
use mathlib.Core.Path.{◌≡◌, refl, sym, ap, ◌∙◌}
use mathlib.Core.List.{List, [], ◌∷◌, ◌++◌, map}
use mathlib.Core.Option.{none}
use Prim.Native.Nat.{ℕ, suc, ◌≤◌, ◌<◌}
use native.Mathlib.Omega.{arith}
use lib.ListN.{length, get_or}
use borrow.Author.Tests.{le-leb}
use Rattle.listing.specs.Pattern.{Derangement}
use Rattle.listing.specs.Limits.{most_ports, largest64}
use Rattle.listing.proofs.Numbers.{either, below?}
use Rattle.words.specs.Told.{accepted, nowhere, then, need}
use Rattle.text_numbers.specs.Decimal.{digits_of}
use Rattle.text_keys.specs.Parts.{newline, comma, later, first_of}
use Rattle.text_keys.proofs.Cuts.{first-append, cut-joined, digits-clear}
use Rattle.text_entries.specs.Entries.{one_line, alone, following, joined, entries_text, entry_byte, few_entries, entries_of}
use Rattle.text_entries.proofs.Places.{small-entry, large-entry}
use Rattle.text_entries.proofs.Back.{EachUpTo, entries-back}

-- each entry is one of 1..n
abbrev pub EachPort : ℕ → List ℕ → Type 0
EachPort n [] = Unit {0}
EachPort n (x ∷ p) = (1 ≤ x) × (x ≤ n) × EachPort n p

each-port : (n : ℕ) (p : List ℕ) → ((j : ℕ) → j < length p → (1 ≤ get_or p j 0) × (get_or p j 0 ≤ n)) → EachPort n p
each-port n [] h = tt
each-port n (x ∷ p) h = let c = h 0 (omega arith) in (c.0, c.1, each-port n p (λ j l. h (suc j) (omega arith)))

pub pattern-ports : (n : ℕ) (p : List ℕ) → Derangement n p → EachPort n p
pattern-ports n p D =
    each-port n p (λ j l. let a = D.permutation.ports (suc j) (omega (arith, D.permutation.long)) in (omega arith, omega arith))

-- so each is a byte and a number of 64 bits
pub ports-bytes : (n : ℕ) (p : List ℕ) → n ≤ 255 → EachPort n p → map entry_byte p ≡ p
ports-bytes n [] h e = refl
ports-bytes n (x ∷ p) h e = λ i. sym (small-entry x (omega (arith, e.1))) i ∷ ports-bytes n p h e.2 i

pub ports-few : (n : ℕ) (p : List ℕ) → n ≤ largest64 → EachPort n p → EachUpTo largest64 p
ports-few n [] h e = tt
ports-few n (x ∷ p) h e = (omega (arith, e.1), ports-few n p h e.2)

-- entries that are ports as bytes are those bytes
pub bytes_back : (n : ℕ) (ns : List ℕ) → EachPort n (map entry_byte ns) → map entry_byte ns ≡ ns
bytes_back n [] e = refl
bytes_back n (y ∷ ns) e =
    either (below? 255 y)
    (λ h. absurd (omega (arith, large-entry y h, e.0)))
    (λ h. λ i. sym (small-entry y h) i ∷ bytes_back n ns e.2 i)

-- ---- read back

-- the text of entries has no newline
following-clear : (ns : List ℕ) → first_of newline (following comma (map digits_of ns)) ≡ none
unfolding following first_of
following-clear [] = refl
following-clear (n ∷ ns) =
    first-append newline (comma ∷ digits_of n) (following comma (map digits_of ns)) (ap later (digits-clear newline n (omega arith))) (following-clear ns)

entries-clear : (ns : List ℕ) → first_of newline (entries_text ns) ≡ none
unfolding entries_text joined first_of
entries-clear [] = refl
entries-clear (n ∷ ns) = first-append newline (digits_of n) (following comma (map digits_of ns)) (digits-clear newline n (omega arith)) (following-clear ns)

-- so the text with a newline after it is one line
pub entries-line : (ns : List ℕ) → one_line (entries_text ns ++ (newline ∷ [])) ≡ accepted (entries_text ns)
unfolding one_line
entries-line ns = ap (λ o. then (need 11 nowhere o) alone) (cut-joined newline (entries_text ns) [] (entries-clear ns))

-- a pattern of at most 20 ports is read from its text
pub pattern-read : (n : ℕ) (p : List ℕ) → Derangement n p → 1 ≤ n → n ≤ most_ports → entries_of (entries_text p) ≡ accepted p
unfolding entries_of few_entries
pattern-read n p D low high =
    let each = pattern-ports n p D in
    let few : length p ≤ most_ports = omega (arith, D.permutation.long) in
    ap (λ o. then (need 8 nowhere o) few_entries) (entries-back largest64 p (omega (arith, D.permutation.long)) (ports-few n p (omega arith) each))
    ∙ rw (le-leb (length p) most_ports few) (ap accepted (ports-bytes n p (omega arith) each))
