-- The pattern that a line names, before it is checked.
-- Assumes nothing.
use Rattle.std.specs.Prelude.{ℕ, cond, List, map, eqb, length, drop}
use Rattle.listing.specs.Listing.{at}
use Rattle.listing.specs.Limits.{largest64}
use Rattle.listing_dictionary.specs.Dictionary.{in_dictionary}
use Rattle.words.specs.Told.{Told, accepted, refused, nowhere, then, need}
use Rattle.text_keys.specs.Parts.{begins}
use Rattle.text_entries.specs.Entries.{entries_in, entry_byte}
use Rattle.patterns.specs.Calls.{ranked}
use Rattle.translating.specs.Names.{rank_key, number_key, pattern_key}
use Rattle.translating.specs.Lines.{numbered}

-- among patterns in an order, that with the number that a text is: 8, then 6
unfoldable pub in_order : (ℕ → List ℕ) → ℕ → List ℕ → Told (List ℕ)
in_order order n t = numbered t (λ r. ranked n r (accepted (order r)))

-- entries of which there are n: 8
unfoldable pub counted : ℕ → List ℕ → Told (List ℕ)
counted n p = cond (eqb (length p) n) (accepted p) (refused 8 nowhere)

-- the n entries that a text is: 8
unfoldable pub in_entries : ℕ → List ℕ → Told (List ℕ)
in_entries n t = then (need 8 nowhere (entries_in largest64 t)) (λ ns. counted n (map entry_byte ns))

-- of a line, by its key
unfoldable pub pattern_of : ℕ → List ℕ → Told (List ℕ)
pattern_of n t =
    cond (begins rank_key t) (in_order (at n) n (drop (length rank_key) t))
    (cond (begins number_key t) (in_order (in_dictionary n) n (drop (length number_key) t))
    (cond (begins pattern_key t) (in_entries n (drop (length pattern_key) t)) (refused 7 nowhere)))

-- that one was found, and the bytes left: the pattern, or those that were there
abbrev pub found_told : Told (List ℕ) → Told (Unit {0})
found_told told = then told (λ p. accepted tt)

abbrev pub found_bytes : Told (List ℕ) → List ℕ → List ℕ
found_bytes (accepted p) old = p
found_bytes (refused k s) old = old
