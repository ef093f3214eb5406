-- Laws of three numbers in a line: entry after entry, exactly three.
-- Assumes nothing.
use mathlib.Core.Path.{◌≡◌, refl, ap, ◌∙◌}
use mathlib.Core.List.{List, [], ◌∷◌, ◌++◌, append_assoc}
use mathlib.Core.Option.{Option, none, some, map, bind}
use Prim.Native.Nat.{ℕ}
use Rattle.listing.specs.Limits.{largest64}
use Rattle.text_numbers.specs.Decimal.{number_up_to}
use Rattle.text_keys.specs.Parts.{Parts, comma, cut}
use Rattle.text_entries.specs.Entries.{pieces, each_number, entries_in}
use Rattle.text_entries.proofs.Cutting.{parted, pieces-cut}
use Rattle.benches_text.specs.Reading.{are_three, three_after}

-- ---- known cases

-- two numbers are not three, and three are
pub exactly-three : (are_three (1 ∷ 2 ∷ []) ≡ none) × (are_three (1 ∷ 2 ∷ 3 ∷ []) ≡ some (record { first = 1; second = 2; third = 3 }))
exactly-three = (refl, refl)

-- ---- pieces

-- a text has a first piece
pub record Some (ps : List (List ℕ)) : Type 0 where
  pub front : List ℕ
  pub more : List (List ℕ)
  pub so : ps ≡ front ∷ more

pub some-piece : (s : ℕ) (t : List ℕ) → Some (pieces s t)
some-piece s t = by (cut s t) (pieces-cut s t)
  where
    by : (o : Option Parts) → pieces s t ≡ parted s t o → Some (pieces s t)
    by none e = record { front = t; more = []; so = e }
    by (some p) e = record { front = p.front; more = pieces s p.rest; so = e }

-- ---- entries

-- entries are none, or there is a first
abbrev OneOrMore : Option (List ℕ) → Type 0
OneOrMore none = Unit {0}
OneOrMore (some []) = ⊥
OneOrMore (some (n ∷ ns)) = Unit {0}

entries-some : (t : List ℕ) → OneOrMore (entries_in largest64 t)
unfolding entries_in each_number bind
entries-some t =
    let p = some-piece comma t in
    rw p.so (by (number_up_to largest64 p.front) (each_number largest64 p.more))
  where
    by : (o : Option ℕ) (r : Option (List ℕ)) → OneOrMore (bind o (λ n. map (λ ns. n ∷ ns) r))
    by none r = tt
    by (some n) none = tt
    by (some n) (some ns) = tt

-- ---- three, entry by entry

-- an entry that is none
pub after-bad : (front t : List ℕ) → none ≡ entries_in largest64 t → none ≡ three_after front t
unfolding three_after bind
after-bad front t e = ap (λ o. bind (map (λ ns. front ++ ns) o) are_three) e

-- the last one: with two before it they are three, with fewer they are not
pub after_last : (front t : List ℕ) (c : ℕ) → some (c ∷ []) ≡ entries_in largest64 t → are_three (front ++ (c ∷ [])) ≡ three_after front t
unfolding three_after bind
after_last front t c e = ap (λ o. bind (map (λ ns. front ++ ns) o) are_three) e

-- one with others after it, which comes to those before
pub after_more : (front t u : List ℕ) (c : ℕ) → map (λ ns. c ∷ ns) (entries_in largest64 u) ≡ entries_in largest64 t
    → three_after (front ++ (c ∷ [])) u ≡ three_after front t
unfolding three_after
after_more front t u c e = by (entries_in largest64 u) ∙ ap (λ o. bind (map (λ ns. front ++ ns) o) are_three) e
  where
    by : (o : Option (List ℕ)) → bind (map (λ ns. (front ++ (c ∷ [])) ++ ns) o) are_three
        ≡ bind (map (λ ns. front ++ ns) (map (λ ns. c ∷ ns) o)) are_three
    by none = refl
    by (some ns) = ap (λ l. bind (some l) are_three) (append_assoc front (c ∷ []) ns)

-- and a fourth is too many
pub after-three : (a b c : ℕ) (u : List ℕ) → none ≡ three_after (a ∷ b ∷ c ∷ []) u
unfolding three_after bind
after-three a b c u = many (entries_in largest64 u) (entries-some u)
  where
    many : (o : Option (List ℕ)) → OneOrMore o → none ≡ bind (map (λ ns. a ∷ b ∷ c ∷ ns) o) are_three
    many none h = refl
    many (some []) h = absurd h
    many (some (d ∷ ns)) h = refl
