-- What the reader of entries and its inner pieces answer: the entries in an array; the line that a text is; one entry and the place after its comma; the
-- entries so far.
-- Assumes nothing.
use Rattle.std.specs.Prelude.{ℕ, ◌≤◌, ◌<◌, ◌≡◌, List, [], ◌∷◌, map, ltb, length, take, drop}
use Rattle.std.proofs.Math.Option
use Rattle.std.proofs.Math.Option.{Option, none, some}
use Rattle.listing.specs.Limits.{most_ports}
use Rattle.words.specs.Told.{Told, accepted, refused, nowhere, then}
use Rattle.words.specs.Meaning.{refusal_of}
use Rattle.words.specs.Padded.{padded}
use Rattle.text_entries.specs.Entries.{entries_in, entry_byte, bad_after, bad_entry}
use Rattle.text_entries.specs.declared.Entries.{Entries}
use Rattle.text_entries.specs.declared.Held.{Held}
use Rattle.text_entries.specs.declared.Entry.{Entry}
use Rattle.text_entries.specs.declared.Entry.TheVariants.{Last, More, Bad}
use Rattle.words.specs.declared.Refusal.{Refusal}
use Rattle.std.specs.declared.result.Result.{Result}
use Rattle.std.specs.declared.result.Result.TheVariants.{Ok, Err}
use Rattle.std.specs.declared.option.Option.{Option as Maybe}
use Rattle.std.specs.declared.option.Option.TheVariants.{Some, None}

-- the bytes that are given; none on a refusal
abbrev pub given_in : Told (List ℕ) → List ℕ
given_in (accepted p) = p
given_in (refused k s) = []

-- e is what an accepted text gives: the array has the bytes that are given, and 0 beyond them
pub record EntriesAre (told : Told (List ℕ)) (e : Entries) : Type 0 where
  pub judged : accepted (tt {0}) ≡ then told (λ p. accepted tt)
  pub len : e.len ≡ length (given_in told)
  pub bytes : e.bytes ≡ padded most_ports 0 (given_in told)

-- r is what a text is told to be: what it gives, or its refusal
abbrev pub EntriesIs : Told (List ℕ) → Result Entries Refusal → Type 0
EntriesIs told (Ok e) = EntriesAre told e
EntriesIs told (Err f) = refusal_of f ≡ told

-- the line that a text is told to be, by where it ends
abbrev pub line_is : List ℕ → Maybe ℕ → Told (List ℕ)
line_is t (Some k) = accepted (take k t)
line_is t None = refused 11 nowhere

-- it ends inside the text
abbrev pub LineWithin : List ℕ → Maybe ℕ → Type 0
LineWithin t (Some k) = k < length t
LineWithin t None = Unit {0}

-- ---- inner pieces

-- the entries that a text is from an entry on, where those after it begin at the place that it has
abbrev pub entry_is : ℕ → List ℕ → Entry → Option (List ℕ)
entry_is most t (Last n) = some (n ∷ [])
entry_is most t (More n next) = Option.map (λ ns. n ∷ ns) (entries_in most (drop next t))
entry_is most t Bad = none

-- which of these entries is the first that is no number, counted from the entry on
abbrev pub bad_is : ℕ → List ℕ → Entry → ℕ
bad_is most t (Last n) = 0
bad_is most t (More n next) = bad_after (some n) (bad_entry most (drop next t))
bad_is most t Bad = 1

-- that place comes after `at`, and is not past the end
abbrev pub EntryWithin : ℕ → List ℕ → Entry → Type 0
EntryWithin at t (Last n) = Unit {0}
EntryWithin at t (More n next) = (at < next) × (next ≤ length t)
EntryWithin at t Bad = Unit {0}

-- r is the entry that begins at `at`: it says the entries that t is from there on and the first of them that is bad, and lies within t
pub record EntryOf (most : ℕ) (t : List ℕ) (at : ℕ) (r : Entry) : Type 0 where
  pub entries : entry_is most t r ≡ entries_in most (drop at t)
  pub bad : bad_is most t r ≡ bad_entry most (drop at t)
  pub within : EntryWithin at t r

-- what was read as the last entry, and as one with others from a place on
abbrev pub last_of : Maybe ℕ → Entry
last_of (Some n) = Last n
last_of None = Bad

abbrev pub more_of : ℕ → Maybe ℕ → Entry
more_of next (Some n) = More n next
more_of next None = Bad

-- h holds the entries ns: whether there are more than places, and as many as there are places for
pub record HeldIs (ns : List ℕ) (h : Held) : Type 0 where
  pub over : h.over ≡ ltb most_ports (length ns)
  pub full : most_ports ≤ length ns → h.len ≡ most_ports
  pub len : length ns ≤ most_ports → h.len ≡ length ns
  pub bytes : length ns ≤ most_ports → h.bytes ≡ padded most_ports 0 (map entry_byte ns)
