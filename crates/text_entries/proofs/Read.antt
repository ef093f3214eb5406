-- What the answer of the reader gives: entries that lie at the front of its array (`given-front`), as many as it says (`given-long`), and no more than there
-- are ports (`entries-few`).
-- Assumes nothing.
use mathlib.Core.Path.{◌≡◌, sym, ap, ◌∙◌}
use mathlib.Core.List.{List, []}
use mathlib.Core.Option.{Option, none, some}
use Prim.Native.Nat.{ℕ, ◌≤◌}
use native.Mathlib.Omega.{arith}
use lib.ListN.{length, take, length-map}
use borrow.Author.Tests.{le-leb, lt-leb}
use Rattle.listing.specs.Limits.{most_ports, largest64}
use Rattle.listing.proofs.Numbers.{either, below?}
use Rattle.words.specs.Told.{Spot, Told, accepted, refused, nowhere, then, need}
use Rattle.words.specs.Meaning.{outcome_told}
use Rattle.words.specs.Padded.{padded}
use Rattle.words.proofs.Padded.{padded-room, padded-front}
use Rattle.words.proofs.Told.{not-both, accepted-gives}
use Rattle.text_entries.specs.Entries.{entries_in, entry_byte, few_entries, entries_of}
use Rattle.text_entries.specs.Pieces.{given_in, EntriesAre}
use Rattle.text_entries.specs.declared.Entries.{Entries}

-- no more are given than there are ports
few-given : (o : Option (List ℕ)) → length (given_in (then (need 8 nowhere o) few_entries)) ≤ most_ports
unfolding few_entries
few-given none = omega arith
few-given (some ns) =
    either (below? most_ports (length ns))
    (λ m. rw (lt-leb (length ns) most_ports m) (omega arith))
    (λ m. rw (le-leb (length ns) most_ports m) (omega (arith, length-map ns entry_byte)))

module _ (t : List ℕ) (e : Entries) (E : EntriesAre (entries_of t) e) where
  -- they are no more than there are ports, and lie in the array
  pub entries-few : e.len ≤ most_ports
  unfolding entries_of
  entries-few = omega (arith, E.len, few-given (entries_in largest64 t))

  pub entries-within : e.len ≤ length e.bytes
  entries-within = omega (arith, E.len, padded-room most_ports 0 (given_in (entries_of t)), ap length E.bytes)

  -- the entries of the text
  pub given : (p : List ℕ) × (entries_of t ≡ accepted p)
  given = accepted-gives (entries_of t) (λ p. tt) tt E.judged

  pub given-long : e.len ≡ length given.0
  given-long = E.len ∙ ap (λ told. length (given_in told)) given.1

  -- they stand at the front of the array
  pub given-front : take e.len e.bytes ≡ given.0
  given-front =
      ap (take e.len) E.bytes ∙ ap (λ told. take e.len (padded most_ports 0 (given_in told))) given.1
      ∙ padded-front most_ports e.len 0 given.0 (sym given-long)
