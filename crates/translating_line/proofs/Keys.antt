-- Which line it is: by its length, by the key of ports, and by whether any ports are known.
-- Assumes nothing.
use mathlib.Core.Path.{◌≡◌}
use mathlib.Core.Bool.{true, false}
use mathlib.Core.Logic.{◌≢◌}
use mathlib.Core.List.{List}
use Prim.Native.Nat.{ℕ, ◌-◌, ◌≤◌, ◌<◌}
use lib.ListN.{length, take, drop}
use borrow.Author.Tests.{lt-ltb, le-ltb, eq-eqb, ne_eqb}
use Rattle.words.specs.Told.{refused, nowhere}
use Rattle.text_keys.specs.Parts.{begins}
use Rattle.text_keys.proofs.Cuts.{to_the_end}
use Rattle.translating.specs.Lines.{ports_key, most_line, ports_of, keyed_of, line_of}
use Rattle.translating_line.specs.Pieces.{named_line_of}

module _ (n : ℕ) (t : List ℕ) where
  pub long-line : most_line < length t → refused 8 nowhere ≡ line_of n t
  unfolding line_of
  long-line h = rw (lt-ltb most_line (length t) h)

  module _ (short : length t ≤ most_line) where
    pub ports-key : true ≡ begins ports_key t → ports_of (take (length t - 6) (drop 6 t)) ≡ line_of n t
    unfolding line_of keyed_of
    ports-key e = rw (le-ltb most_line (length t) short, ← e, to_the_end t 6)

    module _ (e : false ≡ begins ports_key t) where
      pub no-ports : n ≡ 0 → refused 7 nowhere ≡ line_of n t
      unfolding line_of keyed_of
      no-ports z = rw (le-ltb most_line (length t) short, ← e, eq-eqb n 0 z)

      pub names-line : n ≢ 0 → named_line_of n t ≡ line_of n t
      unfolding line_of keyed_of
      names-line nz = rw (le-ltb most_line (length t) short, ← e, ne_eqb n 0 nz)
