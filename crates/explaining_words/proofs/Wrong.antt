-- The words of a refusal by its number: those of each that a pattern can meet, and of 5 where it is none of the others. Two reasons have two numbers (`not-number`).
-- Assumes nothing.
use mathlib.Core.Path.{◌≡◌, sym, ap}
use mathlib.Core.Logic.{◌≢◌}
use mathlib.Core.List.{◌++◌}
use Prim.Native.Nat.{ℕ, ◌≤◌}
use native.Mathlib.Omega.{arith}
use borrow.Author.Tests.{ne_eqb}
use Rattle.listing.specs.Limits.{largest64}
use Rattle.words.specs.Told.{refused, nowhere}
use Rattle.words.specs.Meaning.{number_of}
use Rattle.words.specs.declared.Reason.{Reason}
use Rattle.words.specs.declared.Reason.TheVariants.{Ports, Room, Outside, Repeated, OwnJack, Rank, Key, Number, Legs, Run, Ended, NoMark, MarkStands, Kind, Unfit, Errors, Shape}
use Rattle.words.specs.declared.Place.TheVariants.{Nowhere}
use Rattle.words.specs.declared.Refusal.{Refusal}
use Rattle.words.proofs.Once.{refusal-once}
use Rattle.text_numbers.specs.Decimal.{digits_of}
use Rattle.line_refusal.specs.Words.{quoted}
use Rattle.explaining.specs.Text.{said, jack_text, wrong_text}

module _ (k j i x : ℕ) where
  pub wrong-11 : k ≡ 11 → quoted "the newline is missing or not last" ≡ wrong_text k j i x
  unfolding wrong_text
  wrong-11 e = sym (ap (λ n. wrong_text n j i x) e)

  pub wrong-8 : k ≡ 8 → said (quoted "jack ") x (quoted ": not a plain decimal number of at most 64 bits") ≡ wrong_text k j i x
  unfolding wrong_text
  wrong-8 e = sym (ap (λ n. wrong_text n j i x) e)

  pub wrong-1 : k ≡ 1 → quoted "a pattern has 2 to 20 entries" ≡ wrong_text k j i x
  unfolding wrong_text
  wrong-1 e = sym (ap (λ n. wrong_text n j i x) e)

  pub wrong-3 : k ≡ 3 → jack_text j (quoted ": its entry is none of the ports 1 to ") x ≡ wrong_text k j i x
  unfolding wrong_text
  wrong-3 e = sym (ap (λ n. wrong_text n j i x) e)

  pub wrong-4 : k ≡ 4 → jack_text j (quoted ": port ") x ++ (quoted " is already at jack " ++ digits_of i) ≡ wrong_text k j i x
  unfolding wrong_text
  wrong-4 e = sym (ap (λ n. wrong_text n j i x) e)

  pub wrong-5 : (k ≢ 11) × (k ≢ 8) × (k ≢ 1) × (k ≢ 3) × (k ≢ 4) → jack_text j (quoted ": port ") j ++ quoted " has the jack's own number" ≡ wrong_text k j i x
  unfolding wrong_text
  wrong-5 d = rw (ne_eqb k 11 d.0, ne_eqb k 8 d.1, ne_eqb k 1 d.2, ne_eqb k 3 d.3, ne_eqb k 4 d.4)

-- ---- reasons by their numbers

-- two of one number are the same
same-reason : (r s : Reason) → number_of r ≡ number_of s → r ≡ s
same-reason r s e =
    ap (λ (f : Refusal). f.reason)
    (refusal-once {A = Unit {0}} (record { reason = r; place = Nowhere }) (record { reason = s; place = Nowhere }) (ap (λ k. refused k nowhere) e))

-- what is not s has not its number
pub not-number : (r s : Reason) → r ≢ s → number_of r ≢ number_of s
not-number r s ne e = ne (same-reason r s e)

pub number-small : (r : Reason) → number_of r ≤ largest64
number-small Ports = omega arith
number-small Room = omega arith
number-small Outside = omega arith
number-small Repeated = omega arith
number-small OwnJack = omega arith
number-small Rank = omega arith
number-small Key = omega arith
number-small Number = omega arith
number-small Legs = omega arith
number-small Run = omega arith
number-small Ended = omega arith
number-small NoMark = omega arith
number-small MarkStands = omega arith
number-small Kind = omega arith
number-small Unfit = omega arith
number-small Errors = omega arith
number-small Shape = omega arith
