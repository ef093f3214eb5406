-- The first bad entry: where a text is not read as entries, one of them is bad (`bad-there`). In front, the loop that counts the entries before it.
-- Assumes nothing.
use mathlib.Core.Path.{◌≡◌, refl, sym, ap, ◌∙◌}
use mathlib.Core.Bool.{false, cond}
use mathlib.Core.List.{List, [], ◌∷◌}
use mathlib.Core.Option.{Option, none, some, map, bind}
use Prim.Native.Nat.{ℕ, zero, suc, ◌+◌, ◌≤◌, ◌<◌}
use native.Mathlib.Omega.{arith}
use lib.Dec.{eqb}
use lib.ListN.{drop}
use borrow.Author.Tests.{ne_eqb}
use Rattle.text_numbers.specs.Decimal.{number_up_to}
use Rattle.text_numbers.proofs.Inverse.{none-some}
use Rattle.text_keys.specs.Parts.{comma}
use Rattle.text_entries.specs.Entries.{pieces, each_number, entries_in, bad_after, first_bad, bad_entry}

-- what is found is not 0
some-found : (k : ℕ) → eqb (suc k) 0 ≡ false
some-found k = ne_eqb (suc k) 0 (λ e. omega arith)

-- ---- the loop

-- what is found later, counted from some entries before it on; 0 where nothing is
abbrev pub past : ℕ → ℕ → ℕ
past passed later = cond (eqb later 0) 0 (passed + later)

-- before the first entry
past-none : (later : ℕ) → later ≡ past 0 later
past-none zero = refl
past-none (suc k) = rw (some-found k) (omega arith)

-- one entry more that is a number
past_one : (passed n later : ℕ) → past passed (bad_after (some n) later) ≡ past (passed + 1) later
past_one passed n zero = refl
past_one passed n (suc k) = rw (some-found k, some-found (suc k)) (omega arith)

-- the entries of t before `at` are numbers: those that were passed, no more than there are bytes; and the first bad one is found from `at` on
pub record Passed (most : ℕ) (t : List ℕ) (passed at : ℕ) : Type 0 where
  pub few : passed ≤ at
  pub rest : bad_entry most t ≡ past passed (bad_entry most (drop at t))

-- before the first
pub passed_none : (most : ℕ) (t : List ℕ) → Passed most t 0 0
passed_none most t = record { few = omega arith; rest = past-none (bad_entry most t) }

module _ (most : ℕ) (t : List ℕ) (passed at : ℕ) (P : Passed most t passed at) where
  -- the next one is bad
  pub bad-here : 1 ≡ bad_entry most (drop at t) → passed + 1 ≡ bad_entry most t
  bad-here e = ap (past passed) e ∙ sym P.rest

  -- none is
  pub none-bad : 0 ≡ bad_entry most (drop at t) → 0 ≡ bad_entry most t
  none-bad e = ap (past passed) e ∙ sym P.rest

  -- the next one is a number, and others come after it
  pub bad-later : (n next : ℕ) → bad_after (some n) (bad_entry most (drop next t)) ≡ bad_entry most (drop at t) → at < next → Passed most t (passed + 1) next
  bad-later n next e h = record {
    few = omega (arith, P.few);
    rest = P.rest ∙ ap (past passed) (sym e) ∙ past_one passed n (bad_entry most (drop next t));
  }

-- ---- there is one

-- numbers that are none with one in front are none without it
none_before : (n : ℕ) (o : Option (List ℕ)) → map (λ ns. n ∷ ns) o ≡ none → o ≡ none
none_before n none e = refl
none_before n (some ns) e = absurd (none-some (n ∷ ns) (sym e))

-- one more entry in front that is a number
one_more : (n later : ℕ) → 1 ≤ later → 1 ≤ bad_after (some n) later
one_more n zero h = absurd (omega arith)
one_more n (suc k) h = rw (some-found k) (omega arith)

module _ (most : ℕ) where
  -- of texts that are not each a number one is bad
  bad-one : (ps : List (List ℕ)) → each_number most ps ≡ none → 1 ≤ first_bad most ps
  unfolding each_number bind first_bad
  bad-one [] e = absurd (none-some [] (sym e))
  bad-one (p ∷ ps) e = by (bad-one ps) (number_up_to most p) e
    where
      by : (each_number most ps ≡ none → 1 ≤ first_bad most ps) → (o : Option ℕ)
          → bind o (λ n. map (λ ns. n ∷ ns) (each_number most ps)) ≡ none → 1 ≤ bad_after o (first_bad most ps)
      by others none e = omega arith
      by others (some n) e = one_more n (first_bad most ps) (others (none_before n (each_number most ps) e))

  -- so where a text is not read as entries, one of them is bad
  pub bad-there : (t : List ℕ) → entries_in most t ≡ none → 1 ≤ bad_entry most t
  unfolding entries_in bad_entry
  bad-there t e = bad-one (pieces comma t) e
