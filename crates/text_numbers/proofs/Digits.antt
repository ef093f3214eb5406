-- The text of a number, digit by digit: one digit below 10; from 10 on the text of its tens, and its last digit.
-- Assumes nothing.
use mathlib.Core.Path.{◌≡◌, refl, sym, ap, ◌∙◌}
use mathlib.Core.List.{[], ◌∷◌, ◌++◌}
use Prim.Native.Nat.{ℕ, zero, suc, ◌/◌, ◌%◌, ◌≤◌, ◌<◌}
use native.Mathlib.Nat.{div-lt_self}
use native.Mathlib.Omega.{arith}
use borrow.Author.Tests.{lt-ltb, le-ltb}
use Rattle.listing.proofs.Numbers.{either, below?}
use Rattle.text_numbers.specs.Decimal.{glyph, spell, digits_of}

-- ---- divisions

-- a number below 10 needs none
spell_one : (k n : ℕ) → n < 10 → spell k n ≡ glyph n ∷ []
unfolding spell
spell_one zero n h = refl
spell_one (suc k) n h = rw (lt-ltb n 10 h)

-- a number from 10 on is its tens and its last digit
spell-more : (k n : ℕ) → 10 ≤ n → spell (suc k) n ≡ spell k (n / 10) ++ (glyph (n % 10) ∷ [])
unfolding spell
spell-more k n h = rw (le-ltb n 10 h)

-- the tens of a number from 10 on are fewer than it
pub fewer-tens : (n : ℕ) → 10 ≤ n → n / 10 < n
fewer-tens n h = div-lt_self (omega arith) (omega arith)

-- all numbers of divisions that are enough give the same text
spell_enough : (k j n : ℕ) → n ≤ k → n ≤ j → spell k n ≡ spell j n
spell_enough zero j n a b = spell_one zero n (omega arith) ∙ sym (spell_one j n (omega arith))
spell_enough (suc k) zero n a b = spell_one (suc k) n (omega arith) ∙ sym (spell_one zero n (omega arith))
spell_enough (suc k) (suc j) n a b =
    either (below? n 10)
    (λ h. spell_one (suc k) n h ∙ sym (spell_one (suc j) n h))
    (λ h.
    let f : n / 10 < n = fewer-tens n h in
    spell-more k n h ∙ ap (λ t. t ++ (glyph (n % 10) ∷ [])) (spell_enough k j (n / 10) (omega arith) (omega arith)) ∙ sym (spell-more j n h))

-- ---- the two rules

-- the text of a number below 10 is its digit
pub digits-one : (n : ℕ) → n < 10 → digits_of n ≡ glyph n ∷ []
unfolding digits_of
digits-one n h = spell_one n n h

-- the text of a number from 10 on is the text of its tens, and its last digit
pub digits_more : (n : ℕ) → 10 ≤ n → digits_of n ≡ digits_of (n / 10) ++ (glyph (n % 10) ∷ [])
unfolding digits_of
digits_more zero h = absurd (omega arith)
digits_more (suc k) h =
    let f : suc k / 10 < suc k = fewer-tens (suc k) h in
    spell-more k (suc k) h ∙ ap (λ t. t ++ (glyph (suc k % 10) ∷ [])) (spell_enough k (suc k / 10) (suc k / 10) (omega arith) (omega arith))

-- these two rules, over all numbers: what holds for the digits, and of a number if of its tens, holds for all
pub by-tens : (P : ℕ → Type 0) → ((n : ℕ) → n < 10 → P n) → ((n : ℕ) → 10 ≤ n → P (n / 10) → P n) → (n : ℕ) → P n
by-tens P one more n = up_to n n (omega arith)
  where
    up_to : (k m : ℕ) → m ≤ k → P m
    up_to zero m h = one m (omega arith)
    up_to (suc k) m h =
        either (below? m 10) (λ l. one m l) (λ l. let f : m / 10 < m = fewer-tens m l in more m l (up_to k (m / 10) (omega arith)))
