-- The words of refusals: how long they are (`words-longest`, and 17 has the longest: `longest-met`), that they are printed characters with no newline and no
-- zero byte (`words-plain`), and what is told of them where they are written (`words-told`, `past-told`).
-- Assumes nothing.
use mathlib.Core.Path.{◌≡◌, refl, sym, ap}
use mathlib.Core.Bool.{Bool, true, false, ◌&&◌, true≢false}
use mathlib.Core.List.{List, [], ◌∷◌}
use Prim.Native.Nat.{ℕ, zero, suc, ◌≤◌}
use native.Mathlib.Omega.{arith}
use lib.Dec.{leb}
use lib.ListN.{length, get_or, get_or-eq_default}
use borrow.Author.Tests.{leb-true}
use Rattle.words.specs.Told.{Told}
use Rattle.words.proofs.LastArm.{NoneFrom, past}
use Rattle.line_format.specs.Calls.{room_of, room_bytes}
use Rattle.line_refusal.specs.Words.{quoted, all_words, no_words, words_of, most_words, refusal_words_of, refusal_words_bytes}

-- ---- all of them

-- whether a test holds of each entry of a list
abbrev pub each : {A : Type 0} → (A → Bool) → List A → Bool
each test [] = true
each test (x ∷ l) = test x && each test l

both : (b c : Bool) → (b && c) ≡ true → (b ≡ true) × (c ≡ true)
both true c e = (refl, e)
both false c e = absurd (true≢false (sym e))

-- then it holds of the entry at any place, if it holds of what stands for those beyond
of-each : {A : Type 0} (test : A → Bool) (l : List A) (beyond : A) (n : ℕ) → each test l ≡ true → test beyond ≡ true → test (get_or l n beyond) ≡ true
of-each test [] beyond n h e = e
of-each test (x ∷ l) beyond zero h e = (both (test x) (each test l) h).0
of-each test (x ∷ l) beyond (suc n) h e = of-each test l beyond n (both (test x) (each test l) h).1 e

-- no words are longer than 49 bytes
pub words-longest : (number : ℕ) → length (words_of number) ≤ most_words
unfolding words_of quoted
words-longest number = leb-true _ _ (of-each (λ s. leb (length (quoted s)) most_words) all_words no_words number refl refl)

-- and those of 17 have so many
pub longest-met : length (words_of 17) ≡ most_words
unfolding words_of quoted
longest-met = refl

-- whether a byte is a printed character: from the blank to `~`
abbrev pub printed : ℕ → Bool
printed b = leb 32 b && leb b 126

-- each byte of the words is one
pub words-plain : (number : ℕ) → each printed (words_of number) ≡ true
unfolding words_of quoted
words-plain number = of-each (λ s. each printed (quoted s)) all_words no_words number refl refl

-- ---- the call

-- 17 is the last number of a refusal
past_words : (n : ℕ) → NoneFrom 0 18 n → words_of n ≡ quoted no_words
unfolding words_of
past_words n h = ap quoted (get_or-eq_default all_words no_words (past 0 18 n h (omega arith)))

-- the call tells this, and leaves that
abbrev pub TellsWords : ℕ → List ℕ → Told ℕ → List ℕ → Type 0
TellsWords number buf told left = (told ≡ refusal_words_of number buf) × (left ≡ refusal_words_bytes number buf)

module _ (number : ℕ) (buf : List ℕ) {left : List ℕ} {told : Told ℕ} where
  -- the words of k are written, and k is the number
  pub words-told : (k : ℕ) → number ≡ k → (told ≡ room_of (words_of k) buf) × (left ≡ room_bytes (words_of k) buf) → TellsWords number buf told left
  unfolding refusal_words_of refusal_words_bytes
  words-told k e h = rw e h

  -- the number is none of 0 to 17, and the words that say so are written
  pub past-told : NoneFrom 0 18 number → (told ≡ room_of (quoted no_words) buf) × (left ≡ room_bytes (quoted no_words) buf) → TellsWords number buf told left
  unfolding refusal_words_of refusal_words_bytes
  past-told n h = rw (past_words number n) h
