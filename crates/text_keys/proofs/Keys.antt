-- Keys: a text begins with a key exactly if it is the key and what follows it. At the end, that the library compares so.
-- Assumes nothing.
use mathlib.Core.Path.{◌≡◌, refl, sym, ap, ◌∙◌}
use mathlib.Core.Bool.{Bool, true, false, true≢false, cond}
use mathlib.Core.Logic.{◌≢◌}
use mathlib.Core.List.{List, [], ◌∷◌, ◌++◌}
use mathlib.Core.Option.{none, some}
use Prim.Native.Nat.{ℕ, ◌≤◌, ◌<◌}
use native.Mathlib.Omega.{arith}
use lib.Dec.{eqb}
use lib.ListN.{length, drop, take}
use lib.Seq.{drop-append_seam}
use borrow.Author.Tests.{eq-eqb, ne_eqb}
use Rattle.std.specs.Cmp.Lexicographic.{pointwise}
use Rattle.listing.proofs.Numbers.{either, below?, same?}
use Rattle.text_keys.specs.Parts.{begins, after_key}

-- ---- byte by byte

begins-same : (k x : ℕ) (key t : List ℕ) → x ≡ k → begins (k ∷ key) (x ∷ t) ≡ begins key t
unfolding begins
begins-same k x key t e = rw (eq-eqb x k e)

begins-other : (k x : ℕ) (key t : List ℕ) → x ≢ k → begins (k ∷ key) (x ∷ t) ≡ false
unfolding begins
begins-other k x key t e = rw (ne_eqb x k e)

-- ---- the key and what follows

-- a key and any text begin with the key
pub begins-key : (key t : List ℕ) → begins key (key ++ t) ≡ true
unfolding begins
begins-key [] t = refl
begins-key (k ∷ key) t = begins-same k k key (key ++ t) refl ∙ begins-key key t

-- a text that begins with a key is the key and what follows
begins-whole : (key t : List ℕ) → begins key t ≡ true → t ≡ key ++ drop (length key) t
unfolding begins
begins-whole [] t e = refl
begins-whole (k ∷ key) [] e = absurd (true≢false (sym e))
begins-whole (k ∷ key) (x ∷ t) e =
    either (same? x k)
    (λ q. ap (λ y. y ∷ t) q ∙ ap (λ r. k ∷ r) (begins-whole key t (sym (begins-same k x key t q) ∙ e)))
    (λ q. absurd (true≢false (sym e ∙ begins-other k x key t q)))

-- what follows a key is the text after it
pub after-key : (key t : List ℕ) → after_key key (key ++ t) ≡ some t
after-key key t = rw (begins-key key t, drop-append_seam key t)

-- and a text where v follows a key is the key and v
pub key-after : (key t v : List ℕ) → after_key key t ≡ some v → t ≡ key ++ v
key-after key t v e = by (begins key t) refl e
  where
    by : (y : Bool) → begins key t ≡ y → cond y (some (drop (length key) t)) none ≡ some v → t ≡ key ++ v
    by true q e = begins-whole key t q ∙ ap (λ r. key ++ r) (cc)
    by false q e = absurd (true≢false (cc))

-- ---- room, and where the library compares

-- a text that is shorter than the key does not begin with it
begins-short : (key t : List ℕ) → length t < length key → begins key t ≡ false
unfolding begins
begins-short [] t h = absurd (omega arith)
begins-short (k ∷ key) [] h = refl
begins-short (k ∷ key) (x ∷ t) h =
    either (same? x k) (λ q. begins-same k x key t q ∙ begins-short key t (omega arith)) (λ q. begins-other k x key t q)

-- so a text is no shorter than a key that it begins with
pub key-room : (key t : List ℕ) → begins key t ≡ true → length key ≤ length t
key-room key t e = either (below? (length t) (length key)) (λ h. absurd (true≢false (sym e ∙ begins-short key t h))) (λ h. h)

-- the library's `starts_with` says whether a text begins with a key
pub begins_is : (key t : List ℕ) → pointwise eqb key (take (length key) t) ≡ begins key t
unfolding begins
begins_is [] t = refl
begins_is (k ∷ key) [] = refl
begins_is (k ∷ key) (x ∷ t) =
    either (same? x k)
    (λ e. rw (eq-eqb x k e, eq-eqb k x (sym e)) (begins_is key t))
    (λ d. rw (ne_eqb x k d, ne_eqb k x (λ e. d (sym e))))
