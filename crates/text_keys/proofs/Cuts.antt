-- A text cut at a byte: what the parts are (`cut_parts`), and that a text put together from such parts is cut into them (`cut-joined`).
-- That a byte is not in a text is said by `first_of b t ≡ none`. At the end, that the library finds it.
-- Assumes nothing.
use mathlib.Core.Path.{◌≡◌, refl, sym, ap, ◌∙◌, subst}
use mathlib.Core.Bool.{cond, true≢false}
use mathlib.Core.Logic.{◌≢◌}
use mathlib.Core.List.{List, [], ◌∷◌, ◌++◌}
use mathlib.Core.Option.{Option, none, some}
use Prim.Native.Nat.{ℕ, zero, suc, ◌+◌, ◌-◌, ◌≤◌, ◌<◌}
use native.Mathlib.Numerals.{add-one}
use native.Mathlib.Omega.{arith}
use lib.Dec.{eqb, ltb}
use lib.ListN.{length, take, drop, get_or, length-append, length-take, length-drop}
use lib.Seq.{take_all, take-append_seam, drop-append-add}
use borrow.Author.Tests.{eq-eqb, ne_eqb, lt-ltb, le-ltb}
use Rattle.std.specs.List.{position, position_or_len}
use Rattle.std.specs.declared.option.Option.TheVariants.{Some, None}
use Rattle.listing.proofs.Numbers.{either, below?, same?}
use Rattle.text_numbers.specs.Decimal.{digits_of}
use Rattle.text_numbers.proofs.Shape.{digits_decimal}
use Rattle.text_keys.specs.Answers.{found_is}
use Rattle.text_keys.specs.Parts.{later, first_of, Parts, around, cut}

-- ---- the first byte

-- it is the one in front
first-here : (b x : ℕ) (t : List ℕ) → x ≡ b → first_of b (x ∷ t) ≡ some 0
unfolding first_of
first-here b x t e = rw (eq-eqb x b e)

-- or one later than in the rest
first-later : (b x : ℕ) (t : List ℕ) → x ≢ b → first_of b (x ∷ t) ≡ later (first_of b t)
unfolding first_of
first-later b x t e = rw (ne_eqb x b e)

-- what comes one place later is there, and not in front
no-later : (o : Option ℕ) → later o ≡ none → o ≡ none
no-later none e = refl
no-later (some k) e = absurd (true≢false (cc))

-- a text without b has no b in front, and none in its rest
first_absent : (b x : ℕ) (t : List ℕ) → first_of b (x ∷ t) ≡ none → (x ≢ b) × (first_of b t ≡ none)
first_absent b x t e =
    either (same? x b)
    (λ q. absurd (true≢false (let g = sym (first-here b x t q) ∙ e in cc)))
    (λ q. (q, no-later (first_of b t) (sym (first-later b x t q) ∙ e)))

-- a text has no b if none of its bytes is b
pub first-none : (b : ℕ) (t : List ℕ) → ((j : ℕ) → j < length t → get_or t j 0 ≢ b) → first_of b t ≡ none
unfolding first_of
first-none b [] h = refl
first-none b (x ∷ t) h = first-later b x t (h 0 (omega arith)) ∙ ap later (first-none b t (λ j l. h (suc j) (omega arith)))

-- and neither has one that is put together of two without b
pub first-append : (b : ℕ) (s t : List ℕ) → first_of b s ≡ none → first_of b t ≡ none → first_of b (s ++ t) ≡ none
first-append b [] t e f = f
first-append b (x ∷ s) t e f = let a = first_absent b x s e in first-later b x (s ++ t) a.0 ∙ ap later (first-append b s t a.1 f)

-- no byte below `0` is in a number's text
pub digits-clear : (b n : ℕ) → b < 48 → first_of b (digits_of n) ≡ none
digits-clear b n h = first-none b (digits_of n) (λ j l e. omega (arith, (digits_decimal n).digits j l))

-- the first b after a text without b
first-seam : (b : ℕ) (s t : List ℕ) → first_of b s ≡ none → first_of b (s ++ (b ∷ t)) ≡ some (length s)
first-seam b [] t e = first-here b b t refl
first-seam b (x ∷ s) t e = let a = first_absent b x s e in first-later b x (s ++ (b ∷ t)) a.0 ∙ ap later (first-seam b s t a.1)

-- ---- cut

-- a text without b, then b, then any text is cut there
pub cut-joined : (b : ℕ) (s t : List ℕ) → first_of b s ≡ none → cut b (s ++ (b ∷ t)) ≡ some (record { front = s; rest = t })
cut-joined b s t e =
    let l : suc (length s) ≡ length s + 1 = sym (add-one (length s)) in
    let f : take (length s) (s ++ (b ∷ t)) ≡ s = take-append_seam s (b ∷ t) in
    let r : drop (suc (length s)) (s ++ (b ∷ t)) ≡ t = ap (λ k. drop k (s ++ (b ∷ t))) l ∙ drop-append-add s (b ∷ t) 1 in
    ap (around (s ++ (b ∷ t))) (first-seam b s t e) ∙ (λ i. some (record { front = f i; rest = r i }))

-- a text cut at b is the parts with b between them, and the front has no b
pub record CutAt (b : ℕ) (t : List ℕ) (p : Parts) : Type 0 where
  pub whole : t ≡ p.front ++ (b ∷ p.rest)
  pub clear : first_of b p.front ≡ none

-- the parts at a place k, where k is the first
parts_at : (b : ℕ) (t : List ℕ) (k : ℕ) → first_of b t ≡ some k → CutAt b t (record { front = take k t; rest = drop (suc k) t })
unfolding first_of
parts_at b [] k e = absurd (true≢false (cc))
parts_at b (x ∷ t) k e =
    either (same? x b)
    (λ q. in-front k q (sym (first-here b x t q) ∙ e))
    (λ q. behind k q (first_of b t) (λ j f. parts_at b t j f) (sym (first-later b x t q) ∙ e))
  where
    in-front : (k : ℕ) → x ≡ b → some 0 ≡ some k → CutAt b (x ∷ t) (record { front = take k (x ∷ t); rest = drop (suc k) (x ∷ t) })
    in-front zero q e = record { whole = ap (λ y. y ∷ t) q; clear = refl }
    in-front (suc k) q e = absurd (true≢false (cc))

    behind : (k : ℕ) → x ≢ b → (o : Option ℕ) → ((j : ℕ) → o ≡ some j → CutAt b t (record { front = take j t; rest = drop (suc j) t })) → later o ≡ some k
        → CutAt b (x ∷ t) (record { front = take k (x ∷ t); rest = drop (suc k) (x ∷ t) })
    behind k q none h e = absurd (true≢false (cc))
    behind zero q (some j) h e = absurd (true≢false (cc))
    behind (suc k) q (some j) h e =
        let c = h k (cc) in
        record { whole = ap (λ r. x ∷ r) c.whole; clear = first-later b x (take k t) q ∙ ap later c.clear }

pub cut_parts : (b : ℕ) (t : List ℕ) (p : Parts) → cut b t ≡ some p → CutAt b t p
cut_parts b t p e = by (first_of b t) refl e
  where
    by : (o : Option ℕ) → first_of b t ≡ o → around t o ≡ some p → CutAt b t p
    by none f e = absurd (true≢false (cc))
    by (some k) f e = subst (CutAt b t) (cc) (parts_at b t k f)

-- the first b of a text stands inside it
pub first-inside : (b : ℕ) (t : List ℕ) (k : ℕ) → first_of b t ≡ some k → k < length t
first-inside b t k e =
    let w = (parts_at b t k e).whole in
    omega (arith, ap length w, length-append (take k t) (b ∷ drop (suc k) t), length-take k t)

-- the part of a text from a place to its end
pub to_the_end : (t : List ℕ) (at : ℕ) → take (length t - at) (drop at t) ≡ drop at t
to_the_end t at = take_all (length t - at) (drop at t) (omega (arith, length-drop at t))

-- ---- where the library finds it

-- a place that the library gives in n bytes, and one place later in one byte more
found-later : (k n : ℕ) → found_is (cond (ltb (1 + k) (suc n)) (Some (1 + k)) None) ≡ later (found_is (cond (ltb k n) (Some k) None))
found-later k n =
    either (below? k n)
    (λ h. let h' : 1 + k < suc n = omega arith in rw (lt-ltb k n h, lt-ltb (1 + k) (suc n) h') (ap some (omega arith)))
    (λ h. let h' : suc n ≤ 1 + k = omega arith in rw (le-ltb k n h, le-ltb (1 + k) (suc n) h'))

-- the library's `position` of a byte b is the place of the first
pub first_of_is : (b : ℕ) (t : List ℕ) → found_is (position (λ x. eqb x b) t) ≡ first_of b t
unfolding first_of
first_of_is b [] = refl
first_of_is b (x ∷ t) =
    either (same? x b)
    (λ e. rw (eq-eqb x b e, lt-ltb 0 (length (x ∷ t)) (omega arith)))
    (λ d. rw (ne_eqb x b d) (found-later (position_or_len (λ y. eqb y b) t) (length t) ∙ ap later (first_of_is b t)))
