-- Laws of the shares: where each begins, that together they are all, that they are fair, and that no others are.
-- Assumes nothing.
use mathlib.Core.Path.{◌≡◌, refl, sym, ap, ◌∙◌}
use mathlib.Core.Logic.{◌⊎◌, inl, inr, ◌↔◌}
use mathlib.Core.List.{[], ◌∷◌, map}
use Prim.Native.Nat.{ℕ, zero, suc, ◌+◌, ◌*◌, ◌/◌, ◌%◌, ◌≤◌, ◌<◌}
use native.Mathlib.Nat.{mod-lt, mod-eq_of_lt, div-eq_of_lt, div-add-mod, mul-add-div, mul-add-mod_self_left, mul-zero}
use native.Mathlib.Omega.{arith}
use lib.Dec.{ltb}
use borrow.Author.Tests.{lt-ltb, le-ltb}
use Rattle.listing.proofs.Numbers.{either, below?, same?}
use Rattle.promise.specs.Campaign.{tick}
use Rattle.benches_laws.specs.Shares.{together, share, begins, Fair}

-- ---- bench after bench

-- what agrees for each bench agrees together
pub together-same : (f g : ℕ → ℕ) (k : ℕ) → ((b : ℕ) → b < k → f b ≡ g b) → together f k ≡ together g k
unfolding together
together-same f g zero h = refl
together-same f g (suc k) h = omega (arith, together-same f g k (λ b l. h b (omega arith)), h k (omega arith))

-- sums of two things, bench by bench
pub together-plus : (f g : ℕ → ℕ) (k : ℕ) → together (λ b. f b + g b) k ≡ together f k + together g k
unfolding together
together-plus f g zero = refl
together-plus f g (suc k) = omega (arith, together-plus f g k)

-- as many for each bench
pub together-alike : (m k : ℕ) → together (λ b. m) k ≡ m * k
unfolding together
together-alike m zero = omega arith
together-alike m (suc k) = omega (arith, together-alike m k)

-- what is no more for each bench is no more together
pub together-most : (f g : ℕ → ℕ) (k : ℕ) → ((b : ℕ) → b < k → f b ≤ g b) → together f k ≤ together g k
unfolding together
together-most f g zero h = omega arith
together-most f g (suc k) h = omega (arith, together-most f g k (λ b l. h b (omega arith)), h k (omega arith))

-- and of fewer benches too
pub together-rising : (f : ℕ → ℕ) (j k : ℕ) → j ≤ k → together f j ≤ together f k
unfolding together
together-rising f j zero h = let e : j ≡ 0 = omega arith in rw e (omega arith)
together-rising f j (suc k) h =
    either (below? k j)
    (λ l. let e : j ≡ suc k = omega arith in rw e (omega arith))
    (λ l. omega (arith, together-rising f j k l))

-- ---- equal shares and what is left over

-- so many have one more
abbrev stepped : ℕ → ℕ → ℕ → ℕ
stepped each over b = each + tick (ltb b over)

-- the first benches, none of which is without its one more, or all of which that have it are among
stepped-front : (each over k : ℕ) → k ≤ over → together (stepped each over) k ≡ k * each + k
unfolding together
stepped-front each over zero h = omega arith
stepped-front each over (suc k) h = omega (arith, stepped-front each over k (omega arith), ap tick (lt-ltb k over (omega arith)))

stepped-back : (each over k : ℕ) → over ≤ k → together (stepped each over) k ≡ k * each + over
unfolding together
stepped-back each over zero h = omega arith
stepped-back each over (suc k) h =
    either (below? k over)
    (λ l. let e : over ≡ suc k = omega arith in stepped-front each over (suc k) (omega arith) ∙ omega arith)
    (λ l. omega (arith, stepped-back each over k l, ap tick (le-ltb k over l)))

module _ (total benches : ℕ) (some : 0 < benches) where
  -- a share begins after so many equal ones, and after one more for each bench before it that has it: all that have it, or each of those before it
  pub begins-back : (b : ℕ) → total % benches ≤ b → begins total benches b ≡ b * (total / benches) + total % benches
  unfolding share
  begins-back b h = stepped-back (total / benches) (total % benches) b h

  pub begins-front : (b : ℕ) → b ≤ total % benches → begins total benches b ≡ b * (total / benches) + b
  unfolding share
  begins-front b h = stepped-front (total / benches) (total % benches) b h

  -- the shares are all the marks
  pub all-shared : begins total benches benches ≡ total
  all-shared = begins-back benches (omega (arith, mod-lt total some)) ∙ div-add-mod total benches

  -- each ends within them
  pub share-ends : (b : ℕ) → b < benches → begins total benches b + share total benches b ≤ total
  unfolding together
  share-ends b h = omega (arith, all-shared, together-rising (share total benches) (suc b) benches h)

  -- where it begins is within them, too
  pub begins-most : (b : ℕ) → b ≤ benches → begins total benches b ≤ total
  begins-most b h = omega (arith, all-shared, together-rising (share total benches) b benches h)

-- a bench among those that have one more, and another
pub share-more : (total benches b : ℕ) → b < total % benches → share total benches b ≡ total / benches + 1
unfolding share
share-more total benches b h = rw (lt-ltb b (total % benches) h) refl

pub share-each : (total benches b : ℕ) → total % benches ≤ b → share total benches b ≡ total / benches
unfolding share
share-each total benches b h = omega (arith, ap tick (le-ltb b (total % benches) h))

-- what one more or not adds
tick-bounds : (b over : ℕ) → tick (ltb b over) ≤ 1
tick-bounds b over = either (below? b over) (λ l. omega (arith, ap tick (lt-ltb b over l))) (λ l. omega (arith, ap tick (le-ltb b over l)))

tick-falls : (b c over : ℕ) → b ≤ c → tick (ltb c over) ≤ tick (ltb b over)
tick-falls b c over h =
    either (below? c over)
    (λ l. omega (arith, ap tick (lt-ltb c over l), ap tick (lt-ltb b over (omega arith))))
    (λ l. omega (arith, ap tick (le-ltb c over l)))

-- ---- the shares are fair

pub shares-fair : (total benches : ℕ) → 0 < benches → Fair total benches (share total benches)
unfolding share
shares-fair total benches some = record {
  all = all-shared total benches some;
  near = λ b c h k. omega (arith, tick-bounds b (total % benches), tick-bounds c (total % benches));
  larger = λ b c h k. omega (arith, tick-falls b c (total % benches) h);
}

-- ---- none

-- a bench has no marks exactly if its number is not below how many there are
pub share-none : (total benches b : ℕ) → b < benches → (share total benches b ≡ 0) ↔ (total ≤ b)
unfolding share
share-none total benches b h = (there, back)
  where
    back : total ≤ b → total / benches + tick (ltb b (total % benches)) ≡ 0
    back l =
        let none : total / benches ≡ 0 = div-eq_of_lt (omega arith) in
        let all : total % benches ≡ total = mod-eq_of_lt (omega arith) in
        omega (arith, ap tick (le-ltb b (total % benches) (omega arith)))

    there : total / benches + tick (ltb b (total % benches)) ≡ 0 → total ≤ b
    there e =
        let none : total / benches ≡ 0 = omega arith in
        let all : total ≡ total % benches = sym (div-add-mod total benches) ∙ rw none (omega (arith, mul-zero benches)) in
        either (below? b (total % benches))
        (λ l. absurd (omega (arith, ap tick (lt-ltb b (total % benches) l))))
        (λ l. omega arith)

-- ---- and no others are

-- shares that never rise and are `each` or one more: the first `over` have it, and together they are so many
record Steps (s : ℕ → ℕ) (each k : ℕ) : Type 0 where
  over : ℕ
  few : over ≤ k
  so : (b : ℕ) → b < k → s b ≡ stepped each over b

-- one bench more, with `each` or with one more
steps-same : (s : ℕ → ℕ) (each k : ℕ) (S : Steps s each k) → s k ≡ each → (b : ℕ) → b < suc k → s b ≡ stepped each S.over b
steps-same s each k S e b h =
    either (below? b k)
    (λ l. S.so b l)
    (λ l. let at : b ≡ k = omega arith in rw at (omega (arith, ap tick (le-ltb k S.over S.few))))

steps-more : (s : ℕ → ℕ) (each k : ℕ) (S : Steps s each k) → ((b c : ℕ) → b ≤ c → c < suc k → s c ≤ s b) → s k ≡ suc each
    → (b : ℕ) → b < suc k → s b ≡ stepped each (suc k) b
steps-more s each k S falls e b h =
    either (below? b k)
    (λ l.
    let here : s b ≡ stepped each S.over b = S.so b l in
    either (below? b S.over)
    (λ m. omega (arith, ap tick (lt-ltb b S.over m), ap tick (lt-ltb b (suc k) h)))
    (λ m. absurd (omega (arith, ap tick (le-ltb b S.over m), falls b k (omega arith) (omega arith)))))
    (λ l. let at : b ≡ k = omega arith in rw at (omega (arith, ap tick (lt-ltb k (suc k) (omega arith)))))

steps : (s : ℕ → ℕ) (each k : ℕ) → ((b : ℕ) → b < k → (s b ≡ each) ⊎ (s b ≡ suc each)) → ((b c : ℕ) → b ≤ c → c < k → s c ≤ s b) → Steps s each k
steps s each zero near falls = record { over = 0; few = omega arith; so = λ b h. absurd (omega arith) }
steps s each (suc k) near falls =
    let S : Steps s each k = steps s each k (λ b h. near b (omega arith)) (λ b c h l. falls b c h (omega arith)) in
    either (near k (omega arith))
    (λ e. record { over = S.over; few = omega (arith, S.few); so = steps-same s each k S e })
    (λ e. record { over = suc k; few = omega arith; so = steps-more s each k S falls e })

-- any fair shares are those that are given
pub only-shares : (total benches : ℕ) (s : ℕ → ℕ) → Fair total benches s → (b : ℕ) → b < benches → s b ≡ share total benches b
unfolding share
only-shares total zero s F b h = absurd (omega arith)
only-shares total (suc k) s F b h =
    let each : ℕ = s k in
    let S : Steps s each (suc k) = steps s each (suc k) (λ c l. near c l) F.larger in
    let low : S.over ≤ k = few S in
    let whole : suc k * each + S.over ≡ total =
    sym (stepped-back each S.over (suc k) (omega arith)) ∙ sym (together-same s (stepped each S.over) (suc k) S.so) ∙ F.all in
    let small : S.over / suc k ≡ 0 = div-eq_of_lt (omega arith) in
    let e : total / suc k ≡ each = ap (λ (t : ℕ). t / suc k) (sym whole) ∙ mul-add-div (omega arith) each S.over ∙ omega arith in
    let o : total % suc k ≡ S.over = ap (λ (t : ℕ). t % suc k) (sym whole) ∙ mul-add-mod_self_left (suc k) each S.over ∙ mod-eq_of_lt (omega arith) in
    S.so b h ∙ sym (ap (λ (x : ℕ). x + tick (ltb b (total % suc k))) e ∙ ap (λ (x : ℕ). each + tick (ltb b x)) o)
  where
    near : (c : ℕ) → c < suc k → (s c ≡ s k) ⊎ (s c ≡ suc (s k))
    near c l =
        either (same? (s c) (s k)) inl
        (λ ne. inr (omega (arith, F.near c k l (omega arith), F.larger c k (omega arith) (omega arith))))

    few : (S : Steps s (s k) (suc k)) → S.over ≤ k
    few S = either (below? k S.over) (λ l. absurd (omega (arith, S.so k (omega arith), ap tick (lt-ltb k S.over l)))) (λ l. l)

-- ---- known shares

-- the 265 patterns of 6 ports over 4 benches: how many each has, and where each begins
pub six-over-four : (map (share 265 4) (0 ∷ 1 ∷ 2 ∷ 3 ∷ []) ≡ 67 ∷ 66 ∷ 66 ∷ 66 ∷ []) × (map (begins 265 4) (0 ∷ 1 ∷ 2 ∷ 3 ∷ []) ≡ 0 ∷ 67 ∷ 133 ∷ 199 ∷ [])
unfolding share together
six-over-four = (refl, refl)
