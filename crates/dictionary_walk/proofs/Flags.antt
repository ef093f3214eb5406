-- The free ports by their flags: what is free, what is taken out, what the free ports before a port come to, and in whose share a number falls.
-- Assumes nothing.
use mathlib.Core.Path.{◌≡◌, refl, sym, ap, ◌∙◌}
use mathlib.Core.Logic.{◌≢◌, inl, inr}
use mathlib.Core.Bool.{Bool, true, false, true≢false, cond}
use mathlib.Core.List.{List, [], ◌∷◌}
use Prim.Native.Nat.{ℕ, zero, suc, ◌+◌, ◌-◌, ◌≤◌, ◌<◌}
use native.Mathlib.Decide.{le_ind}
use native.Mathlib.Numerals.{add-one}
use native.Mathlib.Omega.{arith}
use lib.ListN.{length, get_or, set, replicate, get_or-replicate}
use lib.Seq.{get_or-set_same, get_or-set_other}
use Rattle.listing.specs.Numbers.{before}
use Rattle.listing.proofs.Numbers.{either, test, below?, same?}
use Rattle.listing_dictionary.specs.Free.{ports, without}
use Rattle.listing_dictionary.specs.Number.{passed, chosen, within}
use Rattle.listing_dictionary.proofs.Lists.{Has}
use Rattle.listing_dictionary.proofs.Free.{has_on, without-here, without_on}
use Rattle.listing_dictionary.proofs.Walk.{total, passed_here, passed_on, chosen-here, chosen_on}
use Rattle.dictionary_walk.specs.Free.{frees}

-- ---- the next port is free or taken

frees-taken : (t : List Bool) (i m : ℕ) → get_or t i false ≡ true → frees t i (suc m) ≡ frees t (suc i) m
unfolding frees
frees-taken t i m e = rw e

frees-free : (t : List Bool) (i m : ℕ) → get_or t i false ≡ false → frees t i (suc m) ≡ suc i ∷ frees t (suc i) m
unfolding frees
frees-free t i m e = rw e

-- at first all are free
pub frees-first : (k i m : ℕ) → i + m ≤ k → frees (replicate k false) i m ≡ ports i m
unfolding frees ports
frees-first k i zero h = refl
frees-first k i (suc m) h =
    frees-free (replicate k false) i m (get_or-replicate k i false false (omega arith)) ∙ ap (λ (l : List ℕ). suc i ∷ l) (frees-first k (suc i) m (omega arith))

-- what is free is one of the ports, and its flag says so
pub has-frees : (t : List Bool) (i m x : ℕ) → Has x (frees t i m) → (i < x) × (x ≤ i + m) × (get_or t (before x) false ≡ false)
unfolding frees
has-frees t i zero x h = absurd h
has-frees t i (suc m) x h =
    either (test (get_or t i false))
    (λ e. let c = has-frees t (suc i) m x (rw (frees-taken t i m e) at h) in (omega (arith, c.0), omega (arith, c.1), c.2))
    (λ e.
    either (rw (frees-free t i m e) at h)
    (λ f. (omega arith, omega arith, ap (λ (k : ℕ). get_or t (before k) false) f ∙ e))
    (λ g. let c = has-frees t (suc i) m x g in (omega (arith, c.0), omega (arith, c.1), c.2)))

pub frees-has : (t : List Bool) (i m x : ℕ) → i ≤ x → x < i + m → get_or t x false ≡ false → Has (suc x) (frees t i m)
frees-has t i zero x a b f = absurd (omega arith)
frees-has t i (suc m) x a b f =
    either (test (get_or t i false))
    (λ e.
    rw (frees-taken t i m e)
    (either (same? x i) (λ s. absurd (true≢false (sym e ∙ ap (λ (k : ℕ). get_or t k false) (sym s) ∙ f))) (λ ne. frees-has t (suc i) m x (omega arith) (omega arith) f)))
    (λ e. rw (frees-free t i m e) (either (same? x i) (λ s. inl (ap suc s)) (λ ne. inr (frees-has t (suc i) m x (omega arith) (omega arith) f))))

-- ---- a port is taken

-- a port that is not there is not taken out
absent : (x : ℕ) (ys : List ℕ) → (Has x ys → ⊥) → without x ys ≡ ys
unfolding without
absent x [] none = refl
absent x (y ∷ ys) none = without_on x y ys (λ e. none (inl (sym e))) ∙ ap (λ (l : List ℕ). y ∷ l) (absent x ys (λ h. none (inr h)))

pub frees-set : (t : List Bool) (x i m : ℕ) → x < length t → frees (set t x true) i m ≡ without (suc x) (frees t i m)
unfolding frees without
frees-set t x i zero h = refl
frees-set t x i (suc m) h =
    either (same? i x)
    (λ s.
    let gone : get_or (set t x true) i false ≡ true = rw s (get_or-set_same t x true false h) in
    let later : without (suc x) (frees t (suc i) m) ≡ frees t (suc i) m = absent (suc x) (frees t (suc i) m) (λ g. omega (arith, (has-frees t (suc i) m (suc x) g).0)) in
    frees-taken (set t x true) i m gone ∙ frees-set t x (suc i) m h ∙ later
    ∙ either (test (get_or t i false))
    (λ e. sym (ap (without (suc x)) (frees-taken t i m e) ∙ later))
    (λ e. sym (ap (without (suc x)) (frees-free t i m e) ∙ without-here (suc x) (suc i) (frees t (suc i) m) (ap suc s))))
    (λ ne.
    let kept : get_or (set t x true) i false ≡ get_or t i false = get_or-set_other t x i true false ne in
    either (test (get_or t i false))
    (λ e.
    frees-taken (set t x true) i m (kept ∙ e) ∙ frees-set t x (suc i) m h ∙ ap (without (suc x)) (sym (frees-taken t i m e)))
    (λ e.
    frees-free (set t x true) i m (kept ∙ e) ∙ ap (λ (l : List ℕ). suc i ∷ l) (frees-set t x (suc i) m h)
    ∙ sym (without_on (suc x) (suc i) (frees t (suc i) m) (λ s. ne (omega arith)))
    ∙ ap (without (suc x)) (sym (frees-free t i m e))))

-- ---- what the ports come to

module _ (size : ℕ → ℕ) (t : List Bool) where
  -- what port i + 1 comes to: nothing if it is taken
  abbrev pub comes : ℕ → ℕ
  comes i = cond (get_or t i false) 0 (size (suc i))

  -- the first of the ports, and the others
  total_first : (i m : ℕ) → total size (frees t i (suc m)) ≡ comes i + total size (frees t (suc i) m)
  unfolding total
  total_first i m =
      either (test (get_or t i false)) (λ e. rw (frees-taken t i m e, e) (omega arith)) (λ e. rw (frees-free t i m e, e))

  -- the ports up to one, and that one
  total-last : (i m k : ℕ) → i + m ≡ k → total size (frees t i (suc m)) ≡ total size (frees t i m) + comes k
  unfolding total frees
  total-last i zero k s = let z : i ≡ k = omega arith in total_first i 0 ∙ rw z (omega arith)
  total-last i (suc m) k s = omega (arith, total_first i (suc m), total_first i m, total-last (suc i) m k (omega arith))

  -- more ports do not come to less
  total-grows : (m k : ℕ) → m ≤ k → total size (frees t 0 m) ≤ total size (frees t 0 k)
  total-grows m k h =
      le_ind (λ (x : ℕ). total size (frees t 0 m) ≤ total size (frees t 0 x)) (omega arith) (λ x a b. omega (arith, total-last 0 x x (omega arith))) k h

  -- a sum over the first y ports, and the next: what y + 1 ports come to, and no more than k ports do
  pub total-turn : (y k sum share : ℕ) → sum ≡ total size (frees t 0 y) → share ≡ cond (get_or t y false) 0 (size (y + 1)) → y + 1 ≤ k
      → (sum + share ≡ total size (frees t 0 (y + 1))) × (sum + share ≤ total size (frees t 0 k))
  total-turn y k sum share e f h =
      let both : sum + share ≡ total size (frees t 0 (suc y)) = omega (arith, total-last 0 y y (omega arith), rw add-one at f) in
      (rw add-one both, omega (arith, total-grows (suc y) k (omega arith)))

  -- what is passed over before a free port: all free ports below it
  passed-total : (i m d x : ℕ) → i + d ≡ x → Has (suc x) (frees t i m) → passed size (frees t i m) (suc x) ≡ total size (frees t i d)
  unfolding frees total
  passed-total i zero d x s h = absurd h
  passed-total i (suc m) zero x s h =
      let first : i ≡ x = omega arith in
      either (test (get_or t i false))
      (λ e. absurd (omega (arith, (has-frees t (suc i) m (suc x) (rw (frees-taken t i m e) at h)).0)))
      (λ e. rw (frees-free t i m e) (passed_here size (suc x) (suc i) (frees t (suc i) m) (ap suc first)))
  passed-total i (suc m) (suc d) x s h =
      let ne : suc i ≢ suc x = λ e. omega arith in
      either (test (get_or t i false))
      (λ e. rw (frees-taken t i m e, frees-taken t i d e) (passed-total (suc i) m d x (omega arith) (rw (frees-taken t i m e) at h)))
      (λ e.
      rw (frees-free t i m e, frees-free t i d e)
      (passed_on size (suc x) (suc i) (frees t (suc i) m) ne
      ∙ ap (λ (k : ℕ). size (suc i) + k) (passed-total (suc i) m d x (omega arith) (has_on (suc x) (suc i) (frees t (suc i) m) ne (rw (frees-free t i m e) at h)))))

  pub passed-before : (n port : ℕ) → Has port (frees t 0 n) → passed size (frees t 0 n) port ≡ total size (frees t 0 (port - 1))
  passed-before n port h =
      let e : suc (port - 1) ≡ port = omega (arith, (has-frees t 0 n port h).0) in
      rw e at (passed-total 0 n (port - 1) (port - 1) (omega arith) (rw e h))

  -- ---- in whose share a number falls

  -- what is left of the number falls among the m ports after the first i as the number does among all n
  pub record Seeks (n number i m rest : ℕ) : Type 0 where
    pub reach : i + m ≡ n
    pub port : chosen size (frees t 0 n) number ≡ chosen size (frees t i m) rest
    pub inside : within size (frees t 0 n) number ≡ within size (frees t i m) rest
    pub below : rest < total size (frees t i m)

  pub seeks-first : (n number : ℕ) → number < total size (frees t 0 n) → Seeks n number 0 (n - 0) number
  seeks-first n number h = let z : n - 0 ≡ n = omega arith in rw z (record { reach = omega arith; port = refl; inside = refl; below = h })

  -- it falls in the share of the next port
  seeks-here : (n number i m rest : ℕ) → Seeks n number i (suc m) rest → rest < comes i
      → (suc i ≡ chosen size (frees t 0 n) number) × (rest ≡ within size (frees t 0 n) number)
  seeks-here n number i m rest S h =
      either (test (get_or t i false))
      (λ e. absurd (let z : rest < 0 = rw e at h in omega arith))
      (λ e.
      let free = frees-free t i m e in
      let here = chosen-here size (suc i) (frees t (suc i) m) rest (rw e at h) in
      (sym (S.port ∙ ap (λ (l : List ℕ). chosen size l rest) free ∙ here.0), sym (S.inside ∙ ap (λ (l : List ℕ). within size l rest) free ∙ here.1)))

  -- as it must where that is the last
  seeks-last : (n number i rest : ℕ) → Seeks n number i 1 rest → rest < comes i
  unfolding frees total
  seeks-last n number i rest S = omega (arith, S.below, total_first i 0)

  -- or further on
  seeks-on : (n number i m rest : ℕ) → Seeks n number i (suc m) rest → comes i ≤ rest → Seeks n number (suc i) m (rest - comes i)
  seeks-on n number i m rest S h =
      let less : rest - comes i < total size (frees t (suc i) m) = omega (arith, S.below, total_first i m) in
      either (test (get_or t i false))
      (λ e.
      let same : rest - comes i ≡ rest = rw e (omega arith) in
      record {
        reach = omega (arith, S.reach);
        port = S.port ∙ rw (frees-taken t i m e, same);
        inside = S.inside ∙ rw (frees-taken t i m e, same);
        below = less;
      })
      (λ e.
      let free = frees-free t i m e in
      let on = chosen_on size (suc i) (frees t (suc i) m) rest (rw e at h) in
      record {
        reach = omega (arith, S.reach);
        port = S.port ∙ ap (λ (l : List ℕ). chosen size l rest) free ∙ on.0 ∙ rw e;
        inside = S.inside ∙ ap (λ (l : List ℕ). within size l rest) free ∙ on.1 ∙ rw e;
        below = less;
      })

  -- the same turn by turn: after y ports, where the next comes to `share`
  module _ (n number y rest share : ℕ) (S : Seeks n number y (n - y) rest) where
    ahead : y < n → Seeks n number y (suc (n - suc y)) rest
    ahead more = let e : n - y ≡ suc (n - suc y) = omega arith in rw e at S

    pub turn-here : y < n → share ≡ cond (get_or t y false) 0 (size (y + 1)) → rest < share
        → (y + 1 ≡ chosen size (frees t 0 n) number) × (rest ≡ within size (frees t 0 n) number)
    turn-here more e h = rw add-one (seeks-here n number y (n - suc y) rest (ahead more) (rw (e, add-one) at h))

    pub turn_on : y < n → share ≡ cond (get_or t y false) 0 (size (y + 1)) → share ≤ rest → Seeks n number (y + 1) (n - (y + 1)) (rest - share)
    turn_on more e h = rw (e, add-one) (seeks-on n number y (n - suc y) rest (ahead more) (rw (e, add-one) at h))

    -- no turn is left: it is the last port
    pub turn_last : n ≤ y + 1 → (n ≡ chosen size (frees t 0 n) number) × (rest ≡ within size (frees t 0 n) number)
    unfolding frees total
    turn_last end =
        either (below? y n)
        (λ more.
        let one : n - y ≡ 1 = omega arith in
        let last : n ≡ suc y = omega arith in
        let A = rw one at S in
        let c = seeks-here n number y 0 rest A (seeks-last n number y rest A) in
        (last ∙ c.0, c.1))
        (λ none. absurd (let z : n - y ≡ 0 = omega arith in let b : rest < 0 = rw z at S.below in omega arith))
