-- The steps A(i) and B(i), and the step back from B, done in one lent array: what a store changes, and what each loop ends with.
-- Assumes nothing.
use mathlib.Core.Path.{◌≡◌, sym, ap, ◌∙◌}
use mathlib.Core.Logic.{◌≢◌}
use mathlib.Core.List.{List}
use Prim.Native.Nat.{ℕ, suc, ◌≤◌, ◌<◌}
use native.Mathlib.Omega.{arith}
use lib.ListN.{length, take, set, length-set}
use lib.Seq.{length-take-le}
use Rattle.listing.specs.Numbers.{Among, is, trade, raise, lower}
use Rattle.listing.specs.Pattern.{entry, tabulate, Permutation}
use Rattle.listing.specs.Steps.{step_a, step_b, un_b, by_step_a, by_step_b, by_back_b}
use Rattle.listing.proofs.Numbers.{either, same?, is_same, is-cases, trade-cases, raise-near, lower-cases, lower-among}
use Rattle.listing.proofs.Panels.{entry-take, entry-same, entry_other, is-tabulated}
use Rattle.listing_course.specs.InPlace.{Changing, Raising, Lowering}

-- an array of n places or more begins with a tabulated panel if it does so at each jack
pub front : (n : ℕ) (g : ℕ → ℕ) (a : List ℕ) → n ≤ length a → ((j : ℕ) → Among n j → entry a j ≡ g j) → take n a ≡ tabulate n g
front n g a h each =
    sym (is-tabulated n g (take n a) (length-take-le n a h) (λ j b. sym (entry-take n a j b.1 ∙ each j b)))

-- ---- one store

-- the port of jack k + 1 is stored: that jack is done, and left no more
pub changed : {g : ℕ → ℕ} {t a : List ℕ} {Done Left Done' Left' : ℕ → Type 0} (k v : ℕ) → Changing g t Done Left a → k < length a → v ≡ g (suc k)
    → ((x : ℕ) → Done' x → x ≢ suc k → Done x) → ((x : ℕ) → Left' x → Left x × (x ≢ suc k)) → Changing g t Done' Left' (set a k v)
changed {a = a} k v s room e more fewer =
    record {
      done = λ x h. either (same? x (suc k)) (λ c. rw c (entry-same a k v room ∙ e)) (λ c. entry_other a k v x c ∙ s.done x (more x h c));
      left = λ x h. let l = fewer x h in entry_other a k v x l.1 ∙ s.left x l.0;
    }

-- ---- A(i)

-- with jack y + 1, which holds i: n there, and i after all
pub A-stored : {m i : ℕ} (a : List ℕ) (y : ℕ) → Permutation m (take m a) → suc m ≤ length a → y < m → entry a (suc y) ≡ i
    → take (suc m) (set (set a y (suc m)) m i) ≡ step_a (suc m) i (take m a)
unfolding step_a
A-stored {m = m} {i = i} a y P room h held = front n (by_step_a n i t) (set b m i) (simp length-set room) each
  where
    n : ℕ
    n = suc m

    t : List ℕ
    t = take m a

    b : List ℕ
    b = set a y n

    inner : (j : ℕ) → Among m j → entry b j ≡ trade i n (entry t j)
    inner j k =
        let tj = entry-take m a j k.1 in
        either (trade-cases i n (entry t j))
        (λ c.
        let e : j ≡ suc y = P.apart j (suc y) k (omega arith) (c.0 ∙ sym (entry-take m a (suc y) h ∙ held)) in
        rw (c.1, e) (entry-same a y n (omega arith)))
        (λ c. entry_other a y n j (λ e. c.0 (tj ∙ ap (entry a) e ∙ held)) ∙ sym tj ∙ sym c.1)

    each : (j : ℕ) → Among n j → entry (set b m i) j ≡ by_step_a n i t j
    each j k =
        either (is-cases j n i (trade i n (entry t j)))
        (λ c. rw (c.1, c.0) (entry-same b m i (simp length-set room)))
        (λ c. entry_other b m i j c.0 ∙ inner j (omega (arith, c.0)) ∙ sym c.1)

-- ---- B(i), from the last jack down

-- at first no jack is done
pub raising-start : (m i : ℕ) (a : List ℕ) → Raising (suc (suc m)) i (take m a) (suc (suc m)) a
raising-start m i a = record { done = λ x h. absurd (omega arith); left = λ x h. sym (entry-take m a x h.1) }

-- the port of jack j by the array as it stands is that by t: the jack from which it comes is none above j
pub raising-port : (m i j : ℕ) (t a : List ℕ) → Raising (suc (suc m)) i t j a → Among (suc m) i → Among (suc (suc m)) j
    → by_step_b (suc (suc m)) i a j ≡ by_step_b (suc (suc m)) i t j
raising-port m i j t a s fits h =
    let n = suc (suc m) in
    either (same? j n) (λ e. is_same j n i _ e ∙ sym (is_same j n i _ e)) (λ d.
    either (same? j i) (λ e. rw (is_same j i n (raise i (entry a (lower i j))) e, is_same j i n (raise i (entry t (lower i j))) e)) (λ f.
    let from = lower-among m i j fits (omega arith) f in
    let low : lower i j ≤ j = either (lower-cases i j) (λ c. omega arith) (λ c. omega arith) in
    ap (λ (v : ℕ). is j n i (is j i n (raise i v))) (s.left (lower i j) (omega arith))))

-- after the first jack the array begins with the pattern
pub raising-end : (m i : ℕ) (t a : List ℕ) → Raising (suc (suc m)) i t 0 a → suc (suc m) ≤ length a → take (suc (suc m)) a ≡ step_b (suc (suc m)) i t
unfolding step_b
raising-end m i t a s room = front (suc (suc m)) (by_step_b (suc (suc m)) i t) a room (λ j h. s.done j h)

-- ---- back from B, from the first jack on

pub lowering-start : (m : ℕ) (a : List ℕ) → Lowering (suc (suc m)) (take (suc (suc m)) a) 0 a
lowering-start m a = record { done = λ x h. absurd (omega arith); left = λ x h. sym (entry-take (suc (suc m)) a x h.1) }

-- the port of jack j + 1 by the array as it stands is that by p: the last jack is never written, and the jack from which the port comes is none before
pub lowering-port : (m j : ℕ) (p a : List ℕ) → Lowering (suc (suc m)) p j a → j < m → by_back_b (suc (suc m)) a (suc j) ≡ by_back_b (suc (suc m)) p (suc j)
lowering-port m j p a s h =
    let n = suc (suc m) in
    let last = s.left n (omega arith) in
    let near = raise-near (entry p n) (suc j) in
    rw last (ap (lower (entry p n)) (s.left (raise (entry p n) (suc j)) (omega arith)))

pub lowering-end : (m : ℕ) (p a : List ℕ) → Lowering (suc (suc m)) p m a → m ≤ length a → take m a ≡ un_b (suc (suc m)) p
unfolding un_b
lowering-end m p a s room = front m (by_back_b (suc (suc m)) p) a room s.done
