-- A pattern with its inverse: it tells the letter; A and B are taken back on both at once; and it is filled in one pass.
-- Assumes nothing.
use mathlib.Core.Path.{◌≡◌, refl, sym, ap, ◌∙◌}
use mathlib.Core.Logic.{◌≢◌}
use mathlib.Core.List.{List}
use Prim.Native.Nat.{ℕ, suc, ◌≤◌, ◌<◌}
use native.Mathlib.Omega.{arith}
use lib.ListN.{length, take, set, length-set}
use lib.Seq.{length-take-le}
use Rattle.listing.specs.Numbers.{Among, raise, lower}
use Rattle.listing.specs.Pattern.{entry, Permutation, Derangement}
use Rattle.listing.specs.Steps.{by_a, by_b, letter, un_a, un_b, by_back_a, by_back_b}
use Rattle.listing.proofs.Numbers.{either, same?, trade-cases, raise-near, raise-lower, lower-raise, raise-among}
use Rattle.listing.proofs.Panels.{entry-take, entry-same, entry_other, length-tabulate, entry-tabulate}
use Rattle.listing.proofs.Onto.{stands}
use Rattle.listing.proofs.Shorter.{letter-a, letter-b, letter-back}
use Rattle.listing_course.specs.InPlace.{Inverse, Inverted, WithInverse}
use Rattle.listing_course.proofs.InPlace.{front}

-- ---- the inverse

-- it is a list of jacks, and p holds each port there
pub inverse-at : {n : ℕ} {p q : List ℕ} → Permutation n p → Inverse n p q → (v : ℕ) → Among n v → Among n (entry q v) × (entry p (entry q v) ≡ v)
inverse-at {n = n} {p = p} {q = q} P I v h =
    let s = stands n p P v h in
    let e : entry q v ≡ s.0 = ap (entry q) (sym s.2) ∙ I.back s.0 s.1 in
    rw e (s.1, s.2)

-- ---- the letter

-- by B exactly if the last jack and the last port have the same partner
module _ (m : ℕ) {p q : List ℕ} (P : Permutation (suc (suc m)) p) (I : Inverse (suc (suc m)) p q) where
  told-b : entry q (suc (suc m)) ≡ entry p (suc (suc m)) → letter (suc (suc m)) p ≡ by_b
  told-b e =
      let n = suc (suc m) in
      letter-b m p (entry p n) refl (ap (entry p) (sym e) ∙ (inverse-at P I n (omega arith)).1)

  told-a : entry q (suc (suc m)) ≢ entry p (suc (suc m)) → letter (suc (suc m)) p ≡ by_a
  told-a d =
      let n = suc (suc m) in
      letter-a m p (entry p n) refl (λ e. d (ap (entry q) (sym e) ∙ I.back (entry p n) (P.ports n (omega arith))))

-- ---- back from A, on both: i where p holds n, and the jack that held n as that of i

module _ {m : ℕ} (a b : List ℕ) (x y : ℕ) (s : WithInverse (suc (suc m)) a b) (ends : suc x ≡ entry a (suc (suc m))) (holds : suc y ≡ entry b (suc (suc m)))
    (far : x ≢ y) (room : suc (suc m) ≤ length a) (room_back : suc (suc m) ≤ length b) where
  abbrev n : ℕ
  n = suc (suc m)

  abbrev p : List ℕ
  p = take n a

  abbrev q : List ℕ
  q = take n b

  abbrev P : Permutation n p
  P = s.pattern.permutation

  last : entry p n ≡ suc x
  last = entry-take n a n (omega arith) ∙ sym ends

  jack : entry q n ≡ suc y
  jack = entry-take n b n (omega arith) ∙ sym holds

  -- jack y + 1 holds n, no other does, and it is not the last
  held : Among n (suc y) × (entry p (suc y) ≡ n)
  held = rw jack at (inverse-at P s.inverse n (omega arith))

  only : (j : ℕ) → Among n j → entry p j ≡ n → j ≡ suc y
  only j h e = P.apart j (suc y) h held.0 (e ∙ sym held.1)

  inside : suc y ≤ suc m
  inside =
      let d : suc y ≢ n = λ e. s.pattern.moved (suc y) held.0 (held.1 ∙ sym e) in
      omega (arith, held.0)

  -- and port i is not the last
  port : suc x ≤ suc m
  port = omega (arith, last, P.ports n (omega arith), s.pattern.moved n (omega arith))

  -- the letter is A, so the step back leads to a pattern
  letter-is : letter n p ≡ by_a
  letter-is = told-a m P s.inverse (λ e. let z : suc y ≡ suc x = sym jack ∙ e ∙ last in far (omega arith))

  shown : take (suc m) (set a y (suc x)) ≡ un_a n p
  unfolding un_a
  shown =
      front (suc m) (by_back_a n p) (set a y (suc x)) (simp length-set (omega arith)) (λ j h.
      let pj = entry-take n a j (omega arith) in
      rw last
      (either (trade-cases n (suc x) (entry p j))
      (λ c. rw (c.1, only j (omega arith) c.0) (entry-same a y (suc x) (omega (arith, inside))))
      (λ c. entry_other a y (suc x) j (λ e. c.0 (ap (entry p) e ∙ held.1)) ∙ sym pj ∙ sym c.1)))

  inverse : (j : ℕ) → Among (suc m) j → entry (take (suc m) (set b x (suc y))) (entry (un_a n p) j) ≡ j
  unfolding un_a
  inverse j h =
      let i = port in
      rw (entry-tabulate (suc m) (by_back_a n p) j h, last)
      (either (trade-cases n (suc x) (entry p j))
      (λ c.
      rw c.1
      (entry-take (suc m) (set b x (suc y)) (suc x) port ∙ entry-same b x (suc y) (omega arith) ∙ sym (only j (omega arith) c.0)))
      (λ c.
      let hj = P.ports j (omega arith) in
      let d : entry p j ≢ suc x = λ e. omega (arith, P.apart j n (omega arith) (omega arith) (e ∙ sym last)) in
      rw c.1
      (entry-take (suc m) (set b x (suc y)) (entry p j) (omega arith) ∙ entry_other b x (suc y) (entry p j) d
      ∙ sym (entry-take n b (entry p j) hj.1) ∙ s.inverse.back j (omega arith))))

  pub back-a : (letter n p ≡ by_a) × (take (suc m) (set a y (suc x)) ≡ un_a n p) × WithInverse (suc m) (set a y (suc x)) (set b x (suc y))
  back-a =
      let D = rw letter-is at (letter-back m p s.pattern).0 in (
        letter-is,
        shown,
        record {
          pattern = rw shown D;
          inverse = rw shown (record { long = length-take-le (suc m) (set b x (suc y)) (simp length-set (omega arith)); back = inverse });
        },
      )

-- ---- back from B, on both: the gap at i is closed in each

-- the inverse of the shorter pattern is the step back of the inverse
un_b-inverse : (m : ℕ) {p q : List ℕ} → Derangement (suc (suc m)) p → Inverse (suc (suc m)) p q → entry q (suc (suc m)) ≡ entry p (suc (suc m))
    → Derangement m (un_b (suc (suc m)) p) → Inverse m (un_b (suc (suc m)) p) (un_b (suc (suc m)) q)
unfolding un_b
un_b-inverse m {p = p} {q = q} D I e E =
    let n = suc (suc m) in
    let i = entry p n in
    record {
      long = length-tabulate m (by_back_b n q);
      back = λ j h.
          let y = entry (un_b n p) j in
          let hy : Among m y = E.permutation.ports j h in
          let near = raise-near i j in
          let a = raise-among m i j h in
          let port : entry p (raise i j) ≢ i = λ z. omega (arith, D.permutation.apart (raise i j) n (omega arith) (omega arith) z) in
          let up : raise i y ≡ entry p (raise i j) = ap (raise i) (entry-tabulate m (by_back_b n p) j h) ∙ raise-lower i (entry p (raise i j)) port in
          entry-tabulate m (by_back_b n q) y hy
          ∙ rw e (ap (λ (v : ℕ). lower i (entry q v)) up ∙ ap (lower i) (I.back (raise i j) (omega arith)) ∙ lower-raise i j);
    }

pub back-b : {m : ℕ} (a b a' b' : List ℕ) → WithInverse (suc (suc m)) a b → entry b (suc (suc m)) ≡ entry a (suc (suc m))
    → take m a' ≡ un_b (suc (suc m)) (take (suc (suc m)) a) → take m b' ≡ un_b (suc (suc m)) (take (suc (suc m)) b)
    → (letter (suc (suc m)) (take (suc (suc m)) a) ≡ by_b) × WithInverse m a' b'
back-b {m = m} a b a' b' s e ea eb =
    let n = suc (suc m) in
    let same : entry (take n b) n ≡ entry (take n a) n = entry-take n b n (omega arith) ∙ e ∙ sym (entry-take n a n (omega arith)) in
    let w = told-b m s.pattern.permutation s.inverse same in
    let D : Derangement m (un_b n (take n a)) = rw w at (letter-back m (take n a) s.pattern).0 in
    (w, record { pattern = rw ea D; inverse = rw (ea, eb) (un_b-inverse m s.pattern s.inverse same D) })

-- ---- the one pass that fills it

-- jack j + 1 is stored at its port, which no jack before it holds
pub inverted-on : (p b : List ℕ) (j k : ℕ) → ((x : ℕ) → Among j x → entry p x ≢ suc k) → Inverted p j b → entry p (suc j) ≡ suc k → k < length b
    → Inverted p (suc j) (set b k (suc j))
inverted-on p b j k fresh I e room x hx =
    either (same? x (suc j))
    (λ c. rw (c, e) (entry-same b k (suc j) room))
    (λ c.
    let h : Among j x = omega arith in
    entry_other b k (suc j) (entry p x) (fresh x h) ∙ I x h)

-- after the last jack: a pattern in one array, and its inverse in the other
pub inverted-end : {n : ℕ} (a b : List ℕ) → Derangement n (take n a) → Inverted (take n a) n b → n ≤ length b → WithInverse n a b
inverted-end {n = n} a b D I room =
    record {
      pattern = D;
      inverse = record { long = length-take-le n b room; back = λ j h. entry-take n b (entry (take n a) j) (D.permutation.ports j h).1 ∙ I j h };
    }
