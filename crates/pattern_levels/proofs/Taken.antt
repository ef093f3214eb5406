-- A level taken off a pattern and its inverse, in the numbers that the code has: its stores are those of the laws.
-- Assumes nothing.
use mathlib.Core.Path.{◌≡◌, sym, ap, subst, ◌∙◌}
use mathlib.Core.Logic.{◌≢◌}
use mathlib.Core.List.{List}
use Prim.Native.Nat.{ℕ, suc, ◌-◌, ◌≤◌}
use native.Mathlib.Omega.{arith}
use lib.ListN.{length, take, get_or, set}
use Rattle.listing.specs.Numbers.{Among}
use Rattle.listing.specs.Pattern.{entry}
use Rattle.listing.specs.Steps.{by_a, shorter, back, letter, un_b}
use Rattle.listing.specs.Limits.{most_ports}
use Rattle.listing.proofs.Numbers.{from-two}
use Rattle.listing.proofs.Panels.{entry-take, entry-front}
use Rattle.listing_course.specs.InPlace.{WithInverse}
use Rattle.listing_course.proofs.Inverse.{inverse-at, back-a, back-b}
use Rattle.pattern_levels.specs.Levels.{came_of, letter_of}
use Rattle.pattern_levels.specs.declared.types.Came.{Came}
use Rattle.pattern_levels.specs.declared.types.Came.TheVariants.{ByA, ByB}

-- one level is off the pattern t of n ports: the step that it came by, and in the arrays a and b the shorter pattern, of m ports, with its inverse
pub record Off (n : ℕ) (t : List ℕ) (c : Came) (m : ℕ) (a b : List ℕ) : Type 0 where
  pub came : c ≡ came_of (letter n t) (entry t n)
  pub ports : m ≡ shorter (letter_of c) n
  pub shown : take m a ≡ back (letter_of c) n t
  pub arrays : WithInverse m a b

-- the partners of the last jack and of the last port
pub ends : (n : ℕ) (a b : List ℕ) → 2 ≤ n → WithInverse n a b → Among n (get_or a (n - 1) 0) × Among n (get_or b (n - 1) 0)
ends n a b =
    from-two (λ n. WithInverse n a b → Among n (get_or a (n - 1) 0) × Among n (get_or b (n - 1) 0))
    (λ m s.
    let n = suc (suc m) in
    let z : n - 1 ≡ suc m = omega arith in
    let P = s.pattern.permutation in
    rw z (
      rw (entry-take n a n (omega arith)) at (P.ports n (omega arith)),
      rw (entry-take n b n (omega arith)) at (inverse-at P s.inverse n (omega arith)).0,
    ))
    n

-- by A
pub taken-a : (n : ℕ) (a b : List ℕ) → 2 ≤ n → n ≤ most_ports → length a ≡ most_ports → length b ≡ most_ports → WithInverse n a b
    → get_or b (n - 1) 0 ≢ get_or a (n - 1) 0
    → Off n (take n a) (ByA (get_or a (n - 1) 0)) (n - 1) (set a (get_or b (n - 1) 0 - 1) (get_or a (n - 1) 0)) (set b (get_or a (n - 1) 0 - 1) (get_or b (n - 1) 0))
taken-a n a b two =
    from-two
    (λ n. n ≤ most_ports → length a ≡ most_ports → length b ≡ most_ports → WithInverse n a b → get_or b (n - 1) 0 ≢ get_or a (n - 1) 0
    → Off n (take n a) (ByA (get_or a (n - 1) 0)) (n - 1) (set a (get_or b (n - 1) 0 - 1) (get_or a (n - 1) 0)) (set b (get_or a (n - 1) 0 - 1) (get_or b (n - 1) 0)))
    (λ m most la lb s d.
    let n = suc (suc m) in
    let z : n - 1 ≡ suc m = omega arith in
    let e = ends n a b (omega arith) s in
    let x = get_or a (n - 1) 0 in
    let y = get_or b (n - 1) 0 in
    let sx : suc (x - 1) ≡ x = omega arith in
    let sy : suc (y - 1) ≡ y = omega arith in
    let ex : suc (x - 1) ≡ entry a n = sx ∙ ap (λ (k : ℕ). get_or a k 0) z in
    let ey : suc (y - 1) ≡ entry b n = sy ∙ ap (λ (k : ℕ). get_or b k 0) z in
    let w = rw (sx, sy) at (back-a a b (x - 1) (y - 1) s ex ey (omega arith) (omega arith) (omega arith)) in
    record {
      came = rw w.0 (ap ByA (entry-front n a n (omega arith)));
      ports = z;
      shown = subst (λ (k : ℕ). take k (set a (y - 1) x) ≡ back by_a n (take n a)) (sym z) w.1;
      arrays = subst (λ (k : ℕ). WithInverse k (set a (y - 1) x) (set b (x - 1) y)) (sym z) w.2;
    })
    n two

-- by B
pub taken-b : (n : ℕ) (a b a' b' : List ℕ) → 2 ≤ n → WithInverse n a b → get_or b (n - 1) 0 ≡ get_or a (n - 1) 0
    → take (n - 2) a' ≡ un_b n (take n a) → take (n - 2) b' ≡ un_b n (take n b) → Off n (take n a) (ByB (get_or a (n - 1) 0)) (n - 2) a' b'
taken-b n a b a' b' two =
    from-two
    (λ n. WithInverse n a b → get_or b (n - 1) 0 ≡ get_or a (n - 1) 0
    → take (n - 2) a' ≡ un_b n (take n a) → take (n - 2) b' ≡ un_b n (take n b) → Off n (take n a) (ByB (get_or a (n - 1) 0)) (n - 2) a' b')
    (λ m s e ea eb.
    let n = suc (suc m) in
    let z : n - 1 ≡ suc m = omega arith in
    let y : n - 2 ≡ m = omega arith in
    let w = back-b a b a' b' s (rw z at e) (rw y at ea) (rw y at eb) in
    record { came = rw w.0 (ap ByB (entry-front n a n (omega arith))); ports = y; shown = ea; arrays = subst (λ (k : ℕ). WithInverse k a' b') (sym y) w.1 })
    n two
