-- A move in the paper's form is known by what it does: two that make the same pattern of one permutation are the same.
-- From the sources of its jacks one reads it off: a, the first jack that changes; b and c, the sources of a and of b; d, the first jack that changes besides
-- these; e, the source of d. Where no jack changes, n + 1 stands for it.
-- Assumes nothing.
use mathlib.Core.Path.{◌≡◌, refl, sym, ap, ◌∙◌}
use mathlib.Core.Logic.{◌≢◌}
use mathlib.Core.Bool.{cond}
use mathlib.Core.List.{List, [], ◌∷◌}
use Prim.Native.Nat.{ℕ, suc, ◌≤◌, ◌<◌}
use native.Mathlib.Omega.{arith}
use lib.Dec.{eqb, ltb}
use borrow.Author.Tests.{eq-eqb, ne_eqb, lt-ltb, le-ltb}
use Rattle.listing.specs.Numbers.{Among}
use Rattle.listing.specs.Pattern.{entry, Permutation}
use Rattle.listing.specs.Orders.{Order, swap, turn, source, carry_all, AllInShape, Move, nothing, one, two, orders, InForm, Leads}
use Rattle.listing.proofs.Numbers.{either, below?, same?}
use Rattle.listing.proofs.Sources.{source-unnamed, swap-first, swap-second, turn-first, turn-second, source-past}
use Rattle.listing.proofs.Renamed.{EachOf, sources, sources-each, entry-carry_all}
use Rattle.listing.proofs.Moves.{orders-shaped, shapes-each}

-- ---- the first jack that changes

-- s and t agree on the jacks 1..n, and on n + 1
abbrev Agree : ℕ → (ℕ → ℕ) → (ℕ → ℕ) → Type 0
Agree n s t = (j : ℕ) → Among (suc n) j → s j ≡ t j

-- a is the first jack of E whose source is another, or n + 1
record First (n : ℕ) (E : ℕ → Type 0) (s : ℕ → ℕ) (a : ℕ) : Type 0 where
  place : Among (suc n) a
  changes : a ≤ n → (s a ≢ a) × E a
  before : (j : ℕ) → 1 ≤ j → j < a → E j → s j ≡ j

-- it cannot come earlier by the one than by the other
not-before : (n : ℕ) (E : ℕ → Type 0) (s t : ℕ → ℕ) (a b : ℕ) → Agree n s t → First n E s a → First n E t b → a < b → ⊥
not-before n E s t a b agree x y h =
    let ha : Among (suc n) a = x.place in
    let hb : Among (suc n) b = y.place in
    (x.changes (omega arith)).0 (agree a ha ∙ y.before a (omega arith) h (x.changes (omega arith)).1)

-- what agrees has the same first jack
first-same : (n : ℕ) (E : ℕ → Type 0) (s t : ℕ → ℕ) (a b : ℕ) → Agree n s t → First n E s a → First n E t b → a ≡ b
first-same n E s t a b agree x y =
    either (below? a b)
    (λ h. absurd (not-before n E s t a b agree x y h))
    (λ h. either (same? a b) (λ e. e) (λ e. absurd (not-before n E t s b a (λ j hj. sym (agree j hj)) y x (omega arith))))

-- the first one, by its source b
first-at : (n : ℕ) (E : ℕ → Type 0) (s : ℕ → ℕ) (a b : ℕ) → Among n a → s a ≡ b → a < b → E a → ((j : ℕ) → j < a → E j → s j ≡ j) → First n E s a
first-at n E s a b h e up here still =
    record { place = omega arith; changes = λ l. (λ f. omega arith, here); before = λ j low k g. still j k g }

-- no jack of E changes
no-first : (n : ℕ) (E : ℕ → Type 0) (s : ℕ → ℕ) → ((j : ℕ) → E j → s j ≡ j) → First n E s (suc n)
no-first n E s still = record { place = omega arith; changes = λ h. absurd (omega arith); before = λ j low h e. still j e }

-- ---- a move read off its sources

abbrev Any : ℕ → Type 0
Any j = Unit {0}

abbrev Besides : ℕ → ℕ → ℕ → ℕ → Type 0
Besides a b c j = (j ≢ a) × (j ≢ b) × (j ≢ c)

-- the move, from a, b, c, d, e
read : ℕ → ℕ → ℕ → ℕ → ℕ → ℕ → Move
read n a b c d e = cond (ltb n a) nothing (cond (eqb c a) (cond (ltb n d) (one (swap a b)) (two a b d e)) (one (turn a b c)))

-- the sources s show the numbers from which v is read
record Known (n : ℕ) (s : ℕ → ℕ) (v : Move) : Type 0 where
  a : ℕ
  b : ℕ
  c : ℕ
  d : ℕ
  e : ℕ
  first : First n Any s a
  second : s a ≡ b
  third : s b ≡ c
  other : First n (Besides a b c) s d
  fourth : s d ≡ e
  within : Among (suc n) b
  reads : read n a b c d e ≡ v

-- moves that are read off the same sources are the same
known_same : (n : ℕ) (s t : ℕ → ℕ) (v w : Move) → Agree n s t → Known n s v → Known n t w → v ≡ w
known_same n s t v w agree x y =
    let ea : x.a ≡ y.a = first-same n Any s t x.a y.a agree x.first y.first in
    let eb : x.b ≡ y.b = sym x.second ∙ agree x.a x.first.place ∙ ap t ea ∙ y.second in
    let ec : x.c ≡ y.c = sym x.third ∙ agree x.b x.within ∙ ap t eb ∙ y.third in
    let same : First n (Besides y.a y.b y.c) s x.d = rw (ea, eb, ec) at x.other in
    let ed : x.d ≡ y.d = first-same n (Besides y.a y.b y.c) s t x.d y.d agree same y.other in
    let ee : x.e ≡ y.e = sym x.fourth ∙ agree x.d x.other.place ∙ ap t ed ∙ y.fourth in
    sym x.reads ∙ (λ i. read n (ea i) (eb i) (ec i) (ed i) (ee i)) ∙ y.reads

-- ---- every move in the paper's form is read off

-- it is so for each kind of move
known : (n : ℕ) (v : Move) → InForm n v → Known n (sources (orders v)) v
unfolding read
known n nothing f =
    record {
      a = suc n;
      b = suc n;
      c = suc n;
      d = suc n;
      e = suc n;
      first = no-first n Any (sources []) (λ j x. refl);
      second = refl;
      third = refl;
      other = no-first n (Besides (suc n) (suc n) (suc n)) (sources []) (λ j x. refl);
      fourth = refl;
      within = omega arith;
      reads = rw (lt-ltb n (suc n) (omega arith));
    }
known n (one (swap a b)) f =
    record {
      a = a;
      b = b;
      c = a;
      d = suc n;
      e = suc n;
      first = first-at n Any (source (swap a b)) a b (omega arith) (swap-first a b) f.1 tt (λ j h x. source-unnamed (swap a b) j (omega arith));
      second = swap-first a b;
      third = swap-second a b f.1;
      other = no-first n (Besides a b a) (source (swap a b)) (λ j x. source-unnamed (swap a b) j (x.0, x.1));
      fourth = source-past n (swap a b) f (suc n) (omega arith);
      within = omega arith;
      reads = rw (le-ltb n a (omega arith), eq-eqb a a refl, lt-ltb n (suc n) (omega arith));
    }
known n (one (turn a b c)) f =
    record {
      a = a;
      b = b;
      c = c;
      d = suc n;
      e = suc n;
      first = first-at n Any (source (turn a b c)) a b (omega arith) (turn-first a b c) f.1 tt (λ j h x. source-unnamed (turn a b c) j (omega arith));
      second = turn-first a b c;
      third = turn-second a b c f.1;
      other = no-first n (Besides a b c) (source (turn a b c)) (λ j x. source-unnamed (turn a b c) j x);
      fourth = source-past n (turn a b c) f (suc n) (omega arith);
      within = omega arith;
      reads = rw (le-ltb n a (omega arith), ne_eqb c a (omega arith));
    }
known n (two a b c d) f =
    let s : ℕ → ℕ = sources (swap a b ∷ swap c d ∷ []) in
    let still : (j : ℕ) → j ≢ a → j ≢ b → j ≢ c → j ≢ d → s j ≡ j =
    λ j na nb nc nd. ap (source (swap a b)) (source-unnamed (swap c d) j (nc, nd)) ∙ source-unnamed (swap a b) j (na, nb) in
    let at_a : s a ≡ b = ap (source (swap a b)) (source-unnamed (swap c d) a (omega arith)) ∙ swap-first a b in
    let at_b : s b ≡ a = ap (source (swap a b)) (source-unnamed (swap c d) b (f.3, f.4)) ∙ swap-second a b f.0.1 in
    let at_c : s c ≡ d = ap (source (swap a b)) (swap-first c d) ∙ source-unnamed (swap a b) d (omega arith) in
    record {
      a = a;
      b = b;
      c = a;
      d = c;
      e = d;
      first = first-at n Any s a b (omega arith) at_a f.0.1 tt (λ j h x. still j (omega arith) (omega arith) (omega arith) (omega arith));
      second = at_a;
      third = at_b;
      other = first-at n (Besides a b a) s c d (omega arith) at_c f.1.1 (omega arith) (λ j h x. still j x.0 x.1 (omega arith) (omega arith));
      fourth = at_c;
      within = omega arith;
      reads = rw (le-ltb n a (omega arith), eq-eqb a a refl, le-ltb n c (omega arith));
    }

-- ---- the law

-- a jack past n is its own source
sources-past : (n : ℕ) (os : List Order) → AllInShape n os → (j : ℕ) → n < j → sources os j ≡ j
sources-past n [] s j h = refl
sources-past n (o ∷ os) s j h = ap (source o) (sources-past n os s.1 j h) ∙ source-past n o s.0 j h

-- two moves in the paper's form that make the same pattern of one permutation are the same move
pub one-move : {n : ℕ} {v w : Move} {p q : List ℕ} → Permutation n p → Leads n v p q → Leads n w p q → v ≡ w
one-move {n} {v} {w} {p} P l k =
    known_same n (sources (orders v)) (sources (orders w)) v w agree (known n v l.form) (known n w k.form)
  where
    each : (u : Move) → InForm n u → EachOf (Among n) (orders u)
    each u f = shapes-each n (orders u) (orders-shaped n u f)

    port : (u : Move) → InForm n u → (j : ℕ) → Among n j → entry (carry_all (orders u) p) j ≡ entry p (sources (orders u) j)
    port u f j h = entry-carry_all (orders u) p j (rw P.long (each u f)) (rw P.long h)

    agree : Agree n (sources (orders v)) (sources (orders w))
    agree j h =
        either (below? n j)
        (λ past. sources-past n (orders v) (orders-shaped n v l.form) j past ∙ sym (sources-past n (orders w) (orders-shaped n w k.form) j past))
        (λ in-n. let hj : Among n j = omega arith in
        P.apart (sources (orders v) j) (sources (orders w) j)
        (sources-each (Among n) (orders v) j (each v l.form) hj) (sources-each (Among n) (orders w) j (each w k.form) hj)
        (sym (port v l.form j hj) ∙ ap (λ (r : List ℕ). entry r j) (l.makes ∙ sym k.makes) ∙ port w k.form j hj))
