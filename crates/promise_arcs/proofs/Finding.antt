-- What is found are the gaps that the arcs leave (`gaps-found`), and there are no more of them than arcs (`few-gaps`).
-- Assumes nothing.
use mathlib.Core.Path.{◌≡◌, refl, sym, ap, ◌∙◌}
use mathlib.Core.Logic.{◌⊎◌, inl, inr}
use mathlib.Core.Bool.{true, false}
use mathlib.Core.List.{List, [], ◌∷◌, map}
use Prim.Native.Nat.{ℕ, zero, suc, ◌+◌, ◌-◌, ◌≤◌, ◌<◌}
use native.Mathlib.Omega.{arith}
use lib.Dec.{leb}
use lib.ListN.{length}
use borrow.Author.Tests.{leb-true, leb-false, le-leb, lt-leb, lt-ltb, le-ltb}
use Rattle.listing.proofs.Numbers.{either, test, below?, same?}
use Rattle.promise.specs.Campaign.{tick}
use Rattle.promise.proofs.Tests.{clash, fails}
use Rattle.promise_arcs.specs.Circle.{onward, backward, ahead}
use Rattle.promise_arcs.specs.Gaps.{Arc, On, In, Rising, Gap, Gaps}
use Rattle.promise_arcs.specs.Finding.{lesser, on_some, past, opening, nearest, gap_at, openings, lowest, gaps_from, gaps_between}
use Rattle.promise_arcs.proofs.Circle.{onward-below, ahead-below, ahead-onward, onward-ahead, ahead-same, ahead_none, ahead-by, ahead-round, ahead-last}
use Rattle.promise_arcs.proofs.Members.{tells-on, off-each, least}

pub lesser-cases : (a b : ℕ) → ((a ≤ b) × (lesser a b ≡ a)) ⊎ ((b < a) × (lesser a b ≡ b))
unfolding lesser
lesser-cases a b = either (test (leb a b)) (λ e. inl (leb-true a b e, rw e)) (λ e. inr (leb-false a b e, rw e))

-- ---- the nearest arc

-- no arc is nearer
nearest-below : (c : ℕ) (As : List Arc) (e : ℕ) (A : Arc) → In A As → nearest c As e ≤ ahead c e A.first
unfolding nearest
nearest-below c [] e A i = absurd i
nearest-below c (B ∷ Bs) e A (inl q) = rw q (either (lesser-cases (ahead c e B.first) (nearest c Bs e)) (λ w. omega arith) (λ w. omega arith))
nearest-below c (B ∷ Bs) e A (inr i) =
    let n : nearest c Bs e ≤ ahead c e A.first = nearest-below c Bs e A i in
    either (lesser-cases (ahead c e B.first) (nearest c Bs e)) (λ w. omega arith) (λ w. omega arith)

-- an arc of a circuit of c
pub record Fits (c : ℕ) (A : Arc) : Type 0 where
  pub listed : A.first < c
  pub some : 1 ≤ A.many
  pub most : A.many ≤ c

-- and one is as near
nearest-is : (c : ℕ) (A : Arc) (As : List Arc) (e : ℕ) → e < c → ((B : Arc) → In B (A ∷ As) → Fits c B)
    → (B : Arc) × In B (A ∷ As) × (nearest c (A ∷ As) e ≡ ahead c e B.first)
unfolding nearest
nearest-is c A [] e h fits =
    let l : ahead c e A.first < c = ahead-below c e A.first h (fits A (inl refl)).listed in
    (A, inl refl, either (lesser-cases (ahead c e A.first) c) (λ w. w.1) (λ w. absurd (omega arith)))
nearest-is c A (B ∷ Bs) e h fits =
    let w = nearest-is c B Bs e h (λ X i. fits X (inr i)) in
    either (lesser-cases (ahead c e A.first) (nearest c (B ∷ Bs) e))
    (λ x. (A, inl refl, x.1))
    (λ x. (w.0, inr w.1, x.1 ∙ w.2))

-- ---- a gap is where it is looked for

-- an arc's last rank lies on it
last_on : (c a m : ℕ) → a < c → 1 ≤ m → m ≤ c → ahead c a (backward c (onward c a m) 1) < m
last_on c a zero h s l = absurd (omega arith)
last_on c a (suc m) h s l = omega (arith, ahead-last c a m h (omega arith))

-- an arc's first rank lies on it
first_on : (c : ℕ) (A : Arc) (e : ℕ) → Fits c A → e ≡ A.first → On c A e
first_on c A e F at = omega (arith, ap (ahead c A.first) at, ahead-same c A.first F.listed, F.some)

module _ (c : ℕ) (A₀ : Arc) (As₀ : List Arc) (fits : (B : Arc) → In B (A₀ ∷ As₀) → Fits c B) where
  abbrev arcs : List Arc
  arcs = A₀ ∷ As₀

  -- what comes after one of the arcs and lies on none begins a gap
  gap-begins : (e : ℕ) (A : Arc) → In A arcs → past c A ≡ e → on_some c arcs e ≡ false → Gap c (on_some c arcs) (gap_at c arcs e)
  gap-begins e A i at off =
      let F : Fits c A = fits A i in
      let he : e < c = rw (sym at) (onward-below c A.first A.many F.listed F.most) in
      let n = nearest-is c A₀ As₀ e he fits in
      let N : Fits c n.0 = fits n.0 n.1 in
      record {
        listed = he;
        some = either (same? (nearest c arcs e) 0)
            (λ z.
            let same : e ≡ n.0.first = ahead_none c e n.0.first he N.listed (sym n.2 ∙ z) in
            clash ((tells-on c arcs e).1 (n.0, n.1, first_on c n.0 e N same)) off)
            (λ z. omega arith);
        unnamed = λ r hr o. fails (on_some c arcs r) (tells-on c arcs r) (λ w.
            let b : w.0.first < c = (fits w.0 w.1).listed in
            let none : ahead c e e ≡ 0 = ahead-same c e he in
            let near : nearest c arcs e ≤ ahead c e w.0.first = nearest-below c arcs e w.0 w.1 in
            let far : w.0.many ≤ ahead c w.0.first e = off-each c arcs e w.0 w.1 off in
            omega (arith, w.2, ahead-round c e w.0.first r he b hr (omega arith), ahead-round c e w.0.first e he b he (omega arith)));
        before = (tells-on c arcs (backward c e 1)).1 (A, i, rw at at (last_on c A.first A.many F.listed F.some F.most));
        after =
            let there : onward c e (nearest c arcs e) ≡ n.0.first = ap (onward c e) n.2 ∙ onward-ahead c e n.0.first he N.listed in
            (tells-on c arcs (onward c e (nearest c arcs e))).1 (n.0, n.1, first_on c n.0 (onward c e (nearest c arcs e)) N there);
      }

  -- what is past an arc that a rank lies behind is nearer to that rank
  nearer : (r : ℕ) → r < c → on_some c arcs r ≡ false → (B : Arc) → In B arcs → B.many + ahead c (past c B) r ≡ ahead c B.first r
  nearer r hr off B i =
      let F : Fits c B = fits B i in
      let far : B.many ≤ ahead c B.first r = off-each c arcs r B i off in
      let short : ahead c B.first r < c = ahead-below c B.first r F.listed hr in
      let at : ahead c B.first (past c B) ≡ B.many = ahead-onward c B.first B.many F.listed (omega arith) in
      omega (arith, ahead-by c B.first (past c B) r F.listed (onward-below c B.first B.many F.listed F.most) hr (omega arith))

  -- a rank on no arc lies on the gap after the arc whose end is the nearest behind it
  gap-found : (r : ℕ) → r < c → on_some c arcs r ≡ false
      → (A : Arc) × In A arcs × (on_some c arcs (past c A) ≡ false) × (ahead c (past c A) r < nearest c arcs (past c A))
  gap-found r hr off =
      let m = least (λ X. ahead c (past c X) r) A₀ As₀ in
      let A : Arc = m.0 in
      let F : Fits c A = fits A m.1 in
      let e : ℕ = past c A in
      let he : e < c = onward-below c A.first A.many F.listed F.most in
      let n = nearest-is c A₀ As₀ e he fits in (
        A,
        m.1,
        fails (on_some c arcs e) (tells-on c arcs e) (λ w.
            let b : w.0.first < c = (fits w.0 w.1).listed in
            let far : w.0.many ≤ ahead c w.0.first r = off-each c arcs r w.0 w.1 off in
            let here : ahead c w.0.first e < w.0.many = w.2 in
            omega (arith, m.2 w.0 w.1, nearer r hr off w.0 w.1, ahead-by c w.0.first e r b he hr (omega arith))),
        either (below? (ahead c e r) (nearest c arcs e)) (λ l. l) (λ l.
            let B : Arc = n.0 in
            let b : Fits c B = fits B n.1 in
            let is : nearest c arcs e ≡ ahead c e B.first = n.2 in
            let some : 1 ≤ B.many = b.some in
            absurd (omega (arith, m.2 B n.1, nearer r hr off B n.1, ahead-by c e B.first r he b.listed hr (omega arith)))),
      )

-- ---- the lowest of where gaps begin

-- past an arc a gap begins, or none does
opening-cases : (c : ℕ) (Bs : List Arc) (A : Arc)
    → ((on_some c Bs (past c A) ≡ false) × (opening c Bs A ≡ past c A)) ⊎ ((on_some c Bs (past c A) ≡ true) × (opening c Bs A ≡ c))
unfolding opening
opening-cases c Bs A = either (test (on_some c Bs (past c A))) (λ e. inr (e, rw e)) (λ e. inl (e, rw e))

-- with one more entry: it is the lowest, or the lowest is as before
pub lowest-cases : (c x e : ℕ) (es : List ℕ)
    → ((x ≤ e) × (lowest c x (e ∷ es) ≡ e) × (e ≤ lowest c x es)) ⊎ ((lowest c x (e ∷ es) ≡ lowest c x es) × (x ≤ e → lowest c x es ≤ e))
unfolding lowest
lowest-cases c x e es =
    either (test (leb x e))
    (λ t. either (lesser-cases e (lowest c x es))
    (λ l. inl (leb-true x e t, rw t l.1, l.0))
    (λ l. inr (rw t l.1, λ p. omega (arith, l.0))))
    (λ t. inr (rw t, λ p. omega (arith, leb-false x e t)))

-- rank e comes after one of the arcs As, from x on, and lies on none of Bs
abbrev Begins : ℕ → List Arc → List Arc → ℕ → ℕ → Type 0
Begins c Bs As x e = (A : Arc) × In A As × (past c A ≡ e) × (x ≤ e) × (on_some c Bs e ≡ false)

-- where one is found, it is such
lowest-found : (c : ℕ) (Bs As : List Arc) (x : ℕ) → lowest c x (map (opening c Bs) As) < c → Begins c Bs As x (lowest c x (map (opening c Bs) As))
unfolding lowest
lowest-found c Bs [] x h = absurd (omega arith)
lowest-found c Bs (A ∷ As) x h =
    either (lowest-cases c x (opening c Bs A) (map (opening c Bs) As))
    (λ w. either (opening-cases c Bs A)
    (λ o. (A, inl refl, sym (w.1 ∙ o.1), omega (arith, w.0, w.1), ap (on_some c Bs) (w.1 ∙ o.1) ∙ o.0))
    (λ o. absurd (omega (arith, w.1, o.1))))
    (λ w.
    let f : Begins c Bs As x (lowest c x (map (opening c Bs) As)) = lowest-found c Bs As x (omega (arith, w.0)) in
    (f.0, inr f.1, f.2 ∙ sym w.0, omega (arith, f.3, w.0), ap (on_some c Bs) w.0 ∙ f.4))

-- and none is lower
lowest-below : (c : ℕ) (Bs As : List Arc) (x : ℕ) (A : Arc) → In A As → x ≤ past c A → on_some c Bs (past c A) ≡ false
    → lowest c x (map (opening c Bs) As) ≤ past c A
lowest-below c Bs [] x A i h o = absurd i
lowest-below c Bs (B ∷ Bs') x A (inl e) h o =
    let at : opening c Bs B ≡ past c A = ap (opening c Bs) (sym e) ∙ either (opening-cases c Bs A) (λ w. w.1) (λ w. clash w.0 o) in
    either (lowest-cases c x (opening c Bs B) (map (opening c Bs) Bs')) (λ w. omega (arith, w.1)) (λ w. omega (arith, w.0, w.1 (omega arith)))
lowest-below c Bs (B ∷ Bs') x A (inr i) h o =
    let l : lowest c x (map (opening c Bs) Bs') ≤ past c A = lowest-below c Bs Bs' x A i h o in
    either (lowest-cases c x (opening c Bs B) (map (opening c Bs) Bs')) (λ w. omega (arith, w.1, w.2)) (λ w. omega (arith, w.0))

-- ---- the list of gaps

module _ (c : ℕ) (As : List Arc) where
  -- the first rank of the next gap from x on
  abbrev pub next : ℕ → ℕ
  next x = lowest c x (openings c As)

  -- it is from x on, so what is left to look at gets less
  pub next-on : (x : ℕ) → next x < c → x ≤ next x
  next-on x h = (lowest-found c As As x h).3

  -- one more rank to look at: a gap and the gaps after it, or none
  pub from_found : (k x : ℕ) → next x < c → gaps_from c As (suc k) x ≡ gap_at c As (next x) ∷ gaps_from c As k (suc (next x))
  unfolding gaps_from
  from_found k x h = rw (lt-ltb (next x) c h)

  pub from-none : (k x : ℕ) → c ≤ next x → gaps_from c As (suc k) x ≡ []
  unfolding gaps_from
  from-none k x h = rw (le-ltb (next x) c h)

  -- each of them begins where a gap does
  from_each : (k x : ℕ) (B : Arc) → In B (gaps_from c As k x) → (e : ℕ) × (B ≡ gap_at c As e) × Begins c As As 0 e
  unfolding gaps_from
  from_each zero x B i = absurd i
  from_each (suc k) x B i =
      either (below? (next x) c)
      (λ l.
      let f : Begins c As As x (next x) = lowest-found c As As x l in
      either (rw (from_found k x l) at i)
      (λ q. (next x, q, (f.0, f.1, f.2, omega arith, f.4)))
      (λ j. from_each k (suc (next x)) B j))
      (λ l. absurd (rw (from-none k x l) at i))

  -- in rising order
  from-rising : (k x : ℕ) → Rising x (gaps_from c As k x)
  unfolding gaps_from
  from-rising zero x = tt
  from-rising (suc k) x =
      either (below? (next x) c)
      (λ l. rw (from_found k x l) (next-on x l, from-rising k (suc (next x))))
      (λ l. rw (from-none k x l) tt)

  -- and none is left out
  from_all : (k x : ℕ) → c ≤ x + k → (A : Arc) → In A As → x ≤ past c A → past c A < c → on_some c As (past c A) ≡ false
      → In (gap_at c As (past c A)) (gaps_from c As k x)
  unfolding gaps_from
  from_all zero x h A i l m o = absurd (omega arith)
  from_all (suc k) x h A i l m o =
      let b : next x ≤ past c A = lowest-below c As As x A i l o in
      let s : next x < c = omega arith in
      let f : x ≤ next x = next-on x s in
      rw (from_found k x s)
      (either (same? (past c A) (next x))
      (λ q. inl (ap (gap_at c As) q))
      (λ q. inr (from_all k (suc (next x)) (omega arith) A i (omega arith) m o)))

-- what is found are the gaps that the arcs leave
pub gaps-found : (c : ℕ) (A₀ : Arc) (As₀ : List Arc) → ((B : Arc) → In B (A₀ ∷ As₀) → Fits c B)
    → Gaps c (on_some c (A₀ ∷ As₀)) (gaps_between c (A₀ ∷ As₀))
gaps-found c A₀ As₀ fits =
    let As : List Arc = A₀ ∷ As₀ in
    record {
      each = λ B i.
          let w = from_each c As (c - 0) 0 B i in
          rw w.1 (gap-begins c A₀ As₀ fits w.0 w.2.0 w.2.1 w.2.2 w.2.4);
      all = λ r h o.
          let w = gap-found c A₀ As₀ fits r h o in
          let F : Fits c w.0 = fits w.0 w.1 in (
            gap_at c As (past c w.0),
            from_all c As (c - 0) 0 (omega arith) w.0 w.1 (omega arith) (onward-below c w.0.first w.0.many F.listed F.most) w.2,
            w.3,
          );
      rising = from-rising c As (c - 0) 0;
    }

-- ---- there are no more gaps than arcs

-- how many arcs end from x on
later : ℕ → List Arc → ℕ → ℕ
later c [] x = 0
later c (A ∷ As) x = tick (leb x (past c A)) + later c As x

-- fewer end from a higher rank on
later-less : (c : ℕ) (As : List Arc) (x y : ℕ) → x ≤ y → later c As y ≤ later c As x
unfolding later
later-less c [] x y h = omega arith
later-less c (A ∷ As) x y h =
    let n : later c As y ≤ later c As x = later-less c As x y h in
    either (below? (past c A) y)
    (λ l. omega (arith, ap tick (lt-leb y (past c A) l)))
    (λ l. omega (arith, ap tick (le-leb y (past c A) l), ap tick (le-leb x (past c A) (omega arith))))

-- fewer still where one ends between
later-fewer : (c : ℕ) (As : List Arc) (x y : ℕ) (A : Arc) → In A As → x ≤ past c A → past c A < y → later c As y < later c As x
unfolding later
later-fewer c [] x y A i h k = absurd i
later-fewer c (B ∷ Bs) x y A (inl e) h k =
    omega (
      arith,
      ap tick (lt-leb y (past c B) (omega (arith, ap (past c) e))),
      ap tick (le-leb x (past c B) (omega (arith, ap (past c) e))),
      later-less c Bs x y (omega arith),
    )
later-fewer c (B ∷ Bs) x y A (inr i) h k =
    let n : later c Bs y < later c Bs x = later-fewer c Bs x y A i h k in
    either (below? (past c B) y)
    (λ l. omega (arith, ap tick (lt-leb y (past c B) l)))
    (λ l. omega (arith, ap tick (le-leb y (past c B) l), ap tick (le-leb x (past c B) (omega arith))))

later-most : (c : ℕ) (As : List Arc) (x : ℕ) → later c As x ≤ length As
unfolding later
later-most c [] x = omega arith
later-most c (A ∷ As) x =
    let n : later c As x ≤ length As = later-most c As x in
    either (below? (past c A) x)
    (λ l. omega (arith, ap tick (lt-leb x (past c A) l)))
    (λ l. omega (arith, ap tick (le-leb x (past c A) l)))

few-from : (c : ℕ) (As : List Arc) (k x : ℕ) → length (gaps_from c As k x) ≤ later c As x
unfolding gaps_from
few-from c As zero x = omega arith
few-from c As (suc k) x =
    let e : ℕ = next c As x in
    either (below? e c)
    (λ l.
    let f : Begins c As As x e = lowest-found c As As x l in
    let at : past c f.0 ≡ e = f.2 in
    let lo : x ≤ e = f.3 in
    rw (from_found c As k x l) (omega (arith, few-from c As k (suc e), later-fewer c As x (suc e) f.0 f.1 (omega arith) (omega arith))))
    (λ l. rw (from-none c As k x l) (omega arith))

pub few-gaps : (c : ℕ) (As : List Arc) → length (gaps_between c As) ≤ length As
few-gaps c As = omega (arith, few-from c As (c - 0) 0, later-most c As 0)
