-- Two gaps with a rank in common are one, and whatever list is the gaps is the one that looking at every rank finds: so there is one.
-- Assumes nothing.
use mathlib.Core.Path.{◌≡◌, refl, sym, ap, ap₂, ◌∙◌}
use mathlib.Core.Logic.{inl, inr}
use mathlib.Core.Bool.{Bool, true, false}
use mathlib.Core.List.{List, [], ◌∷◌}
use Prim.Native.Nat.{ℕ, zero, suc, ◌+◌, ◌≤◌, ◌<◌}
use native.Mathlib.Omega.{arith}
use Rattle.listing.proofs.Numbers.{either, below?, same?, test}
use Rattle.promise.proofs.Tests.{Tells, clash, tells-and, tells-not, tells-true}
use Rattle.promise_arcs.specs.Circle.{onward, backward, ahead}
use Rattle.promise_arcs.specs.Gaps.{Arc, On, In, Rising, Gap, Gaps, unnamed_from, begins, gaps_among, gaps_of}
use Rattle.promise_arcs.proofs.Circle.{onward-below, backward-below, ahead-below, ahead-onward, ahead-same, ahead_none, ahead-round, ahead_before, onward-ahead, onward-more, onward-none}
use Rattle.promise_arcs.proofs.Members.{rising-only}

-- two arcs with the same first rank and as many ranks are one
same-arc : (A B : Arc) → A.first ≡ B.first → A.many ≡ B.many → A ≡ B
same-arc A B e f = ap₂ {C = Arc} (λ x y. record { first = x; many = y }) e f

module _ (c : ℕ) (named : ℕ → Bool) where
  -- a gap does not go round: the rank before its first is named
  pub gap-short : (A : Arc) → Gap c named A → A.many < c
  gap-short A G =
      let q : ℕ = backward c A.first 1 in
      let h : A.first < c = G.listed in
      let b : q < c = backward-below c A.first 1 h (omega arith) in
      either (below? A.many c) (λ l. l) (λ l. clash G.before (G.unnamed q b (omega (arith, ahead-below c A.first q h b))))

  -- the first rank of a gap is not named
  first-unnamed : (A : Arc) → Gap c named A → named A.first ≡ false
  first-unnamed A G = G.unnamed A.first G.listed (omega (arith, ahead-same c A.first G.listed, G.some))

  -- a gap on which there is a rank whose rank before is named begins there
  first-same : (B : Arc) → Gap c named B → (r : ℕ) → r < c → named (backward c r 1) ≡ true → On c B r → B.first ≡ r
  first-same B H r hr e o =
      let b : B.first < c = H.listed in
      let q : ℕ = backward c r 1 in
      let lq : q < c = backward-below c r 1 hr (omega arith) in
      either (same? (ahead c B.first r) 0)
      (λ z. ahead_none c B.first r b hr z)
      (λ ne. clash e (H.unnamed q lq (omega (arith, ahead_before c B.first r b hr (omega arith)))))

  -- of two gaps with the same first rank neither is longer
  not-longer : (A B : Arc) → Gap c named A → Gap c named B → A.first ≡ B.first → B.many ≤ A.many
  not-longer A B G H e =
      either (below? A.many B.many)
      (λ l.
      let a : A.first < c = G.listed in
      let s : A.many < c = gap-short A G in
      let r : ℕ = onward c A.first A.many in
      let at : ahead c A.first r ≡ A.many = ahead-onward c A.first A.many a s in
      let at' : ahead c B.first r ≡ A.many = ap (λ x. ahead c x r) (sym e) ∙ at in
      clash G.after (H.unnamed r (onward-below c A.first A.many a (omega arith)) (omega arith)))
      (λ l. l)

  -- so they are one
  by_first : (A B : Arc) → Gap c named A → Gap c named B → A.first ≡ B.first → A ≡ B
  by_first A B G H e = same-arc A B e (omega (arith, not-longer A B G H e, not-longer B A H G (sym e)))

  -- and so are two with any rank in common
  pub by-rank : (A B : Arc) → Gap c named A → Gap c named B → (r : ℕ) → r < c → On c A r → On c B r → A ≡ B
  by-rank A B G H r hr x y =
      let a : A.first < c = G.listed in
      let b : B.first < c = H.listed in
      let ab : ahead c A.first B.first < c = ahead-below c A.first B.first a b in
      let ba : ahead c B.first A.first < c = ahead-below c B.first A.first b a in
      by_first A B G H
      (either (below? (ahead c A.first r) (ahead c A.first B.first))
      (λ l. either (below? (ahead c B.first r) (ahead c B.first A.first))
      (λ m. absurd (omega (arith, ahead-round c A.first B.first r a b hr l, ahead-round c B.first A.first r b a hr m)))
      (λ m. sym (first-same B H A.first a G.before (omega arith))))
      (λ l. first-same A G B.first b H.before (omega arith)))

  -- ---- every rank looked at

  -- in a row from a gap's first rank on, as many ranks are not named as the gap has, where that many are looked at
  row-long : (A : Arc) → Gap c named A → (i k : ℕ) → i ≤ A.many → A.many ≤ i + k → unnamed_from c named k (onward c A.first i) + i ≡ A.many
  unfolding unnamed_from
  row-long A G i zero h l = omega arith
  row-long A G i (suc k) h l =
      let short : A.many < c = gap-short A G in
      let a : A.first < c = G.listed in
      let r : ℕ = onward c A.first i in
      either (same? i A.many)
      (λ e. rw (ap (λ j. named (onward c A.first j)) e ∙ G.after) (omega arith))
      (λ ne.
      let on : ahead c A.first r ≡ i = ahead-onward c A.first i a (omega arith) in
      let off : named r ≡ false = G.unnamed r (onward-below c A.first i a (omega arith)) (omega arith) in
      let next : onward c r 1 ≡ onward c A.first (suc i) = onward-more c A.first i a (omega arith) in
      rw (off, next) (omega (arith, row-long A G (suc i) k (omega arith) (omega arith))))

  -- so the gap that is found at its first rank is the gap itself
  found-itself : (A : Arc) → Gap c named A → record { first = A.first; many = unnamed_from c named c A.first } ≡ A
  found-itself A G =
      same-arc _ A refl
      (ap (unnamed_from c named c) (sym (onward-none c A.first G.listed)) ∙ omega (arith, row-long A G 0 c (omega arith) (omega (arith, gap-short A G))))

  -- a gap begins at a rank exactly if that is so
  tells-begins : (e : ℕ) → Tells (begins c named e) ((named e ≡ false) × (named (backward c e 1) ≡ true))
  unfolding begins
  tells-begins e = tells-and _ _ (tells-not (named e)) (tells-true (named (backward c e 1)))

  among-rising : (k x : ℕ) → Rising x (gaps_among c named k x)
  unfolding gaps_among
  among-rising zero x = tt
  among-rising (suc k) x =
      either (test (begins c named x))
      (λ e. rw e (omega arith, among-rising k (suc x)))
      (λ e. rw e (later x (gaps_among c named k (suc x)) (among-rising k (suc x))))
    where
      later : (lo : ℕ) (As : List Arc) → Rising (suc lo) As → Rising lo As
      later lo [] h = tt
      later lo (A ∷ As) h = (omega (arith, h.0), h.1)

  module _ (As : List Arc) (L : Gaps c named As) where
    -- each of the gaps is found
    in-among : (k x : ℕ) (A : Arc) → Gap c named A → x ≤ A.first → A.first < x + k → In A (gaps_among c named k x)
    unfolding gaps_among
    in-among zero x A G h l = absurd (omega arith)
    in-among (suc k) x A G h l =
        either (same? A.first x)
        (λ e.
        let b : begins c named x ≡ true = ap (begins c named) (sym e) ∙ (tells-begins A.first).1 (first-unnamed A G, G.before) in
        rw b (inl (sym (found-itself A G) ∙ ap (λ y. record { first = y; many = unnamed_from c named c y }) e)))
        (λ ne.
        let rest : In A (gaps_among c named k (suc x)) = in-among k (suc x) A G (omega arith) (omega arith) in
        either (test (begins c named x)) (λ b. rw b (inr rest)) (λ b. rw b rest))

    -- and nothing else is
    among_in : (k x : ℕ) → x + k ≤ c → (B : Arc) → In B (gaps_among c named k x) → In B As
    unfolding gaps_among
    among_in zero x h B i = absurd i
    among_in (suc k) x h B i =
        either (test (begins c named x))
        (λ b.
        let t = (tells-begins x).0 b in
        either (rw b at i)
        (λ e.
        let w = L.all x (omega arith) t.0 in
        let G : Gap c named w.0 = L.each w.0 w.1 in
        let at : w.0.first ≡ x = first-same w.0 G x (omega arith) t.1 w.2 in
        let same : B ≡ w.0 = e ∙ ap (λ y. record { first = y; many = unnamed_from c named c y }) (sym at) ∙ found-itself w.0 G in
        rw same w.1)
        (λ j. among_in k (suc x) (omega arith) B j))
        (λ b. among_in k (suc x) (omega arith) B (rw b at i))

    -- whatever list is the gaps, it is the one that is found
    pub gaps-found-so : gaps_of c named ≡ As
    unfolding gaps_of
    gaps-found-so =
        rising-only 0 0 (gaps_among c named c 0) As (among-rising c 0) L.rising (among_in c 0 (omega arith))
        (λ X i. in-among c 0 X (L.each X i) (omega arith) (omega (arith, (L.each X i).listed)))

  -- so there is one list of gaps
  pub only-gaps : (As Bs : List Arc) → Gaps c named As → Gaps c named Bs → As ≡ Bs
  only-gaps As Bs L K = sym (gaps-found-so As L) ∙ gaps-found-so Bs K

  -- ---- neighbours

  -- gaps that hold a rank and the rank after it are one: between two gaps a rank is named
  pub by-neighbours : (A B : Arc) → Gap c named A → Gap c named B → (r : ℕ) → r < c → On c A r → On c B (onward c r 1) → A ≡ B
  by-neighbours A B G H r hr x y =
      let a : A.first < c = G.listed in
      let d : ℕ = ahead c A.first r in
      let s : ℕ = onward c r 1 in
      let hs : s < c = onward-below c r 1 hr (omega arith) in
      let next : s ≡ onward c A.first (suc d) = ap (λ q. onward c q 1) (sym (onward-ahead c A.first r a hr)) ∙ onward-more c A.first d a (omega (arith, gap-short A G)) in
      either (same? (suc d) A.many)
      (λ e. clash G.after (ap named (ap (onward c A.first) (sym e) ∙ sym next) ∙ H.unnamed s hs y))
      (λ ne. by-rank A B G H s hs (omega (arith, ap (ahead c A.first) next, ahead-onward c A.first (suc d) a (omega (arith, gap-short A G)))) y)

  -- ---- no arc is longer

  module _ (As : List Arc) (L : Gaps c named As) (X : Arc) (h : X.first < c) (off : (r : ℕ) → r < c → On c X r → named r ≡ false) where
    -- rank i of an arc of which no rank is named, counted from 0, lies on some gap
    some-gap : (i : ℕ) → i < c → i < X.many → (A : Arc) × In A As × On c A (onward c X.first i)
    some-gap i k m =
        let b : onward c X.first i < c = onward-below c X.first i h (omega arith) in
        L.all (onward c X.first i) b (off (onward c X.first i) b (omega (arith, ahead-onward c X.first i h k)))

    -- and all of them lie on one
    one-gap : (i : ℕ) → i < c → i < X.many → (A : Arc) × In A As × On c A (onward c X.first 0) × On c A (onward c X.first i)
    one-gap zero k m = let w = some-gap 0 k m in (w.0, w.1, w.2, w.2)
    one-gap (suc i) k m =
        let v = one-gap i (omega arith) (omega arith) in
        let w = some-gap (suc i) k m in
        let b : onward c X.first i < c = onward-below c X.first i h (omega arith) in
        let on : On c w.0 (onward c (onward c X.first i) 1) = rw (onward-more c X.first i h (omega arith)) w.2 in
        let same : v.0 ≡ w.0 = by-neighbours v.0 w.0 (L.each v.0 v.1) (L.each w.0 w.1) (onward c X.first i) b v.3 on in
        (v.0, v.1, v.2, rw same w.2)

    on_one : (r : ℕ) → r < c → On c X r → (A : Arc) × In A As × On c A (onward c X.first 0) × On c A r
    on_one r l o =
        let v = one-gap (ahead c X.first r) (ahead-below c X.first r h l) o in
        (v.0, v.1, v.2, rw (onward-ahead c X.first r h l) at v.3)

    -- so an arc of which no rank is named lies on each gap that it has a rank in common with
    pub longest : (A : Arc) → In A As → (r : ℕ) → r < c → On c X r → On c A r → (q : ℕ) → q < c → On c X q → On c A q
    longest A i r lr xr ar q lq xq =
        let v = on_one r lr xr in
        let w = on_one q lq xq in
        let first : v.0 ≡ w.0 = by-rank v.0 w.0 (L.each v.0 v.1) (L.each w.0 w.1) _ (onward-below c X.first 0 h (omega arith)) v.2 w.2 in
        let same : A ≡ w.0 = by-rank A v.0 (L.each A i) (L.each v.0 v.1) r lr ar v.3 ∙ first in
        rw same w.3

-- ---- the same gaps for tests that agree

pub same-gaps : (c : ℕ) (a b : ℕ → Bool) (As : List Arc) → ((r : ℕ) → r < c → a r ≡ b r) → Gaps c a As → Gaps c b As
same-gaps c a b As same L = record {
  each = λ A i.
      let G : Gap c a A = L.each A i in
      record {
        listed = G.listed;
        some = G.some;
        unnamed = λ r h o. sym (same r h) ∙ G.unnamed r h o;
        before = sym (same (backward c A.first 1) (backward-below c A.first 1 G.listed (omega (arith, G.listed)))) ∙ G.before;
        after = sym (same (onward c A.first A.many) (onward-below c A.first A.many G.listed (omega (arith, gap-short c a A G)))) ∙ G.after;
      };
  all = λ r h e. L.all r h (same r h ∙ e);
  rising = L.rising;
}
