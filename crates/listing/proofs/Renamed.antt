-- Orders with their jacks renamed. What several orders do is one question about which jack gets the port of which, so it can be tried on the panel
-- (1, 2, .., m) and holds on every panel, for any m different jacks in the place of 1, 2, .., m: `same-orders`. The moves of the list are proved by it.
-- Assumes nothing.
use mathlib.Core.Path.{◌≡◌, refl, sym, ap, ◌∙◌}
use mathlib.Core.Logic.{◌≢◌, ◌⊎◌, inl, inr}
use mathlib.Core.List.{List, [], ◌∷◌, map}
use Prim.Native.Nat.{ℕ, zero, suc}
use native.Mathlib.Omega.{arith}
use lib.ListN.{length}
use Rattle.listing.specs.Numbers.{Among, is}
use Rattle.listing.specs.Pattern.{entry, tabulate}
use Rattle.listing.specs.Orders.{Order, swap, turn, source, carry, carry_all}
use Rattle.listing.proofs.Numbers.{either, same?, is_same, is-other}
use Rattle.listing.proofs.Panels.{same_entries, entry-tabulate, length-tabulate, length-carry, entry-carry, length-carry_all}
use Rattle.listing.proofs.Sources.{Each, source-each, source-unnamed}

-- ---- names for the jacks of an order

-- P holds of each jack that several orders name
abbrev pub EachOf : (ℕ → Type 0) → List Order → Type 0
EachOf P [] = Unit {0}
EachOf P (o ∷ os) = Each P o × EachOf P os

-- the order with the name f a for each jack a
abbrev pub renamed : (ℕ → ℕ) → Order → Order
renamed f (swap a b) = swap (f a) (f b)
renamed f (turn a b c) = turn (f a) (f b) (f c)

-- a choice between names is the name of the choice
is-renamed : (f : ℕ → ℕ) (j a x y : ℕ) → (f j ≡ f a → j ≡ a) → is (f j) (f a) (f x) (f y) ≡ f (is j a x y)
is-renamed f j a x y inj =
    either (same? j a)
    (λ e. is_same (f j) (f a) _ _ (ap f e) ∙ ap f (sym (is_same j a x y e)))
    (λ e. is-other (f j) (f a) _ _ (λ g. e (inj g)) ∙ ap f (sym (is-other j a x y e)))

-- renaming goes with sources, if no other jack that is named gets the name of jack j
pub source-renamed : (P : ℕ → Type 0) (f : ℕ → ℕ) (o : Order) (j : ℕ) → ((a : ℕ) → P a → f j ≡ f a → j ≡ a) → Each P o
    → source (renamed f o) (f j) ≡ f (source o j)
unfolding source
source-renamed P f (swap a b) j inj e = rw (is-renamed f j b a j (inj b e.1)) (is-renamed f j a b _ (inj a e.0))
source-renamed P f (turn a b c) j inj e =
    rw (is-renamed f j c a j (inj c e.2)) (rw (is-renamed f j b c _ (inj b e.1)) (is-renamed f j a b _ (inj a e.0)))

-- ---- several orders

-- the jack whose port jack j gets by several orders, the first one first
abbrev pub sources : List Order → ℕ → ℕ
sources [] j = j
sources (o ∷ os) j = source o (sources os j)

-- it is a jack that the orders name, or the jack itself
pub sources-each : (P : ℕ → Type 0) (os : List Order) (j : ℕ) → EachOf P os → P j → P (sources os j)
sources-each P [] j e h = h
sources-each P (o ∷ os) j e h = source-each P o (sources os j) e.0 (sources-each P os j e.1 h)

-- each jack has the port of its source
pub entry-carry_all : (os : List Order) (p : List ℕ) (j : ℕ) → EachOf (Among (length p)) os → Among (length p) j
    → entry (carry_all os p) j ≡ entry p (sources os j)
unfolding carry_all
entry-carry_all [] p j e h = refl
entry-carry_all (o ∷ os) p j e h =
    entry-carry_all os (carry o p) j (rw (length-carry o p) e.1) (rw (length-carry o p) h)
    ∙ entry-carry o p (sources os j) (sources-each (Among (length p)) os j e.1 h)

-- what follows of a jack follows of each that is named
each-then : (P Q : ℕ → Type 0) (f : ℕ → ℕ) → ((a : ℕ) → P a → Q (f a)) → (o : Order) → Each P o → Each Q (renamed f o)
each-then P Q f g (swap a b) e = (g a e.0, g b e.1)
each-then P Q f g (turn a b c) e = (g a e.0, g b e.1, g c e.2)

-- and of each that several orders name
each-of-then : (P Q : ℕ → Type 0) (f : ℕ → ℕ) → ((a : ℕ) → P a → Q (f a)) → (os : List Order) → EachOf P os → EachOf Q (map (renamed f) os)
each-of-then P Q f g [] e = tt
each-of-then P Q f g (o ∷ os) e = (each-then P Q f g o e.0, each-of-then P Q f g os e.1)

-- ---- names from a list of jacks

-- x is none of the jacks of w
abbrev pub Away : ℕ → List ℕ → Type 0
Away x [] = Unit {0}
Away x (y ∷ w) = (x ≢ y) × Away x w

-- w has different jacks of 1..n
abbrev pub Different : ℕ → List ℕ → Type 0
Different n [] = Unit {0}
Different n (x ∷ w) = Among n x × Away x w × Different n w

-- a jack away from the list is none of its entries
away-entry : (x : ℕ) (w : List ℕ) → Away x w → (u : ℕ) → Among (length w) u → x ≢ entry w u
away-entry x [] d u h = absurd (omega arith)
away-entry x (y ∷ w) d zero h = absurd (omega arith)
away-entry x (y ∷ w) d (suc zero) h = d.0
away-entry x (y ∷ w) d (suc (suc u)) h = away-entry x w d.1 (suc u) (omega arith)

-- the entries of the list are jacks of 1..n
entry-among : (n : ℕ) (w : List ℕ) → Different n w → (u : ℕ) → Among (length w) u → Among n (entry w u)
entry-among n [] d u h = absurd (omega arith)
entry-among n (x ∷ w) d zero h = absurd (omega arith)
entry-among n (x ∷ w) d (suc zero) h = d.0
entry-among n (x ∷ w) d (suc (suc u)) h = entry-among n w d.2 (suc u) (omega arith)

-- no jack stands twice in the list
entry-apart : (n : ℕ) (w : List ℕ) → Different n w → (u v : ℕ) → Among (length w) u → Among (length w) v → entry w u ≡ entry w v → u ≡ v
entry-apart n [] d u v hu hv e = absurd (omega arith)
entry-apart n (x ∷ w) d zero v hu hv e = absurd (omega arith)
entry-apart n (x ∷ w) d (suc u) zero hu hv e = absurd (omega arith)
entry-apart n (x ∷ w) d (suc zero) (suc zero) hu hv e = refl
entry-apart n (x ∷ w) d (suc zero) (suc (suc v)) hu hv e = absurd (away-entry x w d.1 (suc v) (omega arith) e)
entry-apart n (x ∷ w) d (suc (suc u)) (suc zero) hu hv e = absurd (away-entry x w d.1 (suc u) (omega arith) (sym e))
entry-apart n (x ∷ w) d (suc (suc u)) (suc (suc v)) hu hv e = ap suc (entry-apart n w d.2 (suc u) (suc v) (omega arith) (omega arith) e)

-- a jack is in the list or away from it
listed? : (w : List ℕ) (j : ℕ) → ((u : ℕ) × Among (length w) (suc u) × (entry w (suc u) ≡ j)) ⊎ Away j w
listed? [] j = inr tt
listed? (x ∷ w) j =
    either (same? j x)
    (λ e. inl (0, omega arith, sym e))
    (λ e. either (listed? w j) (λ c. inl (suc c.0, omega arith, c.2)) (λ d. inr (e, d)))

-- `os` on the names of w
abbrev pub on : List ℕ → List Order → List Order
on w os = map (renamed (entry w)) os

module _ (n : ℕ) (w : List ℕ) (different : Different n w) where
  -- the source of a name is the name of the source
  sources-on : (os : List Order) → EachOf (Among (length w)) os → (u : ℕ) → Among (length w) u → sources (on w os) (entry w u) ≡ entry w (sources os u)
  sources-on [] e u h = refl
  sources-on (o ∷ os) e u h =
      let s : Among (length w) (sources os u) = sources-each (Among (length w)) os u e.1 h in
      ap (source (renamed (entry w) o)) (sources-on os e.1 u h)
      ∙ source-renamed (Among (length w)) (entry w) o (sources os u) (λ a ha. entry-apart n w different (sources os u) a s ha) e.0

  -- a jack that is no name is its own source
  sources-away : (os : List Order) → EachOf (Among (length w)) os → (j : ℕ) → Away j w → sources (on w os) j ≡ j
  sources-away [] e j d = refl
  sources-away (o ∷ os) e j d =
      ap (source (renamed (entry w) o)) (sources-away os e.1 j d)
      ∙ source-unnamed (renamed (entry w) o) j (each-then (Among (length w)) (λ a. j ≢ a) (entry w) (away-entry j w d) o e.0)

  -- orders that have the same sources by their numbers have the same sources by their names
  same-sources : (os rs : List Order) → EachOf (Among (length w)) os → EachOf (Among (length w)) rs
      → ((u : ℕ) → Among (length w) u → sources os u ≡ sources rs u) → (j : ℕ) → sources (on w os) j ≡ sources (on w rs) j
  same-sources os rs eo er same j =
      either (listed? w j)
      (λ c. let u : ℕ = suc c.0 in
      ap (sources (on w os)) (sym c.2) ∙ sources-on os eo u c.1 ∙ ap (entry w) (same u c.1) ∙ sym (sources-on rs er u c.1)
      ∙ ap (sources (on w rs)) c.2)
      (λ d. sources-away os eo j d ∙ sym (sources-away rs er j d))

-- ---- the law

-- the panel (1, 2, .., m)
unfoldable pub plain : ℕ → List ℕ
plain m = tabulate m (λ j. j)

-- after orders, a jack of the plain panel shows its own source
entry-plain : (m : ℕ) (os : List Order) → EachOf (Among m) os → (u : ℕ) → Among m u → entry (carry_all os (plain m)) u ≡ sources os u
unfolding plain
entry-plain m os e u h =
    let long : length (tabulate m (λ j. j)) ≡ m = length-tabulate m (λ j. j) in
    entry-carry_all os (tabulate m (λ j. j)) u (rw long e) (rw long h) ∙ entry-tabulate m (λ j. j) (sources os u) (sources-each (Among m) os u e h)

-- orders that do the same to the panel (1, 2, .., m) do the same to every panel, on any m different jacks in the place of 1, 2, .., m
pub same-orders : (n : ℕ) (w : List ℕ) → Different n w → (os rs : List Order) → EachOf (Among (length w)) os → EachOf (Among (length w)) rs
    → carry_all os (plain (length w)) ≡ carry_all rs (plain (length w)) → (p : List ℕ) → length p ≡ n → carry_all (on w os) p ≡ carry_all (on w rs) p
same-orders n w different os rs eo er same p long =
    same_entries (carry_all (on w os) p) (carry_all (on w rs) p) (length-carry_all (on w os) p ∙ sym (length-carry_all (on w rs) p)) (λ j h.
    let here : Among (length p) j = rw (length-carry_all (on w os) p) at h in
    entry-carry_all (on w os) p j (each os eo) here
    ∙ ap (entry p) (same-sources n w different os rs eo er agree j)
    ∙ sym (entry-carry_all (on w rs) p j (each rs er) here))
  where
    each : (qs : List Order) → EachOf (Among (length w)) qs → EachOf (Among (length p)) (on w qs)
    each qs e = rw long (each-of-then (Among (length w)) (Among n) (entry w) (entry-among n w different) qs e)

    agree : (u : ℕ) → Among (length w) u → sources os u ≡ sources rs u
    agree u h = sym (entry-plain (length w) os eo u h) ∙ ap (λ (q : List ℕ). entry q u) same ∙ entry-plain (length w) rs er u h
