-- What the look-ups say of the panel: what is accepted and when, the port at a jack, the jack that holds a port, and that the two are each other's inverse.
-- Assumes nothing.
use mathlib.Core.Path.{◌≡◌, refl, sym}
use mathlib.Core.Bool.{Bool, true, false, cond, true≢false}
use mathlib.Core.List.{List}
use Prim.Native.Nat.{ℕ}
use lib.ListN.{length}
use Rattle.listing.specs.Numbers.{Among}
use Rattle.listing.specs.Pattern.{entry}
use Rattle.words.specs.Told.{Spot, nowhere, Told, accepted, refused, then}
use Rattle.words.specs.Shape.{one_of}
use Rattle.words.proofs.Shape.{one-of, among_one}
use Rattle.pattern_check.specs.Faults.{seek}
use Rattle.pattern_check.specs.Calls.{check_as}
use Rattle.pattern_check.proofs.Accepted.{Panel, accepted-panel, panel-accepted}
use Rattle.pattern_carry.proofs.Held.{held, only-held}
use Rattle.panel.specs.Calls.{on_panel, may_ask, port_of, jack_of}
use Rattle.panel.proofs.Accepted.{fitting}

-- ---- what is accepted, and when

parts : {A : Type 0} (t : Told (Unit {0})) (fits : Bool) (a b : A) → accepted a ≡ then t (λ ok. cond fits (accepted b) (refused 17 nowhere))
    → (accepted tt ≡ t) × (fits ≡ true) × (a ≡ b)
parts (accepted ok) true a b e = (refl, refl, cc)
parts (accepted ok) false a b e = absurd (true≢false (cc))
parts (refused k s) fits a b e = absurd (true≢false (cc))

refusal-on : {A : Type 0} (t : Told (Unit {0})) (fits : Bool) (a : A) {k : ℕ} {s : Spot}
    → refused k s ≡ then t (λ ok. cond fits (accepted (tt {0})) (refused 17 nowhere)) → refused k s ≡ then t (λ ok. cond fits (accepted a) (refused 17 nowhere))
refusal-on (accepted ok) true a e = absurd (true≢false (cc))
refusal-on (accepted ok) false a e = cc
refusal-on (refused i r) fits a e = cc

module _ {A : Type 0} (most : ℕ) (p : List ℕ) (fits : Bool) where
  -- an accepted call found a permutation of 2 to `most` ports and something that fits it, and gives what is defined
  pub told-fits : (a b : A) → accepted a ≡ on_panel most p fits b → Panel most p × (fits ≡ true) × (a ≡ b)
  unfolding on_panel
  told-fits a b e = let t = parts (check_as false most p) fits a b e in (accepted-panel most p t.0, t.1, t.2)

  -- and on each of these it is accepted, with a port at its own jack or without
  pub fits_told : (a : A) → Panel most p → fits ≡ true → accepted a ≡ on_panel most p fits a
  fits_told a P t = fitting most p fits a (panel-accepted most p P) t

-- ---- a panel is asked for one of its numbers

module _ (most : ℕ) (p : List ℕ) (x : ℕ) where
  -- where it may be, it is a panel that has the number
  pub asked : accepted tt ≡ may_ask most p x → Panel most p × Among (length p) x
  asked e = let t = told-fits most p (one_of (length p) x) tt tt e in (t.0, one-of (length p) x t.1)

  -- and answers
  pub answered : {A : Type 0} (a : A) → accepted tt ≡ may_ask most p x → accepted a ≡ on_panel most p (one_of (length p) x) a
  answered a e = let t = asked e in fits_told most p (one_of (length p) x) a t.0 (among_one (length p) x t.1)

  -- where it may not, the refusal is handed on whole
  pub not-asked : {A : Type 0} (a : A) {k : ℕ} {s : Spot} → refused k s ≡ may_ask most p x → refused k s ≡ on_panel most p (one_of (length p) x) a
  unfolding on_panel
  not-asked a e = refusal-on (check_as false most p) (one_of (length p) x) a e

-- ---- the port at a jack

pub port-told : (most : ℕ) (p : List ℕ) (j v : ℕ) → accepted v ≡ port_of most p j → Panel most p × Among (length p) j × (entry p j ≡ v)
unfolding port_of
port-told most p j v e = let t = told-fits most p (one_of (length p) j) v (entry p j) e in (t.0, one-of (length p) j t.1, sym t.2)

pub told-port : (most : ℕ) (p : List ℕ) (j : ℕ) → Panel most p → Among (length p) j → accepted (entry p j) ≡ port_of most p j
unfolding port_of
told-port most p j P h = fits_told most p (one_of (length p) j) (entry p j) P (among_one (length p) j h)

-- ---- the jack that holds a port

pub jack-told : (most : ℕ) (p : List ℕ) (v j : ℕ) → accepted j ≡ jack_of most p v → Panel most p × Among (length p) j × (entry p j ≡ v)
unfolding jack_of
jack-told most p v j e =
    let t = told-fits most p (one_of (length p) v) j (seek p v 1 (length p)) e in
    let f = held p t.0.is v (one-of (length p) v t.1) in
    rw t.2 (t.0, f.0, f.1)

pub told-jack : (most : ℕ) (p : List ℕ) (j : ℕ) → Panel most p → Among (length p) j → accepted j ≡ jack_of most p (entry p j)
unfolding jack_of
told-jack most p j P h =
    rw (only-held p P.is (entry p j) j h refl)
    (fits_told most p (one_of (length p) (entry p j)) j P (among_one (length p) (entry p j) (P.is.ports j h)))

-- ---- the look-ups are inverse

-- the jack that holds the port at jack j is j
pub port-jack : (most : ℕ) (p : List ℕ) (j v : ℕ) → accepted v ≡ port_of most p j → accepted j ≡ jack_of most p v
port-jack most p j v e = let t = port-told most p j v e in rw t.2 at (told-jack most p j t.0 t.1)

-- the port at the jack that holds port v is v
pub jack-port : (most : ℕ) (p : List ℕ) (j v : ℕ) → accepted j ≡ jack_of most p v → accepted v ≡ port_of most p j
jack-port most p j v e = let t = jack-told most p v j e in rw t.2 at (told-port most p j t.0 t.1)
