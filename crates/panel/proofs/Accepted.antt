-- The calls begin with the check of the panel: they pass its refusal on whole. What fits an accepted panel is accepted, and 17 is for what does not.
-- Assumes nothing.
use mathlib.Core.Path.{◌≡◌, refl}
use mathlib.Core.Bool.{Bool, true, false}
use mathlib.Core.List.{List}
use Prim.Native.Nat.{ℕ, zero, suc, ◌-◌, ◌≤◌}
use native.Mathlib.Omega.{arith}
use lib.ListN.{length, get_or}
use Rattle.listing.specs.Pattern.{entry}
use Rattle.words.specs.Told.{Spot, nowhere, accepted, refused}
use Rattle.words.specs.declared.Line.{Line}
use Rattle.pattern_check.specs.Calls.{check_as}
use Rattle.panel.specs.Calls.{on_panel, after_line, carry_of, carry_bytes}
use Rattle.words.specs.Shape.{line_fits}

module _ {A : Type 0} (most : ℕ) (p : List ℕ) (fits : Bool) (a : A) where
  -- a panel that is refused
  pub panel-refused : (k : ℕ) (s : Spot) → refused k s ≡ check_as false most p → refused k s ≡ on_panel most p fits a
  unfolding on_panel
  panel-refused k s e = rw (← e)

  -- what fits a panel
  pub fitting : accepted tt ≡ check_as false most p → fits ≡ true → accepted a ≡ on_panel most p fits a
  unfolding on_panel
  fitting e t = rw (← e, t)

  -- and what does not
  pub unfitting : accepted tt ≡ check_as false most p → fits ≡ false → refused 17 nowhere ≡ on_panel most p fits a
  unfolding on_panel
  unfitting e t = rw (← e, t)

-- ---- a line carried out

-- a panel that is refused stays as it is
pub carry-refused : (most : ℕ) (l : Line) (p : List ℕ) (k : ℕ) (s : Spot) → refused k s ≡ check_as false most p
    → (refused k s ≡ carry_of most l p) × (p ≡ carry_bytes most l p)
unfolding carry_of carry_bytes
carry-refused most l p k s e = let told = panel-refused most p (line_fits (length p) l) tt k s e in (told, rw (← told))

module _ (most : ℕ) (p : List ℕ) (sound : accepted tt ≡ check_as false most p) (l k : Line) (is : l ≡ k) where
  -- a line that fits is carried out
  pub carry-accepted : line_fits (length p) k ≡ true → (accepted tt ≡ carry_of most l p) × (after_line k p ≡ carry_bytes most l p)
  unfolding carry_of carry_bytes
  carry-accepted t = let told = fitting most p (line_fits (length p) k) tt sound t in rw is (told, rw (← told))

  -- one that does not fit is refused, and the panel stays as it is
  pub carry-unfitting : line_fits (length p) k ≡ false → (refused 17 nowhere ≡ carry_of most l p) × (p ≡ carry_bytes most l p)
  unfolding carry_of carry_bytes
  carry-unfitting t = let told = unfitting most p (line_fits (length p) k) tt sound t in rw is (told, rw (← told))

-- ---- look-ups

-- the port at jack j stands at index j - 1
pub jack-entry : (p : List ℕ) (j : ℕ) → 1 ≤ j → get_or p (j - 1) 0 ≡ entry p j
jack-entry p zero h = absurd (omega arith)
jack-entry p (suc j) h = let back : suc j - 1 ≡ j = omega arith in rw back refl
