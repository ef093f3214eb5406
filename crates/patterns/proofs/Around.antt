-- The signed step by the sign of its number: what the code computes.
-- Assumes nothing.
use mathlib.Core.Path.{◌≡◌, sym, ap, ◌∙◌}
use mathlib.Core.Bool.{true, false}
use Prim.Native.Nat.{ℕ, ◌+◌, ◌-◌, ◌%◌, ◌<◌}
use lib.IntN.{ℤ}
use Rattle.listing.specs.Around.{around}
use Rattle.listing.proofs.Around.{around-ahead, around-back}
use Rattle.words.specs.Signs.{by_sign}
use Rattle.words.specs.declared.Signed.{Signed}
use Rattle.words.proofs.BySign.{goes-on, goes_back}

module _ (c r : ℕ) {s : Signed} (z : ℤ) (e : s ≡ by_sign z) where
  -- so many steps on
  pub steps_on : s.back ≡ false → (r + s.magnitude % c) % c ≡ around c r z
  steps_on b = sym (around-ahead c r s.magnitude) ∙ ap (around c r) (goes-on z e b)

  -- so many steps back
  pub steps_back : 0 < c → s.back ≡ true → (r + (c - s.magnitude % c)) % c ≡ around c r z
  steps_back h b =
      let g = goes_back z e b in
      ap (λ m. (r + (c - m % c)) % c) g.one_more ∙ sym (around-back c r g.less h) ∙ ap (around c r) g.is
