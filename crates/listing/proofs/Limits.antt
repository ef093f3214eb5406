-- What the list keeps to on the device with 20 ports: counts, marks and steps fit 64 bits. The only laws here that know the device.
-- Assumes nothing.
use mathlib.Core.Path.{◌≡◌, refl}
use Prim.Native.Nat.{ℕ, zero, suc, ◌+◌, ◌*◌, ◌^◌, ◌%◌, ◌≤◌, ◌<◌}
use native.Mathlib.Omega.{arith}
use lib.Dec.{lit<, lit≤}
use lib.IntN.{pos, neg_ℤ}
use Rattle.listing.specs.Count.{count}
use Rattle.listing.specs.Rank.{from_end}
use Rattle.listing.specs.Around.{around}
use Rattle.listing.specs.Limits.{most_ports, most_legs, largest64, lowest64}
use Rattle.listing.proofs.Counts.{count-grows}
use Rattle.listing.proofs.Around.{around-behind}

-- the limits by their numbers: 20 ports, 16 legs, numbers below 2^64, signed numbers from -2^63 on
pub limits-hold : (most_ports ≡ 20) × (most_legs ≡ 16) × (suc largest64 ≡ 2 ^ 64) × (lowest64 ≡ neg_ℤ (pos (2 ^ 63)))
limits-hold = (refl, refl, refl, refl)

-- the count for 20 ports
pub count-20 : count most_ports ≡ 895014631192902121
unfolding count
count-20 = refl

-- no count up to 20 ports is larger
pub count_most : (n : ℕ) → n ≤ most_ports → count n ≤ 895014631192902121
unfolding count
count_most zero h = lit≤ tt
count_most (suc m) h = count-grows m most_ports h

-- so each fits 64 bits, and so does the sum of two
pub counts-fit : (n : ℕ) → n ≤ most_ports → count n + count n ≤ largest64
counts-fit n h = omega (arith, count_most n h)

-- the count for 21 ports does not: hence the limit
pub count-21 : largest64 < count (suc most_ports)
unfolding count
count-21 = lit< tt

-- the most marks of a plan: 16 legs round the whole circuit of 20 ports
pub most-marks : most_legs * count most_ports ≡ 14320234099086433936
unfolding count
most-marks = refl

-- they fit 64 bits
pub marks-fit : most_legs * count most_ports ≤ largest64
unfolding count
marks-fit = lit≤ tt

-- the lowest signed step is 9223372036854775807 steps back and one more: no number in it passes 64 bits
pub lowest_step : (n r : ℕ) → 0 < count n → around (count n) r lowest64 ≡ (r + from_end (count n) (9223372036854775807 % count n)) % count n
lowest_step n r h = around-behind (count n) r 9223372036854775807 h
