-- 'The longest that a campaign writes is 45 bytes': no line of a campaign is longer (`at-most-45`), and one has 45 bytes (`longest-45`).
-- Assumes nothing.
use mathlib.Core.Path.{◌≡◌, refl, ap, ◌∙◌}
use mathlib.Core.List.{List, ◌∷◌, ◌++◌}
use Prim.Native.Nat.{ℕ, suc, ◌+◌, ◌≤◌, ◌<◌}
use native.Mathlib.Omega.{arith}
use lib.ListN.{length, length-append}
use Rattle.listing.specs.Count.{count}
use Rattle.listing.specs.Limits.{most_ports, largest64}
use Rattle.listing.proofs.Limits.{count-20}
use Rattle.words.specs.declared.Order.TheVariants.{Swap, Turn}
use Rattle.words.specs.declared.Line.{Line}
use Rattle.words.specs.declared.Line.TheVariants.{Movement, Seat, Mark, End}
use Rattle.text_numbers.specs.Decimal.{digits_of}
use Rattle.text_numbers.proofs.Lengths.{digits-at-most, digits_above, digits-64}
use Rattle.text_keys.specs.Parts.{comma}
use Rattle.line_format.specs.Format.{swapping, turning, seating, marking, ending, key, Numbers, listed, key_text, unended, line_text}
use Rattle.line_format.specs.Campaign.{OfCampaign, most_bytes}
use Rattle.line_format.proofs.Inverse.{text-length}

-- ---- lengths

-- a number, a comma and what follows
listed-length : (k : ℕ) (x : Numbers (suc k)) → length (listed (suc k) x) ≡ length (digits_of x.0) + suc (length (listed k x.1))
unfolding listed
listed-length k x = length-append (digits_of x.0) (comma ∷ listed k x.1)

-- one number
one-length : (n : ℕ) → length (listed 0 n) ≡ length (digits_of n)
unfolding listed
one-length n = refl

-- a key, what follows it, and the newline
line-length : (l : Line) (word t : List ℕ) → unended l ≡ word ++ t → length (line_text l) ≡ length word + length t + 1
line-length l word t e = text-length l ∙ ap (λ n. n + 1) (ap length e ∙ length-append word t)

-- ---- at most 45 bytes

-- jacks up to 20 have at most two digits, marks of 64 bits at most 20, and ranks below the count for 20 ports at most 18
pub at-most-45 : (l : Line) → OfCampaign most_ports largest64 (count most_ports) l → length (line_text l) ≤ most_bytes
unfolding unended key_text
at-most-45 (Movement (Swap a b)) h =
    omega (
      arith,
      line-length (Movement (Swap a b)) (key swapping) (listed 1 (a.0, b.0)) refl,
      listed-length 0 (a.0, b.0),
      one-length b.0,
      digits-at-most 1 a.0 (omega arith),
      digits-at-most 1 b.0 (omega arith),
    )
at-most-45 (Movement (Turn a b c)) h =
    omega (
      arith,
      line-length (Movement (Turn a b c)) (key turning) (listed 2 (a.0, (b.0, c.0))) refl,
      listed-length 1 (a.0, (b.0, c.0)),
      listed-length 0 (b.0, c.0),
      one-length c.0,
      digits-at-most 1 a.0 (omega arith),
      digits-at-most 1 b.0 (omega arith),
      digits-at-most 1 c.0 (omega arith),
    )
at-most-45 (Seat j) h =
    omega (arith, line-length (Seat j) (key seating) (listed 0 j.0) refl, one-length j.0, digits-at-most 1 j.0 (omega arith))
at-most-45 (Mark m r) h =
    omega (
      arith,
      line-length (Mark m r) (key marking) (listed 1 (m, r)) refl,
      listed-length 0 (m, r),
      one-length r,
      digits-64 m h.0,
      digits-at-most 17 r (omega (arith, count-20)),
    )
at-most-45 (End m) h = omega (arith, line-length (End m) (key ending) (listed 0 m) refl, one-length m, digits-64 m h)

-- ---- 45 are attained

-- a mark with 20 digits at a rank with 18
pub mark-45 : (m r : ℕ) → 10000000000000000000 ≤ m → m ≤ largest64 → 100000000000000000 ≤ r → r < 1000000000000000000 → length (line_text (Mark m r)) ≡ 45
unfolding unended key_text
mark-45 m r long fits low high =
    omega (
      arith,
      line-length (Mark m r) (key marking) (listed 1 (m, r)) refl,
      listed-length 0 (m, r),
      one-length r,
      digits-64 m fits,
      digits_above 19 m (omega arith),
      digits-at-most 17 r (omega arith),
      digits_above 17 r (omega arith),
    )

-- the last mark of the longest plan, at the last rank of 20 ports
abbrev pub longest : Line
longest = Mark 14320234099086433935 895014631192902120

-- it is a campaign's
pub longest-of-campaign : OfCampaign most_ports largest64 (count most_ports) longest
longest-of-campaign = (omega arith, omega (arith, count-20))

-- it has 45 bytes
pub longest-45 : length (line_text longest) ≡ most_bytes
longest-45 = mark-45 14320234099086433935 895014631192902120 (omega arith) (omega arith) (omega arith) (omega arith)
