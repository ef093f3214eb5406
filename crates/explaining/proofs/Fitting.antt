-- How long the text of a pattern is: at most 1,104 bytes on the device with 20 ports (`why-fits`), since the line of a level has at most 60 and there are at
-- most 18.
-- Assumes nothing.
use mathlib.Core.Path.{refl}
use mathlib.Core.Bool.{Bool, true}
use mathlib.Core.List.{List, [], ◌∷◌, ◌++◌}
use Prim.Native.Nat.{ℕ, suc, ◌*◌, ◌-◌, ◌≤◌}
use native.Mathlib.Omega.{arith}
use lib.ListN.{length, length-append}
use Rattle.listing.specs.Pattern.{Derangement}
use Rattle.listing.specs.Count.{count}
use Rattle.listing.specs.Steps.{shorter, back, letter}
use Rattle.listing.specs.Rank.{rank}
use Rattle.listing.specs.Limits.{most_ports}
use Rattle.listing.proofs.Limits.{count_most}
use Rattle.listing.proofs.Places.{turned-below}
use Rattle.listing.proofs.Shorter.{letter-back}
use Rattle.listing.proofs.Ranks.{rank_below}
use Rattle.listing.proofs.Reading.{rank-read}
use Rattle.listing_course.proofs.Courses.{shorter-fewer}
use Rattle.listing_levels.specs.Levels.{level_of, levels}
use Rattle.listing_levels.proofs.Levels.{levels-first, levels-none, levels-down}
use Rattle.text_numbers.specs.Decimal.{digits_of}
use Rattle.text_numbers.proofs.Lengths.{digits-at-most}
use Rattle.text_keys.specs.Parts.{newline}
use Rattle.line_refusal.specs.Words.{quoted}
use Rattle.explaining.specs.Text.{level_text, levels_text, rank_text, why_text, most_explained}
use Rattle.explaining.proofs.Longest.{Short, key-length, level-60}

-- the level of a pattern is so
level-short : (forward : Bool) (m : ℕ) (p : List ℕ) → let n = suc (suc (suc m)) in n ≤ most_ports → Derangement n p → Short (level_of forward n p)
level-short forward m p most D =
    let n = suc (suc (suc m)) in
    let below = turned-below forward (count n) (rank n p) (rank_below n p D) in
    record {
      ports = most;
      last = omega (arith, D.permutation.ports n (omega arith));
      over = omega (arith, rank-read forward (suc m) p (letter n p) D refl, below, count_most n most);
    }

-- so the levels of a pattern take at most 60 bytes each
levels-60 : (n : ℕ) (forward : Bool) (p : List ℕ) → n ≤ most_ports → Derangement n p → length (levels_text (levels forward n p)) ≤ 60 * (n - 2)
unfolding levels_text
levels-60 =
    levels-first (λ n. (forward : Bool) (p : List ℕ) → n ≤ most_ports → Derangement n p → length (levels_text (levels forward n p)) ≤ 60 * (n - 2))
    (λ n h forward p most D. rw (levels-none n forward p h) (omega arith))
    (λ m shorter-ones forward p most D.
    let n = suc (suc (suc m)) in
    let l = level_of forward n p in
    let t = back (letter n p) n p in
    let fewer = shorter-fewer (letter n p) n (omega arith) in
    rw (levels-down forward n p (omega arith))
    (omega (
      arith,
      length-append (level_text l) (levels_text (levels l.forward (shorter (letter n p) n) t)),
      level-60 l (level-short forward m p most D),
      shorter-ones (letter n p) l.forward t (omega (arith, fewer)) (letter-back (suc m) p D).0,
      fewer,
    )))

-- and with the line of the rank all of it fits
pub why-fits : (p : List ℕ) → length p ≤ most_ports → Derangement (length p) p → length (why_text p) ≤ most_explained
unfolding why_text rank_text
why-fits p most D =
    let n = length p in
    let r = rank n p in
    let line = quoted "rank=" ++ digits_of r in
    omega (
      arith,
      length-append (levels_text (levels true n p)) (line ++ (newline ∷ [])),
      length-append line (newline ∷ []),
      length-append (quoted "rank=") (digits_of r),
      key-length.3,
      levels-60 n true p most D,
      digits-at-most 17 r (omega (arith, rank_below n p D, count_most n most)),
    )
