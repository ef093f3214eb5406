-- What the loop over the levels keeps: of the text of a pattern, the lines of the levels that are left and the line of its rank are still to be put
-- (`Telling`), from the first level on (`telling-first`), one level further (`telling-next`), and at the end (`rank_room`, `rank-put`).
-- Assumes nothing.
use mathlib.Core.Path.{◌≡◌, refl, sym, ap, subst, ◌∙◌}
use mathlib.Core.Bool.{Bool, true}
use mathlib.Core.List.{List, ◌∷◌, ◌++◌, append_assoc}
use Prim.Native.Nat.{ℕ, ◌+◌, ◌≤◌, ◌<◌}
use native.Mathlib.Nat.{zero-add}
use native.Mathlib.Omega.{arith}
use mir.Syntax.{w64}
use mir.Val.{Fits}
use lib.ListN.{length}
use lib.Seq.{length-take-le}
use Rattle.listing.specs.Pattern.{entry, Derangement}
use Rattle.listing.specs.Steps.{shorter, back, letter}
use Rattle.listing.specs.Rank.{rank}
use Rattle.listing.specs.Reading.{comes_first, passed}
use Rattle.listing.specs.Limits.{largest64}
use Rattle.listing.proofs.Limits.{count_most}
use Rattle.listing.proofs.Ranks.{rank_below}
use Rattle.listing_course.proofs.Courses.{shorter-fewer}
use Rattle.listing_levels.specs.Levels.{level_of, levels, total}
use Rattle.listing_levels.proofs.Levels.{levels-down, levels-none, levels-add-up, two-below}
use Rattle.line_putting.specs.Putting.{Puts}
use Rattle.line_putting.proofs.Putting.{Going, going-first, going-room, going_on, puts-as}
use Rattle.pattern_inverse.specs.Judged.{pattern_of}
use Rattle.pattern_inverse.specs.declared.types.Taken.{Taken}
use Rattle.pattern_levels.specs.Levels.{letter_of, end_of, Peeled}
use Rattle.pattern_levels.specs.declared.types.Came.{Came}
use Rattle.pattern_levels.proofs.Came.{as-came}
use Rattle.pattern_ranks.specs.Levels.{PlacedBy}
use Rattle.pattern_ranks.specs.declared.types.Level.{Level}
use Rattle.explaining.specs.Text.{level_text, levels_text, rank_text, why_text, most_explained}
use Rattle.explaining.proofs.Fitting.{why-fits}
use Rattle.explaining_levels.specs.Levels.{level_is}

-- t is what is left of the pattern p; `sum` was passed over on the way to it, and the lines for the levels so far are put
pub record Telling (p old : List ℕ) (t : Taken) (forward : Bool) (sum at : ℕ) (buf : List ℕ) : Type 0 where
  pub two : 2 ≤ t.ports
  pub below : rank (length p) p ≤ largest64
  pub short : length (why_text p) ≤ most_explained
  pub adds : sum + total (levels forward t.ports (pattern_of t)) ≡ rank (length p) p
  pub left : Going 0 (why_text p) old at (levels_text (levels forward t.ports (pattern_of t)) ++ rank_text (rank (length p) p)) buf

-- before the first level
pub telling-first : (t : Taken) (old : List ℕ) → 2 ≤ t.ports → t.ports ≤ length t.copy → most_explained ≤ length old
    → Telling (pattern_of t) old t true 0 0 old
unfolding why_text
telling-first t old two all room =
    let p = pattern_of t in
    let e : length p ≡ t.ports = length-take-le t.ports t.copy all in
    let most = t.fits in
    let D : Derangement (length p) p = subst (λ k. Derangement k p) (sym e) t.arrays.pattern in
    record {
      two = two;
      below = omega (arith, rank_below (length p) p D, count_most (length p) (omega arith));
      short = why-fits p (omega arith) D;
      adds = zero-add (total (levels true t.ports p)) ∙ ap (λ k. total (levels true k p)) (sym e) ∙ levels-add-up (length p) true p D;
      left =
          subst (λ k. Going 0 (why_text p) old 0 (levels_text (levels true k p) ++ rank_text (rank (length p) p)) old) e
          (going-first 0 (why_text p) old (omega (arith, why-fits p (omega arith) D, room)));
    }

module _ (p old : List ℕ) (t : Taken) (forward : Bool) (sum at : ℕ) (buf : List ℕ) (T : Telling p old t forward sum at buf) where
  -- ---- a level more
  module _ (w : Came) (l : Level) (u : Taken) (three : 3 ≤ t.ports) (S : Peeled t w u) (P : PlacedBy forward t.ports w l) where
    -- the step that was taken back is the pattern's, so this is its level, and what is left is the shorter pattern
    came : (letter t.ports (pattern_of t) ≡ letter_of w) × (entry (pattern_of t) t.ports ≡ end_of w)
    came = as-came w (letter t.ports (pattern_of t)) (entry (pattern_of t) t.ports) S.came

    told : level_is t.ports w l ≡ level_of forward t.ports (pattern_of t)
    told = λ k.
        record {
          ports = t.ports;
          last = sym came.1 k;
          by = sym came.0 k;
          forward = (P.read ∙ (λ j. comes_first forward (sym came.0 j) (sym came.1 j))) k;
          over = (P.over ∙ (λ j. passed forward (sym came.0 j) t.ports (sym came.1 j))) k;
        }

    ports : u.ports ≡ shorter (letter t.ports (pattern_of t)) t.ports
    ports = S.left ∙ ap (λ x. shorter x t.ports) (sym came.0)

    shown : pattern_of u ≡ back (letter t.ports (pattern_of t)) t.ports (pattern_of t)
    shown = S.shown ∙ ap (λ x. back x t.ports (pattern_of t)) (sym came.0)

    pub fewer : u.ports < t.ports
    fewer = rw S.left (shorter-fewer (letter_of w) t.ports (omega arith))

    -- it is the first of those that are left
    next : levels forward t.ports (pattern_of t) ≡ level_is t.ports w l ∷ levels l.forward u.ports (pattern_of u)
    next =
        levels-down forward t.ports (pattern_of t) three
        ∙ (λ k. sym told k ∷ levels (sym told k).forward (sym ports k) (sym shown k))

    -- so its line comes first
    line : let more = levels_text (levels l.forward u.ports (pattern_of u)) ++ rank_text (rank (length p) p) in
        Going 0 (why_text p) old at (level_text (level_is t.ports w l) ++ more) buf
    unfolding levels_text
    line =
        subst (λ x. Going 0 (why_text p) old at x buf)
        (ap (λ ls. levels_text ls ++ rank_text (rank (length p) p)) next ∙ append_assoc (level_text (level_is t.ports w l)) _ (rank_text (rank (length p) p)))
        T.left

    -- and what it passes over is added
    added : sum + l.passed + total (levels l.forward u.ports (pattern_of u)) ≡ rank (length p) p
    unfolding total
    added = omega (arith, ap total next, T.adds)

    pub level-room : at + length (level_text (level_is t.ports w l)) ≤ length buf
    level-room = going-room (level_text (level_is t.ports w l)) _ line refl

    pub sum_fits : Fits w64 (sum + l.passed)
    sum_fits = omega (arith, added, T.below)

    pub telling-next : (after : ℕ) (rest : List ℕ) → Puts at (level_text (level_is t.ports w l)) buf after rest
        → Telling p old u l.forward (sum + l.passed) after rest
    telling-next after rest Q =
        record {
          two = rw ports (two-below t.ports (pattern_of t) three t.arrays.pattern);
          below = T.below;
          short = T.short;
          adds = added;
          left = going_on (level_text (level_is t.ports w l)) _ line refl Q;
        }

  -- ---- none is left
  module _ (few : t.ports < 3) where
    last : Going 0 (why_text p) old at (rank_text (rank (length p) p)) buf
    unfolding levels_text
    last =
        subst (λ ls. Going 0 (why_text p) old at (levels_text ls ++ rank_text (rank (length p) p)) buf) (levels-none t.ports forward (pattern_of t) (omega arith))
        T.left

    all-added : sum ≡ rank (length p) p
    unfolding total
    all-added = omega (arith, ap total (levels-none t.ports forward (pattern_of t) (omega arith)), T.adds)

    pub rank_room : at + length (rank_text sum) ≤ length buf
    rank_room = rw all-added last.room

    pub rank-put : (after : ℕ) (rest : List ℕ) → Puts at (rank_text sum) buf after rest → Puts 0 (why_text p) old after rest × (after ≤ most_explained)
    rank-put after rest P =
        let all = last.comes after rest (puts-as (ap rank_text all-added) P) in
        (all, omega (arith, all.place, T.short))
