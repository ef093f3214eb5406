-- The move that a course gives leads one place on in the list, and so it is the move beside its pattern. Where the shorter list ends, the part of the block
-- that it makes is over: the row of the level leads to the first pattern of the part that comes next.
-- Assumes nothing.
use mathlib.Core.Path.{◌≡◌, refl, sym, ap, ◌∙◌, subst}
use mathlib.Core.Logic.{◌≢◌}
use mathlib.Core.Bool.{Bool, true, false, not, cond}
use mathlib.Core.List.{List}
use mathlib.Core.Option.{Option, none, some}
use Prim.Native.Nat.{ℕ, zero, suc, ◌+◌, ◌*◌, ◌-◌, ◌≤◌, ◌<◌}
use native.Mathlib.Omega.{arith}
use borrow.Author.Tests.{eq-eqb, ne_eqb, not-true, not-false}
use Rattle.listing.specs.Numbers.{Among, before, odd, is, trade, raise, lower}
use Rattle.listing.specs.Pattern.{entry, tabulate, Derangement}
use Rattle.listing.specs.Count.{count}
use Rattle.listing.specs.Steps.{Letter, by_a, by_b, shorter, step, step_a, step_b, un_a, un_b}
use Rattle.listing.specs.Listing.{joined, block, blocks, listing, at}
use Rattle.listing.specs.Rank.{from_end, per_block, turned, place, rank}
use Rattle.listing.specs.Reading.{other, comes_first, passed}
use Rattle.listing.specs.Orders.{Move, Leads, InForm, inverse}
use Rattle.listing.specs.Joins.{hop}
use Rattle.listing.specs.Neighbours.{rank_beside, move_beside}
use Rattle.listing.proofs.Numbers.{either, same?, suc-before, from-two}
use Rattle.listing.proofs.Counts.{count-2, count-pos, count-blocks}
use Rattle.listing.proofs.Places.{turned-twice, turned-below}
use Rattle.listing.proofs.Shorter.{step-derangement}
use Rattle.listing.proofs.Ranks.{rank_step, at-derangement, rank-at, rank_below, at-rank}
use Rattle.listing.proofs.Reading.{place_read}
use Rattle.listing.proofs.Ends.{at_home, at_last}
use Rattle.listing.proofs.Moves.{leads-back}
use Rattle.listing.proofs.Lifting.{leads-a, leads-b}
use Rattle.listing.proofs.Rows.{hop-odd, hop-even}
use Rattle.listing.proofs.Hops.{hop_a-leads, hop_b-leads}
use Rattle.listing.proofs.Closing.{closing-leads}
use Rattle.listing.proofs.Joining.{join-leads}
use Rattle.listing.proofs.Neighbours.{next-on, next-round, previous-back, previous-round, turn-3, only-beside}
use Rattle.listing_course.specs.Course.{built, Course, CourseOf}
use Rattle.listing_course.specs.Onward.{read_at, lifted_by, join_from, hop_from, on_level, goes_on, or_closing, bottom_read, course_move, Next, On}
use Rattle.listing_course.proofs.Courses.{course-front, built-pattern, up-a, up-b, has-course}
use Rattle.listing_course.proofs.Onward.{comes-twice, comes-other, comes-next, comes_back, read-a, read-b, read-top, goes-two, goes-a, goes-b}

-- ---- what is passed over before a part, read f

-- the two parts are the block
parts : (w : Letter) (n : ℕ) → count (shorter w n) + count (shorter (other w) n) ≡ per_block n
parts by_a n = refl
parts by_b n = omega arith

-- before the first part of block i the blocks before it
passed_first : (f : Bool) (w : Letter) (n i : ℕ) → comes_first f w i ≡ true → passed f w n i ≡ cond f (before i) (n - suc i) * per_block n
unfolding passed
passed_first f w n i e = rw e (omega arith)

-- and after the second part the block too
passed-second : (f : Bool) (w : Letter) (n i : ℕ) → comes_first f w i ≡ false
    → passed f w n i + count (shorter w n) ≡ suc (cond f (before i) (n - suc i)) * per_block n
unfolding passed
passed-second f w n i e = rw e (omega (arith, parts w n))

-- the place of the pattern that a step makes
place-step : (f : Bool) (w : Letter) (m i : ℕ) (t : List ℕ) → Among (suc m) i → Derangement (shorter w (suc (suc m))) t
    → turned f (count (suc (suc m))) (rank (suc (suc m)) (step w (suc (suc m)) i t))
    ≡ passed f w (suc (suc m)) i + turned (comes_first f w i) (count (shorter w (suc (suc m)))) (rank (shorter w (suc (suc m))) t)
place-step f w m i t fits D =
    let k = shorter w (suc (suc m)) in
    ap (turned f (count (suc (suc m)))) (rank_step w m i t fits D) ∙ place_read f w m i (rank k t) fits (rank_below k t D)

-- ---- the rows, for 4 ports or more: n = x + 4, m = n - 2

module _ (x : ℕ) where
  abbrev m : ℕ
  m = suc (suc x)

  abbrev n : ℕ
  n = suc (suc m)

  -- a move of the shorter list, lifted
  lifted-leads : (w : Letter) (i : ℕ) → Among (suc m) i → {v : Move} {p q : List ℕ} → Leads (shorter w n) v p q
      → Leads n (lifted_by w i v) (step w n i p) (step w n i q)
  lifted-leads by_a i fits l = leads-a m i l
  lifted-leads by_b i fits l = leads-b m i fits l

  -- from the one part of block i to the other, between the last of the shorter lists
  join-row : (w : Letter) (i r s : ℕ) → Among (suc m) i → suc r ≡ count (shorter w n) → suc s ≡ count (shorter (other w) n)
      → Leads n (join_from w n i) (step w n i (at (shorter w n) r)) (step (other w) n i (at (shorter (other w) n) s))
  join-row by_a i r s fits e h = rw (ne_eqb n 3 (omega arith), at_last (suc x) r e, at_last x s h) (join-leads m i (omega arith) fits)
  join-row by_b i r s fits e h = rw (at_last x r e, at_last (suc x) s h) (leads-back (join-leads m i (omega arith) fits))

  -- from block i, where the part by w comes second, to the next, between the first of the shorter list
  hop-row : (w : Letter) (i : ℕ) → Among m i → comes_first false w i ≡ true
      → Leads n (hop n i) (step w n i (at (shorter w n) 0)) (step w n (suc i) (at (shorter w n) 0))
  hop-row by_a i fits e = rw (hop-even n i (not-true (odd i) e), at_home (suc x)) (hop_a-leads m i (omega arith) fits)
  hop-row by_b i fits e = rw (hop-odd n i e, at_home x) (hop_b-leads m i (omega arith) fits)

  -- there is a shorter pattern
  some-shorter : (w : Letter) → 0 < count (shorter w n)
  some-shorter by_a = count-pos (suc x)
  some-shorter by_b = count-pos x

  -- a move to the first pattern of a part leads one place on, if all that comes before the part ends with p
  to_part : (f : Bool) (p : List ℕ) (v : Move) (w : Letter) (j : ℕ) → Among (suc m) j → passed f w n j ≡ suc (turned f (count n) (rank n p))
      → Leads n v p (step w n j (at (shorter w n) (turned (comes_first f w j) (count (shorter w n)) 0))) → Next f n p v
  to_part f p v w j fits e leads =
      let k = shorter w n in
      let g = comes_first f w j in
      let s = turned g (count k) 0 in
      let low = turned-below g (count k) 0 (some-shorter w) in
      let D = at-derangement k s low in
      let first : turned g (count k) (rank k (at k s)) ≡ 0 = ap (turned g (count k)) (rank-at k s low) ∙ turned-twice g (count k) 0 (some-shorter w) in
      record {
        to = step w n j (at k s);
        pattern = step-derangement w m j (at k s) fits D;
        leads = leads;
        place = omega (arith, place-step f w m j (at k s) fits D);
      }

  -- ---- one level, where p is made by w, with i, from t

  module _ (w : Letter) (i : ℕ) (t : List ℕ) (fits : Among (suc m) i) (D : Derangement (shorter w n) t) where
    abbrev k : ℕ
    k = shorter w n

    abbrev p : List ℕ
    p = step w n i t

    -- where the shorter list ends, the part of the block is over
    part-over : (f : Bool) → suc (turned (comes_first f w i) (count k) (rank k t)) ≡ count k → suc (turned f (count n) (rank n p)) ≡ passed f w n i + count k
    part-over f ends = omega (arith, place-step f w m i t fits D)

    -- if it is the first, to the second
    to-second : (f : Bool) → comes_first f w i ≡ true → suc (rank k t) ≡ count k → Next f n p (join_from w n i)
    to-second f e ends =
        let v = other w in
        let second : comes_first f v i ≡ false = comes-other f w i ∙ ap not e in
        let s = from_end (count (shorter v n)) 0 in
        let over = part-over f (rw e ends) in
        let row = rw (at-rank k t D) at (join-row w i (rank k t) s fits ends (omega (arith, some-shorter v))) in
        to_part f p (join_from w n i) v i fits (omega (arith, passed_first f w n i e, passed-second f v n i second, parts w n)) (rw second row)

    -- if it is the second, the block is over
    block-over : (f : Bool) → comes_first f w i ≡ false → suc (from_end (count k) (rank k t)) ≡ count k
        → suc (turned f (count n) (rank n p)) ≡ suc (cond f (before i) (n - suc i)) * per_block n
    block-over f e ends = part-over f (rw e ends) ∙ passed-second f w n i e

    -- all blocks are, if it is the last that way
    list_over : (f : Bool) → i ≡ cond f (before n) 1 → suc (cond f (before i) (n - suc i)) * per_block n ≡ count n
    list_over true e = rw e (sym (count-blocks m))
    list_over false e = let less : n - 2 ≡ m = omega arith in rw (e, less) (sym (count-blocks m))

    -- to the same part of the block that comes next, where it is the first
    to_block : (f : Bool) → comes_first f w i ≡ false → suc (from_end (count k) (rank k t)) ≡ count k → (j : ℕ) (v : Move) → Among (suc m) j
        → comes_first f w j ≡ true → suc (cond f (before i) (n - suc i)) ≡ cond f (before j) (n - suc j)
        → Leads n v (step w n i (at k 0)) (step w n j (at k 0)) → Next f n p v
    to_block f e ends j v fits' first next row =
        let home : rank k t ≡ 0 = omega (arith, rank_below k t D) in
        let is : at k 0 ≡ t = ap (at k) (sym home) ∙ at-rank k t D in
        to_part f p v w j fits' (passed_first f w n j first ∙ ap (λ (y : ℕ). y * per_block n) (sym next) ∙ sym (block-over f e ends))
        (rw (first, ← is) row)

    -- that is block i + 1, backward block i - 1, if this is not the last that way
    to-next : (f : Bool) → comes_first f w i ≡ false → suc (from_end (count k) (rank k t)) ≡ count k → i ≢ cond f (before n) 1 → Next f n p (hop_from f n i)
    to-next true e ends d =
        let row = hop-row w i (omega arith) (comes_back w i ∙ ap not e) in
        to_block true e ends (suc i) (hop n i) (omega arith) (comes-next true w i ∙ ap not e) (suc-before i fits.0) row
    to-next false e ends d =
        let j = before i in
        let up : suc j ≡ i = suc-before i fits.0 in
        let first : comes_first false w j ≡ true = not-false (comes_first false w j) (sym (comes-next false w j) ∙ rw up e) in
        let row = rw up at (leads-back (hop-row w j (omega arith) first)) in
        to_block false e ends j (inverse (hop n j)) (omega arith) first (omega arith) row

    -- where the shorter list goes on, so does the list; where it ends, by the row
    level-on : (g : Bool) (o : Option Move) → On g k t o → On (comes_first g w i) n p (on_level g (comes_first g w i) w n i o)
    level-on g (some v) N =
        let q = N.to in
        let f = comes_first g w i in
        let here = rw (comes-twice g w i) at (place-step f w m i t fits D) in
        let there = rw (comes-twice g w i) at (place-step f w m i q fits N.pattern) in
        record {
          to = step w n i q;
          pattern = step-derangement w m i q fits N.pattern;
          leads = lifted-leads w i fits N.leads;
          place = omega (arith, N.place);
        }
    level-on true none ends = to-second (comes_first true w i) (comes-twice true w i) ends
    level-on false none ends =
        let f = comes_first false w i in
        let e = comes-twice false w i in
        let edge = cond f (before n) 1 in
        either (same? i edge)
        (λ c. rw (eq-eqb i edge c) (block-over f e ends ∙ list_over f c))
        (λ d. rw (ne_eqb i edge d) (to-next f e ends d))

-- ---- the whole course

-- with 3 ports: 231 and 312, from the one pattern of 2 ports
pattern-3 : (i : ℕ) → Among 2 i → Derangement 3 (step_a 3 i (at 2 0))
pattern-3 i fits = step-derangement by_a 1 i (at 2 0) fits (at-derangement 2 0 (count-pos 0))

three-on : (g : Bool) (i : ℕ) → Among 2 i → On (comes_first g by_a i) 3 (step_a 3 i (at 2 0)) (on_level g (comes_first g by_a i) by_a 3 i none)
unfolding at listing blocks block joined step_a step_b odd is trade raise lower tabulate count rank place un_a un_b
three-on g zero fits = absurd (omega arith)
three-on true (suc zero) fits = record { to = step_a 3 2 (at 2 0); pattern = pattern-3 2 (omega arith); leads = turn-3; place = refl }
three-on true (suc (suc zero)) fits = record { to = step_a 3 1 (at 2 0); pattern = pattern-3 1 (omega arith); leads = leads-back turn-3; place = refl }
three-on false (suc zero) fits = refl
three-on false (suc (suc zero)) fits = refl
three-on g (suc (suc (suc q))) fits = absurd (omega arith)

-- the move on by the course leads to the pattern one place on, and where there is none the list ends
pub goes-on : (c : List ℕ) (b : Bool) (n : ℕ) → 2 ≤ n → Course c n → On (read_at c b n) n (built c n) (goes_on c b n)
goes-on c b zero h C = absurd (omega arith)
goes-on c b (suc zero) h C = absurd (omega arith)
goes-on c b (suc (suc zero)) h C =
    let t = built c 2 in
    rw (goes-two c b) (omega (arith, count-2, turned-below (read_at c b 2) (count 2) (rank 2 t) (rank_below 2 t (built-pattern c 2 C))))
goes-on c b (suc (suc (suc zero))) h C =
    let t = built c 2 in
    let d : entry c 2 ≢ 0 = C.apart 1 (omega arith) (omega arith) (omega (arith, C.below 1 (omega arith))) in
    let F = course-front {k = 2} C (omega arith) (λ l. d) in
    let s = up-a C F (omega arith) (C.met (omega arith)) in
    let only : t ≡ at 2 0 = sym (at-rank 2 t (built-pattern c 2 F)) ∙ ap (at 2) (omega (arith, count-2, rank_below 2 t (built-pattern c 2 F))) in
    rw (s.2, goes-a c b 2 (omega arith) d, goes-two c b, read-a c b 2 (omega arith), only) (three-on (read_at c b 2) (entry c 3) s.1)
goes-on c b (suc (suc (suc (suc x)))) h C =
    let m = suc (suc x) in
    let i = entry c (suc (suc m)) in
    either (same? (entry c (suc m)) 0)
    (λ e.
    let F = course-front {k = m} C (omega arith) (λ l z. C.apart m l (omega arith) z e) in
    let s = up-b {m = m} C (omega arith) e in
    rw (s.3, goes-b c b m (omega arith) e, read-b c b m (omega arith) e)
    (level-on x by_b i (built c m) s.2 (built-pattern c m F) (read_at c b m) (goes_on c b m) (goes-on c b (suc (suc x)) (omega arith) F)))
    (λ d.
    let F = course-front {k = suc m} C (omega arith) (λ l. d) in
    let s = up-a C F (omega arith) (C.met (omega arith)) in
    rw (s.2, goes-a c b (suc m) (omega arith) d, read-a c b (suc m) (omega arith))
    (level-on x by_a i (built c (suc m)) s.1 (built-pattern c (suc m) F) (read_at c b (suc m)) (goes_on c b (suc m))
    (goes-on c b (suc (suc (suc x))) (omega arith) F)))

-- that move is in form
pub goes-form : (c : List ℕ) (b : Bool) (n : ℕ) (v : Move) → 2 ≤ n → Course c n → goes_on c b n ≡ some v → InForm n v
goes-form c b n v h C e = let N : Next (read_at c b n) n (built c n) v = rw e at (goes-on c b n h C) in N.leads.form

-- ---- round the circuit

-- the rank beside r is the one that stands one place on
rank-on : (back : Bool) (n r s : ℕ) → r < count n → s < count n → turned (not back) (count n) s ≡ suc (turned (not back) (count n) r) → rank_beside n back r ≡ s
rank-on false n r s h k e = next-on n r (omega arith) ∙ sym e
rank-on true n zero s h k e = absurd (omega arith)
rank-on true n (suc r) s h k e = previous-back n r ∙ omega arith

-- from the end of the list the closing step leads to the rank beside, at the other end
closes : (back : Bool) (m r : ℕ) → r < count (suc (suc m)) → suc (turned (not back) (count (suc (suc m))) r) ≡ count (suc (suc m))
    → Leads (suc (suc m)) (or_closing back (suc (suc m)) none) (at (suc (suc m)) r) (at (suc (suc m)) (rank_beside (suc (suc m)) back r))
closes false m r h e = rw (next-round (suc (suc m)) r e, at_last m r e, at_home m) (closing-leads m)
closes true m r h e =
    let end = before (count (suc (suc m))) in
    let first : r ≡ 0 = omega arith in
    rw (first, previous-round (suc (suc m)), at_home m, at_last m end (suc-before (count (suc (suc m))) (count-pos m))) (leads-back (closing-leads m))

-- a move that leads one place on, or the closing step where the list ends, is the move beside
is-beside : (back : Bool) (m : ℕ) (p : List ℕ) (o : Option Move) → Derangement (suc (suc m)) p → On (not back) (suc (suc m)) p o
    → or_closing back (suc (suc m)) o ≡ move_beside (suc (suc m)) back (rank (suc (suc m)) p)
is-beside back m p (some v) D N =
    let n = suc (suc m) in
    let q = N.to in
    let h = rank_below n p D in
    let there = rank-on back n (rank n p) (rank n q) h (rank_below n q N.pattern) N.place in
    only-beside m back (rank n p) v h (rw (there, at-rank n p D, at-rank n q N.pattern) N.leads)
is-beside back m p none D e =
    let n = suc (suc m) in
    let r = rank n p in
    let h = rank_below n p D in
    only-beside m back r (or_closing back n none) h (closes back m r h e)

-- the move beside a pattern, the next or the previous, is read off its course
pub course-beside : (c : List ℕ) (n : ℕ) (p : List ℕ) (back : Bool) → 2 ≤ n → CourseOf c n p → course_move c n back ≡ move_beside n back (rank n p)
unfolding course_move
course-beside c n p back =
    from-two (λ n. CourseOf c n p → course_move c n back ≡ move_beside n back (rank n p))
    (λ m C.
    let n = suc (suc m) in
    let b = bottom_read c n (not back) in
    let on = rw (read-top c n (not back), C.makes) at (goes-on c b n (omega arith) C.course) in
    is-beside back m p (goes_on c b n) (subst (Derangement n) C.makes (built-pattern c n C.course)) on)
    n

-- so of every pattern
pub beside-course : (n : ℕ) (p : List ℕ) (back : Bool) → 2 ≤ n → Derangement n p
    → (c : List ℕ) × CourseOf c n p × (course_move c n back ≡ move_beside n back (rank n p))
beside-course n p back two D = let c = has-course n p D in (c.0, c.1, course-beside c.0 n p back two c.1)
