-- Demand two: the calls on patterns agree with the listing of document 000, for 2 to 20 ports (`demand-two`).
-- Assumes nothing.
use mathlib.Core.Path.{◌≡◌, refl, sym, ap, ◌∙◌}
use mathlib.Core.Bool.{Bool, true, false}
use mathlib.Core.List.{List}
use Prim.Native.Nat.{ℕ, ◌≤◌, ◌<◌}
use native.Mathlib.Omega.{arith}
use lib.ListN.{length}
use Rattle.listing.specs.Count.{count}
use Rattle.listing.specs.Limits.{most_ports}
use Rattle.listing.specs.Listing.{at}
use Rattle.listing.specs.Rank.{rank}
use Rattle.listing.specs.Orders.{Move, Leads}
use Rattle.listing.specs.Neighbours.{rank_beside, move_beside}
use Rattle.listing.specs.Around.{around}
use Rattle.listing.proofs.Numbers.{from-two}
use Rattle.listing.proofs.Places.{length-listing}
use Rattle.listing.proofs.Ranks.{at-derangement, rank-at, rank_below, at-rank, at_once}
use Rattle.listing.proofs.Neighbours.{beside-leads, only-beside}
use Rattle.words.specs.Told.{accepted, leaves}
use Rattle.pattern_check.specs.Calls.{sized, check_of}
use Rattle.pattern_check.proofs.Calls.{fits}
use Rattle.pattern_check.proofs.Accepted.{pattern-accepted}
use Rattle.patterns.specs.Calls.{ranked, count_of, rank_of, listed_of, unrank_of, unrank_bytes, beside_of, beside_bytes, step_of}
use Rattle.patterns.proofs.Calls.{is-rank}
use Rattle.patterns.proofs.Accepted.{rank-accepted}
use Rattle.demands.specs.Two.{TheMove, DemandTwo}

module _ (n : ℕ) (few : 2 ≤ n) (many : n ≤ most_ports) where
  -- a call that refuses with 1 and then with 6 is accepted at a listed rank
  sized-ranked : {A : Type 0} (r : ℕ) (a : A) → r < count n → sized most_ports n (ranked n r (accepted a)) ≡ accepted a
  sized-ranked r a h = fits most_ports n (ranked n r (accepted a)) few many ∙ is-rank n r (accepted a) h

  module _ (r : ℕ) (h : r < count n) where
    long : length (at n r) ≡ n
    long = (at-derangement n r h).permutation.long

    -- the check accepts it
    checked : check_of most_ports (at n r) ≡ accepted tt
    checked = sym (pattern-accepted most_ports (at n r) (record { low = omega (arith, long); high = omega (arith, long); is = rw long (at-derangement n r h) }))

    -- its rank is told
    ranked-so : rank_of most_ports (at n r) ≡ accepted r
    ranked-so = sym (rank-accepted most_ports (at n r) (sym checked)) ∙ ap accepted (ap (λ k. rank k (at n r)) long ∙ rank-at n r h)

    -- the pattern beside it, and the move that leads there
    beside-bytes : (back : Bool) → beside_bytes most_ports back (at n r) ≡ at n (rank_beside n back r)
    unfolding beside_bytes beside_of
    beside-bytes back = rw (checked, long, rank-at n r h) refl

    beside-told : (back : Bool) → beside_of most_ports back (at n r) ≡ accepted (move_beside n back r)
    unfolding beside_of
    beside-told back = rw (checked, long, rank-at n r h) refl

    leads-so : (back : Bool) → Leads n (move_beside n back r) (at n r) (at n (rank_beside n back r))
    leads-so back =
        from-two (λ n. (r : ℕ) → r < count n → Leads n (move_beside n back r) (at n r) (at n (rank_beside n back r))) (λ m. beside-leads m back) n few r h

    only_so : (back : Bool) (v : Move) → Leads n v (at n r) (at n (rank_beside n back r)) → v ≡ move_beside n back r
    only_so back v =
        from-two (λ n. (r : ℕ) → r < count n → Leads n v (at n r) (at n (rank_beside n back r)) → v ≡ move_beside n back r)
        (λ m r h l. only-beside m back r v h l) n few r h

    the-move : (back : Bool) → TheMove n (move_beside n back r) (at n r) (beside_bytes most_ports back (at n r))
    the-move back = rw (beside-bytes back) (record { leads = leads-so back; only = only_so back })

  -- the pattern of a rank is written into every slice of n bytes
  unranked : (r : ℕ) (out : List ℕ) → r < count n → length out ≡ n → (unrank_of most_ports r out ≡ accepted tt) × (unrank_bytes most_ports r out ≡ at n r)
  unfolding listed_of unrank_bytes
  unranked r out h l =
      let told : unrank_of most_ports r out ≡ accepted tt =
      ap (λ k. sized most_ports k (ranked k r (accepted tt))) l ∙ sized-ranked r tt h in
      (told, ap (λ x. leaves x (at (length out) r) out) told ∙ ap (λ k. at k r) l)

  -- demand two
  pub demand-two : DemandTwo n
  unfolding count_of step_of
  demand-two = record {
    derangement = at-derangement n;
    listed = λ p d. (rank n p, rank_below n p d, at-rank n p d);
    once = at_once n;
    many = length-listing n;
    count = fits most_ports n (accepted (count n)) few many;
    unrank = unranked;
    rank = ranked-so;
    next = λ r h. beside-bytes r h false;
    previous = λ r h. beside-bytes r h true;
    move = λ back r h. (move_beside n back r, beside-told r h back, the-move r h back);
    step = λ r k h. sized-ranked r (around (count n) r k) h;
  }
