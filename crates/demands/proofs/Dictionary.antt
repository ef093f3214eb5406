-- Request 3: the calls on dictionary numbers agree with the dictionary and with each other (`dictionary-numbers`).
-- Assumes nothing.
use mathlib.Core.Path.{◌≡◌, sym, ap, ◌∙◌, subst}
use mathlib.Core.List.{List}
use Prim.Native.Nat.{ℕ, ◌≤◌, ◌<◌}
use native.Mathlib.Omega.{arith}
use lib.ListN.{length}
use Rattle.listing.specs.Pattern.{Derangement}
use Rattle.listing.specs.Count.{count}
use Rattle.listing.specs.Listing.{at}
use Rattle.listing.specs.Rank.{rank}
use Rattle.listing.specs.Neighbours.{next_rank}
use Rattle.listing.specs.Limits.{most_ports}
use Rattle.listing.proofs.Ranks.{at-derangement, rank-at, rank_below, at-rank}
use Rattle.listing.proofs.Neighbours.{next-on, next-round}
use Rattle.listing_dictionary.specs.Dictionary.{in_dictionary}
use Rattle.listing_dictionary.specs.Number.{number}
use Rattle.listing_dictionary.proofs.Dictionary.{dictionary-sorted, dictionary-only, length-dictionary, dictionary-derangement}
use Rattle.listing_dictionary.proofs.Dictionary.{number-count, dictionary-number, number-dictionary}
use Rattle.words.specs.Told.{accepted}
use Rattle.pattern_check.specs.Calls.{check_of}
use Rattle.pattern_check.proofs.Calls.{fits}
use Rattle.pattern_check.proofs.Accepted.{pattern-accepted}
use Rattle.patterns.specs.Calls.{listed_of}
use Rattle.patterns.proofs.Calls.{is-rank}
use Rattle.dictionary_laws.specs.Calls.{dictionary_number_of, dictionary_next_bytes, number_to_rank_of, rank_to_number_of}
use Rattle.dictionary_laws.proofs.Told.{number-accepted, next-accepted, pattern-told}
use Rattle.demands.specs.Dictionary.{Translated, DictionaryNumbers}

module _ (n : ℕ) (few : 2 ≤ n) (many : n ≤ most_ports) where
  -- a pattern passes the check
  checked : (p : List ℕ) → Derangement n p → accepted tt ≡ check_of most_ports p
  checked p D =
      let long : length p ≡ n = D.permutation.long in
      pattern-accepted most_ports p (record { low = rw long few; high = rw long many; is = rw long D })

  -- and a number below the count is one
  listed : (k : ℕ) → k < count n → accepted tt ≡ listed_of most_ports n k
  unfolding listed_of
  listed k h = sym (fits most_ports n _ few many ∙ is-rank n k (accepted tt) h)

  told : (p : List ℕ) → Derangement n p → dictionary_number_of most_ports p ≡ accepted (number n p)
  told p D = sym (number-accepted most_ports p (checked p D)) ∙ ap (λ (m : ℕ). accepted (number m p)) D.permutation.long

  -- number k and the rank of its pattern
  translated : (k : ℕ) → k < count n → Translated n k (rank n (in_dictionary n k))
  unfolding number_to_rank_of rank_to_number_of
  translated k h =
      let D = dictionary-derangement n k h in
      let below = rank_below n (in_dictionary n k) D in
      record {
        number = h;
        rank = below;
        one = at-rank n (in_dictionary n k) D;
        to_rank = rw (← listed k h);
        to_number = rw (← listed (rank n (in_dictionary n k)) below) (ap accepted (ap (number n) (at-rank n (in_dictionary n k) D) ∙ number-dictionary n k h));
      }

  after : (k : ℕ) → k < count n → dictionary_next_bytes most_ports (in_dictionary n k) ≡ in_dictionary n (next_rank n k)
  after k h =
      let D = dictionary-derangement n k h in
      sym (next-accepted most_ports (in_dictionary n k) (checked (in_dictionary n k) D)).1
      ∙ ap (λ (m : ℕ). in_dictionary m (next_rank m (number m (in_dictionary n k)))) D.permutation.long
      ∙ ap (λ (x : ℕ). in_dictionary n (next_rank n x)) (number-dictionary n k h)

  pub dictionary-numbers : DictionaryNumbers n
  dictionary-numbers = record {
    sorted = dictionary-sorted n;
    only = dictionary-only n;
    many = length-dictionary n;
    number = λ k h. told (in_dictionary n k) (dictionary-derangement n k h) ∙ ap accepted (number-dictionary n k h);
    found = λ p D. (number n p, number-count n p D, dictionary-number n p D, told p D);
    pattern = λ k out h long.
        let t = pattern-told most_ports k out (rw long (listed k h)) in
        (sym t.0, sym t.1 ∙ ap (λ (m : ℕ). in_dictionary m k) long);
    next = λ k h. (
      sym (checked (in_dictionary n k) (dictionary-derangement n k (omega arith))),
      after k (omega arith) ∙ ap (in_dictionary n) (next-on n k (λ e. omega arith)),
    );
    last = λ k e. (
      sym (checked (in_dictionary n k) (dictionary-derangement n k (omega arith))),
      after k (omega arith) ∙ ap (in_dictionary n) (next-round n k e),
    );
    to_rank = λ k h. (rank n (in_dictionary n k), translated k h);
    to_number = λ r h.
        let D = at-derangement n r h in
        let k = number n (at n r) in
        let back : rank n (in_dictionary n k) ≡ r = ap (rank n) (dictionary-number n (at n r) D) ∙ rank-at n r h in
        (k, subst (Translated n k) back (translated k (number-count n (at n r) D)));
  }
