-- Why a pattern has its rank: the laws of the levels, and the steps in which a text is judged.
-- Assumes nothing.
use mathlib.Core.Path.{◌≡◌, refl, sym, ap, ◌∙◌}
use mathlib.Core.Logic.{inl, inr}
use mathlib.Core.Bool.{true}
use mathlib.Core.List.{List, [], ◌∷◌, ◌++◌}
use Prim.Native.Nat.{ℕ, ◌≤◌}
use native.Mathlib.Omega.{arith}
use lib.Dec.{leb}
use lib.ListN.{length}
use Rattle.listing.specs.Pattern.{Derangement}
use Rattle.listing.specs.Rank.{rank}
use Rattle.listing.specs.Limits.{most_ports, largest64}
use Rattle.listing.proofs.Numbers.{of_test}
use Rattle.listing_levels.specs.Levels.{levels}
use Rattle.listing_levels.proofs.Levels.{levels-follow, only-levels, levels-add-up, levels-rebuild}
use Rattle.words.specs.Told.{nowhere, accepted, then}
use Rattle.words.proofs.Told.{each-accepted, each-then}
use Rattle.text_keys.specs.Parts.{newline, cut}
use Rattle.text_entries.specs.Entries.{one_line, entries_text, entries_in, few_entries, entries_of}
use Rattle.text_entries.proofs.Patterns.{entries-line, pattern-read}
use Rattle.pattern_check.specs.Calls.{check_of}
use Rattle.pattern_check.proofs.Accepted.{accepted-pattern}
use Rattle.pattern_check.proofs.Accepted as check
use Rattle.explaining.specs.Text.{levels_text, rank_text, why_text, explained, explain_of}
use Rattle.explaining.proofs.Steps.{pattern-refused, pattern-accepted, line_refused, line-accepted, text-refused, text-accepted}
use Rattle.demands.specs.One.{Listed, Refuses}
use Rattle.demands.specs.Ranks.{Reads, Explains, WhyThatRank}
use Rattle.demands.proofs.Numbers.{from-refused, from-need}
use Rattle.demands.proofs.One.{demand-one}

-- the numbers, in their order
abbrev of_text : List ℕ
of_text = 11 ∷ 8 ∷ 1 ∷ 3 ∷ 4 ∷ 5 ∷ []

explains : (n : ℕ) (p : List ℕ) → Derangement n p → Explains n p
explains n p D = record {
  follow = levels-follow n true p D;
  only = λ ls F. only-levels ls n true p D F;
  adds_up = levels-add-up n true p D;
  rebuilds = λ two. levels-rebuild n true p two D;
}

prints : (t p : List ℕ) → Reads t p
    → Derangement (length p) p × (explained t ≡ levels_text (levels true (length p) p) ++ rank_text (rank (length p) p)) × (explain_of t ≡ accepted tt)
unfolding why_text
prints t p R =
    let line = text-accepted t R.line (sym R.one) in (
      (accepted-pattern most_ports p (sym R.sound)).is,
      sym (pattern-accepted p (sym R.sound) ∙ line-accepted R.line p (sym R.entries) ∙ line.1),
      sym line.0 ∙ ap (λ told. then told (check_of most_ports)) R.entries ∙ R.sound,
    )

asked : (p : List ℕ) → 2 ≤ length p → length p ≤ most_ports → Derangement (length p) p → Reads (entries_text p ++ (newline ∷ [])) p
asked p low high D = record {
  line = entries_text p;
  one = entries-line p;
  entries = pattern-read (length p) p D (omega arith) high;
  sound = sym (check.pattern-accepted most_ports p (record { low = low; high = high; is = D }));
}

-- the numbers: 11, then 8 and 1, then those of the check
line-numbers : (t : List ℕ) → Refuses of_text (one_line t)
unfolding one_line
line-numbers t =
    each-then (Listed of_text) _ _ (from-need of_text 11 nowhere (cut newline t) refl (inl refl))
    (λ x. of_test (Refuses of_text) (leb (length x.rest) 0) _ _ (each-accepted (Listed of_text) _) (from-refused of_text 11 nowhere refl (inl refl)))

entries-numbers : (t : List ℕ) → Refuses of_text (entries_of t)
unfolding entries_of few_entries
entries-numbers t =
    each-then (Listed of_text) _ _ (from-need of_text 8 nowhere (entries_in largest64 t) refl (inr (inl refl)))
    (λ ns.
    of_test (Refuses of_text) (leb (length ns) most_ports) _ _ (each-accepted (Listed of_text) _) (from-refused of_text 1 nowhere refl (inr (inr (inl refl)))))

text-numbers : (t : List ℕ) → Refuses of_text (explain_of t)
unfolding explain_of
text-numbers t =
    each-then (Listed of_text) _ _ (line-numbers t)
    (λ line. each-then (Listed of_text) _ _ (entries-numbers line) (λ p k s e. let h = demand-one.check p k s e in (inr (inr h.0), h.1)))

pub why-that-rank : WhyThatRank
why-that-rank = record {
  explains = explains;
  prints = prints;
  asked = asked;
  unlined = λ t k s e. sym (text-refused t k s (sym e)).1;
  unread = λ t line k s one e. sym (line_refused line k s _ refl (sym e) ∙ (text-accepted t line (sym one)).1);
  unsound = λ t line p k s one entries e.
      sym (pattern-refused p k s _ _ (sym e) refl refl ∙ line-accepted line p (sym entries) ∙ (text-accepted t line (sym one)).1);
  refusals = text-numbers;
}
