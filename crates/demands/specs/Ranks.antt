-- Request 5, 'Why has this pattern that rank?', as one record over the definitions that the command's program meets (`explaining_line.Contracts.explain-says`).
-- Assumes nothing.
use Rattle.std.specs.Prelude.{ℕ, ◌≤◌, ◌≡◌, true, List, [], ◌∷◌, ◌++◌, length}
use Rattle.listing.specs.Pattern.{Derangement}
use Rattle.listing.specs.Rank.{rank}
use Rattle.listing.specs.Limits.{most_ports, largest64}
use Rattle.listing_levels.specs.Levels.{Level, levels, total, rebuilt, Follow}
use Rattle.words.specs.Told.{Spot, spot_number, earlier_number, accepted, refused}
use Rattle.text_keys.specs.Parts.{newline}
use Rattle.text_entries.specs.Entries.{one_line, entries_text, entries_of, bad_entry}
use Rattle.pattern_check.specs.Calls.{check_of}
use Rattle.explaining.specs.Text.{levels_text, rank_text, refused_text, named_in, explained, explain_of}
use Rattle.demands.specs.One.{Refuses}

-- a text is a pattern in one comma-separated line: it is one line, the line is these entries, and they are a pattern
pub record Reads (t p : List ℕ) : Type 0 where
  pub line : List ℕ
  pub one : one_line t ≡ accepted line
  pub entries : entries_of line ≡ accepted p
  pub sound : check_of most_ports p ≡ accepted tt

-- why a pattern of n ports has its rank, for every number of ports
pub record Explains (n : ℕ) (p : List ℕ) : Type 0 where
  -- 'for each level met down to 3, the entry at the last jack, whether the pattern came by A or by B, whether the shorter list is there read forward or
  -- backward on the way from rank 0, and how many patterns of that level's list are passed over, in the direction it is read, before the block that holds the
  -- pattern'
  pub follow : Follow true n p (levels true n p)
  -- and nothing else says so, level by level
  pub only : (ls : List Level) → Follow true n p ls → ls ≡ levels true n p
  -- 'Adding up what was passed over must give the rank'
  pub adds_up : total (levels true n p) ≡ rank n p
  -- 'and rebuilding from the shortest pattern by the printed choices the pattern'
  pub rebuilds : 2 ≤ n → rebuilt (levels true n p) ≡ p

pub record WhyThatRank : Type 0 where
  pub explains : (n : ℕ) (p : List ℕ) → Derangement n p → Explains n p
  -- what is printed of a text that is a pattern: its levels, and then its rank
  pub prints : (t p : List ℕ) → Reads t p
      → Derangement (length p) p × (explained t ≡ levels_text (levels true (length p) p) ++ rank_text (rank (length p) p)) × (explain_of t ≡ accepted tt)
  -- every pattern of 2 to 20 ports can be asked for
  pub asked : (p : List ℕ) → 2 ≤ length p → length p ≤ most_ports → Derangement (length p) p → Reads (entries_text p ++ (newline ∷ [])) p
  -- 'For a bad pattern it prints the refusal and, in words, the jack and rule at fault. Refusals: 11 (newline missing or not last),'
  pub unlined : (t : List ℕ) (k : ℕ) (s : Spot) → one_line t ≡ refused k s → explained t ≡ refused_text k (spot_number s) (earlier_number s) 0
  -- '8,' and with it 1 where there are more entries than any pattern has
  pub unread : (t line : List ℕ) (k : ℕ) (s : Spot) → one_line t ≡ accepted line → entries_of line ≡ refused k s
      → explained t ≡ refused_text k (spot_number s) (earlier_number s) (bad_entry largest64 line)
  -- 'then 1, 3, 4, 5'
  pub unsound : (t line p : List ℕ) (k : ℕ) (s : Spot) → one_line t ≡ accepted line → entries_of line ≡ accepted p → check_of most_ports p ≡ refused k s
      → explained t ≡ refused_text k (spot_number s) (earlier_number s) (named_in p k (spot_number s))
  pub refusals : (t : List ℕ) → Refuses (11 ∷ 8 ∷ 1 ∷ 3 ∷ 4 ∷ 5 ∷ []) (explain_of t)
