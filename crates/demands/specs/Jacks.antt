-- Request 7, 'Say where the other one is', as one record over the definitions that the public calls meet: of every call that takes a pattern or a panel.
-- Assumes nothing.
use Rattle.std.specs.Prelude.{ℕ, ◌≡◌, Bool, true, false, cond, List, length}
use Rattle.listing.specs.Limits.{most_ports}
use Rattle.listing.specs.Pattern.{entry}
use Rattle.listing.specs.Rank as list
use Rattle.listing.specs.Neighbours.{move_beside}
use Rattle.words.specs.Told.{Told, accepted, refused, nowhere, EachRefusal, told_alone, then}
use Rattle.words.specs.Shape.{one_of, line_fits}
use Rattle.words.specs.declared.Line.{Line}
use Rattle.pattern_check.specs.Faults.{seek}
use Rattle.pattern_check.specs.Calls.{check_as, paper_check}
use Rattle.pattern_check.specs.Jacks.{Second}
use Rattle.patterns.specs.Calls.{rank_of, beside_of}
use Rattle.listing_dictionary.specs.Number.{number}
use Rattle.dictionary_laws.specs.Calls.{dictionary_number_of, dictionary_next_of}
use Rattle.panel.specs.Calls.{port_of, jack_of, carry_of}
use Rattle.campaign_state.specs.declared.State.{State}
use Rattle.campaign_onward.specs.Calls.{fit_told, resume_of}
use Rattle.face_laws.specs.Calls.{states, on_words, resume_told}

-- what a call tells of p, which is checked as a pattern or as a panel; `paper` is what it told before there was a second number
pub record TellsBoth {A : Type 0} (pattern : Bool) (p : List ℕ) (told paper : Told A) : Type 0 where
  -- 'for refusal 4, the jack of the earlier equal entry; for other refusals the second number is 0'
  pub second : EachRefusal (Second p) told
  -- 'All calls that take a pattern pass both numbers on': a refusal of the check is the call's, whole
  pub passed : EachRefusal (λ k s. told ≡ refused k s) (check_as pattern most_ports p)
  -- 'Which refusal is given, and its order, stay'
  pub stays : told_alone told ≡ paper

-- what the paper alone has a call on a pattern tell, and a call on a panel: the refusals of the check with no second number, and then what it tells of a sound one
abbrev pub paper_pattern : {A : Type 0} → List ℕ → A → Told A
paper_pattern p a = then (paper_check true most_ports p) (λ ok. accepted a)

abbrev pub paper_panel : {A : Type 0} → List ℕ → Bool → A → Told A
paper_panel p fits a = then (paper_check false most_ports p) (λ ok. cond fits (accepted a) (refused 17 nowhere))

-- the calls
pub record BothJacks : Type 0 where
  pub check : (p : List ℕ) → TellsBoth true p (check_as true most_ports p) (paper_check true most_ports p)
  pub check_panel : (p : List ℕ) → TellsBoth false p (check_as false most_ports p) (paper_check false most_ports p)
  pub rank : (p : List ℕ) → TellsBoth true p (rank_of most_ports p) (paper_pattern p (list.rank (length p) p))
  pub beside : (back : Bool) (p : List ℕ) → TellsBoth true p (beside_of most_ports back p) (paper_pattern p (move_beside (length p) back (list.rank (length p) p)))
  pub dictionary_number : (p : List ℕ) → TellsBoth true p (dictionary_number_of most_ports p) (paper_pattern p (number (length p) p))
  pub dictionary_next : (p : List ℕ) → TellsBoth true p (dictionary_next_of most_ports p) (paper_check true most_ports p)
  pub port_at : (p : List ℕ) (j : ℕ) → TellsBoth false p (port_of most_ports p j) (paper_panel p (one_of (length p) j) (entry p j))
  pub jack_of_port : (p : List ℕ) (v : ℕ) → TellsBoth false p (jack_of most_ports p v) (paper_panel p (one_of (length p) v) (seek p v 1 (length p)))
  pub carry : (l : Line) (p : List ℕ) → TellsBoth false p (carry_of most_ports l p) (paper_panel p (line_fits (length p) l) tt)
  -- going on after a power cut, with a state and, for C, with words
  pub resume : (s : State) (p : List ℕ) → TellsBoth false p (resume_of s p) (then (paper_check false most_ports p) (λ x. fit_told s p))
  pub resume_words : (p ws : List ℕ)
      → TellsBoth false p (resume_told p ws) (then (paper_check false most_ports p) (λ x. on_words states (λ s. fit_told s p) ws))
