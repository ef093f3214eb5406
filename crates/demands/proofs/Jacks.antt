-- Both jacks of a repeated port, of every call that takes a pattern or a panel (`both-jacks`): each begins with the check and passes its refusal on.
-- Assumes nothing.
use mathlib.Core.Path.{◌≡◌, refl, ap, ◌∙◌}
use mathlib.Core.Logic.{◌≢◌}
use mathlib.Core.Bool.{Bool, true, false, ◌&&◌}
use mathlib.Core.List.{List}
use mathlib.Core.Option.{Option, none, some}
use Prim.Native.Nat.{ℕ}
use native.Mathlib.Omega.{arith}
use lib.Dec.{eqb}
use lib.ListN.{length}
use Rattle.listing.specs.Limits.{most_ports}
use Rattle.listing.proofs.Numbers.{of_test}
use Rattle.words.specs.Told.{Told, accepted, refused, nowhere, EachRefusal, told_alone, then, need}
use Rattle.words.proofs.Told.{then-passes, then-alone, each-accepted, each-refused, each-then}
use Rattle.pattern_check.specs.Calls.{check_as, paper_check}
use Rattle.pattern_check.specs.Jacks.{Second}
use Rattle.pattern_check.proofs.Alone.{check-alone}
use Rattle.pattern_check.proofs.Jacks.{none-second, check-second}
use Rattle.patterns.specs.Calls.{rank_of, beside_of}
use Rattle.dictionary_laws.specs.Calls.{dictionary_number_of}
use Rattle.panel.specs.Calls.{on_panel, port_of, jack_of, carry_of}
use Rattle.campaign_state.specs.Fitness.{fit}
use Rattle.campaign_state.specs.declared.State.{State}
use Rattle.campaign_onward.specs.Calls.{panel_in, fit_told, resume_of}
use Rattle.face_state.specs.States.{state_in}
use Rattle.face_laws.specs.Calls.{on_words, resume_told}
use Rattle.demands.specs.Jacks.{TellsBoth, paper_panel, BothJacks}

-- ---- a call that goes on from the check

-- what it goes on with has no second number
record Plain {A : Type 0} (p : List ℕ) (told : Told A) : Type 0 where
  second : EachRefusal (Second p) told
  alone : told_alone told ≡ told

module _ (pattern : Bool) (p : List ℕ) where
  -- the check itself
  check_both : TellsBoth pattern p (check_as pattern most_ports p) (paper_check pattern most_ports p)
  check_both = record { second = check-second pattern most_ports p; passed = λ k s e. e; stays = check-alone pattern most_ports p }

  -- and one that goes on
  on_both : {A : Type 0} (go : Unit {0} → Told A) → ((x : Unit {0}) → Plain p (go x))
      → TellsBoth pattern p (then (check_as pattern most_ports p) go) (then (paper_check pattern most_ports p) go)
  on_both go plain = record {
    second = each-then (Second p) (check_as pattern most_ports p) go (check-second pattern most_ports p) (λ x. (plain x).second);
    passed = then-passes (check_as pattern most_ports p) go;
    stays = then-alone (check_as pattern most_ports p) go (λ x. (plain x).alone) ∙ ap (λ t. then t go) (check-alone pattern most_ports p);
  }

-- ---- what they go on with

module _ {A : Type 0} (p : List ℕ) where
  plain-accepted : (a : A) → Plain p (accepted a)
  plain-accepted a = record { second = each-accepted (Second p) a; alone = refl }

  -- a refusal at no place, of any number but 4
  plain-refused : (k : ℕ) → k ≢ 4 → let told : Told A = refused k nowhere in Plain p told
  plain-refused k d = record { second = each-refused (Second p) k nowhere (none-second p k nowhere d refl); alone = refl }

fit-plain : (s : State) (p : List ℕ) → Plain p (fit_told s p)
unfolding fit_told
fit-plain s p = of_test (Plain p) (eqb (length p) s.plan.ports && fit (panel_in p s)) _ _ (plain-accepted p tt) (plain-refused p 15 (λ e. omega arith))

words-plain : (p : List ℕ) (o : Option State) → Plain p (then (need 15 nowhere o) (λ s. fit_told s p))
words-plain p none = plain-refused p 15 (λ e. omega arith)
words-plain p (some s) = fit-plain s p

-- ---- the panel

panel-both : {A : Type 0} (p : List ℕ) (fits : Bool) (a : A) → TellsBoth false p (on_panel most_ports p fits a) (paper_panel p fits a)
unfolding on_panel
panel-both p fits a = on_both false p _ (λ x. of_test (Plain p) fits _ _ (plain-accepted p a) (plain-refused p 17 (λ e. omega arith)))

pub panel-second : {A : Type 0} (p : List ℕ) (fits : Bool) (a : A) → EachRefusal (Second p) (on_panel most_ports p fits a)
panel-second p fits a = (panel-both p fits a).second

-- ---- the calls

pub both-jacks : BothJacks
unfolding rank_of beside_of dictionary_number_of port_of jack_of carry_of resume_of resume_told on_words
both-jacks = record {
  check = check_both true;
  check_panel = check_both false;
  rank = λ p. on_both true p _ (λ x. plain-accepted p _);
  beside = λ back p. on_both true p _ (λ x. plain-accepted p _);
  dictionary_number = λ p. on_both true p _ (λ x. plain-accepted p _);
  dictionary_next = check_both true;
  port_at = λ p j. panel-both p _ _;
  jack_of_port = λ p v. panel-both p _ _;
  carry = λ l p. panel-both p _ _;
  resume = λ s p. on_both false p _ (λ x. fit-plain s p);
  resume_words = λ p ws. on_both false p _ (λ x. words-plain p (state_in ws));
}
