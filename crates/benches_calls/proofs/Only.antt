-- Nothing else meets the contracts: two answers that tell the same are the same.
-- Assumes nothing.
use mathlib.Core.Path.{◌≡◌, refl, sym, ap, ◌∙◌}
use mathlib.Core.Bool.{cond, true≢false}
use mathlib.Core.List.{List}
use mathlib.Core.Option.{Option}
use Prim.Native.Nat.{ℕ}
use lib.Dec.{eqb}
use Rattle.words.specs.Told.{Told, Spot, accepted, refused, spot_number}
use Rattle.words.specs.declared.Leg.{Leg}
use Rattle.words.proofs.Told.{accepted-once, not-both}
use Rattle.promise.specs.Plan as plan
use Rattle.plan_rules.specs.Rules.{leg_is}
use Rattle.benches_laws.specs.Calls as calls
use Rattle.benches_laws.specs.Calls.{share_of, sum_of}
use Rattle.benches_calls.specs.Answers.{fault_told, share_told, counts_are, sum_told}
use Rattle.benches_calls.specs.declared.Fault.{Fault}
use Rattle.benches_calls.specs.declared.Fault.TheVariants.{Ports, Benches, Bench, Counts as Fault-Counts}
use Rattle.std.specs.declared.option.Option.{Option as Maybe}
use Rattle.std.specs.declared.option.Option.TheVariants.{Some, None}
use Rattle.benches_calls.specs.declared.Counts.{Counts}
use Rattle.std.specs.declared.result.Result.{Result}
use Rattle.std.specs.declared.result.Result.TheVariants.{Ok, Err}

-- ---- refusals

-- the refusal that a number and a place tell
abbrev fault_back : ℕ → Spot → Fault
fault_back k s = cond (eqb k 1) Ports (cond (eqb k 21) Benches (cond (eqb k 22) Bench (Fault-Counts (spot_number s))))

abbrev told_back : {A : Type 0} → Told A → Fault
told_back (accepted a) = Ports
told_back (refused k s) = fault_back k s

module _ (A : Type 0) where
  fault-back : (f : Fault) → told_back {A = A} (fault_told f) ≡ f
  fault-back Ports = refl
  fault-back Benches = refl
  fault-back Bench = refl
  fault-back (Fault-Counts b) = refl

  fault-once : (f g : Fault) → fault_told {A = A} f ≡ fault_told g → f ≡ g
  fault-once f g e = sym (fault-back f) ∙ ap told_back e ∙ fault-back g

-- ---- shares

leg-once : (l m : Leg) → leg_is l ≡ leg_is m → l ≡ m
leg-once l m e = ap (λ (x : plan.Leg). record { start = x.start; back = x.back; run = x.run }) e

share-once : (r s : Result (Maybe Leg) Fault) → share_told r ≡ share_told s → r ≡ s
share-once (Ok (Some l)) (Ok (Some m)) e = ap (λ x. Ok (Some x)) (leg-once l m cc)
share-once (Ok (Some l)) (Ok None) e = absurd (true≢false cc)
share-once (Ok (Some l)) (Err g) e = absurd (not-both (sym e))
share-once (Ok None) (Ok (Some m)) e = absurd (true≢false cc)
share-once (Ok None) (Ok None) e = refl
share-once (Ok None) (Err g) e = absurd (not-both (sym e))
share-once (Err f) (Ok (Some m)) e = absurd (not-both e)
share-once (Err f) (Ok None) e = absurd (not-both e)
share-once (Err f) (Err g) e = ap Err (fault-once (Option plan.Leg) f g e)

pub only-share : (n k b : ℕ) (r s : Result (Maybe Leg) Fault) → share_told r ≡ share_of n k b → share_told s ≡ share_of n k b → r ≡ s
only-share n k b r s e f = share-once r s (e ∙ sym f)

-- ---- sums

counts-once : (a b : Counts) → counts_are a ≡ counts_are b → a ≡ b
counts-once a b e = ap (λ (x : calls.Counts). record { covered = x.covered; opened = x.opened; errors = x.errors }) e

sum-once : (r s : Result Counts Fault) → sum_told r ≡ sum_told s → r ≡ s
sum-once (Ok a) (Ok b) e = ap Ok (counts-once a b (accepted-once e))
sum-once (Ok a) (Err g) e = absurd (not-both (sym e))
sum-once (Err f) (Ok b) e = absurd (not-both e)
sum-once (Err f) (Err g) e = ap Err (fault-once calls.Counts f g e)

pub only_sum : (n k : ℕ) (ns : List ℕ) (r s : Result Counts Fault) → sum_told r ≡ sum_of n k ns → sum_told s ≡ sum_of n k ns → r ≡ s
only_sum n k ns r s e f = sum-once r s (e ∙ sym f)
