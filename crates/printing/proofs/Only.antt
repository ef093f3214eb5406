-- One answer, one rehearsal and one list of bytes meet the printer's contracts.
-- Assumes nothing.
use mathlib.Core.Path.{◌≡◌, sym, ap, ◌∙◌}
use mathlib.Core.Bool.{true≢false}
use mathlib.Core.List.{List}
use Prim.Native.Nat.{ℕ}
use lib.ListN.{length}
use Rattle.words.proofs.Once.{refusal-once, outcome-once}
use Rattle.printing.specs.Rehearsals.{state_of}
use Rattle.printing.specs.Answers.{filled_told, fill_bytes, PrintedIs, RehearsedIs}
use Rattle.printing.specs.declared.Filled.{Filled}
use Rattle.printing.specs.declared.Filled.TheVariants.{Lines, Ended, Refused}
use Rattle.printing.specs.declared.Printed.{Printed}
use Rattle.printing.specs.declared.Rehearsal.{Rehearsal}
use Rattle.printing.specs.declared.Rehearsed.{Rehearsed}
use Rattle.printing.proofs.Lines.{bytes, ends}

-- what it tells, it tells of one answer
filled-once : (a b : Filled) → filled_told a ≡ filled_told b → a ≡ b
unfolding bytes ends
filled-once (Lines n) (Lines k) e = ap Lines (ap bytes e)
filled-once (Lines n) (Ended k) e = absurd (true≢false (sym (ap ends e)))
filled-once (Lines n) (Refused f) e = cc
filled-once (Ended n) (Lines k) e = absurd (true≢false (ap ends e))
filled-once (Ended n) (Ended k) e = ap Ended (ap bytes e)
filled-once (Ended n) (Refused f) e = cc
filled-once (Refused f) (Lines k) e = cc
filled-once (Refused f) (Ended k) e = cc
filled-once (Refused f) (Refused g) e = ap Refused (refusal-once f g e)

pub only-fill : (r : Rehearsal) (buf : List ℕ) (p q : Printed) (b c : List ℕ) → PrintedIs (length buf) r p → b ≡ fill_bytes (state_of r) buf
    → PrintedIs (length buf) r q → c ≡ fill_bytes (state_of r) buf → (p ≡ q) × (b ≡ c)
only-fill r buf p q b c e x f y =
    let told : p.filled ≡ q.filled = filled-once p.filled q.filled (e.told ∙ sym f.told) in
    let left : p.rehearsal ≡ q.rehearsal = e.rehearsal ∙ sym f.rehearsal in
    (λ i. record { rehearsal = left i; filled = told i }, x ∙ sym y)

pub only-rehearse : (t : List ℕ) (r q : Rehearsed) → RehearsedIs t r → RehearsedIs t q → r ≡ q
only-rehearse t r q e f =
    let x : r.judged ≡ q.judged = outcome-once r.judged q.judged (e.judged ∙ sym f.judged) in
    let y : r.rehearsal ≡ q.rehearsal = e.rehearsal ∙ sym f.rehearsal in
    λ i. record { judged = x i; rehearsal = y i }
