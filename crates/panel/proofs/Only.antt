-- Nothing else meets a contract of the panel: two answers that tell the same are the same, and the bytes that a call leaves are one.
-- Assumes nothing.
use mathlib.Core.Path.{◌≡◌, sym, ◌∙◌}
use mathlib.Core.List.{List}
use Prim.Native.Nat.{ℕ}
use Rattle.words.specs.Meaning.{outcome_told}
use Rattle.listing.specs.Limits.{most_ports}
use Rattle.words.specs.declared.Jack.{Jack}
use Rattle.words.specs.declared.Port.{Port}
use Rattle.words.specs.declared.Line.{Line}
use Rattle.words.proofs.Once.{answer-once, outcome-once}
use Rattle.panel.specs.Calls.{port_of, jack_of, carry_of, carry_bytes}
use Rattle.panel.specs.Answers.{looked_told, found_told}
use Rattle.std.specs.declared.result.Result.{Result}
use Rattle.words.specs.declared.Refusal.{Refusal}

-- ---- two answers that tell the same

port-once : (v w : Port) → v.0 ≡ w.0 → v ≡ w
port-once v w e = λ i. record { 0 = e i }

jack-once : (j k : Jack) → j.0 ≡ k.0 → j ≡ k
jack-once j k e = λ i. record { 0 = e i }

looked-once : (r s : Result Port Refusal) → looked_told r ≡ looked_told s → r ≡ s
looked-once = answer-once (λ (v : Port). v.0) port-once

found-once : (r s : Result Jack Refusal) → found_told r ≡ found_told s → r ≡ s
found-once = answer-once (λ (j : Jack). j.0) jack-once

-- ---- one answer, and one list of bytes, to each call

pub only-port-at : (p : List ℕ) (j : ℕ) (r s : Result Port Refusal) → looked_told r ≡ port_of most_ports p j → looked_told s ≡ port_of most_ports p j → r ≡ s
only-port-at p j r s e f = looked-once r s (e ∙ sym f)

pub only-jack-of : (p : List ℕ) (v : ℕ) (r s : Result Jack Refusal) → found_told r ≡ jack_of most_ports p v → found_told s ≡ jack_of most_ports p v → r ≡ s
only-jack-of p v r s e f = found-once r s (e ∙ sym f)

pub only-carry : (l : Line) (p : List ℕ) (r s : Result (Unit {0}) Refusal) (b c : List ℕ)
    → outcome_told r ≡ carry_of most_ports l p → b ≡ carry_bytes most_ports l p
    → outcome_told s ≡ carry_of most_ports l p → c ≡ carry_bytes most_ports l p → (r ≡ s) × (b ≡ c)
only-carry l p r s b c e d f g = (outcome-once r s (e ∙ sym f), d ∙ sym g)
