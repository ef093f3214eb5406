-- What each call of the panel tells, and which bytes it leaves, as the paper has it, for accepted and refused calls alike ('Order lines' and
-- 'Refusal numbers': 1, then 3 and 4 from jack 1 on, then 17; 5 is not tried). The most ports of the device is a parameter.
-- Assumes nothing.
use Rattle.std.specs.Prelude.{ℕ, Bool, false, cond, List, length}
use Rattle.listing.specs.Pattern.{entry}
use Rattle.listing.specs.Orders as list
use Rattle.words.specs.Told.{Told, accepted, refused, nowhere, then, leaves}
use Rattle.words.specs.Meaning.{order_of}
use Rattle.words.specs.Shape.{one_of, line_fits}
use Rattle.words.specs.declared.Line.{Line}
use Rattle.words.specs.declared.Line.TheVariants.{Movement, Seat, Mark, End}
use Rattle.pattern_check.specs.Faults.{seek}
use Rattle.pattern_check.specs.Calls.{check_as}

-- the refusals of a panel, and 17 after them unless what is asked fits it
unfoldable pub on_panel : {A : Type 0} → ℕ → List ℕ → Bool → A → Told A
on_panel most p fits a = then (check_as false most p) (λ ok. cond fits (accepted a) (refused 17 nowhere))

-- whether the panel may be asked for a number: it must be one of 1..n
abbrev pub may_ask : ℕ → List ℕ → ℕ → Told (Unit {0})
may_ask most p x = on_panel most p (one_of (length p) x) tt

-- the port joined to jack j
unfoldable pub port_of : ℕ → List ℕ → ℕ → Told ℕ
port_of most p j = on_panel most p (one_of (length p) j) (entry p j)

-- the jack that holds port v: the first one from jack 1 on
unfoldable pub jack_of : ℕ → List ℕ → ℕ → Told ℕ
jack_of most p v = on_panel most p (one_of (length p) v) (seek p v 1 (length p))

-- the panel after a line: an order does what the list says; a seat 'is no movement and leaves the panel's pattern as it is' (request 4), and so do mark and end
abbrev pub after_line : Line → List ℕ → List ℕ
after_line (Movement o) p = list.carry (order_of o) p
after_line (Seat j) p = p
after_line (Mark m r) p = p
after_line (End m) p = p

-- a line carried out
unfoldable pub carry_of : ℕ → Line → List ℕ → Told (Unit {0})
carry_of most l p = on_panel most p (line_fits (length p) l) tt

unfoldable pub carry_bytes : ℕ → Line → List ℕ → List ℕ
carry_bytes most l p = leaves (carry_of most l p) (after_line l p) p
