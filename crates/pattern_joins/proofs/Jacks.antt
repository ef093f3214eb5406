-- The jacks of a swap, of a turn and of two swaps: no jack is past the device's last, and each is raised by itself.
-- Assumes nothing.
use mathlib.Core.Path.{◌≡◌}
use Prim.Native.Nat.{ℕ, ◌≤◌}
use native.Mathlib.Omega.{arith}
use Rattle.listing.specs.Numbers.{raise}
use Rattle.listing.specs.Limits.{most_ports}
use Rattle.listing.specs.Orders.{InShape, InForm, raised_order, raised}
use Rattle.words.specs.Meaning.{order_of, move_of}
use Rattle.words.specs.declared.Jack.{Jack}
use Rattle.words.specs.declared.Order.{Order}
use Rattle.words.specs.declared.Order.TheVariants.{Swap, Turn}
use Rattle.words.specs.declared.Move.{Move}
use Rattle.words.specs.declared.Move.TheVariants.{Two}

-- ---- a swap, a turn or two swaps in shape for the device name jacks of the device

pub swap-fits : {o : Order} {a b : Jack} → InShape most_ports (order_of o) → o ≡ Swap a b → (a.0 ≤ most_ports) × (b.0 ≤ most_ports)
swap-fits s e = let shape = rw e at s in omega arith

pub turn-fits : {o : Order} {a b c : Jack} → InShape most_ports (order_of o) → o ≡ Turn a b c → (a.0 ≤ most_ports) × (b.0 ≤ most_ports) × (c.0 ≤ most_ports)
turn-fits s e = let shape = rw e at s in omega arith

pub two-fit : {m : Move} {a b c d : Jack} → InForm most_ports (move_of m) → m ≡ Two a b c d
    → (a.0 ≤ most_ports) × (b.0 ≤ most_ports) × (c.0 ≤ most_ports) × (d.0 ≤ most_ports)
two-fit f e = let form = rw e at f in omega arith

-- ---- with each jack raised, they are the raised swap, the raised turn and the raised two swaps

pub swap-raised : (i : ℕ) {o : Order} {a b x y : Jack} → o ≡ Swap a b → x.0 ≡ raise i a.0 → y.0 ≡ raise i b.0
    → order_of (Swap x y) ≡ raised_order i (order_of o)
swap-raised i e ex ey = rw e (rw (ex, ey))

pub turn-raised : (i : ℕ) {o : Order} {a b c x y z : Jack} → o ≡ Turn a b c → x.0 ≡ raise i a.0 → y.0 ≡ raise i b.0 → z.0 ≡ raise i c.0
    → order_of (Turn x y z) ≡ raised_order i (order_of o)
turn-raised i e ex ey ez = rw e (rw (ex, ey, ez))

pub two-raised : (i : ℕ) {m : Move} {a b c d x y z w : Jack} → m ≡ Two a b c d → x.0 ≡ raise i a.0 → y.0 ≡ raise i b.0 → z.0 ≡ raise i c.0
    → w.0 ≡ raise i d.0 → move_of (Two x y z w) ≡ raised i (move_of m)
two-raised i e ex ey ez ew = rw e (rw (ex, ey, ez, ew))
