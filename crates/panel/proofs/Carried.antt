-- What a line leaves of the panel: seat, mark and end the panel itself, a swap and a turn what the paper says of them, and each line that fits a panel.
-- Assumes nothing.
use mathlib.Core.Path.{◌≡◌, refl, ap, ◌∙◌}
use mathlib.Core.Bool.{true}
use mathlib.Core.List.{List}
use Prim.Native.Nat.{ℕ}
use native.Mathlib.Omega.{arith}
use lib.ListN.{length}
use Rattle.listing.specs.Numbers.{Among}
use Rattle.listing.specs.Pattern.{entry}
use Rattle.listing.specs.Orders.{Order, swap, turn, carry, InShape}
use Rattle.listing.proofs.Panels.{length-carry, entry-carry}
use Rattle.listing.proofs.Sources.{swap-first, swap-second, turn-first, turn-second, turn-third, carry-permutation}
use Rattle.words.specs.Told.{Told, accepted, refused, leaves}
use Rattle.words.specs.Meaning.{order_of}
use Rattle.words.proofs.Shape.{one-of, among_one, shaped-shape}
use Rattle.words.specs.declared.Jack.{Jack}
use Rattle.words.specs.declared.Order.TheVariants.{Swap, Turn}
use Rattle.words.specs.declared.Line.{Line}
use Rattle.words.specs.declared.Line.TheVariants.{Movement, Seat, Mark, End}
use Rattle.pattern_check.proofs.Accepted.{Panel}
use Rattle.panel.specs.Calls.{after_line, carry_of, carry_bytes}
use Rattle.words.specs.Shape.{one_of, line_fits}
use Rattle.panel.proofs.Joined.{told-fits, fits_told}

-- ---- seat, mark and end

unmoved : (t : Told (Unit {0})) (p : List ℕ) → leaves t p p ≡ p
unmoved (accepted a) p = refl
unmoved (refused k s) p = refl

-- a seat leaves each panel as it is, and so do a mark and the end
pub seat-left : (most : ℕ) (j : Jack) (p : List ℕ) → carry_bytes most (Seat j) p ≡ p
unfolding carry_bytes
seat-left most j p = unmoved (carry_of most (Seat j) p) p

pub mark-left : (most m r : ℕ) (p : List ℕ) → carry_bytes most (Mark m r) p ≡ p
unfolding carry_bytes
mark-left most m r p = unmoved (carry_of most (Mark m r) p) p

pub end-left : (most m : ℕ) (p : List ℕ) → carry_bytes most (End m) p ≡ p
unfolding carry_bytes
end-left most m p = unmoved (carry_of most (End m) p) p

-- ---- what is accepted

-- an accepted line found a panel that it fits, and leaves the panel after it
left : (most : ℕ) (l : Line) (p : List ℕ) → accepted tt ≡ carry_of most l p → Panel most p × (line_fits (length p) l ≡ true) × (carry_bytes most l p ≡ after_line l p)
unfolding carry_of carry_bytes
left most l p e = let t = told-fits most p (line_fits (length p) l) tt tt e in (t.0, t.1, rw (← e))

-- a seat is accepted at the jacks of the panel, and only there
pub seat-told : (most : ℕ) (j : Jack) (p : List ℕ) → accepted tt ≡ carry_of most (Seat j) p → Panel most p × Among (length p) j.0
seat-told most j p e = let t = left most (Seat j) p e in (t.0, one-of (length p) j.0 t.1)

pub told-seat : (most : ℕ) (j : Jack) (p : List ℕ) → Panel most p → Among (length p) j.0 → accepted tt ≡ carry_of most (Seat j) p
unfolding carry_of
told-seat most j p P h = fits_told most p (one_of (length p) j.0) tt P (among_one (length p) j.0 h)

-- ---- orders

-- after a swap a,b jack a has what b held, and b what a held
pub swapped : (most : ℕ) (a b : Jack) (p : List ℕ) → accepted tt ≡ carry_of most (Movement (Swap a b)) p
    → let q = carry_bytes most (Movement (Swap a b)) p in (entry q a.0 ≡ entry p b.0) × (entry q b.0 ≡ entry p a.0)
swapped most a b p e =
    let t = left most (Movement (Swap a b)) p e in
    let s = shaped-shape (length p) (swap a.0 b.0) t.1 in
    rw t.2 (
      entry-carry (swap a.0 b.0) p a.0 (omega arith) ∙ ap (entry p) (swap-first a.0 b.0),
      entry-carry (swap a.0 b.0) p b.0 (omega arith) ∙ ap (entry p) (swap-second a.0 b.0 s.1),
    )

-- after a turn a,b,c jack a has what b held, b what c held, and c what a held
pub turned : (most : ℕ) (a b c : Jack) (p : List ℕ) → accepted tt ≡ carry_of most (Movement (Turn a b c)) p
    → let q = carry_bytes most (Movement (Turn a b c)) p in
    (entry q a.0 ≡ entry p b.0) × (entry q b.0 ≡ entry p c.0) × (entry q c.0 ≡ entry p a.0)
turned most a b c p e =
    let t = left most (Movement (Turn a b c)) p e in
    let o = turn a.0 b.0 c.0 in
    let s = shaped-shape (length p) o t.1 in
    rw t.2 (
      entry-carry o p a.0 (omega arith) ∙ ap (entry p) (turn-first a.0 b.0 c.0),
      entry-carry o p b.0 (omega arith) ∙ ap (entry p) (turn-second a.0 b.0 c.0 s.1),
      entry-carry o p c.0 (omega arith) ∙ ap (entry p) (turn-third a.0 b.0 c.0 s.3 s.5),
    )

-- ---- a panel stays a panel

-- the panel after an order in shape is a panel of as many jacks
order-panel : (most : ℕ) (o : Order) (p : List ℕ) → Panel most p → InShape (length p) o → Panel most (carry o p)
order-panel most o p P s =
    let long = length-carry o p in
    record {
      low = rw long P.low;
      high = rw long P.high;
      is = rw long (carry-permutation (length p) o p s P.is);
    }

-- and so is the panel after each line that fits
after-panel : (most : ℕ) (l : Line) (p : List ℕ) → Panel most p → line_fits (length p) l ≡ true → Panel most (after_line l p)
after-panel most (Movement o) p P t = order-panel most (order_of o) p P (shaped-shape (length p) (order_of o) t)
after-panel most (Seat j) p P t = P
after-panel most (Mark m r) p P t = P
after-panel most (End m) p P t = P

-- an accepted line leaves a panel, on which the next one is not refused for the panel
pub carried-panel : (most : ℕ) (l : Line) (p : List ℕ) → accepted tt ≡ carry_of most l p → Panel most (carry_bytes most l p)
carried-panel most l p e = let t = left most l p e in rw t.2 (after-panel most l p t.0 t.1)
