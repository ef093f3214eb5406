-- Lines in words: a line by its kind (`from-swap` to `from-none`), that words lose nothing of a line (`line-back`), and that what is no line's words is out of
-- shape (`none-unfit`, `jack-unfit`).
-- Assumes nothing.
use mathlib.Core.Path.{◌≡◌, refl, sym, ap}
use mathlib.Core.Logic.{◌⊎◌}
use mathlib.Core.Bool.{true, false}
use mathlib.Core.List.{[], ◌∷◌, ◌++◌}
use Prim.Native.Nat.{ℕ, ◌≤◌, ◌<◌}
use native.Mathlib.Omega.{arith}
use borrow.Author.Tests.{ne_eqb, le-leb, lt-leb}
use Rattle.listing.specs.Limits.{most_ports}
use Rattle.listing.specs.Orders.{swap, turn, one}
use Rattle.listing.specs.Orders as list
use Rattle.listing.proofs.Numbers.{either, test}
use Rattle.words.specs.Meaning.{jack_at}
use Rattle.words.specs.Shape.{rising, shaped, line_fits, LineFits}
use Rattle.words.proofs.Shape.{passes-fits}
use Rattle.words.specs.declared.Jack.{Jack}
use Rattle.words.specs.declared.Order.TheVariants.{Swap, Turn}
use Rattle.words.specs.declared.Line.{Line}
use Rattle.words.specs.declared.Line.TheVariants.{Movement, Seat, Mark, End}
use Rattle.face_values.specs.Answers.{five}
use Rattle.face_values.specs.Lines.{swap_kind, turn_kind, mark_kind, end_kind, seat_kind, order_words, line_words, move_words, largest8, jack_in, line_from, line_in}

-- ---- a jack

-- of a number that a jack holds
pub jack-is : (w : ℕ) → w ≤ largest8 → jack_at w ≡ jack_in w
jack-is w h = rw (le-leb w largest8 h) refl

-- and of one that none holds
pub jack-none : (w : ℕ) → largest8 < w → jack_at 0 ≡ jack_in w
jack-none w h = rw (lt-leb w largest8 h) refl

-- ---- a line by its kind

module _ (kind a b c : ℕ) where
  pub from-swap : kind ≡ swap_kind → Movement (Swap (jack_in a) (jack_in b)) ≡ line_from kind a b c
  unfolding line_from
  from-swap e = ap (λ k. line_from k a b c) (sym e)

  pub from-turn : kind ≡ turn_kind → Movement (Turn (jack_in a) (jack_in b) (jack_in c)) ≡ line_from kind a b c
  unfolding line_from
  from-turn e = ap (λ k. line_from k a b c) (sym e)

  pub from-mark : kind ≡ mark_kind → Mark a b ≡ line_from kind a b c
  unfolding line_from
  from-mark e = ap (λ k. line_from k a b c) (sym e)

  pub from_end : kind ≡ end_kind → End a ≡ line_from kind a b c
  unfolding line_from
  from_end e = ap (λ k. line_from k a b c) (sym e)

  pub from-seat : kind ≡ seat_kind → Seat (jack_in a) ≡ line_from kind a b c
  unfolding line_from
  from-seat e = ap (λ k. line_from k a b c) (sym e)

  pub from-none : (kind ≡ swap_kind → ⊥) → (kind ≡ turn_kind → ⊥) → (kind ≡ mark_kind → ⊥) → (kind ≡ end_kind → ⊥) → (kind ≡ seat_kind → ⊥)
      → Movement (Swap (jack_at 0) (jack_at 0)) ≡ line_from kind a b c
  unfolding line_from
  from-none s t m e j =
      rw (ne_eqb kind swap_kind s, ne_eqb kind turn_kind t, ne_eqb kind mark_kind m, ne_eqb kind end_kind e, ne_eqb kind seat_kind j) refl

-- equal jacks make equal orders
pub swap-of : {a b x y : Jack} → a ≡ x → b ≡ y → Movement (Swap a b) ≡ Movement (Swap x y)
swap-of e f = cc

pub turn-of : {a b c x y z : Jack} → a ≡ x → b ≡ y → c ≡ z → Movement (Turn a b c) ≡ Movement (Turn x y z)
turn-of e f g = cc

-- the words of a move of one order are the order's, and a zero
pub one-words : (o : list.Order) → five (order_words o ++ (0 ∷ [])) ≡ five (move_words (one o))
one-words (swap a b) = refl
one-words (turn a b c) = refl

-- ---- words lose nothing of a line

-- its jacks are numbers that a jack holds
abbrev pub Held : Line → Type 0
Held (Movement (Swap a b)) = (a.0 ≤ largest8) × (b.0 ≤ largest8)
Held (Movement (Turn a b c)) = (a.0 ≤ largest8) × (b.0 ≤ largest8) × (c.0 ≤ largest8)
Held (Seat j) = j.0 ≤ largest8
Held (Mark number rank) = Unit {0}
Held (End marks) = Unit {0}

-- the line of a line's words is that line
pub line-back : (l : Line) → Held l → line_in (line_words l) ≡ l
unfolding line_from
line-back (Movement (Swap a b)) h = rw (le-leb a.0 largest8 h.0, le-leb b.0 largest8 h.1) refl
line-back (Movement (Turn a b c)) h = rw (le-leb a.0 largest8 h.0, le-leb b.0 largest8 h.1, le-leb c.0 largest8 h.2) refl
line-back (Seat j) h = rw (le-leb j.0 largest8 h) refl
line-back (Mark number rank) h = refl
line-back (End marks) h = refl

-- so of each line in shape
pub fits-held : (l : Line) → line_fits most_ports l ≡ true → Held l
fits-held l e = by l (passes-fits most_ports l e)
  where
    by : (l : Line) → LineFits most_ports l → Held l
    by (Movement (Swap a b)) s = (omega arith, omega arith)
    by (Movement (Turn a b c)) s = (omega arith, omega arith, omega arith)
    by (Seat j) s = omega arith
    by (Mark number rank) s = tt
    by (End marks) s = tt

-- ---- words that are no line's

-- a jack of a line is 0
abbrev pub NoJack : Line → Type 0
NoJack (Movement (Swap a b)) = (a.0 ≡ 0) ⊎ (b.0 ≡ 0)
NoJack (Movement (Turn a b c)) = (a.0 ≡ 0) ⊎ (b.0 ≡ 0) ⊎ (c.0 ≡ 0)
NoJack (Seat j) = j.0 ≡ 0
NoJack (Mark number rank) = ⊥
NoJack (End marks) = ⊥

-- such a line is out of shape, so a number that no jack holds is refused as such
pub jack-unfit : (n : ℕ) (l : Line) → NoJack l → line_fits n l ≡ false
jack-unfit n l z = either (test (line_fits n l)) (λ t. absurd (by l z (passes-fits n l t))) (λ t. t)
  where
    by : (l : Line) → NoJack l → LineFits n l → ⊥
    by (Movement (Swap a b)) z s = either z (λ e. omega arith) (λ e. omega arith)
    by (Movement (Turn a b c)) z s = either z (λ e. omega arith) (λ y. either y (λ e. omega arith) (λ e. omega arith))
    by (Seat j) z s = omega arith
    by (Mark number rank) z s = z
    by (End marks) z s = z

-- 'a kind that is no line's is refused as out of shape'
pub none-unfit : (n : ℕ) → line_fits n (Movement (Swap (jack_at 0) (jack_at 0))) ≡ false
unfolding shaped rising
none-unfit n = refl
