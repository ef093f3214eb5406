-- Texts put together: a copy goes on byte by byte, a part is put after what is spelled, numbers are put after a key, and a text at the front of a buffer.
-- At the end, what is told of a line that is spelled.
-- Assumes nothing.
use mathlib.Core.Path.{◌≡◌, sym, ap, ◌∙◌, subst}
use mathlib.Core.Bool.{true}
use mathlib.Core.List.{List, [], ◌∷◌, ◌++◌, append_assoc}
use Prim.Native.Nat.{ℕ, ◌+◌, ◌-◌, ◌≤◌, ◌<◌}
use native.Mathlib.Nat.{zero-add}
use native.Mathlib.Numerals.{add-one}
use native.Mathlib.Omega.{arith}
use lib.ListN.{length, take, drop, set, get_or, replicate, length-append, length-take}
use lib.Seq.{paste, paste-suc, take-paste, take-length}
use Rattle.text_numbers.specs.Decimal.{digits_of, most_digits}
use Rattle.text_numbers.specs.Answers.{TextOf}
use Rattle.text_numbers.specs.declared.Text.{Text}
use Rattle.text_numbers.proofs.Lengths.{digits-at-most}
use Rattle.text_keys.specs.Parts.{newline, comma}
use Rattle.words.specs.declared.Jack.{Jack}
use Rattle.words.specs.declared.Order.{Order}
use Rattle.words.specs.declared.Order.TheVariants.{Swap, Turn}
use Rattle.words.specs.declared.Line.{Line}
use Rattle.words.specs.declared.Line.TheVariants.{Movement, Seat, Mark, End}
use Rattle.line_format.specs.Format.{swapping, turning, seating, marking, ending, key, listed, key_text, unended, line_text}
use Rattle.words.specs.Shape.{line_fits}
use Rattle.line_format.specs.Calls.{room_of, over, room_bytes, write_of, write_bytes}
use Rattle.line_format.proofs.Written.{write-fit}
use Rattle.line_writer.specs.Answers.{Spells, Grown}
use Rattle.line_writer.specs.declared.order_lines.Spelled.{Spelled}

-- ---- a copy of s into d from a place on

-- one byte more
pub copied_on : (d : List ℕ) (at : ℕ) (s : List ℕ) (j : ℕ) → at + j < length d → j < length s
    → set (paste d at s j) (at + j) (get_or s j 0) ≡ paste d at s (j + 1)
copied_on d at s j h l = rw (add-one j) (paste-suc d at s j 0 h l)

-- all of them: what was there, and then s
copied : (d : List ℕ) (at : ℕ) (s : List ℕ) → at ≤ length d → take (at + length s) (paste d at s (length s)) ≡ take at d ++ s
copied d at s h = take-paste d at s (length s) h (omega arith) ∙ ap (λ r. take at d ++ r) (take-length s)

-- so s is put after what is there
pub grown-part : (r t : Spelled) (s : List ℕ) (i : ℕ) → t.len + length s ≤ length t.bytes → i ≡ length s → r.bytes ≡ paste t.bytes t.len s i
    → r.len ≡ t.len + length s → Grown t s r
grown-part r t s i h e b l = record { front = rw (l, b, e) (copied t.bytes t.len s (omega arith)); len = l }

-- ---- what is spelled

-- it fits the array
pub spells-within : (s : Spelled) (t : List ℕ) → Spells s t → s.len ≤ length s.bytes
spells-within s t h = omega (arith, h.len, ap length h.front, length-take s.len s.bytes)

-- a text and u after it
pub spells-more : (s r : Spelled) (t u : List ℕ) → Spells s t → Grown s u r → Spells r (t ++ u)
spells-more s r t u h k = record {
  front = k.front ∙ ap (λ x. x ++ u) h.front;
  len = k.len ∙ ap (λ n. n + length u) h.len ∙ sym (length-append t u);
}

-- a text after none
pub spells-first : (s r : Spelled) (t : List ℕ) → s.len ≡ 0 → Grown s t r → Spells r t
spells-first s r t e k = record {
  front = k.front ∙ ap (λ n. take n s.bytes ++ t) e;
  len = k.len ∙ ap (λ n. n + length t) e ∙ zero-add (length t);
}

-- two parts, the one after the other
pub grown-twice : (s m r : Spelled) (t u : List ℕ) → Grown s t m → Grown m u r → Grown s (t ++ u) r
grown-twice s m r t u h k = record {
  front = k.front ∙ ap (λ x. x ++ u) h.front ∙ append_assoc (take s.len s.bytes) t u;
  len = omega (arith, h.len, k.len, length-append t u);
}

-- how long a key and a number are
pub spells-length : (s : Spelled) (key : List ℕ) (a : ℕ) → Spells s (key ++ digits_of a) → s.len ≡ length key + length (digits_of a)
spells-length s key a h = h.len ∙ length-append key (digits_of a)

-- a key, a number, and one more
pub spells-two : (s r : Spelled) (key : List ℕ) (a b : ℕ) → Spells s (key ++ digits_of a) → Grown s (comma ∷ digits_of b) r → Spells r (key ++ listed 1 (a, b))
unfolding listed
spells-two s r key a b h k =
    subst (Spells r) (append_assoc key (digits_of a) (comma ∷ digits_of b)) (spells-more s r (key ++ digits_of a) (comma ∷ digits_of b) h k)

-- a key, two numbers, and one more
pub spells-three : (s r : Spelled) (key : List ℕ) (a b c : ℕ) → Spells s (key ++ listed 1 (a, b)) → Grown s (comma ∷ digits_of c) r
    → Spells r (key ++ listed 2 (a, (b, c)))
unfolding listed
spells-three s r key a b c h k =
    let more = comma ∷ digits_of c in
    subst (Spells r)
    (append_assoc key (digits_of a ++ (comma ∷ digits_of b)) more ∙ ap (λ x. key ++ x) (append_assoc (digits_of a) (comma ∷ digits_of b) more))
    (spells-more s r (key ++ listed 1 (a, b)) more h k)

-- a swap
pub spells-swap : (s r : Spelled) (o : Order) (a b : Jack) → o ≡ Swap a b → Spells s (key swapping ++ digits_of a.0) → Grown s (comma ∷ digits_of b.0) r
    → Spells r (unended (Movement o))
unfolding unended key_text
spells-swap s r o a b e h k = rw e (spells-two s r (key swapping) a.0 b.0 h k)

-- a turn
pub spells-turn : (s m r : Spelled) (o : Order) (a b c : Jack) → o ≡ Turn a b c → Spells s (key turning ++ digits_of a.0)
    → Grown s (comma ∷ digits_of b.0) m → Grown m (comma ∷ digits_of c.0) r → Spells r (unended (Movement o))
unfolding unended key_text
spells-turn s m r o a b c e h k g = rw e (spells-three m r (key turning) a.0 b.0 c.0 (spells-two s m (key turning) a.0 b.0 h k) g)

-- a seat
pub spells-seat : (s : Spelled) (l : Line) (j : Jack) → l ≡ Seat j → Spells s (key seating ++ digits_of j.0) → Spells s (unended l)
unfolding unended key_text listed
spells-seat s l j e h = rw e h

-- a mark
pub spells-mark : (s r : Spelled) (l : Line) (m n : ℕ) → l ≡ Mark m n → Spells s (key marking ++ digits_of m) → Grown s (comma ∷ digits_of n) r
    → Spells r (unended l)
unfolding unended key_text
spells-mark s r l m n e h k = rw e (spells-two s r (key marking) m n h k)

-- the end
pub spells-end : (s : Spelled) (l : Line) (m : ℕ) → l ≡ End m → Spells s (key ending ++ digits_of m) → Spells s (unended l)
unfolding unended key_text listed
spells-end s l m e h = rw e h

-- a line and its newline
pub spells-line : (s r : Spelled) (l : Line) → Spells s (unended l) → Grown s (newline ∷ []) r → Spells r (line_text l)
unfolding line_text
spells-line s r l h k = spells-more s r (unended l) (newline ∷ []) h k

-- ---- numbers

-- a jack of a byte has at most 3 digits
pub digits_8 : (n : ℕ) → n < 256 → length (digits_of n) ≤ 3
digits_8 n h = digits-at-most 2 n (omega arith)

-- a number's text fits its array
pub text-within : (n : ℕ) (r : Text) → TextOf n r → r.len ≤ length r.bytes
text-within n r h = omega (arith, h.len, ap length h.bytes, length-append (digits_of n) (replicate (most_digits - length (digits_of n)) 0))

-- ---- the first n bytes of s at the front of d

abbrev pub at_front : List ℕ → List ℕ → ℕ → List ℕ
at_front d s n = take n s ++ drop n d

-- one byte more
pub front-on : (d s : List ℕ) (j : ℕ) → j < length d → j < length s → set (at_front d s j) j (get_or s j 0) ≡ at_front d s (j + 1)
front-on d s j h l = rw (zero-add j, zero-add (j + 1)) at (copied_on d 0 s j (omega arith) l)

-- all of them
pub front-all : (d s : List ℕ) (n : ℕ) → n ≡ length s → at_front d s n ≡ over s d
front-all d s n e = ap (at_front d s) e ∙ ap (λ t. t ++ drop (length s) d) (take-length s)

-- ---- what is told of a line that is spelled

-- what is written of what is spelled is what is written of the line
pub spelled-told : (jacks : ℕ) (l : Line) (buf : List ℕ) (s : Spelled) → line_fits jacks l ≡ true → Spells s (line_text l)
    → (room_of (take s.len s.bytes) buf ≡ write_of jacks l buf) × (room_bytes (take s.len s.bytes) buf ≡ write_bytes jacks l buf)
spelled-told jacks l buf s fit spelt = rw spelt.front (write-fit jacks l buf fit)
