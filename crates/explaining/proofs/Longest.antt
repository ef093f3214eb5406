-- How long the parts of a text are: the line of a level has at most 60 bytes on the device with 20 ports (`level-60`), and the text of a refusal fits what an
-- answer has room for (`refused-fits`).
-- Assumes nothing.
use mathlib.Core.Path.{◌≡◌, refl}
use mathlib.Core.Bool.{Bool, true, false, cond}
use mathlib.Core.List.{List, [], ◌∷◌, ◌++◌}
use Prim.Native.Nat.{ℕ, ◌+◌, ◌≤◌, ◌<◌}
use native.Mathlib.Omega.{arith}
use lib.Dec.{eqb}
use lib.ListN.{length, length-append}
use Rattle.listing.specs.Steps.{Letter, by_a, by_b}
use Rattle.listing.specs.Limits.{most_ports, largest64}
use Rattle.listing_levels.specs.Levels.{Level}
use Rattle.text_numbers.specs.Decimal.{digits_of}
use Rattle.text_numbers.proofs.Lengths.{digits-at-most, digits-64}
use Rattle.text_keys.specs.Parts.{newline}
use Rattle.line_refusal.specs.Text.{refused_key, at_key, refusal_text}
use Rattle.line_refusal.specs.Words.{quoted}
use Rattle.explaining.specs.Text.{by_text, read_text, ended, level_text, most_explained}
use Rattle.explaining.specs.Text.{said, jack_text, wrong_text, refused_text}

-- the lowest number of 19 digits
abbrev low19 : ℕ
low19 = 1000000000000000000

-- a level whose numbers are those of at most 20 ports
pub record Short (l : Level) : Type 0 where
  pub ports : l.ports ≤ most_ports
  pub last : l.last ≤ most_ports
  pub over : l.over < low19

by_length : (w : Letter) → length (by_text w) ≡ 5
unfolding quoted
by_length by_a = refl
by_length by_b = refl

read_length : (forward : Bool) → length (read_text forward) ≤ 14
unfolding quoted
read_length true = omega arith
read_length false = omega arith

pub key-length : (length (quoted "level=") ≡ 6) × (length (quoted " last=") ≡ 6) × (length (quoted " over=") ≡ 6) × (length (quoted "rank=") ≡ 5)
unfolding quoted
key-length = (refl, refl, refl, refl)

pub level-60 : (l : Level) → Short l → length (level_text l) ≤ 60
unfolding level_text
level-60 l S =
    let a = quoted "level=" ++ digits_of l.ports in
    let b = quoted " last=" ++ digits_of l.last in
    let c = by_text l.by in
    let d = read_text l.forward in
    let e = quoted " over=" ++ digits_of l.over in
    let end = newline ∷ [] in
    omega (
      arith,
      length-append a (b ++ (c ++ (d ++ (e ++ end)))),
      length-append b (c ++ (d ++ (e ++ end))),
      length-append c (d ++ (e ++ end)),
      length-append d (e ++ end),
      length-append e end,
      length-append (quoted "level=") (digits_of l.ports),
      length-append (quoted " last=") (digits_of l.last),
      length-append (quoted " over=") (digits_of l.over),
      key-length.0,
      key-length.1,
      key-length.2,
      by_length l.by,
      read_length l.forward,
      digits-at-most 1 l.ports (omega (arith, S.ports)),
      digits-at-most 1 l.last (omega (arith, S.last)),
      digits-at-most 17 l.over S.over,
    )

-- ---- a refusal

-- one of two texts that are each no longer
one-within : (b : Bool) (most : ℕ) (t u : List ℕ) → length t ≤ most → length u ≤ most → length (cond b t u) ≤ most
one-within true most t u h l = h
one-within false most t u h l = l

-- a number between two texts
said-length : (front : List ℕ) (n : ℕ) (rest : List ℕ) → n ≤ largest64 → length (said front n rest) ≤ length front + 20 + length rest
said-length front n rest h = omega (arith, length-append front (digits_of n ++ rest), length-append (digits_of n) rest, digits-64 n h)

jack-length : (j : ℕ) (rest : List ℕ) (n : ℕ) → j ≤ largest64 → n ≤ largest64 → length (jack_text j rest n) ≤ 45 + length rest
unfolding quoted
jack-length j rest n hj hn =
    omega (arith, length-append (said (quoted "jack ") j rest) (digits_of n), said-length (quoted "jack ") j rest hj, digits-64 n hn)

-- the words have at most 110 bytes
wrong-110 : (k j i x : ℕ) → j ≤ largest64 → i ≤ largest64 → x ≤ largest64 → length (wrong_text k j i x) ≤ 110
unfolding wrong_text quoted
wrong-110 k j i x hj hi hx =
    let earlier = quoted " is already at jack " ++ digits_of i in
    one-within (eqb k 11) 110 _ _ (omega arith)
    (one-within (eqb k 8) 110 _ _ (omega (arith, said-length (quoted "jack ") x (quoted ": not a plain decimal number of at most 64 bits") hx))
    (one-within (eqb k 1) 110 _ _ (omega arith)
    (one-within (eqb k 3) 110 _ _ (omega (arith, jack-length j (quoted ": its entry is none of the ports 1 to ") x hj hx))
    (one-within (eqb k 4) 110 _ _
    (omega (
      arith,
      length-append (jack_text j (quoted ": port ") x) earlier,
      length-append (quoted " is already at jack ") (digits_of i),
      jack-length j (quoted ": port ") x hj hx,
      digits-64 i hi,
    ))
    (omega (
      arith,
      length-append (jack_text j (quoted ": port ") j) (quoted " has the jack's own number"),
      jack-length j (quoted ": port ") j hj hj,
    ))))))

-- and with the two lines before them all of it fits
pub refused-fits : (k j i x : ℕ) → k ≤ largest64 → j ≤ largest64 → i ≤ largest64 → x ≤ largest64 → length (refused_text k j i x) ≤ most_explained
unfolding refused_text refusal_text
refused-fits k j i x hk hj hi hx =
    let number = refused_key ++ digits_of k in
    let place = number ++ (newline ∷ at_key) in
    omega (
      arith,
      length-append (refusal_text k j) (wrong_text k j i x ++ ended),
      length-append (wrong_text k j i x) ended,
      length-append (place ++ digits_of j) (newline ∷ []),
      length-append place (digits_of j),
      length-append number (newline ∷ at_key),
      length-append refused_key (digits_of k),
      digits-64 k hk,
      digits-64 j hj,
      wrong-110 k j i x hj hi hx,
    )
