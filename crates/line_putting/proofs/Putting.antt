-- Texts put into a buffer one behind the other: two of them are one text (`puts-both`), no text leaves all as it is (`puts_none`), and a text from the front
-- on is that text over the buffer (`puts-front`). At the end, what a loop that puts line after line keeps (`Going`).
-- Assumes nothing.
use mathlib.Core.Path.{◌≡◌, refl, sym, ap, subst, ◌∙◌}
use mathlib.Core.List.{List, [], ◌++◌, append_assoc}
use Prim.Native.Nat.{ℕ, ◌+◌, ◌≤◌}
use native.Mathlib.Omega.{arith}
use lib.ListN.{length, take, drop, length-append, take-append-drop}
use lib.Seq.{drop-drop}
use Rattle.line_format.specs.Calls.{over}
use Rattle.line_writer.specs.Answers.{Spells}
use Rattle.line_writer.specs.declared.order_lines.Spelled.{Spelled}
use Rattle.line_writer.proofs.Spelling.{spells-within}
use Rattle.line_format.proofs.Buffer.{put, put_front, put_rest, put-length}
use Rattle.line_putting.specs.Putting.{Puts}

-- ---- one after the other

-- a buffer keeps its length
puts-length : (at : ℕ) (t buf : List ℕ) (after : ℕ) (left : List ℕ) → Puts at t buf after left → at + length t ≤ length buf → length left ≡ length buf
puts-length at t buf after left P h = ap length P.bytes ∙ put-length at t buf h

-- a text put behind another is both put where the other is
put-behind : (at : ℕ) (t u buf : List ℕ) → at + length t ≤ length buf → put (at + length t) u (put at t buf) ≡ put at (t ++ u) buf
put-behind at t u buf h =
    let rest = drop (at + length t) buf in
    let far : at + length t + length u ≡ at + length (t ++ u) = omega (arith, length-append t u) in
    let same : drop (length u) rest ≡ drop (length (t ++ u)) (drop at buf) =
    drop-drop (length u) (at + length t) buf ∙ ap (λ n. drop n buf) far ∙ sym (drop-drop (length (t ++ u)) at buf) in
    ap (λ x. x ++ over u (drop (at + length t) (put at t buf))) (put_front at t buf h)
    ∙ ap (λ x. (take at buf ++ t) ++ over u x) (put_rest at t buf h)
    ∙ append_assoc (take at buf) t (over u rest)
    ∙ ap (λ x. take at buf ++ x) (sym (append_assoc t u (drop (length u) rest)))
    ∙ ap (λ x. take at buf ++ ((t ++ u) ++ x)) same

puts-both : (at : ℕ) (t u buf : List ℕ) (m : ℕ) (mid : List ℕ) (after : ℕ) (left : List ℕ) → at + length t ≤ length buf
    → Puts at t buf m mid → Puts m u mid after left → Puts at (t ++ u) buf after left
puts-both at t u buf m mid after left h P Q = record {
  place = omega (arith, P.place, Q.place, length-append t u);
  bytes = Q.bytes ∙ ap (λ x. put m u x) P.bytes ∙ ap (λ n. put n u (put at t buf)) P.place ∙ put-behind at t u buf h;
}

-- a text that is another
pub puts-as : {at after : ℕ} {t u buf left : List ℕ} → t ≡ u → Puts at t buf after left → Puts at u buf after left
puts-as {at = at} {after = after} {buf = buf} {left = left} e P = subst (λ x. Puts at x buf after left) e P

-- and has the room of the other
pub room_as : (at : ℕ) (buf : List ℕ) {t u : List ℕ} → t ≡ u → at + length u ≤ length buf → at + length t ≤ length buf
room_as at buf e h = subst (λ x. at + length x ≤ length buf) (sym e) h

-- no text
puts_none : (at : ℕ) (buf : List ℕ) → Puts at [] buf at buf
puts_none at buf = record { place = omega arith; bytes = sym (take-append-drop at buf) }

-- from the front on
pub puts-front : (t buf : List ℕ) (after : ℕ) (left : List ℕ) → Puts 0 t buf after left → (after ≡ length t) × (left ≡ over t buf)
puts-front t buf after left P = (omega (arith, P.place), P.bytes)

-- ---- a text that is spelled

module _ (s : Spelled) (t : List ℕ) (S : Spells s t) (at : ℕ) (buf : List ℕ) where
  -- what is asked where it is put
  pub spelled-asked : at + length t ≤ length buf → (s.len ≤ length s.bytes) × (at + s.len ≤ length buf)
  spelled-asked h = (spells-within s t S, omega (arith, S.len))

  -- and that it is put
  pub spelled-puts : (after : ℕ) (left : List ℕ) → Puts at (take s.len s.bytes) buf after left → Puts at t buf after left
  spelled-puts after left P = puts-as S.front P

-- ---- line after line

-- of `all`, to be put into `old` from a place on, the rest is still to be put: whoever puts it here has put all
pub record Going (from : ℕ) (all old : List ℕ) (at : ℕ) (rest buf : List ℕ) : Type 0 where
  pub room : at + length rest ≤ length buf
  pub long : length buf ≡ length old
  pub comes : (after : ℕ) (left : List ℕ) → Puts at rest buf after left → Puts from all old after left

pub going-first : (from : ℕ) (all old : List ℕ) → from + length all ≤ length old → Going from all old from all old
going-first from all old h = record { room = h; long = refl; comes = λ after left P. P }

-- a line of the rest is put
module _ {from at : ℕ} {all old rest buf : List ℕ} (t more : List ℕ) (G : Going from all old at rest buf) (e : rest ≡ t ++ more) where
  pub going-room : at + length t ≤ length buf
  going-room = omega (arith, G.room, ap length e, length-append t more)

  pub going_on : {after : ℕ} {left : List ℕ} → Puts at t buf after left → Going from all old after more left
  going_on {after = after} {left = left} P =
      let same = puts-length at t buf after left P going-room in
      record {
        room = omega (arith, G.room, ap length e, length-append t more, P.place, same);
        long = same ∙ G.long;
        comes = λ r d Q. G.comes r d (puts-as (sym e) (puts-both at t more buf after left r d going-room P Q));
      }

-- none is left
pub going-over : {from at : ℕ} {all old rest buf : List ℕ} → Going from all old at rest buf → rest ≡ [] → Puts from all old at buf
going-over {at = at} {buf = buf} G e = G.comes at buf (puts-as (sym e) (puts_none at buf))
