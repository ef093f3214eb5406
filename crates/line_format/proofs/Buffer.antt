-- A text put at a place of a buffer, after the texts before it.
-- Assumes nothing.
use mathlib.Core.Path.{◌≡◌, sym, ap, ◌∙◌}
use mathlib.Core.List.{List, ◌++◌, append_assoc}
use Prim.Native.Nat.{ℕ, ◌+◌, ◌-◌, ◌≤◌}
use native.Mathlib.Omega.{arith}
use lib.ListN.{length, take, drop, length-append, length-drop}
use lib.Seq.{drop-drop, length-take-le, take-append_seam, drop-append_seam}
use Rattle.line_format.specs.Calls.{over}

-- the buffer with a text at a place
abbrev pub put : ℕ → List ℕ → List ℕ → List ℕ
put at t b = take at b ++ over t (drop at b)

module _ (at : ℕ) (t b : List ℕ) (h : at + length t ≤ length b) where
  -- what stands before the place after it
  abbrev front : List ℕ
  front = take at b ++ t

  pub front_length : length front ≡ at + length t
  front_length = omega (arith, length-append (take at b) t, length-take-le at b (omega arith))

  -- the buffer is that, and then what stood there
  pub put-parts : put at t b ≡ front ++ drop (at + length t) b
  put-parts = sym (append_assoc (take at b) t (drop (length t) (drop at b))) ∙ ap (λ x. front ++ x) (drop-drop (length t) at b)

  pub put_front : take (at + length t) (put at t b) ≡ front
  put_front =
      ap (take (at + length t)) put-parts
      ∙ ap (λ n. take n (front ++ drop (at + length t) b)) (sym front_length)
      ∙ take-append_seam front (drop (at + length t) b)

  pub put_rest : drop (at + length t) (put at t b) ≡ drop (at + length t) b
  put_rest =
      ap (drop (at + length t)) put-parts
      ∙ ap (λ n. drop n (front ++ drop (at + length t) b)) (sym front_length)
      ∙ drop-append_seam front (drop (at + length t) b)

  pub put-length : length (put at t b) ≡ length b
  put-length =
      ap length put-parts ∙ omega (arith, length-append front (drop (at + length t) b), length-drop (at + length t) b, front_length)

  module _ (b₀ : List ℕ) (same : drop at b ≡ drop at b₀) where
    -- where the buffer is still the first one from the place on, it is so after the text
    pub rest-first : drop (at + length t) b ≡ drop (at + length t) b₀
    rest-first = sym (drop-drop (length t) at b) ∙ ap (drop (length t)) same ∙ drop-drop (length t) at b₀

    -- and all that was put stands over the first one
    pub put-over : put at t b ≡ over front b₀
    put-over = put-parts ∙ ap (λ x. front ++ x) (rest-first ∙ ap (λ n. drop n b₀) (sym front_length))
