-- Texts written one behind the other: the part of a buffer from a place on (`part-whole`, `part-put`), and a text over what stands behind another one
-- (`over-behind`), so that three of them are one text over the buffer (`over-three`), are told as one (`three-room`, `three-front`), and as the sentence if they
-- are its parts (`sentence-told`). At the end, that any words fit 49 bytes (`words-fit`).
-- Assumes nothing.
use mathlib.Core.Path.{◌≡◌, sym, ap, ◌∙◌, subst}
use mathlib.Core.List.{List, [], ◌++◌, append_assoc, append-nil}
use Prim.Native.Nat.{ℕ, ◌+◌, ◌-◌, ◌≤◌, ◌<◌}
use native.Mathlib.Omega.{arith}
use lib.ListN.{length, take, drop, length-append, take-append-drop}
use lib.Seq.{drop-drop, drop-length, take_at, take-append_seam, drop-append_seam}
use borrow.Rule.Slice.PartMut.{mid_of, put_mid, Post-is}
use Rattle.words.specs.Told.{Told, nowhere, accepted, refused}
use Rattle.words.specs.declared.Refusal.{Refusal}
use Rattle.words.proofs.Told.{not-both, accepted-once}
use Rattle.line_format.specs.Calls.{room_of, over, room_bytes}
use Rattle.line_format.proofs.Written.{text-room, text-front}
use Rattle.line_writer.specs.Answers.{written_told}
use Rattle.line_refusal.specs.Words.{words_of, most_words, refusal_words_of, refusal_words_bytes}
use Rattle.line_refusal.proofs.Words.{words-longest}
use Rattle.line_sentence.specs.Sentences.{where_text, other_text, sentence_of, refusal_sentence_of, refusal_sentence_bytes}
use Rattle.std.specs.declared.result.Result.{Result}
use Rattle.std.specs.declared.result.Result.TheVariants.{Ok, Err}

-- ---- from a place on

module _ (b : List ℕ) (at : ℕ) (h : at ≤ length b) where
  abbrev room : ℕ
  room = length b - at

  -- nothing stands after the part
  none_after : drop room (drop at b) ≡ []
  none_after = Post-is at (length b) b (omega arith) ∙ drop-length b

  -- the part is all from the place on
  pub part-whole : mid_of at room b ≡ drop at b
  part-whole =
      sym (append-nil (mid_of at room b)) ∙ ap (λ x. mid_of at room b ++ x) (sym none_after) ∙ take-append-drop room (drop at b)

  -- what is left in its place stands after what stands before the place
  pub part-put : (ys : List ℕ) → put_mid at room b ys ≡ take at b ++ ys
  part-put ys = ap (λ x. take at b ++ (ys ++ x)) none_after ∙ ap (λ x. take at b ++ x) (append-nil ys)

-- ---- one behind the other

-- a text over what stands behind another is both over the buffer
over-behind : (t u buf : List ℕ) → take (length t) (over t buf) ++ over u (drop (length t) (over t buf)) ≡ over (t ++ u) buf
over-behind t u buf =
    let rest = drop (length t) buf in
    ap (λ x. x ++ over u (drop (length t) (over t buf))) (take-append_seam t rest)
    ∙ ap (λ x. t ++ over u x) (drop-append_seam t rest)
    ∙ sym (append_assoc t u (drop (length u) rest))
    ∙ ap (λ x. (t ++ u) ++ x) (drop-drop (length u) (length t) buf ∙ ap (λ n. drop n buf) (sym (length-append t u)))

-- and so are three
pub over-three : (t u v buf one two three : List ℕ)
    → one ≡ over t buf → two ≡ take (length t) one ++ over u (drop (length t) one)
    → three ≡ take (length t + length u) two ++ over v (drop (length t + length u) two) → three ≡ over ((t ++ u) ++ v) buf
over-three t u v buf one two three e f g =
    let both = f ∙ ap (λ x. take (length t) x ++ over u (drop (length t) x)) e ∙ over-behind t u buf in
    g
    ∙ ap (λ x. take (length t + length u) x ++ over v (drop (length t + length u) x)) both
    ∙ ap (λ n. take n (over (t ++ u) buf) ++ over v (drop n (over (t ++ u) buf))) (sym (length-append t u))
    ∙ over-behind (t ++ u) v buf

-- ---- what is told of three

module _ (t u v buf : List ℕ) where
  three-length : length t + length u + length v ≡ length ((t ++ u) ++ v)
  three-length = omega (arith, length-append (t ++ u) v, length-append t u)

  -- the buffer has no room for them
  pub three-room : length buf < length t + length u + length v
      → (refused 2 nowhere ≡ room_of ((t ++ u) ++ v) buf) × (buf ≡ room_bytes ((t ++ u) ++ v) buf)
  three-room h = text-room ((t ++ u) ++ v) buf (omega (arith, three-length))

  -- they are put at the front
  pub three-front : length t + length u + length v ≤ length buf
      → (accepted (length t + length u + length v) ≡ room_of ((t ++ u) ++ v) buf) × (over ((t ++ u) ++ v) buf ≡ room_bytes ((t ++ u) ++ v) buf)
  three-front h =
      let told = text-front ((t ++ u) ++ v) buf (omega (arith, three-length)) in
      (ap accepted three-length ∙ told.0, told.1)

-- three texts that are the parts of a sentence are told as the sentence
pub sentence-told : (number place earlier : ℕ) (buf : List ℕ) {t u v left : List ℕ} {told : Told ℕ}
    → t ≡ where_text number place → u ≡ words_of number → v ≡ other_text number earlier
    → (told ≡ room_of ((t ++ u) ++ v) buf) × (left ≡ room_bytes ((t ++ u) ++ v) buf)
    → (told ≡ refusal_sentence_of number place earlier buf) × (left ≡ refusal_sentence_bytes number place earlier buf)
unfolding refusal_sentence_of refusal_sentence_bytes sentence_of
sentence-told number place earlier buf {t} {u} {v} {left} {told} e f g h =
    subst (λ x. (told ≡ room_of x buf) × (left ≡ room_bytes x buf)) (λ i. (e i ++ f i) ++ g i) h

-- ---- the words in an array of 49 bytes

module _ (number : ℕ) (buf : List ℕ) (room : length buf ≡ most_words) (w : Result ℕ Refusal) (told : written_told w ≡ refusal_words_of number buf) where
  fit : (accepted (length (words_of number)) ≡ refusal_words_of number buf) × (over (words_of number) buf ≡ refusal_words_bytes number buf)
  unfolding refusal_words_of refusal_words_bytes
  fit = text-front (words_of number) buf (omega (arith, room, words-longest number))

  -- they stand at its front
  pub words-fit : (n : ℕ) (left : List ℕ) → w ≡ Ok n → left ≡ refusal_words_bytes number buf
      → (take n left ≡ words_of number) × (n ≡ length (words_of number))
  words-fit n left e l =
      let all : n ≡ length (words_of number) = accepted-once (sym (ap written_told e) ∙ told ∙ sym fit.0) in
      (ap (take n) (l ∙ sym fit.1) ∙ take_at (words_of number) (drop (length (words_of number)) buf) n (sym all), all)

  -- and are never refused
  pub words-never : (f : Refusal) → w ≡ Err f → ⊥
  words-never f e = not-both (sym (ap written_told e) ∙ told ∙ sym fit.0)
