-- Lists by their parts: what stands at a place (`past`, `inside`, `run_at`), and arrays that are filled from a part of the words (`part-stored`, `part-all`).
-- Assumes nothing.
use mathlib.Core.Path.{◌≡◌, refl, sym, ap, ◌∙◌}
use mathlib.Core.List.{List, ◌++◌, map, map-append}
use Prim.Native.Nat.{ℕ, ◌+◌, ◌-◌, ◌≤◌, ◌<◌}
use native.Mathlib.Numerals.{add-one}
use native.Mathlib.Omega.{arith}
use lib.ListN.{length, take, drop, set, get_or, replicate, length-drop, length-replicate, get_or-replicate, get_or-append}
use lib.Seq.{get_or-append-add, drop-append-add, take-suc, take-suc-set, take_all, get_or-drop}
use Rattle.face_state.specs.States.{words_at}

module _ {A : Type 0} where
  -- what stands past the first n entries
  pub past : (front rest : List A) (n i : ℕ) (d : A) → length front ≡ n → n ≤ i → get_or (front ++ rest) i d ≡ get_or rest (i - n) d
  past front rest n i d e h =
      let split : i ≡ length front + (i - n) = omega arith in
      ap (λ k. get_or (front ++ rest) k d) split ∙ get_or-append-add front rest (i - n) d

  -- what stands among them
  pub inside : (front rest : List A) (n i : ℕ) (d : A) → length front ≡ n → i < n → get_or (front ++ rest) i d ≡ get_or front i d
  inside front rest n i d e h = get_or-append front rest d i (omega arith)

  -- the list without them, and more
  pub drop_past : (front rest : List A) (n m : ℕ) → length front ≡ n → drop (n + m) (front ++ rest) ≡ drop m rest
  drop_past front rest n m e = ap (λ k. drop (k + m) (front ++ rest)) (sym e) ∙ drop-append-add front rest m

-- what stands in a run of k equal numbers past the first n
pub run_at : (front rest : List ℕ) (n k v i : ℕ) → length front ≡ n → n ≤ i → i < n + k → get_or (front ++ (replicate k v ++ rest)) i 0 ≡ v
run_at front rest n k v i e low high =
    past front (replicate k v ++ rest) n i 0 e low
    ∙ inside (replicate k v) rest k (i - n) 0 (length-replicate k v) (omega arith)
    ∙ get_or-replicate k (i - n) v 0 (omega arith)

-- ---- filled from a part of the words

module _ {A : Type 0} (g : ℕ → A) (ws : List ℕ) (at : ℕ) (u : List A) where
  -- the first i entries are those of the words from `at` on, each by g
  abbrev pub Filled : ℕ → Type 0
  Filled i = take i u ≡ map g (words_at ws at i)

  -- after the last turn all are
  pub part-all : (i n : ℕ) → Filled i → i ≡ n → length u ≡ n → u ≡ map g (words_at ws at n)
  part-all i n f e l = sym (take_all n u (omega arith)) ∙ rw e at f

-- one more is stored
pub part-stored : {A : Type 0} (g : ℕ → A) (ws : List ℕ) (at : ℕ) (u : List A) (i : ℕ) (v : A) → i < length u → at + i < length ws
    → Filled g ws at u i → v ≡ g (get_or ws (at + i) 0) → Filled g ws at (set u i v) (i + 1)
part-stored g ws at u i v hu hw f e =
    let more : i < length (drop at ws) = omega (arith, length-drop at ws) in
    rw (add-one, take-suc-set u i v hu, take-suc (drop at ws) i 0 more, get_or-drop, map-append, f, e) refl
