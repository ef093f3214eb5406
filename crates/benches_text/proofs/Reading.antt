-- Laws of the counts that are read: line by line, and in the loop that reads them.
-- Assumes nothing.
use mathlib.Core.Path.{◌≡◌, refl, sym, ap, ◌∙◌}
use mathlib.Core.List.{List, [], ◌∷◌, ◌++◌, append-nil, append_assoc}
use mathlib.Core.Option.{none, some}
use Prim.Native.Nat.{ℕ, suc, ◌+◌, ◌*◌, ◌/◌, ◌≤◌, ◌<◌}
use native.Mathlib.Nat.{mod-lt, div-add-mod', div-mul-le_self}
use native.Mathlib.Omega.{arith}
use lib.ListN.{length, take, drop, set, length-append, length-drop, length-set}
use lib.Seq.{drop-drop, drop-length, take-suc-set}
use Rattle.words.specs.Told.{Told, Spot, accepted, refused, at_line, then, need}
use Rattle.words.proofs.Told.{accepted-once, not-both}
use Rattle.text_keys.specs.Parts.{newline, first_of, around}
use Rattle.text_keys.proofs.Cuts.{first-inside}
use Rattle.text_entries.specs.Entries.{pieces}
use Rattle.text_entries.proofs.Cutting.{parted, pieces-cut}
use Rattle.benches_laws.specs.Calls.{per_bench}
use Rattle.benches_text.specs.Reading.{Three, three_in, before, no_more, lines_in, counts_from, counts_in}
use Rattle.benches_text.proofs.Three.{some-piece}

-- ---- line by line

-- a line, and the lines after it
pub line-more : (line : ℕ) (t : List ℕ) (k : ℕ) → some k ≡ first_of newline t
    → counts_from line t ≡ then (need 8 (at_line line) (three_in (take k t))) (λ x. before x (counts_from (suc line) (drop (suc k) t)))
unfolding lines_in
line-more line t k e =
    let S = some-piece newline (drop (suc k) t) in
    ap (lines_in line) (pieces-cut newline t ∙ ap (λ o. parted newline t (around t o)) (sym e))
    ∙ rw S.so refl

-- no newline: a byte begins a line that has none
pub line-unended : (line : ℕ) (t : List ℕ) → none ≡ first_of newline t → 0 < length t → refused 11 (at_line line) ≡ counts_from line t
unfolding lines_in
line-unended line t e h = sym (ap (lines_in line) (pieces-cut newline t ∙ ap (λ o. parted newline t (around t o)) (sym e)) ∙ some_byte t h)
  where
    some_byte : (u : List ℕ) → 0 < length u → no_more line u ≡ refused 11 (at_line line)
    some_byte [] l = absurd (omega arith)
    some_byte (b ∷ u) l = refl

-- no line
pub line-none : (line : ℕ) → counts_from line [] ≡ accepted []
unfolding lines_in pieces
line-none line = refl

-- ---- three numbers in a slice

-- there is room for those of one line more, or not
pub three-room : (n lines : ℕ) → lines < n / 3 → per_bench * lines + 3 ≤ n
three-room n lines h = omega (arith, div-mul-le_self n 3)

pub three-over : (n lines : ℕ) → n / 3 ≤ lines → n < per_bench * lines + 3
three-over n lines h =
    let three : 0 < 3 = omega arith in
    omega (arith, div-add-mod' n 3, mod-lt n three)

-- put one behind the other, they stand behind what stood before them
pub three-set : (l : List ℕ) (at a b c : ℕ) → at + 3 ≤ length l
    → take (at + 3) (set (set (set l at a) (at + 1) b) (at + 2) c) ≡ take at l ++ (a ∷ b ∷ c ∷ [])
three-set l at a b c h =
    let one : at + 1 ≡ suc at = omega arith in
    let two : at + 2 ≡ suc (suc at) = omega arith in
    let three : at + 3 ≡ suc (suc (suc at)) = omega arith in
    let x : List ℕ = set l at a in
    let y : List ℕ = set x (suc at) b in
    let long-x : length x ≡ length l = length-set l at a in
    let long-y : length y ≡ length x = length-set x (suc at) b in
    rw (one, two, three)
    (take-suc-set y (suc (suc at)) c (omega arith)
    ∙ ap (λ p. p ++ (c ∷ [])) (take-suc-set x (suc at) b (omega arith) ∙ ap (λ p. p ++ (b ∷ [])) (take-suc-set l at a (omega arith)))
    ∙ append_assoc (take at l ++ (a ∷ [])) (b ∷ []) (c ∷ []) ∙ append_assoc (take at l) (a ∷ []) (b ∷ c ∷ []))

-- a line after so many
pub line_as : {k lines : ℕ} {told : Told (List ℕ)} → refused k (at_line (suc lines)) ≡ told → refused k (at_line (lines + 1)) ≡ told
line_as {lines = lines} e = let next : lines + 1 ≡ suc lines = omega arith in rw next e

-- a refusal is told whole, and then there are no counts
pub not-read : (t slice : List ℕ) (k : ℕ) (s : Spot) → refused k s ≡ counts_in t
    → (refused k s ≡ then (counts_in t) (λ ns. accepted (length ns)))
    × ((ns : List ℕ) → counts_in t ≡ accepted ns → length ns ≤ length slice → take (length ns) slice ≡ ns)
not-read t slice k s e = (ap (λ told. then told (λ ns. accepted (length ns))) e, λ ns f h. absurd (not-both (e ∙ f)))

-- ---- the loop: lines before a place were read

-- so many lines of t were read, up to a place: their numbers, and the counts that t is are these and those of the rest; they stand at the front of a slice as far
-- as it has room
pub record Read (t : List ℕ) (lines at : ℕ) (slice : List ℕ) : Type 0 where
  pub done : List ℕ
  pub many : length done ≡ per_bench * lines
  pub rest : counts_in t ≡ then (counts_from (suc lines) (drop at t)) (λ ns. accepted (done ++ ns))
  pub front : per_bench * lines ≤ length slice → take (per_bench * lines) slice ≡ done

pub read_none : (t slice : List ℕ) → Read t 0 0 slice
read_none t slice = record { done = []; many = refl; rest = sym (then_same (counts_in t)); front = λ h. refl }
  where
    then_same : (told : Told (List ℕ)) → then told (λ ns. accepted ([] ++ ns)) ≡ told
    then_same (accepted ns) = refl
    then_same (refused k s) = refl

module _ (t : List ℕ) (lines at : ℕ) (slice : List ℕ) (R : Read t lines at slice) where
  -- a refusal of the rest is that of the whole
  on-refused : (k : ℕ) (s : Spot) → refused k s ≡ counts_from (suc lines) (drop at t) → refused k s ≡ counts_in t
  on-refused k s e = sym (R.rest ∙ ap (λ told. then told (λ ns. accepted (R.done ++ ns))) (sym e))

  -- no newline comes any more
  pub read-unended : none ≡ first_of newline (drop at t) → at < length t → refused 11 (at_line (suc lines)) ≡ counts_in t
  read-unended e h = on-refused 11 (at_line (suc lines)) (line-unended (suc lines) (drop at t) e (omega (arith, length-drop at t)))

  -- the end
  pub read-end : at ≡ length t → accepted R.done ≡ counts_in t
  read-end h =
      let none_left : drop at t ≡ [] = ap (λ j. drop j t) h ∙ drop-length t in
      sym (R.rest ∙ ap (λ u. then (counts_from (suc lines) u) (λ ns. accepted (R.done ++ ns))) none_left
      ∙ ap (λ told. then told (λ ns. accepted (R.done ++ ns))) (line-none (suc lines)) ∙ ap accepted (append-nil R.done))

  -- what the whole tells, and what stands at the front
  pub read_all : at ≡ length t → accepted (per_bench * lines) ≡ then (counts_in t) (λ ns. accepted (length ns))
  read_all h = ap accepted (sym R.many) ∙ ap (λ told. then told (λ ns. accepted (length ns))) (read-end h)

  pub read-front : at ≡ length t → (ns : List ℕ) → counts_in t ≡ accepted ns → length ns ≤ length slice → take (length ns) slice ≡ ns
  read-front h ns e l =
      let same : R.done ≡ ns = accepted-once (read-end h ∙ e) in
      let long : length ns ≡ per_bench * lines = ap length (sym same) ∙ R.many in
      ap (λ j. take j slice) long ∙ R.front (omega arith) ∙ same

  module _ (k : ℕ) (e : some k ≡ first_of newline (drop at t)) where
    -- the newline stands inside
    pub newline-inside : at + k < length t
    newline-inside = omega (arith, first-inside newline (drop at t) k (sym e), length-drop at t)

    -- a line that is not three numbers
    pub read-bad : none ≡ three_in (take k (drop at t)) → refused 8 (at_line (suc lines)) ≡ counts_in t
    read-bad f =
        on-refused 8 (at_line (suc lines))
        (ap (λ o. then (need 8 (at_line (suc lines)) o) (λ x. before x (counts_from (suc (suc lines)) (drop (suc k) (drop at t))))) f
        ∙ sym (line-more (suc lines) (drop at t) k e))

    -- a line that is: one more was read
    pub read_more : (x : Three) → some x ≡ three_in (take k (drop at t)) → (left : List ℕ) → length left ≡ length slice
        → (per_bench * lines + 3 ≤ length slice → take (per_bench * lines + 3) left ≡ take (per_bench * lines) slice ++ (x.first ∷ x.second ∷ x.third ∷ []))
        → Read t (lines + 1) (at + k + 1) left
    read_more x f left long put = record {
      done = R.done ++ (x.first ∷ x.second ∷ x.third ∷ []);
      many = length-append R.done (x.first ∷ x.second ∷ x.third ∷ []) ∙ omega (arith, R.many);
      rest = R.rest ∙ ap (λ told. then told (λ ns. accepted (R.done ++ ns))) read-line ∙ joined (counts_from (suc (suc lines)) (drop (suc k) (drop at t))) ∙ same_rest;
      front = λ h. in-front (omega arith);
    }
      where
        three : List ℕ
        three = x.first ∷ x.second ∷ x.third ∷ []

        read-line : counts_from (suc lines) (drop at t) ≡ before x (counts_from (suc (suc lines)) (drop (suc k) (drop at t)))
        read-line =
            line-more (suc lines) (drop at t) k e
            ∙ ap (λ o. then (need 8 (at_line (suc lines)) o) (λ y. before y (counts_from (suc (suc lines)) (drop (suc k) (drop at t))))) (sym f)

        joined : (told : Told (List ℕ)) → then (before x told) (λ ns. accepted (R.done ++ ns)) ≡ then told (λ ns. accepted ((R.done ++ three) ++ ns))
        joined (accepted ns) = ap accepted (sym (append_assoc R.done three ns))
        joined (refused j q) = refl

        same_rest : then (counts_from (suc (suc lines)) (drop (suc k) (drop at t))) (λ ns. accepted ((R.done ++ three) ++ ns))
            ≡ then (counts_from (suc (lines + 1)) (drop (at + k + 1) t)) (λ ns. accepted ((R.done ++ three) ++ ns))
        same_rest =
            let next : suc lines ≡ lines + 1 = omega arith in
            let place : at + suc k ≡ at + k + 1 = omega arith in
            ap (λ u. then (counts_from (suc (suc lines)) u) (λ ns. accepted ((R.done ++ three) ++ ns))) (drop-drop (suc k) at t ∙ ap (λ j. drop j t) place)
            ∙ ap (λ m. then (counts_from (suc m) (drop (at + k + 1) t)) (λ ns. accepted ((R.done ++ three) ++ ns))) next

        in-front : per_bench * lines + 3 ≤ length slice → take (per_bench * (lines + 1)) left ≡ R.done ++ three
        in-front h =
            let e : per_bench * (lines + 1) ≡ per_bench * lines + 3 = omega arith in
            ap (λ j. take j left) e ∙ put h ∙ ap (λ l. l ++ three) (R.front (omega arith))
