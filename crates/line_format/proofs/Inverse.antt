-- Lines read and lines written are inverse, both ways: a written line is read as that line wherever it stands (`read-written`), and a text that reads as a
-- line is the text that the line is written as (`written_read`). So a text begins with one line at most (`one_line`), and a line has one text.
-- At a place at or past the end 11 is told (`read_past`). Every line of a campaign is one of these (`campaign-proper`).
-- Assumes nothing.
use mathlib.Core.Path.{◌≡◌, refl, sym, ap, ◌∙◌, subst}
use mathlib.Core.Bool.{Bool, true, false, cond}
use mathlib.Core.Logic.{◌⊎◌, inl, inr}
use mathlib.Core.List.{List, [], ◌∷◌, ◌++◌}
use mathlib.Core.Option.{Option, none, some}
use Prim.Native.Nat.{ℕ, ◌+◌, ◌≤◌}
use native.Mathlib.Omega.{arith}
use lib.ListN.{length, drop, length-append, length-drop, drop_of_length-le}
use lib.Seq.{append_snoc, drop-append_seam, drop-drop}
use Rattle.listing.proofs.Numbers.{either}
use Rattle.words.specs.Shape.{line_fits}
use Rattle.words.specs.Told.{Told, accepted, refused, nowhere, then, need}
use Rattle.words.specs.declared.Order.TheVariants.{Swap, Turn}
use Rattle.words.specs.declared.Line.{Line}
use Rattle.words.specs.declared.Line.TheVariants.{Movement, Seat, Mark, End}
use Rattle.words.proofs.Shape.{fits-passes, passes-fits}
use Rattle.text_keys.specs.Parts.{newline, first_of, begins, cut, after_key}
use Rattle.text_keys.proofs.Cuts.{first-append, cut-joined, cut_parts}
use Rattle.text_keys.proofs.Keys.{key-after}
use Rattle.line_format.specs.Format.{Kind, swapping, turning, seating, marking, ending, key, commas, Numbers, AllUpTo, listed}
use Rattle.line_format.specs.Format.{kind_of, numbers_of, line_of, key_text, unended, line_text}
use Rattle.line_format.specs.Reading.{numbers_in, Proper, fitting, numbers_told, keyed, line_in, read_of}
use Rattle.line_format.specs.Campaign.{OfCampaign}
use Rattle.line_format.proofs.Listed.{listed-clear, numbers-of-listed, listed-of-numbers}
use Rattle.words.proofs.Told.{not-both, accepted-once, need-accepted, then-accepted}

-- ---- shape

-- what is accepted passes the test, and is the line itself
fitting-accepted : (n : ℕ) (l m : Line) → fitting n l ≡ accepted m → (line_fits n l ≡ true) × (l ≡ m)
unfolding fitting
fitting-accepted n l m e = by (line_fits n l) refl e
  where
    by : (b : Bool) → line_fits n l ≡ b → cond b (accepted l) (refused 17 nowhere) ≡ accepted m → (line_fits n l ≡ true) × (l ≡ m)
    by true q e = (q, cc)
    by false q e = absurd (not-both e)

-- ---- a line and its numbers

-- the line of the numbers of a line is that line
line-of-numbers : (l : Line) → line_of (kind_of l) (numbers_of l) ≡ l
line-of-numbers (Movement (Swap a b)) = refl
line-of-numbers (Movement (Turn a b c)) = refl
line-of-numbers (Seat j) = refl
line-of-numbers (Mark m r) = refl
line-of-numbers (End m) = refl

-- the text of the line of numbers is the kind's key and those numbers
unended-of-line : (k : Kind) (x : Numbers (commas k)) → unended (line_of k x) ≡ key_text k x
unfolding unended
unended-of-line swapping x = refl
unended-of-line turning x = refl
unended-of-line seating n = refl
unended-of-line marking x = refl
unended-of-line ending n = refl

-- and they are its numbers
all-of-line : (most : ℕ) (k : Kind) (x : Numbers (commas k)) → AllUpTo most (commas k) x
    → AllUpTo most (commas (kind_of (line_of k x))) (numbers_of (line_of k x))
all-of-line most swapping x h = h
all-of-line most turning x h = h
all-of-line most seating n h = h
all-of-line most marking x h = h
all-of-line most ending n h = h

-- no newline is in a key
key-clear : (k : Kind) → first_of newline (key k) ≡ none
unfolding first_of
key-clear swapping = refl
key-clear turning = refl
key-clear seating = refl
key-clear marking = refl
key-clear ending = refl

-- nor in a line before its newline
unended-clear : (l : Line) → first_of newline (unended l) ≡ none
unfolding unended key_text
unended-clear l = let k = kind_of l in first-append newline (key k) (listed (commas k) (numbers_of l)) (key-clear k) (listed-clear (commas k) (numbers_of l))

-- a line's text and any text after it
text-append : (l : Line) (t : List ℕ) → line_text l ++ t ≡ unended l ++ (newline ∷ t)
unfolding line_text
text-append l t = append_snoc (unended l) newline t

-- its newline is one byte
pub text-length : (l : Line) → length (line_text l) ≡ length (unended l) + 1
unfolding line_text
text-length l = length-append (unended l) (newline ∷ [])

-- ---- without the newline

module _ (most jacks : ℕ) where
  -- a text that begins with the key of a kind is judged by it
  line-keyed : (k : Kind) (v : List ℕ) → line_in most jacks (key k ++ v) ≡ numbers_told most jacks k v
  unfolding line_in begins
  line-keyed swapping v = refl
  line-keyed turning v = refl
  line-keyed seating v = refl
  line-keyed marking v = refl
  line-keyed ending v = refl

  -- the text of a line is judged good
  unended-read : (l : Line) → Proper most jacks l → line_in most jacks (unended l) ≡ accepted l
  unfolding unended key_text numbers_told fitting
  unended-read l p =
      let k = kind_of l in
      line-keyed k (listed (commas k) (numbers_of l))
      ∙ ap (λ o. then (need 8 nowhere o) (λ x. fitting jacks (line_of k x))) (numbers-of-listed most (commas k) (numbers_of l) p.numbers)
      ∙ ap (fitting jacks) (line-of-numbers l)
      ∙ rw (fits-passes jacks l p.fits)

  -- a text that was judged good by a kind
  record Keyed (t : List ℕ) (l : Line) : Type 0 where
    kind : Kind
    rest : List ℕ
    whole : t ≡ key kind ++ rest
    told : numbers_told most jacks kind rest ≡ accepted l

  -- by this kind, or by another
  by_key : (k : Kind) (t : List ℕ) (other : Told Line) (l : Line) → keyed most jacks k (after_key (key k) t) other ≡ accepted l → Keyed t l ⊎ (other ≡ accepted l)
  by_key k t other l e = by (after_key (key k) t) refl e
    where
      by : (o : Option (List ℕ)) → after_key (key k) t ≡ o → keyed most jacks k o other ≡ accepted l → Keyed t l ⊎ (other ≡ accepted l)
      by none q e = inr e
      by (some v) q e = inl (record { kind = k; rest = v; whole = key-after (key k) t v q; told = e })

  line-kind : (t : List ℕ) (l : Line) → line_in most jacks t ≡ accepted l → Keyed t l
  unfolding line_in
  line-kind t l e =
      either (by_key swapping t _ l e) (λ x. x)
      (λ e. either (by_key turning t _ l e) (λ x. x)
      (λ e. either (by_key seating t _ l e) (λ x. x)
      (λ e. either (by_key marking t _ l e) (λ x. x)
      (λ e. either (by_key ending t _ l e) (λ x. x) (λ e. absurd (not-both e))))))

  -- a text that is judged good is the text of its line
  read-unended : (t : List ℕ) (l : Line) → line_in most jacks t ≡ accepted l → (t ≡ unended l) × Proper most jacks l
  unfolding numbers_told key_text
  read-unended t l e =
      let y = line-kind t l e in
      let k = y.kind in
      let c = then-accepted (need 8 nowhere (numbers_in most (commas k) y.rest)) (λ x. fitting jacks (line_of k x)) l y.told in
      let x = c.first in
      let n = listed-of-numbers most (commas k) y.rest x (need-accepted 8 nowhere (numbers_in most (commas k) y.rest) x c.taken) in
      let f = fitting-accepted jacks (line_of k x) l c.on in
      subst (λ m. (t ≡ unended m) × Proper most jacks m) f.1 (
        y.whole ∙ ap (λ v. key k ++ v) n.0 ∙ sym (unended-of-line k x),
        record { fits = passes-fits jacks (line_of k x) f.0; numbers = all-of-line most k x n.1 },
      )

  -- ---- both ways

  -- a line that was written is read as that line, whatever stands before and after it
  pub read-written : (l : Line) → Proper most jacks l → (before later : List ℕ)
      → read_of most jacks (before ++ (line_text l ++ later)) (length before) ≡ accepted (l, length before + length (line_text l))
  unfolding read_of
  read-written l p before later =
      let b = unended l in
      let at : drop (length before) (before ++ (line_text l ++ later)) ≡ b ++ (newline ∷ later) =
      drop-append_seam before (line_text l ++ later) ∙ text-append l later in
      let parts : cut newline (drop (length before) (before ++ (line_text l ++ later))) ≡ some (record { front = b; rest = later }) =
      ap (cut newline) at ∙ cut-joined newline b later (unended-clear l) in
      ap
      (λ o. then (need 11 nowhere o) (λ q. then (line_in most jacks q.front) (λ m. accepted (m, length before + length q.front + 1)))) parts
      ∙ ap (λ r. then r (λ m. accepted (m, length before + length b + 1))) (unended-read l p)
      ∙ ap (λ n. accepted (l, n)) (omega (arith, text-length l))

  -- what a line that was read says of the text
  pub record Found (t : List ℕ) (place : ℕ) (l : Line) (next : ℕ) : Type 0 where
    pub text : drop place t ≡ line_text l ++ drop next t
    pub on : place + length (line_text l) ≡ next
    pub within : next ≤ length t
    pub proper : Proper most jacks l

  -- a text that reads as a line is there the text that the line is written as
  pub written_read : (t : List ℕ) (place : ℕ) (l : Line) (next : ℕ) → read_of most jacks t place ≡ accepted (l, next) → Found t place l next
  unfolding read_of
  written_read t place l next e =
      let c = then-accepted (need 11 nowhere (cut newline (drop place t)))
      (λ p. then (line_in most jacks p.front) (λ m. accepted (m, place + length p.front + 1))) (l, next) e in
      let p = c.first in
      let w = (cut_parts newline (drop place t) p (need-accepted 11 nowhere (cut newline (drop place t)) p c.taken)).whole in
      let d = then-accepted (line_in most jacks p.front) (λ m. accepted (m, place + length p.front + 1)) (l, next) c.on in
      let is : d.first ≡ l = ap (λ q. q.0) (accepted-once d.on) in
      let to : place + length p.front + 1 ≡ next = ap (λ q. q.1) (accepted-once d.on) in
      let r = read-unended p.front l (d.taken ∙ ap accepted is) in
      let on : place + length (line_text l) ≡ next = omega (arith, text-length l, ap length r.0) in
      let all : drop place t ≡ line_text l ++ p.rest = w ∙ ap (λ s. s ++ (newline ∷ p.rest)) r.0 ∙ sym (text-append l p.rest) in
      let end : drop next t ≡ p.rest =
      ap (λ n. drop n t) (sym on)
      ∙ sym (drop-drop (length (line_text l)) place t)
      ∙ ap (drop (length (line_text l))) all
      ∙ drop-append_seam (line_text l) p.rest in
      record {
        text = all ∙ ap (λ s. line_text l ++ s) (sym end);
        on = on;
        within = omega (arith, text-length l, length-drop place t, ap length all, length-append (line_text l) p.rest);
        proper = r.1;
      }

  -- so a text begins with one line at most
  pub one-line : (l m : Line) → Proper most jacks l → Proper most jacks m → (s t : List ℕ) → line_text l ++ s ≡ line_text m ++ t → l ≡ m
  one-line l m p q s t e =
      let a = sym (read-written l p [] s) ∙ ap (λ u. read_of most jacks u 0) e ∙ read-written m q [] t in ap (λ r. r.0) (accepted-once a)

  -- ---- at or past the end

  -- no newline is there
  pub read_past : (t : List ℕ) (place : ℕ) → length t ≤ place → read_of most jacks t place ≡ refused 11 nowhere
  unfolding read_of first_of
  read_past t place h = rw (drop_of_length-le t h)

-- ---- what a campaign writes

-- every line of a campaign is one that the device writes and reads
pub campaign-proper : (jacks most ranks : ℕ) → jacks ≤ most → ranks ≤ most → (l : Line) → OfCampaign jacks most ranks l → Proper most jacks l
campaign-proper jacks most ranks j r (Movement (Swap a b)) h = record { fits = h; numbers = (omega arith, omega arith) }
campaign-proper jacks most ranks j r (Movement (Turn a b c)) h = record { fits = h; numbers = (omega arith, (omega arith, omega arith)) }
campaign-proper jacks most ranks j r (Seat i) h = record { fits = h; numbers = omega arith }
campaign-proper jacks most ranks j r (Mark m k) h = record { fits = tt; numbers = (h.0, omega arith) }
campaign-proper jacks most ranks j r (End m) h = record { fits = tt; numbers = h }
