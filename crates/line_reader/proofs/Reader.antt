-- What the reader may conclude at each step: of the byte that it found, the numbers that it read, the shape, the key, and the newline.
-- Assumes nothing.
use mathlib.Core.Path.{◌≡◌, refl, sym, ap, subst, ◌∙◌}
use mathlib.Core.Bool.{true, false, ◌&&◌, true≢false, and-eq-true_iff}
use mathlib.Core.List.{List}
use mathlib.Core.Option.{Option, none, some, map, bind}
use Prim.Native.Nat.{ℕ, zero, suc, ◌+◌, ◌-◌, ◌≤◌, ◌<◌}
use native.Mathlib.Numerals.{add-one}
use native.Mathlib.Omega.{arith}
use lib.Dec.{leb}
use borrow.Author.Tests.{le-leb, leb-true}
use lib.ListN.{length, take, drop, length-drop, drop_of_length-le}
use lib.Seq.{length-take-le}
use Rattle.listing.proofs.Numbers.{either, test}
use Rattle.words.specs.Told.{Told, accepted, refused, nowhere, then, need}
use Rattle.words.specs.declared.Line.{Line}
use Rattle.text_numbers.specs.Decimal.{number_up_to}
use Rattle.text_keys.specs.Parts.{newline, comma, first_of, begins, after_key}
use Rattle.text_keys.proofs.Cuts.{first-inside, to_the_end}
use Rattle.line_format.specs.Format.{Kind, swapping, turning, seating, marking, ending, key, commas, line_of}
use Rattle.line_format.specs.Reading.{number_before, numbers_in, fitting, numbers_told, keyed, line_in, read_of}
use Rattle.text_numbers.specs.Answers.{read_is}
use Rattle.line_reader.specs.Answers.{listed_is, alone_of, preceded_by, kind_is, keyed_told}
use Rattle.line_reader.specs.declared.order_lines.Numbers.{Numbers as Three}
use Rattle.line_reader.specs.declared.order_lines.Kind.{Kind as Kind-Read}
use Rattle.line_reader.specs.declared.order_lines.Kind.TheVariants.{Swap, Turn, Seat, Mark, End}
use Rattle.words.specs.Shape.{line_fits, LineFits}
use Rattle.words.proofs.Shape.{passes-fits}
use Rattle.std.specs.declared.option.Option.{Option as Maybe}
use Rattle.std.specs.declared.option.Option.TheVariants.{Some, None}

-- ---- parts of a text

-- a newline that stands k after a place stands inside the text
pub newline-inside : (t : List ℕ) (place k : ℕ) → some k ≡ first_of newline (drop place t) → place + k < length t
newline-inside t place k e = omega (arith, first-inside newline (drop place t) k (sym e), length-drop place t)

-- past the end nothing is found
pub none-past : (b : ℕ) (t : List ℕ) (place : ℕ) → length t ≤ place → none ≡ first_of b (drop place t)
unfolding first_of
none-past b t place h = rw (drop_of_length-le t h)

-- ---- numbers

-- a number before one or two others, of which the third is not there
one_more : (m a : ℕ) (rest : Maybe Three) → m ≤ 1 → listed_is (suc m) (preceded_by a rest) ≡ map (λ x. (a, x)) (listed_is m rest)
one_more zero a (Some x) h = refl
one_more (suc zero) a (Some x) h = refl
one_more (suc (suc m)) a (Some x) h = absurd (omega arith)
one_more m a None h = refl

module _ (most : ℕ) where
  -- without a comma there is no number before it
  pub no-comma : (t : List ℕ) → none ≡ first_of comma t → none ≡ number_before most t
  unfolding number_before bind
  no-comma t e = rw (← e)

  -- what was read before the first comma decides
  pub before-comma : (t : List ℕ) (k : ℕ) (o : Option ℕ) → some k ≡ first_of comma t → o ≡ number_up_to most (take k t)
      → map (λ n. (n, drop (k + 1) t)) o ≡ number_before most t
  unfolding number_before bind
  before-comma t k o e f = rw (← e, ← f, add-one k)

  -- without a first number there are no numbers
  pub no-first : (n m : ℕ) (t : List ℕ) → n ≡ suc m → none ≡ number_before most t → none ≡ numbers_in most n t
  unfolding numbers_in bind
  no-first n m t z e = rw (z, ← e)

  -- one number alone
  pub alone-numbers : (n : ℕ) (t : List ℕ) (found : Maybe ℕ) → n ≡ 0 → read_is found ≡ number_up_to most t → listed_is n (alone_of found) ≡ numbers_in most n t
  unfolding numbers_in
  alone-numbers n t found z e = subst (λ m. listed_is m (alone_of found) ≡ numbers_in most m t) (sym z) (alone found ∙ e)
    where
      alone : (r : Maybe ℕ) → listed_is 0 (alone_of r) ≡ read_is r
      alone (Some k) = refl
      alone None = refl

  -- after the first, those from the place after its comma on decide
  pub after_first : (n m : ℕ) (t : List ℕ) (a at : ℕ) (rest : Maybe Three) → n ≡ suc m → m ≤ 1 → some (a, drop at t) ≡ number_before most t
      → listed_is m rest ≡ numbers_in most m (take (length t - at) (drop at t)) → listed_is n (preceded_by a rest) ≡ numbers_in most n t
  unfolding numbers_in bind
  after_first n m t a at rest z h e f = rw (z, ← e, ← to_the_end t at, ← f) (one_more m a rest h)

-- ---- shape

module _ (jacks : ℕ) (l : Line) where
  -- a line that passes the test
  pub fit-good : line_fits jacks l ≡ true → accepted l ≡ fitting jacks l
  unfolding fitting
  fit-good e = rw e

  -- one that does not
  pub fit-bad : line_fits jacks l ≡ false → refused 17 nowhere ≡ fitting jacks l
  unfolding fitting
  fit-bad e = rw e

  -- a line that does not fit does not pass it
  pub unfit : (LineFits jacks l → ⊥) → refused 17 nowhere ≡ fitting jacks l
  unfit h = either (test (line_fits jacks l)) (λ e. absurd (h (passes-fits jacks l e))) fit-bad

-- no kind has more than two
pub commas-few : (k : Kind-Read) → commas (kind_is k) ≤ 2
commas-few Swap = omega arith
commas-few Turn = omega arith
commas-few Seat = omega arith
commas-few Mark = omega arith
commas-few End = omega arith

-- three numbers that were asked whether they are jacks: they are, or not all of them
pub jacks-within : (jacks a b c : ℕ) → true ≡ (leb a jacks && leb b jacks && leb c jacks) → (a ≤ jacks) × (b ≤ jacks) × (c ≤ jacks)
jacks-within jacks a b c e =
    let x = (and-eq-true_iff (leb a jacks && leb b jacks) (leb c jacks)).0 (sym e) in
    let y = (and-eq-true_iff (leb a jacks) (leb b jacks)).0 x.0 in
    (leb-true a jacks y.0, leb-true b jacks y.1, leb-true c jacks x.1)

pub not-jacks : (jacks a b c : ℕ) → false ≡ (leb a jacks && leb b jacks && leb c jacks) → a ≤ jacks → b ≤ jacks → c ≤ jacks → ⊥
not-jacks jacks a b c e x y z = true≢false (sym (e ∙ rw (le-leb a jacks x, le-leb b jacks y, le-leb c jacks z)))

module _ (most jacks : ℕ) where
  -- ---- after the key

  -- numbers are judged as the line that they make; none, or the wrong count of them, are 8
  abbrev pub judged_by : Kind-Read → Maybe Three → Told Line
  judged_by k r = then (need 8 nowhere (listed_is (commas (kind_is k)) r)) (λ x. fitting jacks (line_of (kind_is k) x))

  pub numbers-judged : (k : Kind-Read) (n at : ℕ) (t : List ℕ) (r : Maybe Three) → n ≡ commas (kind_is k) → keyed_told most jacks t (Some (k, at)) ≡ line_in most jacks t
      → listed_is n r ≡ numbers_in most n (take (length t - at) (drop at t)) → judged_by k r ≡ line_in most jacks t
  unfolding numbers_told
  numbers-judged k n at t r z h e =
      let f = subst (λ m. listed_is m r ≡ numbers_in most m (take (length t - at) (drop at t))) z e ∙ ap (numbers_in most (commas (kind_is k))) (to_the_end t at) in
      rw f h

  -- ---- the key

  module _ (t : List ℕ) where
    -- this key
    keyed-here : (k : Kind) (other : Told Line) → true ≡ begins (key k) t
        → numbers_told most jacks k (drop (length (key k)) t) ≡ keyed most jacks k (after_key (key k) t) other
    keyed-here k other e = rw (← e)

    -- another
    keyed-other : (k : Kind) (other : Told Line) → false ≡ begins (key k) t → other ≡ keyed most jacks k (after_key (key k) t) other
    keyed-other k other e = rw (← e)

    pub line-swap : true ≡ begins (key swapping) t → numbers_told most jacks swapping (drop 5 t) ≡ line_in most jacks t
    unfolding line_in
    line-swap e = keyed-here swapping _ e

    module _ (no-swap : false ≡ begins (key swapping) t) where
      pub line-turn : true ≡ begins (key turning) t → numbers_told most jacks turning (drop 5 t) ≡ line_in most jacks t
      unfolding line_in
      line-turn e = keyed-here turning _ e ∙ keyed-other swapping _ no-swap

      module _ (no-turn : false ≡ begins (key turning) t) where
        -- what the keys after them decide
        keyed-later : (other : Told Line) → other ≡ keyed most jacks swapping (after_key (key swapping) t) (keyed most jacks turning (after_key (key turning) t) other)
        keyed-later other = keyed-other turning other no-turn ∙ keyed-other swapping _ no-swap

        pub line-seat : true ≡ begins (key seating) t → numbers_told most jacks seating (drop 5 t) ≡ line_in most jacks t
        unfolding line_in
        line-seat e = keyed-here seating _ e ∙ keyed-later _

        module _ (no-seat : false ≡ begins (key seating) t) where
          pub line-mark : true ≡ begins (key marking) t → numbers_told most jacks marking (drop 5 t) ≡ line_in most jacks t
          unfolding line_in
          line-mark e = keyed-here marking _ e ∙ keyed-other seating _ no-seat ∙ keyed-later _

          module _ (no-mark : false ≡ begins (key marking) t) where
            pub line-end : true ≡ begins (key ending) t → numbers_told most jacks ending (drop 4 t) ≡ line_in most jacks t
            unfolding line_in
            line-end e = keyed-here ending _ e ∙ keyed-other marking _ no-mark ∙ keyed-other seating _ no-seat ∙ keyed-later _

            pub line-none : false ≡ begins (key ending) t → refused 7 nowhere ≡ line_in most jacks t
            unfolding line_in
            line-none e = keyed-other ending _ e ∙ keyed-other marking _ no-mark ∙ keyed-other seating _ no-seat ∙ keyed-later _

  -- ---- the newline

  module _ (t : List ℕ) (place : ℕ) where
    -- there is none from the place on
    pub no-newline : none ≡ first_of newline (drop place t) → refused 11 nowhere ≡ read_of most jacks t place
    unfolding read_of
    no-newline e = rw (← e)

    -- the line before it decides
    pub before-newline : (k : ℕ) (r : Told Line) → some k ≡ first_of newline (drop place t) → r ≡ line_in most jacks (take (place + k - place) (drop place t))
        → then r (λ l. accepted (l, place + k + 1)) ≡ read_of most jacks t place
    unfolding read_of
    before-newline k r e f =
        let to : place + k - place ≡ k = omega arith in
        let n : length (take k (drop place t)) ≡ k = length-take-le k (drop place t) (omega (arith, first-inside newline (drop place t) k (sym e))) in
        let f' : r ≡ line_in most jacks (take k (drop place t)) = f ∙ ap (λ j. line_in most jacks (take j (drop place t))) to in
        rw (← e, ← f', n)
