-- The legs read one by one into places. `Read` says what is known after some legs: they stand in the first places, the others are 0, and the text after them
-- decides. First the places, then a turn of the reader: before the first leg, one leg more, a refusal, and the end.
-- Assumes nothing.
use mathlib.Core.Path.{◌≡◌, refl, sym, ap, ◌∙◌}
use mathlib.Core.List.{List, [], ◌∷◌, ◌++◌, map, append_assoc, append-nil, map-append}
use Prim.Native.Nat.{ℕ, suc, ◌+◌, ◌-◌, ◌*◌, ◌≤◌, ◌<◌}
use native.Mathlib.Omega.{arith}
use lib.IntN.{ℤ, pos}
use lib.ListN.{length, set, replicate, length-append, length-map}
use Rattle.promise.specs.Plan.{Leg}
use Rattle.words.specs.Told.{Told, Spot, accepted, refused, at_line}
use Rattle.plan_lines.specs.Field.{Got}
use Rattle.words.specs.Signs.{with_sign}
use Rattle.plan_rules.specs.Planned.{run_of}
use Rattle.plans.specs.Reading.{leg_in, ended, preceded, legs_in, with_ports}
use Rattle.plans.specs.Answers.{Answers}
use Rattle.words.specs.Padded.{padded}
use Rattle.plan_rules.specs.Places.{placed}
use Rattle.plans.proofs.Legs.{legs-on, legs-refused}
use Rattle.words.proofs.Padded.{padded-set}
use Rattle.std.specs.declared.result.Result.TheVariants.{Ok}

-- ---- places

-- the next entry of a list that is made of legs
pub padded-leg : {A : Type 0} (most : ℕ) (z : A) (f : Leg → A) (ls : List Leg) (l : Leg) (done : ℕ) → length ls ≡ done → done < most
    → set (padded most z (map f ls)) done (f l) ≡ padded most z (map f (ls ++ (l ∷ [])))
padded-leg most z f ls l done e h =
    let m : length (map f ls) ≡ done = length-map ls f ∙ e in
    ap (λ k. set (padded most z (map f ls)) k (f l)) (sym m)
    ∙ padded-set most z (f l) (map f ls) (omega arith)
    ∙ ap (padded most z) (sym (map-append f ls (l ∷ [])))

-- ---- legs before legs

-- none before
preceded-none : (told : Told (List Leg)) → preceded [] told ≡ told
preceded-none (accepted ms) = refl
preceded-none (refused k s) = refl

-- some, and then some more
preceded-twice : (ls ms : List Leg) (told : Told (List Leg)) → preceded ls (preceded ms told) ≡ preceded (ls ++ ms) told
preceded-twice ls ms (accepted xs) = ap accepted (sym (append_assoc ls ms xs))
preceded-twice ls ms (refused k s) = refl

-- ---- a turn

-- what a reader of `legs` legs, the first at a line, knows after `done` of them: the legs, in the first places; and that the rest of the text decides
pub record Read (largest size most legs line : ℕ) (text : List ℕ) (starts : List ℕ) (runs : List ℤ) (rest : List ℕ) (done : ℕ) : Type 0 where
  pub read : List Leg
  pub many : length read ≡ done
  pub in_starts : starts ≡ padded most 0 (map (λ l. l.start) read)
  pub in_runs : runs ≡ padded most (pos 0) (map (λ l. with_sign (run_of l)) read)
  pub told : legs_in largest size legs line text ≡ preceded read (legs_in largest size (legs - done) (line + 2 * done) rest)

module _ (largest size most legs line : ℕ) (text : List ℕ) where
  -- before the first leg
  pub read_none : Read largest size most legs line text (replicate most 0) (replicate most (pos 0)) text 0
  read_none =
      let a : legs - 0 ≡ legs = omega arith in
      let b : line + 2 * 0 ≡ line = omega arith in
      let c : most - 0 ≡ most = omega arith in
      record {
        read = [];
        many = refl;
        in_starts = rw c;
        in_runs = rw c;
        told = rw (a, b) (sym (preceded-none (legs_in largest size legs line text)));
      }

  module _ (starts : List ℕ) (runs : List ℤ) (rest : List ℕ) (done : ℕ) (R : Read largest size most legs line text starts runs rest done) where
    -- one leg more, its run stored as z
    pub read_more : (g : Got Leg) (z : ℤ) → done < legs → done < most → accepted g ≡ leg_in largest size (line + 2 * done) rest
        → z ≡ with_sign (run_of g.value)
        → Read largest size most legs line text (set starts done g.value.start) (set runs done z) g.rest (done + 1)
    read_more g z h w e q =
        let ls = R.read in
        let a : legs - done ≡ suc (legs - (done + 1)) = omega arith in
        let b : suc (suc (line + 2 * done)) ≡ line + 2 * (done + 1) = omega arith in
        record {
          read = ls ++ (g.value ∷ []);
          many = length-append ls (g.value ∷ []) ∙ ap (λ k. k + 1) R.many;
          in_starts = ap (λ l. set l done g.value.start) R.in_starts ∙ padded-leg most 0 (λ l. l.start) ls g.value done R.many w;
          in_runs =
              ap (set runs done) q
              ∙ ap (λ l. set l done (with_sign (run_of g.value))) R.in_runs
              ∙ padded-leg most (pos 0) (λ l. with_sign (run_of l)) ls g.value done R.many w;
          told =
              R.told
              ∙ ap (λ k. preceded ls (legs_in largest size k (line + 2 * done) rest)) a
              ∙ ap (preceded ls) (legs-on largest size (legs - (done + 1)) (line + 2 * done) rest g e)
              ∙ preceded-twice ls (g.value ∷ []) (legs_in largest size (legs - (done + 1)) (suc (suc (line + 2 * done))) g.rest)
              ∙ ap (λ k. preceded (ls ++ (g.value ∷ [])) (legs_in largest size (legs - (done + 1)) k g.rest)) b;
        }

    -- a leg that is refused
    refused-there : (k : ℕ) (s : Spot) → done < legs → refused k s ≡ leg_in largest size (line + 2 * done) rest
        → legs_in largest size legs line text ≡ refused k s
    refused-there k s h e =
        let a : legs - done ≡ suc (legs - (done + 1)) = omega arith in
        R.told
        ∙ ap (λ j. preceded R.read (legs_in largest size j (line + 2 * done) rest)) a
        ∙ ap (preceded R.read) (legs-refused largest size (legs - (done + 1)) (line + 2 * done) rest k s e)

    -- all legs are read: the end of the text decides
    last : done ≡ legs → legs_in largest size legs line text ≡ preceded R.read (ended (line + 2 * legs) rest)
    unfolding legs_in
    last h =
        let a : legs - done ≡ 0 = omega arith in
        R.told ∙ ap (λ k. preceded R.read (legs_in largest size k (line + 2 * done) rest)) a ∙ ap (λ k. preceded R.read (ended (line + 2 * k) rest)) h

    -- what the reader answers, for n ranks
    module _ (ports n : ℕ) (z : size ≡ n) where
      -- the refusal of a leg
      pub leg-refused : (k : ℕ) (s : Spot) → done < legs → refused k s ≡ leg_in largest size (line + 2 * done) rest
          → refused k s ≡ with_ports ports (legs_in largest n legs line text)
      leg-refused k s h e = rw (sym z, refused-there k s h e)

      -- a byte after the last line is 11, at the line that it begins
      pub byte-after : done ≡ legs → 0 < length rest → refused 11 (at_line (line + 2 * legs)) ≡ with_ports ports (legs_in largest n legs line text)
      byte-after h l = rw (sym z, last h, went_on rest l)
        where
          went_on : (t : List ℕ) → 0 < length t → ended (line + 2 * legs) t ≡ refused 11 (at_line (line + 2 * legs))
          went_on [] l = absurd (omega arith)
          went_on (b ∷ t) l = refl

      -- no byte after it: the plan
      pub plan-read : done ≡ legs → length rest ≤ 0
          → Answers most (with_ports ports (legs_in largest n legs line text))
          (record { judged = Ok tt; plan = record { ports = ports; legs = legs; starts = starts; runs = runs } })
      unfolding placed
      plan-read h l =
          let m : legs ≡ length R.read = sym (R.many ∙ h) in
          let all : legs_in largest size legs line text ≡ accepted R.read =
          last h ∙ ap (preceded R.read) (at-end rest l) ∙ ap accepted (append-nil R.read) in
          rw (sym z, all)
          (record { judged = refl; plan = λ i. record { ports = ports; legs = m i; starts = R.in_starts i; runs = R.in_runs i } })
        where
          at-end : (t : List ℕ) → length t ≤ 0 → ended (line + 2 * legs) t ≡ accepted []
          at-end [] l = refl
          at-end (b ∷ t) l = absurd (omega arith)
