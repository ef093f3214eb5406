-- How long the text of what a plan names is: at most 718 bytes on the device with 20 ports (`text-fits`). Every number has at most 18 digits, and the ranks that are
-- named and those of the gaps add up to the circuit's, so that at most 8 of these 17 numbers have as many as 18.
-- Assumes nothing.
use mathlib.Core.Path.{◌≡◌, refl}
use mathlib.Core.Bool.{true}
use mathlib.Core.Logic.{inl, inr}
use mathlib.Core.List.{List, [], ◌∷◌, ◌++◌}
use Prim.Native.Nat.{ℕ, ◌+◌, ◌*◌, ◌≤◌, ◌<◌}
use native.Mathlib.Omega.{arith}
use lib.ListN.{length, length-append}
use Rattle.listing.specs.Count.{count}
use Rattle.listing.specs.Limits.{most_legs}
use Rattle.listing.proofs.Limits.{count_most}
use Rattle.listing.proofs.Numbers.{either, below?}
use Rattle.promise.specs.Derangements.{derangements}
use Rattle.promise_arcs.specs.Gaps.{Arc, In, total}
use Rattle.promise_arcs.specs.Named.{named, many_named, Right}
use Rattle.promise_arcs.proofs.Only.{gap-short}
use Rattle.promise_arcs.proofs.Named.{right-on}
use Rattle.text_numbers.specs.Decimal.{digits_of}
use Rattle.text_numbers.proofs.Lengths.{digits-at-most}
use Rattle.text_keys.specs.Parts.{comma}
use Rattle.plan_lines.specs.Field.{field_text}
use Rattle.plan_rules.specs.Planned.{device}
use Rattle.plan_rules.specs.Rules.{legs_of, Ruled, plan_ruled}
use Rattle.plan_rules.specs.declared.Plan.{Plan}
use Rattle.plan_rules.proofs.Rules.{ruled}
use Rattle.plan_arcs.specs.Arcs.{gaps_in}
use Rattle.plan_arcs.proofs.Arcs.{fits-ruled}
use Rattle.plan_arcs.proofs.Found.{left-few}
use Rattle.plans.proofs.Longest.{places, field-length}
use Rattle.naming.specs.Text.{named_key, of_key, gaps_key, gap_key, counts_text, gap_text, gaps_text, named_text, most_named}

-- the lowest number of 18 digits, and the lowest of 19
abbrev low18 : ℕ
low18 = 100000000000000000

abbrev low19 : ℕ
low19 = 1000000000000000000

-- a number of at most 18 digits has 18 only from the lowest of them on
places-weigh : (n : ℕ) → n < low19 → places n * low18 ≤ 17 * low18 + n
places-weigh n h =
    either (below? n low18)
    (λ l. omega (arith, digits-at-most 16 n (omega arith)))
    (λ l. omega (arith, digits-at-most 17 n (omega arith)))

-- how long the counts are
counts-length : (named of gaps : ℕ) → length (counts_text named of gaps) ≡ (7 + places named) + (4 + places of) + (6 + places gaps)
unfolding counts_text
counts-length named of gaps =
    let a = field_text named_key (digits_of named) in
    let b = field_text of_key (digits_of of) in
    let c = field_text gaps_key (digits_of gaps) in
    omega (
      arith,
      length-append a (b ++ c),
      length-append b c,
      field-length named_key (digits_of named),
      field-length of_key (digits_of of),
      field-length gaps_key (digits_of gaps),
    )

-- ---- gaps

-- an arc whose numbers have at most 18 digits
abbrev Short : Arc → Type 0
Short A = (A.first < low19) × (A.many < low19)

-- the line of a gap
gap-weighs : (A : Arc) → Short A → length (gap_text A) * low18 ≤ 41 * low18 + A.many
unfolding gap_text
gap-weighs A h =
    let value = digits_of A.first ++ (comma ∷ digits_of A.many) in
    omega (
      arith,
      field-length gap_key value,
      length-append (digits_of A.first) (comma ∷ digits_of A.many),
      digits-at-most 17 A.first h.0,
      places-weigh A.many h.1,
    )

gaps-weigh : (As : List Arc) → ((A : Arc) → In A As → Short A) → length (gaps_text As) * low18 ≤ 41 * low18 * length As + total As
unfolding gaps_text total
gaps-weigh [] h = omega arith
gaps-weigh (A ∷ As) h =
    omega (
      arith,
      length-append (gap_text A) (gaps_text As),
      gap-weighs A (h A (inl refl)),
      gaps-weigh As (λ B i. h B (inr i)),
    )

-- ---- a plan within the rules

module _ (p : Plan) (R : Ruled device p) where
  abbrev many : ℕ
  many = many_named (derangements p.ports) (legs_of p)

  right : Right (derangements p.ports) (legs_of p) many (gaps_in p)
  right = right-on p.ports R.fits.few_ports (legs_of p) R.fits.few_legs (fits-ruled (count p.ports) (legs_of p) R.fits.each)

  -- named ranks and gap ranks are those of the circuit, which are fewer than 9 times the lowest number of 18 digits
  whole : many + total (gaps_in p) ≡ count p.ports
  unfolding derangements
  whole = right.whole

  size : count p.ports < 9 * low18
  size = omega (arith, count_most p.ports R.fits.many_ports)

  gaps-short : (A : Arc) → In A (gaps_in p) → Short A
  unfolding derangements
  gaps-short A i =
      let G = right.gaps.each A i in
      (omega (arith, G.listed, size), omega (arith, gap-short (count p.ports) (named (derangements p.ports) (legs_of p)) A G, size))

  -- its text, part by part
  text-parts : length (named_text p) ≡ (7 + places many) + (4 + places (count p.ports)) + (6 + places (length (gaps_in p))) + length (gaps_text (gaps_in p))
  unfolding named_text
  text-parts = omega (arith, length-append (counts_text many (count p.ports) (length (gaps_in p))) (gaps_text (gaps_in p)), counts-length many (count p.ports) (length (gaps_in p)))

  -- so it has at most 718 bytes
  pub text-fits : length (named_text p) ≤ most_named
  text-fits =
      omega (
        arith,
        text-parts,
        places-weigh many (omega (arith, whole, size)),
        digits-at-most 17 (count p.ports) (omega (arith, size)),
        digits-at-most 1 (length (gaps_in p)) (omega (arith, left-few p R)),
        gaps-weigh (gaps_in p) gaps-short,
        left-few p R,
        whole,
        size,
      )

-- and so has what is written of a plan in its places
pub written-fits : (p : Plan) → length p.starts ≡ most_legs → length p.runs ≡ most_legs → plan_ruled device p ≡ true
    → (n : ℕ) → n ≡ length (named_text p) → n ≤ most_named
written-fits p ls lr e n f = omega (arith, text-fits p (ruled device p ls lr e))
