-- Request 1: what an accepted call tells of a plan is right, the gaps stand in front of the slice, and it is refused just where it has to be (`patterns-named`).
-- Assumes nothing.
use mathlib.Core.Path.{◌≡◌, sym, ap, subst, ◌∙◌}
use mathlib.Core.List.{List}
use Prim.Native.Nat.{ℕ, ◌*◌, ◌≤◌, ◌<◌}
use native.Mathlib.Omega.{arith}
use lib.ListN.{length, take, drop}
use lib.Seq.{take_at, drop_at}
use Rattle.listing.proofs.Numbers.{either, below?}
use Rattle.words.specs.Told.{nowhere, accepted, refused}
use Rattle.words.proofs.Told.{not-both, accepted-once, then-accepted, then-passes}
use Rattle.line_format.specs.Calls.{over}
use Rattle.promise.specs.Derangements.{derangements}
use Rattle.promise_arcs.specs.Named.{numbers, Right}
use Rattle.promise_arcs.proofs.Named.{right-on, length-numbers}
use Rattle.plan_rules.specs.Planned.{Planned, Fits, device}
use Rattle.plans.specs.Calls.{read_plan_of}
use Rattle.plans.proofs.Plans.{accepted-fits}
use Rattle.plan_arcs.proofs.Arcs.{fits-ruled}
use Rattle.plan_named.specs.Calls.{Names, gaps_of, names_of, fitted, named_of, named_numbers}
use Rattle.plan_named.proofs.Surveys.{no-room, room, text-read}
use Rattle.demands.specs.Named.{Tells, PatternsNamed}

-- a plan that fits is told right
plan-right : (p : Planned) → Fits device p → Right (derangements p.ports) p.legs (names_of p).ranks (gaps_of p)
plan-right p F = right-on p.ports F.few_ports p.legs F.few_legs (fits-ruled _ p.legs F.each)

module _ (t old : List ℕ) (p : Planned) (is : read_plan_of t ≡ accepted p) where
  -- no room
  short : length old < 2 * length (gaps_of p) → named_of t old ≡ refused 2 nowhere
  short h = sym ((no-room p old h).0 ∙ (text-read t old p is).0)

  -- room
  long : 2 * length (gaps_of p) ≤ length old → (named_of t old ≡ accepted (names_of p)) × (named_numbers t old ≡ over (numbers (gaps_of p)) old)
  long h =
      let r = room p old h in
      let w = text-read t old p is in
      (sym (r.0 ∙ w.0), sym (r.1 ∙ w.1))

  -- what is told then, and how the slice stands
  told-so : (n : Names) → named_of t old ≡ accepted n → Tells t old n
  told-so n e =
      let As = gaps_of p in
      either (below? (length old) (2 * length As))
      (λ h. absurd (not-both (sym (short h) ∙ e)))
      (λ h.
      let l = long h in
      let same : names_of p ≡ n = accepted-once (sym l.0 ∙ e) in
      let many : length (numbers As) ≡ 2 * n.gaps = length-numbers As ∙ ap (λ (m : Names). 2 * m.gaps) same in
      record {
        plan = p;
        read = is;
        arcs = As;
        right = subst (λ (m : Names). Right (derangements p.ports) p.legs m.ranks As) same (plan-right p (accepted-fits device 1 t p is).0);
        many = sym (ap (λ (m : Names). m.gaps) same);
        front = ap (take (2 * n.gaps)) l.1 ∙ take_at (numbers As) (drop (length (numbers As)) old) (2 * n.gaps) many;
        beyond = ap (drop (2 * n.gaps)) l.1 ∙ drop_at (numbers As) (drop (length (numbers As)) old) (2 * n.gaps) many ∙ ap (λ k. drop k old) many;
      })

pub patterns-named : PatternsNamed
unfolding named_of
patterns-named = record {
  tells = λ t old n e. let b = then-accepted (read_plan_of t) (λ p. fitted p old) n e in told-so t old b.first b.taken n e;
  plan_first = λ t old k s e. then-passes (read_plan_of t) (λ p. fitted p old) k s e;
  room = λ t old p is. (
    λ e. either (below? (length old) (2 * length (gaps_of p))) (λ h. h) (λ h. absurd (not-both (sym e ∙ (long t old p is h).0))),
    short t old p is,
  );
  enough = λ t old p is h.
      let F = (accepted-fits device 1 t p is).0 in
      (long t old p is (omega (arith, (plan-right p F).few, F.many_legs))).0;
}
