-- Every fit state has a past that agrees with it, and a past that agrees goes on to agree with whatever happens. So what holds at a new mark by the state and
-- its past holds at every new mark of a history.
-- Assumes nothing.
use mathlib.Core.Path.{◌≡◌, refl, sym, ap, ◌∙◌, subst}
use mathlib.Core.Bool.{Bool, true, false, not, cond, ◌||◌, true≢false}
use mathlib.Core.List.{List, [], ◌∷◌, ◌++◌}
use mathlib.Core.Option.{some}
use Prim.Native.Nat.{ℕ, zero, suc, ◌<◌}
use native.Mathlib.Omega.{arith}
use lib.Seq.{append_snoc}
use borrow.Author.Tests.{ltb-true, ltb-false}
use Rattle.listing.specs.Pattern.{Permutation}
use Rattle.listing.specs.Orders.{Order, carry, carry_all}
use Rattle.listing.proofs.Numbers.{either}
use Rattle.listing.proofs.Panels.{carry_all-append}
use Rattle.promise.specs.Plan.{Lawful, Accepted, rank_at}
use Rattle.promise.specs.Campaign.{State, with_mark, with_panel, with_seat, tallied, error, report_of, is_closing, Call}
use Rattle.promise.specs.Campaign.{Answer, seating, seat_after, Setting, to_come, here, wanted, rank_of, number_of, todo}
use Rattle.promise.specs.Fitness.{OnTheWay, Fit}
use Rattle.promise.specs.Bench.{Turn, leaves, moves, meets, says, in_front, acts, bench, lead_to, AtNew}
use Rattle.promise.specs.Onward.{mark_of, Past, Agrees, none_since, erred, carried_out, past_by, past_of, and_then, and_all}
use Rattle.promise.proofs.Tests.{clash}
use Rattle.promise.proofs.Fitness.{or_cases, or-neither, neither-or}
use Rattle.promise.proofs.Ways.{some-eq, way-found, way-first, way-gone, way-done}
use Rattle.promise.proofs.Steps.{Closes, Does, moves-on, seats-on, hands_out, ends, closes, errs, refuses}
use Rattle.promise.proofs.Steps.{erred_on, none-to-seat, listed_here, over-here, step-on, fit-after, History, stop, then, fit-start}
use Rattle.promise.proofs.Marks.{closed-so}
use Rattle.promise.proofs.Leads.{next-orders}

-- while jacks are seated, the past agrees whichever is next
pub past-seated : (C : Setting) (s : State) (b : Past) (j : ℕ) → Agrees C s b → 0 < s.to_seat → Agrees C (with_seat j s) b
past-seated C s b j g sn = record {
  at_mark = g.at_mark;
  at_repeat = g.at_repeat;
  at_seat = λ h. g.at_seat sn;
  at_end = g.at_end;
  from = g.from;
  carried = g.carried;
  leading = g.leading;
}

module _ (C : Setting) (lawful : Lawful C.family) (accepted : Accepted C.family C.legs) where
  -- the pattern of a fit state's mark is a permutation
  wanted-here : (s : State) → Fit C s → Permutation C.family.ports (wanted C s)
  wanted-here s f = lawful.listed (rank_of C s) (accepted.listed s.leg s.step f.leg f.step)

  -- ---- the past that a fit state by itself tells of

  -- at a mark and after the end
  own-still : (s : State) → Fit C s → s.to_seat ≡ 0 → (s.standing || s.ended) ≡ true
      → Agrees C s (none_since (mark_of C s) s.panel)
  unfolding carry_all
  own-still s f ns e = record {
    at_mark = λ st. (refl, refl);
    at_repeat = λ ag. clash ag refl;
    at_seat = λ h. absurd (omega arith);
    at_end = λ en. refl;
    from = subst (Permutation C.family.ports) (sym (either (or_cases s.standing s.ended e) f.at_mark f.at_end)) (wanted-here s f);
    carried = refl;
    leading = λ st en. clash e (neither-or s.standing s.ended st en);
  }

  -- where a jack is to be seated
  own-seating : (s : State) → Fit C s → 0 < s.to_seat → Agrees C s (erred (mark_of C s) s.panel)
  unfolding carry_all
  own-seating s f h = record {
    at_mark = λ st. (refl, refl);
    at_repeat = λ ag. (refl, refl, (f.seated h).2);
    at_seat = λ x. refl;
    at_end = λ en. refl;
    from = subst (Permutation C.family.ports) (sym (f.seated h).2) (wanted-here s f);
    carried = refl;
    leading = λ st en ag. clash refl ag;
  }

  -- before a mark, by its step
  own-going : (s : State) → Fit C s → s.to_seat ≡ 0 → s.standing ≡ false → s.ended ≡ false → (k : ℕ) → s.step ≡ k
      → Agrees C s (past_by false C.family (here C s) k s.panel (todo C s) (mark_of C s))
  unfolding OnTheWay carry_all
  own-going s f ns st en zero e =
      let P : Permutation C.family.ports s.panel = subst (λ k. OnTheWay C.family (here C s) k s.panel) e (f.between st en) in
      record {
        at_mark = λ x. clash x st;
        at_repeat = λ ag. clash ag refl;
        at_seat = λ h. absurd (omega arith);
        at_end = λ x. refl;
        from = P;
        carried = refl;
        leading = λ x y ag vs w.
            some-eq (sym w ∙ ap (λ k. to_come C.family (here C s) k s.panel) e ∙ way-first C.family (here C s) s.panel P)
            ∙ ap (λ k. lead_to C.family (here C s) k s.panel) (sym e);
      }
  own-going s f ns st en (suc k) e =
      let os : List Order = C.family.orders (here C s).back (rank_at C.family (here C s) k) in
      let w : (vs : List Order) × (todo C s ≡ some vs) = way-found C.family (here C s) s.step s.panel (f.between st en) in
      let gone : (vs : List Order) → todo C s ≡ some vs → (carried_out os (some vs) ++ vs ≡ os)
      × (carry_all (carried_out os (some vs)) (C.family.pattern (rank_at C.family (here C s) k)) ≡ s.panel) =
      λ vs x. way-gone C.family (here C s) k s.panel vs (subst (λ j. to_come C.family (here C s) j s.panel ≡ some vs) e x) in
      record {
        at_mark = λ x. clash x st;
        at_repeat = λ ag. clash ag refl;
        at_seat = λ h. absurd (omega arith);
        at_end = λ x. clash x en;
        from = lawful.listed (rank_at C.family (here C s) k) (listed_here C lawful accepted s f k (omega arith));
        carried = ap (λ o. carry_all (carried_out os o) (C.family.pattern (rank_at C.family (here C s) k))) w.1 ∙ (gone w.0 w.1).1;
        leading = λ x y ag vs v.
            ap (λ o. carried_out os o ++ vs) v ∙ (gone vs v).0
            ∙ ap (λ j. lead_to C.family (here C s) j (C.family.pattern (rank_at C.family (here C s) k))) (sym e);
      }

  -- it agrees with the state
  pub own-past : (s : State) → Fit C s → Agrees C s (past_of C s)
  own-past s f = by-seat (seating s) refl
    where
      by-mark : (b : Bool) → (s.standing || s.ended) ≡ b → s.to_seat ≡ 0
          → Agrees C s (past_by b C.family (here C s) s.step s.panel (todo C s) (mark_of C s))
      by-mark true e ns = own-still s f ns e
      by-mark false e ns = own-going s f ns (or-neither s.standing s.ended e).0 (or-neither s.standing s.ended e).1 s.step refl

      by-seat : (b : Bool) → seating s ≡ b → Agrees C s (cond b (erred (mark_of C s) s.panel)
          (past_by (s.standing || s.ended) C.family (here C s) s.step s.panel (todo C s) (mark_of C s)))
      by-seat true e = own-seating s f (ltb-true 0 s.to_seat e)
      by-seat false e = by-mark (s.standing || s.ended) refl (omega (arith, ltb-false 0 s.to_seat e))

  -- ---- whatever happens, the past goes on to agree

  -- after an order
  past-moved : (s : State) (b : Past) → Fit C s → Agrees C s b → (o : Order) (os : List Order) → s.standing ≡ false → s.ended ≡ false
      → todo C s ≡ some (o ∷ os) → Agrees C (with_panel (carry o s.panel) s) (and_then b s.panel (moves o))
  unfolding carry_all
  past-moved s b f g o os st en w = record {
    at_mark = λ x. clash x st;
    at_repeat = λ ag. absurd (true≢false (cc (sym w ∙ over ag)));
    at_seat = g.at_seat;
    at_end = λ x. clash x en;
    from = g.from;
    carried = carry_all-append b.since (o ∷ []) b.last ∙ ap (carry o) g.carried;
    leading = λ x y ag vs v.
        append_snoc b.since o vs ∙ ap {B = List Order} (λ l. b.since ++ o ∷ l) (some-eq (sym v ∙ step-on C lawful accepted s f o os w))
        ∙ g.leading st en ag (o ∷ os) w;
  }
    where
      over : b.again ≡ true → todo C s ≡ some []
      over ag = over-here C lawful accepted s f (g.at_repeat ag).2

  -- after a mark
  past-marked : (s : State) (b : Past) → Fit C s → s.to_seat ≡ 0 → todo C s ≡ some []
      → Agrees C (with_mark true s) (and_then b s.panel (meets (number_of C s) (rank_of C s)))
  unfolding carry_all
  past-marked s b f ns w = record {
    at_mark = λ x. (refl, refl);
    at_repeat = λ ag. clash ag refl;
    at_seat = λ h. absurd (omega arith);
    at_end = λ x. refl;
    from = subst (Permutation C.family.ports) (sym (way-done C.family lawful (here C s) s.step (listed_here C lawful accepted s f) s.panel w))
        (wanted-here s f);
    carried = refl;
    leading = λ x. clash refl x;
  }

  -- at a mark the panel is the one at the last mark
  last-here : (s : State) (b : Past) → Agrees C s b → s.standing ≡ true → b.last ≡ s.panel
  unfolding carry_all
  last-here s b g st = ap (λ os. carry_all os b.last) (sym (g.at_mark st).1) ∙ g.carried

  -- after a report that closes the mark
  past-closed : (s t : State) (b : Past) (kind : ℕ) → Fit C s → Agrees C s b → s.standing ≡ true → is_closing (report_of kind) ≡ true
      → Closes C (tallied (report_of kind) s) t → Fit C t → Agrees C t (and_then b s.panel (says (report_of kind)))
  past-closed s t b kind f g st cl x h = record {
    at_mark = λ y. clash y (closed-so x).standing;
    at_repeat = λ ag. clash ag (ap not cl);
    at_seat = λ h. absurd (omega (arith, (closed-so x).to_seat, none-to-seat s f st));
    at_end = λ y. (g.at_mark st).1;
    from = g.from;
    carried = g.carried ∙ sym (closed-so x).panel;
    leading = λ y en ag vs w.
        ap (λ os. os ++ vs) (g.at_mark st).1 ∙ some-eq (sym w ∙ next-orders C lawful accepted f.leg (f.at_mark st) x h en)
        ∙ ap (lead_to C.family (here C t) t.step) ((closed-so x).panel ∙ sym (last-here s b g st));
  }

  -- after an error
  past-erred : (s : State) (b : Past) → Fit C s → Agrees C s b → s.standing ≡ true
      → Agrees C (erred_on s) (and_then b s.panel (says error))
  past-erred s b f g st = record {
    at_mark = λ y. clash y refl;
    at_repeat = λ ag. ((g.at_mark st).0, (g.at_mark st).1, f.at_mark st);
    at_seat = λ h. refl;
    at_end = λ y. (g.at_mark st).1;
    from = g.from;
    carried = g.carried;
    leading = λ y en ag. clash refl ag;
  }

  -- after any calls: the past as it happened
  pub past-after : {s : State} {ts : List Turn} (b : Past) → Agrees C s b → History C s ts → Agrees C (leaves s ts) (and_all b s.panel (acts ts))
  unfolding and_all acts leaves bench
  past-after b g (stop f) = g
  past-after {s} b g (then f (moves-on o os st en ns w) h) = past-after (and_then b s.panel (moves o)) (past-moved s b f g o os st en w) h
  past-after {s} b g (then f (hands_out st en ns w) h) =
      past-after (and_then b s.panel (meets (number_of C s) (rank_of C s))) (past-marked s b f ns w) h
  past-after {s} b g (then f (seats-on sn) h) = past-after b (past-seated C s b (seat_after C.family.ports s.to_seat) g sn) h
  past-after b g (then f (ends en) h) = past-after b g h
  past-after {s} b g (then {t = t} {ts = ts} f (closes {kind = kind} st cl x) h) =
      let b' : Past = and_then b s.panel (says (report_of kind)) in
      subst (λ p. Agrees C (leaves t ts) (and_all b' p (acts ts))) (closed-so x).panel
      (past-after b' (past-closed s t b kind f g st cl x (fit-start h)) h)
  past-after {s} b g (then f (errs st lt) h) = past-after (and_then b s.panel (says error)) (past-erred s b f g st) h
  past-after b g (then f (refuses k n) h) = past-after b g h

  -- so after one call
  pub past-on : {s t : State} {c : Call} {a : Answer} (b : Past) → Fit C s → Agrees C s b → Does C s c a t → Agrees C t (and_all b s.panel (in_front c a []))
  unfolding acts leaves
  past-on b f g d = past-after b g (then f d (stop (fit-after C lawful accepted f d)))

  -- ---- every new mark

  -- Q holds at a new mark: where the state hands out a mark, and the last report was no error
  abbrev New : (ℕ → List Order → List ℕ → List ℕ → Type 0) → Type 0
  New Q = (s : State) (b : Past) → Fit C s → Agrees C s b → s.standing ≡ false → s.ended ≡ false → b.again ≡ false → todo C s ≡ some []
      → Q (number_of C s) b.since b.last s.panel

  -- then it holds at every new mark
  pub new-marks : (Q : ℕ → List Order → List ℕ → List ℕ → Type 0) → New Q → {s : State} {ts : List Turn} (b : Past) → Agrees C s b → History C s ts
      → AtNew Q b.again b.since b.last s.panel (acts ts)
  unfolding AtNew acts
  new-marks Q q b g (stop f) = tt
  new-marks Q q {s} b g (then f (moves-on o os st en ns w) h) = new-marks Q q (and_then b s.panel (moves o)) (past-moved s b f g o os st en w) h
  new-marks Q q {s} b g (then f (hands_out st en ns w) h) =
      (λ ag. q s b f g st en ag w, new-marks Q q (and_then b s.panel (meets (number_of C s) (rank_of C s))) (past-marked s b f ns w) h)
  new-marks Q q {s} b g (then f (seats-on sn) h) = new-marks Q q b (past-seated C s b (seat_after C.family.ports s.to_seat) g sn) h
  new-marks Q q b g (then f (ends en) h) = new-marks Q q b g h
  new-marks Q q {s} b g (then {t = t} {ts = ts} f (closes {kind = kind} st cl x) h) =
      let b' : Past = and_then b s.panel (says (report_of kind)) in
      subst (λ p. AtNew Q b'.again b'.since b'.last p (acts ts)) (closed-so x).panel
      (new-marks Q q b' (past-closed s t b kind f g st cl x (fit-start h)) h)
  new-marks Q q {s} b g (then f (errs st lt) h) = new-marks Q q (and_then b s.panel (says error)) (past-erred s b f g st) h
  new-marks Q q b g (then f (refuses k n) h) = new-marks Q q b g h
