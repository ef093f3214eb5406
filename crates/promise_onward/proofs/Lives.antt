-- The life of a bench with any number of power cuts: what it goes through is a row of calls kept and lost; the calls that are kept are a campaign with no cut,
-- every mark meets its pattern, the lost ones too, and a lost mark is met again. The seats of a row that a cut broke are lost, and the row begins anew.
-- Assumes nothing.
use mathlib.Core.Path.{◌≡◌, refl, sym, ap, ◌∙◌, subst}
use mathlib.Core.Logic.{◌⊎◌, inl, inr}
use mathlib.Core.Bool.{false, true≢false}
use mathlib.Core.List.{List, [], ◌∷◌}
use mathlib.Core.Option.{some}
use Prim.Native.Nat.{ℕ, suc}
use native.Mathlib.Omega.{arith}
use Rattle.listing.proofs.Numbers.{either, is-cases}
use Rattle.promise.specs.Plan.{Family, Lawful, Accepted}
use Rattle.promise.specs.Campaign.{State, with_panel, with_seat, Call, request, report_to, Answer, movement, seat, mark, the_end, taken, refusal}
use Rattle.promise.specs.Campaign.{Setting, first, number_of, rank_of, todo, answer}
use Rattle.promise.specs.Fitness.{Fit}
use Rattle.promise.specs.Bench.{Act, run, leaves, turns, left_by, in_front, bench, Meets}
use Rattle.promise.specs.Demand.{Demand}
use Rattle.promise.specs.Onward.{Past, Agrees, past_of}
use Rattle.promise.proofs.Tests.{clash}
use Rattle.promise.proofs.Steps.{Does, moves-on, seats-on, hands_out, ends, closes, errs, refuses, does-so, none-to-seat, fit-first}
use Rattle.promise.proofs.Marks.{closed-so}
use Rattle.promise.proofs.Past.{own-past}
use Rattle.promise.proofs.Onward.{onward}
use Rattle.promise.proofs.Promise.{promise}
use Rattle.promise.proofs.Seats.{reseats-onward}
use Rattle.promise_onward.specs.Resume.{anew, Settled, resumed}
use Rattle.promise_onward.specs.Cuts.{left, Cut}
use Rattle.promise_onward.specs.Lives.{Event, made, cut, Possible, through, Moment, kept, lost, OfRow, HasCut, AreMoments, none, made_kept, row-broken}
use Rattle.promise_onward.specs.Lives.{cut-kept, cut-lost}
use Rattle.promise_onward.specs.Lives.{kept_calls, lost_in_front, happened, NextIs, LostAgain, Lived, LivedThrough}
use Rattle.promise_onward.proofs.Panels.{anew-settled, anew-seating, settled-anew, none-or-one, fit-anew}
use Rattle.promise_onward.proofs.Calls.{Handed, left-fit, shows}
use Rattle.promise_onward.proofs.Cuts.{cut-so}

-- ---- one call, kept or lost

-- a kept call takes the panel on
bench-kept : {C : Setting} {s t : State} {c : Call} {a : Answer} → Does C s c a t → (xs : List Act) → bench s.panel (in_front c a xs) ≡ bench t.panel xs
unfolding bench
bench-kept (moves-on o os st en ns w) xs = refl
bench-kept (seats-on sn) xs = refl
bench-kept (hands_out st en ns w) xs = refl
bench-kept (ends en) xs = refl
bench-kept (closes st cl x) xs = ap (λ p. bench p xs) (sym (closed-so x).panel)
bench-kept (errs st lt) xs = refl
bench-kept (refuses k n) xs = refl

-- a lost one leaves it
bench-lost : (p : List ℕ) (a : Answer) (xs : List Act) → bench p (lost_in_front a xs) ≡ bench p xs
unfolding bench
bench-lost p (movement o) xs = refl
bench-lost p (seat j) xs = refl
bench-lost p (mark k r) xs = refl
bench-lost p (the_end k) xs = refl
bench-lost p taken xs = refl
bench-lost p (refusal k) xs = refl

module _ (F : Family) (p : List ℕ) (xs : List Act) where
  -- every mark meets its pattern after a kept call too, if its own does
  meets-kept : (c : Call) (a : Answer) → ((k r : ℕ) → a ≡ mark k r → p ≡ F.pattern r) → Meets F (bench p (in_front c a [])) xs → Meets F p (in_front c a xs)
  unfolding Meets bench
  meets-kept c (movement o) h m = m
  meets-kept c (seat j) h m = m
  meets-kept c (mark k r) h m = (h k r refl, m)
  meets-kept c (the_end k) h m = m
  meets-kept (request room) taken h m = m
  meets-kept (report_to o kind) taken h m = m
  meets-kept c (refusal k) h m = m

  -- and after a lost one
  meets-lost : (a : Answer) → ((k r : ℕ) → a ≡ mark k r → p ≡ F.pattern r) → Meets F p xs → Meets F p (lost_in_front a xs)
  unfolding Meets
  meets-lost (movement o) h m = m
  meets-lost (seat j) h m = m
  meets-lost (mark k r) h m = (h k r refl, m)
  meets-lost (the_end k) h m = m
  meets-lost taken h m = m
  meets-lost (refusal k) h m = m

module _ (C : Setting) (lawful : Lawful C.family) (accepted : Accepted C.family C.legs) where
  -- a mark that is handed out meets its pattern
  mark-meets : (c : Call) (s : State) → Fit C s → (k r : ℕ) → answer C c s ≡ mark k r → s.panel ≡ C.family.pattern r
  mark-meets c s f k r e = let h : Handed C s k r = shows C lawful accepted s f c (mark k r) e in h.met

  -- ---- any moments

  -- every mark meets its pattern
  meets-all : (ms : List Moment) (s : State) → Fit C s → Meets C.family s.panel (happened C ms s)
  unfolding happened Meets bench
  meets-all [] s f = tt
  meets-all (kept c ∷ ms) s f =
      meets-kept C.family s.panel (happened C ms (left C c s)) c (answer C c s) (mark-meets c s f)
      (subst (λ p. Meets C.family p (happened C ms (left C c s))) (sym (bench-kept (does-so C s f c) [])) (meets-all ms (left C c s) (left-fit C lawful accepted s f c)))
  meets-all (lost c ∷ ms) s f = meets-lost C.family s.panel (happened C ms s) (answer C c s) (mark-meets c s f) (meets-all ms s f)

  -- the panel of the bench is the state's
  bench-all : (ms : List Moment) (s : State) → Fit C s → bench s.panel (happened C ms s) ≡ (leaves s (run C (kept_calls ms) s)).panel
  unfolding happened bench kept_calls run leaves
  bench-all [] s f = refl
  bench-all (kept c ∷ ms) s f = bench-kept (does-so C s f c) (happened C ms (left C c s)) ∙ bench-all ms (left C c s) (left-fit C lawful accepted s f c)
  bench-all (lost c ∷ ms) s f = bench-lost s.panel (answer C c s) (happened C ms s) ∙ bench-all ms s f

  -- where nothing is to come before a mark, it is what happens next
  next-mark : (ms : List Moment) (s : State) → Fit C s → s.standing ≡ false → s.ended ≡ false → s.to_seat ≡ 0 → todo C s ≡ some []
      → NextIs (number_of C s) (rank_of C s) (happened C ms s)
  unfolding happened
  next-mark [] s f st en ns w = tt
  next-mark (kept c ∷ ms) s f st en ns w = go (does-so C s f c) (next-mark ms s f st en ns w)
    where
      go : {c : Call} {a : Answer} {t : State} → Does C s c a t → NextIs (number_of C s) (rank_of C s) (happened C ms s)
          → NextIs (number_of C s) (rank_of C s) (in_front c a (happened C ms t))
      go (moves-on o os x y u z) h = absurd (true≢false (cc (sym w ∙ z)))
      go (seats-on sn) h = absurd (omega arith)
      go (hands_out x y u z) h = refl
      go (ends y) h = clash y en
      go (closes x cl y) h = clash x st
      go (errs x lt) h = clash x st
      go (refuses k n) h = h
  next-mark (lost c ∷ ms) s f st en ns w = go (does-so C s f c) (next-mark ms s f st en ns w)
    where
      go : {c : Call} {a : Answer} {t : State} → Does C s c a t → NextIs (number_of C s) (rank_of C s) (happened C ms s)
          → NextIs (number_of C s) (rank_of C s) (lost_in_front a (happened C ms s))
      go (moves-on o os x y u z) h = h
      go (seats-on sn) h = h
      go (hands_out x y u z) h = refl
      go (ends y) h = h
      go (closes x cl y) h = h
      go (errs x lt) h = h
      go (refuses k n) h = h

  -- so a lost mark comes again
  again-all : (ms : List Moment) (s : State) → Fit C s → LostAgain C ms s
  unfolding LostAgain
  again-all [] s f = tt
  again-all (kept c ∷ ms) s f = again-all ms (left C c s) (left-fit C lawful accepted s f c)
  again-all (lost c ∷ ms) s f = (
    λ k r e.
        let h : Handed C s k r = shows C lawful accepted s f c (mark k r) e in
        rw (h.number, h.rank) (next-mark ms s f h.standing h.ended h.unseated h.over),
    again-all ms s f,
  )

  -- so of any moments
  lived-so : (s : State) → Fit C s → (b : Past) → Agrees C s b → (p : List ℕ) → p ≡ s.panel → (ms : List Moment) → Lived C p s b ms
  lived-so s f b g p e ms = record {
    as_uncut = onward C lawful accepted s f b g (kept_calls ms) p e;
    reseats = reseats-onward C lawful accepted s f b g (kept_calls ms);
    every_mark_meets = subst (λ q. Meets C.family q (happened C ms s)) (sym e) (meets-all ms s f);
    lost_come_again = again-all ms s f;
    panel_is_carried = ap (λ q. bench q (happened C ms s)) e ∙ bench-all ms s f;
  }

  -- ---- whatever a bench goes through

  -- a cut takes up the state before its call or the one after it, its seats begun anew
  cut-state : (c : Call) (s : State) → Fit C s → (x : State) (q : List ℕ) → Cut C c s x q → (resumed q x ≡ anew s) ⊎ (resumed q x ≡ anew (left C c s))
  cut-state c s f x q k =
      either (cut-so C lawful accepted c s f (past_of C s) (own-past C lawful accepted s f) x q k) (λ u. inl (ap anew u.same)) (λ u. inr (ap anew u.same))

  -- and what it takes up is fit
  taken-fit : (c : Call) (s : State) → Fit C s → (x : State) (q : List ℕ) → Cut C c s x q → Fit C (resumed q x)
  taken-fit c s f x q k =
      either (cut-state c s f x q k)
      (λ e. subst (Fit C) (sym e) (fit-anew C s f)) (λ e. subst (Fit C) (sym e) (fit-anew C (left C c s) (left-fit C lawful accepted s f c)))

  -- a call leaves a settled state, or it is one of a row of seats, and begun anew the row is the same before and after it
  pub settled-or-row : {s t : State} {c : Call} {a : Answer} → Fit C s → Does C s c a t → Settled t ⊎ (OfRow a × (anew t ≡ anew s))
  settled-or-row f (moves-on o os st en ns w) = inl (omega arith)
  settled-or-row {s} f (seats-on sn) =
      either (is-cases s.to_seat C.family.ports 0 (suc s.to_seat))
      (λ i. inl (omega (arith, i.1)))
      (λ i. inr (tt, ap (λ j. anew (with_seat j s)) i.1 ∙ anew-seating (with_seat (suc s.to_seat) s) (omega arith) ∙ sym (anew-seating s sn)))
  settled-or-row f (hands_out st en ns w) = inl (omega arith)
  settled-or-row {s} f (ends en) = either (none-or-one s) (λ ns. inl (omega arith)) (λ sn. clash en (f.seated sn).1)
  settled-or-row {s} f (closes st cl x) = inl (omega (arith, (closed-so x).to_seat, none-to-seat s f st))
  settled-or-row f (errs st lt) = inl (omega arith)
  settled-or-row f (refuses k n) = inr (tt, refl)

  -- the state y is s; or, where a cut is among the events, s with its seats begun anew
  Begins : List Event → State → State → Type 0
  Begins es s y = (y ≡ s) ⊎ ((y ≡ anew s) × HasCut es)

  -- so it is, moment by moment, calls kept and lost, and the bench comes out with the state that the kept ones leave, from s on or from where its seats begin
  record Parted (es : List Event) (s : State) : Type 0 where
    from : State
    begins : Begins es s from
    moments : List Moment
    those : AreMoments C s es moments
    comes_out : through C es s ≡ leaves from (run C (kept_calls moments) from)

  -- after a call that is kept, or of a row that was broken later
  after-made : (c : Call) (es : List Event) (s : State) → Fit C s → Parted es (left C c s) → Parted (made c ∷ es) s
  unfolding through kept_calls run leaves Begins HasCut
  after-made c es s f r =
      either (settled-or-row f (does-so C s f c))
      (λ h. keeps (either r.begins (λ e. e) (λ e. e.0 ∙ anew-settled (left C c s) h)))
      (λ h. either r.begins keeps (λ e. record {
        from = r.from;
        begins = inr (e.0 ∙ h.1, e.1);
        moments = lost c ∷ r.moments;
        those = row-broken c h.0 e.1 r.those;
        comes_out = r.comes_out;
      }))
    where
      keeps : r.from ≡ left C c s → Parted (made c ∷ es) s
      keeps e = record {
        from = s;
        begins = inl refl;
        moments = kept c ∷ r.moments;
        those = made_kept c r.those;
        comes_out = r.comes_out ∙ ap (λ y. leaves y (run C (kept_calls r.moments) y)) e;
      }

  -- what is taken up after a cut goes on from where it begins
  from-anew : (s : State) (q : List ℕ) (x y : State) → resumed q x ≡ y → (es : List Event) → (r : Parted es (resumed q x)) → r.from ≡ y
  unfolding Begins
  from-anew s q x y e es r = either r.begins (λ h. h ∙ e) (λ h. h.0 ∙ anew-settled (resumed q x) (settled-anew (with_panel q x)) ∙ e)

  -- after a cut
  after-cut : (c : Call) (x : State) (q : List ℕ) (es : List Event) (s : State) → Fit C s → Cut C c s x q → Parted es (resumed q x) → Parted (cut c x q ∷ es) s
  unfolding through kept_calls run leaves Begins HasCut
  after-cut c x q es s f k r =
      either (cut-state c s f x q k) loses (λ e.
      either (settled-or-row f (does-so C s f c)) (λ h. keeps (e ∙ anew-settled (left C c s) h)) (λ h. loses (e ∙ h.1)))
    where
      loses : resumed q x ≡ anew s → Parted (cut c x q ∷ es) s
      loses e = record {
        from = r.from;
        begins = inr (from-anew s q x (anew s) e es r, tt);
        moments = lost c ∷ r.moments;
        those = cut-lost c x q r.those;
        comes_out = r.comes_out;
      }

      keeps : resumed q x ≡ left C c s → Parted (cut c x q ∷ es) s
      keeps e = record {
        from = s;
        begins = inl refl;
        moments = kept c ∷ r.moments;
        those = cut-kept c x q r.those;
        comes_out = r.comes_out ∙ ap (λ y. leaves y (run C (kept_calls r.moments) y)) (from-anew s q x (left C c s) e es r);
      }

  parted : (es : List Event) (s : State) → Fit C s → Possible C es s → Parted es s
  unfolding Possible through kept_calls run leaves Begins
  parted [] s f h = record { from = s; begins = inl refl; moments = []; those = none; comes_out = refl }
  parted (made c ∷ es) s f h = after-made c es s f (parted es (left C c s) (left-fit C lawful accepted s f c) h)
  parted (cut c x q ∷ es) s f h = after-cut c x q es s f h.0 (parted es (resumed q x) (taken-fit c s f x q h.0) h.1)

  -- from a settled state on the bench comes out with the state that the kept calls leave
  moments-so : (es : List Event) (s : State) → Fit C s → Settled s → Possible C es s
      → (ms : List Moment) × AreMoments C s es ms × (through C es s ≡ leaves s (run C (kept_calls ms) s))
  unfolding Begins
  moments-so es s f z h =
      let r = parted es s f h in
      let from : r.from ≡ s = either r.begins (λ e. e) (λ e. e.0 ∙ anew-settled s z) in
      (r.moments, r.those, r.comes_out ∙ ap (λ y. leaves y (run C (kept_calls r.moments) y)) from)

  -- from any fit state on that is settled, as the first is and each that is taken up
  pub lived-through : (s : State) → Fit C s → Settled s → (b : Past) → Agrees C s b → (p : List ℕ) → p ≡ s.panel → (es : List Event) → Possible C es s
      → LivedThrough C p s b es
  lived-through s f z b g p e es h =
      let r = moments-so es s f z h in
      record { moments = r.0; those = r.1; comes_out = r.2; lived = lived-so s f b g p e r.0 }

  -- a whole campaign: of the calls that are kept demand three holds, and the bench comes out with the state that they leave
  pub lived-demand : (es : List Event) → Possible C es (first C)
      → (ms : List Moment) × AreMoments C (first C) es ms × (through C es (first C) ≡ left_by C (kept_calls ms)) × Demand C (turns C (kept_calls ms))
  unfolding first
  lived-demand es h =
      let r = moments-so es (first C) (fit-first C lawful accepted) (omega arith) h in
      (r.0, r.1, r.2, promise C lawful accepted (kept_calls r.0))
