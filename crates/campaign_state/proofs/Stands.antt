-- Where a state stands, test by test: the first test that fails makes it unfit, and where all pass the panel decides.
-- Assumes nothing.
use mathlib.Core.Path.{◌≡◌, refl, sym, ap, ◌∙◌}
use mathlib.Core.Bool.{Bool, true, false, not, cond, ◌&&◌, ◌||◌, and-eq-true_iff, true≢false}
use mathlib.Core.List.{List, [], ◌∷◌}
use mathlib.Core.Option.{Option, none, some}
use Prim.Native.Nat.{ℕ, ◌≤◌, ◌<◌}
use lib.Dec.{leb, ltb}
use lib.ListN.{length}
use borrow.Author.Tests.{lt-ltb, le-ltb, le-leb, lt-leb}
use Rattle.listing.specs.Orders.{Order}
use Rattle.promise.specs.Tests.{implies, same}
use Rattle.promise.specs.Campaign as model
use Rattle.promise.specs.Campaign.{here, wanted, todo, found}
use Rattle.promise.specs.Derangements.{derangements}
use Rattle.promise.proofs.Tests.{clash, fails, tells-true, tells-implies}
use Rattle.campaign_way.specs.Coming.{next_of}
use Rattle.campaign_state.specs.State.{setting_of, moment_of}
use Rattle.campaign_state.specs.Fitness.{places_fit, fit, counts_right, end_right, seat_right}
use Rattle.campaign_state.specs.Standing.{Stand, unfit, at_mark, at_end, seat, way_stand, panel_stand, stand_of}
use Rattle.campaign_state.specs.declared.State.{State}

-- where all tests but those of the panel pass, the panel decides: whether a mark stands (st), whether the end is shown (en), whether a jack is to be seated (sn)
-- and which (j), whether the panel has the mark's pattern (sm), what is to come (t)
decided : Bool → Bool → Bool → ℕ → Bool → Option (List Order) → Stand
decided st en sn j sm t = cond st (cond sm at_mark unfit) (cond en (cond sm at_end unfit) (cond sn (cond sm (seat j) unfit) (way_stand (next_of t))))

-- what the tests of the panel and of the seat ask (le: the jack to seat is of the panel)
asked : Bool → Bool → Bool → Bool → Bool → Option (List Order) → Bool
asked st en sn le sm t = implies (st || en) sm && implies (not (st || en)) (found t) && le && implies sn (not st && not en && sm)

-- at the mark's pattern nothing is to come, so it is found
panel-decides : (st en sn : Bool) (j : ℕ) (le sm : Bool) (t : Option (List Order)) → (le && implies sn (not st && not en)) ≡ true → (sm ≡ true → found t ≡ true)
    → decided st en sn j sm t ≡ cond (asked st en sn le sm t) (decided st en sn j sm t) unfit
unfolding decided asked implies
panel-decides st en sn j false sm t h w = clash h refl
panel-decides true en true j true sm t h w = clash h refl
panel-decides true en false j true true t h w = refl
panel-decides true en false j true false t h w = refl
panel-decides false true true j true sm t h w = clash h refl
panel-decides false true false j true true t h w = refl
panel-decides false true false j true false t h w = refl
panel-decides false false true j true true t h w = rw (w refl) refl
panel-decides false false true j true false none h w = refl
panel-decides false false true j true false (some os) h w = refl
panel-decides false false false j true sm none h w = refl
panel-decides false false false j true sm (some []) h w = refl
panel-decides false false false j true sm (some (o ∷ os)) h w = refl

-- a seat that may not be is unfit
seat-wrong : (st en sn le sm : Bool) (t : Option (List Order)) → (le && implies sn (not st && not en)) ≡ false → asked st en sn le sm t ≡ false
unfolding asked
seat-wrong st en sn le sm t h = fails (asked st en sn le sm t) (tells-true (asked st en sn le sm t)) (λ e.
    let all = (and-eq-true_iff (implies (st || en) sm && implies (not (st || en)) (found t) && le) (implies sn (not st && not en && sm))).0 e in
    let seat = (and-eq-true_iff (implies (st || en) sm && implies (not (st || en)) (found t)) le).0 all.0 in
    true≢false (sym ((and-eq-true_iff le (implies sn (not st && not en))).1 (seat.1, without sn (not st && not en) sm all.1)) ∙ h))
  where
    without : (a b c : Bool) → implies a (b && c) ≡ true → implies a b ≡ true
    without a b c e = (tells-implies a b (tells-true a) (tells-true b)).1
        (λ x. ((and-eq-true_iff b c).0 ((tells-implies a (b && c) (tells-true a) (tells-true (b && c))).0 e x)).0)

-- ---- by the panel

module _ (C : model.Setting) (m : model.State) where
  pub mark-right : m.standing ≡ true → same m.panel (wanted C m) ≡ true → at_mark ≡ panel_stand C m
  unfolding panel_stand
  mark-right e f = rw (e, f) refl

  pub mark-wrong : m.standing ≡ true → same m.panel (wanted C m) ≡ false → unfit ≡ panel_stand C m
  unfolding panel_stand
  mark-wrong e f = rw (e, f) refl

  pub end-panel-right : m.standing ≡ false → m.ended ≡ true → same m.panel (wanted C m) ≡ true → at_end ≡ panel_stand C m
  unfolding panel_stand
  end-panel-right e g f = rw (e, g, f) refl

  pub end-panel-wrong : m.standing ≡ false → m.ended ≡ true → same m.panel (wanted C m) ≡ false → unfit ≡ panel_stand C m
  unfolding panel_stand
  end-panel-wrong e g f = rw (e, g, f) refl

  pub seat-panel-right : m.standing ≡ false → m.ended ≡ false → 0 < m.to_seat → same m.panel (wanted C m) ≡ true → seat m.to_seat ≡ panel_stand C m
  unfolding panel_stand
  seat-panel-right e g h f = rw (e, g, lt-ltb 0 m.to_seat h, f) refl

  pub seat-panel-wrong : m.standing ≡ false → m.ended ≡ false → 0 < m.to_seat → same m.panel (wanted C m) ≡ false → unfit ≡ panel_stand C m
  unfolding panel_stand
  seat-panel-wrong e g h f = rw (e, g, lt-ltb 0 m.to_seat h, f) refl

  pub way-panel : (o : Option (Option Order)) → m.standing ≡ false → m.ended ≡ false → m.to_seat ≤ 0 → o ≡ next_of (todo C m) → way_stand o ≡ panel_stand C m
  unfolding panel_stand
  way-panel o e g h f = rw (e, g, le-ltb 0 m.to_seat h, ← f) refl

-- ---- test by test

module _ (s : State) where
  pub unfit-places : places_fit s ≡ false → unfit ≡ stand_of s
  unfolding stand_of fit
  unfit-places e = rw e refl

  module _ (p : places_fit s ≡ true) where
    pub unfit-leg : length (setting_of s).legs ≤ s.leg → unfit ≡ stand_of s
    unfolding stand_of fit model.fit
    unfit-leg h = rw (p, le-ltb s.leg (length (setting_of s).legs) h) refl

    module _ (a : s.leg < length (setting_of s).legs) where
      pub unfit-step : (here (setting_of s) (moment_of s)).run < s.step → unfit ≡ stand_of s
      unfolding stand_of fit model.fit
      unfit-step h = rw (p, lt-ltb s.leg (length (setting_of s).legs) a, lt-leb s.step (here (setting_of s) (moment_of s)).run h) refl

      module _ (b : s.step ≤ (here (setting_of s) (moment_of s)).run) where
        pub unfit-errors : 65535 < s.errors → unfit ≡ stand_of s
        unfolding stand_of fit model.fit
        unfit-errors h =
            rw (p, lt-ltb s.leg (length (setting_of s).legs) a, le-leb s.step (here (setting_of s) (moment_of s)).run b, lt-leb s.errors 65535 h) refl

        module _ (c : s.errors ≤ 65535) where
          pub unfit-counts : counts_right s ≡ false → unfit ≡ stand_of s
          unfolding stand_of fit model.fit
          unfit-counts h =
              rw
              (p, lt-ltb s.leg (length (setting_of s).legs) a, le-leb s.step (here (setting_of s) (moment_of s)).run b, le-leb s.errors 65535 c, h)
              refl

          module _ (d : counts_right s ≡ true) where
            pub unfit-end : end_right s ≡ false → unfit ≡ stand_of s
            unfolding stand_of fit model.fit
            unfit-end h =
                rw
                (p, lt-ltb s.leg (length (setting_of s).legs) a, le-leb s.step (here (setting_of s) (moment_of s)).run b, le-leb s.errors 65535 c, d, h)
                refl

            module _ (h : end_right s ≡ true) where
              pub unfit-seat : seat_right s ≡ false → unfit ≡ stand_of s
              unfolding stand_of fit model.fit asked derangements
              unfit-seat k =
                  rw
                  (p, lt-ltb s.leg (length (setting_of s).legs) a, le-leb s.step (here (setting_of s) (moment_of s)).run b, le-leb s.errors 65535 c, d, h)
                  (sym (ap (λ x. cond x (panel_stand (setting_of s) (moment_of s)) unfit)
                  (seat-wrong s.standing s.ended (ltb 0 s.seat) (leb s.seat s.plan.ports)
                  (same (moment_of s).panel (wanted (setting_of s) (moment_of s))) (todo (setting_of s) (moment_of s)) k)))

              pub stand-panel : seat_right s ≡ true
                  → (same (moment_of s).panel (wanted (setting_of s) (moment_of s)) ≡ true → found (todo (setting_of s) (moment_of s)) ≡ true)
                  → panel_stand (setting_of s) (moment_of s) ≡ stand_of s
              unfolding stand_of fit model.fit panel_stand decided asked derangements
              stand-panel k w =
                  rw
                  (p, lt-ltb s.leg (length (setting_of s).legs) a, le-leb s.step (here (setting_of s) (moment_of s)).run b, le-leb s.errors 65535 c, d, h)
                  (panel-decides s.standing s.ended (ltb 0 s.seat) s.seat (leb s.seat s.plan.ports)
                  (same (moment_of s).panel (wanted (setting_of s) (moment_of s))) (todo (setting_of s) (moment_of s)) k w)
