-- Demand three for the bytes: a robot that reads nothing but the texts which requests wrote obeys every line, and every mark meets the pattern of its rank
-- (`robot-meets`). It sees what the answers say (`robot-acts`), so all of demand three holds of what it sees (`demand-bytes`).
-- Assumes nothing.
use mathlib.Core.Path.{◌≡◌, refl, sym, ap, subst, ◌∙◌}
use mathlib.Core.Bool.{true}
use mathlib.Core.List.{List, [], ◌∷◌, ◌++◌}
use mathlib.Core.Option.{Option, none, some}
use Prim.Native.Nat.{ℕ, suc, ◌≤◌}
use native.Mathlib.Nat.{zero-add}
use native.Mathlib.Omega.{arith}
use lib.ListN.{length, drop, length-append, length-drop}
use lib.Seq.{drop-append_seam}
use Rattle.listing.specs.Count.{count}
use Rattle.listing.specs.Ends.{home}
use Rattle.listing.specs.Limits.{most_ports, largest64}
use Rattle.listing.specs.Pattern.{Permutation}
use Rattle.listing.proofs.Limits.{count-20}
use Rattle.words.specs.Told.{accepted}
use Rattle.words.specs.declared.Line.{Line}
use Rattle.words.proofs.Once.{order-there}
use Rattle.pattern_check.proofs.Accepted.{Panel, panel-accepted}
use Rattle.line_format.specs.Format.{line_text}
use Rattle.line_format.proofs.Inverse.{read-written, campaign-proper}
use Rattle.panel.specs.Calls.{after_line, carry_of, carry_bytes}
use Rattle.panel.proofs.Accepted.{carry-accepted}
use Rattle.promise.specs.Plan.{Leg}
use Rattle.promise.specs.Campaign.{Setting, request, report_to, Answer, movement, seat, mark, the_end, taken, refusal, first}
use Rattle.promise.specs.Campaign as model
use Rattle.promise.specs.Bench.{Act, moves, in_front, acts}
use Rattle.promise.specs.Demand.{Demanded, FullCircuit}
use Rattle.promise.specs.Derangements.{derangements}
use Rattle.promise.proofs.Marks.{closed-so}
use Rattle.promise.proofs.Steps.{Does, closes, errs, refuses}
use Rattle.campaign_state.specs.State.{answer_line, text_of, moment_of}
use Rattle.campaign_state.specs.declared.State.{State}
use Rattle.campaign.specs.Calls.{answer_of, left_of, bytes_of}
use Rattle.campaign.proofs.Tells.{within-room}
use Rattle.campaign_reached.specs.Turns.{AcceptedPlan, campaign_of, begun, Called, asks, tells, turns_of, left_after}
use Rattle.demands.specs.Robot.{seen, obeyed, panel_after, Obeys, Asked, RobotMeets, line_acts, seen_acts, asked_acts, robot_acts}
use Rattle.campaign_reached.specs.Shown.{Shows, Shown}
use Rattle.campaign_reached.proofs.Begun.{plan-fits, begun-moment}
use Rattle.campaign_reached.proofs.Shown.{shows}
use Rattle.campaign_reached.proofs.Reached.{Reached, reached-first, does-there, reached-left}
use Rattle.demands.proofs.Three.{demand-left, all-met}

-- ---- one line at the front of a buffer

module _ (n : ℕ) (few : 2 ≤ n) (many : n ≤ most_ports) where
  module _ (l : Line) (buf q q' : List ℕ) (room : length (line_text l) ≤ length buf) (P : Permutation n q) (S : Shows n l q q') where
    -- the bytes that are left
    abbrev bytes : List ℕ
    bytes = line_text l ++ drop (length (line_text l)) buf

    -- they read as the line
    reads : seen bytes ≡ accepted (l, length (line_text l))
    reads =
        read-written largest64 most_ports l (campaign-proper most_ports largest64 (count most_ports) (omega arith) (omega (arith, count-20)) l S.ours) []
        (drop (length (line_text l)) buf)
        ∙ ap (λ k. accepted (l, k)) (zero-add (length (line_text l)))

    -- which the panel takes
    carried : (accepted tt ≡ carry_of most_ports l q) × (after_line l q ≡ carry_bytes most_ports l q)
    carried =
        let long : length q ≡ n = P.long in
        let is : Panel most_ports q = record { low = omega arith; high = omega arith; is = rw long P } in
        carry-accepted most_ports q (panel-accepted most_ports q is) l l refl (rw long S.fits)

    obeys : Obeys n l buf bytes q
    obeys = record {
      reads = reads;
      later = drop-append_seam (line_text l) (drop (length (line_text l)) buf);
      long = omega (arith, length-append (line_text l) (drop (length (line_text l)) buf), length-drop (length (line_text l)) buf);
      takes = sym carried.0;
      meets = S.meets;
    }

    -- and the robot's panel is then the one that the line leads to
    led : obeyed (seen bytes) q ≡ q'
    led = rw reads (let left : carry_bytes most_ports l q ≡ q' = sym carried.1 ∙ S.leads in left)

  -- the same with or without a line
  asked-so : (o : Option Line) (buf q q' : List ℕ) → length (text_of o) ≤ length buf → Permutation n q → Shown n o q q'
      → let b = text_of o ++ drop (length (text_of o)) buf in Asked n o buf b q × (panel_after o b q ≡ q')
  asked-so none buf q q' room P S = (refl, S)
  asked-so (some l) buf q q' room P S = (obeys l buf q q' room P S, led l buf q q' room P S)

-- ---- what the robot sees

-- the act of a line, in front of others
line_front : Option Line → List Act → List Act
line_front none xs = xs
line_front (some l) xs = line_acts l xs

-- it sees the answer's line
seen-line : (n : ℕ) (o : Option Line) (buf bytes q : List ℕ) (xs : List Act) → Asked n o buf bytes q → asked_acts o bytes xs ≡ line_front o xs
unfolding line_front
seen-line n none buf bytes q xs h = refl
seen-line n (some l) buf bytes q xs h = ap (λ r. seen_acts r xs) h.reads

-- which is what happens on the bench
line-front : (room : ℕ) (a : Answer) (xs : List Act) → line_front (answer_line a) xs ≡ in_front (request room) a xs
unfolding line_front
line-front room (movement o) xs = ap (λ x. moves x ∷ xs) (order-there o)
line-front room (seat j) xs = refl
line-front room (mark k r) xs = refl
line-front room (the_end k) xs = refl
line-front room taken xs = refl
line-front room (refusal k) xs = refl

-- a report leaves the panel
report-leaves : {C : Setting} {m m' : model.State} {o : Option ℕ} {kind : ℕ} {a : Answer} → Does C m (report_to o kind) a m' → m.panel ≡ m'.panel
report-leaves (closes st cl x) = sym (closed-so x).panel
report-leaves (errs st lt) = refl
report-leaves (refuses k n) = refl

-- ---- any calls on an accepted plan

module _ (P : AcceptedPlan) where
  abbrev C : Setting
  C = campaign_of P

  module _ (s : State) (R : Reached P s) (buf : List ℕ) where
    -- the answer to the request
    a : Answer
    a = answer_of (request (length buf)) s

    -- the request is obeyed, and the robot's panel stays that of the state
    obeyed-there : Asked P.plan.ports (answer_line a) buf (bytes_of s buf) (moment_of s).panel
        × (panel_after (answer_line a) (bytes_of s buf) (moment_of s).panel ≡ (moment_of (left_of (request (length buf)) s)).panel)
    unfolding a bytes_of
    obeyed-there =
        let f = plan-fits P in
        let d = does-there P s R (request (length buf)) in
        asked-so P.plan.ports f.few_ports f.many_ports (answer_line a) buf (moment_of s).panel (moment_of (left_of (request (length buf)) s)).panel
        (within-room (length buf) s) R.permutation (shows P R.fit d)

  -- of every state that calls leave
  meets-from : (cs : List Called) (s : State) → Reached P s → RobotMeets P.plan.ports (moment_of s).panel cs s
  unfolding RobotMeets a
  meets-from [] s R = tt
  meets-from (asks buf ∷ cs) s R =
      let o = obeyed-there s R buf in
      let later = meets-from cs (left_of (request (length buf)) s) (reached-left P s R (request (length buf))) in
      (o.0, subst (λ q. RobotMeets P.plan.ports q cs (left_of (request (length buf)) s)) (sym o.1) later)
  meets-from (tells m kind ∷ cs) s R =
      let c = report_to m kind in
      subst (λ q. RobotMeets P.plan.ports q cs (left_of c s)) (sym (report-leaves (does-there P s R c))) (meets-from cs (left_of c s) (reached-left P s R c))

  -- and so it sees what happens on the bench
  pub sees-from : (cs : List Called) (s : State) → Reached P s → robot_acts cs s ≡ acts (turns_of cs s)
  unfolding robot_acts acts turns_of a
  sees-from [] s R = refl
  sees-from (asks buf ∷ cs) s R =
      let c = request (length buf) in
      let xs = robot_acts cs (left_of c s) in
      seen-line P.plan.ports (answer_line (answer_of c s)) buf (bytes_of s buf) (moment_of s).panel xs (obeyed-there s R buf).0
      ∙ line-front (length buf) (answer_of c s) xs
      ∙ ap (in_front c (answer_of c s)) (sees-from cs (left_of c s) (reached-left P s R c))
  sees-from (tells m kind ∷ cs) s R =
      let c = report_to m kind in ap (in_front c (answer_of c s)) (sees-from cs (left_of c s) (reached-left P s R c))

  module _ (cs : List Called) where
    -- a robot that starts at home and reads nothing but the bytes obeys every line, and meets every mark's pattern
    pub robot-meets : RobotMeets P.plan.ports (home P.plan.ports) cs (begun P)
    unfolding first derangements
    robot-meets = subst (λ m. RobotMeets P.plan.ports m.panel cs (begun P)) (begun-moment P) (meets-from cs (begun P) (reached-first P))

    -- it sees exactly the orders and marks of the answers
    pub robot-acts : robot_acts cs (begun P) ≡ acts (turns_of cs (begun P))
    robot-acts = sees-from cs (begun P) (reached-first P)

    -- so demand three holds of what it sees
    pub demand-bytes : Demanded C (turns_of cs (begun P)) (robot_acts cs (begun P)) (moment_of (left_after cs (begun P)))
    demand-bytes =
        subst (λ xs. Demanded C (turns_of cs (begun P)) xs (moment_of (left_after cs (begun P)))) (sym robot-acts) (demand-left P cs)

    -- and its last clause: the panels that it carried to the marks of one full circuit are all derangements, each once
    pub all-met-bytes : (l : Leg) → P.plan.legs ≡ l ∷ [] → suc l.run ≡ count P.plan.ports → (left_after cs (begun P)).ended ≡ true
        → FullCircuit (derangements P.plan.ports) (robot_acts cs (begun P))
    all-met-bytes l one full ended = subst (FullCircuit (derangements P.plan.ports)) (sym robot-acts) (all-met P cs l one full ended)
