-- What is offered on a state that calls leave has at most 45 bytes.
-- Assumes nothing.
use mathlib.Core.Path.{◌≡◌, ap}
use mathlib.Core.Bool.{false}
use mathlib.Core.List.{List}
use mathlib.Core.Option.{Option, none, some}
use Prim.Native.Nat.{ℕ, ◌≤◌}
use native.Mathlib.Omega.{arith}
use lib.ListN.{length}
use Rattle.words.specs.declared.Line.{Line}
use Rattle.line_format.proofs.Longest.{at-most-45}
use Rattle.promise.specs.Campaign.{State, Setting, request, offer, answer, after}
use Rattle.promise.specs.Fitness.{Fit}
use Rattle.promise.proofs.Steps.{does-so}
use Rattle.promise.proofs.Refusals.{served}
use Rattle.campaign_state.specs.State.{answer_line, text_of, width}
use Rattle.campaign_reached.specs.Turns.{AcceptedPlan, campaign_of}
use Rattle.campaign_reached.specs.Shown.{Shown}
use Rattle.campaign_reached.proofs.Shown.{shows}

-- a line that is shown has at most 45 bytes
shown-45 : (n : ℕ) (o : Option Line) (q q' : List ℕ) → Shown n o q q' → length (text_of o) ≤ 45
shown-45 n none q q' S = omega arith
shown-45 n (some l) q q' S = at-most-45 l S.ours

-- so what is offered on a fit state has
pub offer-45 : (P : AcceptedPlan) (m : State) → Fit (campaign_of P) m → m.standing ≡ false → width (offer (campaign_of P) m) ≤ 45
offer-45 P m f st =
    let C : Setting = campaign_of P in
    let c = request (width (offer C m)) in
    let given : answer C c m ≡ offer C m = served C m (width (offer C m)) f st (omega arith) in
    let few = shown-45 P.plan.ports (answer_line (answer C c m)) m.panel (after C c (answer C c m) m).panel (shows P f (does-so C m f c)) in
    omega (arith, ap width given)
