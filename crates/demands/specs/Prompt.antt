-- The calls of a bench that takes every mark as run, as the order printer makes them.
-- Assumes nothing.
use Rattle.std.specs.Prelude.{ℕ, zero, suc, Bool, cond, List, [], ◌∷◌}
use Rattle.std.proofs.Math.Option.{none}
use Rattle.campaign_state.specs.declared.State.{State}
use Rattle.campaign.specs.Calls.{left_of}
use Rattle.campaign_reached.specs.Turns.{Called, asks, tells, call_of}

-- the call that is due where every mark is 'taken as run': on a standing mark the report that it ran, else a request with the buffer
abbrev pub due_call : List ℕ → Bool → Called
due_call buf standing = cond standing (tells none 0) (asks buf)

-- so many calls, each the one that is due
unfoldable pub prompt_calls : ℕ → List ℕ → State → List Called
prompt_calls zero buf s = []
prompt_calls (suc n) buf s =
    let c = due_call buf s.standing in
    c ∷ prompt_calls n buf (left_of (call_of c) s)
