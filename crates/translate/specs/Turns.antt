-- What a turn leaves: where it goes on, the bytes that are held fit the buffer, and no more lines have gone by than the buffer has bytes.
-- Assumes nothing.
use Rattle.std.specs.Prelude.{ℕ, ◌+◌, ◌≤◌, ◌≡◌, Option, Some, None}
use Rattle.translating.specs.Lines.{SoFar}
use Rattle.translate.specs.declared.Held.{Held}

-- r holds so many bytes with these ports and this line, where it goes on
abbrev pub HoldsIs : ℕ → ℕ → ℕ → Option Held → Type 0
HoldsIs len ports line (Some h) = (h.len ≡ len) × (h.ports ≡ ports) × (h.line ≡ line)
HoldsIs len ports line None = Unit {0}

-- r is what a turn came to, with a buffer of so many bytes and from a line on
abbrev pub TurnIs : ℕ → ℕ → Option Held → Type 0
TurnIs room line (Some h) = SoFar h.ports × (h.len ≤ room) × (h.line ≤ line + room)
TurnIs room line None = Unit {0}
