-- The limits of the device with 20 ports. No other definition, and no law of the list, knows them.
-- Assumes nothing.
use Rattle.std.specs.Prelude.{ℕ, ℤ, negsuc}

-- the most ports of a switch
abbrev pub most_ports : ℕ
most_ports = 20

-- the most legs of a plan
abbrev pub most_legs : ℕ
most_legs = 16

-- the largest number of 64 bits
abbrev pub largest64 : ℕ
largest64 = 18446744073709551615

-- the lowest signed number of 64 bits, -9223372036854775808
abbrev pub lowest64 : ℤ
lowest64 = negsuc 9223372036854775807
