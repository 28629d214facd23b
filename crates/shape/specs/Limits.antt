-- The numbers that bound a picture. Assumes nothing.
use Rattle.std.specs.Prelude.{ℕ}
use Rattle.frame.specs.Identifiers.{address_of}

-- the most modules
abbrev pub room : ℕ
room = 16

-- the greatest depth of a way back
abbrev pub most_depth : ℕ
most_depth = 64

-- how many entries the ring of the log has, whatever the depth is: no fewer than the steps back that are kept
abbrev pub ring : ℕ
ring = 64

-- the number of addresses
abbrev pub addresses : ℕ
addresses = 256

-- the number that stands for a place which is not heard
abbrev pub not_heard : ℕ
not_heard = 256

-- the address that an identifier holds
abbrev pub bus_address : ℕ → ℕ
bus_address identifier = (address_of identifier).0
