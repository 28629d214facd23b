-- The bytes of a bench, a VMB8IR in lent bytes. Byte p is the bench's own value of place p (places Places): so what a command does is a run of places, as what a
-- picture hears is. Assumes nothing.
use Rattle.std.specs.Prelude.{ℕ, suc, ◌+◌, List, get_or}
use Rattle.laws.specs.Tab.{tab}
use Rattle.kinds.specs.Types.{vmb8ir}
use Rattle.places.specs.Places.{places, led_place, cell_place}

-- ---- the bytes: one for each place, then the address and the map version
abbrev pub address_at : ℕ
address_at = places

abbrev pub version_at : ℕ
version_at = places + 1

abbrev pub bench_size : ℕ
bench_size = places + 2

-- the bench's own value of a place, and its address
abbrev pub own : List ℕ → ℕ → ℕ
own b p = get_or b p 0

abbrev pub own_address : List ℕ → ℕ
own_address b = get_or b address_at 0

-- of a cell, and of the LEDs, the first one first
abbrev pub cell : List ℕ → ℕ → ℕ
cell b l = own b (cell_place vmb8ir l)

abbrev pub leds : List ℕ → List ℕ
leds b = tab 8 (λ i. own b (led_place (suc i)))
