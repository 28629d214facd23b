-- Where each part of a picture lies in the lent bytes; each number is made of those before it. Assumes nothing.
use Rattle.std.specs.Prelude.{ℕ, ◌+◌, ◌*◌}
use Rattle.shape.specs.Limits.{room, ring, addresses}
use Rattle.places.specs.Places.{most_places, places}

-- the head: number of modules, count kept, the ring's next entry, the way back's depth, zeros
abbrev pub count_at : ℕ
count_at = 0

abbrev pub kept_at : ℕ
kept_at = 1

abbrev pub next_at : ℕ
next_at = 2

abbrev pub depth_at : ℕ
depth_at = 3

abbrev pub head_size : ℕ
head_size = 16

-- the table: for each address its slot
abbrev pub slot_at : ℕ → ℕ
slot_at address = head_size + address

-- The records: address, type, and two bytes of each place, its value and 0 where it is told, 0 and 1 where it is not heard. After the last place are
-- as many unused ones as a frame speaks of, so that a run of eight from any place lies in the record.
abbrev pub records_at : ℕ
records_at = head_size + addresses

abbrev pub record_head : ℕ
record_head = 2

abbrev pub record_size : ℕ
record_size = record_head + 2 * (places + most_places)

abbrev pub record_at : ℕ → ℕ
record_at slot = records_at + record_size * slot

abbrev pub kind_at : ℕ → ℕ
kind_at slot = record_at slot + 1

abbrev pub place_at : ℕ → ℕ → ℕ
place_at slot place = record_at slot + record_head + 2 * place

-- The ring of log entries: the bytes of eight places as they were, then, in four bytes, the offset where they lay; unused bytes after it.
abbrev pub ring_at : ℕ
ring_at = records_at + record_size * room

abbrev pub old_size : ℕ
old_size = 2 * most_places

abbrev pub entry_size : ℕ
entry_size = 32

abbrev pub old_at : ℕ → ℕ
old_at e = ring_at + entry_size * e

abbrev pub offset_at : ℕ → ℕ
offset_at e = old_at e + old_size

-- the whole
abbrev pub size : ℕ
size = ring_at + entry_size * ring
