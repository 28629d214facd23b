-- Examples on recordings: where each fault is found, and the greatest records before it.
use Rattle.std.specs.Prelude.{ℕ, List, [], ◌∷◌}
use Rattle.recording.specs.Record.{Entry, recorded, End, read_record, cut_off_at, bad_number_at}

-- a row: what stands at a recording's start, and what is right
pub record Row : Type 0 where
  pub given : Entry
  pub right : Entry

-- bytes read as a recording so
abbrev pub begins : List ℕ → Entry → Row
begins bs e = record { given = read_record bs 0; right = e }

abbrev pub examples : List Row
examples =
    -- the empty recording; a number cut off
    begins [] End ∷
    begins (0x80 ∷ []) (cut_off_at 1) ∷
    -- the greatest gap of four groups, one more, and the greatest
    begins (0xFF ∷ 0xFF ∷ 0xFF ∷ 0x7F ∷ 0x00 ∷ 0x00 ∷ []) (recorded 268435455 0 0 6 0 6) ∷
    begins (0x80 ∷ 0x80 ∷ 0x80 ∷ 0x80 ∷ 0x01 ∷ 0x00 ∷ 0x00 ∷ []) (recorded 268435456 0 0 7 0 7) ∷
    begins (0xFF ∷ 0xFF ∷ 0xFF ∷ 0xFF ∷ 0x7F ∷ 0x00 ∷ 0x00 ∷ []) (recorded 34359738367 0 0 7 0 7) ∷
    -- a fifth group that says that a sixth follows, and one that is not shortest
    begins (0x80 ∷ 0x80 ∷ 0x80 ∷ 0x80 ∷ 0x80 ∷ 0x01 ∷ []) (bad_number_at 4) ∷
    begins (0x80 ∷ 0x80 ∷ 0x80 ∷ 0x80 ∷ 0x00 ∷ []) (bad_number_at 4) ∷
    -- the greatest word, 2047 and remote, and one above it
    begins (0x00 ∷ 0xFF ∷ 0x1F ∷ 0x00 ∷ []) (recorded 0 2047 1 4 0 4) ∷
    begins (0x00 ∷ 0x80 ∷ 0x20 ∷ 0x00 ∷ []) (bad_number_at 2) ∷
    -- eight data bytes, the last of them missing, and nine
    begins (0x05 ∷ 0xA8 ∷ 0x19 ∷ 0x08 ∷ 1 ∷ 2 ∷ 3 ∷ 4 ∷ 5 ∷ 6 ∷ 7 ∷ 8 ∷ []) (recorded 5 1620 0 4 8 12) ∷
    begins (0x05 ∷ 0xA8 ∷ 0x19 ∷ 0x08 ∷ 1 ∷ 2 ∷ 3 ∷ 4 ∷ 5 ∷ 6 ∷ 7 ∷ []) (cut_off_at 11) ∷
    begins (0x05 ∷ 0xA8 ∷ 0x19 ∷ 0x09 ∷ 1 ∷ 2 ∷ 3 ∷ 4 ∷ 5 ∷ 6 ∷ 7 ∷ 8 ∷ 9 ∷ []) (bad_number_at 3) ∷
    []
