-- A message's parts in 20 bytes, each number low byte first.
use Rattle.std.specs.Prelude.{ℕ, ◌+◌, ◌*◌, ◌/◌, ◌%◌, List, [], ◌∷◌, Bool, cond, ◌&&◌, eqb, ltb, get_or, length, None}
use Rattle.layouts.specs.declared.parts.Parts.{Parts}
use Rattle.layouts.specs.Parts.{six, held_by, Held}

abbrev pub message_size : ℕ
message_size = 20

unfoldable pub laid_bytes : Parts → List ℕ
laid_bytes p =
    p.what ∷ p.address ∷ p.channel ∷ p.glow
    ∷ p.location % 256 ∷ p.location / 256 % 256
    ∷ p.bytes.0 ∷ p.bytes.1 ∷ p.bytes.2 ∷ p.bytes.3 ∷ p.bytes.4 ∷ p.bytes.5
    ∷ p.time ∷ 0 ∷ 0 ∷ 0
    ∷ p.seconds % 256 ∷ p.seconds / 256 % 256 ∷ p.seconds / 65536 % 256 ∷ p.seconds / 16777216 % 256
    ∷ []

-- the parts that the bytes are
unfoldable pub taken_parts : List ℕ → Parts
taken_parts b =
    record {
      what = get_or b 0 0;
      address = get_or b 1 0;
      channel = get_or b 2 0;
      glow = get_or b 3 0;
      location = get_or b 4 0 + 256 * get_or b 5 0;
      bytes = six (get_or b 6 0) (get_or b 7 0) (get_or b 8 0) (get_or b 9 0) (get_or b 10 0) (get_or b 11 0);
      time = get_or b 12 0;
      seconds = get_or b 16 0 + 256 * get_or b 17 0 + 65536 * get_or b 18 0 + 16777216 * get_or b 19 0;
    }

-- nothing stands between the time and the seconds
unfoldable pub blank_between : List ℕ → Bool
blank_between b = eqb (get_or b 13 0) 0 && (eqb (get_or b 14 0) 0 && eqb (get_or b 15 0) 0)

-- the message that the first bytes are; fewer than a message has are none
unfoldable pub held_in : List ℕ → Held
held_in b = cond (ltb (length b) message_size) None (cond (blank_between b) (held_by (taken_parts b)) None)
