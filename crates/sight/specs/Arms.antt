-- A STEP OF A PROOF, which no promise cites: what the arms are called with, what they ensure, and the bytes that they lay. Assumes nothing.
use Rattle.std.specs.Prelude.{◌≡◌, ℕ, ◌+◌, ◌<◌, ◌≤◌, Bool, ◌&&◌, List, length, ◌==◌, nat_le, slice_index}
use Rattle.kinds.specs.Types.{low}
use Rattle.frame.specs.Identifiers.{identifier_of}
use Rattle.frame.specs.Bytes.{byte}
use Rattle.frame.specs.declared.bytes.Data.{Data}
use Rattle.codec.specs.Writing.{frame_bytes}
use Rattle.replies.specs.Bench.{bench_size, own_address}
use Rattle.taking.specs.Taking.{taking}
use Rattle.sight.specs.Words.{taken_word}

-- what is known of a frame that an arm is called for: the bench is whole, and the frame is of lowest priority and for the bench's own address
pub record Ours (b : List ℕ) (address identifier : ℕ) : Type 0 where
  pub whole : bench_size ≤ length b
  pub own : address ≡ own_address b
  pub small : address < 256
  pub addressed : identifier ≡ identifier_of low (record { 0 = address })

-- the result word, the bench's bytes and the buffer are those of the frame
pub record Took (b : List ℕ) (identifier remote : ℕ) (s buffer : List ℕ) (word : ℕ) (b' buffer' : List ℕ) : Type 0 where
  pub answered : word ≡ taken_word (taking b identifier remote s buffer).answer
  pub bench_after : b' ≡ (taking b identifier remote s buffer).bench
  pub buffer_after : buffer' ≡ (taking b identifier remote s buffer).buffer

-- a frame of lowest priority from an address, in a buffer
abbrev pub laid : ℕ → Data → List ℕ
laid address d = frame_bytes (record { identifier = identifier_of low (record { 0 = address }); remote = 0; bytes = d })

-- the data of a name's first two parts, and of its last: a channel, and the bytes of the bench from a place on
abbrev pub six_of : ℕ → ℕ → List ℕ → ℕ → Data
six_of part n b from =
    record {
      0 = 8;
      1 = part;
      2 = n;
      3 = slice_index b from;
      4 = slice_index b (from + 1);
      5 = slice_index b (from + 2);
      6 = slice_index b (from + 3);
      7 = slice_index b (from + 4);
      8 = slice_index b (from + 5);
    }

abbrev pub four_of : ℕ → List ℕ → ℕ → Data
four_of n b from =
    record {
      0 = 6;
      1 = 0xF2;
      2 = n;
      3 = slice_index b from;
      4 = slice_index b (from + 1);
      5 = slice_index b (from + 2);
      6 = slice_index b (from + 3);
      7 = 0;
      8 = 0;
    }

-- so many data bytes, with a location in bytes 2 and 3 that is at most the last, which is below 256
abbrev pub located : ℕ → ℕ → List ℕ → Bool
located count last s = length s == count && (byte 2 s == 0 && nat_le (byte 3 s) last)
