-- A STEP OF A PROOF, which no promise cites: what the arms are called with and what they ensure, for the code that goes by the command's number.
-- Assumes nothing.
use Rattle.std.specs.Prelude.{◌≡◌, ℕ, ◌*◌, ◌<◌, ◌≤◌, Bool, true, cond, ◌&&◌, ◌||◌, List, [], ◌∷◌, length, ◌==◌}
use Rattle.laws.specs.Tests.{among}
use Rattle.kinds.specs.Types.{module_types, blind_of}
use Rattle.fields.specs.Fields.{is_blind, timeout_allowed, led_allowed, blind_status_fault, field_refusal}
use Rattle.places.specs.Runs.{telling, named_blind, blind_state}
use Rattle.shape.specs.Limits.{room}
use Rattle.shape.specs.Layout.{size}
use Rattle.changes.specs.Telling.{told_in}
use Rattle.commands.specs.Commands.{command_number, command_bytes}

-- what is known of a command that an arm is called for: the picture is whole, the slot is one, and the type is a module's
pub record Ready (b : List ℕ) (s kind : ℕ) : Type 0 where
  pub whole : size ≤ length b
  pub within : s < room
  pub module_type : among kind module_types ≡ true

-- the number n and the bytes b' are the command's
pub record Heard (b : List ℕ) (s kind priority : ℕ) (bytes : List ℕ) (n : ℕ) (b' : List ℕ) : Type 0 where
  pub number : n ≡ command_number b s kind priority bytes
  pub bytes_after : b' ≡ command_bytes b s kind priority bytes

-- the commands that stop or move a blind, and those all of whose bytes are free, each with its length
pub data Moves : ℕ → ℕ → Type 0 where
  stops : Moves 0x04 2
  goes_up : Moves 0x05 5
  goes_down : Moves 0x06 5

pub data Free : ℕ → ℕ → Type 0 where
  errors : Free 0xDA 4
  errors_asked : Free 0xD9 1
  memory_asked : Free 0xCB 1

-- the blind that a byte stands for, from 1; 0 where it stands for none
unfoldable pub blind_in : ℕ → ℕ → ℕ
blind_in kind channel = cond (is_blind kind channel) (blind_of kind channel) 0

-- the same of a status, 0 where its byte 3 or its byte 5 is not allowed
unfoldable pub blind_fit : ℕ → ℕ → ℕ → ℕ → ℕ
blind_fit kind channel timeout led = cond (timeout_allowed timeout && led_allowed led) (blind_in kind channel) 0

-- off, up or down, of a blind whose bit for up is `up`
abbrev pub is_state : ℕ → ℕ → Bool
is_state up state = state == 0 || (state == up || state == 2 * up)

-- the picture's bytes after the status of a blind, which is told where no field is at fault
unfoldable pub status_bytes : List ℕ → ℕ → ℕ → ℕ → ℕ → ℕ → ℕ → List ℕ
status_bytes b s kind channel timeout state led =
    cond (field_refusal (blind_status_fault kind channel timeout state led) == 0)
    (told_in b s (telling (named_blind kind channel) (blind_state kind channel state ∷ []))) b

-- the commands that have an arm of their own
abbrev pub single : List ℕ
single =
    0x00 ∷ 0xFE ∷ 0xCC ∷ 0xFC ∷ 0xCA ∷ 0xFD ∷ 0xC9 ∷ 0xF2 ∷ 0xEF ∷ 0xFA ∷ 0xDA ∷ 0xCB ∷ 0xD9 ∷ 0xEB ∷ 0xF4 ∷ 0xEC ∷ 0x04 ∷ 0x05 ∷ 0x06 ∷ []
