-- Some frame of every row is accepted: a sample of each, judged by one test that antt computes over the tables.
-- Assumes nothing.
use Rattle.std.specs.Prelude.{Ok, Err}
use Prim.Native.Nat.{ℕ}
use mathlib.Core.Path.{◌≡◌, refl, ◌∙◌}
use mathlib.Core.List.{List, [], ◌∷◌, ◌++◌}
use mathlib.Core.Bool.{Bool, true, ◌&&◌, cond}
use lib.ListN.{length, take, get_or}
use lib.Dec.{eqb, leb}
use borrow.Author.Tests.{eqb-true, leb-true}
use Rattle.laws.specs.Tests.{among}
use Rattle.laws.proofs.Testing.{and_both, unrefused_is}
use Rattle.kinds.specs.Types.{line_of, blinds_of, channels_of, rows_of, row_for, is_listed, position_in, blind_of}
use Rattle.frame.specs.Bytes.{byte, data_of}
use Rattle.frame.specs.Messages.{type_command, decode}
use Rattle.fields.specs.Fields.{buttons_allowed, asked_allowed}
use Rattle.judging.specs.Reading.{command_refusal, command_read, request_read}
use Rattle.codec.specs.Statements.{EveryRow, EveryRequest}
use Rattle.frame.specs.declared.messages.Message.TheVariants.{Tells}
use Rattle.kinds.specs.declared.types.Row.{Row}
use Rattle.kinds.proofs.Listed.{of-listed, listed_module, module_handed, row_known, row_priority}
use Rattle.codec.proofs.Shapes.{padded}
use Rattle.judging.proofs.Judged.{reads_made, request_made}

-- the commands whose byte 2 is the high byte of a location, or the buttons that are pressed
abbrev zero_second : List ℕ
zero_second = 0x00 ∷ 0xFE ∷ 0xCC ∷ 0xFD ∷ 0xC9 ∷ 0xFC ∷ 0xCA ∷ []

-- an allowed byte 2: in H'FF' the type, else 0, or a channel, which is a blind where the type has one
abbrev second : ℕ → ℕ → ℕ
second kind c = cond (eqb c type_command) kind (cond (among c zero_second) 0x00 (get_or (blinds_of kind ++ channels_of kind) 0 0))

-- an allowed frame of the command: the later bytes are 0, but byte 6, the last of a name
abbrev sample : ℕ → ℕ → Row → List ℕ
sample kind c r = take r.0 (c ∷ second kind c ∷ 0x00 ∷ 0x00 ∷ 0x00 ∷ 0xFF ∷ 0x00 ∷ 0x00 ∷ [])

abbrev begun : ℕ → ℕ → Row → Bool
begun kind c r = eqb (byte 1 (sample kind c r)) c && (leb 1 (length (sample kind c r)) && leb (length (sample kind c r)) 8)

abbrev taken : ℕ → ℕ → Row → Bool
taken kind c r = eqb (command_refusal kind r.1 (data_of (sample kind c r)) (decode (padded (sample kind c r)))) 0

all_work : (kind c : ℕ) → is_listed kind c ≡ true → begun kind c (row_for kind c) && taken kind c (row_for kind c) ≡ true
unfolding line_of rows_of position_in blind_of buttons_allowed asked_allowed
all_work = of-listed (λ kind c r. begun kind c r && taken kind c r) refl

pub every_row : EveryRow
unfolding command_read
every_row kind c a hl ha =
    let row : Row = row_for kind c in
    let s : List ℕ = sample kind c row in
    let g = and_both (begun kind c row) (taken kind c row) (all_work kind c hl) in
    let b = and_both (eqb (byte 1 s) c) (leb 1 (length s) && leb (length s) 8) g.0 in
    let l = and_both (leb 1 (length s)) (leb (length s) 8) b.1 in
    let z = eqb-true (command_refusal kind row.1 (data_of s) (decode (padded s))) 0 g.1 in
    record {
      bytes = s;
      says = decode (padded s);
      begins = eqb-true (byte 1 s) c b.0;
      read =
          reads_made kind row.1 a s (module_handed kind (listed_module kind c hl)) (row_known kind c) (row_priority kind c) ha (leb-true 1 (length s) l.0) (leb-true (length s) 8 l.1)
          ∙ unrefused_is Err (command_refusal kind row.1 (data_of s) (decode (padded s))) (Ok (a, Tells (decode (padded s)))) z;
    }

pub every_request : EveryRequest
unfolding request_read
every_request kind a hk ha = request_made kind a hk ha
