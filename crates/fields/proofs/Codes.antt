-- A 9 with its byte.
--     untold             no refusal: no byte is at fault
-- Assumes nothing.
use Prim.Native.Nat.{ℕ}
use native.Mathlib.Omega.{arith}
use mathlib.Core.Path.{◌≡◌}
use lib.Dec.{eqb}
use borrow.Author.Tests.{eqb-true}
use Rattle.laws.specs.Refusals.{bad_field, code_at}
use Rattle.laws.proofs.Testing.{held}
use Rattle.fields.specs.Fields.{field_refusal}

pub untold : (byte : ℕ) → field_refusal byte ≡ 0 → byte ≡ 0
untold byte e = eqb-true byte 0 (held (eqb byte 0) (code_at bad_field byte) 0 (omega arith) e).0
