-- A command of lowest priority to the bench's own address, which fits its row, is taken. Assumes nothing.
use Rattle.std.specs.Prelude.{Ok, Some}
use Prim.Native.Nat.{ℕ, ◌≤◌, ◌<◌}
use native.Mathlib.Omega.{arith}
use mathlib.Core.Path.{◌≡◌, refl}
use mathlib.Core.Bool.{false}
use mathlib.Core.List.{List}
use lib.ListN.{length}
use borrow.Author.Tests.{eq-eqb}
use Rattle.laws.specs.Tests.{among}
use Rattle.kinds.specs.Types.{vmb8ir, low}
use Rattle.frame.specs.Identifiers.{identifier_of}
use Rattle.frame.specs.Bytes.{byte, data_of, bytes_of}
use Rattle.frame.specs.Messages.{decode}
use Rattle.frame.specs.declared.messages.Command.{Command}
use Rattle.frame.specs.declared.messages.Message.TheVariants.{Tells}
use Rattle.judging.specs.Reading.{command_refusal, command_read, reading}
use Rattle.judging.proofs.Judged.{reads_made}
use Rattle.shape.specs.Limits.{bus_address}
use Rattle.verdicts.specs.Verdicts.{sent_only, judged_if, judged}

module _ (a : ℕ) (s : List ℕ) (m : Command) (small : a < 256) where
  command-read : command_refusal vmb8ir low (data_of s) (decode (bytes_of (data_of s))) ≡ 0 → decode (bytes_of (data_of s)) ≡ m → command_read vmb8ir low (record { 0 = a }) (data_of s) ≡ Ok (record { 0 = a }, Tells m)
  unfolding command_read
  command-read r d = rw (r, d)

  pub own-taken :
      1 ≤ length s → length s ≤ 8 → among (byte 1 s) sent_only ≡ false → command_refusal vmb8ir low (data_of s) (decode (bytes_of (data_of s))) ≡ 0 → decode (bytes_of (data_of s)) ≡ m
      → judged a (identifier_of low (record { 0 = a })) 0 s ≡ Ok (Some (Tells m))
  unfolding judged judged_if
  own-taken h₁ h₈ sent r d =
      let e : reading vmb8ir (identifier_of low (record { 0 = a })) 0 s ≡ command_read vmb8ir low (record { 0 = a }) (data_of s) = reads_made vmb8ir low (record { 0 = a }) s refl refl (omega arith) small h₁ h₈ in
      rw (e, command-read r d, sent, eq-eqb (bus_address (identifier_of low (record { 0 = a }))) a (omega arith))
