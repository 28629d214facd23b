-- What the type that is handed in has to say of a frame.
--     handed_form        the frame's own tests are the same for every type that may be handed in
--     handed_bad         and a type that may not is 4
--     type_alike         H'FF' is judged the same, whichever type is handed in
-- Assumes nothing.
use Rattle.std.specs.Prelude.{Err}
use Prim.Native.Nat.{ℕ}
use mathlib.Core.Path.{◌≡◌}
use mathlib.Core.Bool.{true, false}
use mathlib.Core.List.{List}
use Rattle.laws.specs.Refusals.{bad_type}
use Rattle.laws.specs.Tests.{among}
use Rattle.kinds.specs.Types.{no_type, handed_types}
use Rattle.frame.specs.Bytes.{byte, data_of}
use Rattle.frame.specs.Messages.{type_command}
use Rattle.judging.specs.Reading.{frame_refusal, command_refusal, reading}
use Rattle.frame.specs.declared.messages.Command.{Command}

module _ (kind identifier remote : ℕ) where
  pub handed_form : (count : ℕ) → among kind handed_types ≡ true → frame_refusal no_type identifier remote count ≡ frame_refusal kind identifier remote count
  handed_form count h = rw h

  pub handed_bad : (s : List ℕ) → among kind handed_types ≡ false → reading kind identifier remote s ≡ Err bad_type
  unfolding reading
  handed_bad s h = rw h

  pub type_alike : (p : ℕ) (s : List ℕ) (m : Command) → byte 1 s ≡ type_command → command_refusal no_type p (data_of s) m ≡ command_refusal kind p (data_of s) m
  type_alike p s m e = rw e
