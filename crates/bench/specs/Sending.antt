-- The replies of a bench, written as frames. Assumes nothing.
use Rattle.std.specs.Prelude.{ℕ, List, [], ◌∷◌, ◌++◌, replicate, Ok, Err}
use Rattle.kinds.specs.Types.{vmb8ir}
use Rattle.frame.specs.declared.messages.Command.{Command}
use Rattle.frame.specs.declared.messages.Message.TheVariants.{Tells}
use Rattle.codec.specs.Writing.{writing, frame_size, frame_bytes, Writing}

-- in a buffer, twelve bytes each, as the writer gives them; it refuses no reply to a command that the bench takes
abbrev pub written_bytes : Writing → List ℕ
written_bytes (Ok f) = frame_bytes f
written_bytes (Err n) = replicate frame_size 0

unfoldable pub reply_bytes : ℕ → Command → List ℕ
reply_bytes a m = written_bytes (writing vmb8ir (record { 0 = a }) (Tells m))

unfoldable pub all_bytes : ℕ → List Command → List ℕ
all_bytes a [] = []
all_bytes a (m ∷ ms) = reply_bytes a m ++ all_bytes a ms
