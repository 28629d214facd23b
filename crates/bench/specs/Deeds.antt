-- What a command does to a bench. Assumes nothing.
use Rattle.std.specs.Prelude.{ℕ, suc, List, [], ◌∷◌, set}
use Rattle.kinds.specs.Types.{vmb8ir}
use Rattle.frame.specs.declared.messages.Command.{Command}
use Rattle.frame.specs.declared.messages.Command.TheVariants.{TypeLong, TypeShort, Buttons, CellTold, BlockTold, CellAsked, BlockAsked, DumpAsked, CellSet, BlockSet, Errors, ErrorsAsked, NameOne, NameTwo, NameThree, NameAsked, StatusAsked, InputStatus, LedsAll, Leds, BlindStatus, BlindStop, BlindUp, BlindDown}
use Rattle.frame.specs.declared.messages.Message.{Message}
use Rattle.frame.specs.declared.messages.Message.TheVariants.{TypeRequest, Tells}
use Rattle.places.specs.Places.{cell_place}
use Rattle.places.specs.Runs.{Saying, silent, asks, tells, Run, no_run, telling, glow_number, all_leds, some_leds}

-- what is told is stored
abbrev pub keep : List ℕ → ℕ → Saying → List ℕ
keep b p silent = b
keep b p asks = b
keep b p (tells v) = set b p v

unfoldable pub store : List ℕ → ℕ → List Saying → List ℕ
store b p [] = b
store b p (x ∷ xs) = store (keep b p x) (suc p) xs

abbrev pub done_by : Run → List ℕ → List ℕ
done_by r b = store b r.start r.says

-- FC and CA store their bytes, an LED command acts as it is heard, and every other does nothing
abbrev pub deed : Command → Run
deed (CellSet l v) = telling (cell_place vmb8ir l.0) (v ∷ [])
deed (BlockSet l a b c d) = telling (cell_place vmb8ir l.0) (a ∷ b ∷ c ∷ d ∷ [])
deed (LedsAll on slow fast) = all_leds on slow fast
deed (Leds g mask) = some_leds mask (glow_number g)
deed (TypeLong k a b c d e) = no_run
deed (TypeShort k a b c) = no_run
deed (Buttons a b c) = no_run
deed (CellTold l v) = no_run
deed (BlockTold l a b c d) = no_run
deed (CellAsked l) = no_run
deed (BlockAsked l) = no_run
deed DumpAsked = no_run
deed (Errors a b c) = no_run
deed ErrorsAsked = no_run
deed (NameOne n a b c d e f) = no_run
deed (NameTwo n a b c d e f) = no_run
deed (NameThree n a b c d) = no_run
deed (NameAsked n) = no_run
deed (StatusAsked n) = no_run
deed (InputStatus a b c d) = no_run
deed (BlindStatus n a b c d e f) = no_run
deed (BlindStop n) = no_run
deed (BlindUp n t) = no_run
deed (BlindDown n t) = no_run

unfoldable pub done : Message → List ℕ → List ℕ
done TypeRequest b = b
done (Tells m) b = done_by (deed m) b
