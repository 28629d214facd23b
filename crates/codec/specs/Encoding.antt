-- How a message is written as bytes.
use Rattle.std.specs.Prelude.{ℕ, ◌/◌, ◌%◌, List, [], ◌∷◌}
use Rattle.frame.specs.Messages.{permanent, type_command}
use Rattle.frame.specs.declared.messages.Location.{Location}
use Rattle.frame.specs.declared.messages.Time.{Time}
use Rattle.frame.specs.declared.messages.Time.TheVariants.{DipSwitch, Permanently, Seconds}
use Rattle.frame.specs.declared.messages.Glow.{Glow}
use Rattle.frame.specs.declared.messages.Glow.TheVariants.{Off, On, Slow, Fast, VeryFast}
use Rattle.frame.specs.declared.messages.Command.{Command}
use Rattle.frame.specs.declared.messages.Command.TheVariants.{TypeLong, TypeShort, Buttons, CellTold, BlockTold, CellAsked, BlockAsked, DumpAsked, CellSet, BlockSet, Errors, ErrorsAsked, NameOne, NameTwo, NameThree, NameAsked, StatusAsked, InputStatus, LedsAll, Leds, BlindStatus, BlindStop, BlindUp, BlindDown}

-- the high and the low byte of a location
abbrev pub high_of : Location → ℕ
high_of l = l.0 / 256 % 256

abbrev pub low_of : Location → ℕ
low_of l = l.0 % 256

-- the 24 bits of a time
abbrev pub seconds_of : Time → ℕ
seconds_of DipSwitch = 0
seconds_of Permanently = permanent
seconds_of (Seconds n) = n

-- the LED commands
abbrev pub glow_command : Glow → ℕ
glow_command Off = 0xF5
glow_command On = 0xF6
glow_command Slow = 0xF7
glow_command Fast = 0xF8
glow_command VeryFast = 0xF9

-- a command on a blind, with its time in bytes 3 to 5
abbrev pub timed_bytes : ℕ → ℕ → Time → List ℕ
timed_bytes c n t = c ∷ n ∷ seconds_of t / 65536 % 256 ∷ seconds_of t / 256 % 256 ∷ seconds_of t % 256 ∷ []

abbrev pub encode : Command → List ℕ
encode (Buttons a b c) = 0x00 ∷ a ∷ b ∷ c ∷ []
encode (CellTold l v) = 0xFE ∷ high_of l ∷ low_of l ∷ v ∷ []
encode (BlockTold l a b c d) = 0xCC ∷ high_of l ∷ low_of l ∷ a ∷ b ∷ c ∷ d ∷ []
encode (Errors a b c) = 0xDA ∷ a ∷ b ∷ c ∷ []
encode (NameOne n a b c d e f) = 0xF0 ∷ n ∷ a ∷ b ∷ c ∷ d ∷ e ∷ f ∷ []
encode (NameTwo n a b c d e f) = 0xF1 ∷ n ∷ a ∷ b ∷ c ∷ d ∷ e ∷ f ∷ []
encode (NameThree n a b c d) = 0xF2 ∷ n ∷ a ∷ b ∷ c ∷ d ∷ []
encode (NameAsked n) = 0xEF ∷ n ∷ []
encode (StatusAsked n) = 0xFA ∷ n ∷ []
encode (CellAsked l) = 0xFD ∷ high_of l ∷ low_of l ∷ []
encode (BlockAsked l) = 0xC9 ∷ high_of l ∷ low_of l ∷ []
encode DumpAsked = 0xCB ∷ []
encode (CellSet l v) = 0xFC ∷ high_of l ∷ low_of l ∷ v ∷ []
encode (BlockSet l a b c d) = 0xCA ∷ high_of l ∷ low_of l ∷ a ∷ b ∷ c ∷ d ∷ []
encode ErrorsAsked = 0xD9 ∷ []
encode (InputStatus a b c d) = 0xEB ∷ a ∷ b ∷ c ∷ d ∷ []
encode (LedsAll a b c) = 0xF4 ∷ a ∷ b ∷ c ∷ []
encode (Leds g x) = glow_command g ∷ x ∷ []
encode (BlindStatus n a b c d e f) = 0xEC ∷ n ∷ a ∷ b ∷ c ∷ d ∷ e ∷ f ∷ []
encode (BlindStop n) = 0x04 ∷ n ∷ []
encode (BlindUp n t) = timed_bytes 0x05 n t
encode (BlindDown n t) = timed_bytes 0x06 n t
encode (TypeLong k a b c year week) = type_command ∷ k ∷ a ∷ b ∷ c ∷ year ∷ week ∷ []
encode (TypeShort k a year week) = type_command ∷ k ∷ a ∷ year ∷ week ∷ []
