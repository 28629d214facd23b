-- The bytes of each message, field by field, as the module documents print them: what reader and writer are held against.
use Rattle.std.specs.Prelude.{ℕ, ◌+◌, ◌*◌, ◌<◌, ◌≡◌, List, [], ◌∷◌}
use Rattle.frame.specs.declared.messages.Location.{Location}
use Rattle.frame.specs.declared.messages.Time.{Time}
use Rattle.frame.specs.declared.messages.Time.TheVariants.{DipSwitch, Permanently, Seconds}
use Rattle.frame.specs.declared.messages.Glow.TheVariants.{Off, On, Slow, Fast, VeryFast}
use Rattle.frame.specs.declared.messages.Command.{Command}
use Rattle.frame.specs.declared.messages.Command.TheVariants.{TypeLong, TypeShort, Buttons, CellTold, BlockTold, CellAsked, BlockAsked, DumpAsked, CellSet, BlockSet, Errors, ErrorsAsked, NameOne, NameTwo, NameThree, NameAsked, StatusAsked, InputStatus, LedsAll, Leds, BlindStatus, BlindStop, BlindUp, BlindDown}

-- a command, a location in two bytes, high byte first, and the bytes after it
pub record Located (s : List ℕ) (c : ℕ) (l : Location) (rest : List ℕ) : Type 0 where
  pub high : ℕ
  pub low : ℕ
  pub bytes : s ≡ c ∷ high ∷ low ∷ rest
  pub location : l.0 ≡ 256 * high + low

-- 24 bits: 0 is the dip switch's time, H'FFFFFF' is permanently, and a number between them is seconds
abbrev pub TimeIs : ℕ → Time → Type 0
TimeIs n DipSwitch = n ≡ 0
TimeIs n Permanently = n ≡ 0xFFFFFF
TimeIs n (Seconds k) = (n ≡ k) × (0 < n) × (n < 0xFFFFFF)

-- a command on a blind, and a time in three bytes, high byte first
pub record Timed (s : List ℕ) (c channel : ℕ) (t : Time) : Type 0 where
  pub high : ℕ
  pub middle : ℕ
  pub low : ℕ
  pub bytes : s ≡ c ∷ channel ∷ high ∷ middle ∷ low ∷ []
  pub time : TimeIs (65536 * high + 256 * middle + low) t

-- the bytes s are the message
abbrev pub Documented : List ℕ → Command → Type 0
Documented s (TypeLong kind a b c year week) = s ≡ 0xFF ∷ kind ∷ a ∷ b ∷ c ∷ year ∷ week ∷ []
Documented s (TypeShort kind timeouts year week) = s ≡ 0xFF ∷ kind ∷ timeouts ∷ year ∷ week ∷ []
Documented s (Buttons pressed released long) = s ≡ 0x00 ∷ pressed ∷ released ∷ long ∷ []
Documented s (CellTold l v) = Located s 0xFE l (v ∷ [])
Documented s (BlockTold l a b c d) = Located s 0xCC l (a ∷ b ∷ c ∷ d ∷ [])
Documented s (CellAsked l) = Located s 0xFD l []
Documented s (BlockAsked l) = Located s 0xC9 l []
Documented s DumpAsked = s ≡ 0xCB ∷ []
Documented s (CellSet l v) = Located s 0xFC l (v ∷ [])
Documented s (BlockSet l a b c d) = Located s 0xCA l (a ∷ b ∷ c ∷ d ∷ [])
Documented s (Errors a b c) = s ≡ 0xDA ∷ a ∷ b ∷ c ∷ []
Documented s ErrorsAsked = s ≡ 0xD9 ∷ []
Documented s (NameOne channel a b c d e f) = s ≡ 0xF0 ∷ channel ∷ a ∷ b ∷ c ∷ d ∷ e ∷ f ∷ []
Documented s (NameTwo channel a b c d e f) = s ≡ 0xF1 ∷ channel ∷ a ∷ b ∷ c ∷ d ∷ e ∷ f ∷ []
Documented s (NameThree channel a b c d) = s ≡ 0xF2 ∷ channel ∷ a ∷ b ∷ c ∷ d ∷ []
Documented s (NameAsked channel) = s ≡ 0xEF ∷ channel ∷ []
Documented s (StatusAsked channel) = s ≡ 0xFA ∷ channel ∷ []
Documented s (InputStatus pressed on slow fast) = s ≡ 0xEB ∷ pressed ∷ on ∷ slow ∷ fast ∷ []
Documented s (LedsAll on slow fast) = s ≡ 0xF4 ∷ on ∷ slow ∷ fast ∷ []
Documented s (Leds Off leds) = s ≡ 0xF5 ∷ leds ∷ []
Documented s (Leds On leds) = s ≡ 0xF6 ∷ leds ∷ []
Documented s (Leds Slow leds) = s ≡ 0xF7 ∷ leds ∷ []
Documented s (Leds Fast leds) = s ≡ 0xF8 ∷ leds ∷ []
Documented s (Leds VeryFast leds) = s ≡ 0xF9 ∷ leds ∷ []
Documented s (BlindStatus channel timeout state led a b c) = s ≡ 0xEC ∷ channel ∷ timeout ∷ state ∷ led ∷ a ∷ b ∷ c ∷ []
Documented s (BlindStop channel) = s ≡ 0x04 ∷ channel ∷ []
Documented s (BlindUp channel t) = Timed s 0x05 channel t
Documented s (BlindDown channel t) = Timed s 0x06 channel t
