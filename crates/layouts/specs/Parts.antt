-- A message as fields of numbers, the same fields for every message; a field that a message does not have is 0.
use Rattle.std.specs.Prelude.{ℕ, List, [], ◌∷◌, Bool, cond, ◌&&◌, eqb, Option, Some, None}
use Rattle.laws.specs.Tests.{first_for}
use Rattle.kinds.specs.Types.{vmb1bl, vmb8ir, vmb2bl}
use Rattle.frame.specs.declared.identifiers.Address.{Address}
use Rattle.frame.specs.declared.messages.Location.{Location}
use Rattle.frame.specs.declared.messages.Time.{Time}
use Rattle.frame.specs.declared.messages.Time.TheVariants.{DipSwitch, Permanently, Seconds}
use Rattle.frame.specs.declared.messages.Glow.{Glow}
use Rattle.frame.specs.declared.messages.Glow.TheVariants.{Off, On, Slow, Fast, VeryFast}
use Rattle.frame.specs.declared.messages.Command.{Command}
use Rattle.frame.specs.declared.messages.Command.TheVariants.{TypeLong, TypeShort, Buttons, CellTold, BlockTold, CellAsked, BlockAsked, DumpAsked, CellSet, BlockSet, Errors, ErrorsAsked, NameOne, NameTwo, NameThree, NameAsked, StatusAsked, InputStatus, LedsAll, Leds, BlindStatus, BlindStop, BlindUp, BlindDown}
use Rattle.frame.specs.declared.messages.Message.{Message}
use Rattle.frame.specs.declared.messages.Message.TheVariants.{TypeRequest, Tells}
use Rattle.places.specs.Runs.{glow_number}
use Rattle.layouts.specs.declared.parts.Six.{Six}
use Rattle.layouts.specs.declared.parts.Parts.{Parts}

-- ---- the numbers of LED states and of times
abbrev pub glow_from : ℕ → Glow
glow_from n = cond (eqb n 1) On (cond (eqb n 2) Slow (cond (eqb n 3) Fast (cond (eqb n 4) VeryFast Off)))

-- 0 is no time
abbrev pub time_number : Time → ℕ
time_number DipSwitch = 1
time_number Permanently = 2
time_number (Seconds n) = 3

abbrev pub time_seconds : Time → ℕ
time_seconds DipSwitch = 0
time_seconds Permanently = 0
time_seconds (Seconds n) = n

abbrev pub time_from : ℕ → ℕ → Time
time_from n seconds = cond (eqb n 1) DipSwitch (cond (eqb n 2) Permanently (Seconds seconds))

-- ---- parts of each make
abbrev pub six : ℕ → ℕ → ℕ → ℕ → ℕ → ℕ → Six
six a b c d e f = record { 0 = a; 1 = b; 2 = c; 3 = d; 4 = e; 5 = f }

abbrev pub none : Six
none = six 0 0 0 0 0 0

abbrev pub free : ℕ → Address → Six → Parts
free what a s = record { what = what; address = a.0; channel = 0; glow = 0; location = 0; bytes = s; time = 0; seconds = 0 }

abbrev pub located : ℕ → Address → Location → Six → Parts
located what a l s = record { what = what; address = a.0; channel = 0; glow = 0; location = l.0; bytes = s; time = 0; seconds = 0 }

abbrev pub channelled : ℕ → Address → ℕ → Six → Parts
channelled what a n s = record { what = what; address = a.0; channel = n; glow = 0; location = 0; bytes = s; time = 0; seconds = 0 }

abbrev pub glowing : ℕ → Address → Glow → ℕ → Parts
glowing what a g mask =
    record { what = what; address = a.0; channel = 0; glow = glow_number g; location = 0; bytes = six mask 0 0 0 0 0; time = 0; seconds = 0 }

abbrev pub timed : ℕ → Address → ℕ → Time → Parts
timed what a n t =
    record { what = what; address = a.0; channel = n; glow = 0; location = 0; bytes = none; time = time_number t; seconds = time_seconds t }

-- ---- the numbers of the type frames
-- a line of the table: a type, and the number of its type frame's message
pub record Numbered : Type 0 where
  pub kind : ℕ
  pub what : ℕ

-- the types with a type frame of the long shape, and of the short one
abbrev pub long_types : List Numbered
long_types = record { kind = vmb8ir; what = 1 } ∷ []

abbrev pub short_types : List Numbered
short_types = record { kind = vmb1bl; what = 2 } ∷ record { kind = vmb2bl; what = 25 } ∷ []

-- the number that no message has
abbrev pub no_message : ℕ
no_message = 255

unfoldable pub number_in : List Numbered → ℕ → ℕ
number_in ls kind = first_for (λ (l : Numbered). l.kind) (λ (l : Numbered). l.what) no_message ls kind

-- ---- the parts of each message
unfoldable pub command_parts : Address → Command → Parts
command_parts a (TypeLong k b c d e f) = free (number_in long_types k) a (six b c d e f 0)
command_parts a (TypeShort k b c d) = free (number_in short_types k) a (six b c d 0 0 0)
command_parts a (Buttons b c d) = free 3 a (six b c d 0 0 0)
command_parts a (CellTold l v) = located 4 a l (six v 0 0 0 0 0)
command_parts a (BlockTold l b c d e) = located 5 a l (six b c d e 0 0)
command_parts a (CellAsked l) = located 6 a l none
command_parts a (BlockAsked l) = located 7 a l none
command_parts a DumpAsked = free 8 a none
command_parts a (CellSet l v) = located 9 a l (six v 0 0 0 0 0)
command_parts a (BlockSet l b c d e) = located 10 a l (six b c d e 0 0)
command_parts a (Errors b c d) = free 11 a (six b c d 0 0 0)
command_parts a ErrorsAsked = free 12 a none
command_parts a (NameOne n b c d e f g) = channelled 13 a n (six b c d e f g)
command_parts a (NameTwo n b c d e f g) = channelled 14 a n (six b c d e f g)
command_parts a (NameThree n b c d e) = channelled 15 a n (six b c d e 0 0)
command_parts a (NameAsked n) = channelled 16 a n none
command_parts a (StatusAsked n) = channelled 17 a n none
command_parts a (InputStatus b c d e) = free 18 a (six b c d e 0 0)
command_parts a (LedsAll b c d) = free 19 a (six b c d 0 0 0)
command_parts a (Leds g mask) = glowing 20 a g mask
command_parts a (BlindStatus n b c d e f g) = channelled 21 a n (six b c d e f g)
command_parts a (BlindStop n) = channelled 22 a n none
command_parts a (BlindUp n t) = timed 23 a n t
command_parts a (BlindDown n t) = timed 24 a n t

unfoldable pub parts_of : Address → Message → Parts
parts_of a TypeRequest = free 0 a none
parts_of a (Tells m) = command_parts a m

-- ---- the message of some parts
-- a line of the table: a message's number, and the command that its parts make
pub record Maker : Type 0 where
  pub what : ℕ
  pub makes : Parts → Command

abbrev pub by : ℕ → (Parts → Command) → Maker
by n f = record { what = n; makes = f }

abbrev pub place : Parts → Location
place p = record { 0 = p.location }

abbrev pub span : Parts → Time
span p = time_from p.time p.seconds

abbrev pub makers : List Maker
makers =
    by 1 (λ p. TypeLong vmb8ir p.bytes.0 p.bytes.1 p.bytes.2 p.bytes.3 p.bytes.4)
    ∷ by 2 (λ p. TypeShort vmb1bl p.bytes.0 p.bytes.1 p.bytes.2)
    ∷ by 3 (λ p. Buttons p.bytes.0 p.bytes.1 p.bytes.2)
    ∷ by 4 (λ p. CellTold (place p) p.bytes.0)
    ∷ by 5 (λ p. BlockTold (place p) p.bytes.0 p.bytes.1 p.bytes.2 p.bytes.3)
    ∷ by 6 (λ p. CellAsked (place p))
    ∷ by 7 (λ p. BlockAsked (place p))
    ∷ by 8 (λ p. DumpAsked)
    ∷ by 9 (λ p. CellSet (place p) p.bytes.0)
    ∷ by 10 (λ p. BlockSet (place p) p.bytes.0 p.bytes.1 p.bytes.2 p.bytes.3)
    ∷ by 11 (λ p. Errors p.bytes.0 p.bytes.1 p.bytes.2)
    ∷ by 12 (λ p. ErrorsAsked)
    ∷ by 13 (λ p. NameOne p.channel p.bytes.0 p.bytes.1 p.bytes.2 p.bytes.3 p.bytes.4 p.bytes.5)
    ∷ by 14 (λ p. NameTwo p.channel p.bytes.0 p.bytes.1 p.bytes.2 p.bytes.3 p.bytes.4 p.bytes.5)
    ∷ by 15 (λ p. NameThree p.channel p.bytes.0 p.bytes.1 p.bytes.2 p.bytes.3)
    ∷ by 16 (λ p. NameAsked p.channel)
    ∷ by 17 (λ p. StatusAsked p.channel)
    ∷ by 18 (λ p. InputStatus p.bytes.0 p.bytes.1 p.bytes.2 p.bytes.3)
    ∷ by 19 (λ p. LedsAll p.bytes.0 p.bytes.1 p.bytes.2)
    ∷ by 20 (λ p. Leds (glow_from p.glow) p.bytes.0)
    ∷ by 21 (λ p. BlindStatus p.channel p.bytes.0 p.bytes.1 p.bytes.2 p.bytes.3 p.bytes.4 p.bytes.5)
    ∷ by 22 (λ p. BlindStop p.channel)
    ∷ by 23 (λ p. BlindUp p.channel (span p))
    ∷ by 24 (λ p. BlindDown p.channel (span p))
    ∷ by 25 (λ p. TypeShort vmb2bl p.bytes.0 p.bytes.1 p.bytes.2)
    ∷ []

-- parts with a number that no message has are no message, whatever they would make
abbrev pub unnumbered : Command
unnumbered = DumpAsked

unfoldable pub command_from : Parts → Command
command_from p = first_for (λ (m : Maker). m.what) (λ (m : Maker). m.makes p) unnumbered makers p.what

unfoldable pub message_from : Parts → Message
message_from p = cond (eqb p.what 0) TypeRequest (Tells (command_from p))

abbrev pub address_in : Parts → Address
address_in p = record { 0 = p.address }

-- field by field the same
unfoldable pub same_six : Six → Six → Bool
same_six p q = eqb p.0 q.0 && (eqb p.1 q.1 && (eqb p.2 q.2 && (eqb p.3 q.3 && (eqb p.4 q.4 && eqb p.5 q.5))))

unfoldable pub same_parts : Parts → Parts → Bool
same_parts p q =
    eqb p.what q.what
    && (eqb p.address q.address
    && (eqb p.channel q.channel
    && (eqb p.glow q.glow && (eqb p.location q.location && (same_six p.bytes q.bytes && (eqb p.time q.time && eqb p.seconds q.seconds))))))

-- the message that some parts are, with its address
abbrev pub Held : Type 0
Held = Option (Address × Message)

-- parts are a message where they are just the parts of one
unfoldable pub held_by : Parts → Held
held_by p = cond (same_parts (parts_of (address_in p) (message_from p)) p) (Some (address_in p, message_from p)) None
