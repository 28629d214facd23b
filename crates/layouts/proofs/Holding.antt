-- A message that is laid out and taken in again is the same message.
-- Assumes nothing.
use Rattle.std.specs.Prelude.{Some}
use Prim.Native.Nat.{ℕ, ◌+◌, ◌*◌, ◌/◌, ◌%◌, ◌<◌, ◌≤◌}
use native.Mathlib.Omega.{arith}
use mathlib.Core.Path.{◌≡◌, refl}
use mathlib.Core.List.{List, [], ◌∷◌, ◌++◌, map}
use mathlib.Core.Bool.{Bool, true, false, cond}
use lib.Dec.{eqb}
use lib.ListN.{length, length-append}
use borrow.Author.Tests.{eq-eqb, le-ltb}
use Rattle.laws.specs.Tests.{among}
use Rattle.laws.proofs.Testing.{◌&◌, among-each}
use Rattle.frame.specs.declared.identifiers.Address.{Address}
use Rattle.frame.specs.declared.messages.Time.TheVariants.{DipSwitch, Permanently, Seconds}
use Rattle.frame.specs.declared.messages.Glow.TheVariants.{Off, On, Slow, Fast, VeryFast}
use Rattle.frame.specs.declared.messages.Command.{Command}
use Rattle.frame.specs.declared.messages.Command.TheVariants.{TypeLong, TypeShort, Buttons, CellTold, BlockTold, CellAsked, BlockAsked, DumpAsked, CellSet, BlockSet, Errors, ErrorsAsked, NameOne, NameTwo, NameThree, NameAsked, StatusAsked, InputStatus, LedsAll, Leds, BlindStatus, BlindStop, BlindUp, BlindDown}
use Rattle.frame.specs.declared.messages.Message.{Message}
use Rattle.frame.specs.declared.messages.Message.TheVariants.{TypeRequest, Tells}
use Rattle.layouts.specs.declared.parts.Six.{Six}
use Rattle.layouts.specs.declared.parts.Parts.{Parts}
use Rattle.layouts.specs.Parts.{Numbered, long_types, short_types, no_message, number_in, command_parts, parts_of, command_from, message_from, address_in, same_six, same_parts, held_by}
use Rattle.layouts.specs.Layout.{message_size, laid_bytes, taken_parts, blank_between, held_in}
use Rattle.layouts.specs.Statements.{LaidIsHeld}

-- The parts of a message make the message.

abbrev Again : Address → Message → Parts → Type 0
Again a m p = (address_in p ≡ a) × (message_from p ≡ m)

-- a type that has a number in a table is of one of its lines
abbrev kinds_in : List Numbered → List ℕ
kinds_in ls = map (λ (l : Numbered). l.kind) ls

has_line : (ls : List Numbered) (k : ℕ) → number_in ls k < no_message → among k (kinds_in ls) ≡ true
unfolding number_in
has_line [] k h = absurd (omega arith)
has_line (l ∷ ls) k h = go (eqb k l.kind) (has_line ls k) h
  where
    go :
        (b : Bool) → (number_in ls k < no_message → among k (kinds_in ls) ≡ true) → cond b l.what (number_in ls k) < no_message →
        cond b true (among k (kinds_in ls)) ≡ true
    go true later h = refl
    go false later h = later h

long_again :
    (a : Address) (k b c d e f : ℕ) → number_in long_types k < no_message → Again a (Tells (TypeLong k b c d e f)) (command_parts a (TypeLong k b c d e f))
unfolding command_parts message_from command_from number_in
long_again a k b c d e f h =
    among-each (λ k. Again a (Tells (TypeLong k b c d e f)) (command_parts a (TypeLong k b c d e f))) k (kinds_in long_types)
    ((refl, refl) & tt)
    (has_line long_types k h)

short_again : (a : Address) (k b c d : ℕ) → number_in short_types k < no_message → Again a (Tells (TypeShort k b c d)) (command_parts a (TypeShort k b c d))
unfolding command_parts message_from command_from number_in
short_again a k b c d h =
    among-each (λ k. Again a (Tells (TypeShort k b c d)) (command_parts a (TypeShort k b c d))) k (kinds_in short_types)
    ((refl, refl) & (refl, refl) & tt)
    (has_line short_types k h)

command_again : (a : Address) (m : Command) → (command_parts a m).what < no_message → Again a (Tells m) (command_parts a m)
unfolding command_parts message_from command_from
command_again a (TypeLong k b c d e f) h = long_again a k b c d e f h
command_again a (TypeShort k b c d) h = short_again a k b c d h
command_again a (Buttons b c d) h = (refl, refl)
command_again a (CellTold l v) h = (refl, refl)
command_again a (BlockTold l b c d e) h = (refl, refl)
command_again a (CellAsked l) h = (refl, refl)
command_again a (BlockAsked l) h = (refl, refl)
command_again a DumpAsked h = (refl, refl)
command_again a (CellSet l v) h = (refl, refl)
command_again a (BlockSet l b c d e) h = (refl, refl)
command_again a (Errors b c d) h = (refl, refl)
command_again a ErrorsAsked h = (refl, refl)
command_again a (NameOne n b c d e f g) h = (refl, refl)
command_again a (NameTwo n b c d e f g) h = (refl, refl)
command_again a (NameThree n b c d e) h = (refl, refl)
command_again a (NameAsked n) h = (refl, refl)
command_again a (StatusAsked n) h = (refl, refl)
command_again a (InputStatus b c d e) h = (refl, refl)
command_again a (LedsAll b c d) h = (refl, refl)
command_again a (Leds Off mask) h = (refl, refl)
command_again a (Leds On mask) h = (refl, refl)
command_again a (Leds Slow mask) h = (refl, refl)
command_again a (Leds Fast mask) h = (refl, refl)
command_again a (Leds VeryFast mask) h = (refl, refl)
command_again a (BlindStatus n b c d e f g) h = (refl, refl)
command_again a (BlindStop n) h = (refl, refl)
command_again a (BlindUp n DipSwitch) h = (refl, refl)
command_again a (BlindUp n Permanently) h = (refl, refl)
command_again a (BlindUp n (Seconds s)) h = (refl, refl)
command_again a (BlindDown n DipSwitch) h = (refl, refl)
command_again a (BlindDown n Permanently) h = (refl, refl)
command_again a (BlindDown n (Seconds s)) h = (refl, refl)

again : (a : Address) (m : Message) → (parts_of a m).what < no_message → Again a m (parts_of a m)
unfolding parts_of message_from
again a TypeRequest h = (refl, refl)
again a (Tells m) h = command_again a m h

self : (x : ℕ) → eqb x x ≡ true
self x = eq-eqb x x refl

same-six_self : (s : Six) → same_six s s ≡ true
unfolding same_six
same-six_self s = rw (self s.0, self s.1, self s.2, self s.3, self s.4, self s.5)

same_self : (p : Parts) → same_parts p p ≡ true
unfolding same_parts
same_self p =
    rw (self p.what, self p.address, self p.channel, self p.glow, self p.location, same-six_self p.bytes, self p.time, self p.seconds)

holds_itself : (a : Address) (m : Message) → (parts_of a m).what < no_message → held_by (parts_of a m) ≡ Some (a, m)
unfolding held_by
holds_itself a m h = let g = again a m h in rw (g.0, g.1, same_self (parts_of a m))

-- The bytes of some parts are the parts.

low-high : (n : ℕ) → n < 65536 → n % 256 + 256 * (n / 256 % 256) ≡ n
low-high n h = omega arith

low_highs : (n : ℕ) → n < 4294967296 → n % 256 + 256 * (n / 256 % 256) + 65536 * (n / 65536 % 256) + 16777216 * (n / 16777216 % 256) ≡ n
low_highs n h =
    let low : n % 256 + 256 * (n / 256 % 256) ≡ n % 65536 = omega arith in
    let top : n / 16777216 ≡ n / 65536 / 256 = omega arith in
    let high : n / 65536 % 256 + 256 * (n / 65536 / 256 % 256) ≡ n / 65536 = low-high (n / 65536) (omega arith) in
    rw top (omega arith)

taken_again : (p : Parts) (after : List ℕ) → p.location < 65536 → p.seconds < 4294967296 → taken_parts (laid_bytes p ++ after) ≡ p
unfolding taken_parts laid_bytes
taken_again p after hl hs =
    let l = low-high p.location hl in
    let s = low_highs p.seconds hs in
    λ i. record {
      what = p.what;
      address = p.address;
      channel = p.channel;
      glow = p.glow;
      location = l i;
      bytes = p.bytes;
      time = p.time;
      seconds = s i;
    }

blank-laid : (p : Parts) (after : List ℕ) → blank_between (laid_bytes p ++ after) ≡ true
unfolding blank_between laid_bytes
blank-laid p after = refl

laid_long : (p : Parts) (after : List ℕ) → message_size ≤ length (laid_bytes p ++ after)
unfolding laid_bytes
laid_long p after = rw (length-append) (omega arith)

pub laid_is_held : LaidIsHeld
unfolding held_in
laid_is_held a m after f =
    rw (le-ltb (length (laid_bytes (parts_of a m) ++ after)) message_size (laid_long (parts_of a m) after), blank-laid (parts_of a m) after, taken_again (parts_of a m) after f.location f.seconds) (holds_itself a m f.numbered)
