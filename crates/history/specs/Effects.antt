-- What an accepted frame changes, place by place; and what a step back over an entry gives back. The proofs are proofs/Effects.antt.
use Rattle.std.specs.Prelude.{ℕ, suc, ◌<◌, ◌≤◌, ◌≡◌, ◌≢◌, List, ◌∷◌, length, Ok, Err}
use Rattle.std.proofs.Math.Option.{Option, none, some}
use Rattle.laws.specs.Refusals.{no_room}
use Rattle.frame.specs.Identifiers.{address_of}
use Rattle.kinds.specs.Types.{no_type}
use Rattle.judging.specs.Reading.{reading}
use Rattle.frame.specs.declared.messages.Command.{Command}
use Rattle.frame.specs.declared.messages.Message.TheVariants as message
use Rattle.places.specs.Runs.{Run, said, Meaning, refuses, names, enters, meaning_of}
use Rattle.shape.specs.Layout.{size}
use Rattle.questions.specs.Question.{Question}
use Rattle.questions.specs.Replies.{reply, listing}
use Rattle.history.specs.Standing.{most_listed, deepest, Frame, address, sense, meaning, Known, unknown, after, standing_type, latest, listed, accepted, judgement, Event, hear, back, standing, kept}
use Rattle.history.specs.Demand3.{doing, run_bytes, Tells}

-- Every question on the address a, with any lent buffer, is answered alike.
abbrev pub Alike : List ℕ → List ℕ → ℕ → Type 0
Alike b c a = (q : Question) (out : List ℕ) → reply b a q out ≡ reply c a q out

-- What the bytes then tell of the frame's own address, by what the frame means: each place that it names holds what it says, and every other place
-- what it held; an entry begins with every place unknown.
abbrev pub Own : List ℕ → ℕ → Option ℕ → (ℕ → Known) → Meaning → Type 0
Own c a t known (refuses n) = Tells c a t known
Own c a t known (names r) = Tells c a t (λ p. after (said r p) (known p))
Own c a t known (enters k r) = Tells c a (some k) (λ p. after (said r p) unknown)

pub record Effect (b c : List ℕ) (S : List Frame) (f : Frame) : Type 0 where
  pub elsewhere : (a : ℕ) → a ≢ address f → Alike b c a
  pub own : Own c (address f) (standing_type S (address f)) (latest S (address f)) (meaning (standing_type S (address f)) f)

-- An accepted frame changes the module that it addresses, as its run says, and no other.
abbrev pub Effects : Type 0
Effects =
    (b : List ℕ) → size ≤ length b → (d : ℕ) → d ≤ deepest → (h : List Event) (f : Frame) → (doing (hear f) (run_bytes b d h)).outcome ≡ Ok tt
    → Effect (run_bytes b d h) (doing (hear f) (run_bytes b d h)).buffer (standing d h) f

-- The same by what the reader gives. The frame is accepted, and its address then tells this:
pub record HeardAs (b : List ℕ) (d : ℕ) (h : List Event) (f : Frame) (t : Option ℕ) (known : ℕ → Known) : Type 0 where
  pub answer : (doing (hear f) (run_bytes b d h)).outcome ≡ Ok tt
  pub tells : Tells (doing (hear f) (run_bytes b d h)).buffer (address f) t known

abbrev pub Reads : ℕ → Frame → Command → Type 0
Reads kind f m = reading kind f.identifier f.remote f.bytes ≡ Ok (address_of f.identifier, message.Tells m)

-- a command at a listed module, also FF of the module's own type: the places of its run, and no other, hold what it says
abbrev pub HearsCommand : Type 0
HearsCommand =
    (b : List ℕ) → size ≤ length b → (d : ℕ) → d ≤ deepest → (h : List Event) (f : Frame) (kind : ℕ) (m : Command) (r : Run) → standing_type (standing d h) (address f) ≡ some kind
    → Reads kind f m → sense (some kind) (meaning_of kind m) ≡ names r
    → HeardAs b d h f (some kind) (λ p. after (said r p) (latest (standing d h) (address f) p))

-- FF at an unlisted address while there is room: a module with nothing known but its build
abbrev pub HearsEntry : Type 0
HearsEntry =
    (b : List ℕ) → size ≤ length b → (d : ℕ) → d ≤ deepest → (h : List Event) (f : Frame) (m : Command) (k : ℕ) (r : Run) → standing_type (standing d h) (address f) ≡ none
    → Reads no_type f m → meaning_of no_type m ≡ enters k r → listed (standing d h) < most_listed → HeardAs b d h f (some k) (λ p. after (said r p) unknown)

-- FF of another type at a listed module: likewise, and no step back is kept
abbrev pub HearsExchange : Type 0
HearsExchange =
    (b : List ℕ) → size ≤ length b → (d : ℕ) → d ≤ deepest → (h : List Event) (f : Frame) (kind : ℕ) (m : Command) (k : ℕ) (r : Run) → standing_type (standing d h) (address f) ≡ some kind
    → Reads kind f m → meaning_of kind m ≡ enters k r → k ≢ kind
    → HeardAs b d h f (some k) (λ p. after (said r p) unknown) × (kept d (hear f ∷ h) ≡ 0)

-- A step back over an accepted frame (no exchange), at any depth but 0: every question is answered as before the frame.
pub record SameAnswers (b c : List ℕ) : Type 0 where
  pub addresses_listed : (out : List ℕ) → listing b out ≡ listing c out
  pub each : (a : ℕ) → Alike b c a
  pub next : (f : Frame) → (doing (hear f) b).outcome ≡ (doing (hear f) c).outcome

abbrev pub BackOver : Type 0
BackOver =
    (b : List ℕ) → size ≤ length b → (d : ℕ) → d ≤ deepest → (h : List Event) (f : Frame) → 0 < d → judgement (standing d h) f ≡ accepted
    → SameAnswers (run_bytes b d h) (run_bytes b d (back ∷ hear f ∷ h))

-- The sixteenth module is entered by f, and g would enter a seventeenth: it is refused; after a step back, where one is granted, it has the room.
pub record Sixteenth (S : List Frame) (f g : Frame) (k l : ℕ) (r q : Run) : Type 0 where
  pub fifteen : suc (listed S) ≡ most_listed
  pub f_new : standing_type S (address f) ≡ none
  pub f_enters : meaning none f ≡ enters k r
  pub g_new : standing_type S (address g) ≡ none
  pub apart : address f ≢ address g
  pub g_enters : meaning none g ≡ enters l q

pub record RoomAgain (b : List ℕ) (d : ℕ) (h : List Event) (f g : Frame) : Type 0 where
  pub entered : (doing (hear f) (run_bytes b d h)).outcome ≡ Ok tt
  pub full : (doing (hear g) (run_bytes b d (hear f ∷ h))).outcome ≡ Err no_room
  pub gone : Alike (run_bytes b d h) (run_bytes b d (back ∷ hear f ∷ h)) (address f)
  pub again : (doing (hear g) (run_bytes b d (back ∷ hear f ∷ h))).outcome ≡ Ok tt

abbrev pub RoomUsedAgain : Type 0
RoomUsedAgain =
    (b : List ℕ) → size ≤ length b → (d : ℕ) → d ≤ deepest → (h : List Event) (f g : Frame) (k l : ℕ) (r q : Run) → 0 < d → Sixteenth (standing d h) f g k l r q → RoomAgain b d h f g
