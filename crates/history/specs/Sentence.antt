-- Demand 3 in its own words, beside the fold of Standing: for every place, either a standing frame since the module's entry names it, no later one does,
-- and what is known is what that frame gave; or none names it, and it is unknown. The proof is proofs/Sentence.antt.
use Rattle.std.specs.Prelude.{ℕ, ◌<◌, ◌≤◌, ◌≡◌, ◌⊎◌, List, ◌∷◌, length, drop}
use Rattle.std.proofs.Math.Option.{Option, none, some}
use Rattle.shape.specs.Layout.{size}
use Rattle.places.specs.Runs.{Run, Saying, silent, asks, tells, said, Meaning, refuses, names, enters, run_in}
use Rattle.history.specs.Standing.{Frame, address, meaning, standing_type, Known, unknown, told, Event, deepest, standing}
use Rattle.history.specs.Demand3.{run_bytes, Tells}

-- ---- a standing frame
-- Frame number n of those that stand, the latest being number 0, is f, at the address a; `before` are those that stood before it.
pub record Stands (S : List Frame) (a n : ℕ) (f : Frame) (before : List Frame) : Type 0 where
  pub there : drop n S ≡ f ∷ before
  pub at : address f ≡ a

-- what it meant when it was heard; whether it was an entry; what it said of the place p
abbrev pub heard_as : Frame → List Frame → Meaning
heard_as f before = meaning (standing_type before (address f)) f

abbrev pub Entry : Meaning → Type 0
Entry (refuses n) = ⊥
Entry (names r) = ⊥
Entry (enters k r) = Unit {0}

abbrev pub saying : Frame → List Frame → ℕ → Saying
saying f before p = said (run_in (heard_as f before)) p

-- no frame later than number n is an entry of the address
abbrev pub NotHidden : List Frame → ℕ → ℕ → Type 0
NotHidden S a n = (m : ℕ) (g : Frame) (older : List Frame) → Stands S a m g older → m < n → Entry (heard_as g older) → ⊥

-- a standing frame at the address since its entry: the entry itself is the first of them
pub record Since (S : List Frame) (a n : ℕ) (f : Frame) (before : List Frame) : Type 0 where
  pub stands : Stands S a n f before
  pub not_hidden : NotHidden S a n

-- ---- what is known of the place p
-- of a frame that names the place: what it told, or unknown where it asked for a change
abbrev pub Gave : Saying → Known → Type 0
Gave silent known = ⊥
Gave asks known = known ≡ unknown
Gave (tells v) known = known ≡ told v

-- either some standing frame at the address since its entry names the place, and what is known is what that frame gave, and no later one does;
pub record Named (S : List Frame) (a p : ℕ) (known : Known) : Type 0 where
  pub number : ℕ
  pub frame : Frame
  pub before : List Frame
  pub since : Since S a number frame before
  pub gave : Gave (saying frame before p) known
  pub no_later : (m : ℕ) (g : Frame) (older : List Frame) → Stands S a m g older → m < number → saying g older p ≡ silent

-- or none names it, and it is unknown
pub record NotNamed (S : List Frame) (a p : ℕ) (known : Known) : Type 0 where
  pub none_names : (n : ℕ) (f : Frame) (before : List Frame) → Since S a n f before → saying f before p ≡ silent
  pub not_known : known ≡ unknown

abbrev pub PlaceSaid : List Frame → ℕ → ℕ → Known → Type 0
PlaceSaid S a p known = Named S a p known ⊎ NotNamed S a p known

-- ---- the type: that of the latest entry; or there is no entry, and no module
pub record Entered (S : List Frame) (a : ℕ) (type : Option ℕ) : Type 0 where
  pub number : ℕ
  pub frame : Frame
  pub before : List Frame
  pub since : Since S a number frame before
  pub kind : ℕ
  pub build : Run
  pub entry : heard_as frame before ≡ enters kind build
  pub type_is : type ≡ some kind

pub record NotEntered (S : List Frame) (a : ℕ) (type : Option ℕ) : Type 0 where
  pub no_entry : (n : ℕ) (f : Frame) (before : List Frame) → Stands S a n f before → Entry (heard_as f before) → ⊥
  pub no_type : type ≡ none

abbrev pub TypeSaid : List Frame → ℕ → Option ℕ → Type 0
TypeSaid S a type = Entered S a type ⊎ NotEntered S a type

-- ---- the sentence
-- Where the frames S stand, the bytes answer every question on the address a by a type and by what is known of each place, and these are so.
pub record Shown (b : List ℕ) (S : List Frame) (a : ℕ) : Type 0 where
  pub type : Option ℕ
  pub known : ℕ → Known
  pub tells : Tells b a type known
  pub type_said : TypeSaid S a type
  pub place_said : (p : ℕ) → PlaceSaid S a p (known p)

abbrev pub Sentence : Type 0
Sentence = (b : List ℕ) → size ≤ length b → (d : ℕ) → d ≤ deepest → (h : List Event) (a : ℕ) → Shown (run_bytes b d h) (standing d h) a

-- It leaves no choice: two types, or two things known of a place, of which it holds are the same.
pub record SentenceDecides : Type 0 where
  pub one_type : (S : List Frame) (a : ℕ) (t u : Option ℕ) → TypeSaid S a t → TypeSaid S a u → t ≡ u
  pub one_known : (S : List Frame) (a p : ℕ) (k l : Known) → PlaceSaid S a p k → PlaceSaid S a p l → k ≡ l
