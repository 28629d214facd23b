-- Names that live in memory, by source document 001's memory map: for H'0A' a character and its cell are one place; H'03' and H'09' keep them apart. The
-- proof is proofs/InMemory.antt.
use Rattle.std.specs.Prelude.{ℕ, ◌+◌, ◌-◌, ◌*◌, ◌≤◌, ◌≡◌, ◌≢◌, List, [], ◌∷◌, length, get_or}
use Rattle.frame.specs.declared.messages.Location.{Location}
use Rattle.frame.specs.declared.messages.Command.{Command}
use Rattle.frame.specs.declared.messages.Command.TheVariants.{CellTold, BlockTold, CellSet, BlockSet, NameOne, NameTwo, NameThree}
use Rattle.kinds.specs.Types.{name_of, extent_of}
use Rattle.places.specs.Places.{character_place, cell_place}
use Rattle.places.specs.Runs.{silent, said, run_in, meaning_of}
use Rattle.questions.specs.Question.{type_of, name_row, memory_row, value}
use Rattle.questions.specs.Replies.{reply}
use Rattle.history.specs.Speaks.{tells_of, Names}

-- ---- H'0A'
-- i counts from 1 to most
abbrev pub OneTo : ℕ → ℕ → Type 0
OneTo most i = (1 ≤ i) × (i ≤ most)

-- character i of channel c, both from 1, is cell 16 × (c − 1) + i − 1
abbrev pub cell_of : ℕ → ℕ → ℕ
cell_of c i = 16 * (c - 1) + (i - 1)

-- On any bytes: the question on a name shows of each character what the memory row shows of its cell, told and not heard alike.
abbrev pub NameShowsCells : Type 0
NameShowsCells =
    (b : List ℕ) (a c i : ℕ) (name memory : List ℕ) → reply b a type_of [] ≡ value 0x0A [] → OneTo 8 c → OneTo 16 i → 16 ≤ length name → 256 ≤ length memory
    → get_or (reply b a (name_row c) name).buffer (i - 1) 0 ≡ get_or (reply b a memory_row memory).buffer (cell_of c i) 0

-- a part of the name of channel c tells its cells, and names no other place
pub record PartsTellCells : Type 0 where
  pub first : (x u v w y z channel c : ℕ) → name_of 0x0A channel ≡ c → Names (cell_place 0x0A (cell_of c 1)) 6 (tells_of (x ∷ u ∷ v ∷ w ∷ y ∷ z ∷ [])) (meaning_of 0x0A (NameOne channel x u v w y z))
  pub second : (x u v w y z channel c : ℕ) → name_of 0x0A channel ≡ c → Names (cell_place 0x0A (cell_of c 7)) 6 (tells_of (x ∷ u ∷ v ∷ w ∷ y ∷ z ∷ [])) (meaning_of 0x0A (NameTwo channel x u v w y z))
  pub third : (x u v w channel c : ℕ) → name_of 0x0A channel ≡ c → Names (cell_place 0x0A (cell_of c 13)) 4 (tells_of (x ∷ u ∷ v ∷ w ∷ [])) (meaning_of 0x0A (NameThree channel x u v w))

-- cells 128 to 255 belong to no name
abbrev pub NoNameBeyond : Type 0
NoNameBeyond = (c i location : ℕ) → OneTo 8 c → OneTo 16 i → 128 ≤ location → character_place 0x0A c i ≢ cell_place 0x0A location

-- ---- a type that keeps them apart: what is on cells is silent of every character, and what is on a name of every cell
abbrev pub SilentOfNames : ℕ → Command → Type 0
SilentOfNames kind m = (c i : ℕ) → OneTo (extent_of kind).names c → OneTo 16 i → said (run_in (meaning_of kind m)) (character_place kind c i) ≡ silent

abbrev pub SilentOfCells : ℕ → Command → Type 0
SilentOfCells kind m = (location : ℕ) → said (run_in (meaning_of kind m)) (cell_place kind location) ≡ silent

pub record KeptApart (kind : ℕ) : Type 0 where
  pub cell_told : (l : Location) (v : ℕ) → SilentOfNames kind (CellTold l v)
  pub block_told : (l : Location) (x u v w : ℕ) → SilentOfNames kind (BlockTold l x u v w)
  pub cell_set : (l : Location) (v : ℕ) → SilentOfNames kind (CellSet l v)
  pub block_set : (l : Location) (x u v w : ℕ) → SilentOfNames kind (BlockSet l x u v w)
  pub name_one : (n x u v w y z : ℕ) → OneTo (extent_of kind).names (name_of kind n) → SilentOfCells kind (NameOne n x u v w y z)
  pub name_two : (n x u v w y z : ℕ) → OneTo (extent_of kind).names (name_of kind n) → SilentOfCells kind (NameTwo n x u v w y z)
  pub name_three : (n x u v w : ℕ) → OneTo (extent_of kind).names (name_of kind n) → SilentOfCells kind (NameThree n x u v w)

pub record InMemory : Type 0 where
  pub name_shows_cells : NameShowsCells
  pub parts_tell_cells : PartsTellCells
  pub no_name_beyond : NoNameBeyond
  pub one_blind : KeptApart 0x03
  pub two_blinds : KeptApart 0x09
