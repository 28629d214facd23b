-- Which fields are allowed, as document 01's paragraph "Fields", document 000 (H'09') and document 02, W-201 and W-203, list them: a line for each
-- thing that they say of a byte, in the papers' own numbers. Nothing here is shared with `fault`, by which frames are judged.
use Rattle.std.specs.Prelude.{ℕ, ◌-◌, ◌/◌, ◌%◌, List, [], ◌∷◌, Bool, true, false, not, ◌&&◌, ◌||◌, cond, take, eqb, leb}
use Rattle.laws.specs.Tests.{among}
use Rattle.frame.specs.Bytes.{byte}

-- a line: the types and the commands that it binds, the number of the byte, and whether that byte is allowed by what stands to its left
pub record Line : Type 0 where
  pub types : List ℕ
  pub commands : List ℕ
  pub number : ℕ
  pub allows : List ℕ → ℕ → Bool

abbrev pub line : List ℕ → List ℕ → ℕ → (List ℕ → ℕ → Bool) → Line
line ks cs n f = record { types = ks; commands = cs; number = n; allows = f }

-- tests of a byte by itself: it is one of some numbers, or at most a number, or has these bits clear
abbrev pub one_of : List ℕ → List ℕ → ℕ → Bool
one_of numbers left x = among x numbers

abbrev pub at_most : ℕ → List ℕ → ℕ → Bool
at_most last left x = leb x last

abbrev pub clear : List ℕ → List ℕ → ℕ → Bool
clear [] left x = true
clear (bit ∷ bits) left x = not (eqb (x / bit % 2) 1) && clear bits left x

abbrev pub is : ℕ → List ℕ → ℕ → Bool
is n left x = eqb x n

-- the types
abbrev pub ir : List ℕ
ir = 0x0A ∷ []

abbrev pub bl : List ℕ
bl = 0x03 ∷ []

abbrev pub bl2 : List ℕ
bl2 = 0x09 ∷ []

-- those of 256 cells, those with blinds, and all of them
abbrev pub wide : List ℕ
wide = 0x0A ∷ 0x09 ∷ []

abbrev pub bls : List ℕ
bls = 0x03 ∷ 0x09 ∷ []

abbrev pub every : List ℕ
every = 0x0A ∷ 0x03 ∷ 0x09 ∷ []

-- one cell, four cells, a part of a name
abbrev pub cells : List ℕ
cells = 0xFE ∷ 0xFD ∷ 0xFC ∷ []

abbrev pub blocks : List ℕ
blocks = 0xCC ∷ 0xC9 ∷ 0xCA ∷ []

abbrev pub parts : List ℕ
parts = 0xF0 ∷ 0xF1 ∷ 0xF2 ∷ []

-- exactly one bit
abbrev pub one_bit : List ℕ
one_bit = 0x01 ∷ 0x02 ∷ 0x04 ∷ 0x08 ∷ 0x10 ∷ 0x20 ∷ 0x40 ∷ 0x80 ∷ []

-- the blind; the blind, the up button and the down button; what is put together of these
abbrev pub blind : List ℕ
blind = 0x03 ∷ []

abbrev pub channels : List ℕ
channels = 0x03 ∷ 0x10 ∷ 0x20 ∷ []

abbrev pub together : List ℕ
together = 0x03 ∷ 0x13 ∷ 0x33 ∷ 0x23 ∷ 0x10 ∷ 0x30 ∷ 0x20 ∷ []

-- the same of H'09': both blinds; these, then up 1, down 1, up 2 and down 2
abbrev pub blinds : List ℕ
blinds = 0x03 ∷ 0x0C ∷ []

abbrev pub channels2 : List ℕ
channels2 = 0x03 ∷ 0x0C ∷ 0x10 ∷ 0x20 ∷ 0x40 ∷ 0x80 ∷ []

-- what is put together of these: not 0, and in its low half neither blind, one of them or both
abbrev pub together2 : List ℕ → ℕ → Bool
together2 left x = not (eqb x 0) && among (x % 16) (0x00 ∷ 0x03 ∷ 0x0C ∷ 0x0F ∷ [])

-- off, up, down: of blind 2 where byte 2 names it, else of blind 1
abbrev pub states : List ℕ → ℕ → Bool
states left x = cond (eqb (byte 2 left) 0x0C) (among x (0 ∷ 4 ∷ 8 ∷ [])) (among x (0 ∷ 1 ∷ 2 ∷ []))

-- bits 2, 3, 6 and 7
abbrev pub no_buttons : List ℕ
no_buttons = 0x04 ∷ 0x08 ∷ 0x40 ∷ 0x80 ∷ []

-- the lines of one command stand in the order of their bytes; all other bytes are free
abbrev pub lines : List Line
lines =
    line every cells 2 (is 0)
    ∷ line wide cells 3 (at_most 0xFF)
    ∷ line bl cells 3 (at_most 0x7F)
    ∷ line every blocks 2 (is 0)
    ∷ line wide blocks 3 (at_most 0xFC)
    ∷ line bl blocks 3 (at_most 0x7C)
    ∷ line ir parts 2 (one_of one_bit)
    ∷ line bl parts 2 (one_of channels)
    ∷ line bl2 parts 2 (one_of channels2)
    ∷ line ir (0xEF ∷ []) 2 (one_of one_bit)
    ∷ line bl (0xEF ∷ []) 2 (one_of together)
    ∷ line bl2 (0xEF ∷ []) 2 together2
    ∷ line bl (0xF2 ∷ []) 6 (λ left x. among (byte 2 left) blind || eqb x 0xFF)
    ∷ line bl2 (0xF2 ∷ []) 6 (λ left x. among (byte 2 left) blinds || eqb x 0xFF)
    ∷ line bl (0x04 ∷ 0x05 ∷ 0x06 ∷ 0xFA ∷ 0xEC ∷ []) 2 (one_of blind)
    ∷ line bl2 (0x04 ∷ 0x05 ∷ 0x06 ∷ 0xFA ∷ 0xEC ∷ []) 2 (one_of blinds)
    ∷ line bl (0xFF ∷ []) 3 (at_most 3)
    ∷ line bl2 (0xFF ∷ []) 3 (at_most 0x0F)
    ∷ line bls (0xEC ∷ []) 3 (at_most 3)
    ∷ line bl (0xEC ∷ []) 4 (at_most 2)
    ∷ line bl2 (0xEC ∷ []) 4 states
    ∷ line bls (0xEC ∷ []) 5 (λ left x. eqb x 0 || among x one_bit)
    ∷ line bl (0x00 ∷ []) 2 (clear no_buttons)
    ∷ line bl (0x00 ∷ []) 3 (clear no_buttons)
    ∷ line bl (0x00 ∷ []) 4 (clear no_buttons)
    ∷ []

-- a line binds a command of a type
abbrev pub binds : ℕ → ℕ → Line → Bool
binds kind c l = among kind l.types && among c l.commands

abbrev pub keep : Bool → Line → List Line → List Line
keep true l ls = l ∷ ls
keep false l ls = ls

abbrev pub binding_in : List Line → ℕ → ℕ → List Line
binding_in [] kind c = []
binding_in (l ∷ ls) kind c = keep (binds kind c l) l (binding_in ls kind c)

abbrev pub lines_for : ℕ → ℕ → List Line
lines_for kind c = binding_in lines kind c

-- the bytes meet a line, and all of some lines
abbrev pub meets : List ℕ → Line → Bool
meets s l = l.allows (take (l.number - 1) s) (byte l.number s)

abbrev pub meets_all : List ℕ → List Line → Bool
meets_all s [] = true
meets_all s (l ∷ ls) = meets s l && meets_all s ls

-- the fields of the bytes s are allowed for the type: they meet every line that binds their command
abbrev pub allowed : ℕ → List ℕ → Bool
allowed kind s = meets_all s (lines_for kind (byte 1 s))
