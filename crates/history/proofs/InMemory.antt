-- Names that live in memory, as specs/InMemory.antt states it. Assumes nothing.
use Prim.Native.Nat.{ℕ, ◌+◌, ◌-◌, ◌<◌, ◌≤◌}
use native.Mathlib.Omega.{arith}
use mathlib.Core.Path.{◌≡◌, refl, sym, ap, subst, ◌∙◌}
use mathlib.Core.Logic.{inl, inr}
use mathlib.Core.Bool.{Bool, true, false, cond}
use mathlib.Core.List.{List, []}
use lib.Dec.{ltb}
use lib.ListN.{length, get_or}
use borrow.Author.Tests.{le-leb}
use Rattle.laws.specs.Refusals.{type_not_known, too_short}
use Rattle.frame.specs.declared.messages.Message.TheVariants.{Tells}
use Rattle.frame.specs.declared.messages.Command.TheVariants.{CellTold, BlockTold, CellSet, BlockSet, NameOne, NameTwo, NameThree}
use Rattle.kinds.specs.Types.{line_of, name_of, extent_of}
use Rattle.shape.specs.Limits.{room}
use Rattle.places.specs.Places.{first_character, character_place, cell_place, has_name}
use Rattle.shape.specs.Layout.{place_at}
use Rattle.shape.specs.Head.{short, kind_in}
use Rattle.places.specs.Runs.{Saying, Meaning, names, meant, meaning_of}
use Rattle.places.proofs.Fitting.{extents_small}
use Rattle.questions.specs.Question.{Question, type_of, name_row, memory_row, Reply, value, refusing}
use Rattle.questions.specs.Fills.{filling, value_at, row_number, numbers_fill}
use Rattle.questions.specs.Replies.{slot_asked, reply_as, reply_in, reply}
use Rattle.questions.proofs.Filling.{filled_at}
use Rattle.history.specs.Speaks.{Names, Spoken}
use Rattle.history.specs.InMemory.{OneTo, cell_of, NameShowsCells, PartsTellCells, NoNameBeyond, KeptApart, InMemory}
use Rattle.history.proofs.Speaks.{speaks_of}

-- ---- the questions on a listed module
-- a reply with a value is no refusal
refusing-value : {n v : ℕ} {out : List ℕ} → refusing n out ≡ value v out → ⊥
refusing-value e = let q = ap (λ (r : Reply). r.answer) e in let z : ◌≡◌ {A = ℕ} 0 1 = cc in omega arith

value_is : {v w : ℕ} {out : List ℕ} → value v out ≡ value w out → v ≡ w
value_is e = let q = ap (λ (r : Reply). r.answer) e in cc

record Listed (b : List ℕ) (a kind : ℕ) : Type 0 where
  long : short b ≡ false
  there : ltb (slot_asked b a) room ≡ true
  type : kind_in b (slot_asked b a) ≡ kind

listed_as : (b : List ℕ) (a kind : ℕ) → reply b a type_of [] ≡ value kind [] → Listed b a kind
unfolding reply reply_in reply_as
listed_as b a kind e = go (short b) (ltb (slot_asked b a) room) refl refl e
  where
    go : (s t : Bool) → short b ≡ s → ltb (slot_asked b a) room ≡ t
        → cond s (refusing too_short []) (cond t (value (kind_in b (slot_asked b a)) []) (refusing type_not_known [])) ≡ value kind [] → Listed b a kind
    go true t p q e = absurd (refusing-value e)
    go false false p q e = absurd (refusing-value e)
    go false true p q e = record { long = p; there = q; type = value_is e }

asked_of : (b : List ℕ) (a kind : ℕ) (q : Question) (out : List ℕ) → Listed b a kind → reply b a q out ≡ reply_as b (slot_asked b a) kind q out
unfolding reply reply_in
asked_of b a kind q out l = rw (l.long, l.there, l.type) refl

-- number j of a row that is filled
row_at : (v : ℕ) (b : List ℕ) (s start count j : ℕ) (out : List ℕ) → count ≤ length out → j < count
    → get_or (numbers_fill v b s (record { start = start; count = count }) out).buffer j 0 ≡ value_at b (place_at s (start + j))
unfolding numbers_fill filling
row_at v b s start count j out h l =
    rw (le-leb count (length out) h) (filled_at (row_number b s (record { start = start; count = count })) out count j h l)

has_eight : (c : ℕ) → OneTo 8 c → has_name 0x0A c ≡ true
unfolding has_name extent_of line_of
has_eight c h = rw (le-leb 1 c h.0, le-leb c 8 h.1) refl

-- the number that the name shows of character i of channel c, and the memory of its cell: that of one place
name-number : (b : List ℕ) (s c i : ℕ) (name : List ℕ) → OneTo 8 c → OneTo 16 i → 16 ≤ length name
    → get_or (reply_as b s 0x0A (name_row c) name).buffer (i - 1) 0 ≡ value_at b (place_at s (256 + cell_of c i))
unfolding reply_as first_character line_of
name-number b s c i name hc hi n =
    let at : character_place 0x0A c 1 + (i - 1) ≡ 256 + cell_of c i = omega arith in
    rw (has_eight c hc)
    (row_at _ b s (character_place 0x0A c 1) 16 (i - 1) name n (omega (arith, hi.0, hi.1)) ∙ ap (λ (x : ℕ). value_at b (place_at s x)) at)

memory-number : (b : List ℕ) (s j : ℕ) (memory : List ℕ) → j < 256 → 256 ≤ length memory
    → get_or (reply_as b s 0x0A memory_row memory).buffer j 0 ≡ value_at b (place_at s (256 + j))
unfolding reply_as extent_of line_of
memory-number b s j memory l m = row_at 0 b s 256 256 j memory m l

name_shows_cells : NameShowsCells
name_shows_cells b a c i name memory e hc hi n m =
    let l = listed_as b a 0x0A e in
    let s = slot_asked b a in
    rw (asked_of b a 0x0A (name_row c) name l, asked_of b a 0x0A memory_row memory l)
    (name-number b s c i name hc hi n ∙ sym (memory-number b s (cell_of c i) memory (omega (arith, hc.0, hc.1, hi.0, hi.1)) m))

-- ---- what a part of a name tells
-- from a place that is the same
moved : (start at n : ℕ) (of : ℕ → Saying) (m : Meaning) → start ≡ at → Names start n of m → Names at n of m
moved start at n of m e h = subst (λ (x : ℕ). Names x n of m) e h

at_cell : (channel c i : ℕ) → name_of 0x0A channel ≡ c → character_place 0x0A (name_of 0x0A channel) i ≡ cell_place 0x0A (cell_of c i)
unfolding first_character line_of
at_cell channel c i e = omega (arith, e)

parts_tell_cells : PartsTellCells
unfolding Spoken meant
parts_tell_cells =
    record {
      first = λ x u v w y z channel c e. moved _ _ 6 _ (meaning_of 0x0A (NameOne channel x u v w y z)) (at_cell channel c 1 e) (speaks_of 0x0A (Tells (NameOne channel x u v w y z)));
      second = λ x u v w y z channel c e. moved _ _ 6 _ (meaning_of 0x0A (NameTwo channel x u v w y z)) (at_cell channel c 7 e) (speaks_of 0x0A (Tells (NameTwo channel x u v w y z)));
      third = λ x u v w channel c e. moved _ _ 4 _ (meaning_of 0x0A (NameThree channel x u v w)) (at_cell channel c 13 e) (speaks_of 0x0A (Tells (NameThree channel x u v w)));
    }

no_name_beyond : NoNameBeyond
unfolding first_character line_of
no_name_beyond c i location hc hi h e = omega (arith, hc.0, hc.1, hi.0, hi.1, e)

-- ---- a type whose names begin before its cells
module _ (kind : ℕ) (first : first_character kind ≡ 16) where
  below : (c i location : ℕ) → OneTo (extent_of kind).names c → OneTo 16 i → character_place kind c i < cell_place kind location
  below c i location hc hi = omega (arith, first, (extents_small kind).names_small, hc.0, hc.1, hi.0, hi.1)

  ended : (c i n location : ℕ) → OneTo (extent_of kind).names c → 1 ≤ i → i + n ≤ 17 → character_place kind c i + n ≤ cell_place kind location
  ended c i n location hc one most = omega (arith, first, (extents_small kind).names_small, hc.0, hc.1)

  kept-apart : KeptApart kind
  unfolding Spoken meant meaning_of
  kept-apart =
      record {
        cell_told = λ l v c i hc hi. (speaks_of kind (Tells (CellTold l v))).elsewhere (character_place kind c i) (inl (below c i l.0 hc hi));
        block_told = λ l x u v w c i hc hi. (speaks_of kind (Tells (BlockTold l x u v w))).elsewhere (character_place kind c i) (inl (below c i l.0 hc hi));
        cell_set = λ l v c i hc hi. (speaks_of kind (Tells (CellSet l v))).elsewhere (character_place kind c i) (inl (below c i l.0 hc hi));
        block_set = λ l x u v w c i hc hi. (speaks_of kind (Tells (BlockSet l x u v w))).elsewhere (character_place kind c i) (inl (below c i l.0 hc hi));
        name_one = λ n x u v w y z h location. (speaks_of kind (Tells (NameOne n x u v w y z))).elsewhere (cell_place kind location) (inr (ended (name_of kind n) 1 6 location h (omega arith) (omega arith)));
        name_two = λ n x u v w y z h location. (speaks_of kind (Tells (NameTwo n x u v w y z))).elsewhere (cell_place kind location) (inr (ended (name_of kind n) 7 6 location h (omega arith) (omega arith)));
        name_three = λ n x u v w h location. (speaks_of kind (Tells (NameThree n x u v w))).elsewhere (cell_place kind location) (inr (ended (name_of kind n) 13 4 location h (omega arith) (omega arith)));
      }

pub in_memory : InMemory
unfolding first_character line_of
in_memory =
    record {
      name_shows_cells = name_shows_cells;
      parts_tell_cells = parts_tell_cells;
      no_name_beyond = no_name_beyond;
      one_blind = kept-apart 0x03 refl;
      two_blinds = kept-apart 0x09 refl;
    }
