-- The bytes of each command and the command of each bytes, one after the other, each way: a line for each constructor, and a line for
-- each command.
-- Assumes nothing.
use Prim.Native.Nat.{ℕ, ◌+◌, ◌*◌, ◌/◌, ◌%◌, ◌<◌, ◌≤◌}
use native.Mathlib.Omega.{arith}
use mathlib.Core.Path.{◌≡◌, refl, sym, ap, ◌∙◌}
use mathlib.Core.List.{List, [], ◌∷◌}
use mathlib.Core.Bool.{Bool, true, false, not, ◌||◌, cond}
use lib.ListN.{length, take, replicate}
use lib.Dec.{eqb, leb, lit<}
use borrow.Author.Tests.{eqb-true, leb-true, ne_eqb}
use Rattle.laws.proofs.Testing.{◌&◌, AllOf, not_both, and_both, or_right, among-each, held}
use Rattle.frame.specs.Bytes.{byte, data_of, bytes_of, data_bytes}
use Rattle.kinds.specs.Types.{long_type, short_type, row_for, is_listed, last_cell, last_start}
use Rattle.frame.specs.Messages.{location_of, time_of, permanent, type_command, decode}
use Rattle.codec.specs.Encoding.{high_of, low_of, seconds_of, timed_bytes, encode}
use Rattle.fields.specs.Fields.{is_blind, location_fault, cell_fault, block_fault, time_allowed, timed_fault, fault}
use Rattle.judging.specs.Reading.{own_type}
use Rattle.codec.specs.Writing.{type_fits}
use Rattle.frame.specs.declared.bytes.Data.{Data}
use Rattle.frame.specs.declared.messages.Location.{Location}
use Rattle.frame.specs.declared.messages.Time.{Time}
use Rattle.frame.specs.declared.messages.Time.TheVariants.{DipSwitch, Permanently, Seconds}
use Rattle.frame.specs.declared.messages.Glow.TheVariants.{Off, On, Slow, Fast, VeryFast}
use Rattle.frame.specs.declared.messages.Command.{Command}
use Rattle.frame.specs.declared.messages.Command.TheVariants.{TypeLong, TypeShort, Buttons, CellTold, BlockTold, CellAsked, BlockAsked, DumpAsked, CellSet, BlockSet, Errors, ErrorsAsked, NameOne, NameTwo, NameThree, NameAsked, StatusAsked, InputStatus, LedsAll, Leds, BlindStatus, BlindStop, BlindUp, BlindDown}
use Rattle.kinds.proofs.Listed.{of-listed, cells_few}
use Rattle.frame.proofs.Commands.{type_shaped, read_commands, listed-read}
use Rattle.judging.proofs.Numbers.{behind}

-- A location and a time, there and back.

near : (last : ℕ) → last < 65536 → (l : Location) → location_fault last l ≡ 0 → l.0 < 65536
near last few l e =
    let h = (held (leb l.0 last) 3 0 (lit< tt) (held (leb (l.0 / 256) (last / 256)) 2 _ (lit< tt) e).1).0 in
    let b = leb-true l.0 last h in
    omega arith

pub cell_near : (kind : ℕ) (l : Location) → cell_fault kind l ≡ 0 → l.0 < 65536
cell_near kind = near (last_cell kind) (omega (arith, cells_few kind))

pub block_near : (kind : ℕ) (l : Location) → block_fault kind l ≡ 0 → l.0 < 65536
block_near kind = near (last_start kind) (omega (arith, cells_few kind))

location_back : (l : Location) → l.0 < 65536 → location_of (high_of l) (low_of l) ≡ l
location_back l h =
    let q : 256 * (l.0 / 256 % 256) + l.0 % 256 ≡ l.0 = omega arith in
    λ i. record { 0 = q i }

located : (a b : ℕ) → a < 256 → b < 256 → (f : ℕ → ℕ → List ℕ) → f (high_of (location_of a b)) (low_of (location_of a b)) ≡ f a b
located a b ha hb f =
    let p : (256 * a + b) / 256 % 256 ≡ a = omega arith in
    let q : (256 * a + b) % 256 ≡ b = omega arith in
    λ i. f (p i) (q i)

abbrev bytes24 : ℕ → ℕ
bytes24 n = 65536 * (n / 65536 % 256) + 256 * (n / 256 % 256) + n % 256

bytes24_small : (n : ℕ) → n < 16777216 → bytes24 n ≡ n
bytes24_small n h = omega arith

time_back : (t : Time) → time_allowed t ≡ true → time_of (bytes24 (seconds_of t)) ≡ t
time_back DipSwitch e = refl
time_back Permanently e = refl
time_back (Seconds n) e =
    let h = and_both (leb 1 n) (leb n 16777214) e in
    let l = leb-true 1 n h.0 in
    let u = leb-true n 16777214 h.1 in
    rw (bytes24_small n (omega arith), ne_eqb n 0 (λ (q : n ≡ 0). omega arith), ne_eqb n permanent (λ (q : n ≡ 16777215). omega arith))

timed_back : (kind n : ℕ) (t : Time) → timed_fault kind n t ≡ 0 → time_of (bytes24 (seconds_of t)) ≡ t
timed_back kind n t e = time_back t (held (time_allowed t) 3 0 (lit< tt) (held (is_blind kind n) 2 _ (lit< tt) e).1).0

number_back : (k : ℕ) → seconds_of (time_of k) ≡ k
number_back k = go (eqb k 0) (eqb k permanent) (eqb-true k 0) (eqb-true k permanent)
  where
    go : (a b : Bool) → (a ≡ true → k ≡ 0) → (b ≡ true → k ≡ permanent) → seconds_of (cond a DipSwitch (cond b Permanently (Seconds k))) ≡ k
    go true b f g = sym (f refl)
    go false true f g = sym (g refl)
    go false false f g = refl

timed_forth : (c n x y z : ℕ) → x < 256 → y < 256 → z < 256 → timed_bytes c n (time_of (65536 * x + 256 * y + z)) ≡ c ∷ n ∷ x ∷ y ∷ z ∷ []
timed_forth c n x y z hx hy hz =
    let p : (65536 * x + 256 * y + z) / 65536 % 256 ≡ x = omega arith in
    let q : (65536 * x + 256 * y + z) / 256 % 256 ≡ y = omega arith in
    let r : (65536 * x + 256 * y + z) % 256 ≡ z = omega arith in
    rw (number_back (65536 * x + 256 * y + z)) (λ i. c ∷ n ∷ p i ∷ q i ∷ r i ∷ [])

-- Eight bytes and their count give the bytes back.

pub data_again : (s : List ℕ) → length s ≤ 8 → data_bytes (data_of s) ≡ s
data_again [] h = refl
data_again (a ∷ []) h = refl
data_again (a ∷ b ∷ []) h = refl
data_again (a ∷ b ∷ c ∷ []) h = refl
data_again (a ∷ b ∷ c ∷ d ∷ []) h = refl
data_again (a ∷ b ∷ c ∷ d ∷ e ∷ []) h = refl
data_again (a ∷ b ∷ c ∷ d ∷ e ∷ f ∷ []) h = refl
data_again (a ∷ b ∷ c ∷ d ∷ e ∷ f ∷ g ∷ []) h = refl
data_again (a ∷ b ∷ c ∷ d ∷ e ∷ f ∷ g ∷ i ∷ []) h = refl
data_again (a ∷ b ∷ c ∷ d ∷ e ∷ f ∷ g ∷ i ∷ j ∷ s) h = absurd (omega arith)

-- Every command whose fields are allowed reads back as itself.

abbrev pub padded : List ℕ → List ℕ
padded s = bytes_of (data_of s)

pub back : (kind : ℕ) (m : Command) → fault kind m ≡ 0 → type_fits (data_of (encode m)) ≡ true → decode (padded (encode m)) ≡ m
back kind (TypeLong k a b c year week) h f = rw (← eqb-true long_type (row_for k type_command).0 f)
back kind (TypeShort k a year week) h f = rw (← eqb-true short_type (row_for k type_command).0 f)
back kind (Buttons a b c) h f = refl
back kind (CellTold l v) h f = ap (λ (x : Location). CellTold x v) (location_back l (cell_near kind l h))
back kind (BlockTold l a b c d) h f = ap (λ (x : Location). BlockTold x a b c d) (location_back l (block_near kind l h))
back kind (CellAsked l) h f = ap CellAsked (location_back l (cell_near kind l h))
back kind (BlockAsked l) h f = ap BlockAsked (location_back l (block_near kind l h))
back kind DumpAsked h f = refl
back kind (CellSet l v) h f = ap (λ (x : Location). CellSet x v) (location_back l (cell_near kind l h))
back kind (BlockSet l a b c d) h f = ap (λ (x : Location). BlockSet x a b c d) (location_back l (block_near kind l h))
back kind (Errors a b c) h f = refl
back kind ErrorsAsked h f = refl
back kind (NameOne n a b c d e g) h f = refl
back kind (NameTwo n a b c d e g) h f = refl
back kind (NameThree n a b c d) h f = refl
back kind (NameAsked n) h f = refl
back kind (StatusAsked n) h f = refl
back kind (InputStatus a b c d) h f = refl
back kind (LedsAll a b c) h f = refl
back kind (Leds Off x) h f = refl
back kind (Leds On x) h f = refl
back kind (Leds Slow x) h f = refl
back kind (Leds Fast x) h f = refl
back kind (Leds VeryFast x) h f = refl
back kind (BlindStatus n a b c d e g) h f = refl
back kind (BlindStop n) h f = refl
back kind (BlindUp n t) h f = ap (BlindUp n) (timed_back kind n t h)
back kind (BlindDown n t) h f = ap (BlindDown n) (timed_back kind n t h)

-- Every command's bytes are written again as they were read.

-- the bytes that a location or a time is made of
abbrev pub Small : Data → Type 0
Small d = (d.2 < 256) × (d.3 < 256) × (d.4 < 256) × (d.5 < 256)

-- how many bytes a command is written with; the type frame goes by the type in it
abbrev pub size : ℕ → ℕ
size c = length (encode (decode (c ∷ replicate 7 0)))

abbrev Forth : ℕ → Type 0
Forth c = eqb c type_command ≡ false → (d : Data) → Small d → encode (decode (behind c d)) ≡ take (size c) (behind c d)

forth_read : AllOf Forth read_commands
forth_read =
    (λ h d s. refl)
    & (λ h d s. located d.2 d.3 s.0 s.1 (λ x y. 0xFE ∷ x ∷ y ∷ d.4 ∷ []))
    & (λ h d s. located d.2 d.3 s.0 s.1 (λ x y. 0xCC ∷ x ∷ y ∷ d.4 ∷ d.5 ∷ d.6 ∷ d.7 ∷ []))
    & (λ h d s. refl) & (λ h d s. refl) & (λ h d s. refl) & (λ h d s. refl) & (λ h d s. refl) & (λ h d s. refl)
    & (λ h d s. located d.2 d.3 s.0 s.1 (λ x y. 0xFD ∷ x ∷ y ∷ []))
    & (λ h d s. located d.2 d.3 s.0 s.1 (λ x y. 0xC9 ∷ x ∷ y ∷ []))
    & (λ h d s. refl)
    & (λ h d s. located d.2 d.3 s.0 s.1 (λ x y. 0xFC ∷ x ∷ y ∷ d.4 ∷ []))
    & (λ h d s. located d.2 d.3 s.0 s.1 (λ x y. 0xCA ∷ x ∷ y ∷ d.4 ∷ d.5 ∷ d.6 ∷ d.7 ∷ []))
    & (λ h d s. refl) & (λ h d s. refl) & (λ h d s. refl) & (λ h d s. refl) & (λ h d s. refl) & (λ h d s. refl)
    & (λ h d s. refl) & (λ h d s. refl) & (λ h d s. refl) & (λ h d s. refl)
    & (λ h d s. timed_forth 0x05 d.2 d.3 d.4 d.5 s.1 s.2 s.3)
    & (λ h d s. timed_forth 0x06 d.2 d.3 d.4 d.5 s.1 s.2 s.3)
    & (λ h d s. not_both (sym h))
    & tt

-- a row's length is its command's, but for the type frame, which has two shapes
pub row_sized : (kind c : ℕ) → is_listed kind c ≡ true → eqb c type_command ≡ false → (row_for kind c).0 ≡ size c
row_sized kind c h q =
    eqb-true (row_for kind c).0 (size c)
    (or_right (eqb c type_command) (eqb (row_for kind c).0 (size c)) (of-listed (λ kind c r. eqb c type_command || eqb r.0 (size c)) refl kind c h) q)

type_forth : (n : ℕ) (d : Data) → (eqb n long_type || eqb n short_type) ≡ true → encode (cond (eqb n long_type) (TypeLong d.2 d.3 d.4 d.5 d.6 d.7) (TypeShort d.2 d.3 d.4 d.5)) ≡ take n (behind type_command d)
type_forth n d = go (eqb n long_type) (eqb n short_type) (eqb-true n long_type) (eqb-true n short_type)
  where
    go :
        (a b : Bool) →
        (a ≡ true → n ≡ long_type) →
        (b ≡ true → n ≡ short_type) →
        a || b ≡ true →
        encode (cond a (TypeLong d.2 d.3 d.4 d.5 d.6 d.7) (TypeShort d.2 d.3 d.4 d.5)) ≡ take n (behind type_command d)
    go true b p q e = rw (p refl)
    go false true p q e = rw (q refl)
    go false false p q e = not_both e

pub forth :
    (kind c : ℕ) (d : Data) →
    is_listed kind c ≡ true →
    (c ≡ type_command → d.2 ≡ kind) →
    Small d →
    encode (decode (behind c d)) ≡ take (row_for kind c).0 (behind c d)
forth kind c d h inside small = go (eqb c type_command) refl
  where
    go : (b : Bool) → eqb c type_command ≡ b → encode (decode (behind c d)) ≡ take (row_for kind c).0 (behind c d)
    go true e =
        let q : c ≡ type_command = eqb-true c type_command e in
        rw (← inside q, q) (type_forth (row_for d.2 type_command).0 d (type_shaped d.2 (rw (inside q, ← q) h)))
    go false e = rw (row_sized kind c h e) (among-each Forth c read_commands forth_read (listed-read kind c h) e d small)

-- The length that a command is written with is its row's.

shape : (m : Command) → eqb (byte 1 (encode m)) type_command ≡ false → length (encode m) ≡ size (byte 1 (encode m))
shape (TypeLong k a b c year week) h = not_both (sym h)
shape (TypeShort k a year week) h = not_both (sym h)
shape (Buttons a b c) h = refl
shape (CellTold l v) h = refl
shape (BlockTold l a b c d) h = refl
shape (CellAsked l) h = refl
shape (BlockAsked l) h = refl
shape DumpAsked h = refl
shape (CellSet l v) h = refl
shape (BlockSet l a b c d) h = refl
shape (Errors a b c) h = refl
shape ErrorsAsked h = refl
shape (NameOne n a b c d e f) h = refl
shape (NameTwo n a b c d e f) h = refl
shape (NameThree n a b c d) h = refl
shape (NameAsked n) h = refl
shape (StatusAsked n) h = refl
shape (InputStatus a b c d) h = refl
shape (LedsAll a b c) h = refl
shape (Leds Off x) h = refl
shape (Leds On x) h = refl
shape (Leds Slow x) h = refl
shape (Leds Fast x) h = refl
shape (Leds VeryFast x) h = refl
shape (BlindStatus n a b c d e f) h = refl
shape (BlindStop n) h = refl
shape (BlindUp n t) h = refl
shape (BlindDown n t) h = refl

pub row-length :
    (kind : ℕ) (m : Command) →
    type_fits (data_of (encode m)) ≡ true →
    is_listed (own_type kind (data_of (encode m))) (byte 1 (encode m)) ≡ true →
    length (encode m) ≡ (row_for (own_type kind (data_of (encode m))) (byte 1 (encode m))).0
row-length kind m fits listed = go (eqb c type_command) refl fits listed
  where
    c : ℕ
    c = byte 1 (encode m)

    go :
        (b : Bool) →
        eqb c type_command ≡ b →
        (not b || eqb (length (encode m)) (row_for (byte 2 (encode m)) type_command).0) ≡ true →
        is_listed (cond b (byte 2 (encode m)) kind) c ≡ true →
        length (encode m) ≡ (row_for (cond b (byte 2 (encode m)) kind) c).0
    go true e f l = rw (eqb-true c type_command e) (eqb-true _ _ f)
    go false e f l = shape m e ∙ sym (row_sized kind c l e)
