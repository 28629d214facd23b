-- The run of an accepted frame lies at places that its type has. What the reader's definitions say is taken apart here and nowhere else.
-- Assumes nothing.
use Rattle.std.specs.Prelude.{Ok, Err}
use Prim.Native.Nat.{ℕ, suc, ◌+◌, ◌/◌, ◌<◌, ◌≤◌}
use native.Mathlib.Omega.{arith}
use mathlib.Core.Path.{◌≡◌, refl, sym, subst}
use mathlib.Core.Bool.{Bool, true, false, not, cond, ◌||◌}
use mathlib.Core.List.{List, [], ◌∷◌}
use lib.Dec.{eqb, leb}
use lib.ListN.{length}
use borrow.Author.Tests.{eqb-true, leb-true}
use Rattle.laws.specs.Refusals.{wrong_priority}
use Rattle.laws.specs.Tab.{tab}
use Rattle.laws.specs.Tests.{among, unless}
use Rattle.laws.proofs.Testing.{◌&◌, held, unrefused, or_right}
use Rattle.frame.specs.Identifiers.{priority_of, address_of}
use Rattle.kinds.specs.Types.{low, long_type, Line, types, no_line, line_of, row_for, is_listed, names_in_memory, cells_of, leds_of, blinds_of, channels_of, last_cell, last_start, extent_of, position_in, name_of, blind_of}
use Rattle.frame.specs.Bytes.{byte, data_of, bytes_of}
use Rattle.frame.specs.Messages.{type_command, location_in, readers, decode}
use Rattle.fields.specs.Fields.{location_fault, channel_allowed, is_blind, fault}
use Rattle.judging.specs.Reading.{frame_refusal, own_type, command_refusal, command_read, request_read, reading, Reading}
use Rattle.frame.specs.declared.bytes.Data.{Data}
use Rattle.frame.specs.declared.identifiers.Address.{Address}
use Rattle.kinds.specs.declared.types.Extent.{Extent}
use Rattle.frame.specs.declared.messages.Location.{Location}
use Rattle.frame.specs.declared.messages.Command.{Command}
use Rattle.frame.specs.declared.messages.Command.TheVariants.{TypeLong, TypeShort}
use Rattle.frame.specs.declared.messages.Message.{Message}
use Rattle.frame.specs.declared.messages.Message.TheVariants.{TypeRequest, Tells}
use Rattle.laws.proofs.Codes.{same_pair}
use Rattle.laws.proofs.Keys.{every}
use Rattle.judging.proofs.Judged.{command_held}
use Rattle.kinds.proofs.Listed.{of-line, of-listed}
use Rattle.places.specs.Places.{most_places, places, led_place, first_character, character_place, cell_place}
use Rattle.places.specs.Runs.{Run, no_run, telling, asking, build_told, characters, named_blind, blind_state, some_leds, all_leds, Meaning, refuses, names, enters, meaning_of, meant, read_as}
use Rattle.places.specs.Fitting.{end_of, Lies, in_build, in_leds, in_blinds, in_names, in_cells, LiesAs, RunsLie, FitsAs, RunsFit}
use Rattle.places.proofs.Readers.{AllRead, read_as_lem}

-- ---- what is known of a message that was read
refused-read : {n : ℕ} {a : Address} {m : Message} → ◌≡◌ {A = Reading} (Err n) (Ok (a, m)) → ⊥
refused-read e = let z : ◌≡◌ {A = ℕ} 0 1 = cc in omega arith

request_tells : {x a : Address} {m : Command} → ◌≡◌ {A = Reading} (Ok (x, TypeRequest)) (Ok (a, Tells m)) → ⊥
request_tells e = let same = (same_pair _ _ _ _ e).1 in let z : ◌≡◌ {A = ℕ} 0 1 = cc in omega arith

pub record Accepted (kind : ℕ) (d : Data) (m : Command) : Type 0 where
  pub listed : is_listed (own_type kind d) d.1 ≡ true
  pub sized : d.0 ≡ (row_for (own_type kind d) d.1).0
  pub faultless : fault (own_type kind d) (decode (bytes_of d)) ≡ 0
  pub is_decoded : decode (bytes_of d) ≡ m

command_accepted : (kind p : ℕ) (x a : Address) (d : Data) (m : Command) → command_read kind p x d ≡ Ok (a, Tells m) → Accepted kind d m
unfolding command_read
command_accepted kind p x a d m e =
    let u = unrefused Err (command_refusal kind p d (decode (bytes_of d))) (Ok (x, Tells (decode (bytes_of d)))) (Ok (a, Tells m)) refused-read e in
    let tells : Tells (decode (bytes_of d)) ≡ Tells m = (same_pair _ _ _ _ u.1).1 in
    let same : decode (bytes_of d) ≡ m = cc in
    let h = command_held kind p d (decode (bytes_of d)) u.0 in
    let own = own_type kind d in
    record {
      listed = h.listed;
      sized = eqb-true d.0 (row_for own d.1).0 h.sized;
      faultless = eqb-true (fault own (decode (bytes_of d))) 0 h.allowed;
      is_decoded = same;
    }

pub read_accepted : (kind identifier remote : ℕ) (bytes : List ℕ) (a : Address) (m : Command) → reading kind identifier remote bytes ≡ Ok (a, Tells m) → Accepted kind (data_of bytes) m
unfolding reading request_read
read_accepted kind identifier remote bytes a m e =
    let u = unrefused Err (frame_refusal kind identifier remote (length bytes)) _ (Ok (a, Tells m)) refused-read e in
    go (eqb remote 1) u.1
  where
    go : (c : Bool)
        → cond c (request_read (priority_of identifier) (address_of identifier)) (command_read kind (priority_of identifier) (address_of identifier) (data_of bytes)) ≡ Ok (a, Tells m)
        → Accepted kind (data_of bytes) m
    go true e =
        let u = unrefused Err (unless (eqb (priority_of identifier) low) wrong_priority 0) (Ok (address_of identifier, TypeRequest)) (Ok (a, Tells m)) refused-read e in
        absurd (request_tells u.1)
    go false e = command_accepted kind (priority_of identifier) (address_of identifier) a (data_of bytes) m e

-- ---- the run of each command
-- it lies in one part of what the type has, and is short
record Placed (kind : ℕ) (r : Run) : Type 0 where
  lies : Lies kind r
  few : length r.says ≤ most_places

abbrev PlacedAs : ℕ → Meaning → Type 0
PlacedAs kind (refuses n) = Unit {0}
PlacedAs kind (names r) = Placed kind r
PlacedAs kind (enters k r) = Placed k r

build_placed : (kind : ℕ) (r : Run) → end_of r ≤ 2 → Placed kind r
build_placed kind r h = record { lies = in_build {kind = kind} {r = r} h; few = omega arith }

none-placed : (kind : ℕ) → Placed kind no_run
none-placed kind = build_placed kind no_run (omega arith)

cells-placed : (kind last n : ℕ) (l : Location) (r : Run) → r.start ≡ cell_place kind l.0 → length r.says ≤ n → n ≤ most_places → location_fault last l ≡ 0
    → last + n ≤ cells_of kind → Placed kind r
unfolding extent_of
cells-placed kind last n l r s c m f e =
    let g = held (leb (l.0 / 256) (last / 256)) _ _ (omega arith) f in
    let h = held (leb l.0 last) _ _ (omega arith) g.1 in
    let b = leb-true l.0 last h.0 in
    record { lies = in_cells {kind = kind} {r = r} (omega arith) (omega arith); few = omega arith }

position_lt : (ks : List ℕ) (x : ℕ) → among x ks ≡ true → position_in ks x < length ks
unfolding position_in
position_lt [] x e = absurd (let z : ◌≡◌ {A = ℕ} 0 1 = cc in omega arith)
position_lt (k ∷ ks) x e = go (eqb x k) e (position_lt ks x)
  where
    go : (c : Bool) → cond c true (among x ks) ≡ true → (among x ks ≡ true → position_in ks x < length ks) → cond c 0 (suc (position_in ks x)) < suc (length ks)
    go true e ih = omega arith
    go false e ih = let h = ih e in omega arith

-- from character i of the name of an allowed channel
names_placed : (kind channel i n later : ℕ) (r : Run) → r.start ≡ character_place kind (name_of kind channel) i → length r.says ≤ n → n ≤ most_places → 1 ≤ i
    → i + n ≤ 17 → unless (channel_allowed kind channel) 2 later ≡ 0 → Placed kind r
unfolding name_of extent_of
names_placed kind channel i n later r s c m l u e =
    let h = position_lt (channels_of kind) channel (held (channel_allowed kind channel) 2 later (omega arith) e).0 in
    record { lies = in_names {kind = kind} {r = r} (omega arith) (omega arith); few = omega arith }

leds-placed : (kind : ℕ) (r : Run) → leds_of kind ≡ 8 → r.start ≡ led_place 1 → length r.says ≡ 8 → Placed kind r
unfolding extent_of
leds-placed kind r e s c = record { lies = in_leds {kind = kind} {r = r} (omega arith) (omega arith); few = omega arith }

-- the blind that is named
blind-placed : (kind channel later : ℕ) (r : Run) → r.start ≡ named_blind kind channel → length r.says ≡ 1 → unless (is_blind kind channel) 2 later ≡ 0 → Placed kind r
unfolding blind_of extent_of
blind-placed kind channel later r s c e =
    let b = position_lt (blinds_of kind) channel (held (is_blind kind channel) 2 later (omega arith) e).0 in
    record { lies = in_blinds {kind = kind} {r = r} (omega arith) (omega arith); few = omega arith }

-- the commands that name LEDs; a type that has one of them has eight LEDs, and every type has four cells
abbrev led_commands : List ℕ
led_commands = 0xEB ∷ 0xF4 ∷ 0xF5 ∷ 0xF6 ∷ 0xF7 ∷ 0xF8 ∷ 0xF9 ∷ []

abbrev HasLeds : ℕ → ℕ → Type 0
HasLeds kind c = among c led_commands ≡ true → leds_of kind ≡ 8

listed-leds : (kind c : ℕ) → is_listed kind c ≡ true → HasLeds kind c
unfolding line_of
listed-leds kind c h e =
    eqb-true (leds_of kind) 8
    (or_right (not (among c led_commands)) (eqb (leds_of kind) 8) (of-listed (λ k c r. not (among c led_commands) || eqb (leds_of k) 8) refl kind c h) (rw e))

listed-cells : (kind c : ℕ) → is_listed kind c ≡ true → 4 ≤ cells_of kind
unfolding line_of
listed-cells kind c h = leb-true 4 (cells_of kind) (of-listed (λ k c r. leb 4 (cells_of k)) refl kind c h)

-- a command that reads without fault names places of its type
abbrev Right : ℕ → Command → Type 0
Right kind m = fault kind m ≡ 0 → PlacedAs kind (meaning_of kind m)

type_placed : (kind : ℕ) (long : Bool) (k a b c d e : ℕ) → PlacedAs kind (meaning_of kind (cond long (TypeLong k a b c d e) (TypeShort k a b c)))
unfolding meaning_of
type_placed kind true k a b c d e = build_placed k (build_told d e) (omega arith)
type_placed kind false k a b c d e = build_placed k (build_told b c) (omega arith)

-- a line for each reader, in their order
readers-right : (kind : ℕ) (d : List ℕ) → 4 ≤ cells_of kind → AllRead (HasLeds kind) (Right kind) d readers
unfolding meaning_of tab
readers-right kind d z =
    (λ l q. none-placed kind)
    & (λ l q. cells-placed kind (last_cell kind) 1 (location_in d) (telling _ (byte 4 d ∷ [])) refl (omega arith) (omega arith) q (omega arith))
    & (λ l q. cells-placed kind (last_start kind) 4 (location_in d) (telling _ (byte 4 d ∷ byte 5 d ∷ byte 6 d ∷ byte 7 d ∷ [])) refl (omega arith) (omega arith) q (omega arith))
    & (λ l q. none-placed kind)
    & (λ l q. names_placed kind (byte 2 d) 1 6 _ (characters kind (byte 2 d) 1 (byte 3 d ∷ byte 4 d ∷ byte 5 d ∷ byte 6 d ∷ byte 7 d ∷ byte 8 d ∷ [])) refl (omega arith) (omega arith) (omega arith) (omega arith) q)
    & (λ l q. names_placed kind (byte 2 d) 7 6 _ (characters kind (byte 2 d) 7 (byte 3 d ∷ byte 4 d ∷ byte 5 d ∷ byte 6 d ∷ byte 7 d ∷ byte 8 d ∷ [])) refl (omega arith) (omega arith) (omega arith) (omega arith) q)
    & (λ l q. names_placed kind (byte 2 d) 13 4 _ (characters kind (byte 2 d) 13 (byte 3 d ∷ byte 4 d ∷ byte 5 d ∷ byte 6 d ∷ [])) refl (omega arith) (omega arith) (omega arith) (omega arith) q)
    & (λ l q. none-placed kind)
    & (λ l q. none-placed kind)
    & (λ l q. none-placed kind)
    & (λ l q. none-placed kind)
    & (λ l q. none-placed kind)
    & (λ l q. cells-placed kind (last_cell kind) 1 (location_in d) (asking _ 1) refl (omega arith) (omega arith) q (omega arith))
    & (λ l q. cells-placed kind (last_start kind) 4 (location_in d) (asking _ 4) refl (omega arith) (omega arith) q (omega arith))
    & (λ l q. none-placed kind)
    & (λ l q. leds-placed kind (all_leds (byte 3 d) (byte 4 d) (byte 5 d)) (l refl) refl refl)
    & (λ l q. leds-placed kind (all_leds (byte 2 d) (byte 3 d) (byte 4 d)) (l refl) refl refl)
    & (λ l q. leds-placed kind (some_leds (byte 2 d) 0) (l refl) refl refl)
    & (λ l q. leds-placed kind (some_leds (byte 2 d) 1) (l refl) refl refl)
    & (λ l q. leds-placed kind (some_leds (byte 2 d) 2) (l refl) refl refl)
    & (λ l q. leds-placed kind (some_leds (byte 2 d) 3) (l refl) refl refl)
    & (λ l q. leds-placed kind (some_leds (byte 2 d) 4) (l refl) refl refl)
    & (λ l q. blind-placed kind (byte 2 d) _ (telling (named_blind kind (byte 2 d)) (blind_state kind (byte 2 d) (byte 4 d) ∷ [])) refl refl q)
    & (λ l q. blind-placed kind (byte 2 d) _ (asking (named_blind kind (byte 2 d)) 1) refl refl q)
    & (λ l q. blind-placed kind (byte 2 d) _ (asking (named_blind kind (byte 2 d)) 1) refl refl q)
    & (λ l q. blind-placed kind (byte 2 d) _ (asking (named_blind kind (byte 2 d)) 1) refl refl q)
    & (λ l q. type_placed kind (eqb (row_for (byte 2 d) type_command).0 long_type) (byte 2 d) (byte 3 d) (byte 4 d) (byte 5 d) (byte 6 d) (byte 7 d))
    & tt

-- what a command means goes by the type handed in only where it is no type frame
accepted_placed : (kind : ℕ) (d : Data) (m : Command) → Accepted kind d m → PlacedAs kind (meaning_of kind m)
unfolding meaning_of
accepted_placed kind d m acc = subst (λ (x : Command). PlacedAs kind (meaning_of kind x)) acc.is_decoded (go (eqb d.1 type_command) refl)
  where
    go : (c : Bool) → eqb d.1 type_command ≡ c → PlacedAs kind (meaning_of kind (decode (bytes_of d)))
    go true t =
        subst (λ (x : ℕ). PlacedAs kind (meaning_of kind (decode (x ∷ d.2 ∷ d.3 ∷ d.4 ∷ d.5 ∷ d.6 ∷ d.7 ∷ d.8 ∷ [])))) (sym (eqb-true d.1 type_command t))
        (type_placed kind (eqb (row_for d.2 type_command).0 long_type) d.2 d.3 d.4 d.5 d.6 d.7)
    go false t =
        let own : own_type kind d ≡ kind = rw t in
        let n : is_listed kind d.1 ≡ true = rw own at acc.listed in
        let f : fault kind (decode (bytes_of d)) ≡ 0 = rw own at acc.faultless in
        read_as_lem (HasLeds kind) (Right kind) (bytes_of d) (readers-right kind (bytes_of d) (listed-cells kind d.1 n)) (λ q. none-placed kind) (listed-leds kind d.1 n) f

read-placed : (kind identifier remote : ℕ) (bytes : List ℕ) → PlacedAs kind (read_as kind (reading kind identifier remote bytes))
unfolding read_as meant
read-placed kind identifier remote bytes = go (reading kind identifier remote bytes) refl
  where
    go : (rd : Reading) → reading kind identifier remote bytes ≡ rd → PlacedAs kind (read_as kind rd)
    go (Err n) e = tt
    go (Ok (a, TypeRequest)) e = none-placed kind
    go (Ok (a, Tells m)) e = accepted_placed kind (data_of bytes) m (read_accepted kind identifier remote bytes a m e)

pub runs_lie : RunsLie
runs_lie kind identifier remote bytes = go (read_as kind (reading kind identifier remote bytes)) (read-placed kind identifier remote bytes)
  where
    go : (m : Meaning) → PlacedAs kind m → LiesAs kind m
    go (refuses n) p = tt
    go (names r) p = p.lies
    go (enters k r) p = p.lies

-- ---- so it is inside the record
pub record Small (x : Extent) : Type 0 where
  pub cells_small : x.cells ≤ 256
  pub names_small : x.names ≤ 8
  pub leds_small : x.leds ≤ 8
  pub blinds_small : x.blinds ≤ 6

-- a test of every line, that a number of it is at most so much
at_most : (f : Line → ℕ) (most : ℕ) → every (λ (l : Line). leb (f l) most) types ≡ true → leb (f no_line) most ≡ true → (kind : ℕ) → f (line_of kind) ≤ most
at_most f most h z kind = leb-true (f (line_of kind)) most (of-line (λ l. leb (f l) most) h z kind)

pub extents_small : (kind : ℕ) → Small (extent_of kind)
unfolding extent_of
extents_small kind =
    record {
      cells_small = at_most (λ l. l.cells) 256 refl refl kind;
      names_small = at_most (λ l. length l.channels) 8 refl refl kind;
      leds_small = at_most (λ l. l.leds) 8 refl refl kind;
      blinds_small = at_most (λ l. length l.blinds) 6 refl refl kind;
    }

-- the names begin at the cells, or before them
pub first_small : (kind : ℕ) → first_character kind ≤ 256
unfolding first_character
first_small kind = go (names_in_memory kind) _ _ (omega arith) (omega arith)
  where
    go : (memory : Bool) (m n : ℕ) → m ≤ 256 → n ≤ 256 → cond memory m n ≤ 256
    go true m n h k = h
    go false m n h k = k

lies_inside : {kind : ℕ} {r : Run} → Lies kind r → end_of r ≤ places
lies_inside (in_build h) = omega arith
lies_inside {kind} (in_leds h l) = omega (arith, (extents_small kind).leds_small)
lies_inside {kind} (in_blinds h l) = omega (arith, (extents_small kind).blinds_small)
lies_inside {kind} (in_names h l) = omega (arith, (extents_small kind).names_small, first_small kind)
lies_inside {kind} (in_cells h l) = omega (arith, (extents_small kind).cells_small)

pub runs_fit : RunsFit
runs_fit kind identifier remote bytes = go (read_as kind (reading kind identifier remote bytes)) (read-placed kind identifier remote bytes)
  where
    go : (m : Meaning) → PlacedAs kind m → FitsAs m
    go (refuses n) p = tt
    go (names r) p = (lies_inside p.lies, p.few)
    go (enters k r) p = (lies_inside p.lies, p.few)
