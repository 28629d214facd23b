-- What a message is that the bench takes: one that a module receives, with allowed fields. Assumes nothing.
use Rattle.std.specs.Prelude.{Ok, Err, Some, None}
use Prim.Native.Nat.{ℕ}
use native.Mathlib.Omega.{arith}
use mathlib.Core.Path.{◌≡◌, refl, sym, ap, ◌∙◌}
use mathlib.Core.Bool.{Bool, true, false, ◌&&◌, cond}
use mathlib.Core.List.{List}
use lib.Dec.{eqb}
use borrow.Author.Tests.{eqb-true, eq-eqb}
use Rattle.laws.specs.Limits.{AllBytes}
use Rattle.laws.specs.Tests.{among}
use Rattle.laws.specs.Refusals.{not_listed}
use Rattle.laws.proofs.Testing.{unrefused}
use Rattle.kinds.specs.Types.{vmb8ir, rows_of}
use Rattle.frame.specs.Bytes.{byte, data_of, data_bytes}
use Rattle.fields.specs.Fields.{fault}
use Rattle.frame.specs.declared.identifiers.Address.{Address}
use Rattle.frame.specs.declared.messages.Command.{Command}
use Rattle.frame.specs.declared.messages.Command.TheVariants.{TypeLong, TypeShort, Buttons, CellTold, BlockTold, CellAsked, BlockAsked, DumpAsked, CellSet, BlockSet, Errors, ErrorsAsked, NameOne, NameTwo, NameThree, NameAsked, StatusAsked, InputStatus, LedsAll, Leds, BlindStatus, BlindStop, BlindUp, BlindDown}
use Rattle.frame.specs.declared.messages.Message.{Message}
use Rattle.frame.specs.declared.messages.Message.TheVariants.{TypeRequest, Tells}
use Rattle.judging.specs.Reading.{reading, own_type, Reading}
use Rattle.codec.specs.Encoding.{encode}
use Rattle.codec.specs.Writing.{Writing, handed_refusal, write_refusal, command_frame, written_as, command_written, writing}
use Rattle.codec.specs.declared.writer.Frame.{Frame}
use Rattle.codec.proofs.Lawful.{Lawful}
use Rattle.codec.proofs.RoundTrip.{read_then_written, written_lawful}
use Rattle.shape.specs.Limits.{bus_address}
use Rattle.verdicts.specs.Verdicts.{Verdict, first_refusals, sent_only, judged_if, judged}
use Rattle.lessons.proofs.Doing.{received, no}

abbrev pub Good : Message → Type 0
Good TypeRequest = Unit {0}
Good (Tells m) = (received m ≡ true) × (fault vmb8ir m ≡ 0)

yes : {A : Type 0} → true ≡ false → A
yes e = no (sym e)

-- the frame that the writer made of a command has the command's bytes
refused_not_written : (n : ℕ) (f : Frame) → ◌≡◌ {A = Writing} (Err n) (Ok f) → ⊥
refused_not_written n f e = let z : ◌≡◌ {A = ℕ} 0 1 = cc in omega arith

written_bytes_lem : (a : Address) (m : Command) (f : Frame) → writing vmb8ir a (Tells m) ≡ Ok f → (f.remote ≡ 0) × (f.bytes ≡ data_of (encode m))
unfolding writing command_written written_as
written_bytes_lem a m f h =
    let u =
    unrefused Err (handed_refusal vmb8ir (write_refusal (own_type vmb8ir (data_of (encode m))) (data_of (encode m)) m))
    (Ok (command_frame (own_type vmb8ir (data_of (encode m))) a (data_of (encode m)))) (Ok f) (refused_not_written _ f) h in
    let e : command_frame (own_type vmb8ir (data_of (encode m))) a (data_of (encode m)) ≡ f = same (command_frame (own_type vmb8ir (data_of (encode m))) a (data_of (encode m))) u.1 in
    (ap (λ (g : Frame). g.remote) (sym e), ap (λ (g : Frame). g.bytes) (sym e))
  where
    same : (g : Frame) → ◌≡◌ {A = Writing} (Ok g) (Ok f) → g ≡ f
    same g e = cc

-- a command in the type's list whose first byte is not one that only a module sends
command_good : (m : Command) → among (byte 1 (data_bytes (data_of (encode m)))) sent_only ≡ false → Lawful (own_type vmb8ir (data_of (encode m))) (data_of (encode m)) m → Good (Tells m)
unfolding rows_of
command_good (CellAsked l) n h = (refl, eqb-true (fault vmb8ir (CellAsked l)) 0 h.allowed)
command_good (BlockAsked l) n h = (refl, eqb-true (fault vmb8ir (BlockAsked l)) 0 h.allowed)
command_good DumpAsked n h = (refl, refl)
command_good (CellSet l v) n h = (refl, eqb-true (fault vmb8ir (CellSet l v)) 0 h.allowed)
command_good (BlockSet l x y z v) n h = (refl, eqb-true (fault vmb8ir (BlockSet l x y z v)) 0 h.allowed)
command_good ErrorsAsked n h = (refl, refl)
command_good (NameAsked x) n h = (refl, eqb-true (fault vmb8ir (NameAsked x)) 0 h.allowed)
command_good (StatusAsked x) n h = (refl, eqb-true (fault vmb8ir (StatusAsked x)) 0 h.allowed)
command_good (LedsAll x y z) n h = (refl, refl)
command_good (Leds g x) n h = (refl, refl)
command_good (TypeLong k x y z d e) n h = yes n
command_good (TypeShort k x y z) n h = yes n
command_good (Buttons x y z) n h = yes n
command_good (CellTold l v) n h = yes n
command_good (BlockTold l x y z v) n h = yes n
command_good (Errors x y z) n h = yes n
command_good (NameOne c x y z d e f) n h = yes n
command_good (NameTwo c x y z d e f) n h = yes n
command_good (NameThree c x y z d) n h = yes n
command_good (InputStatus x y z d) n h = yes n
command_good (BlindStatus c x y z d e f) n h = no h.listed
command_good (BlindStop c) n h = no h.listed
command_good (BlindUp c t) n h = no h.listed
command_good (BlindDown c t) n h = no h.listed

reading_good : (i remote : ℕ) (s : List ℕ) (a : Address) (m : Message) → AllBytes s → eqb remote 0 && among (byte 1 s) sent_only ≡ false → reading vmb8ir i remote s ≡ Ok (a, m) → Good m
reading_good i remote s a TypeRequest bs n h = tt
reading_good i remote s a (Tells m) bs n h =
    let g = read_then_written vmb8ir i remote s a (Tells m) bs h in
    let b = written_bytes_lem a m g.frame g.given in
    let r : remote ≡ 0 = sym g.same_remote ∙ b.0 in
    let t : data_bytes (data_of (encode m)) ≡ s = ap data_bytes (sym b.1) ∙ g.same_data in
    let k : among (byte 1 s) sent_only ≡ false = rw (eq-eqb remote 0 r) at n in
    command_good m (ap (λ (x : List ℕ). among (byte 1 x) sent_only) t ∙ k) (written_lawful vmb8ir a m g.frame g.given)

-- The bench's judgement, looked at from its result.

pub record Took (own i remote : ℕ) (s : List ℕ) (m : Message) : Type 0 where
  pub here : eqb (bus_address i) own ≡ true
  pub address : Address
  pub reads : reading vmb8ir i remote s ≡ Ok (address, m)
  pub good : Good m

by_took : (r : Reading) (own i remote : ℕ) (s : List ℕ) (m : Message) → AllBytes s → reading vmb8ir i remote s ≡ r → judged_if r (eqb (bus_address i) own) (eqb remote 0 && among (byte 1 s) sent_only) ≡ Ok (Some m)
    → Took own i remote s m
unfolding judged_if
by_took (Err n) own i remote s m bs e h = absurd (go (among n first_refusals) (eqb (bus_address i) own) (eqb remote 0 && among (byte 1 s) sent_only) h)
  where
    go : (x y z : Bool) → ◌≡◌ {A = Verdict} (cond x (Err n) (cond y (cond z (Err not_listed) (Err n)) (Ok None))) (Ok (Some m)) → ⊥
    go true y z h = let z : ◌≡◌ {A = ℕ} 0 1 = cc in omega arith
    go false true true h = let z : ◌≡◌ {A = ℕ} 0 1 = cc in omega arith
    go false true false h = let z : ◌≡◌ {A = ℕ} 0 1 = cc in omega arith
    go false false z h = let z : ◌≡◌ {A = ℕ} 0 1 = cc in omega arith
by_took (Ok (a, k)) own i remote s m bs e h = go (eqb (bus_address i) own) (eqb remote 0 && among (byte 1 s) sent_only) refl refl h
  where
    go : (y z : Bool) → eqb (bus_address i) own ≡ y → eqb remote 0 && among (byte 1 s) sent_only ≡ z → ◌≡◌ {A = Verdict} (cond y (cond z (Err not_listed) (Ok (Some k))) (Ok None)) (Ok (Some m)) → Took own i remote s m
    go false z p q h = absurd (let z : ◌≡◌ {A = ℕ} 0 1 = cc in omega arith)
    go true true p q h = absurd (let z : ◌≡◌ {A = ℕ} 0 1 = cc in omega arith)
    go true false p q h =
        let f : k ≡ m = cc in
        let d : reading vmb8ir i remote s ≡ Ok (a, m) = rw (← f) e in
        record { here = p; address = a; reads = d; good = reading_good i remote s a m bs q d }

pub took_it : (own i remote : ℕ) (s : List ℕ) (m : Message) → AllBytes s → judged own i remote s ≡ Ok (Some m) → Took own i remote s m
unfolding judged
took_it own i remote s m bs h = by_took (reading vmb8ir i remote s) own i remote s m bs refl h

-- the bench is silent only at another address
by_silent : (r : Reading) (own i remote : ℕ) (s : List ℕ) → judged_if r (eqb (bus_address i) own) (eqb remote 0 && among (byte 1 s) sent_only) ≡ Ok None → eqb (bus_address i) own ≡ false
unfolding judged_if
by_silent (Err n) own i remote s h = go (among n first_refusals) (eqb (bus_address i) own) (eqb remote 0 && among (byte 1 s) sent_only) h
  where
    go : (x y z : Bool) → ◌≡◌ {A = Verdict} (cond x (Err n) (cond y (cond z (Err not_listed) (Err n)) (Ok None))) (Ok None) → y ≡ false
    go true y z h = absurd (let z : ◌≡◌ {A = ℕ} 0 1 = cc in omega arith)
    go false true true h = absurd (let z : ◌≡◌ {A = ℕ} 0 1 = cc in omega arith)
    go false true false h = absurd (let z : ◌≡◌ {A = ℕ} 0 1 = cc in omega arith)
    go false false z h = refl
by_silent (Ok (a, k)) own i remote s h = go (eqb (bus_address i) own) (eqb remote 0 && among (byte 1 s) sent_only) h
  where
    go : (y z : Bool) → ◌≡◌ {A = Verdict} (cond y (cond z (Err not_listed) (Ok (Some k))) (Ok None)) (Ok None) → y ≡ false
    go false z h = refl
    go true true h = absurd (let z : ◌≡◌ {A = ℕ} 0 1 = cc in omega arith)
    go true false h = absurd (let z : ◌≡◌ {A = ℕ} 0 1 = cc in omega arith)

pub silent_elsewhere : (own i remote : ℕ) (s : List ℕ) → judged own i remote s ≡ Ok None → eqb (bus_address i) own ≡ false
unfolding judged
silent_elsewhere own i remote s h = by_silent (reading vmb8ir i remote s) own i remote s h
