-- What is read and written again is the same frame; what is written reads back as itself.
-- Assumes nothing.
use Rattle.std.specs.Prelude.{Ok, Err}
use Prim.Native.Nat.{ℕ, ◌≤◌, ◌<◌}
use native.Mathlib.Omega.{arith}
use mathlib.Core.Path.{◌≡◌, refl, sym, ap, ◌∙◌}
use mathlib.Core.List.{List, [], ◌∷◌}
use mathlib.Core.Bool.{Bool, true, false, cond}
use lib.ListN.{length, take}
use lib.Dec.{eqb, lit<}
use borrow.Author.Tests.{eqb-true, eq-eqb}
use Rattle.laws.specs.Tests.{among, unless_refused}
use Rattle.laws.specs.Refusals.{bad_type, wrong_priority}
use Rattle.laws.proofs.Testing.{nonzero, held, holds, unrefused, unrefused_is}
use Rattle.kinds.specs.Types.{low, handed_types, row_for}
use Rattle.frame.specs.Identifiers.{priority_of, address_of, identifier_of}
use Rattle.frame.specs.Bytes.{byte, data_of, data_bytes}
use Rattle.frame.specs.Messages.{type_command, decode}
use Rattle.codec.specs.Encoding.{encode}
use Rattle.fields.specs.Fields.{fault}
use Rattle.judging.specs.Reading.{frame_refusal, own_type, command_refusal, request_read, command_read, reading, Reading}
use Rattle.codec.specs.Writing.{handed_refusal, write_refusal, request_frame, command_frame, written_as, command_written, writing, Writing}
use Rattle.laws.specs.Limits.{AllBytes}
use Rattle.codec.specs.Statements.{Gives, ReadThenWritten, WrittenThenRead, OneFrame}
use Rattle.frame.specs.declared.bytes.Data.{Data}
use Rattle.frame.specs.declared.identifiers.Address.{Address}
use Rattle.frame.specs.declared.messages.Command.{Command}
use Rattle.frame.specs.declared.messages.Message.{Message}
use Rattle.frame.specs.declared.messages.Message.TheVariants.{TypeRequest, Tells}
use Rattle.codec.specs.declared.writer.Frame.{Frame}
use Rattle.kinds.proofs.Listed.{row-size, row_known, row_priority}
use Rattle.codec.proofs.Shapes.{data_again, padded, back, forth, row-length}
use Rattle.codec.proofs.Accepted.{every_request}
use Rattle.judging.proofs.Judged.{Framed, frame_held, whole, formed_remote, formed_data, reads_made, Listed, command_held, command-holds}
use Rattle.laws.proofs.Codes.{same_pair}
use Rattle.codec.proofs.Lawful.{Lawful, write_held_lem, listed_lawful}

-- Answers of the two kinds are never the same.

pub refused_not_read : (n : ℕ) (a : Address) (m : Message) → ◌≡◌ {A = Reading} (Err n) (Ok (a, m)) → ⊥
refused_not_read n a m e = let z : ◌≡◌ {A = ℕ} 0 1 = cc in omega arith

refused_not_written : (n : ℕ) (f : Frame) → ◌≡◌ {A = Writing} (Err n) (Ok f) → ⊥
refused_not_written n f e = let z : ◌≡◌ {A = ℕ} 0 1 = cc in omega arith

same-written : (f g : Frame) → ◌≡◌ {A = Writing} (Ok f) (Ok g) → f ≡ g
same-written f g e = cc

-- Read, then written.

own_inside : (kind : ℕ) (d : Data) → d.1 ≡ type_command → d.2 ≡ own_type kind d
own_inside kind d q = rw (eq-eqb d.1 type_command q)

-- the bytes that were read are the bytes that are written
same_bytes_lem : (kind p : ℕ) (s : List ℕ) → AllBytes s → length s ≤ 8 → Listed (own_type kind (data_of s)) p (data_of s) (decode (padded s)) → encode (decode (padded s)) ≡ s
same_bytes_lem kind p s small short j =
    let e : ℕ = own_type kind (data_of s) in
    forth e (byte 1 s) (data_of s) j.listed (own_inside kind (data_of s)) (small 1, small 2, small 3, small 4)
    ∙ ap (λ (n : ℕ). take n (padded s)) (sym (eqb-true (length s) (row_for e (byte 1 s)).0 j.sized))
    ∙ data_again s short

written_again :
    (kind : ℕ) (a : Address) (m : Command) (d : Data) →
    among kind handed_types ≡ true →
    write_refusal (own_type kind d) d m ≡ 0 →
    written_as kind a m d ≡ Ok (command_frame (own_type kind d) a d)
unfolding written_as
written_again kind a m d hk l =
    unrefused_is Err (handed_refusal kind (write_refusal (own_type kind d) d m)) (Ok (command_frame (own_type kind d) a d))
    (holds (among kind handed_types) bad_type _ hk l)

command_again :
    (kind i : ℕ) (s : List ℕ) (a : Address) (m : Message) →
    AllBytes s →
    Framed kind i 0 (length s) →
    length s ≤ 8 →
    command_read kind (priority_of i) (address_of i) (data_of s) ≡ Ok (a, m) →
    Gives kind a m i 0 s
unfolding command_read writing command_written
command_again kind i s a m small f short h =
    let d : Data = data_of s in
    let x : Command = decode (padded s) in
    let u = unrefused Err (command_refusal kind (priority_of i) d x) (Ok (address_of i, Tells x)) (Ok (a, m)) (refused_not_read _ a m) h in
    let j = command_held kind (priority_of i) d x u.0 in
    let b : encode x ≡ s = same_bytes_lem kind (priority_of i) s small short j in
    let e = same_pair (address_of i) a (Tells x) m u.1 in
    let q : (row_for (own_type kind d) d.1).1 ≡ priority_of i = sym (eqb-true (priority_of i) (row_for (own_type kind d) d.1).1 j.level) in
    record {
      frame = command_frame (own_type kind d) (address_of i) d;
      given =
          rw (← e.0, ← e.1)
          (ap (λ (t : List ℕ). written_as kind (address_of i) x (data_of t)) b ∙ written_again kind (address_of i) x d f.handed (listed_lawful kind (priority_of i) d x j));
      same_identifier = ap (λ (p : ℕ). identifier_of p (address_of i)) q ∙ whole i f.fits f.clear;
      same_remote = refl;
      same_data = data_again s short;
    }

empty : (s : List ℕ) → length s ≡ 0 → s ≡ []
empty [] h = refl
empty (x ∷ s) h = absurd (omega arith)

request_again :
    (kind i : ℕ) (a : Address) (m : Message) →
    Framed kind i 1 0 →
    request_read (priority_of i) (address_of i) ≡ Ok (a, m) →
    Gives kind a m i 1 []
unfolding request_read writing
request_again kind i a m f h =
    let u = unrefused Err _ (Ok (address_of i, TypeRequest)) (Ok (a, m)) (refused_not_read _ a m) h in
    let p = eqb-true (priority_of i) low (held (eqb (priority_of i) low) wrong_priority 0 (lit< tt) u.0).0 in
    let e = same_pair (address_of i) a TypeRequest m u.1 in
    record {
      frame = request_frame (address_of i);
      given =
          rw (← e.0, ← e.1)
          (unrefused_is Err (handed_refusal kind 0) (Ok (request_frame (address_of i))) (holds (among kind handed_types) bad_type 0 f.handed refl));
      same_identifier = ap (λ (p : ℕ). identifier_of p (address_of i)) (sym p) ∙ whole i f.fits f.clear;
      same_remote = refl;
      same_data = refl;
    }

pub read_then_written : ReadThenWritten
unfolding reading
read_then_written kind i remote s a m small h =
    let u = unrefused Err (frame_refusal kind i remote (length s)) _ (Ok (a, m)) (refused_not_read _ a m) h in
    go (eqb remote 1) refl (frame_held kind i remote (length s) u.0) u.1
  where
    go :
        (b : Bool) →
        eqb remote 1 ≡ b →
        Framed kind i remote (length s) →
        cond b (request_read (priority_of i) (address_of i)) (command_read kind (priority_of i) (address_of i) (data_of s)) ≡ Ok (a, m) →
        Gives kind a m i remote s
    go true q f h =
        let one = eqb-true remote 1 q in
        let n = formed_remote (length s) (rw one at f.formed) in
        let f₁ : Framed kind i 1 0 = rw (n, one) at f in
        rw (one, empty s n) (request_again kind i a m f₁ h)
    go false q f h =
        let k = formed_data remote (length s) q f.formed in
        let f₀ : Framed kind i 0 (length s) = rw k.0 at f in
        rw k.0 (command_again kind i s a m small f₀ k.1 h)

-- Written, then read.

command_back :
    (kind : ℕ) (a : Address) (m : Command) →
    a.0 < 256 →
    among kind handed_types ≡ true →
    Lawful (own_type kind (data_of (encode m))) (data_of (encode m)) m →
    reading kind (identifier_of (row_for (own_type kind (data_of (encode m))) (byte 1 (encode m))).1 a) 0 (data_bytes (data_of (encode m))) ≡ Ok (a, Tells m)
unfolding command_read
command_back kind a m ha hk l =
    let d : Data = data_of (encode m) in
    let own : ℕ = own_type kind d in
    let p : ℕ = (row_for own (byte 1 (encode m))).1 in
    let n = row-length kind m l.fits l.listed in
    let long : length (encode m) ≤ 8 = omega (arith, row-size own (byte 1 (encode m))) in
    let some : 1 ≤ length (encode m) = at_least_one (row_for own (byte 1 (encode m))).0 (nonzero _ l.listed) n in
    let b : decode (padded (encode m)) ≡ m = back own m (eqb-true (fault own m) 0 l.allowed) l.fits in
    let j : Listed own p d m = record { listed = l.listed; sized = eq-eqb _ _ n; level = eq-eqb p p refl; allowed = l.allowed } in
    let z : command_refusal kind p d m ≡ 0 = command-holds kind p d m j in
    rw (data_again (encode m) long)
    (reads_made kind p a (encode m) hk (row_known own (byte 1 (encode m))) (row_priority own (byte 1 (encode m))) ha some long
    ∙ ap (λ (x : Command). unless_refused Err (command_refusal kind p d x) (Ok (a, Tells x))) b
    ∙ unrefused_is Err (command_refusal kind p d m) (Ok (a, Tells m)) z)
  where
    at_least_one : (n : ℕ) → (n ≡ 0 → ⊥) → length (encode m) ≡ n → 1 ≤ length (encode m)
    at_least_one n ne e = omega arith

-- what the writer took a command for
record Told (kind : ℕ) (a : Address) (m : Command) (f : Frame) : Type 0 where
  handed : among kind handed_types ≡ true
  lawful : Lawful (own_type kind (data_of (encode m))) (data_of (encode m)) m
  frame : command_frame (own_type kind (data_of (encode m))) a (data_of (encode m)) ≡ f

told : (kind : ℕ) (a : Address) (m : Command) (f : Frame) → writing kind a (Tells m) ≡ Ok f → Told kind a m f
unfolding writing command_written written_as
told kind a m f h =
    let d : Data = data_of (encode m) in
    let own : ℕ = own_type kind d in
    let u =
    unrefused Err (handed_refusal kind (write_refusal own d m)) (Ok (command_frame own a d)) (Ok f) (refused_not_written _ f) h in
    let g = held (among kind handed_types) bad_type _ (lit< tt) u.0 in
    record { handed = g.0; lawful = write_held_lem own d m g.1; frame = same-written (command_frame own a d) f u.1 }

pub written_lawful :
    (kind : ℕ) (a : Address) (m : Command) (f : Frame) →
    writing kind a (Tells m) ≡ Ok f →
    Lawful (own_type kind (data_of (encode m))) (data_of (encode m)) m
written_lawful kind a m f h = (told kind a m f h).lawful

pub written_then_read : WrittenThenRead
unfolding writing
written_then_read kind a TypeRequest f ha h =
    let u = unrefused Err (handed_refusal kind 0) (Ok (request_frame a)) (Ok f) (refused_not_written _ f) h in
    rw (← same-written (request_frame a) f u.1) (every_request kind a (held (among kind handed_types) bad_type 0 (lit< tt) u.0).0 ha)
written_then_read kind a (Tells m) f ha h =
    let t = told kind a m f h in
    rw (← t.frame) (command_back kind a m ha t.handed t.lawful)

-- Two frames read as one message are written as one frame.

pub one_frame : OneFrame
one_frame kind i remote j other s t a m bs bt hs ht =
    let x = read_then_written kind i remote s a m bs hs in
    let y = read_then_written kind j other t a m bt ht in
    let f : x.frame ≡ y.frame = same-written x.frame y.frame (sym x.given ∙ y.given) in (
      sym x.same_identifier ∙ ap (λ (g : Frame). g.identifier) f ∙ y.same_identifier,
      sym x.same_remote ∙ ap (λ (g : Frame). g.remote) f ∙ y.same_remote,
      sym x.same_data ∙ ap (λ (g : Frame). data_bytes g.bytes) f ∙ y.same_data,
    )
