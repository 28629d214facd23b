-- A refusal number of 0 taken apart into the tests that held, and put together again from them.
-- Assumes nothing.
use Prim.Native.Nat.{ℕ, ◌+◌, ◌*◌, ◌/◌, ◌%◌, ◌≤◌, ◌<◌}
use native.Mathlib.Omega.{arith}
use mathlib.Core.Path.{◌≡◌, refl, ◌∙◌}
use mathlib.Core.List.{List, []}
use mathlib.Core.Bool.{Bool, true, false, not, ◌&&◌, ◌||◌, cond}
use lib.ListN.{length}
use lib.Dec.{eqb, leb, lit<}
use borrow.Author.Tests.{eqb-true, leb-true, eq-eqb, le-leb}
use Rattle.laws.specs.Tests.{among, unless}
use Rattle.laws.specs.Refusals.{bad_identifier, sid0_set, bad_form, bad_priority, bad_type, type_not_known, not_listed, wrong_length, wrong_priority, bad_field, code_at}
use Rattle.laws.proofs.Testing.{not_both, and_both, held}
use Rattle.kinds.specs.Types.{low, priorities, no_type, module_types, handed_types, row_for, is_listed}
use Rattle.frame.specs.Identifiers.{priority_of, address_of, identifier_of, eleven_bits, sid0_clear, well_formed}
use Rattle.frame.specs.Bytes.{data_of}
use Rattle.frame.specs.Messages.{type_command}
use Rattle.fields.specs.Fields.{fault}
use Rattle.judging.specs.Reading.{frame_refusal, row_refusal, own_type, command_refusal, request_read, command_read, reading}
use Rattle.frame.specs.declared.bytes.Data.{Data}
use Rattle.frame.specs.declared.identifiers.Address.{Address}
use Rattle.frame.specs.declared.messages.Command.{Command}
use Rattle.kinds.proofs.Listed.{listed_module, module_some}
use Rattle.frame.proofs.Commands.{type_sized}

-- The frame's own tests.

pub record Framed (kind identifier remote count : ℕ) : Type 0 where
  pub handed : among kind handed_types ≡ true
  pub fits : eleven_bits identifier ≡ true
  pub clear : sid0_clear identifier ≡ true
  pub formed : well_formed remote count ≡ true
  pub known : among (priority_of identifier) priorities ≡ true

pub frame_held : (kind identifier remote count : ℕ) → frame_refusal kind identifier remote count ≡ 0 → Framed kind identifier remote count
frame_held kind identifier remote count e =
    let g₄ = held (among kind handed_types) bad_type _ (lit< tt) e in
    let g₁ = held (eleven_bits identifier) bad_identifier _ (lit< tt) g₄.1 in
    let g₁₇ = held (sid0_clear identifier) sid0_set _ (lit< tt) g₁.1 in
    let g₂ = held (well_formed remote count) bad_form _ (lit< tt) g₁₇.1 in
    let g₃ = held (among (priority_of identifier) priorities) bad_priority _ (lit< tt) g₂.1 in
    record { handed = g₄.0; fits = g₁.0; clear = g₁₇.0; formed = g₂.0; known = g₃.0 }

pub frame_holds : (kind identifier remote count : ℕ) → Framed kind identifier remote count → frame_refusal kind identifier remote count ≡ 0
frame_holds kind identifier remote count f = rw (f.handed, f.fits, f.clear, f.formed, f.known)

-- The identifier's parts.

pub whole : (i : ℕ) → eleven_bits i ≡ true → sid0_clear i ≡ true → identifier_of (priority_of i) (address_of i) ≡ i
whole i h h₀ =
    let l = leb-true i 2047 h in
    let e = eqb-true (i % 2) 0 h₀ in
    omega arith

made_fits : (p : ℕ) (a : Address) → p ≤ 3 → a.0 < 256 → eleven_bits (identifier_of p a) ≡ true
made_fits p a hp ha = le-leb (512 * p + 2 * a.0) 2047 (omega arith)

made_clear : (p : ℕ) (a : Address) → sid0_clear (identifier_of p a) ≡ true
made_clear p a = eq-eqb ((512 * p + 2 * a.0) % 2) 0 (omega arith)

made_priority : (p : ℕ) (a : Address) → a.0 < 256 → priority_of (identifier_of p a) ≡ p
made_priority p a ha = omega arith

made_address : (p : ℕ) (a : Address) → a.0 < 256 → address_of (identifier_of p a) ≡ a
made_address p a ha = let q : (512 * p + 2 * a.0) / 2 % 256 ≡ a.0 = omega arith in λ i. record { 0 = q i }

-- The frame's form.

pub formed_remote : (n : ℕ) → well_formed 1 n ≡ true → n ≡ 0
formed_remote n h = go (eqb n 0) (eqb-true n 0) h
  where
    go : (b : Bool) → (b ≡ true → n ≡ 0) → b || false ≡ true → n ≡ 0
    go true q h = q refl
    go false q h = not_both h

pub formed_data : (remote n : ℕ) → eqb remote 1 ≡ false → well_formed remote n ≡ true → (remote ≡ 0) × (n ≤ 8)
formed_data remote n e h =
    let g : eqb remote 0 && (leb 1 n && leb n 8) ≡ true = rw e at h in
    let k = and_both (eqb remote 0) (leb 1 n && leb n 8) g in
    (eqb-true remote 0 k.0, leb-true n 8 (and_both (leb 1 n) (leb n 8) k.1).1)

-- A frame that is made of a priority and an address reads as its data or its remote flag says.

made_framed :
    (kind p remote count : ℕ) (a : Address) →
    among kind handed_types ≡ true →
    among p priorities ≡ true →
    p ≤ 3 →
    a.0 < 256 →
    well_formed remote count ≡ true →
    Framed kind (identifier_of p a) remote count
made_framed kind p remote count a hk hp le ha hf =
    record { handed = hk; fits = made_fits p a le ha; clear = made_clear p a; formed = hf; known = rw (made_priority p a ha) hp }

pub reads_made :
    (kind p : ℕ) (a : Address) (s : List ℕ) →
    among kind handed_types ≡ true →
    among p priorities ≡ true →
    p ≤ 3 →
    a.0 < 256 →
    1 ≤ length s →
    length s ≤ 8 →
    reading kind (identifier_of p a) 0 s ≡ command_read kind p a (data_of s)
unfolding reading
reads_made kind p a s hk hp le ha h₁ h₈ =
    let w : well_formed 0 (length s) ≡ true = rw (le-leb _ _ h₁, le-leb _ _ h₈) in
    rw (frame_holds kind (identifier_of p a) 0 (length s) (made_framed kind p 0 (length s) a hk hp le ha w), made_priority p a ha, made_address p a ha)

pub request_made :
    (kind : ℕ) (a : Address) → among kind handed_types ≡ true → a.0 < 256 → reading kind (identifier_of low a) 1 [] ≡ request_read low a
unfolding reading
request_made kind a hk ha =
    rw (frame_holds kind (identifier_of low a) 1 0 (made_framed kind low 1 0 a hk refl (omega arith) ha refl), made_priority low a ha, made_address low a ha)

-- The rows' tests.

pub record Listed (kind p : ℕ) (d : Data) (m : Command) : Type 0 where
  pub listed : is_listed kind d.1 ≡ true
  pub sized : eqb d.0 (row_for kind d.1).0 ≡ true
  pub level : eqb p (row_for kind d.1).1 ≡ true
  pub allowed : eqb (fault kind m) 0 ≡ true

pub row_held : (kind p : ℕ) (d : Data) (m : Command) → row_refusal kind p d m ≡ 0 → Listed kind p d m
row_held kind p d m e =
    let g₆ = held (is_listed kind d.1) not_listed _ (lit< tt) e in
    let g₇ = held (eqb d.0 (row_for kind d.1).0) wrong_length _ (lit< tt) g₆.1 in
    let g₈ = held (eqb p (row_for kind d.1).1) wrong_priority _ (lit< tt) g₇.1 in
    let g₉ = held (eqb (fault kind m) 0) (code_at bad_field (fault kind m)) _ (omega arith) g₈.1 in
    record { listed = g₆.0; sized = g₇.0; level = g₈.0; allowed = g₉.0 }

pub row-holds : (kind p : ℕ) (d : Data) (m : Command) → Listed kind p d m → row_refusal kind p d m ≡ 0
row-holds kind p d m l = rw (l.listed, l.sized, l.level, l.allowed)

-- The type that decides.

pub command_held : (kind p : ℕ) (d : Data) (m : Command) → command_refusal kind p d m ≡ 0 → Listed (own_type kind d) p d m
command_held kind p d m e = row_held (own_type kind d) p d m (go (eqb d.1 type_command) e)
  where
    go :
        (b : Bool) →
        cond b
        (unless (leb 2 d.0) wrong_length (unless (among (cond b d.2 kind) module_types) bad_type (row_refusal (cond b d.2 kind) p d m)))
        (unless (not (eqb kind no_type)) type_not_known (row_refusal (cond b d.2 kind) p d m))
        ≡ 0 →
        row_refusal (cond b d.2 kind) p d m ≡ 0
    go true e = (held (among d.2 module_types) bad_type _ (lit< tt) (held (leb 2 d.0) wrong_length _ (lit< tt) e).1).1
    go false e = (held (not (eqb kind no_type)) type_not_known _ (lit< tt) e).1

-- a listed frame is of a module's type, and of two bytes where it is the type frame: the row decides
pub command-by-row :
    (kind p : ℕ) (d : Data) (m : Command) →
    is_listed (own_type kind d) d.1 ≡ true →
    eqb d.0 (row_for (own_type kind d) d.1).0 ≡ true →
    command_refusal kind p d m ≡ row_refusal (own_type kind d) p d m
command-by-row kind p d m listed sized = go (eqb d.1 type_command) refl (listed_module (own_type kind d) d.1 listed)
  where
    two : eqb d.1 type_command ≡ true → leb 2 d.0 ≡ true
    two q = le-leb 2 d.0 (omega (arith, eqb-true d.0 (row_for (own_type kind d) d.1).0 sized, type_sized (own_type kind d) d.1 listed q))

    go :
        (b : Bool) →
        eqb d.1 type_command ≡ b →
        among (cond b d.2 kind) module_types ≡ true →
        cond b
        (unless (leb 2 d.0) wrong_length (unless (among (cond b d.2 kind) module_types) bad_type (row_refusal (cond b d.2 kind) p d m)))
        (unless (not (eqb kind no_type)) type_not_known (row_refusal (cond b d.2 kind) p d m))
        ≡ row_refusal (cond b d.2 kind) p d m
    go true q hm = rw (two q, hm)
    go false q hm = rw (module_some kind hm)

pub command-holds : (kind p : ℕ) (d : Data) (m : Command) → Listed (own_type kind d) p d m → command_refusal kind p d m ≡ 0
command-holds kind p d m l = command-by-row kind p d m l.listed l.sized ∙ row-holds (own_type kind d) p d m l
