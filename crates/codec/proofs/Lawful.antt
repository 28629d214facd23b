-- The writer's refusal number of 0 taken apart into the tests that held, and put together again from them.
-- Assumes nothing.
use Prim.Native.Nat.{ℕ}
use native.Mathlib.Omega.{arith}
use mathlib.Core.Path.{◌≡◌, refl}
use mathlib.Core.Bool.{Bool, true, false, not, ◌||◌, cond}
use lib.Dec.{eqb, lit<}
use borrow.Author.Tests.{eqb-true}
use Rattle.laws.specs.Refusals.{bad_type, type_not_known, not_listed, bad_field, code_at}
use Rattle.laws.proofs.Testing.{held}
use Rattle.kinds.specs.Types.{no_type, row_for, is_listed}
use Rattle.frame.specs.Messages.{type_command}
use Rattle.fields.specs.Fields.{fault}
use Rattle.judging.specs.Reading.{own_type}
use Rattle.frame.specs.declared.bytes.Data.{Data}
use Rattle.frame.specs.declared.messages.Command.{Command}
use Rattle.kinds.proofs.Listed.{listed_module, module_some}
use Rattle.judging.proofs.Judged.{Listed}
use Rattle.codec.specs.Writing.{type_fits, write_refusal}

pub record Lawful (own : ℕ) (d : Data) (m : Command) : Type 0 where
  pub fits : type_fits d ≡ true
  pub some_type : not (eqb own no_type) ≡ true
  pub listed : is_listed own d.1 ≡ true
  pub allowed : eqb (fault own m) 0 ≡ true

pub write_held_lem : (own : ℕ) (d : Data) (m : Command) → write_refusal own d m ≡ 0 → Lawful own d m
write_held_lem own d m e =
    let g₄ = held (type_fits d) bad_type _ (lit< tt) e in
    let g₅ = held (not (eqb own no_type)) type_not_known _ (lit< tt) g₄.1 in
    let g₆ = held (is_listed own d.1) not_listed _ (lit< tt) g₅.1 in
    let g₉ = held (eqb (fault own m) 0) (code_at bad_field (fault own m)) _ (omega arith) g₆.1 in
    record { fits = g₄.0; some_type = g₅.0; listed = g₆.0; allowed = g₉.0 }

write-holds : (own : ℕ) (d : Data) (m : Command) → Lawful own d m → write_refusal own d m ≡ 0
write-holds own d m l = rw (l.fits, l.some_type, l.listed, l.allowed)

-- what the reader took the writer takes
pub listed_lawful : (kind p : ℕ) (d : Data) (m : Command) → Listed (own_type kind d) p d m → write_refusal (own_type kind d) d m ≡ 0
listed_lawful kind p d m l =
    write-holds (own_type kind d) d m
    (record {
      fits = go (eqb d.1 type_command) (eqb-true d.1 type_command) l.sized;
      some_type = module_some (own_type kind d) (listed_module (own_type kind d) d.1 l.listed);
      listed = l.listed;
      allowed = l.allowed;
    })
  where
    go :
        (b : Bool) →
        (b ≡ true → d.1 ≡ type_command) →
        eqb d.0 (row_for (cond b d.2 kind) d.1).0 ≡ true →
        (not b || eqb d.0 (row_for d.2 type_command).0) ≡ true
    go true q e = rw (q refl) at e
    go false q e = refl
