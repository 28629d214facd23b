use Rattle.std.proofs.Common.{arith}
use Rattle.std.proofs.lemmas.Result.{err_from_is_err_and}
use Rattle.laws.specs.Refusals.{bad_type}
use borrow.Author.Tests.{ne_eqb}
use Rattle.laws.specs.Tests.{among}
use Rattle.laws.proofs.Codes.{some_code, failed, passed}
use Rattle.kinds.specs.Types.{handed_types}
use Rattle.codec.specs.Writing.{written_as}
use Rattle.codec.proofs.writer.written_as.Goals as goal

pub returns-in_err-handed : goal.returns-in_err-handed
unfolding written_as
returns-in_err-handed c =
    let some = some_code c.in_err-handed.field-0.0 in
    let p = err_from_is_err_and c.from_residual.result c.from_residual.ensures.1 in
    rw (p.1, p.2, failed (among c.args.kind handed_types) bad_type _ c.in_err-handed.ensures some, ne_eqb _ 0 some)

pub returns-in_err-write_refusal : goal.returns-in_err-write_refusal
unfolding written_as
returns-in_err-write_refusal c =
    let some = some_code c.in_err-write_refusal.field-0.0 in
    let p = err_from_is_err_and c.from_residual-in_err-write_refusal.result c.from_residual-in_err-write_refusal.ensures.1 in
    rw
    (p.1, p.2, passed (among c.args.kind handed_types) bad_type _ c.in_ok-handed.ensures (λ e. omega arith), ← c.own_type-own.ensures, ← c.in_err-write_refusal.ensures, ne_eqb _ 0 some)

pub returns : goal.returns
unfolding written_as
returns c = rw (passed (among c.args.kind handed_types) bad_type _ c.in_ok-handed.ensures (λ e. omega arith), ← c.own_type-own.ensures, ← c.in_ok-write_refusal.ensures, c.command_frame.ensures)
