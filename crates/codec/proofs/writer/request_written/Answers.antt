use Rattle.std.proofs.Common.{arith}
use Rattle.std.proofs.lemmas.Result.{err_from_is_err_and}
use borrow.Author.Tests.{ne_eqb}
use Rattle.laws.specs.Tests.{among}
use Rattle.laws.proofs.Codes.{some_code}
use Rattle.codec.specs.Writing.{writing}
use Rattle.codec.proofs.writer.request_written.Goals as goal

pub returns-in_err-handed : goal.returns-in_err-handed
unfolding writing
returns-in_err-handed c =
    let p = err_from_is_err_and c.from_residual.result c.from_residual.ensures.1 in
    rw (p.1, p.2, ← c.in_err-handed.ensures, ne_eqb _ 0 (some_code c.in_err-handed.field-0.0))

pub returns : goal.returns
unfolding writing
returns c = rw (← c.in_ok-handed.ensures, c.request_frame.ensures)
