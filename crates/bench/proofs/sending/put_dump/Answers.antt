-- `bench::sending::put_dump` meets its contract. Assumes nothing.
use Rattle.std.proofs.Common.{◌∙◌}
use Rattle.bench.proofs.Storing.{dump-turn, dump-done}
use Rattle.bench.proofs.sending.put_dump.Goals as goal

pub loop-i-preserved : goal.loop-i-preserved
loop-i-preserved c =
    let l = c.loop-i in
    let a = c.args in
    dump-turn a.bench.now l.buffer c.put_reply.new.buffer a.a l.i c.loop-i-test.true (c.put_reply.ensures ∙ rw (c.wide16.ensures, c.dump_block-m.ensures)) ∙ l.invariant

pub returns : goal.returns
returns c =
    let l = c.loop-i in
    let a = c.args in
    dump-done a.bench.now l.buffer a.a l.i c.loop-i-test.false ∙ l.invariant
