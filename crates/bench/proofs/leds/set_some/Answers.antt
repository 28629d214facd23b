-- `bench::leds::set_some` meets its contract. Assumes nothing.
use Rattle.bench.proofs.Storing.{eight}
use borrow.Author.Rules.{rules}
use Rattle.bench.proofs.leds.set_some.Goals as goal

pub returns : goal.returns
returns c =
    let a = c.args in
    eight a.bench.now c.put_if.new.bench c.put_if-2.new.bench c.put_if-3.new.bench c.put_if-4.new.bench c.put_if-5.new.bench c.put_if-6.new.bench c.put_if-7.new.bench c.put_if-8.new.bench a.mask a.state
    c.put_if.ensures c.put_if-2.ensures c.put_if-3.ensures c.put_if-4.ensures c.put_if-5.ensures c.put_if-6.ensures c.put_if-7.ensures c.put_if-8.ensures
