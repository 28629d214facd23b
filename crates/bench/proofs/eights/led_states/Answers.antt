-- `bench::eights::led_states` meets its contract. Assumes nothing.
use Rattle.bench.proofs.Spread.{bytes_back}
use borrow.Author.Rules.{rules}
use Rattle.bench.proofs.eights.led_states.Goals as goal

pub returns : goal.returns
returns c =
    let a = c.args in
    rw (← bytes_back a.on a.slow a.fast, ← c.all_leds.ensures) c.bytes_of.ensures
