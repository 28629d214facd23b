-- `bench::leds::set_all` meets its contract. Assumes nothing.
use Rattle.bench.proofs.Storing.{told-stored}
use Rattle.places.specs.Runs.{led_by}
use Rattle.laws.specs.Tab.{tab}
use mathlib.Core.Path.{◌∙◌}
use borrow.Author.Rules.{rules}
use Rattle.bench.proofs.leds.set_all.Goals as goal

pub returns : goal.returns
returns c =
    let a = c.args in
    c.put_bytes.ensures ∙ rw c.led_states-states.ensures (told-stored (tab 8 (led_by a.on a.slow a.fast)) a.bench.now 2)
