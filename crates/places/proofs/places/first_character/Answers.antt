-- `places::places::first_character` meets its contract. Assumes nothing.
use native.Mathlib.Omega.{arith}
use mathlib.Core.Path.{◌≡◌, refl, sym, ap, ◌∙◌}
use mathlib.Core.Bool.{true, false}
use Rattle.kinds.specs.Types.{names_in_memory}
use Rattle.places.specs.Places.{first_character}
use Rattle.places.proofs.places.first_character.Goals as goal

pub returns-then-memory : goal.returns-then-memory
unfolding first_character
returns-then-memory c =
    let memory : names_in_memory c.args.kind ≡ true =
    sym (c.names_in_memory-memory.ensures ∙ ap names_in_memory c.wide32.ensures) ∙ c.if-memory.true in
    (rw memory refl, omega arith)

pub returns-else-memory : goal.returns-else-memory
unfolding first_character
returns-else-memory c =
    let memory : names_in_memory c.args.kind ≡ false =
    sym (c.names_in_memory-memory.ensures ∙ ap names_in_memory c.wide32.ensures) ∙ c.if-memory.false in
    (rw memory refl, omega arith)
