-- `modules::records::lay_half` meets its contract. Assumes nothing.
use Rattle.std.proofs.Common.{◌≡◌}
use Rattle.stores.specs.Stores.{blanked}
use Rattle.modules.proofs.records.lay_half.Given as goal

-- the places so far are unknown
abbrev pub invariant-loop-i : goal.invariant-loop-i
invariant-loop-i l = l.picture ≡ blanked l.initial.picture l.at l.i
