-- `bench::bytes::put_bytes` meets its contract. Assumes nothing.
use Rattle.std.proofs.Common.{◌≡◌, take}
use Rattle.std.proofs.lemmas.List.Edits.{sets}
use Rattle.bench.proofs.bytes.put_bytes.Given as goal

-- the first i bytes are stored
abbrev pub invariant-loop-i : goal.invariant-loop-i
invariant-loop-i l = l.s ≡ sets l.initial.s l.at (take l.i l.source)
