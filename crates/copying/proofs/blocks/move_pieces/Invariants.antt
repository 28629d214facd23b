-- `copying::blocks::move_pieces` meets its contract. Assumes nothing.
use Rattle.std.proofs.Common.{◌≡◌, ◌*◌, take}
use Rattle.std.proofs.lemmas.List.Edits.{sets}
use Rattle.copying.proofs.blocks.move_pieces.Given as goal

-- the first i pieces are copied
abbrev pub invariant-loop-i : goal.invariant-loop-i
invariant-loop-i l = l.out ≡ sets l.initial.out 0 (take (16 * l.i) l.bytes)
