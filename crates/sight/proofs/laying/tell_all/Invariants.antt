-- `sight::laying::tell_all` meets its contract. Assumes nothing.
use Rattle.std.proofs.Common.{◌≡◌, ◌-◌, ◌*◌}
use Rattle.std.proofs.lemmas.List.Edits.{sets}
use Rattle.replies.specs.Replies.{dump}
use Rattle.bench.specs.Sending.{all_bytes}
use Rattle.sight.proofs.laying.tell_all.Given as goal

-- with the replies that are left, all the replies stand
abbrev pub invariant-loop-i : goal.invariant-loop-i
invariant-loop-i l = sets l.buffer (12 * l.i) (all_bytes l.address (dump l.bench (4 * l.i) (64 - l.i))) ≡ sets l.initial.buffer 0 (all_bytes l.address (dump l.bench 0 64))
