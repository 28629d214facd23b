-- `replay::records::hear_records` meets its contract. The loop's invariant: the replay goes on from here. Assumes nothing.
use Rattle.std.proofs.Common.{◌≡◌, ◌-◌, ◌≤◌, length}
use Rattle.replay.specs.Replay.{heard_by, replayed, run_on}
use Rattle.replay.proofs.records.hear_records.Given as goal

abbrev pub invariant-loop-record : goal.invariant-loop-record
invariant-loop-record l = (l.at ≤ length l.s) × (l.records ≤ l.at) × (l.refused ≤ l.records) × (length l.picture ≡ length l.initial.picture) × (replayed heard_by l.initial.picture l.s ≡ run_on heard_by l.s l.picture (l.records - l.refused) l.refused l.at)

abbrev pub decreases-loop-record : goal.decreases-loop-record
decreases-loop-record l = length l.s - l.at
