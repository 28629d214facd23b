use Rattle.std.proofs.Common.{◌≡◌, ◌<◌, ◌≤◌, length}
use Rattle.shape.specs.Layout.{size}
use Rattle.inputs.proofs.hearing.hear_input.Given as goal

abbrev pub invariant-loop-turn : goal.invariant-loop-turn
invariant-loop-turn g l =
    record {
      picture_size : length l.picture ≡ length l.fn.picture;
      window_size : length l.window ≡ length l.fn.window;
      whole : 0 < l.turn → size ≤ length l.fn.picture;
    }
