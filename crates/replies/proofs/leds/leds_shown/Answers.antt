-- `replies::leds::leds_shown` meets its contract. Assumes nothing.
use Rattle.replies.proofs.Ones.{shown_bytes}
use native.Mathlib.Omega.{arith}
use borrow.Author.Rules.{rules}
use Rattle.replies.proofs.leds.leds_shown.Goals as goal

pub overflow_mul-g : goal.overflow_mul-g
overflow_mul-g c = omega arith

pub overflow_add-g : goal.overflow_add-g
overflow_add-g c = omega arith

pub overflow_mul-f : goal.overflow_mul-f
overflow_mul-f c = omega arith

pub overflow_add-f : goal.overflow_add-f
overflow_add-f c = omega arith

pub overflow_mul-e : goal.overflow_mul-e
overflow_mul-e c = omega arith

pub overflow_add-e : goal.overflow_add-e
overflow_add-e c = omega arith

pub overflow_mul-d : goal.overflow_mul-d
overflow_mul-d c = omega arith

pub overflow_add-d : goal.overflow_add-d
overflow_add-d c = omega arith

pub overflow_mul-c : goal.overflow_mul-c
overflow_mul-c c = omega arith

pub overflow_add-c : goal.overflow_add-c
overflow_add-c c = omega arith

pub overflow_mul-b : goal.overflow_mul-b
overflow_mul-b c = omega arith

pub overflow_add-b : goal.overflow_add-b
overflow_add-b c = omega arith

pub overflow_mul-a : goal.overflow_mul-a
overflow_mul-a c = omega arith

pub overflow_add-a : goal.overflow_add-a
overflow_add-a c = omega arith

pub returns : goal.returns
returns c =
    let x = c.lights-x in
    shown_bytes x.result.0 x.result.1 x.result.2 x.result.3 x.result.4 x.result.5 x.result.6 x.result.7 _ _ x.ensures (rw (c.one_shown-7.ensures.0, c.one_shown-6.ensures.0, c.one_shown-5.ensures.0, c.one_shown-4.ensures.0, c.one_shown-3.ensures.0, c.one_shown-2.ensures.0, c.one_shown.ensures.0, c.one_shown-h.ensures.0) (omega arith))
