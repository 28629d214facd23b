-- `bench::sending::answer_count` meets its contract. Assumes nothing.
use mathlib.Core.Path.{sym}
use native.Mathlib.Omega.{arith}
use Rattle.bench.proofs.Storing.{dump-length}
use borrow.Author.Rules.{rules}
use Rattle.bench.proofs.sending.answer_count.Goals as goal

pub returns-in-TypeLong : goal.returns-in-TypeLong
returns-in-TypeLong c = record { by_index = λ b. rw c.in-TypeLong.is; upper_bound = omega arith }

pub returns-in-TypeShort : goal.returns-in-TypeShort
returns-in-TypeShort c = record { by_index = λ b. rw c.in-TypeShort.is; upper_bound = omega arith }

pub returns-in-Buttons : goal.returns-in-Buttons
returns-in-Buttons c = record { by_index = λ b. rw c.in-Buttons.is; upper_bound = omega arith }

pub returns-in-CellTold : goal.returns-in-CellTold
returns-in-CellTold c = record { by_index = λ b. rw c.in-CellTold.is; upper_bound = omega arith }

pub returns-in-BlockTold : goal.returns-in-BlockTold
returns-in-BlockTold c = record { by_index = λ b. rw c.in-BlockTold.is; upper_bound = omega arith }

pub returns-in-CellAsked : goal.returns-in-CellAsked
returns-in-CellAsked c = record { by_index = λ b. rw c.in-CellAsked.is; upper_bound = omega arith }

pub returns-in-BlockAsked : goal.returns-in-BlockAsked
returns-in-BlockAsked c = record { by_index = λ b. rw c.in-BlockAsked.is; upper_bound = omega arith }

pub returns-in-DumpAsked : goal.returns-in-DumpAsked
returns-in-DumpAsked c = record { by_index = λ b. rw c.in-DumpAsked.is (sym (dump-length b 0 64)); upper_bound = omega arith }

pub returns-in-CellSet : goal.returns-in-CellSet
returns-in-CellSet c = record { by_index = λ b. rw c.in-CellSet.is; upper_bound = omega arith }

pub returns-in-BlockSet : goal.returns-in-BlockSet
returns-in-BlockSet c = record { by_index = λ b. rw c.in-BlockSet.is; upper_bound = omega arith }

pub returns-in-Errors : goal.returns-in-Errors
returns-in-Errors c = record { by_index = λ b. rw c.in-Errors.is; upper_bound = omega arith }

pub returns-in-ErrorsAsked : goal.returns-in-ErrorsAsked
returns-in-ErrorsAsked c = record { by_index = λ b. rw c.in-ErrorsAsked.is; upper_bound = omega arith }

pub returns-in-NameOne : goal.returns-in-NameOne
returns-in-NameOne c = record { by_index = λ b. rw c.in-NameOne.is; upper_bound = omega arith }

pub returns-in-NameTwo : goal.returns-in-NameTwo
returns-in-NameTwo c = record { by_index = λ b. rw c.in-NameTwo.is; upper_bound = omega arith }

pub returns-in-NameThree : goal.returns-in-NameThree
returns-in-NameThree c = record { by_index = λ b. rw c.in-NameThree.is; upper_bound = omega arith }

pub returns-in-NameAsked : goal.returns-in-NameAsked
returns-in-NameAsked c = record { by_index = λ b. rw c.in-NameAsked.is; upper_bound = omega arith }

pub returns-in-StatusAsked : goal.returns-in-StatusAsked
returns-in-StatusAsked c = record { by_index = λ b. rw c.in-StatusAsked.is; upper_bound = omega arith }

pub returns-in-InputStatus : goal.returns-in-InputStatus
returns-in-InputStatus c = record { by_index = λ b. rw c.in-InputStatus.is; upper_bound = omega arith }

pub returns-in-LedsAll : goal.returns-in-LedsAll
returns-in-LedsAll c = record { by_index = λ b. rw c.in-LedsAll.is; upper_bound = omega arith }

pub returns-in-Leds : goal.returns-in-Leds
returns-in-Leds c = record { by_index = λ b. rw c.in-Leds.is; upper_bound = omega arith }

pub returns-in-BlindStatus : goal.returns-in-BlindStatus
returns-in-BlindStatus c = record { by_index = λ b. rw c.in-BlindStatus.is; upper_bound = omega arith }

pub returns-in-BlindStop : goal.returns-in-BlindStop
returns-in-BlindStop c = record { by_index = λ b. rw c.in-BlindStop.is; upper_bound = omega arith }

pub returns-in-BlindUp : goal.returns-in-BlindUp
returns-in-BlindUp c = record { by_index = λ b. rw c.in-BlindUp.is; upper_bound = omega arith }

pub returns-in-BlindDown : goal.returns-in-BlindDown
returns-in-BlindDown c = record { by_index = λ b. rw c.in-BlindDown.is; upper_bound = omega arith }
