-- Demand 1, as specs/Demand1.antt states it. Assumes nothing.
use Rattle.demands.specs.Demand1.{Demand1}
use Rattle.demands.proofs.FrameOrders.{reads, writes}
use Rattle.demands.proofs.PictureOrders.{pictures}
use Rattle.demands.proofs.QuestionOrders.{questions}
use Rattle.demands.proofs.BenchOrders.{benches}
use Rattle.demands.proofs.CallOrders.{recordings, words}
use Rattle.demands.proofs.ReplayOrders.{replaying}

pub demand_1 : Demand1
demand_1 =
    record { frames = record { read = reads; write = writes }; pictures = pictures; questions = questions; benches = benches; recordings = recordings; replaying = replaying; words = words }
