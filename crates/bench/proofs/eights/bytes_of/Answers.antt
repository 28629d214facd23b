-- `bench::eights::bytes_of` meets its contract. Assumes nothing.
use Rattle.bench.specs.Eights.{byte_list}
use borrow.Author.Rules.{rules}
use Rattle.bench.proofs.eights.bytes_of.Goals as goal

pub returns : goal.returns
unfolding byte_list
returns c = search rules
