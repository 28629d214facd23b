-- `bench::making::bench_new` meets its contract. Assumes nothing.
use Rattle.bench.specs.Making.{making}
use borrow.Author.Tests.{lt-ltb, le-ltb, le-leb, lt-leb, eq-eqb, ne_eqb}
use borrow.Author.Rules.{rules}
use Rattle.bench.proofs.making.bench_new.Goals as goal

pub returns-then-bench-lt-SIZE : goal.returns-then-bench-lt-SIZE
unfolding making
returns-then-bench-lt-SIZE c = record { value = rw (lt-ltb _ _ c.if-bench-lt-SIZE.true); bench_after = rw (lt-ltb _ _ c.if-bench-lt-SIZE.true) }

pub returns-then-cells-lt-NAMED_CELLS : goal.returns-then-cells-lt-NAMED_CELLS
unfolding making
returns-then-cells-lt-NAMED_CELLS c = record { value = rw (le-ltb _ _ c.if-bench-lt-SIZE.false, lt-ltb _ _ c.if-cells-lt-NAMED_CELLS.true); bench_after = rw (le-ltb _ _ c.if-bench-lt-SIZE.false, lt-ltb _ _ c.if-cells-lt-NAMED_CELLS.true) }

pub returns-then-address-ge-ADDRESSES : goal.returns-then-address-ge-ADDRESSES
unfolding making
returns-then-address-ge-ADDRESSES c = record { value = rw (le-ltb _ _ c.if-bench-lt-SIZE.false, le-ltb _ _ c.if-cells-lt-NAMED_CELLS.false, le-leb _ _ c.if-address-ge-ADDRESSES.true); bench_after = rw (le-ltb _ _ c.if-bench-lt-SIZE.false, le-ltb _ _ c.if-cells-lt-NAMED_CELLS.false, le-leb _ _ c.if-address-ge-ADDRESSES.true) }

pub returns-then-address-eq0 : goal.returns-then-address-eq0
unfolding making
returns-then-address-eq0 c = record { value = rw (le-ltb _ _ c.if-bench-lt-SIZE.false, le-ltb _ _ c.if-cells-lt-NAMED_CELLS.false, lt-leb _ _ c.if-address-ge-ADDRESSES.false, eq-eqb _ _ c.if-address-eq0.true); bench_after = rw (le-ltb _ _ c.if-bench-lt-SIZE.false, le-ltb _ _ c.if-cells-lt-NAMED_CELLS.false, lt-leb _ _ c.if-address-ge-ADDRESSES.false, eq-eqb _ _ c.if-address-eq0.true) }

pub returns : goal.returns
unfolding making
returns c = record { value = rw (le-ltb _ _ c.if-bench-lt-SIZE.false, le-ltb _ _ c.if-cells-lt-NAMED_CELLS.false, lt-leb _ _ c.if-address-ge-ADDRESSES.false, ne_eqb _ _ c.if-address-eq0.false); bench_after = rw (le-ltb _ _ c.if-bench-lt-SIZE.false, le-ltb _ _ c.if-cells-lt-NAMED_CELLS.false, lt-leb _ _ c.if-address-ge-ADDRESSES.false, ne_eqb _ _ c.if-address-eq0.false) c.lay.ensures }
