-- A new bench. Assumes nothing.
use Rattle.std.specs.Prelude.{ℕ, cond, List, eqb, leb, ltb, length, set, take, replicate}
use Rattle.std.proofs.lemmas.List.Edits.{sets}
use Rattle.laws.specs.Refusals.{type_not_known, bad_field, code_at, too_short}
use Rattle.kinds.specs.Types.{vmb8ir}
use Rattle.places.specs.Places.{year_place, week_place, cell_place}
use Rattle.shape.specs.Limits.{addresses}
use Rattle.shape.specs.Result.{Result}
use Rattle.shape.specs.Result as result
use Rattle.replies.specs.Bench.{address_at, version_at, bench_size}

-- how many bytes are named at the start
abbrev pub named_cells : ℕ
named_cells = 256

-- a bench at the start: the cells, the build, the address and the map version; every other byte is 0, so that the LEDs are off
unfoldable pub new_bench : ℕ → List ℕ → ℕ → ℕ → ℕ → List ℕ
new_bench address cells version year week =
    set (set (set (set (sets (replicate bench_size 0) (cell_place vmb8ir 0) (take named_cells cells)) year_place year) week_place week) address_at address) version_at version

-- the call: 13 where its bytes or the cells are too few, 5 for an address above 255, 9 at byte 1 for address H'00'
unfoldable pub making : List ℕ → ℕ → List ℕ → ℕ → ℕ → ℕ → Result
making b address cells version year week =
    cond (ltb (length b) bench_size) (result.refusing too_short b)
    (cond (ltb (length cells) named_cells) (result.refusing too_short b)
    (cond (leb addresses address) (result.refusing type_not_known b)
    (cond (eqb address 0) (result.refusing (code_at bad_field 1) b)
    (result.done (sets b 0 (new_bench address cells version year week))))))
