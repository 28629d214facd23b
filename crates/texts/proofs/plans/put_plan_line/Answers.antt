-- `texts::plans::put_plan_line` meets its contract. Assumes nothing.
use mathlib.Core.Path.{◌≡◌, sym, subst}
use mathlib.Core.List.{List, ◌++◌}
use Prim.Native.Nat.{ℕ}
use borrow.Author.Rules.{rules}
use lib.ListN.{length}
use Rattle.texts.specs.Text.{Fits, Written, letters, in_hex}
use Rattle.texts.specs.Plans.{reads_line}
use Rattle.texts.proofs.Texts.{followed, room-first, room_rest}
use Rattle.texts.proofs.PlanLines.{no_reads, some_reads}
use Rattle.texts.proofs.plans.put_plan_line.Goals as goal
use Rattle.texts.proofs.plans.put_plan_line.Goals.{Start}

-- the room of either line
none-room : (c : Start) → length c.args.starts.now ≡ 0 → Fits c.args.out.now c.args.at (in_hex c.args.address ++ letters " nothing to read\n")
none-room c e = subst (Fits c.args.out.now c.args.at) (no_reads c.args.address c.args.starts.now e) c.requires

some-room : (c : Start) → (length c.args.starts.now ≡ 0 → ⊥) → Fits c.args.out.now c.args.at (reads_line c.args.address c.args.starts.now)
some-room c e = subst (Fits c.args.out.now c.args.at) (some_reads c.args.address c.args.starts.now e) c.requires

pub put_hex-words-requires : goal.put_hex-words-requires
put_hex-words-requires c = room-first (letters " nothing to read\n") (none-room (goal.at.put_hex-words-requires c).Start c.if-starts-eq0.true)

pub put_text-requires : goal.put_text-requires
put_text-requires c = room_rest c.put_hex-words.ensures (none-room (goal.at.put_text-requires c).Start c.if-starts-eq0.true)

pub returns-then-starts-eq0 : goal.returns-then-starts-eq0
returns-then-starts-eq0 c =
    let a = c.args in
    subst (λ (line : List ℕ). Written a.out.now a.at line c.put_text.new.out c.put_text.result) (sym (no_reads a.address a.starts.now c.if-starts-eq0.true))
    (followed c.put_hex-words.ensures c.put_text.ensures)

pub put_reads-requires : goal.put_reads-requires
put_reads-requires c = some-room (goal.at.put_reads-requires c).Start c.if-starts-eq0.false

pub returns : goal.returns
returns c =
    let a = c.args in
    subst (λ (line : List ℕ). Written a.out.now a.at line c.put_reads.new.out c.put_reads.result) (sym (some_reads a.address a.starts.now c.if-starts-eq0.false))
    c.put_reads.ensures
