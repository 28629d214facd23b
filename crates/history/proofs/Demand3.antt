-- Demand 3 of the bytes, as specs/Demand3.antt states it. Assumes nothing.
use Prim.Native.Nat.{ℕ, ◌<◌, ◌≤◌}
use native.Mathlib.Omega.{arith}
use native.Mathlib.Nat.{zero-add}
use mathlib.Core.Path.{◌≡◌, sym, ap, ◌∙◌}
use mathlib.Core.Logic.{◌≢◌}
use mathlib.Core.List.{List, [], ◌∷◌}
use lib.ListN.{get_or, length, length-set}
use lib.Seq.{get_or-set_same, get_or-set_other}
use borrow.Author.Tests.{le-ltb}
use Rattle.laws.specs.Tab.{tab}
use Rattle.std.specs.Prelude.{Some, Ok}
use Rattle.shape.specs.Layout.{count_at, kept_at, depth_at, head_size, size}
use Rattle.shape.specs.Limits.{most_depth}
use Rattle.shape.specs.Head.{modules_of, kept_of, depth_of}
use Rattle.steering.specs.Fresh.{zeroed, fresh_bytes, freshening_with}
use Rattle.questions.specs.Replies.{kept_answer}
use Rattle.history.specs.Standing.{outcome_of, Event, deepest, standing, kept}
use Rattle.history.specs.Machine.{State, Step, fresh, step, run}
use Rattle.history.specs.Demand3.{run_bytes, Demand3}
use Rattle.history.specs.Refinement.{entries, state_of, Good, Refines}
use Rattle.history.proofs.Shows.{Shows}
use Rattle.history.proofs.Machine.{shown-after, machine_agrees, sound}
use Rattle.history.proofs.Stores.{laid-within, laid_at, zeroed_lays}
use Rattle.history.proofs.Parts.{state_is, kept_is}
use Rattle.history.proofs.Steps.{one-step}
use Rattle.history.proofs.Asked.{listed-told, tells}

-- ---- a fresh picture
module _ (b : List ℕ) (whole : size ≤ length b) (d : ℕ) (allowed : d ≤ deepest) where
  abbrev blank : List ℕ
  blank = zeroed b head_size

  abbrev made : List ℕ
  made = fresh_bytes b d

  blank_whole : size ≤ length blank
  blank_whole = rw (laid-within (zeroed_lays b) head_size).long whole

  fresh_bytes_lem : (freshening_with b d).buffer ≡ made
  unfolding freshening_with
  fresh_bytes_lem = rw (le-ltb (length b) size whole, le-ltb most_depth d allowed)

  -- a byte of the head but the depth is 0
  head_zero : (o : ℕ) → o < head_size → o ≢ depth_at → get_or made o 0 ≡ 0
  head_zero o l n = get_or-set_other blank depth_at o d 0 n ∙ (rw zero-add at (laid_at (zeroed_lays b) head_size o l (omega arith)))

  no_module : modules_of made ≡ 0
  unfolding modules_of
  no_module = rw (head_zero count_at (omega arith) (omega arith))

  nothing_kept_lem : kept_of made ≡ 0
  unfolding kept_of
  nothing_kept_lem = head_zero kept_at (omega arith) (omega arith)

  depth_made : depth_of made ≡ d
  unfolding depth_of
  depth_made = get_or-set_same blank depth_at d 0 (omega (arith, blank_whole))

  fresh_good : Good made
  fresh_good =
      record {
        whole = rw length-set blank_whole;
        small = λ s h. absurd (omega (arith, no_module));
        table = λ s h. absurd (omega (arith, no_module));
      }

  fresh_state : state_of made ≡ fresh
  unfolding tab entries
  fresh_state = state_is made [] [] (rw no_module) (rw nothing_kept_lem)

  -- ---- the bytes follow the machine
  record Follows (h : List Event) : Type 0 where
    good : Good (run_bytes b d h)
    depth : depth_of (run_bytes b d h) ≡ d
    state : state_of (run_bytes b d h) ≡ run d h

  refines : (h : List Event) → Follows h → (e : Event) → Refines e (run_bytes b d h)
  refines h i e = one-step e (run_bytes b d h) i.good (rw i.depth allowed) (rw (i.depth, i.state) (sound d h))

  -- what the machine does from there
  abbrev next : List Event → Event → Step
  next h e = step (depth_of (run_bytes b d h)) e (state_of (run_bytes b d h))

  next_is : (h : List Event) → Follows h → (e : Event) → next h e ≡ step d e (run d h)
  next_is h i e = rw (i.depth, i.state)

  follows : (h : List Event) → Follows h
  unfolding run_bytes run
  follows [] = record { good = rw fresh_bytes_lem fresh_good; depth = rw fresh_bytes_lem depth_made; state = rw fresh_bytes_lem fresh_state }
  follows (e ∷ h) =
      let i = follows h in
      let m = refines h i e in
      record { good = m.good; depth = m.depth ∙ i.depth; state = m.state ∙ ap (λ (s : Step). s.state) (next_is h i e) }

  shows_after : (h : List Event) → Shows (state_of (run_bytes b d h)).modules (standing d h)
  shows_after h = rw (follows h).state (shown-after d h)

kept-told : (b : List ℕ) (n : ℕ) → size ≤ length b → kept_of b ≡ n → kept_answer b ≡ Ok (Some n)
unfolding kept_answer
kept-told b n l e = rw (le-ltb (length b) size l, e)

pub demand_3 : Demand3
demand_3 b whole d allowed h =
    let i = follows b whole d allowed h in
    let m = machine_agrees d h in
    let shown = shows_after b whole d allowed h in
    record {
      count =
          kept-told (run_bytes b d h) (kept d h) i.good.whole (sym (kept_is (run_bytes b d h)) ∙ ap (λ (s : State). length s.log) i.state ∙ m.count);
      addresses_listed = listed-told (run_bytes b d h) (standing d h) i.good shown;
      each = tells (run_bytes b d h) (standing d h) i.good shown;
      next =
          λ e.
          (refines b whole d allowed h i e).answer
          ∙ ap (λ (s : Step). outcome_of s.answer) (next_is b whole d allowed h i e)
          ∙ ap outcome_of (m.next e);
    }
