-- The slot that the table gives is the slot of the module found in order. Assumes nothing.
use Prim.Native.Nat.{ℕ, zero, suc, ◌<◌}
use native.Mathlib.Omega.{arith}
use mathlib.Core.Path.{◌≡◌, refl, sym, ap, ◌∙◌}
use mathlib.Core.Bool.{Bool, true, false, cond, ◌&&◌}
use mathlib.Core.List.{List, [], ◌∷◌}
use mathlib.Core.Option.{none, some}
use lib.Dec.{eqb, ltb}
use lib.ListN.{get_or, length}
use borrow.Author.Tests.{eqb-true, ltb-true, lt-ltb, eq-eqb}
use Rattle.laws.specs.Tab.{tab}
use Rattle.laws.proofs.Tab.{length-tab, get_d_tab}
use Rattle.laws.proofs.Testing.{and_both}
use Rattle.kinds.specs.Types.{no_type}
use Rattle.shape.specs.Layout.{slot_at, record_at, kind_at}
use Rattle.shape.specs.Limits.{room}
use Rattle.shape.specs.Head.{modules_of, no_slot, believed, slot_of, kind_in}
use Rattle.history.specs.Machine.{Module, nobody, find, slot}
use Rattle.history.specs.Refinement.{module_at, state_of, Good}
use Rattle.history.proofs.Modules.{none_some, find-slot, slot_lt, find-address}
use Rattle.history.proofs.Parts.{modules_few}

-- where nothing is found, no module has the address
none_has : (ms : List Module) (a s : ℕ) → find ms a ≡ none → s < length ms → (get_or ms s nobody).address ≡ a → ⊥
unfolding find
none_has [] a s e h q = absurd (omega arith)
none_has (m ∷ ms) a s e h q = go (eqb m.address a) refl s e h q (none_has ms a)
  where
    go : (c : Bool) → eqb m.address a ≡ c → (s : ℕ) → cond c (some m) (find ms a) ≡ none → s < suc (length ms) → (get_or (m ∷ ms) s nobody).address ≡ a
        → ((s : ℕ) → find ms a ≡ none → s < length ms → (get_or ms s nobody).address ≡ a → ⊥) → ⊥
    go true t s e h q ih = none_some (sym e)
    go false t zero e h q ih = let z : true ≡ false = sym (eq-eqb m.address a q) ∙ t in let o : ◌≡◌ {A = ℕ} 0 1 = cc in omega arith
    go false t (suc s) e h q ih = ih s e (omega arith) q

module _ (b : List ℕ) where
  address_is : (s : ℕ) → (module_at b s).address ≡ get_or b (record_at s) 0
  unfolding module_at
  address_is s = refl

  kind_is : (s : ℕ) → (module_at b s).kind ≡ get_or b (kind_at s) 0
  unfolding module_at
  kind_is s = refl

  modules_are : (state_of b).modules ≡ tab (modules_of b) (module_at b)
  unfolding state_of
  modules_are = refl

  pub count_is : length (state_of b).modules ≡ modules_of b
  count_is = rw modules_are (length-tab (modules_of b) (module_at b))

  in_slot : (s : ℕ) → s < modules_of b → get_or (state_of b).modules s nobody ≡ module_at b s
  in_slot s h = rw modules_are (get_d_tab (modules_of b) (module_at b) s nobody h)

  -- where an address is unlisted, no record below the number of modules has it
  pub unlisted : (a : ℕ) → find (state_of b).modules a ≡ none → (s : ℕ) → s < modules_of b → get_or b (record_at s) 0 ≡ a → ⊥
  unlisted a e s h q =
      none_has (state_of b).modules a s e (rw count_is h) (ap (λ (m : Module). m.address) (in_slot s h) ∙ address_is s ∙ q)

  pub slot-none : (a : ℕ) → find (state_of b).modules a ≡ none → slot_of b a ≡ no_slot
  unfolding slot_of believed
  slot-none a e = go (ltb (get_or b (slot_at a) 0) (modules_of b) && eqb (get_or b (record_at (get_or b (slot_at a) 0)) 0) a) refl
    where
      go : (c : Bool) → (ltb (get_or b (slot_at a) 0) (modules_of b) && eqb (get_or b (record_at (get_or b (slot_at a) 0)) 0) a) ≡ c → cond c (get_or b (slot_at a) 0) no_slot ≡ no_slot
      go true t =
          let f = and_both (ltb (get_or b (slot_at a) 0) (modules_of b)) (eqb (get_or b (record_at (get_or b (slot_at a) 0)) 0) a) t in
          absurd (unlisted a e (get_or b (slot_at a) 0) (ltb-true _ _ f.0) (eqb-true _ _ f.1))
      go false t = refl

  -- the slot of a module that is found
  pub record Slot (a : ℕ) (m : Module) : Type 0 where
    pub there : slot (state_of b).modules a < modules_of b
    pub holds : module_at b (slot (state_of b).modules a) ≡ m
    pub own : get_or b (record_at (slot (state_of b).modules a)) 0 ≡ a
    pub table_has : slot_of b a ≡ slot (state_of b).modules a
    pub kind_has : kind_in b (slot (state_of b).modules a) ≡ m.kind

  pub slot_some : Good b → (a : ℕ) (m : Module) → find (state_of b).modules a ≡ some m → Slot a m
  unfolding slot_of believed kind_in
  slot_some good a m e =
      let there : slot (state_of b).modules a < modules_of b = rw count_is at (slot_lt (state_of b).modules a m e) in
      let holds : module_at b (slot (state_of b).modules a) ≡ m = sym (in_slot (slot (state_of b).modules a) there) ∙ find-slot (state_of b).modules a m e in
      let own : get_or b (record_at (slot (state_of b).modules a)) 0 ≡ a =
      sym (address_is (slot (state_of b).modules a)) ∙ ap (λ (m : Module). m.address) holds ∙ find-address (state_of b).modules a m e in
      let table : get_or b (slot_at a) 0 ≡ slot (state_of b).modules a = rw own at (good.table (slot (state_of b).modules a) there) in
      record {
        there = there;
        holds = holds;
        own = own;
        table_has = rw (table, lt-ltb _ _ there, eq-eqb _ _ own);
        kind_has =
            rw (lt-ltb (slot (state_of b).modules a) room (omega (arith, modules_few b)))
            (sym (kind_is (slot (state_of b).modules a)) ∙ ap (λ (m : Module). m.kind) holds);
      }

  pub kind_none : kind_in b no_slot ≡ no_type
  unfolding kind_in
  kind_none = refl
