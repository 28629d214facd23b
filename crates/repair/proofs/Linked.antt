-- The fault of each row's command is the first of the table's lines that is not met.
--     open_lines         a byte that each line leaves, whatever stands to its left
--     all_ordered        the lines of each row rise, behind the command and within the row's length
--     timely             the bytes of a time always read as a legal one
--     linked             the fault of a listed command, by the lines
-- Assumes nothing.
use Prim.Native.Nat.{ℕ, suc, ◌+◌, ◌*◌, ◌/◌, ◌≤◌, ◌<◌}
use native.Mathlib.Omega.{arith}
use mathlib.Core.Path.{◌≡◌, refl, sym, ap, ◌∙◌}
use mathlib.Core.List.{List, [], ◌∷◌, map, tail}
use mathlib.Core.Bool.{Bool, true, false, not, ◌||◌, cond, or-true}
use lib.ListN.{get_or, drop}
use lib.Seq.{get_or-take}
use lib.Dec.{eqb, leb, ltb, leb-suc-suc, lit<}
use borrow.Author.Tests.{eqb-true, eqb-false, le-leb, lt-leb}
use Rattle.laws.specs.Limits.{AllBytes}
use Rattle.laws.specs.Tests.{among, unless, first_for}
use Rattle.laws.proofs.Keys.{below}
use Rattle.laws.proofs.Testing.{◌&◌, AllOf, not_both, among-each, same, same_is}
use Rattle.kinds.specs.Types.{vmb1bl, vmb8ir, vmb2bl, two_blind_channels, module_types, position_in, blind_of, Entry, line_of, rows_of, find, row_for, is_listed}
use Rattle.frame.specs.Bytes.{byte}
use Rattle.kinds.specs.Bits.{one_bit}
use Rattle.frame.specs.Messages.{Reader, readers, unlisted, location_in, time_of, permanent, type_command}
use Rattle.fields.specs.Fields.{location_fault, time_allowed, buttons_allowed, unions, asked_allowed, blind_states, fault}
use Rattle.frame.specs.declared.messages.Time.TheVariants.{DipSwitch, Permanently, Seconds}
use Rattle.frame.specs.declared.messages.Command.{Command}
use Rattle.kinds.proofs.Listed.{of-listed, listed_module}
use Rattle.fields.proofs.Unions.{tested, union_tested}
use Rattle.repair.specs.Allowed.{lines, lines_for, blind, blinds, together2}
use Rattle.repair.proofs.Mending.{first_unmet, rising, Leaves, leaving, Each, end, ◌▸◌}

either_way : (b : Bool) → cond b true true ≡ true
either_way true = refl
either_way false = refl

pub open_lines : Each Leaves lines
open_lines =
    leaving 0 (lit< tt) (λ left. refl)
    ▸ leaving 0 (lit< tt) (λ left. refl)
    ▸ leaving 0 (lit< tt) (λ left. refl)
    ▸ leaving 0 (lit< tt) (λ left. refl)
    ▸ leaving 0 (lit< tt) (λ left. refl)
    ▸ leaving 0 (lit< tt) (λ left. refl)
    ▸ leaving 1 (lit< tt) (λ left. refl)
    ▸ leaving 0x03 (lit< tt) (λ left. refl)
    ▸ leaving 0x03 (lit< tt) (λ left. refl)
    ▸ leaving 1 (lit< tt) (λ left. refl)
    ▸ leaving 0x03 (lit< tt) (λ left. refl)
    ▸ leaving 0x03 (lit< tt) (λ left. refl)
    ▸ leaving 0xFF (lit< tt) (λ left. or-true (among (byte 2 left) blind))
    ▸ leaving 0xFF (lit< tt) (λ left. or-true (among (byte 2 left) blinds))
    ▸ leaving 0x03 (lit< tt) (λ left. refl)
    ▸ leaving 0x03 (lit< tt) (λ left. refl)
    ▸ leaving 0 (lit< tt) (λ left. refl)
    ▸ leaving 0 (lit< tt) (λ left. refl)
    ▸ leaving 0 (lit< tt) (λ left. refl)
    ▸ leaving 0 (lit< tt) (λ left. refl)
    ▸ leaving 0 (lit< tt) (λ left. either_way (eqb (byte 2 left) 0x0C))
    ▸ leaving 0 (lit< tt) (λ left. refl)
    ▸ leaving 0 (lit< tt) (λ left. refl)
    ▸ leaving 0 (lit< tt) (λ left. refl)
    ▸ leaving 0 (lit< tt) (λ left. refl)
    ▸ end

pub all_ordered : (kind c : ℕ) → is_listed kind c ≡ true → rising 1 (row_for kind c).0 (lines_for kind c) ≡ true
all_ordered = of-listed (λ kind c r. rising 1 r.0 (lines_for kind c)) refl

-- a location of a type that has no more cells than a byte counts
located : (last : ℕ) (s : List ℕ) → last < 256 → AllBytes s → location_fault last (location_in s) ≡ unless (eqb (byte 2 s) 0) 2 (unless (leb (byte 3 s) last) 3 0)
located last s few small = go (eqb (byte 2 s) 0) refl
  where
    go :
        (b : Bool) → eqb (byte 2 s) 0 ≡ b →
        unless (leb ((256 * byte 2 s + byte 3 s) / 256) (last / 256)) 2 (unless (leb (256 * byte 2 s + byte 3 s) last) 3 0)
        ≡ unless b 2 (unless (leb (byte 3 s) last) 3 0)
    go true e =
        let z = eqb-true (byte 2 s) 0 e in
        let q : 256 * byte 2 s + byte 3 s ≡ byte 3 s = omega arith in
        rw (q, le-leb (byte 3 s / 256) (last / 256) (omega (arith, small 2)))
    go false e =
        let z = eqb-false (byte 2 s) 0 e in
        rw (lt-leb ((256 * byte 2 s + byte 3 s) / 256) (last / 256) (omega (arith, z)))

pub timely : (n : ℕ) → n ≤ permanent → time_allowed (time_of n) ≡ true
timely n h = go (eqb n 0) (eqb n permanent) refl refl
  where
    go : (a b : Bool) → eqb n 0 ≡ a → eqb n permanent ≡ b → time_allowed (cond a DipSwitch (cond b Permanently (Seconds n))) ≡ true
    go true b e f = refl
    go false true e f = refl
    go false false e f =
        let p = eqb-false n 0 e in
        let q = eqb-false n permanent f in
        rw (le-leb 1 n (omega arith), le-leb n 16777214 (omega arith))

-- the bytes s read as the command c, and what is at fault then
abbrev read_as : ℕ → List ℕ → Command
read_as c s = first_for (λ (r : Reader). r.command) (λ (r : Reader). r.reads s) unlisted readers c

abbrev fault_as : ℕ → List ℕ → ℕ → ℕ
fault_as kind s c = fault kind (read_as c s)

abbrev first_as : ℕ → List ℕ → ℕ → ℕ
first_as kind s c = first_unmet (lines_for kind c) s

abbrev Linked : ℕ → List ℕ → ℕ → Type 0
Linked kind s c = (c ≡ type_command → byte 2 s ≡ kind) → fault_as kind s c ≡ first_as kind s c

-- the commands of a type's list
abbrev commands_in : List Entry → List ℕ
commands_in es = map (λ (e : Entry). e.command) es

listed-among : (c : ℕ) (es : List Entry) → not (eqb (find es c).0 0) ≡ true → among c (commands_in es) ≡ true
listed-among c [] h = not_both h
listed-among c (e ∷ es) h = go (eqb c e.command) (listed-among c es) h
  where
    go :
        (b : Bool) → (not (eqb (find es c).0 0) ≡ true → among c (commands_in es) ≡ true) →
        not (eqb (cond b e.listed (find es c)).0 0) ≡ true → cond b true (among c (commands_in es)) ≡ true
    go true later h = refl
    go false later h = later h

same_over : (kind : ℕ) (s cs : List ℕ) → map (fault_as kind s) cs ≡ map (first_as kind s) cs → AllOf (Linked kind s) cs
same_over kind s [] q = tt
same_over kind s (c ∷ cs) q = ((λ o. ap (λ (l : List ℕ). get_or l 0 0) q), same_over kind s cs (ap tail q))

-- ---- fields that the definition of a fault says of any blind

-- a blind's time-outs: below a number, or at most one less
at_most : (x n : ℕ) → ltb x (suc n) ≡ leb x n
at_most x n = leb-suc-suc x n

-- names of H'09' asked for together
unions_two : (x : ℕ) → x < 256 → among x (unions two_blind_channels) ≡ together2 [] x
unfolding line_of
unions_two x h =
    sym (union_tested vmb2bl x (λ e. omega arith) h)
    ∙ same_is _ _ (below (λ x. same (tested two_blind_channels x) (together2 [] x)) 256 refl x h)

-- EC's byte 4, behind a blind at byte 2
first-states : (x : ℕ) → x < 256 → among x (blind_states 1) ≡ leb x 2
first-states x h = same_is _ _ (below (λ x. same (among x (blind_states 1)) (leb x 2)) 256 refl x h)

module _ (channel x : ℕ) (timeout : Bool) (later : ℕ) where
  states-one :
      x < 256 →
      unless (among channel blind) 2 (unless timeout 3 (unless (among x (blind_states (blind_of vmb1bl channel))) 4 later))
      ≡ unless (among channel blind) 2 (unless timeout 3 (unless (leb x 2) 4 later))
  unfolding line_of position_in blind_of
  states-one h = go (eqb channel 0x03)
    where
      go :
          (b : Bool) →
          unless (cond b true false) 2 (unless timeout 3 (unless (among x (blind_states (suc (cond b 0 1)))) 4 later))
          ≡ unless (cond b true false) 2 (unless timeout 3 (unless (leb x 2) 4 later))
      go true = rw (first-states x h)
      go false = refl

  states_two :
      unless (among channel blinds) 2 (unless timeout 3 (unless (among x (blind_states (blind_of vmb2bl channel))) 4 later))
      ≡ unless (among channel blinds) 2 (unless timeout 3 (unless (cond (eqb channel 0x0C) (among x (0 ∷ 4 ∷ 8 ∷ [])) (among x (0 ∷ 1 ∷ 2 ∷ []))) 4 later))
  unfolding line_of position_in blind_of
  states_two = go (eqb channel 0x03) (eqb channel 0x0C) (eqb-true channel 0x03) (eqb-true channel 0x0C)
    where
      go :
          (a b : Bool) → (a ≡ true → channel ≡ 0x03) → (b ≡ true → channel ≡ 0x0C) →
          unless (cond a true (cond b true false)) 2
          (unless timeout 3 (unless (among x (blind_states (suc (cond a 0 (suc (cond b 0 1)))))) 4 later))
          ≡ unless (cond a true (cond b true false)) 2
          (unless timeout 3 (unless (cond b (among x (0 ∷ 4 ∷ 8 ∷ [])) (among x (0 ∷ 1 ∷ 2 ∷ []))) 4 later))
      go true true p q = absurd (let z = p refl in let w = q refl in omega arith)
      go true false p q = refl
      go false true p q = refl
      go false false p q = refl

-- a clause for each type: H'FF', its first row, knows the type inside it; the other rows are one equation, which antt computes but for locations,
-- times and what stands to the left of a byte
linked_ir : (s : List ℕ) → AllBytes s → AllOf (Linked vmb8ir s) (commands_in (rows_of vmb8ir))
unfolding line_of rows_of buttons_allowed asked_allowed
linked_ir s small =
    ((λ o. rw (o refl)), same_over vmb8ir s (drop 1 (commands_in (rows_of vmb8ir))) (rw (located 0xFF s (lit< tt) small, located 0xFC s (lit< tt) small)))

linked_bl : (s : List ℕ) → AllBytes s → AllOf (Linked vmb1bl s) (commands_in (rows_of vmb1bl))
unfolding line_of rows_of buttons_allowed asked_allowed
linked_bl s small =
    let time = timely (65536 * byte 3 s + 256 * byte 4 s + byte 5 s) (omega (arith, small 2, small 3, small 4)) in
    let left = get_or-take 5 s 1 0 (omega arith) in
    let state = states-one (byte 2 s) (byte 4 s) (leb (byte 3 s) 3) (unless (eqb (byte 5 s) 0 || one_bit (byte 5 s)) 5 0) (small 3) in (
      (λ o. rw (o refl, at_most (byte 3 s) 3)),
      same_over vmb1bl s (drop 1 (commands_in (rows_of vmb1bl)))
          (rw (located 0x7F s (lit< tt) small, located 0x7C s (lit< tt) small, time, left, state)),
    )

linked_two : (s : List ℕ) → AllBytes s → AllOf (Linked vmb2bl s) (commands_in (rows_of vmb2bl))
unfolding line_of rows_of buttons_allowed asked_allowed
linked_two s small =
    let time = timely (65536 * byte 3 s + 256 * byte 4 s + byte 5 s) (omega (arith, small 2, small 3, small 4)) in
    let left = get_or-take 5 s 1 0 (omega arith) in
    let named = get_or-take 3 s 1 0 (omega arith) in
    let state = states_two (byte 2 s) (byte 4 s) (leb (byte 3 s) 3) (unless (eqb (byte 5 s) 0 || one_bit (byte 5 s)) 5 0) in (
      (λ o. rw (o refl, at_most (byte 3 s) 15)),
      same_over vmb2bl s (drop 1 (commands_in (rows_of vmb2bl)))
          (rw (located 0xFF s (lit< tt) small, located 0xFC s (lit< tt) small, time, left, named, state, unions_two (byte 2 s) (small 1))),
    )

pub linked : (kind c : ℕ) (s : List ℕ) → AllBytes s → is_listed kind c ≡ true → Linked kind s c
linked kind c s small listed =
    among-each (Linked kind s) c (commands_in (rows_of kind))
    (among-each (λ k. AllOf (Linked k s) (commands_in (rows_of k))) kind module_types (linked_bl s small & linked_ir s small & linked_two s small & tt) (listed_module kind c listed))
    (listed-among c (rows_of kind) listed)
