-- Every question on the bytes is answered as the standing frames tell, where the machine's modules show what they tell. Assumes nothing.
use Prim.Native.Nat.{ℕ, zero, suc, ◌+◌, ◌*◌, ◌/◌, ◌%◌, ◌<◌, ◌≤◌}
use native.Mathlib.Omega.{arith}
use mathlib.Core.Path.{◌≡◌, refl, sym, ap, ◌∙◌}
use mathlib.Core.Bool.{Bool, true, false, cond, ◌&&◌}
use mathlib.Core.List.{List}
use mathlib.Core.Option.{Option, none, some}
use lib.Dec.{eqb, ltb, leb}
use lib.ListN.{get_or}
use borrow.Author.Tests.{ltb-true, lt-ltb, leb-true}
use Rattle.laws.specs.Tab.{tab}
use Rattle.laws.proofs.Tab.{get_d_tab, tab_ext}
use Rattle.kinds.specs.Types.{extent_of}
use Rattle.shape.specs.Answers.{Answer}
use Rattle.std.specs.Prelude.{Some, None, Ok}
use Rattle.shape.specs.Limits.{room, addresses}
use Rattle.places.specs.Places.{places, nowhere, year_place, week_place, led_place, blind_place, character_place, cell_place, cell_asked, led_asked, blind_asked, has_name, Row, row_of_name, cell_row}
use Rattle.shape.specs.Layout.{place_at}
use Rattle.shape.specs.Head.{no_slot, slot_of, kind_in}
use Rattle.places.proofs.Fitting.{extents_small, first_small}
use Rattle.questions.specs.Question.{Question, type_of, build_year, build_week, cell, led, blind, name_row, name_bytes, memory_row, memory_bytes, Reply, answering}
use Rattle.questions.specs.Fills.{value_at, heard_at, row_number, low_first as byte_of, numbers_fill, bytes_fill, sum_to, heard_in}
use Rattle.questions.specs.Replies.{slot_asked, place_reply, reply_as, reply_in, reply, listed_if, listing}
use Rattle.history.specs.Standing.{Frame, Known, unknown, told, standing_type, latest}
use Rattle.history.specs.Asked.{answer_of, number_of, heard_of, one_to, told_if, over_row, each_of, low_first, count_told, name_size, told_as, told_reply, yes_if, told_listed}
use Rattle.history.specs.Demand3.{Tells}
use Rattle.history.specs.Machine.{Module, find, slot}
use Rattle.history.specs.Refinement.{cell_of, cell_at, module_at, state_of, Good}
use Rattle.history.proofs.Modules.{none_some}
use Rattle.history.proofs.Shows.{Shows}
use Rattle.history.proofs.Parts.{modules_few, enough}
use Rattle.history.proofs.Found.{slot-none, slot_some}
use Rattle.history.proofs.Fills.{filling-over}

-- ---- the two bytes of a place that holds k
record Holds (v t : ℕ) (k : Known) : Type 0 where
  answer : cond (eqb v 0 && eqb t 1) (Ok None) (Ok (Some (v + 256 * t))) ≡ answer_of k
  number : v + 256 * t ≡ number_of k
  heard : cond (eqb t 0) 1 0 ≡ heard_of k

cell_holds : (v t : ℕ) (k : Known) → cell_of v t ≡ some k → Holds v t k
cell_holds v zero k e =
    let q : told v ≡ k = cc in
    rw (← q) (record { answer = go (eqb v 0); number = omega arith; heard = refl })
  where
    go : (c : Bool) → ◌≡◌ {A = Answer} (cond (c && false) (Ok None) (Ok (Some (v + 0)))) (Ok (Some v))
    go true = ap (λ (x : ℕ). Ok (Some x)) (omega arith)
    go false = ap (λ (x : ℕ). Ok (Some x)) (omega arith)
cell_holds zero (suc zero) k e = let q : unknown ≡ k = cc in rw (← q) (record { answer = refl; number = refl; heard = refl })
cell_holds zero (suc (suc t)) k e = absurd (none_some e)
cell_holds (suc v) (suc t) k e = absurd (none_some e)

-- ---- rows
-- a sum of what is heard counts what is told
sum_counts : (f : ℕ → ℕ) (known : ℕ → Known) (n : ℕ) → ((i : ℕ) → i < n → f i ≡ heard_of (known i)) → sum_to f n ≡ count_told n known
unfolding sum_to count_told
sum_counts f known zero h = refl
sum_counts f known (suc n) h = rw (sum_counts f known n (λ i l. h i (omega arith)), h n (omega arith))

-- numbers in two bytes each, one byte at a time
two_bytes : (n : ℕ) (f : ℕ → ℕ) → tab (2 * n) (byte_of f) ≡ low_first (tab n f)
unfolding tab low_first
two_bytes zero f = refl
two_bytes (suc n) f =
    let twice : 2 * suc n ≡ suc (suc (2 * n)) = omega arith in
    rw (twice, tab_ext (2 * n) (λ j. byte_of f (suc (suc j))) (byte_of (λ i. f (suc i))) (λ j l. later j), two_bytes n (λ i. f (suc i)))
  where
    later : (j : ℕ) → byte_of f (suc (suc j)) ≡ byte_of (λ i. f (suc i)) j
    later j =
        let even : suc (suc j) % 2 ≡ j % 2 = omega arith in
        let half : suc (suc j) / 2 ≡ suc (j / 2) = omega arith in
        rw (even, half)

-- ---- the module in slot s, of whose places `known` tells
module _ (b : List ℕ) (s : ℕ) (known : ℕ → Known) (cells : (p : ℕ) → p < places → cell_at b (place_at s p) ≡ some (known p)) where
  holds : (p : ℕ) → p < places → Holds (get_or b (place_at s p) 0) (get_or b (place_at s p + 1) 0) (known p)
  unfolding cell_at
  holds p l = cell_holds _ _ (known p) (cells p l)

  place-told : (p : ℕ) (out : List ℕ) → p < places → place_reply b s p out ≡ answering (answer_of (known p)) out
  unfolding place_reply
  place-told p out l = rw (lt-ltb p places l) (ap (λ (x : Answer). answering x out) (holds p l).answer)

  -- a place that the type may not have
  place_if : (has : Bool) (p : ℕ) (out : List ℕ) → (has ≡ true → p < places) → place_reply b s (cond has p nowhere) out ≡ told_if has (known p) out
  unfolding place_reply
  place_if true p out h = place-told p out (h refl)
  place_if false p out h = refl

  -- a row of its places
  module _ (row : Row) (place : ℕ → ℕ) (at : (i : ℕ) → row.start + i ≡ place i) (inside : (i : ℕ) → i < row.count → place i < places) where
    number-told : (i : ℕ) → i < row.count → row_number b s row i ≡ number_of (known (place i))
    number-told i l = ap (λ (p : ℕ). value_at b (place_at s p)) (at i) ∙ (holds (place i) (inside i l)).number

    numbers-told : (v : ℕ) (out : List ℕ) → numbers_fill v b s row out ≡ over_row v (each_of number_of row.count (λ i. known (place i))) out
    unfolding numbers_fill
    numbers-told v out = filling-over v (row_number b s row) (λ i. number_of (known (place i))) row.count out number-told

    bytes-told : (v : ℕ) (out : List ℕ) → bytes_fill v b s row out ≡ over_row v (low_first (each_of number_of row.count (λ i. known (place i)))) out
    unfolding bytes_fill
    bytes-told v out =
        filling-over v (byte_of (row_number b s row)) (byte_of (λ i. number_of (known (place i)))) (2 * row.count) out
        (λ j l. ap (λ (n : ℕ). cond (eqb (j % 2) 0) (n % 256) (n / 256)) (number-told (j / 2) (omega arith)))
        ∙ ap (λ (x : List ℕ). over_row v x out) (two_bytes row.count (λ i. number_of (known (place i))))

    -- and how many of them are told
    count-told : heard_in b s row ≡ count_told row.count (λ i. known (place i))
    count-told =
        sum_counts (λ i. heard_at b (place_at s (row.start + i))) (λ i. known (place i)) row.count
        (λ i l. ap (λ (p : ℕ). heard_at b (place_at s p)) (at i) ∙ (holds (place i) (inside i l)).heard)

  -- by the type
  counted : (most n : ℕ) → one_to most n ≡ true → n ≤ most
  counted most n e = go (leb 1 n) (leb n most) refl e
    where
      go : (c d : Bool) → leb n most ≡ d → (c && d) ≡ true → n ≤ most
      go true true q e = leb-true n most q
      go true false q e = absurd (let z : ◌≡◌ {A = ℕ} 0 1 = cc in omega arith)
      go false d q e = absurd (let z : ◌≡◌ {A = ℕ} 0 1 = cc in omega arith)

  if_named : (has : Bool) (x y z : Reply) → (has ≡ true → x ≡ y) → cond has x z ≡ cond has y z
  if_named true x y z h = h refl
  if_named false x y z h = refl

  module _ (kind : ℕ) where
    abbrev character : ℕ → ℕ → ℕ
    character n i = character_place kind n (i + 1)

    named : (n : ℕ) → one_to (extent_of kind).names n ≡ true → (i : ℕ) → i < name_size → character n i < places
    named n e i l = omega (arith, counted (extent_of kind).names n e, (extents_small kind).names_small, first_small kind)

    as-told : (q : Question) (out : List ℕ) → reply_as b s kind q out ≡ told_as kind known q out
    unfolding reply_as told_as cell_asked led_asked blind_asked has_name
    as-told type_of out = refl
    as-told build_year out = place-told year_place out (omega arith)
    as-told build_week out = place-told week_place out (omega arith)
    as-told (cell location) out =
        let few = (extent_of kind).cells in
        place_if (ltb location few) (cell_place kind location) out (λ e. omega (arith, ltb-true location few e, (extents_small kind).cells_small))
    as-told (led n) out =
        let few = (extent_of kind).leds in
        place_if (one_to few n) (led_place n) out (λ e. omega (arith, counted few n e, (extents_small kind).leds_small))
    as-told (blind n) out =
        let few = (extent_of kind).blinds in
        place_if (one_to few n) (blind_place n) out (λ e. omega (arith, counted few n e, (extents_small kind).blinds_small))
    as-told (name_row n) out =
        if_named (one_to (extent_of kind).names n) _ _ _
        (λ e. rw (count-told (row_of_name kind n) (character n) (λ i. omega arith) (named n e)) (numbers-told (row_of_name kind n) (character n) (λ i. omega arith) (named n e) _ out))
    as-told (name_bytes n) out =
        if_named (one_to (extent_of kind).names n) _ _ _
        (λ e. rw (count-told (row_of_name kind n) (character n) (λ i. omega arith) (named n e)) (bytes-told (row_of_name kind n) (character n) (λ i. omega arith) (named n e) _ out))
    as-told memory_row out = numbers-told (cell_row kind) (cell_place kind) (λ i. omega arith) (λ i l. omega (arith, (extents_small kind).cells_small)) 0 out
    as-told memory_bytes out = bytes-told (cell_row kind) (cell_place kind) (λ i. omega arith) (λ i l. omega (arith, (extents_small kind).cells_small)) 0 out

-- ---- the module at an address
record Seen (b : List ℕ) (S : List Frame) (a s kind : ℕ) : Type 0 where
  small : a < addresses
  there : s < room
  slot_is : slot_of b a ≡ s
  kind_is : kind_in b s ≡ kind
  type_is : standing_type S a ≡ some kind
  cells_are : (p : ℕ) → p < places → cell_at b (place_at s p) ≡ some (latest S a p)

module _ (b : List ℕ) (S : List Frame) (good : Good b) (shown : Shows (state_of b).modules S) where
  place_held : (s p : ℕ) (m : Module) → module_at b s ≡ m → p < places → cell_at b (place_at s p) ≡ get_or m.places p none
  unfolding module_at
  place_held s p m h l = sym (get_d_tab places (λ q. cell_at b (place_at s q)) p none l) ∙ ap (λ (x : Module). get_or x.places p none) h

  seen : (a : ℕ) (m : Module) → find (state_of b).modules a ≡ some m → Seen b S a (slot (state_of b).modules a) m.kind
  seen a m e =
      let at = slot_some b good a m e in
      let fits = rw e at (shown.each a) in
      record {
        small = rw at.own at (good.small (slot (state_of b).modules a) at.there);
        there = omega (arith, at.there, modules_few b);
        slot_is = at.table_has;
        kind_is = at.kind_has;
        type_is = fits.kind_is;
        cells_are = λ p l. place_held (slot (state_of b).modules a) p m at.holds l ∙ fits.holds p l;
      }

  type_none : (a : ℕ) → find (state_of b).modules a ≡ none → standing_type S a ≡ none
  type_none a e = rw e at (shown.each a)

  -- the slot of an address that is asked for
  asked-none : (a : ℕ) → find (state_of b).modules a ≡ none → slot_asked b a ≡ no_slot
  unfolding slot_asked
  asked-none a e = rw (slot-none b a e) (either (ltb a addresses))
    where
      either : (c : Bool) → cond c no_slot no_slot ≡ no_slot
      either true = refl
      either false = refl

  asked_some : {a s kind : ℕ} → Seen b S a s kind → slot_asked b a ≡ s
  unfolding slot_asked
  asked_some {a} at = rw (lt-ltb a addresses at.small) at.slot_is

  pub tells : (a : ℕ) → Tells b a (standing_type S a) (latest S a)
  unfolding reply reply_in told_reply
  tells a q out = rw (enough b good) (go (find (state_of b).modules a) refl)
    where
      go : (y : Option Module) → find (state_of b).modules a ≡ y → reply_in b (slot_asked b a) q out ≡ told_reply (standing_type S a) (latest S a) q out
      go none e = rw (asked-none a e, type_none a e)
      go (some m) e =
          let at = seen a m e in
          rw (asked_some at, at.type_is, lt-ltb (slot (state_of b).modules a) room at.there, at.kind_is)
          (as-told b (slot (state_of b).modules a) (latest S a) at.cells_are m.kind q out)

  pub listed-told : (out : List ℕ) → listing b out ≡ told_listed S out
  unfolding listing told_listed
  listed-told out = rw (enough b good) (filling-over 0 (listed_if b) (λ a. yes_if (standing_type S a)) addresses out (λ a l. go a (find (state_of b).modules a) refl))
    where
      go : (a : ℕ) (y : Option Module) → find (state_of b).modules a ≡ y → listed_if b a ≡ yes_if (standing_type S a)
      go a none e = rw (slot-none b a e, type_none a e)
      go a (some m) e = let at = seen a m e in rw (at.slot_is, lt-ltb (slot (state_of b).modules a) room at.there, at.type_is)
