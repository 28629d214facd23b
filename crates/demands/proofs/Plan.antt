-- The plan of fewest reads, as specs/Plan.antt states it. Assumes nothing.
use Rattle.std.specs.Prelude.{Ok, Some, None, Err}
use Prim.Native.Nat.{ℕ, suc, ◌+◌, ◌-◌, ◌≤◌, ◌<◌}
use native.Mathlib.Omega.{arith}
use native.Mathlib.Decide.{dec_lt}
use mathlib.Core.Path.{◌≡◌, refl, sym, ap, ◌∙◌}
use mathlib.Core.Bool.{Bool, true, false, cond}
use mathlib.Core.Logic.{◌⊎◌, inl, inr, ⊎_elim}
use mathlib.Core.List.{List, [], ◌∷◌}
use mathlib.Core.Option.{Option, none, some}
use lib.Dec.{ltb}
use lib.ListN.{length, get_or, take}
use borrow.Author.Tests.{lt-ltb, ltb-true, ltb-false}
use Rattle.laws.specs.Limits.{AllBytes}
use Rattle.laws.specs.Refusals.{type_not_known, too_short}
use Rattle.kinds.specs.Types.{cells_of, extent_of}
use Rattle.frame.specs.declared.messages.Command.{Command}
use Rattle.frame.specs.declared.messages.Command.TheVariants.{BlockTold}
use Rattle.frame.specs.declared.messages.Message.TheVariants.{Tells}
use Rattle.shape.specs.Answers.{Answer}
use Rattle.shape.specs.Limits.{room}
use Rattle.places.specs.Places.{cell_place}
use Rattle.shape.specs.Layout.{size}
use Rattle.shape.specs.Head.{short, kind_in}
use Rattle.places.specs.Runs.{Saying, tells, Run, said, telling, meaning_of, meant}
use Rattle.questions.specs.Question.{type_of, cell, Reply, value, refusing}
use Rattle.questions.specs.Replies.{slot_asked, reply_as, reply_in, reply}
use Rattle.history.specs.Standing.{Frame, address, Known, unknown, told, after, sense, standing_type, latest, Event, hear, deepest, standing}
use Rattle.history.specs.Asked.{answer_of, told_as, told_reply}
use Rattle.history.specs.Demand3.{doing, run_bytes, runs_bytes}
use Rattle.history.specs.Effects.{HeardAs}
use Rattle.history.specs.Speaks.{tells_of, Just, Spoken}
use Rattle.history.proofs.Demand3.{demand_3}
use Rattle.history.proofs.Effects.{hears_command}
use Rattle.history.proofs.Speaks.{speaks_of}
use Rattle.reads.specs.Reads.{block, Unknown, Reads, ReadBy, Covers}
use Rattle.reads.specs.Plan.{plan_of, least_reads}
use Rattle.plan.specs.Replies.{memory_in, plan_reply}
use Rattle.reads.proofs.Steps.{inside}
use Rattle.reads.proofs.Fewest.{plan_is_right, plan_fewest, count_is_least, nothing_unknown, quarter_is_enough}
use Rattle.reads.proofs.Starts.{plan_rises, plan_as_asked, only_plan}
use Rattle.reads.proofs.Judged.{judged_right}
use Rattle.plan.proofs.Calls.{row_is_memory, unknown_is_not_heard, row_of_type, written_is_plan, plan_in_bytes, odd_byte_is_no_entry, right_in_bytes_lem, odd_byte_is_no_plan}
use Rattle.demands.specs.Plan.{ReplyTo, RepliesTo, hearing, AllAccepted, AllTold, Pays, PlanPays, Plan}

-- an answer that is a value is no other
not_value : {A : Type 0} (v : ℕ) → ◌≡◌ {A = Answer} (Ok None) (Ok (Some v)) → A
not_value v e = absurd (let z : ◌≡◌ {A = ℕ} 0 1 = cc in omega arith)

refused_not : {A : Type 0} (n v : ℕ) → ◌≡◌ {A = Answer} (Err n) (Ok (Some v)) → A
refused_not n v e = absurd (let z : ◌≡◌ {A = ℕ} 0 1 = cc in omega arith)

-- ---- a picture that answers the question on a type
record Listed (b : List ℕ) (a kind : ℕ) : Type 0 where
  long : size ≤ length b
  slot : slot_asked b a < room
  type : kind_in b (slot_asked b a) ≡ kind

listed : (b : List ℕ) (a kind : ℕ) → (reply b a type_of []).answer ≡ Ok (Some kind) → Listed b a kind
unfolding reply reply_in reply_as
listed b a kind = go (short b) (ltb (slot_asked b a) room) refl refl
  where
    go : (s t : Bool) → short b ≡ s → ltb (slot_asked b a) room ≡ t
        → (cond s (refusing too_short []) (cond t (value (kind_in b (slot_asked b a)) []) (refusing type_not_known []))).answer ≡ Ok (Some kind) → Listed b a kind
    go true t p q e = refused_not too_short kind e
    go false true p q e = record { long = ltb-false (length b) size p; slot = ltb-true (slot_asked b a) room q; type = cc }
    go false false p q e = refused_not type_not_known kind e

-- the question on a cell is answered by a value
abbrev Told : ℕ → List ℕ → ℕ → Type 0
Told a picture c = (v : ℕ) × ((reply picture a (cell c) []).answer ≡ Ok (Some v))

module _ (b : List ℕ) (whole : size ≤ length b) (d : ℕ) (allowed : d ≤ deepest) (a kind : ℕ) where
  -- the answer to the question on a cell after the events
  abbrev cell_after : List Event → ℕ → Answer
  cell_after h c = (reply (run_bytes b d h) a (cell c) []).answer

  type_by : (h : List Event) (t : Option ℕ) → standing_type (standing d h) a ≡ t → (told_reply t (latest (standing d h) a) type_of []).answer ≡ Ok (Some kind) → standing_type (standing d h) a ≡ some kind
  unfolding told_reply told_as
  type_by h none e q = refused_not type_not_known kind q
  type_by h (some k) e q = let same : k ≡ kind = cc in e ∙ ap some same

  type_known : (h : List Event) → (reply (run_bytes b d h) a type_of []).answer ≡ Ok (Some kind) → standing_type (standing d h) a ≡ some kind
  type_known h e = type_by h (standing_type (standing d h) a) refl (sym (ap (λ (r : Reply). r.answer) ((demand_3 b whole d allowed h).each a type_of [])) ∙ e)

  cell-by : (t : Option ℕ) (known : ℕ → Known) (c : ℕ) → t ≡ some kind → c < cells_of kind → (told_reply t known (cell c) []).answer ≡ answer_of (known (cell_place kind c))
  unfolding told_reply told_as extent_of
  cell-by t known c e h = rw (e, lt-ltb c (cells_of kind) h)

  -- ---- one reply heard
  module _ (h : List Event) (here : standing_type (standing d h) a ≡ some kind) (start : ℕ) (f : Frame) (r : ReplyTo kind a start f) where
    command : Command
    command = BlockTold (record { 0 = start }) r.first r.second r.third r.fourth

    run : Run
    run = telling (cell_place kind start) (r.first ∷ r.second ∷ r.third ∷ r.fourth ∷ [])

    heard : HeardAs b d h f (some kind) (λ p. after (said run p) (latest (standing d h) (address f) p))
    unfolding sense meaning_of command run
    heard = hears_command b whole d allowed h f kind command run (ap (standing_type (standing d h)) r.at ∙ here) r.read refl

    accepted : (doing (hear f) (run_bytes b d h)).outcome ≡ Ok tt
    accepted = heard.answer

    still-listed : standing_type (standing d (hear f ∷ h)) a ≡ some kind
    unfolding run_bytes told_reply told_as
    still-listed =
        type_known (hear f ∷ h)
        (ap (λ (x : ℕ). (reply (doing (hear f) (run_bytes b d h)).buffer x type_of []).answer) (sym r.at) ∙ ap (λ (x : Reply). x.answer) (heard.tells type_of []))

    cell-after : (c : ℕ) → c < cells_of kind → cell_after (hear f ∷ h) c ≡ answer_of (after (said run (cell_place kind c)) (latest (standing d h) a (cell_place kind c)))
    unfolding run_bytes
    cell-after c l =
        ap (λ (x : ℕ). (reply (doing (hear f) (run_bytes b d h)).buffer x (cell c) []).answer) (sym r.at)
        ∙ ap (λ (x : Reply). x.answer) (heard.tells (cell c) [])
        ∙ cell-by (some kind) (λ p. after (said run p) (latest (standing d h) (address f) p)) c refl l
        ∙ ap (λ (x : ℕ). answer_of (after (said run (cell_place kind c)) (latest (standing d h) x (cell_place kind c)))) r.at

    cell-before : (c : ℕ) → c < cells_of kind → cell_after h c ≡ answer_of (latest (standing d h) a (cell_place kind c))
    cell-before c l =
        ap (λ (x : Reply). x.answer) ((demand_3 b whole d allowed h).each a (cell c) [])
        ∙ cell-by (standing_type (standing d h) a) (latest (standing d h) a) c here l

    values : List ℕ
    values = r.first ∷ r.second ∷ r.third ∷ r.fourth ∷ []

    speaks : Just (cell_place kind start) block (tells_of values) run
    unfolding meant meaning_of Spoken command run values
    speaks = speaks_of kind (Tells command)

    -- a cell that the read reads is told by the reply; every other answer stays
    told-by-it : (c : ℕ) → c < cells_of kind → Reads start c → Told a (run_bytes b d (hear f ∷ h)) c
    unfolding after
    told-by-it c l inside =
        let i = c - start in
        let p : cell_place kind start + i ≡ cell_place kind c = omega (arith, inside.0) in
        let q : said run (cell_place kind c) ≡ tells (get_or values i 0) = ap (said run) (sym p) ∙ speaks.there i (omega (arith, inside.0, inside.1)) in
        (get_or values i 0, cell-after c l ∙ ap (λ (x : Saying). answer_of (after x (latest (standing d h) a (cell_place kind c)))) q)

    stays : (c : ℕ) → c < cells_of kind → (c < start) ⊎ (start + block ≤ c) → cell_after (hear f ∷ h) c ≡ cell_after h c
    unfolding after
    stays c l outside =
        let away : (cell_place kind c < cell_place kind start) ⊎ (cell_place kind start + block ≤ cell_place kind c) = ⊎_elim (λ x. inl (omega arith)) (λ x. inr (omega arith)) outside in
        cell-after c l ∙ ap (λ (x : Saying). answer_of (after x (latest (standing d h) a (cell_place kind c)))) (speaks.elsewhere (cell_place kind c) away) ∙ sym (cell-before c l)

    told-then : (c : ℕ) → c < cells_of kind → Told a (run_bytes b d h) c ⊎ Reads start c → Told a (run_bytes b d (hear f ∷ h)) c
    told-then c l (inr x) = told-by-it c l x
    told-then c l (inl x) = go (dec_lt c start) (dec_lt c (start + block))
      where
        go : Dec (c < start) → Dec (c < start + block) → Told a (run_bytes b d (hear f ∷ h)) c
        go (yes m) e = (x.0, stays c l (inl m) ∙ x.1)
        go (no m) (yes n) = told-by-it c l (omega arith, n)
        go (no m) (no n) = (x.0, stays c l (inr (omega arith)) ∙ x.1)

    then-told : (c : ℕ) → c < cells_of kind → Told a (run_bytes b d (hear f ∷ h)) c → Told a (run_bytes b d h) c ⊎ Reads start c
    then-told c l x = go (dec_lt c start) (dec_lt c (start + block))
      where
        go : Dec (c < start) → Dec (c < start + block) → Told a (run_bytes b d h) c ⊎ Reads start c
        go (yes m) e = inl (x.0, sym (stays c l (inl m)) ∙ x.1)
        go (no m) (yes n) = inr (omega arith, n)
        go (no m) (no n) = inl (x.0, sym (stays c l (inr (omega arith))) ∙ x.1)

  -- ---- a reply for each start heard, in order
  all_accepted : (starts : List ℕ) (fs : List Frame) (h : List Event) → standing_type (standing d h) a ≡ some kind → RepliesTo kind a starts fs → AllAccepted (run_bytes b d h) fs
  unfolding run_bytes
  all_accepted [] [] h here rs = tt
  all_accepted [] (f ∷ fs) h here rs = absurd rs
  all_accepted (s ∷ ss) [] h here rs = absurd rs
  all_accepted (s ∷ ss) (f ∷ fs) h here rs = (accepted h here s f rs.0, all_accepted ss fs (hear f ∷ h) (still-listed h here s f rs.0) rs.1)

  told-after : (starts : List ℕ) (fs : List Frame) (h : List Event) → standing_type (standing d h) a ≡ some kind → RepliesTo kind a starts fs
      → (c : ℕ) → c < cells_of kind → Told a (run_bytes b d h) c ⊎ ReadBy starts c → Told a (hearing (run_bytes b d h) fs) c
  unfolding run_bytes runs_bytes
  told-after [] [] h here rs c l x = ⊎_elim (λ t. t) (λ n. absurd n) x
  told-after [] (f ∷ fs) h here rs c l x = absurd rs
  told-after (s ∷ ss) [] h here rs c l x = absurd rs
  told-after (s ∷ ss) (f ∷ fs) h here rs c l x =
      told-after ss fs (hear f ∷ h) (still-listed h here s f rs.0) rs.1 c l
      (⊎_elim (λ t. inl (told-then h here s f rs.0 c l (inl t))) (λ y. ⊎_elim (λ z. inl (told-then h here s f rs.0 c l (inr z))) (λ z. inr z) y) x)

  after-told : (starts : List ℕ) (fs : List Frame) (h : List Event) → standing_type (standing d h) a ≡ some kind → RepliesTo kind a starts fs
      → (c : ℕ) → c < cells_of kind → Told a (hearing (run_bytes b d h) fs) c → Told a (run_bytes b d h) c ⊎ ReadBy starts c
  unfolding run_bytes runs_bytes
  after-told [] [] h here rs c l x = inl x
  after-told [] (f ∷ fs) h here rs c l x = absurd rs
  after-told (s ∷ ss) [] h here rs c l x = absurd rs
  after-told (s ∷ ss) (f ∷ fs) h here rs c l x =
      ⊎_elim (λ t. ⊎_elim (λ y. inl y) (λ z. inr (inl z)) (then-told h here s f rs.0 c l t)) (λ y. inr (inr y))
      (after-told ss fs (hear f ∷ h) (still-listed h here s f rs.0) rs.1 c l x)

  -- ---- the plan
  module _ (h : List Event) (bytes : AllBytes (run_bytes b d h)) (asked : (reply (run_bytes b d h) a type_of []).answer ≡ Ok (Some kind)) where
    abbrev row : List ℕ
    row = memory_in (run_bytes b d h) (slot_asked (run_bytes b d h) a)

    there : Listed (run_bytes b d h) a kind
    there = listed (run_bytes b d h) a kind asked

    here : standing_type (standing d h) a ≡ some kind
    here = type_known h asked

    row-cells : length row ≡ cells_of kind
    row-cells = (row_of_type (run_bytes b d h) (slot_asked (run_bytes b d h) a)).cells ∙ ap cells_of there.type

    -- a cell is told, or is unknown in the row
    told-or-not : (c : ℕ) → c < cells_of kind → Told a (run_bytes b d h) c ⊎ Unknown row c
    told-or-not c l =
        go (latest (standing d h) a (cell_place kind c))
        (ap (λ (x : Reply). x.answer) ((demand_3 b whole d allowed h).each a (cell c) []) ∙ cell-by (standing_type (standing d h) a) (latest (standing d h) a) c here l)
      where
        go : (k : Known) → cell_after h c ≡ answer_of k → Told a (run_bytes b d h) c ⊎ Unknown row c
        go unknown e = inr ((unknown_is_not_heard (run_bytes b d h) bytes there.long a there.slot c (omega (arith, row-cells)) []).1 e)
        go (told v) e = inl (v, e)

    every-cell : (fs : List Frame) → RepliesTo kind a (plan_of row) fs → AllTold (hearing (run_bytes b d h) fs) a kind
    every-cell fs rs c l =
        told-after (plan_of row) fs h here rs c l (⊎_elim (λ t. inl t) (λ u. inr ((plan_is_right row).covers c u)) (told-or-not c l))

    replies-length : (starts : List ℕ) (fs : List Frame) → RepliesTo kind a starts fs → length starts ≡ length fs
    replies-length [] [] rs = refl
    replies-length [] (f ∷ fs) rs = absurd rs
    replies-length (s ∷ ss) [] rs = absurd rs
    replies-length (s ∷ ss) (f ∷ fs) rs = ap suc (replies-length ss fs rs.1)

    covered : (starts : List ℕ) (fs : List Frame) → RepliesTo kind a starts fs → AllTold (hearing (run_bytes b d h) fs) a kind → Covers row starts
    covered starts fs rs all c u =
        let l : c < cells_of kind = omega (arith, inside row c u, row-cells) in
        let silent : cell_after h c ≡ Ok None = (unknown_is_not_heard (run_bytes b d h) bytes there.long a there.slot c (inside row c u) []).0 u in
        ⊎_elim (λ t. not_value t.0 (sym silent ∙ t.1)) (λ r. r) (after-told starts fs h here rs c l (all c l))

    module _ (out : List ℕ) (count : ℕ) (given : (plan_reply (run_bytes b d h) a out).answer ≡ Ok (Some count)) where
      as-plan : take count (plan_reply (run_bytes b d h) a out).buffer ≡ plan_of row
      as-plan = (written_is_plan (run_bytes b d h) a out count given).plan

      counted : count ≡ least_reads row
      counted = (count_is_least row count).1 (written_is_plan (run_bytes b d h) a out count given).least

      fewest : (starts : List ℕ) (fs : List Frame) → RepliesTo kind a starts fs → AllTold (hearing (run_bytes b d h) fs) a kind → count ≤ length fs
      unfolding least_reads
      fewest starts fs rs all = omega (arith, counted, replies-length starts fs rs, plan_fewest row starts (covered starts fs rs all))

      pays : Pays (run_bytes b d h) a kind out count
      pays =
          record {
            accepted = λ fs rs. all_accepted (plan_of row) fs h here (rw as-plan at rs);
            no_cell_unknown = λ fs rs. every-cell fs (rw as-plan at rs);
            none_fewer = fewest;
          }

plan_pays : PlanPays
plan_pays b whole d allowed h bytes a kind asked out count given = pays b whole d allowed a kind h bytes asked out count given

pub plan : Plan
plan =
    record {
      plan_is_right = plan_is_right;
      plan_rises = plan_rises;
      plan_as_asked = plan_as_asked;
      only_plan = only_plan;
      nothing_unknown = nothing_unknown;
      count_is_least = count_is_least;
      quarter_is_enough = quarter_is_enough;
      judged_right = judged_right;
      row_is_memory = row_is_memory;
      unknown_is_not_heard = unknown_is_not_heard;
      row_of_type = row_of_type;
      written_is_plan = written_is_plan;
      plan_in_bytes = plan_in_bytes;
      odd_byte_is_no_entry = odd_byte_is_no_entry;
      right_in_bytes = right_in_bytes_lem;
      odd_byte_is_no_plan = odd_byte_is_no_plan;
      plan_pays = plan_pays;
    }
