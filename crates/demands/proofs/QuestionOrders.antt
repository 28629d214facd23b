-- The orders of the questions on a picture. Assumes nothing.
use Prim.Native.Nat.{ℕ, ◌+◌, ◌*◌}
use mathlib.Core.Path.{◌≡◌, refl}
use mathlib.Core.Bool.{Bool, true, false, ◌&&◌, cond}
use mathlib.Core.List.{List, [], ◌∷◌}
use lib.Dec.{eqb, ltb, leb}
use lib.ListN.{length, get_or}
use Rattle.laws.specs.Refusals.{type_not_known, no_such_place, too_short}
use Rattle.kinds.specs.Types.{extent_of}
use Rattle.std.specs.Prelude.{Some, None, Ok, Err}
use Rattle.shape.specs.Limits.{room, addresses}
use Rattle.places.specs.Places.{places, name_length, year_place, week_place, cell_asked, led_asked, blind_asked, has_name, row_of_name, cell_row}
use Rattle.shape.specs.Layout.{place_at}
use Rattle.shape.specs.Head.{short, kind_in}
use Rattle.questions.specs.Question.{Question, type_of, build_year, build_week, cell, led, blind, name_row, name_bytes, memory_row, memory_bytes, Reply, answering, value}
use Rattle.questions.specs.Fills.{filled_to, filling, value_at, row_number, low_first, numbers_fill, bytes_fill, heard_in}
use Rattle.questions.specs.Replies.{slot_asked, answer_at, place_reply, reply_as, reply_in, reply, kept_answer, listed_if, listing}
use Rattle.questions.specs.Statements.{in_bytes}
use Rattle.questions.proofs.RowBytes.{length_bytes}
use Rattle.reads.specs.Plan.{plan_of, least_reads}
use Rattle.reads.specs.Judging.{right_plan}
use Rattle.plan.specs.Replies.{memory_in, at_module, as_entries, laid, plan_reply, plan_bytes_reply, yes_no, right_in_bytes}
use Rattle.demands.specs.Order.{Test, ◌or◌, answers, verdict, picture_test, row_test, listed_order, place_test, question_tests, question_order, right_order, plan_order}
use Rattle.demands.specs.Demand1.{verdict_of_answer, Replied, Questions}
use Rattle.demands.proofs.Orders.{answers_refuses, reply_test, reply-fault, reply-done, answer-fault}

-- a row of n numbers
fills : (v : ℕ) (f : ℕ → ℕ) (n : ℕ) (out : List ℕ) → Replied (row_test n out ∷ []) out (filling v f n out)
unfolding filling
fills v f n out = reply_test out too_short [] _ (leb n (length out)) (reply-done out v (filled_to f out n))

kept_order : (b : List ℕ) → verdict_of_answer (kept_answer b) ≡ verdict (picture_test b ∷ [])
unfolding kept_answer
kept_order b = answer-fault verdict_of_answer too_short [] _ (Err too_short) refl refl (short b)

listed_order_lem : (b out : List ℕ) → Replied (listed_order b out) out (listing b out)
unfolding listing
listed_order_lem b out = reply-fault out too_short _ _ (short b) (fills 0 (listed_if b) addresses out)

-- a question on the module in slot s, whose type is kind
module _ (b : List ℕ) (s kind : ℕ) (out : List ℕ) where
  -- what a place holds is answered, heard or not
  place-answered : (o : ℕ) → Replied [] out (answering (answer_at b o) out)
  place-answered o = record { decides = go (eqb (get_or b o 0) 0 && eqb (get_or b (o + 1) 0) 1); keeps = λ n e. answers_refuses e }
    where
      go : (t : Bool) → verdict_of_answer (cond t (Ok None) (Ok (Some (value_at b o)))) ≡ answers
      go true = refl
      go false = refl

  places_order : (p : ℕ) → Replied (place_test p ∷ []) out (place_reply b s p out)
  unfolding place_reply
  places_order p = reply_test out no_such_place [] _ (ltb p places) (place-answered (place_at s p))

  asked_order : (q : Question) → Replied (question_tests b s kind q out) out (reply_as b s kind q out)
  unfolding reply_as numbers_fill bytes_fill
  asked_order type_of = reply-done out kind out
  asked_order build_year = places_order year_place
  asked_order build_week = places_order week_place
  asked_order (cell location) = places_order (cell_asked kind location)
  asked_order (led n) = places_order (led_asked kind n)
  asked_order (blind n) = places_order (blind_asked kind n)
  asked_order (name_row n) =
      let row = row_of_name kind n in
      reply_test out no_such_place _ _ (has_name kind n) (fills (heard_in b s row) (row_number b s row) name_length out)
  asked_order (name_bytes n) =
      let row = row_of_name kind n in
      reply_test out no_such_place _ _ (has_name kind n) (fills (heard_in b s row) (low_first (row_number b s row)) (2 * name_length) out)
  asked_order memory_row = fills 0 (row_number b s (cell_row kind)) (extent_of kind).cells out
  asked_order memory_bytes = fills 0 (low_first (row_number b s (cell_row kind))) (2 * (extent_of kind).cells) out

each_order : (b : List ℕ) (a : ℕ) (q : Question) (out : List ℕ) → Replied (question_order b a q out) out (reply b a q out)
unfolding reply reply_in
each_order b a q out =
    let s = slot_asked b a in
    reply-fault out too_short _ _ (short b) (reply_test out type_not_known _ _ (ltb s room) (asked_order b s (kind_in b s) out q))

-- ---- the plan
module _ (b : List ℕ) (a : ℕ) (out : List ℕ) where
  at_module_lem : (ts : List Test) (says : ℕ → Reply) → Replied ts out (says (slot_asked b a))
      → Replied (picture_test b ∷ ltb (slot_asked b a) room or type_not_known ∷ ts) out (at_module b a says out)
  unfolding at_module
  at_module_lem ts says d = reply-fault out too_short _ _ (short b) (reply_test out type_not_known _ _ (ltb (slot_asked b a) room) d)

  laid_order : (lay : List ℕ → List ℕ) (row : List ℕ) (n : ℕ) → length (lay (plan_of row)) ≡ n → Replied (row_test n out ∷ []) out (laid lay row out)
  unfolding laid
  laid_order lay row n e = rw (← e) (reply_test out too_short [] _ (leb (length (lay (plan_of row))) (length out)) (reply-done out (least_reads row) _))

plan_order_lem : (b : List ℕ) (a : ℕ) (out : List ℕ) → Replied (plan_order b a (least_reads (memory_in b (slot_asked b a))) out) out (plan_reply b a out)
unfolding least_reads
plan_order_lem b a out = at_module_lem b a out _ _ (laid_order b a out as_entries (memory_in b (slot_asked b a)) _ refl)

plan_bytes_order : (b : List ℕ) (a : ℕ) (out : List ℕ) → Replied (plan_order b a (2 * least_reads (memory_in b (slot_asked b a))) out) out (plan_bytes_reply b a out)
unfolding least_reads
plan_bytes_order b a out = at_module_lem b a out _ _ (laid_order b a out in_bytes (memory_in b (slot_asked b a)) _ (length_bytes (plan_of (memory_in b (slot_asked b a)))))

right_order_lem : (b : List ℕ) (a : ℕ) (starts : List ℕ) (says : ℕ → ℕ) → verdict_of_answer (at_module b a (λ s. value (says s) starts) starts).answer ≡ verdict (right_order b a)
right_order_lem b a starts says = (at_module_lem b a starts [] _ (reply-done starts (says (slot_asked b a)) starts)).decides

pub questions : Questions
questions =
    record {
      kept = kept_order;
      listed = listed_order_lem;
      each = each_order;
      plan = plan_order_lem;
      plan_bytes = plan_bytes_order;
      right_plan = λ b a starts. right_order_lem b a starts (λ s. yes_no (right_plan (memory_in b s) starts));
      right_plan_bytes = λ b a bytes. right_order_lem b a bytes (λ s. yes_no (right_in_bytes (memory_in b s) bytes));
    }
