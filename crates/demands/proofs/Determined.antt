-- No promise leaves a choice, as specs/Determined.antt states it: one law for every line. Assumes nothing.
use Rattle.laws.proofs.Promises.{of_answer, of_lent, of_two_lent, no_choice}
use Rattle.shape.specs.Limits.{room}
use Rattle.places.specs.Places.{places}
use Rattle.demands.specs.Determined.{Determined}
use Rattle.demands.proofs.Codes.{one_code, one_result, one_test, one_value, one_filling, one_judgement, one_below, one_record, one_replay, one_part}

pub determined : Determined
determined =
    record {
      no_choice = no_choice;
      one_code = one_code;
      one_result = one_result;
      one_test = one_test;
      one_value = one_value;
      one_filling = one_filling;
      one_judgement = one_judgement;
      one_place = one_below places;
      one_slot = one_below room;
      one_record = one_record;
      one_replay = one_replay;
      one_part = one_part;
      copy_in = λ out at bytes. of_answer _;
      put_at = λ s i v. of_answer _;
      put_number = λ out at v. of_lent _ _;
      fresh = λ b. (of_lent _ _, of_lent _ _);
      fresh_with = λ b depth. (of_lent _ _, of_lent _ _);
      hear = λ b identifier remote s. (of_lent _ _, of_lent _ _);
      step_back = λ b. (of_lent _ _, of_lent _ _);
      listed = λ b out. (of_lent _ _, of_lent _ _);
      each = λ b a q out. (of_lent _ _, of_lent _ _);
      plan = λ b a out. (of_lent _ _, of_lent _ _);
      plan_bytes = λ b a out. (of_lent _ _, of_lent _ _);
      put_record = λ b at gap identifier remote ds. (of_lent _ _, of_lent _ _);
      hear_all = λ b s. of_lent _ _;
      hear_part = λ b w st n. of_two_lent _ _ _;
      put_listing = λ b out st. of_lent _ _;
      bench_new = λ b address cells version year week. (of_lent _ _, of_lent _ _);
      bench_take = λ b identifier remote s out. (of_two_lent _ _ _, of_two_lent _ _ _);
      read = λ kind identifier remote s out. of_lent _ _;
      write = λ kind message out. of_lent _ _;
    }
