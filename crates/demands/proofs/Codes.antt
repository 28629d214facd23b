-- A refusal is read back from its code, so that no two have one; and so of all that holds a refusal. Assumes nothing.
use Rattle.std.proofs.Common.{◌≡◌, ℕ, ◌+◌, ◌*◌, ◌/◌, ◌%◌, cond, eqb, Result, Ok, Err, refl, sym, ap, ◌∙◌, eq-eqb, arith}
use Rattle.std.proofs.Common.{Bool, true, false, Option, None, Some, option_map}
use Rattle.laws.specs.Codes.{code_of, coded, code_in}
use Rattle.laws.proofs.Codes.{some_code}
use Rattle.shape.specs.Answers.{Answer, valued, filled}
use Rattle.plan.specs.Replies.{judged}
use Rattle.demands.specs.Determined.{OneBelow}
use Rattle.recording.specs.Record.{told_fault, told}
use Rattle.recording.specs.declared.records.Fault.{Fault}
use Rattle.replay.specs.declared.records.Replay as code
use Rattle.replay.specs.declared.window.Stop.{Stop}
use Rattle.replay.specs.declared.window.Stream as part
use Rattle.replay.specs.Replay.{Replay, told_replay, told_replayed}
use Rattle.replay.specs.Window.{Stream, told_stop, told_stream, told_part}
use Rattle.laws.specs.declared.refusals.Refusal.{Refusal}
use Rattle.laws.specs.declared.refusals.Refusal.TheVariants.{BadIdentifier, BadForm, BadPriority, BadType, TypeNotKnown, NotListed, WrongLength, WrongPriority, BadField, NoRoom, NothingKept, NoSuchPlace, TooShort, CutOff, BadNumber, Sid0Set}

abbrev refusal_of : ℕ → Refusal
refusal_of n =
    cond (eqb n 1) BadIdentifier
    (cond (eqb n 2) BadForm
    (cond (eqb n 3) BadPriority
    (cond (eqb n 4) BadType
    (cond (eqb n 5) TypeNotKnown
    (cond (eqb n 6) NotListed
    (cond (eqb n 7) WrongLength
    (cond (eqb n 8) WrongPriority
    (cond (eqb n 10) NoRoom
    (cond (eqb n 11) NothingKept
    (cond (eqb n 12) NoSuchPlace
    (cond (eqb n 13) TooShort
    (cond (eqb n 15) CutOff
    (cond (eqb n 16) BadNumber
    Sid0Set)))))))))))))

abbrev refusal_in : ℕ → Refusal
refusal_in code = cond (eqb (code % 256) 9) (BadField (code / 256)) (refusal_of code)

field_in : (byte : ℕ) → refusal_in (9 + 256 * byte) ≡ BadField byte
field_in byte = let same : (9 + 256 * byte) / 256 ≡ byte = omega arith in rw (eq-eqb ((9 + 256 * byte) % 256) 9 (omega arith)) (ap BadField same)

read_back : (x : Refusal) → refusal_in (code_of x) ≡ x
read_back BadIdentifier = refl
read_back BadForm = refl
read_back BadPriority = refl
read_back BadType = refl
read_back TypeNotKnown = refl
read_back NotListed = refl
read_back WrongLength = refl
read_back WrongPriority = refl
read_back (BadField byte) = field_in byte
read_back NoRoom = refl
read_back NothingKept = refl
read_back NoSuchPlace = refl
read_back TooShort = refl
read_back CutOff = refl
read_back BadNumber = refl
read_back Sid0Set = refl

pub one_code : (x y : Refusal) → code_of x ≡ code_of y → x ≡ y
one_code x y e = sym (read_back x) ∙ ap refusal_in e ∙ read_back y

pub one_result : {A : Type 0} (x y : Result A Refusal) → coded x ≡ coded y → x ≡ y
one_result (Ok x) (Ok y) e = cc
one_result {A} (Ok x) (Err y) e = absurd (let z : ◌≡◌ {A = ℕ} 0 1 = cc in omega arith)
one_result {A} (Err x) (Ok y) e = absurd (let z : ◌≡◌ {A = ℕ} 0 1 = cc in omega arith)
one_result (Err x) (Err y) e = let codes : code_of x ≡ code_of y = cc in ap Err (one_code x y codes)

pub one_test : (x y : Result (Unit {0}) Refusal) → code_in x ≡ code_in y → x ≡ y
one_test (Ok x) (Ok y) e = refl
one_test (Ok x) (Err y) e = absurd (some_code y (sym e))
one_test (Err x) (Ok y) e = absurd (some_code x e)
one_test (Err x) (Err y) e = ap Err (one_code x y e)

-- what a question's answer was made of is read back from it
abbrev number_in : Answer → Result ℕ ℕ
number_in (Ok (Some v)) = Ok v
number_in (Ok None) = Ok 0
number_in (Err n) = Err n

abbrev done_in : Answer → Result (Unit {0}) ℕ
done_in (Ok v) = Ok tt
done_in (Err n) = Err n

abbrev yes_in : Answer → Result Bool ℕ
yes_in (Ok (Some v)) = Ok (eqb v 1)
yes_in (Ok None) = Ok false
yes_in (Err n) = Err n

number_back : (r : Result ℕ ℕ) → number_in (valued r) ≡ r
number_back (Ok v) = refl
number_back (Err n) = refl

done_back : (r : Result (Unit {0}) ℕ) → done_in (filled r) ≡ r
done_back (Ok tt) = refl
done_back (Err n) = refl

yes_back : (r : Result Bool ℕ) → yes_in (judged r) ≡ r
yes_back (Ok true) = refl
yes_back (Ok false) = refl
yes_back (Err n) = refl

pub one_value : (x y : Result ℕ Refusal) → valued (coded x) ≡ valued (coded y) → x ≡ y
one_value x y e = one_result x y (sym (number_back (coded x)) ∙ ap number_in e ∙ number_back (coded y))

pub one_filling : (x y : Result (Unit {0}) Refusal) → filled (coded x) ≡ filled (coded y) → x ≡ y
one_filling x y e = one_result x y (sym (done_back (coded x)) ∙ ap done_in e ∙ done_back (coded y))

pub one_judgement : (x y : Result Bool Refusal) → judged (coded x) ≡ judged (coded y) → x ≡ y
one_judgement x y e = one_result x y (sym (yes_back (coded x)) ∙ ap yes_in e ∙ yes_back (coded y))

-- where the number for none is the bound
pub one_below : (bound : ℕ) → OneBelow bound bound
one_below bound None None hx hy e = refl
one_below bound None (Some y) hx hy e = absurd (omega arith)
one_below bound (Some x) None hx hy e = absurd (omega arith)
one_below bound (Some x) (Some y) hx hy e = ap Some e

one_fault : (x y : Fault) → told_fault x ≡ told_fault y → x ≡ y
one_fault x y e =
    let refusal = one_code x.refusal y.refusal (ap (λ (p : ℕ × ℕ). p.0) e) in
    let offset : x.offset ≡ y.offset = ap (λ (p : ℕ × ℕ). p.1) e in
    λ i. record { refusal = refusal i; offset = offset i }

pub one_record : {A : Type 0} (x y : Result A Fault) → told x ≡ told y → x ≡ y
one_record (Ok x) (Ok y) e = cc
one_record (Ok x) (Err y) e = absurd (let z : ◌≡◌ {A = ℕ} 0 1 = cc in omega arith)
one_record (Err x) (Ok y) e = absurd (let z : ◌≡◌ {A = ℕ} 0 1 = cc in omega arith)
one_record (Err x) (Err y) e = let faults : told_fault x ≡ told_fault y = cc in ap Err (one_fault x y faults)

one_stop : (x y : Stop) → told_stop x ≡ told_stop y → x ≡ y
one_stop x y e =
    let refusal : x.refusal ≡ y.refusal = ap (λ (p : ℕ × ℕ). p.0) e in
    let offset : x.offset ≡ y.offset = ap (λ (p : ℕ × ℕ). p.1) e in
    λ i. record { refusal = refusal i; offset = offset i }

-- what may be none, and is told by two numbers that tell it apart
one_or_none : {A : Type 0} (told_by : A → ℕ × ℕ) → ((x y : A) → told_by x ≡ told_by y → x ≡ y) → (x y : Option A) → option_map told_by x ≡ option_map told_by y → x ≡ y
one_or_none told_by one None None e = refl
one_or_none told_by one None (Some y) e = absurd (let z : ◌≡◌ {A = ℕ} 0 1 = cc in omega arith)
one_or_none told_by one (Some x) None e = absurd (let z : ◌≡◌ {A = ℕ} 0 1 = cc in omega arith)
one_or_none told_by one (Some x) (Some y) e = let same : told_by x ≡ told_by y = cc in ap Some (one x y same)

same_replay : (x y : code.Replay) → told_replay x ≡ told_replay y → x ≡ y
same_replay x y e =
    let heard : x.heard ≡ y.heard = ap (λ (r : Replay). r.heard) e in
    let refused : x.refused ≡ y.refused = ap (λ (r : Replay). r.refused) e in
    let at : x.at ≡ y.at = ap (λ (r : Replay). r.at) e in
    let fault = one_or_none told_fault one_fault x.fault y.fault (ap (λ (r : Replay). r.fault) e) in
    λ i. record { heard = heard i; refused = refused i; at = at i; fault = fault i }

pub one_replay : (x y : Result code.Replay Refusal) → told_replayed x ≡ told_replayed y → x ≡ y
one_replay (Ok x) (Ok y) e = let same : told_replay x ≡ told_replay y = cc in ap Ok (same_replay x y same)
one_replay (Ok x) (Err y) e = absurd (let z : ◌≡◌ {A = ℕ} 0 1 = cc in omega arith)
one_replay (Err x) (Ok y) e = absurd (let z : ◌≡◌ {A = ℕ} 0 1 = cc in omega arith)
one_replay (Err x) (Err y) e = let codes : code_of x ≡ code_of y = cc in ap Err (one_code x y codes)

same_stream : (x y : part.Stream) → told_stream x ≡ told_stream y → x ≡ y
same_stream x y e =
    let heard : x.heard ≡ y.heard = ap (λ (s : Stream). s.heard) e in
    let refused : x.refused ≡ y.refused = ap (λ (s : Stream). s.refused) e in
    let base : x.base ≡ y.base = ap (λ (s : Stream). s.base) e in
    let left : x.left ≡ y.left = ap (λ (s : Stream). s.left) e in
    let fault = one_or_none told_stop one_stop x.fault y.fault (ap (λ (s : Stream). s.fault) e) in
    λ i. record { heard = heard i; refused = refused i; base = base i; left = left i; fault = fault i }

pub one_part : (x y : Result part.Stream Refusal) → told_part x ≡ told_part y → x ≡ y
one_part (Ok x) (Ok y) e = let same : told_stream x ≡ told_stream y = cc in ap Ok (same_stream x y same)
one_part (Ok x) (Err y) e = absurd (let z : ◌≡◌ {A = ℕ} 0 1 = cc in omega arith)
one_part (Err x) (Ok y) e = absurd (let z : ◌≡◌ {A = ℕ} 0 1 = cc in omega arith)
one_part (Err x) (Err y) e = let codes : code_of x ≡ code_of y = cc in ap Err (one_code x y codes)
