-- What a call gives, as the code comes to it: the answer, the bench's bytes and the buffer, each by one law for each way out.
-- Assumes nothing.
use Rattle.std.specs.Prelude.{Ok, Err}
use Prim.Native.Nat.{ℕ, ◌*◌, ◌≤◌, ◌<◌}
use mathlib.Core.Path.{◌≡◌, sym, ap, ◌∙◌}
use mathlib.Core.List.{List}
use lib.ListN.{length}
use lib.Seq.{sets}
use borrow.Author.Tests.{le-leb, lt-leb, lt-ltb, le-ltb}
use Rattle.frame.specs.declared.messages.Message.{Message}
use Rattle.laws.specs.Refusals.{too_short}
use Rattle.replies.specs.Bench.{bench_size, own_address}
use Rattle.bench.specs.Deeds.{done}
use Rattle.replies.specs.Replies.{replies}
use Rattle.bench.specs.Sending.{all_bytes}
use Rattle.verdicts.specs.Verdicts.{judged, Verdict}
use Rattle.taking.specs.Taking.{Outcome, kept, taken_with, given, outcome_of, taking, Taken}

-- an answer, a bench and a buffer are those of an outcome
abbrev pub Gives : Taken → List ℕ → List ℕ → Outcome → Type 0
Gives t b buffer o = (t ≡ o.answer) × ((b ≡ o.bench) × (buffer ≡ o.buffer))

pub room : (b b' buffer buffer' : List ℕ) (m : Message) (n : ℕ) → ((x : List ℕ) → n ≡ length (replies x m)) → 12 * n ≤ length buffer
    → b' ≡ done m b → buffer' ≡ sets buffer 0 (all_bytes (own_address b') (replies b' m)) → Gives (Ok n) b' buffer' (given b m buffer)
unfolding given
room b b' buffer buffer' m n count h e f =
    let k = le-leb (12 * n) (length buffer) h in
    let q : given b m buffer ≡ taken_with (done m b) (replies (done m b) m) buffer = rw (← count (done m b), k) in
    (ap Ok (count (done m b)) ∙ ap (λ (o : Outcome). o.answer) (sym q), (e ∙ ap (λ (o : Outcome). o.bench) (sym q), f ∙ rw e (ap (λ (o : Outcome). o.buffer) (sym q))))

pub no_room_lem : (b buffer : List ℕ) (m : Message) (n : ℕ) → ((x : List ℕ) → n ≡ length (replies x m)) → length buffer < 12 * n
    → Gives (Err too_short) b buffer (given b m buffer)
unfolding given
no_room_lem b buffer m n count h =
    let q : given b m buffer ≡ kept (Err too_short) b buffer = rw (← count (done m b), lt-leb (12 * n) (length buffer) h) in
    (ap (λ (o : Outcome). o.answer) (sym q), (ap (λ (o : Outcome). o.bench) (sym q), ap (λ (o : Outcome). o.buffer) (sym q)))

-- the call itself
pub too_short_lem : (b s buffer : List ℕ) (i remote : ℕ) → length b < bench_size → Gives (Err too_short) b buffer (taking b i remote s buffer)
unfolding taking
too_short_lem b s buffer i remote h =
    let q : taking b i remote s buffer ≡ kept (Err too_short) b buffer = rw (lt-ltb (length b) bench_size h) in
    (ap (λ (o : Outcome). o.answer) (sym q), (ap (λ (o : Outcome). o.bench) (sym q), ap (λ (o : Outcome). o.buffer) (sym q)))

pub by-judged : (b s buffer : List ℕ) (i remote : ℕ) (j k : Verdict) (t : Taken) (b' buffer' : List ℕ) → bench_size ≤ length b → j ≡ judged (own_address b) i remote s → j ≡ k
    → Gives t b' buffer' (outcome_of k b buffer) → Gives t b' buffer' (taking b i remote s buffer)
unfolding taking
by-judged b s buffer i remote j k t b' buffer' h e f g =
    let q : taking b i remote s buffer ≡ outcome_of k b buffer = rw (le-ltb (length b) bench_size h, ← e, f) in
    (g.0 ∙ ap (λ (o : Outcome). o.answer) (sym q), (g.1.0 ∙ ap (λ (o : Outcome). o.bench) (sym q), g.1.1 ∙ ap (λ (o : Outcome). o.buffer) (sym q)))
