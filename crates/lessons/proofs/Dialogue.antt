-- What a picture hears of calls on a bench, as runs; after each call what it knows agrees with the bench. Assumes nothing.
use Rattle.std.specs.Prelude.{Ok, Err, Some, None}
use Prim.Native.Nat.{ℕ, ◌*◌, ◌≤◌, ◌<◌}
use mathlib.Core.Path.{◌≡◌, refl, sym, subst, ◌∙◌}
use mathlib.Core.Bool.{Bool, true, false, cond}
use mathlib.Core.List.{List, [], ◌∷◌}
use mathlib.Core.Option.{some}
use lib.Dec.{eqb, leb}
use lib.ListN.{length}
use borrow.Author.Tests.{eqb-true, leb-true, le-leb, le-ltb}
use Rattle.laws.specs.Limits.{AllBytes}
use Rattle.laws.specs.Refusals.{too_short}
use Rattle.kinds.specs.Types.{vmb8ir}
use Rattle.frame.specs.declared.identifiers.Address.{Address}
use Rattle.frame.specs.declared.messages.Command.{Command}
use Rattle.frame.specs.declared.messages.Command.TheVariants.{TypeLong, TypeShort, Buttons, CellTold, BlockTold, CellAsked, BlockAsked, DumpAsked, CellSet, BlockSet, Errors, ErrorsAsked, NameOne, NameTwo, NameThree, NameAsked, StatusAsked, InputStatus, LedsAll, Leds, BlindStatus, BlindStop, BlindUp, BlindDown}
use Rattle.frame.specs.declared.messages.Message.{Message}
use Rattle.frame.specs.declared.messages.Message.TheVariants.{TypeRequest, Tells}
use Rattle.judging.specs.Reading.{reading}
use Rattle.places.specs.Runs.{Run, no_run, names, meaning_of, meant, read_as}
use Rattle.history.specs.Standing.{Frame, address, sense, meaning, Known}
use Rattle.replies.specs.Bench.{bench_size, own_address}
use Rattle.bench.specs.Deeds.{store, done}
use Rattle.replies.specs.Replies.{replies}
use Rattle.bench.specs.Sending.{reply_bytes}
use Rattle.verdicts.specs.Verdicts.{judged, Verdict}
use Rattle.taking.specs.Taking.{Outcome, kept, taken_with, given, outcome_of, taking}
use Rattle.lessons.specs.Hearing.{Call, called, after, frame_in, heard_of, on_top, heard_after}
use Rattle.lessons.proofs.Agree.{Agree, hears, hears-own}
use Rattle.lessons.proofs.Doing.{Sound, run_of, received, nothing_kept_lem, no}
use Rattle.lessons.proofs.Doing as deeds
use Rattle.lessons.proofs.Answering.{AllOwn, answers-own, type_owns}
use Rattle.lessons.proofs.Sent.{at, AllSend, answers_send, type_sends, sent_all, sent_there, reply-reads, reply_from}
use Rattle.lessons.proofs.Commands.{Good, Took, took_it, silent_elsewhere}
use Rattle.lessons.proofs.Heard.{AllHear, heard_by}
use Rattle.lessons.proofs.Told.{runs_on_top, runs_of}

-- what a message is heard as
abbrev pub run_by : Message → Run
run_by TypeRequest = no_run
run_by (Tells m) = run_of m

heard_names : (m : Command) → received m ≡ true → sense (some vmb8ir) (meaning_of vmb8ir m) ≡ names (run_of m)
unfolding sense meaning_of
heard_names (TypeLong k a b c d e) h = no h
heard_names (TypeShort k a b c) h = no h
heard_names (Buttons a b c) h = refl
heard_names (CellTold l v) h = refl
heard_names (BlockTold l a b c d) h = refl
heard_names (CellAsked l) h = refl
heard_names (BlockAsked l) h = refl
heard_names DumpAsked h = refl
heard_names (CellSet l v) h = refl
heard_names (BlockSet l a b c d) h = refl
heard_names (Errors a b c) h = refl
heard_names ErrorsAsked h = refl
heard_names (NameOne n a b c d e f) h = refl
heard_names (NameTwo n a b c d e f) h = refl
heard_names (NameThree n a b c d) h = refl
heard_names (NameAsked n) h = refl
heard_names (StatusAsked n) h = refl
heard_names (InputStatus a b c d) h = refl
heard_names (LedsAll a b c) h = refl
heard_names (Leds g x) h = refl
heard_names (BlindStatus n a b c d e f) h = no h
heard_names (BlindStop n) h = no h
heard_names (BlindUp n t) h = no h
heard_names (BlindDown n t) h = no h

good_names : (m : Message) → Good m → sense (some vmb8ir) (meant vmb8ir m) ≡ names (run_by m)
unfolding meant sense
good_names TypeRequest g = refl
good_names (Tells m) g = heard_names m g.0

means : (f : Frame) (y : Address) (m : Message) → reading vmb8ir f.identifier f.remote f.bytes ≡ Ok (y, m) → sense (some vmb8ir) (meant vmb8ir m) ≡ names (run_by m)
    → meaning (some vmb8ir) f ≡ names (run_by m)
unfolding meaning read_as
means f y m e h = rw e h

-- What a message does, and its replies.

record Met (b : List ℕ) (m : Message) : Type 0 where
  sound : Sound (done m b)
  address : own_address (done m b) ≡ own_address b
  agree : (pic : ℕ → Known) → Agree pic b → Agree (hears (run_by m) pic) (done m b)

met : (b : List ℕ) (m : Message) → Sound b → Good m → Met b m
unfolding done store
met b TypeRequest s g = let k = nothing_kept_lem b s in record { sound = k.sound; address = k.address; agree = k.agree }
met b (Tells m) s g = let k = deeds.kept b m s g.0 g.1 in record { sound = k.sound; address = k.address; agree = k.agree }

replies-own : (b : List ℕ) (m : Message) → Sound b → AllOwn b (replies b m)
unfolding replies
replies-own b TypeRequest s = (type_owns b, tt)
replies-own b (Tells m) s = answers-own b s m

replies_send : (a : ℕ) (b : List ℕ) (m : Message) → Good m → AllSend a (replies b m)
unfolding replies
replies_send a b TypeRequest g = (type_sends a vmb8ir _ _ _ _ _ refl, tt)
replies_send a b (Tells m) g = answers_send a b m g.1

-- The frames fs were heard as the runs rs, and what is then known agrees with the bench in b.

pub record Along (a : ℕ) (first : Run) (b : List ℕ) (fs : List Frame) (rs : List Run) : Type 0 where
  pub sound : Sound b
  pub own : own_address b ≡ a
  pub hear : AllHear a fs rs
  pub agree : Agree (heard_by first rs) b

module _ (a : ℕ) (small : a < 256) (first : Run) where
  hear-one : (b b' : List ℕ) (f : Frame) (r : Run) (fs : List Frame) (rs : List Run) → Along a first b fs rs → address f ≡ a → meaning (some vmb8ir) f ≡ names r
      → ((pic : ℕ → Known) → Agree pic b → Agree (hears r pic) b') → Sound b' → own_address b' ≡ a → Along a first b' (f ∷ fs) (r ∷ rs)
  unfolding heard_by
  hear-one b b' f r fs rs l q m k s o =
      record { sound = s; own = o; hear = (record { at = q; means = m }, l.hear); agree = λ p v e. k (heard_by first rs) l.agree p v e }

  hear-replies : (ms : List Command) (b : List ℕ) (fs : List Frame) (rs : List Run) → AllOwn b ms → AllSend a ms → Along a first b fs rs
      → Along a first b (on_top (sent_all a ms) fs) (runs_on_top (runs_of ms) rs)
  unfolding on_top sent_all runs_on_top meant
  hear-replies [] b fs rs o s l = l
  hear-replies (m ∷ ms) b fs rs o s l =
      let f : Frame = frame_in (reply_bytes a m) in
      let e : meaning (some vmb8ir) f ≡ names (run_of m) = means f (at a) (Tells m) (reply-reads vmb8ir a m small s.0 s.0) s.0.heard in
      hear-replies ms b (f ∷ fs) (run_of m ∷ rs) o.1 s.1
      (hear-one b b f (run_of m) fs rs l (reply_from vmb8ir a m small s.0 s.0) e (λ pic ag. hears-own b (run_of m) pic o.0 ag) l.sound l.own)

  -- one call
  record Next (f : Frame) (fs : List Frame) (o : Outcome) : Type 0 where
    runs : List Run
    along : Along a first o.bench (on_top (heard_of a f o) fs) runs

  module _ (f : Frame) (bytes : AllBytes f.bytes) (buffer : List ℕ) (b : List ℕ) (fs : List Frame) (rs : List Run) (l : Along a first b fs rs) where
    refused : (n : ℕ) → Next f fs (kept (Err n) b buffer)
    unfolding heard_of on_top
    refused n = record { runs = rs; along = l }

    elsewhere : eqb (address f) a ≡ false → Next f fs (kept (Ok 0) b buffer)
    unfolding heard_of on_top
    elsewhere e = record { runs = rs; along = rw e l }

    heard_is : (ms : List Command) (b' : List ℕ) → own_address b' ≡ a → 12 * length ms ≤ length buffer → eqb (address f) a ≡ true
        → heard_of a f (taken_with b' ms buffer) ≡ f ∷ sent_all a ms
    unfolding heard_of
    heard_is ms b' q h e = rw (e, q, sent_there a ms buffer h)

    pub taken_along : (m : Message) → Took a f.identifier f.remote f.bytes m → 12 * length (replies (done m b) m) ≤ length buffer
        → Along a first (done m b) (on_top (heard_of a f (taken_with (done m b) (replies (done m b) m) buffer)) fs) (runs_on_top (runs_of (replies (done m b) m)) (run_by m ∷ rs))
    unfolding on_top
    taken_along m t h =
        let k = met b m l.sound t.good in
        let ms : List Command = replies (done m b) m in
        let q : own_address (done m b) ≡ a = k.address ∙ l.own in
        let one = hear-one b (done m b) f (run_by m) fs rs l (eqb-true (address f) a t.here) (means f t.address m t.reads (good_names m t.good)) k.agree k.sound q in
        rw (heard_is ms (done m b) q h t.here) (hear-replies ms (done m b) (f ∷ fs) (run_by m ∷ rs) (replies-own (done m b) m k.sound) (replies_send a (done m b) m t.good) one)

    given-next : (m : Message) → Took a f.identifier f.remote f.bytes m → Next f fs (given b m buffer)
    unfolding given
    given-next m t = go (leb (12 * length (replies (done m b) m)) (length buffer)) refl
      where
        go : (c : Bool) → leb (12 * length (replies (done m b) m)) (length buffer) ≡ c
            → Next f fs (cond c (taken_with (done m b) (replies (done m b) m) buffer) (kept (Err too_short) b buffer))
        go true e = record { runs = runs_on_top (runs_of (replies (done m b) m)) (run_by m ∷ rs); along = taken_along m t (leb-true (12 * length (replies (done m b) m)) (length buffer) e) }
        go false e = refused too_short

    judged-next : (v : Verdict) → judged a f.identifier f.remote f.bytes ≡ v → Next f fs (outcome_of v b buffer)
    judged-next (Ok (Some m)) e = given-next m (took_it a f.identifier f.remote f.bytes m bytes e)
    judged-next (Ok None) e = elsewhere (silent_elsewhere a f.identifier f.remote f.bytes e)
    judged-next (Err n) e = refused n

    next : Next f fs (taking b f.identifier f.remote f.bytes buffer)
    unfolding taking
    next = rw (le-ltb (length b) bench_size l.sound.whole, l.own) (judged-next (judged a f.identifier f.remote f.bytes) refl)

    -- a message that is taken, with room for its replies
    pub taken_is : (m : Message) → judged a f.identifier f.remote f.bytes ≡ Ok (Some m) → 12 * length (replies (done m b) m) ≤ length buffer
        → taking b f.identifier f.remote f.bytes buffer ≡ taken_with (done m b) (replies (done m b) m) buffer
    unfolding taking given
    taken_is m e h = rw (le-ltb (length b) bench_size l.sound.whole, l.own, e, le-leb (12 * length (replies (done m b) m)) (length buffer) h)

  -- a call that is taken, with room for its replies
  pub one-taken : (c : Call) (b : List ℕ) (fs : List Frame) (rs : List Run) (m : Message) → judged a c.frame.identifier c.frame.remote c.frame.bytes ≡ Ok (Some m)
      → 12 * length (replies (done m b) m) ≤ length c.buffer → Along a first b fs rs
      → Along a first (called b c).bench (on_top (heard_of a c.frame (called b c)) fs) (runs_on_top (runs_of (replies (done m b) m)) (run_by m ∷ rs))
  one-taken c b fs rs m e h l =
      subst (λ (o : Outcome). Along a first o.bench (on_top (heard_of a c.frame o) fs) (runs_on_top (runs_of (replies (done m b) m)) (run_by m ∷ rs)))
      (sym (taken_is c.frame c.bytes c.buffer b fs rs l m e h))
      (taken_along c.frame c.bytes c.buffer b fs rs l m (took_it a c.frame.identifier c.frame.remote c.frame.bytes m c.bytes e) h)

  -- all calls
  pub record Dialogue (b : List ℕ) (cs : List Call) : Type 0 where
    pub runs : List Run
    pub along : Along a first (after b cs) (heard_after a b cs) runs

  pub dialogue : (b : List ℕ) (cs : List Call) → Along a first b [] [] → Dialogue b cs
  unfolding after heard_after
  dialogue b [] l = record { runs = []; along = l }
  dialogue b (c ∷ cs) l =
      let s = dialogue b cs l in
      let n = next c.frame c.bytes c.buffer (after b cs) (heard_after a b cs) s.runs s.along in
      record { runs = n.runs; along = n.along }
