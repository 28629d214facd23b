-- Request W-214's theorem, as specs/Lesson.antt states it. Assumes nothing.
use Rattle.std.specs.Prelude.{Ok, Some, None, Err}
use Prim.Native.Nat.{ℕ, ◌+◌, ◌-◌, ◌*◌, ◌≤◌, ◌<◌}
use native.Mathlib.Omega.{arith}
use mathlib.Core.Path.{◌≡◌, refl, sym, ap, subst, ◌∙◌}
use mathlib.Core.Logic.{◌⊎◌, inl, inr}
use mathlib.Core.Bool.{Bool, true, false, ◌&&◌}
use mathlib.Core.List.{List, [], ◌∷◌, ◌++◌, map}
use mathlib.Core.Option.{none, some}
use lib.Dec.{eqb, ltb}
use lib.ListN.{length, get_or, drop, get_or-append}
use lib.Seq.{sets}
use borrow.Author.Tests.{eq-eqb, le-leb, lt-ltb}
use Rattle.laws.specs.Limits.{AllBytes}
use Rattle.laws.specs.Refusals.{no_such_place}
use Rattle.laws.specs.Tests.{among}
use Rattle.laws.specs.Tab.{tab}
use Rattle.laws.proofs.Tab.{length-tab, get_d_tab}
use Rattle.kinds.specs.Types.{vmb8ir, no_type, handed_types, line_of, rows_of, extent_of}
use Rattle.frame.specs.Bytes.{byte}
use Rattle.frame.specs.declared.messages.Command.TheVariants.{DumpAsked, StatusAsked}
use Rattle.frame.specs.declared.messages.Message.{Message}
use Rattle.frame.specs.declared.messages.Message.TheVariants.{TypeRequest, Tells}
use Rattle.judging.specs.Reading.{reading}
use Rattle.codec.proofs.Accepted.{every_request}
use Rattle.codec.proofs.RoundTrip.{written_then_read}
use Rattle.shape.specs.Answers.{Answer}
use Rattle.places.specs.Places.{led_place, cell_place, first_character, character_place}
use Rattle.shape.specs.Limits.{bus_address}
use Rattle.places.specs.Runs.{Run, no_run, names, enters, led_by, meaning_of, meant, read_as}
use Rattle.questions.specs.Question.{type_of, cell, led, name_row, Reply, value}
use Rattle.questions.specs.Replies.{reply}
use Rattle.history.specs.Standing.{Frame, address, sense, meaning, Known, unknown, told, latest, hear, standing}
use Rattle.history.specs.Asked.{number_of, one_to, told_if, over_row, each_of, name_in, count_told, told_as, told_reply}
use Rattle.history.specs.Demand3.{run_bytes, Tells as TellsAll}
use Rattle.history.specs.InMemory.{OneTo, cell_of}
use Rattle.replies.specs.Leds.{ones}
use Rattle.replies.specs.Bench.{own, own_address, leds}
use Rattle.replies.specs.Replies.{blocks, dump, status, type_told, replies}
use Rattle.bench.specs.Deeds.{store, done}
use Rattle.frame.specs.declared.messages.Glow.TheVariants.{On, Slow, Fast, VeryFast}
use Rattle.bench.specs.Sending.{reply_bytes, all_bytes}
use Rattle.verdicts.specs.Verdicts.{sent_only, judged_if, judged}
use Rattle.taking.specs.Taking.{taken_with, taking}
use Rattle.bench.proofs.Storing.{dump-length}
use Rattle.lessons.specs.Hearing.{Call, called, after, frame_in, frames_in, heard_after, frames_at}
use Rattle.lessons.specs.Lesson.{remote_to, command_to, Start, at_start, type_frame, Listens, all_heard, Truthful, LessonShown, LessonHeard, Whole, DumpAndStatus, LessonWhole}
use Rattle.lessons.proofs.Agree.{Agree, hears-own}
use Rattle.lessons.proofs.Doing.{Sound, run_of}
use Rattle.lessons.proofs.Answering.{type_owns}
use Rattle.lessons.proofs.Sent.{at, Sends, type_sends, dump-asked, status-asked, sent_all, sent_there, reply-reads, reply_from}
use Rattle.lessons.proofs.Heard.{AllHear, heard_by, AllAsk, quiet, Heard, listing, follows, all_accepted, told_at}
use Rattle.lessons.proofs.Told.{Told, runs_on_top, runs_of, none_calm, dump_tells, row_tells, row_stays, counts_all}
use Rattle.lessons.proofs.Dialogue.{Along, dialogue, one-taken, taken_is}
use Rattle.lessons.proofs.Start.{Made, made, made_sound, made_address}

-- ---- the bench takes what it is asked
takes : (a : ℕ) (f : Frame) (m : Message) → eqb (bus_address f.identifier) a ≡ true → eqb f.remote 0 && among (byte 1 f.bytes) sent_only ≡ false
    → reading vmb8ir f.identifier f.remote f.bytes ≡ Ok (at a, m) → judged a f.identifier f.remote f.bytes ≡ Ok (Some m)
unfolding judged judged_if
takes a f m here sent e = rw (e, here, sent)

module _ (a : ℕ) (small : a < 256) where
  here : eqb (bus_address (1536 + 2 * a)) a ≡ true
  here = eq-eqb (bus_address (1536 + 2 * a)) a (omega arith)

  takes_request : judged a (remote_to a).identifier (remote_to a).remote (remote_to a).bytes ≡ Ok (Some TypeRequest)
  takes_request = takes a (remote_to a) TypeRequest here refl (every_request vmb8ir (at a) refl small)

  takes_dump : judged a (command_to a (0xCB ∷ [])).identifier 0 (0xCB ∷ []) ≡ Ok (Some (Tells DumpAsked))
  unfolding rows_of
  takes_dump = takes a (command_to a (0xCB ∷ [])) (Tells DumpAsked) here refl (written_then_read vmb8ir (at a) (Tells DumpAsked) _ small (dump-asked a).given)

  takes_status : (x : ℕ) → judged a (command_to a (0xFA ∷ x ∷ [])).identifier 0 (0xFA ∷ x ∷ []) ≡ Ok (Some (Tells (StatusAsked x)))
  unfolding rows_of
  takes_status x = takes a (command_to a (0xFA ∷ x ∷ [])) (Tells (StatusAsked x)) here refl (written_then_read vmb8ir (at a) (Tells (StatusAsked x)) _ small (status-asked a x).given)

  -- the request, before a module is listed
  ask_means : meaning none (remote_to a) ≡ names no_run
  unfolding meaning sense read_as meant
  ask_means = rw (every_request no_type (at a) refl small)

  asks_only : (fs : List Frame) → (fs ≡ []) ⊎ (fs ≡ remote_to a ∷ []) → AllAsk a fs
  asks_only fs (inl e) = rw e tt
  asks_only fs (inr e) = rw e ((omega arith, ask_means), tt)

-- ---- from the start
never_told : (v : ℕ) → unknown ≡ told v → ⊥
never_told v e = let z : ◌≡◌ {A = ℕ} 0 1 = cc in omega arith

module _ (s : Start) where
  facts : Made s.lent s.address s.cells s.version s.year s.week
  facts = made s.lent s.address s.cells s.version s.year s.week s.made

  a : ℕ
  a = s.address

  b : List ℕ
  b = at_start s

  sound : Sound b
  unfolding b
  sound = made_sound s.lent s.address s.cells s.version s.year s.week facts

  own_is : own_address b ≡ a
  unfolding b a
  own_is = made_address s.lent s.address s.cells s.version s.year s.week facts

  first : Run
  first = run_of (type_told b)

  begins : Along a first b [] []
  unfolding heard_by first
  begins =
      record { sound = sound; own = own_is; hear = tt; agree = λ p v e. hears-own b (run_of (type_told b)) (λ y. unknown) (type_owns b) (λ y w n. absurd (never_told w n)) p v e }

  small : a < 256
  unfolding a
  small = facts.small

  no_bytes : AllBytes (remote_to a).bytes
  no_bytes i = omega arith

  first_call : called b s.first ≡ taken_with b (type_told b ∷ []) s.first.buffer
  unfolding done replies a
  first_call =
      ap (λ (f : Frame). taking b f.identifier f.remote f.bytes s.first.buffer) s.asks
      ∙ taken_is a small first (remote_to a) no_bytes s.first.buffer b [] [] begins TypeRequest (takes_request a small) s.room

  type_is : type_frame s ≡ frame_in (reply_bytes a (type_told b))
  unfolding b frames_in sent_all
  type_is = go (sent_there a (type_told b ∷ []) s.first.buffer s.room)
    where
      go : frames_in 1 (sets s.first.buffer 0 (all_bytes a (type_told b ∷ []))) ≡ sent_all a (type_told b ∷ []) → type_frame s ≡ frame_in (reply_bytes a (type_told b))
      go e = rw (first_call, own_is) (head _ _ e)
        where
          head : (x y : Frame) → x ∷ [] ≡ y ∷ [] → x ≡ y
          head x y e = cc

  type_sent : (kind : ℕ) → among kind handed_types ≡ true → Sends kind a (type_told b)
  type_sent kind h = type_sends a kind _ _ _ _ _ h

  type_at : address (frame_in (reply_bytes a (type_told b))) ≡ a
  type_at = reply_from no_type a (type_told b) small (type_sent no_type refl) (type_sent vmb8ir refl)

  type_means : meaning none (frame_in (reply_bytes a (type_told b))) ≡ enters vmb8ir first
  unfolding meaning sense read_as meant meaning_of first
  type_means = rw (reply-reads no_type a (type_told b) small (type_sent no_type refl) (type_sent vmb8ir refl))

  -- all that is heard
  module _ (d : ℕ) (calls : List Call) (l : Listens d s calls) where
    starts : Heard d a (type_frame s ∷ l.before) (heard_by first [])
    unfolding a
    starts = rw type_is (listing d a l.before (frame_in (reply_bytes a (type_told b))) first (quiet d a l.before (asks_only a small (frames_at a l.before) l.quiet)) type_at type_means l.room)

    all-heard : (rs : List Run) → AllHear a (heard_after a b calls) rs → Heard d a (all_heard l) (heard_by first rs)
    unfolding a b
    all-heard rs h = follows d a first (type_frame s ∷ l.before) l.since rs starts (rw l.follows h)

-- ---- the questions
value-told : (has : Bool) (k : Known) (v : ℕ) (out : List ℕ) → told_if has k out ≡ value v out → k ≡ told v
value-told true (told w) v out e = let a : ◌≡◌ {A = Answer} (Ok (Some w)) (Ok (Some v)) = ap (λ (r : Reply). r.answer) e in let q : w ≡ v = cc in ap told q
value-told true unknown v out e = let a : ◌≡◌ {A = Answer} (Ok None) (Ok (Some v)) = ap (λ (r : Reply). r.answer) e in absurd (let z : ◌≡◌ {A = ℕ} 0 1 = cc in omega arith)
value-told false k v out e = let a : ◌≡◌ {A = Answer} (Err no_such_place) (Ok (Some v)) = ap (λ (r : Reply). r.answer) e in absurd (let z : ◌≡◌ {A = ℕ} 0 1 = cc in omega arith)

number-told : (k : Known) (v : ℕ) → number_of k ≡ v → v < 256 → k ≡ told v
number-told unknown v e h = absurd (omega arith)
number-told (told w) v e h = ap told e

eight : (n : ℕ) → OneTo 8 n → one_to 8 n ≡ true
eight n h = rw (le-leb 1 n h.0, le-leb n 8 h.1)

character_cell : (n i : ℕ) → OneTo 16 i → character_place vmb8ir n (i - 1 + 1) ≡ cell_place vmb8ir (cell_of n i)
unfolding first_character line_of
character_cell n i h = omega arith

name-cell : (n i : ℕ) → character_place vmb8ir n (i + 1) ≡ cell_place vmb8ir (16 * (n - 1) + i)
unfolding first_character line_of
name-cell n i = omega arith

module _ (picture : List ℕ) (a : ℕ) (known : ℕ → Known) (shown : TellsAll picture a (some vmb8ir) known) where
  named : ℕ → List ℕ
  named n = each_of number_of 16 (name_in vmb8ir known n)

  named_long : (n : ℕ) → length (named n) ≡ 16
  unfolding named
  named_long n = length-tab 16 _

  name_is : (n : ℕ) → OneTo 8 n → (out : List ℕ) → 16 ≤ length out → reply picture a (name_row n) out ≡ value (count_told 16 (name_in vmb8ir known n)) (named n ++ drop 16 out)
  unfolding told_reply told_as extent_of line_of over_row named
  name_is n h out room =
      shown (name_row n) out ∙ rw (eight n h, named_long n, le-leb 16 (length out) room)

  module _ (b : List ℕ) (agree : Agree known b) where
    truthful : Truthful picture a b
    unfolding told_reply told_as named
    truthful =
        record {
          type = λ out. shown type_of out;
          cells = λ l v out e. agree (cell_place vmb8ir l) v (value-told (ltb l (extent_of vmb8ir).cells) (known (cell_place vmb8ir l)) v out (sym (shown (cell l) out) ∙ e));
          leds = λ n v out e. agree (led_place n) v (value-told (one_to (extent_of vmb8ir).leds n) (known (led_place n)) v out (sym (shown (led n) out) ∙ e));
          characters = λ n i v out hn hi room e g.
              let r : get_or (named n) (i - 1) 0 ≡ v = sym (get_or-append (named n) (drop 16 out) 0 (i - 1) (omega (arith, named_long n))) ∙ (rw (name_is n hn out room) at e) in
              let k : known (character_place vmb8ir n (i - 1 + 1)) ≡ told v = number-told (known (character_place vmb8ir n (i - 1 + 1))) v (sym (get_d_tab 16 _ (i - 1) 0 (omega arith)) ∙ r) g in
              rw (← character_cell n i hi) (agree (character_place vmb8ir n (i - 1 + 1)) v k);
        }

    told_is : (p : ℕ) → Told (known p) → known p ≡ told (own b p)
    told_is p t = t.is ∙ ap told (sym (agree p t.value t.is))

    all_told : ((l : ℕ) → l < 256 → Told (known (cell_place vmb8ir l))) → ((n : ℕ) → OneTo 8 n → Told (known (led_place n))) → Whole picture a b
    unfolding told_reply told_as extent_of line_of
    all_told cells leds =
        record {
          cells = λ l h out. shown (cell l) out ∙ rw (lt-ltb l 256 h, told_is (cell_place vmb8ir l) (cells l h));
          leds = λ n h out. shown (led n) out ∙ rw (eight n h, told_is (led_place n) (leds n h));
          names = λ n h out room.
              ap (λ (r : Reply). r.answer) (name_is n h out room)
              ∙ ap (λ (x : ℕ). Ok (Some x)) (counts_all 16 (name_in vmb8ir known n) (λ i g. subst (λ (p : ℕ). Told (known p)) (sym (name-cell n i)) (cells (16 * (n - 1) + i) (omega (arith, h.0, h.1)))));
        }

-- ---- the statements
pub lesson_shown : LessonShown
unfolding a b
lesson_shown picture enough d deep s calls l =
    let r = dialogue (a s) (small s) (first s) (b s) calls (begins s) in
    let h = all-heard s d calls l r.runs r.along.hear in
    truthful (run_bytes picture d (map hear (all_heard l))) (a s) (latest (standing d (map hear (all_heard l))) (a s))
    (told_at picture enough d deep (a s) (all_heard l) (heard_by (first s) r.runs) h.shows) (after (b s) calls)
    (λ p v e. r.along.agree p v (sym (h.shows.known p) ∙ e))

pub lesson_heard : LessonHeard
unfolding a b
lesson_heard picture enough d deep s calls l =
    let r = dialogue (a s) (small s) (first s) (b s) calls (begins s) in
    all_accepted picture enough d deep (a s) (all_heard l) (all-heard s d calls l r.runs r.along.hear).stand

-- ---- after CB and FA
module _ (first : Run) (b b' : List ℕ) (rs : List Run) where
  -- the runs of the two commands with their replies
  after_both : List Run
  after_both = run_of (status b') ∷ no_run ∷ runs_on_top (runs_of (dump b 0 blocks)) (no_run ∷ rs)

  lit : List ℕ
  lit = tab 8 (led_by (ones On On (leds b')) (ones Slow VeryFast (leds b')) (ones Fast VeryFast (leds b')))

  lit_long : length lit ≡ 8
  unfolding lit
  lit_long = length-tab 8 _

  cells_told : (l : ℕ) → l < 256 → Told (heard_by first after_both (cell_place vmb8ir l))
  unfolding after_both meaning_of lit
  cells_told l h =
      row_stays first (256 + l) 2 lit (no_run ∷ runs_on_top (runs_of (dump b 0 64)) (no_run ∷ rs)) (none_calm first (256 + l) (runs_on_top (runs_of (dump b 0 64)) (no_run ∷ rs)) (dump_tells first (256 + l) b 64 0 (no_run ∷ rs) (omega arith) (omega arith)))

  leds-told : (n : ℕ) → OneTo 8 n → Told (heard_by first after_both (led_place n))
  unfolding after_both meaning_of lit
  leds-told n h = row_tells first (led_place n) 2 lit _ (omega arith) (omega (arith, lit_long, h.0, h.1))

module _ (s : Start) (calls : List Call) (dumping asking : Call) (asked : DumpAndStatus s.address dumping asking) where
  dump-judged : judged (a s) dumping.frame.identifier dumping.frame.remote dumping.frame.bytes ≡ Ok (Some (Tells DumpAsked))
  unfolding a
  dump-judged = ap (λ (f : Frame). judged (a s) f.identifier f.remote f.bytes) asked.asks_dump ∙ takes_dump (a s) (small s)

  status-judged : judged (a s) asking.frame.identifier asking.frame.remote asking.frame.bytes ≡ Ok (Some (Tells (StatusAsked asked.channel)))
  unfolding a
  status-judged = ap (λ (f : Frame). judged (a s) f.identifier f.remote f.bytes) asked.asks_status ∙ takes_status (a s) (small s) asked.channel

  start : List ℕ
  start = after (b s) calls

  dumped : List ℕ
  dumped = after (b s) (dumping ∷ calls)

  dump-fits : 12 * length (replies (done (Tells DumpAsked) start) (Tells DumpAsked)) ≤ length dumping.buffer
  unfolding replies
  dump-fits = rw (dump-length (done (Tells DumpAsked) start) 0 64) asked.dump_room

  status-fits : 12 * length (replies (done (Tells (StatusAsked asked.channel)) dumped) (Tells (StatusAsked asked.channel))) ≤ length asking.buffer
  unfolding replies
  status-fits = asked.status_room

  both_heard : (rs : List Run) → Along (a s) (first s) start (heard_after (a s) (b s) calls) rs
      → Along (a s) (first s) (after (b s) (asking ∷ dumping ∷ calls)) (heard_after (a s) (b s) (asking ∷ dumping ∷ calls)) (after_both (first s) start dumped rs)
  unfolding start dumped after heard_after after_both done store replies runs_on_top meaning_of
  both_heard rs l =
      one-taken (a s) (small s) (first s) asking dumped (heard_after (a s) (b s) (dumping ∷ calls)) (runs_on_top (runs_of (dump start 0 blocks)) (no_run ∷ rs)) (Tells (StatusAsked asked.channel)) status-judged status-fits
      (one-taken (a s) (small s) (first s) dumping start (heard_after (a s) (b s) calls) rs (Tells DumpAsked) dump-judged dump-fits l)

pub lesson_whole : LessonWhole
unfolding a b start
lesson_whole picture enough d deep s calls dumping asking asked l =
    let r = dialogue (a s) (small s) (first s) (b s) calls (begins s) in
    let rs = after_both (first s) (start s calls dumping asking asked) (dumped s calls dumping asking asked) r.runs in
    let t = both_heard s calls dumping asking asked r.runs r.along in
    let h = all-heard s d (asking ∷ dumping ∷ calls) l rs t.hear in
    let S = standing d (map hear (all_heard l)) in
    let keep : (p : ℕ) → Told (heard_by (first s) rs p) → Told (latest S (a s) p) = λ p k. record { value = k.value; is = h.shows.known p ∙ k.is } in
    all_told (run_bytes picture d (map hear (all_heard l))) (a s) (latest S (a s)) (told_at picture enough d deep (a s) (all_heard l) (heard_by (first s) rs) h.shows)
    (after (b s) (asking ∷ dumping ∷ calls)) (λ p v e. t.agree p v (sym (h.shows.known p) ∙ e))
    (λ c g. keep (cell_place vmb8ir c) (cells_told (first s) (start s calls dumping asking asked) (dumped s calls dumping asking asked) r.runs c g))
    (λ n g. keep (led_place n) (leds-told (first s) (start s calls dumping asking asked) (dumped s calls dumping asking asked) r.runs n g))
