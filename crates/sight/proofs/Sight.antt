-- Frames taken at one look: a frame of lowest priority to the bench's own address, that fits its row, gives what its command gives.
--     located_held       what the test of a location tells
--     cell-asked, ..     the arms, each with what the code tested and did
-- Assumes nothing.
use Rattle.std.specs.Prelude.{Ok, Some}
use Rattle.std.proofs.Common.{◌≡◌, ℕ, zero, suc, ◌+◌, ◌*◌, ◌≤◌, Bool, true, false, ◌&&◌, eqb, leb, List, [], ◌∷◌, length, get_or, set, sym, refl, ap, ◌∙◌, subst, arith, get_or-set_other, ext_get_or, eqb-true, leb-true}
use lib.Seq.{sets}
use Rattle.laws.specs.Tab.{tab}
use Rattle.laws.specs.Tests.{among}
use Rattle.laws.proofs.Tab.{length-tab, get_d_tab}
use Rattle.laws.proofs.Testing.{and_both}
use Rattle.kinds.specs.Bits.{one_bit}
use Rattle.kinds.specs.Types.{vmb8ir, low, line_of, rows_of}
use Rattle.frame.specs.Bytes.{byte, data_of, bytes_of}
use Rattle.frame.specs.Messages.{decode}
use Rattle.frame.specs.declared.messages.Command.{Command}
use Rattle.frame.specs.declared.messages.Command.TheVariants.{CellAsked, BlockAsked, DumpAsked, NameAsked, StatusAsked, CellSet, BlockSet, LedsAll, Leds}
use Rattle.frame.specs.declared.messages.Glow.TheVariants.{Off, On, Slow, Fast, VeryFast}
use Rattle.frame.specs.declared.messages.Message.TheVariants.{Tells}
use Rattle.fields.specs.Fields.{asked_allowed}
use Rattle.judging.specs.Reading.{command_refusal}
use Rattle.places.specs.Places.{cell_place}
use Rattle.places.specs.Runs.{telling, all_leds, some_leds}
use Rattle.replies.specs.Bench.{own_address}
use Rattle.replies.specs.Replies.{block, blocks, dump, status, answers, replies}
use Rattle.bench.specs.Deeds.{store, done_by, done}
use Rattle.bench.specs.Sending.{all_bytes}
use Rattle.bench.proofs.Storing.{no_more, dump-length}
use Rattle.verdicts.specs.Verdicts.{sent_only, judged}
use Rattle.verdicts.proofs.Own.{own-taken}
use Rattle.sight.specs.Words.{taken_word}
use Rattle.sight.specs.Arms.{Ours, Took, located}
use Rattle.taking.proofs.Given.{room, by-judged}
use Rattle.sight.proofs.Laid.{near}

-- a location whose high byte is 0
above : (x : ℕ) → 256 * 0 + x ≡ x
above x = omega arith

-- a list by its bytes
by_bytes : (n : ℕ) (s : List ℕ) → length s ≡ n → s ≡ tab n (λ i. get_or s i 0)
by_bytes n s e =
    ext_get_or 0 s (tab n (λ i. get_or s i 0)) (e ∙ sym (length-tab n (λ i. get_or s i 0)))
    (λ i h. sym (get_d_tab n (λ i. get_or s i 0) i 0 (rw e at h)))

-- what a test of the location tells, and of the room
pub record Held (n last : ℕ) (s : List ℕ) : Type 0 where
  pub sized : length s ≡ n
  pub high : byte 2 s ≡ 0
  pub low_byte : byte 3 s ≤ last

pub located_held : (n last : ℕ) (s : List ℕ) → located n last s ≡ true → Held n last s
located_held n last s h =
    let g = and_both (eqb (length s) n) (eqb (byte 2 s) 0 && leb (byte 3 s) last) h in
    let k = and_both (eqb (byte 2 s) 0) (leb (byte 3 s) last) g.1 in
    record { sized = eqb-true (length s) n g.0; high = eqb-true (byte 2 s) 0 k.0; low_byte = leb-true (byte 3 s) last k.1 }

-- the data of a frame whose length is known, byte by byte
module _ (s : List ℕ) {c : ℕ} (command : byte 1 s ≡ c) where
  of_one : length s ≡ 1 → s ≡ c ∷ []
  unfolding tab
  of_one e = by_bytes 1 s e ∙ rw command

  of_two : length s ≡ 2 → s ≡ c ∷ byte 2 s ∷ []
  unfolding tab
  of_two e = by_bytes 2 s e ∙ rw command

  of_three : {last : ℕ} → Held 3 last s → s ≡ c ∷ 0 ∷ byte 3 s ∷ []
  unfolding tab
  of_three h = by_bytes 3 s h.sized ∙ rw (command, h.high)

  of_four : length s ≡ 4 → s ≡ c ∷ byte 2 s ∷ byte 3 s ∷ byte 4 s ∷ []
  unfolding tab
  of_four e = by_bytes 4 s e ∙ rw command

  of_seven : {last : ℕ} → Held 7 last s → s ≡ c ∷ 0 ∷ byte 3 s ∷ byte 4 s ∷ byte 5 s ∷ byte 6 s ∷ byte 7 s ∷ []
  unfolding tab
  of_seven h = by_bytes 7 s h.sized ∙ rw (command, h.high)

-- the address lies behind the cells
address_kept : (b : List ℕ) (x v w y z : ℕ) → x ≤ 252 → own_address (done_by (telling (cell_place vmb8ir x) (v ∷ w ∷ y ∷ z ∷ [])) b) ≡ own_address b
unfolding store
address_kept b x v w y z h =
    let p = 256 + x in
    get_or-set_other (set (set (set b p v) (suc p) w) (suc (suc p)) y) (suc (suc (suc p))) 512 z 0 (λ e. omega arith)
    ∙ get_or-set_other (set (set b p v) (suc p) w) (suc (suc p)) 512 y 0 (λ e. omega arith)
    ∙ get_or-set_other (set b p v) (suc p) 512 w 0 (λ e. omega arith)
    ∙ get_or-set_other b p 512 v 0 (λ e. omega arith)

-- two tests that hold together: the second is of the room
pub both_held : (t : Bool) (n : ℕ) (buffer : List ℕ) → t && leb n (length buffer) ≡ true → (t ≡ true) × (n ≤ length buffer)
both_held t n buffer h = let g = and_both t (leb n (length buffer)) h in (g.0, leb-true n (length buffer) g.1)

-- a frame that fits its row, with room for its replies
module _ (b : List ℕ) (address identifier : ℕ) (ours : Ours b address identifier) (buffer : List ℕ) where
  taken :
      (s b' buffer' : List ℕ) (m : Command) (n : ℕ) →
      1 ≤ length s →
      length s ≤ 8 →
      among (byte 1 s) sent_only ≡ false →
      command_refusal vmb8ir low (data_of s) (decode (bytes_of (data_of s))) ≡ 0 →
      decode (bytes_of (data_of s)) ≡ m →
      ((x : List ℕ) → n ≡ length (replies x (Tells m))) →
      12 * n ≤ length buffer →
      b' ≡ done (Tells m) b →
      buffer' ≡ sets buffer 0 (all_bytes (own_address b') (replies b' (Tells m))) →
      Took b identifier 0 s buffer (taken_word (Ok n)) b' buffer'
  taken s b' buffer' m n h₁ h₈ sent r d count fits e f =
      let j : judged (own_address b) identifier 0 s ≡ Ok (Some (Tells m)) = rw (← ours.own, ours.addressed) (own-taken address s m ours.small h₁ h₈ sent r d) in
      let g = by-judged b s buffer identifier 0 (judged (own_address b) identifier 0 s) (Ok (Some (Tells m))) (Ok n) b' buffer' ours.whole refl j (room b b' buffer buffer' (Tells m) n count fits e f) in
      record { answered = ap taken_word g.0; bench_after = g.1.0; buffer_after = g.1.1 }

  -- questions: the bench stays as it is
  cell-taken : (x : ℕ) (buffer' : List ℕ) → x ≤ 255 → 12 ≤ length buffer → buffer' ≡ sets buffer 0 (all_bytes address (answers b (CellAsked (record { 0 = x }))))
      → Took b identifier 0 (0xFD ∷ 0 ∷ x ∷ []) buffer 1 b buffer'
  unfolding replies done store rows_of line_of
  cell-taken x buffer' h fits f =
      taken (0xFD ∷ 0 ∷ x ∷ []) b buffer' (CellAsked (record { 0 = x })) 1 (omega arith) (omega arith) refl (rw (near 255 (256 * 0 + x) (omega arith))) (ap (λ (n : ℕ). CellAsked (record { 0 = n })) (above x)) (λ y. refl) fits refl (rw (← ours.own) f)

  block-taken : (x : ℕ) (buffer' : List ℕ) → x ≤ 252 → 12 ≤ length buffer → buffer' ≡ sets buffer 0 (all_bytes address (block b x ∷ []))
      → Took b identifier 0 (0xC9 ∷ 0 ∷ x ∷ []) buffer 1 b buffer'
  unfolding replies done store rows_of line_of
  block-taken x buffer' h fits f =
      taken (0xC9 ∷ 0 ∷ x ∷ []) b buffer' (BlockAsked (record { 0 = x })) 1 (omega arith) (omega arith) refl (rw (near 252 (256 * 0 + x) (omega arith))) (ap (λ (n : ℕ). BlockAsked (record { 0 = n })) (above x)) (λ y. refl) fits refl (rw (← ours.own) f)

  all_taken : (buffer' : List ℕ) → 768 ≤ length buffer → buffer' ≡ sets buffer 0 (all_bytes address (dump b 0 blocks)) → Took b identifier 0 (0xCB ∷ []) buffer 64 b buffer'
  unfolding replies done store rows_of line_of
  all_taken buffer' fits f =
      taken (0xCB ∷ []) b buffer' DumpAsked 64 (omega arith) (omega arith) refl refl refl (λ y. sym (dump-length y 0 64)) fits refl (rw (← ours.own) f)

  name-taken : (n : ℕ) (buffer' : List ℕ) → one_bit n ≡ true → 36 ≤ length buffer → buffer' ≡ sets buffer 0 (all_bytes address (answers b (NameAsked n)))
      → Took b identifier 0 (0xEF ∷ n ∷ []) buffer 3 b buffer'
  unfolding replies done store rows_of line_of asked_allowed
  name-taken n buffer' h fits f =
      taken (0xEF ∷ n ∷ []) b buffer' (NameAsked n) 3 (omega arith) (omega arith) refl (rw h) refl (λ y. refl) fits refl (rw (← ours.own) f)

  status-taken : (n : ℕ) (buffer' : List ℕ) → 12 ≤ length buffer → buffer' ≡ sets buffer 0 (all_bytes address (status b ∷ [])) → Took b identifier 0 (0xFA ∷ n ∷ []) buffer 1 b buffer'
  unfolding replies done store rows_of line_of
  status-taken n buffer' fits f =
      taken (0xFA ∷ n ∷ []) b buffer' (StatusAsked n) 1 (omega arith) (omega arith) refl refl refl (λ y. refl) fits refl (rw (← ours.own) f)

  -- deeds
  cell-stored : (x v : ℕ) (b' : List ℕ) → x ≤ 255 → b' ≡ done_by (telling (cell_place vmb8ir x) (v ∷ [])) b → Took b identifier 0 (0xFC ∷ 0 ∷ x ∷ v ∷ []) buffer 0 b' buffer
  unfolding replies done rows_of line_of
  cell-stored x v b' h e =
      taken (0xFC ∷ 0 ∷ x ∷ v ∷ []) b' buffer (CellSet (record { 0 = x }) v) 0 (omega arith) (omega arith) refl (rw (near 255 (256 * 0 + x) (omega arith))) (ap (λ (n : ℕ). CellSet (record { 0 = n }) v) (above x)) (λ y. refl) (omega arith) e (sym (no_more buffer 0 (own_address b')))

  block-stored : (x v w y z : ℕ) (b' buffer' : List ℕ) → x ≤ 252 → 12 ≤ length buffer → b' ≡ done_by (telling (cell_place vmb8ir x) (v ∷ w ∷ y ∷ z ∷ [])) b
      → buffer' ≡ sets buffer 0 (all_bytes address (block b' x ∷ [])) → Took b identifier 0 (0xCA ∷ 0 ∷ x ∷ v ∷ w ∷ y ∷ z ∷ []) buffer 1 b' buffer'
  unfolding replies done rows_of line_of
  block-stored x v w y z b' buffer' h fits e f =
      let own : own_address b' ≡ address = ap own_address e ∙ address_kept b x v w y z h ∙ sym ours.own in
      taken (0xCA ∷ 0 ∷ x ∷ v ∷ w ∷ y ∷ z ∷ []) b' buffer' (BlockSet (record { 0 = x }) v w y z) 1 (omega arith) (omega arith) refl (rw (near 252 (256 * 0 + x) (omega arith))) (ap (λ (n : ℕ). BlockSet (record { 0 = n }) v w y z) (above x)) (λ y. refl) fits e (rw own f)

  all_lit : (on slow fast : ℕ) (b' : List ℕ) → b' ≡ done_by (all_leds on slow fast) b → Took b identifier 0 (0xF4 ∷ on ∷ slow ∷ fast ∷ []) buffer 0 b' buffer
  unfolding replies done rows_of line_of
  all_lit on slow fast b' e =
      taken (0xF4 ∷ on ∷ slow ∷ fast ∷ []) b' buffer (LedsAll on slow fast) 0 (omega arith) (omega arith) refl refl refl (λ y. refl) (omega arith) e (sym (no_more buffer 0 (own_address b')))

  some_lit : (state mask : ℕ) (b' : List ℕ) → state ≤ 4 → b' ≡ done_by (some_leds mask state) b → Took b identifier 0 ((0xF5 + state) ∷ mask ∷ []) buffer 0 b' buffer
  unfolding replies done rows_of line_of
  some_lit zero mask b' h e = taken (0xF5 ∷ mask ∷ []) b' buffer (Leds Off mask) 0 (omega arith) (omega arith) refl refl refl (λ y. refl) (omega arith) e (sym (no_more buffer 0 (own_address b')))
  some_lit (suc zero) mask b' h e = taken (0xF6 ∷ mask ∷ []) b' buffer (Leds On mask) 0 (omega arith) (omega arith) refl refl refl (λ y. refl) (omega arith) e (sym (no_more buffer 0 (own_address b')))
  some_lit (suc (suc zero)) mask b' h e = taken (0xF7 ∷ mask ∷ []) b' buffer (Leds Slow mask) 0 (omega arith) (omega arith) refl refl refl (λ y. refl) (omega arith) e (sym (no_more buffer 0 (own_address b')))
  some_lit (suc (suc (suc zero))) mask b' h e = taken (0xF8 ∷ mask ∷ []) b' buffer (Leds Fast mask) 0 (omega arith) (omega arith) refl refl refl (λ y. refl) (omega arith) e (sym (no_more buffer 0 (own_address b')))
  some_lit (suc (suc (suc (suc zero)))) mask b' h e = taken (0xF9 ∷ mask ∷ []) b' buffer (Leds VeryFast mask) 0 (omega arith) (omega arith) refl refl refl (λ y. refl) (omega arith) e (sym (no_more buffer 0 (own_address b')))
  some_lit (suc (suc (suc (suc (suc n))))) mask b' h e = absurd (omega arith)

  -- the arms
  module _ (s : List ℕ) where
    to-shape : {t b' buffer' : List ℕ} {n : ℕ} → s ≡ t → Took b identifier 0 t buffer n b' buffer' → Took b identifier 0 s buffer n b' buffer'
    to-shape {t} {b'} {buffer'} {n} q h = subst (λ (x : List ℕ). Took b identifier 0 x buffer n b' buffer') (sym q) h

    pub cell-asked : (buffer' : List ℕ) → byte 1 s ≡ 0xFD → located 3 255 s && leb 12 (length buffer) ≡ true → buffer' ≡ sets buffer 0 (all_bytes address (answers b (CellAsked (record { 0 = byte 3 s }))))
        → Took b identifier 0 s buffer 1 b buffer'
    cell-asked buffer' k t f =
        let g = both_held (located 3 255 s) 12 buffer t in
        let h = located_held 3 255 s g.0 in
        to-shape (of_three s k h) (cell-taken (byte 3 s) buffer' h.low_byte g.1 f)

    pub block-asked : (buffer' : List ℕ) → byte 1 s ≡ 0xC9 → located 3 252 s && leb 12 (length buffer) ≡ true → buffer' ≡ sets buffer 0 (all_bytes address (block b (byte 3 s) ∷ []))
        → Took b identifier 0 s buffer 1 b buffer'
    block-asked buffer' k t f =
        let g = both_held (located 3 252 s) 12 buffer t in
        let h = located_held 3 252 s g.0 in
        to-shape (of_three s k h) (block-taken (byte 3 s) buffer' h.low_byte g.1 f)

    pub all_asked : (buffer' : List ℕ) → byte 1 s ≡ 0xCB → eqb (length s) 1 && leb 768 (length buffer) ≡ true → buffer' ≡ sets buffer 0 (all_bytes address (dump b 0 blocks))
        → Took b identifier 0 s buffer 64 b buffer'
    all_asked buffer' k t f =
        let g = both_held (eqb (length s) 1) 768 buffer t in
        to-shape (of_one s k (eqb-true (length s) 1 g.0)) (all_taken buffer' g.1 f)

    pub name-asked : (buffer' : List ℕ) → byte 1 s ≡ 0xEF → (eqb (length s) 2 && one_bit (byte 2 s)) && leb 36 (length buffer) ≡ true → buffer' ≡ sets buffer 0 (all_bytes address (answers b (NameAsked (byte 2 s))))
        → Took b identifier 0 s buffer 3 b buffer'
    name-asked buffer' k t f =
        let g = both_held (eqb (length s) 2 && one_bit (byte 2 s)) 36 buffer t in
        let h = and_both (eqb (length s) 2) (one_bit (byte 2 s)) g.0 in
        to-shape (of_two s k (eqb-true (length s) 2 h.0)) (name-taken (byte 2 s) buffer' h.1 g.1 f)

    pub status-asked : (buffer' : List ℕ) → byte 1 s ≡ 0xFA → eqb (length s) 2 && leb 12 (length buffer) ≡ true → buffer' ≡ sets buffer 0 (all_bytes address (status b ∷ []))
        → Took b identifier 0 s buffer 1 b buffer'
    status-asked buffer' k t f =
        let g = both_held (eqb (length s) 2) 12 buffer t in
        to-shape (of_two s k (eqb-true (length s) 2 g.0)) (status-taken (byte 2 s) buffer' g.1 f)

    pub cell_set : (b' : List ℕ) → byte 1 s ≡ 0xFC → located 4 255 s ≡ true → b' ≡ done_by (telling (cell_place vmb8ir (byte 3 s)) (byte 4 s ∷ [])) b → Took b identifier 0 s buffer 0 b' buffer
    cell_set b' k t e =
        let h = located_held 4 255 s t in
        to-shape (of_four s k h.sized ∙ rw h.high) (cell-stored (byte 3 s) (byte 4 s) b' h.low_byte e)

    pub block_set : (b' buffer' : List ℕ) → byte 1 s ≡ 0xCA → located 7 252 s && leb 12 (length buffer) ≡ true
        → b' ≡ done_by (telling (cell_place vmb8ir (byte 3 s)) (byte 4 s ∷ byte 5 s ∷ byte 6 s ∷ byte 7 s ∷ [])) b → buffer' ≡ sets buffer 0 (all_bytes address (block b' (byte 3 s) ∷ []))
        → Took b identifier 0 s buffer 1 b' buffer'
    block_set b' buffer' k t e f =
        let g = both_held (located 7 252 s) 12 buffer t in
        let h = located_held 7 252 s g.0 in
        to-shape (of_seven s k h) (block-stored (byte 3 s) (byte 4 s) (byte 5 s) (byte 6 s) (byte 7 s) b' buffer' h.low_byte g.1 e f)

    pub leds-set : (b' : List ℕ) → byte 1 s ≡ 0xF4 → length s ≡ 4 → b' ≡ done_by (all_leds (byte 2 s) (byte 3 s) (byte 4 s)) b → Took b identifier 0 s buffer 0 b' buffer
    leds-set b' k t e = to-shape (of_four s k t) (all_lit (byte 2 s) (byte 3 s) (byte 4 s) b' e)

    pub some_leds-set : (state : ℕ) (b' : List ℕ) → state ≤ 4 → byte 1 s ≡ 0xF5 + state → length s ≡ 2 → b' ≡ done_by (some_leds (byte 2 s) state) b → Took b identifier 0 s buffer 0 b' buffer
    some_leds-set state b' h k t e = to-shape (of_two s k t) (some_lit state (byte 2 s) b' h e)
