-- Commands that share an arm: their rows, their fields and their runs, for each of them.
--     six_arm, six_field, six-run         the first two parts of a name
--     leds_arm, leds_field, leds-run      some LEDs, by the number of their state
--     moves_arm, moves_field, moves_run   a blind stopped or moved
--     free_arm, free_field, free-run      bytes that are all free
--     name_ends, blind_ends               where a name's characters and a blind's place end
-- Assumes nothing.
use Rattle.std.proofs.Common.{◌≡◌, ℕ, zero, suc, ◌+◌, ◌*◌, ◌<◌, ◌≤◌, Bool, true, false, cond, eqb, leb, List, [], ◌∷◌, length, refl, arith, le-leb, leb-true}
use borrow.Author.Tests.{eqb-false}
use Rattle.kinds.specs.Types.{high, low, Line, channels_of, name_of}
use Rattle.kinds.proofs.Listed.{of-line}
use Rattle.kinds.proofs.Positions.{position_most, blind_few}
use Rattle.frame.specs.Bytes.{byte, data_of}
use Rattle.frame.specs.Messages.{permanent, time_of, decode}
use Rattle.frame.specs.declared.messages.Time.TheVariants.{DipSwitch, Permanently, Seconds}
use Rattle.fields.specs.Fields.{channel_fault, stop_fault, time_allowed, fault, field_refusal}
use Rattle.judging.proofs.Numbers.{behind}
use Rattle.places.specs.Places.{places, character_place}
use Rattle.places.specs.Runs.{Run, no_run, asking, characters, some_leds, named_blind, run_in, meaning_of}
use Rattle.places.proofs.Fitting.{first_small}
use Rattle.commands.specs.Arms.{Moves, stops, goes_up, goes_down, Free, errors, errors_asked, memory_asked}
use Rattle.commands.proofs.Rows.{every_module, with_leds, with_blinds}
use Rattle.commands.proofs.Arms.{Arm}

abbrev field_of : ℕ → ℕ → List ℕ → ℕ
field_of k kind s = field_refusal (fault kind (decode (behind k (data_of s))))

abbrev run_of : ℕ → ℕ → List ℕ → Run
run_of k kind s = run_in (meaning_of kind (decode (behind k (data_of s))))

-- ---- the first two parts of a name
parts : (P : ℕ → Type 0) → P 0 → P 1 → (part : ℕ) → part ≤ 1 → P part
parts P p q zero h = p
parts P p q (suc zero) h = q
parts P p q (suc (suc n)) h = absurd (omega arith)

pub six_arm : (part : ℕ) → part ≤ 1 → Arm every_module (0xF0 + part) 8 low
six_arm = parts (λ part. Arm every_module (0xF0 + part) 8 low) (record { some_bytes = refl; no_type = refl; rows = refl }) (record { some_bytes = refl; no_type = refl; rows = refl })

pub six_field : (kind : ℕ) (s : List ℕ) (part : ℕ) → part ≤ 1 → field_refusal (channel_fault kind (byte 2 s)) ≡ field_of (0xF0 + part) kind s
six_field kind s = parts (λ part. field_refusal (channel_fault kind (byte 2 s)) ≡ field_of (0xF0 + part) kind s) refl refl

abbrev pub six_told_lem : ℕ → List ℕ → ℕ → Run
six_told_lem kind s part = characters kind (byte 2 s) (1 + 6 * part) (byte 3 s ∷ byte 4 s ∷ byte 5 s ∷ byte 6 s ∷ byte 7 s ∷ byte 8 s ∷ [])

pub six-run : (kind : ℕ) (s : List ℕ) (part : ℕ) → part ≤ 1 → six_told_lem kind s part ≡ run_of (0xF0 + part) kind s
unfolding meaning_of
six-run kind s = parts (λ part. six_told_lem kind s part ≡ run_of (0xF0 + part) kind s) refl refl

-- ---- some LEDs
states : (P : ℕ → Type 0) → P 0 → P 1 → P 2 → P 3 → P 4 → (state : ℕ) → state ≤ 4 → P state
states P a b c d e zero h = a
states P a b c d e (suc zero) h = b
states P a b c d e (suc (suc zero)) h = c
states P a b c d e (suc (suc (suc zero))) h = d
states P a b c d e (suc (suc (suc (suc zero)))) h = e
states P a b c d e (suc (suc (suc (suc (suc n))))) h = absurd (omega arith)

pub leds_arm : (state : ℕ) → state ≤ 4 → Arm with_leds (0xF5 + state) 2 low
leds_arm =
    states (λ state. Arm with_leds (0xF5 + state) 2 low)
    (record { some_bytes = refl; no_type = refl; rows = refl })
    (record { some_bytes = refl; no_type = refl; rows = refl })
    (record { some_bytes = refl; no_type = refl; rows = refl })
    (record { some_bytes = refl; no_type = refl; rows = refl })
    (record { some_bytes = refl; no_type = refl; rows = refl })

pub leds_field : (kind : ℕ) (s : List ℕ) (state : ℕ) → state ≤ 4 → field_of (0xF5 + state) kind s ≡ 0
leds_field kind s = states (λ state. field_of (0xF5 + state) kind s ≡ 0) refl refl refl refl refl

pub leds-run : (kind : ℕ) (s : List ℕ) (state : ℕ) → state ≤ 4 → some_leds (byte 2 s) state ≡ run_of (0xF5 + state) kind s
unfolding meaning_of
leds-run kind s = states (λ state. some_leds (byte 2 s) state ≡ run_of (0xF5 + state) kind s) refl refl refl refl refl

-- ---- a blind stopped or moved
pub moves_arm : {k n : ℕ} → Moves k n → Arm with_blinds k n high
moves_arm stops = record { some_bytes = refl; no_type = refl; rows = refl }
moves_arm goes_up = record { some_bytes = refl; no_type = refl; rows = refl }
moves_arm goes_down = record { some_bytes = refl; no_type = refl; rows = refl }

-- a time in three bytes
time_allowed_lem : (n : ℕ) → n ≤ permanent → time_allowed (time_of n) ≡ true
time_allowed_lem n h = go (eqb n 0) (eqb n permanent) (eqb-false n 0) (eqb-false n permanent)
  where
    go : (a b : Bool) → (a ≡ false → n ≡ 0 → ⊥) → (b ≡ false → n ≡ permanent → ⊥) → time_allowed (cond a DipSwitch (cond b Permanently (Seconds n))) ≡ true
    go true b p q = refl
    go false true p q = refl
    go false false p q = let x = p refl in let y = q refl in rw (le-leb 1 n (omega arith), le-leb n 16777214 (omega arith))

pub moves_field :
    {k n : ℕ} → Moves k n → (kind : ℕ) (s : List ℕ) → byte 3 s < 256 → byte 4 s < 256 → byte 5 s < 256 → field_refusal (stop_fault kind (byte 2 s)) ≡ field_of k kind s
moves_field stops kind s a b c = refl
moves_field goes_up kind s a b c = rw (time_allowed_lem (65536 * byte 3 s + 256 * byte 4 s + byte 5 s) (omega arith))
moves_field goes_down kind s a b c = rw (time_allowed_lem (65536 * byte 3 s + 256 * byte 4 s + byte 5 s) (omega arith))

pub moves_run : {k n : ℕ} → Moves k n → (kind : ℕ) (s : List ℕ) → asking (named_blind kind (byte 2 s)) 1 ≡ run_of k kind s
unfolding meaning_of
moves_run stops kind s = refl
moves_run goes_up kind s = refl
moves_run goes_down kind s = refl

-- ---- bytes that are all free
pub free_arm : {k n : ℕ} → Free k n → Arm every_module k n low
free_arm errors = record { some_bytes = refl; no_type = refl; rows = refl }
free_arm errors_asked = record { some_bytes = refl; no_type = refl; rows = refl }
free_arm memory_asked = record { some_bytes = refl; no_type = refl; rows = refl }

pub free_field : {k n : ℕ} → Free k n → (kind : ℕ) (s : List ℕ) → field_of k kind s ≡ 0
free_field errors kind s = refl
free_field errors_asked kind s = refl
free_field memory_asked kind s = refl

pub free-run : {k n : ℕ} → Free k n → (kind : ℕ) (s : List ℕ) → no_run ≡ run_of k kind s
unfolding meaning_of
free-run errors kind s = refl
free-run errors_asked kind s = refl
free-run memory_asked kind s = refl

-- ---- where a run ends: a number that is no channel's, or no blind's, is one more than the type has
pub name_ends : (kind channel i n : ℕ) → i + n ≤ 17 → character_place kind (name_of kind channel) i + n ≤ places
unfolding name_of
name_ends kind channel i n h =
    let most = position_most (channels_of kind) channel in
    let few = leb-true (length (channels_of kind)) 8 (of-line (λ (l : Line). leb (length l.channels) 8) refl refl kind) in
    omega (arith, first_small kind)

pub blind_ends : (kind channel : ℕ) → named_blind kind channel + 1 ≤ places
blind_ends kind channel = omega (arith, blind_few kind channel)
