-- What each message says of each place, as specs/Speaks.antt states it. Assumes nothing.
use Prim.Native.Nat.{ℕ, zero, suc, ◌+◌, ◌<◌, ◌≤◌}
use native.Mathlib.Omega.{arith}
use mathlib.Core.Path.{◌≡◌, refl, ap, ◌∙◌}
use mathlib.Core.Bool.{Bool, true, false, cond}
use mathlib.Core.Logic.{◌⊎◌, inl, inr}
use mathlib.Core.List.{List, [], ◌∷◌, map}
use lib.ListN.{get_or, length, replicate, get_or-replicate, length-replicate, length-map}
use borrow.Author.Tests.{eq-eqb, ne_eqb}
use Rattle.laws.specs.Tab.{tab}
use Rattle.laws.proofs.Tab.{length-tab, get_d_tab}
use Rattle.frame.specs.declared.messages.Glow.{Glow}
use Rattle.frame.specs.declared.messages.Glow.TheVariants.{Off, On, Slow, Fast, VeryFast}
use Rattle.frame.specs.declared.messages.Command.{Command}
use Rattle.frame.specs.declared.messages.Command.TheVariants.{TypeLong, TypeShort, Buttons, CellTold, BlockTold, CellAsked, BlockAsked, DumpAsked, CellSet, BlockSet, Errors, ErrorsAsked, NameOne, NameTwo, NameThree, NameAsked, StatusAsked, InputStatus, LedsAll, Leds, BlindStatus, BlindStop, BlindUp, BlindDown}
use Rattle.frame.specs.declared.messages.Message.TheVariants.{TypeRequest, Tells}
use Rattle.kinds.specs.Types.{line_of, position_in, name_of, blind_of}
use Rattle.places.specs.Places.{led_place, character_place, cell_place}
use Rattle.places.specs.Runs.{Saying, silent, asks, tells, said_from, no_run, telling, asking, build_told, named_blind, blind_state, bit, glow_number, glow_by, led_by, led_if, all_leds, some_leds, meaning_of, meant}
use Rattle.history.specs.Speaks.{tells_of, asks_all, is_one, led_number, led_state, tells_led, tells_if, Just, Nothing, Build, NamesNumbered, BlindsNumbered, Spoken, SpeaksOf}

-- a run's saying at its place i, and silence elsewhere
said_at : (start : ℕ) (xs : List Saying) (i : ℕ) → said_from start xs (start + i) ≡ get_or xs i silent
unfolding said_from
said_at start [] i = refl
said_at start (x ∷ xs) zero = rw (eq-eqb start (start + 0) (omega arith))
said_at start (x ∷ xs) (suc i) =
    let q : start + suc i ≡ suc start + i = omega arith in
    rw (ne_eqb start (start + suc i) (omega arith), q) (said_at (suc start) xs i)

said_else : (start : ℕ) (xs : List Saying) (p : ℕ) → (p < start) ⊎ (start + length xs ≤ p) → said_from start xs p ≡ silent
unfolding said_from
said_else start [] p h = refl
said_else start (x ∷ xs) p (inl h) = rw (ne_eqb start p (λ e. omega arith)) (said_else (suc start) xs p (inl (omega arith)))
said_else start (x ∷ xs) p (inr h) = rw (ne_eqb start p (λ e. omega arith)) (said_else (suc start) xs p (inr (omega arith)))

-- so of a run by its sayings: all told, all asked for, or each by its number
just : (start n : ℕ) (of : ℕ → Saying) (xs : List Saying) → length xs ≡ n → ((i : ℕ) → i < n → get_or xs i silent ≡ of i) → Just start n of (record { start = start; says = xs })
just start n of xs e h = record { there = λ i l. said_at start xs i ∙ h i l; elsewhere = λ p o. said_else start xs p (rw e o) }

tells_at : (values : List ℕ) (i : ℕ) → i < length values → get_or (map tells values) i silent ≡ tells (get_or values i 0)
tells_at [] i h = absurd (omega arith)
tells_at (v ∷ vs) zero h = refl
tells_at (v ∷ vs) (suc i) h = tells_at vs i (omega arith)

all_told : (start : ℕ) (values : List ℕ) → Just start (length values) (tells_of values) (telling start values)
all_told start values = just start (length values) (tells_of values) (map tells values) (length-map values tells) (tells_at values)

all_asked : (start n : ℕ) → Just start n asks_all (asking start n)
all_asked start n = just start n asks_all (replicate n asks) (length-replicate n asks) (λ i l. get_or-replicate n i asks silent l)

-- the LED states, by their numbers
number_is : (g : Glow) → glow_number g ≡ led_number g
number_is Off = refl
number_is On = refl
number_is Slow = refl
number_is Fast = refl
number_is VeryFast = refl

state_is : (on slow fast : Bool) → cond on On (cond slow (cond fast VeryFast Slow) (cond fast Fast Off)) ≡ led_state on slow fast
state_is true slow fast = refl
state_is false true true = refl
state_is false true false = refl
state_is false false fast = refl

led_is : (on slow fast i : ℕ) → tells (led_by on slow fast i) ≡ tells_led on slow fast i
unfolding glow_by
led_is on slow fast i =
    ap tells (number_is (glow_by (bit on i) (bit slow i) (bit fast i)) ∙ ap led_number (state_is (is_one on i) (is_one slow i) (is_one fast i)))

some_leds_lem : (g : Glow) (mask : ℕ) → Just (led_place 1) 8 (tells_if g mask) (some_leds mask (glow_number g))
some_leds_lem g mask =
    let led = led_if mask (glow_number g) in
    just (led_place 1) 8 (tells_if g mask) (tab 8 led) (length-tab 8 led)
    (λ i l. get_d_tab 8 led i silent l ∙ ap (λ (n : ℕ). cond (is_one mask i) (tells n) silent) (number_is g))

all_leds_lem : (on slow fast : ℕ) → Just (led_place 1) 8 (tells_led on slow fast) (all_leds on slow fast)
all_leds_lem on slow fast =
    let led = led_by on slow fast in
    just (led_place 1) 8 (tells_led on slow fast) (map tells (tab 8 led)) (length-map (tab 8 led) tells ∙ length-tab 8 led)
    (λ i l. tells_at (tab 8 led) i (rw length-tab l) ∙ ap tells (get_d_tab 8 led i 0 l) ∙ led_is on slow fast i)

-- the build, and no place at all
build : (year week : ℕ) → Build year week (build_told year week)
unfolding said_from
build year week =
    record {
      year_told = refl;
      week_told = refl;
      elsewhere = λ p y w. rw (ne_eqb 0 p (λ e. y (omega arith)), ne_eqb 1 p (λ e. w (omega arith)));
    }

no_place : Nothing no_run
unfolding said_from
no_place p = refl

pub names_numbered : NamesNumbered
unfolding line_of position_in name_of
names_numbered = record { channels = refl; blind_up_down = refl; two_blinds = refl }

pub blinds_numbered : BlindsNumbered
unfolding line_of position_in blind_of
blinds_numbered = record { blind = refl; blinds = refl; states = refl; states_1 = refl; states_2 = refl }

spoken : (kind : ℕ) (m : Command) → Spoken kind m (meaning_of kind m)
unfolding Spoken meaning_of
spoken kind (CellTold l v) = all_told (cell_place kind l.0) (v ∷ [])
spoken kind (BlockTold l a b c d) = all_told (cell_place kind l.0) (a ∷ b ∷ c ∷ d ∷ [])
spoken kind (CellSet l v) = all_asked (cell_place kind l.0) 1
spoken kind (BlockSet l a b c d) = all_asked (cell_place kind l.0) 4
spoken kind (NameOne n a b c d e f) = all_told (character_place kind (name_of kind n) 1) (a ∷ b ∷ c ∷ d ∷ e ∷ f ∷ [])
spoken kind (NameTwo n a b c d e f) = all_told (character_place kind (name_of kind n) 7) (a ∷ b ∷ c ∷ d ∷ e ∷ f ∷ [])
spoken kind (NameThree n a b c d) = all_told (character_place kind (name_of kind n) 13) (a ∷ b ∷ c ∷ d ∷ [])
spoken kind (Leds g mask) = some_leds_lem g mask
spoken kind (LedsAll on slow fast) = all_leds_lem on slow fast
spoken kind (InputStatus x on slow fast) = all_leds_lem on slow fast
spoken kind (BlindStatus n a state c d e f) = all_told (named_blind kind n) (blind_state kind n state ∷ [])
spoken kind (BlindStop n) = all_asked (named_blind kind n) 1
spoken kind (BlindUp n t) = all_asked (named_blind kind n) 1
spoken kind (BlindDown n t) = all_asked (named_blind kind n) 1
spoken kind (TypeLong k a b c year week) = (refl, build year week)
spoken kind (TypeShort k a year week) = (refl, build year week)
spoken kind (Buttons a b c) = no_place
spoken kind (CellAsked l) = no_place
spoken kind (BlockAsked l) = no_place
spoken kind DumpAsked = no_place
spoken kind (Errors a b c) = no_place
spoken kind ErrorsAsked = no_place
spoken kind (NameAsked n) = no_place
spoken kind (StatusAsked n) = no_place

pub speaks_of : SpeaksOf
unfolding meant
speaks_of kind TypeRequest = no_place
speaks_of kind (Tells m) = spoken kind m
