-- What a command that the bench receives does: the bench stays sound, keeps its address, and agrees with a picture that heard the command.
-- Assumes nothing.
use Prim.Native.Nat.{ℕ, zero, suc, ◌+◌, ◌/◌, ◌≤◌}
use native.Mathlib.Omega.{arith}
use mathlib.Core.Path.{◌≡◌, refl}
use mathlib.Core.Logic.{inl}
use mathlib.Core.Bool.{Bool, true, false, cond}
use mathlib.Core.List.{List, [], ◌∷◌, map}
use lib.Dec.{eqb, leb}
use lib.ListN.{length, length-map}
use borrow.Author.Tests.{leb-true}
use Rattle.laws.specs.Tab.{tab}
use Rattle.laws.proofs.Tab.{length-tab}
use Rattle.laws.specs.Tests.{unless}
use Rattle.laws.proofs.Testing.{held}
use Rattle.kinds.specs.Types.{vmb8ir, line_of}
use Rattle.fields.specs.Fields.{fault, cell_fault, block_fault}
use Rattle.frame.specs.declared.messages.Glow.{Glow}
use Rattle.frame.specs.declared.messages.Glow.TheVariants.{Off, On, Slow, Fast, VeryFast}
use Rattle.frame.specs.declared.messages.Location.{Location}
use Rattle.frame.specs.declared.messages.Command.{Command}
use Rattle.frame.specs.declared.messages.Command.TheVariants.{TypeLong, TypeShort, Buttons, CellTold, BlockTold, CellAsked, BlockAsked, DumpAsked, CellSet, BlockSet, Errors, ErrorsAsked, NameOne, NameTwo, NameThree, NameAsked, StatusAsked, InputStatus, LedsAll, Leds, BlindStatus, BlindStop, BlindUp, BlindDown}
use Rattle.places.specs.Runs.{Saying, silent, asks, tells, Run, said_from, run, no_run, bit, glow_number, glow_by, led_by, led_if, run_in, meaning_of}
use Rattle.history.specs.Standing.{Known}
use Rattle.replies.specs.Bench.{bench_size, own, own_address}
use Rattle.bench.specs.Deeds.{store, deed, done_by}
use Rattle.lessons.proofs.Agree.{Agree, hears, becomes, said_past, said-before, store_length, store_at, store_silent, Over, over-same, hears-done}

-- every LED has one of the five states
pub record Sound (b : List ℕ) : Type 0 where
  pub whole : bench_size ≤ length b
  pub states : (p : ℕ) → 2 ≤ p → p ≤ 9 → own b p ≤ 4

-- the run that a command is heard as
abbrev pub run_of : Command → Run
run_of m = run_in (meaning_of vmb8ir m)

-- the commands that a module receives
abbrev pub received : Command → Bool
received (TypeLong k a b c d e) = false
received (TypeShort k a b c) = false
received (Buttons a b c) = false
received (CellTold l v) = false
received (BlockTold l a b c d) = false
received (CellAsked l) = true
received (BlockAsked l) = true
received DumpAsked = true
received (CellSet l v) = true
received (BlockSet l a b c d) = true
received (Errors a b c) = false
received ErrorsAsked = true
received (NameOne n a b c d e f) = false
received (NameTwo n a b c d e f) = false
received (NameThree n a b c d) = false
received (NameAsked n) = true
received (StatusAsked n) = true
received (InputStatus a b c d) = false
received (LedsAll a b c) = true
received (Leds g x) = true
received (BlindStatus n a b c d e f) = false
received (BlindStop n) = false
received (BlindUp n t) = false
received (BlindDown n t) = false

-- The states that LED commands name.

glow_small : (g : Glow) → glow_number g ≤ 4
glow_small Off = omega arith
glow_small On = omega arith
glow_small Slow = omega arith
glow_small Fast = omega arith
glow_small VeryFast = omega arith

abbrev SmallSaying : Saying → Type 0
SmallSaying silent = Unit {0}
SmallSaying asks = Unit {0}
SmallSaying (tells v) = v ≤ 4

abbrev Small : List Saying → Type 0
Small [] = Unit {0}
Small (x ∷ xs) = SmallSaying x × Small xs

small_said : (i : ℕ) (xs : List Saying) (p : ℕ) → Small xs → SmallSaying (said_from i xs p)
unfolding said_from
small_said i [] p h = tt
small_said i (x ∷ xs) p h = go (eqb i p) (small_said (suc i) xs p h.1)
  where
    go : (c : Bool) → SmallSaying (said_from (suc i) xs p) → SmallSaying (cond c x (said_from (suc i) xs p))
    go true ih = h.0
    go false ih = ih

-- a row of states that a function gives
all_small : (n : ℕ) (f : ℕ → ℕ) → ((i : ℕ) → f i ≤ 4) → Small (map tells (tab n f))
unfolding tab
all_small zero f h = tt
all_small (suc n) f h = (h 0, all_small n (λ k. f (suc k)) (λ k. h (suc k)))

some_small : (n : ℕ) (f : ℕ → Saying) → ((i : ℕ) → SmallSaying (f i)) → Small (tab n f)
unfolding tab
some_small zero f h = tt
some_small (suc n) f h = (h 0, some_small n (λ k. f (suc k)) (λ k. h (suc k)))

if_small : (mask value i : ℕ) → value ≤ 4 → SmallSaying (led_if mask value i)
if_small mask value i h = go (eqb (bit mask i) 1)
  where
    go : (c : Bool) → SmallSaying (cond c (tells value) silent)
    go true = h
    go false = tt

-- A deed d of a command that is heard as r.

pub record Kept (b : List ℕ) (r d : Run) : Type 0 where
  pub sound : Sound (done_by d b)
  pub address : own_address (done_by d b) ≡ own_address b
  pub agree : (pic : ℕ → Known) → Agree pic b → Agree (hears r pic) (done_by d b)

-- on cells
cells-kept : (b : List ℕ) (i : ℕ) (xs ys : List Saying) → Sound b → Over xs ys → 10 ≤ i → i + length ys ≤ 512 → Kept b (run i xs) (run i ys)
cells-kept b i xs ys s o g h =
    record {
      sound = record {
        whole = rw (store_length b i ys) s.whole;
        states = λ p l u. rw (store_silent b i ys p (said-before i ys p (omega arith))) (s.states p l u);
      };
      address = store_silent b i ys 512 (said_past i ys 512 (omega arith));
      agree = λ pic ag. hears-done b (run i xs) (run i ys) pic refl o (omega (arith, s.whole)) ag;
    }

-- on LEDs
leds-kept : (b : List ℕ) (xs : List Saying) → Sound b → Small xs → length xs ≡ 8 → Kept b (run 2 xs) (run 2 xs)
leds-kept b xs s m h =
    record {
      sound = record {
        whole = rw (store_length b 2 xs) s.whole;
        states = λ p l u. rw (store_at b 2 xs p (omega (arith, s.whole))) (go p (s.states p l u) (said_from 2 xs p) (small_said 2 xs p m));
      };
      address = store_silent b 2 xs 512 (said_past 2 xs 512 (omega arith));
      agree = λ pic ag. hears-done b (run 2 xs) (run 2 xs) pic refl (over-same xs) (omega (arith, s.whole)) ag;
    }
  where
    go : (p : ℕ) → own b p ≤ 4 → (x : Saying) → SmallSaying x → becomes x (own b p) ≤ 4
    go p k silent y = k
    go p k asks y = k
    go p k (tells v) y = y

pub nothing_kept_lem : (b : List ℕ) → Sound b → Kept b no_run no_run
unfolding store said_from
nothing_kept_lem b s = record { sound = s; address = refl; agree = λ pic ag. hears-done b no_run no_run pic refl tt (omega (arith, s.whole)) ag }

pub no : {A : Type 0} → false ≡ true → A
no e = absurd (let z : ◌≡◌ {A = ℕ} 0 1 = cc in omega arith)

-- the location of a cell, and of a block
within : (l last : ℕ) → unless (leb (l / 256) (last / 256)) 2 (unless (leb l last) 3 0) ≡ 0 → l ≤ last
within l last e =
    let later = (held (leb (l / 256) (last / 256)) 2 (unless (leb l last) 3 0) (omega arith) e).1 in
    leb-true l last (held (leb l last) 3 0 (omega arith) later).0

pub cell-within : (l : Location) → cell_fault vmb8ir l ≡ 0 → l.0 ≤ 255
unfolding line_of
cell-within l e = within l.0 255 e

pub block_within : (l : Location) → block_fault vmb8ir l ≡ 0 → l.0 ≤ 252
unfolding line_of
block_within l e = within l.0 252 e

pub kept : (b : List ℕ) (m : Command) → Sound b → received m ≡ true → fault vmb8ir m ≡ 0 → Kept b (run_of m) (deed m)
unfolding meaning_of
kept b (CellSet l v) s t h = let k = cell-within l h in cells-kept b (256 + l.0) (asks ∷ []) (tells v ∷ []) s (inl refl, tt) (omega arith) (omega arith)
kept b (BlockSet l x y z w) s t h =
    let k = block_within l h in
    cells-kept b (256 + l.0) (asks ∷ asks ∷ asks ∷ asks ∷ []) (tells x ∷ tells y ∷ tells z ∷ tells w ∷ []) s (inl refl, (inl refl, (inl refl, (inl refl, tt)))) (omega arith) (omega arith)
kept b (LedsAll x y z) s t h =
    leds-kept b (map tells (tab 8 (led_by x y z))) s (all_small 8 (led_by x y z) (λ i. glow_small (glow_by (bit x i) (bit y i) (bit z i)))) (simp length-map (length-tab 8 (led_by x y z)))
kept b (Leds g x) s t h = leds-kept b (tab 8 (led_if x (glow_number g))) s (some_small 8 (led_if x (glow_number g)) (λ i. if_small x (glow_number g) i (glow_small g))) (length-tab 8 (led_if x (glow_number g)))
kept b (CellAsked l) s t h = nothing_kept_lem b s
kept b (BlockAsked l) s t h = nothing_kept_lem b s
kept b DumpAsked s t h = nothing_kept_lem b s
kept b ErrorsAsked s t h = nothing_kept_lem b s
kept b (NameAsked n) s t h = nothing_kept_lem b s
kept b (StatusAsked n) s t h = nothing_kept_lem b s
kept b (TypeLong k x y z d e) s t h = no t
kept b (TypeShort k x y z) s t h = no t
kept b (Buttons x y z) s t h = no t
kept b (CellTold l v) s t h = no t
kept b (BlockTold l x y z w) s t h = no t
kept b (Errors x y z) s t h = no t
kept b (NameOne n x y z d e f) s t h = no t
kept b (NameTwo n x y z d e f) s t h = no t
kept b (NameThree n x y z d) s t h = no t
kept b (InputStatus x y z d) s t h = no t
kept b (BlindStatus n x y z d e f) s t h = no t
kept b (BlindStop n) s t h = no t
kept b (BlindUp n x) s t h = no t
kept b (BlindDown n x) s t h = no t
