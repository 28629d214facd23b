-- Steps of the code, as the definitions take them: values stored as a run of places that tells them, LEDs one by one, replies one after the other, a bench laid
-- out part by part. Assumes nothing.
use Rattle.std.specs.Prelude.{Ok, Err}
use Prim.Native.Nat.{ℕ, zero, suc, ◌+◌, ◌-◌, ◌*◌, ◌/◌, ◌%◌, ◌≤◌, ◌<◌}
use native.Mathlib.Omega.{arith}
use mathlib.Core.Path.{◌≡◌, refl, sym, ap, ◌∙◌}
use mathlib.Core.List.{List, [], ◌∷◌, ◌++◌, map}
use lib.ListN.{length, set, take, drop, replicate, length-set, length-replicate}
use lib.Seq.{sets, length-take-le}
use Rattle.laws.proofs.Stores.{sets_append, sets_front}
use Rattle.laws.specs.Tab.{tab}
use Rattle.codec.specs.Writing.{writing, Writing}
use Rattle.kinds.specs.Types.{vmb8ir}
use Rattle.frame.specs.declared.messages.Command.{Command}
use Rattle.places.specs.Runs.{silent, tells, led_if, some_leds}
use mathlib.Core.Bool.{cond}
use lib.Dec.{eqb}
use Rattle.replies.specs.Bench.{bench_size}
use Rattle.bench.specs.Making.{named_cells, new_bench}
use Rattle.bench.specs.Deeds.{keep, store, done_by}
use Rattle.replies.specs.Replies.{block, dump}
use Rattle.bench.specs.Sending.{written_bytes, reply_bytes, all_bytes}

-- values stored are a run that tells them
pub told-stored : (vs b : List ℕ) (p : ℕ) → sets b p vs ≡ store b p (map tells vs)
unfolding store
told-stored [] b p = refl
told-stored (v ∷ vs) b p = told-stored vs (set b p v) (suc p)

-- the LEDs of a mask, one by one
pub eight : (b b₁ b₂ b₃ b₄ b₅ b₆ b₇ b₈ : List ℕ) (mask state : ℕ) → b₁ ≡ keep b 2 (cond (eqb (mask % 2) 1) (tells state) silent) → b₂ ≡ keep b₁ 3 (led_if mask state 1)
    → b₃ ≡ keep b₂ 4 (led_if mask state 2) → b₄ ≡ keep b₃ 5 (led_if mask state 3) → b₅ ≡ keep b₄ 6 (led_if mask state 4) → b₆ ≡ keep b₅ 7 (led_if mask state 5)
    → b₇ ≡ keep b₆ 8 (led_if mask state 6) → b₈ ≡ keep b₇ 9 (led_if mask state 7) → b₈ ≡ done_by (some_leds mask state) b
unfolding store tab
eight b b₁ b₂ b₃ b₄ b₅ b₆ b₇ b₈ mask state e₁ e₂ e₃ e₄ e₅ e₆ e₇ e₈ =
    let one : mask / 1 ≡ mask = omega arith in rw (one, e₈, e₇, e₆, e₅, e₄, e₃, e₂, e₁)

-- every reply has twelve bytes
twelve : (w : Writing) → length (written_bytes w) ≡ 12
twelve (Ok f) = refl
twelve (Err n) = refl

pub twelve_long : (a : ℕ) (m : Command) → length (reply_bytes a m) ≡ 12
unfolding reply_bytes
twelve_long a m = twelve (writing vmb8ir (record { 0 = a }) _)

-- replies one after the other
pub reply-first : (l : List ℕ) (at a : ℕ) (m : Command) (ms : List Command) → sets l at (all_bytes a (m ∷ ms)) ≡ sets (sets l at (reply_bytes a m)) (at + 12) (all_bytes a ms)
unfolding all_bytes
reply-first l at a m ms = sets_append (reply_bytes a m) (all_bytes a ms) l at ∙ ap (λ (n : ℕ). sets (sets l at (reply_bytes a m)) (at + n) (all_bytes a ms)) (twelve_long a m)

pub no_more : (l : List ℕ) (at a : ℕ) → sets l at (all_bytes a []) ≡ l
unfolding all_bytes
no_more l at a = refl

pub one-reply : (l : List ℕ) (at a : ℕ) (m : Command) → sets l at (reply_bytes a m) ≡ sets l at (all_bytes a (m ∷ []))
one-reply l at a m = sym (reply-first l at a m [] ∙ no_more (sets l at (reply_bytes a m)) (at + 12) a)

pub three_replies : (l l₁ l₂ l₃ : List ℕ) (a : ℕ) (x y z : Command) → l₁ ≡ sets l 0 (reply_bytes a x) → l₂ ≡ sets l₁ 12 (reply_bytes a y) → l₃ ≡ sets l₂ 24 (reply_bytes a z)
    → l₃ ≡ sets l 0 (all_bytes a (x ∷ y ∷ z ∷ []))
three_replies l l₁ l₂ l₃ a x y z e₁ e₂ e₃ =
    e₃ ∙ one-reply l₂ 24 a z ∙ ap (λ (k : List ℕ). sets k 24 (all_bytes a (z ∷ []))) e₂ ∙ sym (reply-first l₁ 12 a y (z ∷ []))
    ∙ ap (λ (k : List ℕ). sets k 12 (all_bytes a (y ∷ z ∷ []))) e₁ ∙ sym (reply-first l 0 a x (y ∷ z ∷ []))

-- a turn of the dump
pub dump-turn : (b l l' : List ℕ) (a i : ℕ) → i < 64 → l' ≡ sets l (12 * i) (reply_bytes a (block b (4 * i)))
    → sets l' (12 * (i + 1)) (all_bytes a (dump b (4 * (i + 1)) (64 - (i + 1)))) ≡ sets l (12 * i) (all_bytes a (dump b (4 * i) (64 - i)))
unfolding dump
dump-turn b l l' a i h e =
    let n : 64 - i ≡ suc (64 - (i + 1)) = omega arith in
    let p : 12 * (i + 1) ≡ 12 * i + 12 = omega arith in
    let q : 4 * (i + 1) ≡ 4 * i + 4 = omega arith in
    rw (p, q, e, n) (sym (reply-first l (12 * i) a (block b (4 * i)) (dump b (4 * i + 4) (64 - (i + 1)))))

pub dump-done : (b l : List ℕ) (a i : ℕ) → 64 ≤ i → l ≡ sets l (12 * i) (all_bytes a (dump b (4 * i) (64 - i)))
unfolding dump
dump-done b l a i h = let z : 64 - i ≡ 0 = omega arith in rw z (sym (no_more l (12 * i) a))

pub dump-length : (b : List ℕ) (l n : ℕ) → length (dump b l n) ≡ n
unfolding dump
dump-length b l zero = refl
dump-length b l (suc n) = rw (dump-length b (l + 4) n)

-- a store into the first part of a list
set_in : (xs ys : List ℕ) (i v : ℕ) → i < length xs → set (xs ++ ys) i v ≡ set xs i v ++ ys
set_in [] ys i v h = absurd (omega arith)
set_in (x ∷ xs) ys zero v h = refl
set_in (x ∷ xs) ys (suc i) v h = ap (λ (l : List ℕ). x ∷ l) (set_in xs ys i v (omega arith))

sets_in : (vs xs ys : List ℕ) (i : ℕ) → i + length vs ≤ length xs → sets (xs ++ ys) i vs ≡ sets xs i vs ++ ys
sets_in [] xs ys i h = refl
sets_in (v ∷ vs) xs ys i h =
    ap (λ (l : List ℕ). sets l (suc i) vs) (set_in xs ys i v (omega arith)) ∙ sets_in vs (set xs i v) ys (suc i) (rw (length-set xs i v) (omega arith))

-- a bench laid out part by part: first all its bytes are 0
pub sets_long : (l xs : List ℕ) (i : ℕ) → length (sets l i xs) ≡ length l
sets_long l [] i = refl
sets_long l (x ∷ xs) i = sets_long (set l i x) xs (suc i) ∙ length-set l i x

module _ (cells : List ℕ) (address version year week : ℕ) (enough : named_cells ≤ length cells) where
  blank : List ℕ
  blank = replicate bench_size 0

  with_cells : List ℕ
  with_cells = sets blank 256 (take named_cells cells)

  with_cells_long : length with_cells ≡ bench_size
  unfolding with_cells blank
  with_cells_long = sets_long (replicate bench_size 0) (take named_cells cells) 256 ∙ length-replicate {A = ℕ} bench_size 0

  with_year : List ℕ
  with_year = set with_cells 0 year

  with_week : List ℕ
  with_week = set with_year 1 week

  with_address : List ℕ
  with_address = set with_week 512 address

  year_long : length with_year ≡ bench_size
  unfolding with_year
  year_long = length-set with_cells 0 year ∙ with_cells_long

  week_long : length with_week ≡ bench_size
  unfolding with_week
  week_long = length-set with_year 1 week ∙ year_long

  address_long : length with_address ≡ bench_size
  unfolding with_address
  address_long = length-set with_week 512 address ∙ week_long

  whole : set with_address 513 version ≡ new_bench address cells version year week
  unfolding new_bench with_address with_week with_year with_cells blank
  whole = refl

  pub new_long : length (new_bench address cells version year week) ≡ bench_size
  new_long = ap length (sym whole) ∙ length-set with_address 513 version ∙ address_long

  cells_in : (rest : List ℕ) → sets (blank ++ rest) 256 (take named_cells cells) ≡ with_cells ++ rest
  unfolding with_cells blank
  cells_in rest =
      sets_in (take named_cells cells) (replicate bench_size 0) rest 256
      (omega (arith, length-take-le named_cells cells enough, length-replicate {A = ℕ} bench_size 0))

  pub laid : (l l₁ l₂ l₃ l₄ l₅ l₆ bl part : List ℕ) → bench_size ≤ length l → bl ≡ replicate bench_size 0 → part ≡ take named_cells cells → l₁ ≡ sets l 0 bl
      → l₂ ≡ sets l₁ 256 part → l₃ ≡ set l₂ 0 year → l₄ ≡ set l₃ 1 week → l₅ ≡ set l₄ 512 address → l₆ ≡ set l₅ 513 version
      → l₆ ≡ sets l 0 (new_bench address cells version year week)
  unfolding blank with_year with_week with_address
  laid l l₁ l₂ l₃ l₄ l₅ l₆ bl part h qb qp e₁ e₂ e₃ e₄ e₅ e₆ =
      let rest : List ℕ = drop bench_size l in
      let n : length (replicate {A = ℕ} bench_size 0) ≡ bench_size = length-replicate {A = ℕ} bench_size 0 in
      let z : l₁ ≡ blank ++ rest = e₁ ∙ ap (sets l 0) qb ∙ sets_front l (replicate bench_size 0) (omega arith) ∙ ap (λ (k : ℕ). replicate bench_size 0 ++ drop k l) n in
      let c : l₂ ≡ with_cells ++ rest = e₂ ∙ ap (sets l₁ 256) qp ∙ ap (λ (k : List ℕ). sets k 256 (take named_cells cells)) z ∙ cells_in rest in
      let y : l₃ ≡ with_year ++ rest = e₃ ∙ ap (λ (k : List ℕ). set k 0 year) c ∙ set_in with_cells rest 0 year (omega (arith, with_cells_long)) in
      let w : l₄ ≡ with_week ++ rest = e₄ ∙ ap (λ (k : List ℕ). set k 1 week) y ∙ set_in with_year rest 1 week (omega (arith, year_long)) in
      let a : l₅ ≡ with_address ++ rest = e₅ ∙ ap (λ (k : List ℕ). set k 512 address) w ∙ set_in with_week rest 512 address (omega (arith, week_long)) in
      let v : l₆ ≡ new_bench address cells version year week ++ rest =
      e₆ ∙ ap (λ (k : List ℕ). set k 513 version) a ∙ set_in with_address rest 513 version (omega (arith, address_long)) ∙ ap (λ (k : List ℕ). k ++ rest) whole in
      v ∙ sym (sets_front l (new_bench address cells version year week) (omega (arith, new_long)) ∙ ap (λ (k : ℕ). new_bench address cells version year week ++ drop k l) new_long)
