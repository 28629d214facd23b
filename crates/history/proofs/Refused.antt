-- A refusal changes no byte, as specs/Demand3.antt states it. Assumes nothing.
use Rattle.std.specs.Prelude.{Err}
use Prim.Native.Nat.{ℕ}
use native.Mathlib.Omega.{arith}
use mathlib.Core.Path.{◌≡◌, refl}
use mathlib.Core.Bool.{Bool, true, false, cond}
use mathlib.Core.List.{List}
use lib.Dec.{eqb, ltb}
use Rattle.laws.specs.Refusals.{no_room, nothing_kept, too_short}
use Rattle.shape.specs.Limits.{room}
use Rattle.places.specs.Runs.{Meaning, refuses, names, enters}
use Rattle.shape.specs.Result.{Result, refusing, done}
use Rattle.shape.specs.Head.{short, modules_of, kept_of}
use Rattle.changes.specs.Telling.{naming}
use Rattle.modules.specs.Records.{entered_bytes}
use Rattle.picture.specs.Hearing.{entering, hearing_as, hearing_at, hearing}
use Rattle.stores.specs.Stepping.{back_over, stepping_back}
use Rattle.history.specs.Standing.{hear, back}
use Rattle.history.specs.Demand3.{doing, RefusedKeeps}

abbrev Keeps : List ℕ → Result → Type 0
Keeps b r = (n : ℕ) → r.outcome ≡ Err n → r.buffer ≡ b

module _ (b : List ℕ) where
  refusing_keeps : (n : ℕ) → Keeps b (refusing n b)
  refusing_keeps n m e = refl

  done_keeps : (c : List ℕ) → Keeps b (done c)
  done_keeps c n e = absurd (let z : ◌≡◌ {A = ℕ} 0 1 = cc in omega arith)

  either_keeps : (t : Bool) (x y : Result) → Keeps b x → Keeps b y → Keeps b (cond t x y)
  either_keeps true x y h k = h
  either_keeps false x y h k = k

  means_keeps : (s a kind : ℕ) (m : Meaning) → Keeps b (hearing_as b s a kind m)
  unfolding hearing_as entering
  means_keeps s a kind (refuses n) = refusing_keeps n
  means_keeps s a kind (names r) = done_keeps (naming b s r)
  means_keeps s a kind (enters t r) =
      either_keeps (ltb s room) (done _) (cond (ltb (modules_of b) room) (done (entered_bytes b a t r)) (refusing no_room b)) (done_keeps _)
      (either_keeps (ltb (modules_of b) room) (done (entered_bytes b a t r)) (refusing no_room b) (done_keeps (entered_bytes b a t r)) (refusing_keeps no_room))

  back_keeps : Keeps b (stepping_back b)
  unfolding stepping_back
  back_keeps =
      either_keeps (short b) (refusing too_short b) (cond (eqb (kept_of b) 0) (refusing nothing_kept b) (done (back_over b))) (refusing_keeps too_short)
      (either_keeps (eqb (kept_of b) 0) (refusing nothing_kept b) (done (back_over b)) (refusing_keeps nothing_kept) (done_keeps (back_over b)))

  hearing_keeps : (identifier remote : ℕ) (bytes : List ℕ) → Keeps b (hearing b identifier remote bytes)
  unfolding hearing hearing_at
  hearing_keeps identifier remote bytes = either_keeps (short b) (refusing too_short b) _ (refusing_keeps too_short) (means_keeps _ _ _ _)

pub refused_keeps : RefusedKeeps
unfolding doing
refused_keeps (hear f) b = hearing_keeps b f.identifier f.remote f.bytes
refused_keeps back b = back_keeps b
