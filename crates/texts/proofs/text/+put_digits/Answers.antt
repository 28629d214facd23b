-- `texts::text::put_digits` meets its contract; the measure is the number of digits still allowed. Assumes nothing.
use Prim.Native.Nat.{ℕ, ◌+◌, ◌-◌, ◌/◌, ◌%◌, ◌≤◌, ◌<◌}
use Prim.Native.Char.{code}
use mathlib.Core.Path.{◌≡◌}
use mathlib.Core.List.{List, [], ◌∷◌, ◌++◌}
use native.Mathlib.Omega.{arith}
use borrow.Author.Rules.{rules}
use Rattle.texts.proofs.Texts.{followed, room-first, room_rest, nothing, digits-none, digits_last, digits_more}
use Rattle.texts.specs.Text.{Fits, decimal}
use Rattle.texts.proofs.text.+put_digits.Goals as goal

-- the digits but the last, and the last, of a number of more than one
more : (left n : ℕ) (out : List ℕ) (at : ℕ) → (left ≡ 0 → ⊥) → 10 ≤ n → Fits out at (decimal left n) → Fits out at (decimal (left - 1) (n / 10) ++ ((code "0" + n % 10) ∷ []))
more left n out at some h f = rw (digits_more left n some h) at f

pub returns-then-left-eq0 : goal.returns-then-left-eq0
returns-then-left-eq0 t c = let a = c.args in nothing a.out.now a.at (decimal a.left a.n) (digits-none a.left a.n (omega arith))

pub put_byte-requires : goal.put_byte-requires
put_byte-requires t c = rw (digits_last c.args.left c.args.n (λ e. omega arith) (omega arith)) at c.requires

pub returns-then-n-lt10 : goal.returns-then-n-lt10
returns-then-n-lt10 t c = let a = c.args in rw (digits_last a.left a.n (λ e. omega arith) (omega arith)) c.put_byte.ensures

pub put_digits-last-requires : goal.put_digits-last-requires
put_digits-last-requires t c =
    let a = c.args in
    (omega arith, room-first ((code "0" + a.n % 10) ∷ []) (more a.left a.n a.out.now a.at (λ e. omega arith) (omega arith) c.requires))

pub put_byte-requires-2 : goal.put_byte-requires-2
put_byte-requires-2 t c =
    let a = c.args in
    room_rest c.put_digits-last.ensures (more a.left a.n a.out.now a.at (λ e. omega arith) (omega arith) c.requires)

pub returns : goal.returns
returns t c =
    let a = c.args in
    rw (digits_more a.left a.n (λ e. omega arith) (omega arith)) (followed c.put_digits-last.ensures c.put_byte-2.ensures)
