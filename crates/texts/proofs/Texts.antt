-- Laws of text in a buffer.
--     followed, texts_follow    one text after another is one text
--     room-first, room_rest     and the room of both is the room of each
--     copied, nothing           a byte string, and no text
--     room_is_enough            text that has room is put whole
--     digits-none, -last, -more, -length    the digits of a number, case by case, and how many there are at most
--     lines_are_short           how long the lines are at most
-- Assumes nothing.
use mathlib.Core.Path.{◌≡◌, refl, sym, ap, ◌∙◌}
use mathlib.Core.List.{List, [], ◌∷◌, ◌++◌}
use mathlib.Core.Bool.{cond}
use Prim.Native.Nat.{ℕ, zero, suc, ◌+◌, ◌-◌, ◌/◌, ◌%◌, ◌≤◌, ◌<◌, zero-le}
use Prim.Native.Char.{code}
use native.Mathlib.Omega.{arith}
use lib.ListN.{length, length-append}
use lib.Seq.{sets, sets-eq, length-sets}
use lib.Dec.{ltb}
use borrow.Author.Tests.{lt-ltb, le-ltb, le-leb}
use Rattle.laws.specs.Copies.{copied_in}
use Rattle.laws.proofs.Choices.{cond_elim}
use Rattle.laws.proofs.Stores.{sets_append}
use Rattle.texts.specs.Text.{Fits, Written, letters, decimal, in_decimal, in_hex}
use Rattle.texts.specs.Lines.{numbered, two_numbers, module_line}
use Rattle.texts.specs.TextStatements.{RoomIsEnough, TextsFollow, LinesAreShort}

pub followed : {l o o' : List ℕ} {i r r' : ℕ} {xs ys : List ℕ} → Written l i xs o r → Written o r ys o' r' → Written l i (xs ++ ys) o' r'
followed {l} {o} {o'} {i} {r} {r'} {xs} {ys} a b =
    record {
      stored = b.stored ∙ ap (λ (k : ℕ). sets o k ys) a.past ∙ ap (λ (x : List ℕ). sets x (i + length xs) ys) a.stored ∙ sym (sets_append xs ys l i);
      past = omega (arith, a.past, b.past, length-append xs ys);
    }

-- where one text after another has room, so has the first, ...
pub room-first : {out : List ℕ} {at : ℕ} {xs : List ℕ} (ys : List ℕ) → Fits out at (xs ++ ys) → Fits out at xs
room-first {out} {at} {xs} ys f = record { room = omega (arith, f.room, length-append xs ys) }

-- ... and the second after it
pub room_rest : {l o : List ℕ} {at r : ℕ} {xs ys : List ℕ} → Written l at xs o r → Fits l at (xs ++ ys) → Fits o r ys
room_rest {l} {o} {at} {r} {xs} {ys} w f = record { room = omega (arith, f.room, w.past, length-append xs ys, ap length w.stored ∙ length-sets l at xs) }

-- a byte string that is copied in
pub copied : (l : List ℕ) (at : ℕ) (text o : List ℕ) (r : ℕ) → Fits l at text → o ≡ copied_in l at text → r ≡ at + length text → Written l at text o r
unfolding copied_in
copied l at text o r f e p = record { stored = e ∙ (rw (le-leb (at + length text) (length l) f.room)); past = p }

-- nothing is put
pub nothing : (l : List ℕ) (at : ℕ) (text : List ℕ) → text ≡ [] → Written l at text l at
nothing l at text e = rw e (record { stored = refl; past = omega arith })

pub texts_follow : TextsFollow
texts_follow before first between second after at next end a b = followed a b

pub room_is_enough : RoomIsEnough
room_is_enough before at text after next h w = (w.past, w.stored ∙ sets-eq text before at h)

pub digits-none : (left n : ℕ) → left ≡ 0 → decimal left n ≡ []
unfolding decimal
digits-none left n e = ap (λ (k : ℕ). decimal k n) e

digits_step : (left n : ℕ) → (left ≡ 0 → ⊥) → decimal left n ≡ cond (ltb n 10) ((code "0" + n) ∷ []) (decimal (left - 1) (n / 10) ++ ((code "0" + n % 10) ∷ []))
unfolding decimal
digits_step left n some =
    let e : left ≡ suc (left - 1) = omega arith in
    ap (λ (k : ℕ). decimal k n) e

pub digits_last : (left n : ℕ) → (left ≡ 0 → ⊥) → n < 10 → decimal left n ≡ (code "0" + n) ∷ []
digits_last left n some h = digits_step left n some ∙ (rw (lt-ltb n 10 h))

pub digits_more : (left n : ℕ) → (left ≡ 0 → ⊥) → 10 ≤ n → decimal left n ≡ decimal (left - 1) (n / 10) ++ ((code "0" + n % 10) ∷ [])
digits_more left n some h = digits_step left n some ∙ (rw (le-ltb n 10 h))

pub digits-length : (left n : ℕ) → length (decimal left n) ≤ left
unfolding decimal
digits-length zero n = zero-le
digits-length (suc left) n =
    let h : length (decimal left (n / 10)) ≤ left = digits-length left (n / 10) in
    cond_elim (λ (l : List ℕ). length l ≤ suc left) (ltb n 10) ((code "0" + n) ∷ []) (decimal left (n / 10) ++ ((code "0" + n % 10) ∷ []))
    (λ _. omega arith) (λ _. omega (arith, length-append (decimal left (n / 10)) ((code "0" + n % 10) ∷ [])))

-- two words and two numbers, of at most 20 digits each, and the newline
short : (first second : List ℕ) (m n : ℕ) → length (two_numbers first m second n) ≤ length first + length second + 41
short first second m n =
    omega (
      arith,
      digits-length 20 m,
      digits-length 20 n,
      length-append (numbered first m ++ numbered second n) (letters "\n"),
      length-append (numbered first m) (numbered second n),
      length-append first (in_decimal m),
      length-append second (in_decimal n),
    )

pub lines_are_short : LinesAreShort
unfolding module_line
lines_are_short = (
  omega arith,
  λ address kind names cells.
      omega (arith, short (letters " ") (letters " ") names cells, length-append ((in_hex address ++ letters " ") ++ in_hex kind) (two_numbers (letters " ") names (letters " ") cells)),
  λ offset refusal. short (letters "broken at byte ") (letters " refusal ") offset refusal,
  λ heard refused. omega (arith, short (letters "heard ") (letters " refused ") heard refused),
)
