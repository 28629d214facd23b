-- Replies laid directly: the twelve bytes of each are those that the writer gives, since it refuses none of them.
--     stored_twelve      a frame's bytes, stored by four
--     cell-laid, block-laid, name-laid, status-laid     what each reply is laid as
-- Assumes nothing.
use Rattle.std.proofs.Common.{◌≡◌, ℕ, suc, ◌+◌, ◌/◌, ◌%◌, ◌≤◌, true, List, [], ◌∷◌, get_or, set, sym, refl, ap, ◌∙◌, arith, le-leb}
use lib.Seq.{sets}
use Rattle.kinds.specs.Bits.{one_bit}
use Rattle.kinds.specs.Types.{line_of, rows_of}
use Rattle.frame.specs.declared.messages.Command.{Command}
use Rattle.frame.specs.declared.messages.Command.TheVariants.{CellTold, BlockTold, InputStatus}
use Rattle.fields.specs.Fields.{location_fault}
use Rattle.codec.specs.Writing.{written_as, command_written, writing}
use Rattle.laws.proofs.Stores.{sets_append}
use Rattle.bench.specs.Sending.{reply_bytes, all_bytes}
use Rattle.bench.proofs.Storing.{one-reply, three_replies}
use Rattle.replies.specs.Bench.{cell}
use Rattle.replies.specs.Replies.{block, name_one, name_two, name_three}
use Rattle.sight.specs.Arms.{laid, six_of, four_of}

-- four bytes stored one by one; a frame's twelve, by four
pub four_stored : (l : List ℕ) (at a b c d : ℕ) → set (set (set (set l at a) (at + 1) b) (at + 2) c) (at + 3) d ≡ sets l at (a ∷ b ∷ c ∷ d ∷ [])
four_stored l at a b c d =
    let e₁ : at + 1 ≡ suc at = omega arith in
    let e₂ : at + 2 ≡ suc (suc at) = omega arith in
    let e₃ : at + 3 ≡ suc (suc (suc at)) = omega arith in
    rw (e₁, e₂, e₃)

pub stored_twelve : (l l₁ l₂ l₃ : List ℕ) (at a b c d e f g h i j k m : ℕ) → l₁ ≡ sets l at (a ∷ b ∷ c ∷ d ∷ []) → l₂ ≡ sets l₁ (at + 4) (e ∷ f ∷ g ∷ h ∷ []) → l₃ ≡ sets l₂ (at + 8) (i ∷ j ∷ k ∷ m ∷ [])
    → l₃ ≡ sets l at (a ∷ b ∷ c ∷ d ∷ e ∷ f ∷ g ∷ h ∷ i ∷ j ∷ k ∷ m ∷ [])
stored_twelve l l₁ l₂ l₃ at a b c d e f g h i j k m e₁ e₂ e₃ =
    let q : at + 4 + 4 ≡ at + 8 = omega arith in
    let rest = sets_append (e ∷ f ∷ g ∷ h ∷ []) (i ∷ j ∷ k ∷ m ∷ []) l₁ (at + 4) in
    let all = sets_append (a ∷ b ∷ c ∷ d ∷ []) (e ∷ f ∷ g ∷ h ∷ i ∷ j ∷ k ∷ m ∷ []) l at in
    e₃ ∙ ap (λ (x : List ℕ). sets x (at + 8) (i ∷ j ∷ k ∷ m ∷ [])) e₂
    ∙ ap (λ (n : ℕ). sets (sets l₁ (at + 4) (e ∷ f ∷ g ∷ h ∷ [])) n (i ∷ j ∷ k ∷ m ∷ [])) (sym q)
    ∙ sym rest ∙ ap (λ (x : List ℕ). sets x (at + 4) (e ∷ f ∷ g ∷ h ∷ i ∷ j ∷ k ∷ m ∷ [])) e₁ ∙ sym all

-- a location that a block or a cell may have
pub near : (last l : ℕ) → l ≤ last → location_fault last (record { 0 = l }) ≡ 0
near last l h = rw (le-leb (l / 256) (last / 256) (omega arith), le-leb l last h)

-- the bytes of a reply whose fields are allowed, for a command whose row is known
module _ (a : ℕ) where
  cell-laid : (l v : ℕ) → l ≤ 255 → reply_bytes a (CellTold (record { 0 = l }) v) ≡ laid a (record { 0 = 4; 1 = 0xFE; 2 = 0; 3 = l; 4 = v; 5 = 0; 6 = 0; 7 = 0; 8 = 0 })
  unfolding reply_bytes writing command_written written_as rows_of line_of
  cell-laid l v h =
      let high : l / 256 % 256 ≡ 0 = omega arith in
      let same : l % 256 ≡ l = omega arith in
      rw (near 255 l h, high, same)

  block-told-laid : (l v w x y : ℕ) → l ≤ 252 → reply_bytes a (BlockTold (record { 0 = l }) v w x y) ≡ laid a (record { 0 = 7; 1 = 0xCC; 2 = 0; 3 = l; 4 = v; 5 = w; 6 = x; 7 = y; 8 = 0 })
  unfolding reply_bytes writing command_written written_as rows_of line_of
  block-told-laid l v w x y h =
      let high : l / 256 % 256 ≡ 0 = omega arith in
      let same : l % 256 ≡ l = omega arith in
      rw (near 252 l h, high, same)

  status-laid : (v w x : ℕ) → reply_bytes a (InputStatus 0 v w x) ≡ laid a (record { 0 = 5; 1 = 0xEB; 2 = 0; 3 = v; 4 = w; 5 = x; 6 = 0; 7 = 0; 8 = 0 })
  unfolding reply_bytes writing command_written written_as rows_of line_of
  status-laid v w x = refl

  first-laid : (b : List ℕ) (n l : ℕ) → one_bit n ≡ true → reply_bytes a (name_one b n l) ≡ laid a (six_of 0xF0 n b (256 + l))
  unfolding reply_bytes writing command_written written_as rows_of line_of
  first-laid b n l h =
      let q₁ : 256 + (l + 1) ≡ 256 + l + 1 = omega arith in
      let q₂ : 256 + (l + 2) ≡ 256 + l + 2 = omega arith in
      let q₃ : 256 + (l + 3) ≡ 256 + l + 3 = omega arith in
      let q₄ : 256 + (l + 4) ≡ 256 + l + 4 = omega arith in
      let q₅ : 256 + (l + 5) ≡ 256 + l + 5 = omega arith in
      rw (h, q₁, q₂, q₃, q₄, q₅)

  second_laid : (b : List ℕ) (n l : ℕ) → one_bit n ≡ true → reply_bytes a (name_two b n l) ≡ laid a (six_of 0xF1 n b (256 + l + 6))
  unfolding reply_bytes writing command_written written_as rows_of line_of
  second_laid b n l h =
      let q₀ : 256 + (l + 6) ≡ 256 + l + 6 = omega arith in
      let q₁ : 256 + (l + 7) ≡ 256 + l + 6 + 1 = omega arith in
      let q₂ : 256 + (l + 8) ≡ 256 + l + 6 + 2 = omega arith in
      let q₃ : 256 + (l + 9) ≡ 256 + l + 6 + 3 = omega arith in
      let q₄ : 256 + (l + 10) ≡ 256 + l + 6 + 4 = omega arith in
      let q₅ : 256 + (l + 11) ≡ 256 + l + 6 + 5 = omega arith in
      rw (h, q₀, q₁, q₂, q₃, q₄, q₅)

  third_laid : (b : List ℕ) (n l : ℕ) → one_bit n ≡ true → reply_bytes a (name_three b n l) ≡ laid a (four_of n b (256 + l + 12))
  unfolding reply_bytes writing command_written written_as rows_of line_of
  third_laid b n l h =
      let q₀ : 256 + (l + 12) ≡ 256 + l + 12 = omega arith in
      let q₁ : 256 + (l + 13) ≡ 256 + l + 12 + 1 = omega arith in
      let q₂ : 256 + (l + 14) ≡ 256 + l + 12 + 2 = omega arith in
      let q₃ : 256 + (l + 15) ≡ 256 + l + 12 + 3 = omega arith in
      rw (h, q₀, q₁, q₂, q₃)

-- what the code lays is the reply
module _ (b l l' : List ℕ) (a : ℕ) where
  pub cell_told : (x v : ℕ) → x ≤ 255 → v ≡ cell b x → l' ≡ sets l 0 (laid a (record { 0 = 4; 1 = 0xFE; 2 = 0; 3 = x; 4 = v; 5 = 0; 6 = 0; 7 = 0; 8 = 0 }))
      → l' ≡ sets l 0 (all_bytes a (CellTold (record { 0 = x }) (cell b x) ∷ []))
  cell_told x v h e f = f ∙ ap (sets l 0) (sym (cell-laid a x v h)) ∙ rw e (one-reply l 0 a (CellTold (record { 0 = x }) (cell b x)))

  pub block-laid : (at x : ℕ) → x ≤ 252 → l' ≡ sets l at (laid a (record { 0 = 7; 1 = 0xCC; 2 = 0; 3 = x; 4 = get_or b (256 + x) 0; 5 = get_or b (256 + x + 1) 0; 6 = get_or b (256 + x + 2) 0; 7 = get_or b (256 + x + 3) 0; 8 = 0 }))
      → l' ≡ sets l at (reply_bytes a (block b x))
  block-laid at x h f =
      let q₁ : 256 + (x + 1) ≡ 256 + x + 1 = omega arith in
      let q₂ : 256 + (x + 2) ≡ 256 + x + 2 = omega arith in
      let q₃ : 256 + (x + 3) ≡ 256 + x + 3 = omega arith in
      let e : reply_bytes a (block b x) ≡ laid a (record { 0 = 7; 1 = 0xCC; 2 = 0; 3 = x; 4 = get_or b (256 + x) 0; 5 = get_or b (256 + x + 1) 0; 6 = get_or b (256 + x + 2) 0; 7 = get_or b (256 + x + 3) 0; 8 = 0 }) =
      rw (q₁, q₂, q₃) (block-told-laid a x (get_or b (256 + x) 0) (get_or b (256 + x + 1) 0) (get_or b (256 + x + 2) 0) (get_or b (256 + x + 3) 0) h) in
      f ∙ ap (sets l at) (sym e)

  pub status-told : (s : Command) (v w x : ℕ) → s ≡ InputStatus 0 v w x → l' ≡ sets l 0 (laid a (record { 0 = 5; 1 = 0xEB; 2 = 0; 3 = v; 4 = w; 5 = x; 6 = 0; 7 = 0; 8 = 0 }))
      → l' ≡ sets l 0 (all_bytes a (s ∷ []))
  status-told s v w x e f = f ∙ ap (sets l 0) (sym (status-laid a v w x)) ∙ rw e (one-reply l 0 a (InputStatus 0 v w x))

  pub name-told : (l₁ l₂ : List ℕ) (n x : ℕ) → one_bit n ≡ true → l₁ ≡ sets l 0 (laid a (six_of 0xF0 n b (256 + x))) → l₂ ≡ sets l₁ 12 (laid a (six_of 0xF1 n b (256 + x + 6)))
      → l' ≡ sets l₂ 24 (laid a (four_of n b (256 + x + 12))) → l' ≡ sets l 0 (all_bytes a (name_one b n x ∷ name_two b n x ∷ name_three b n x ∷ []))
  name-told l₁ l₂ n x h e₁ e₂ e₃ =
      three_replies l l₁ l₂ l' a (name_one b n x) (name_two b n x) (name_three b n x)
      (e₁ ∙ ap (sets l 0) (sym (first-laid a b n x h))) (e₂ ∙ ap (sets l₁ 12) (sym (second_laid a b n x h))) (e₃ ∙ ap (sets l₂ 24) (sym (third_laid a b n x h)))
