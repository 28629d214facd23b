-- A rule of what each reader of the frame's table reads holds of the command that a frame's bytes are.
-- Assumes nothing.
use Prim.Native.Nat.{ℕ}
use mathlib.Core.Path.{◌≡◌, refl, subst}
use mathlib.Core.Bool.{Bool, true, false, cond}
use mathlib.Core.List.{List, [], ◌∷◌}
use lib.Dec.{eqb}
use borrow.Author.Tests.{eqb-true}
use Rattle.laws.specs.Tests.{first_for}
use Rattle.frame.specs.Bytes.{byte}
use Rattle.frame.specs.Messages.{Reader, readers, unlisted, decode}
use Rattle.frame.specs.declared.messages.Command.{Command}

-- what the bytes d read as by each of them, where its command is such that Q
abbrev pub AllRead : (ℕ → Type 0) → (Command → Type 0) → List ℕ → List Reader → Type 0
AllRead Q P d [] = Unit {0}
AllRead Q P d (r ∷ rs) = (Q r.command → P (r.reads d)) × AllRead Q P d rs

module _ (Q : ℕ → Type 0) (P : Command → Type 0) (d : List ℕ) where
  found : (rs : List Reader) → AllRead Q P d rs → P unlisted → (c : ℕ) → Q c
      → P (first_for (λ (r : Reader). r.command) (λ (r : Reader). r.reads d) unlisted rs c)
  found [] ps none c q = none
  found (r ∷ rs) ps none c q = go (eqb c r.command) (eqb-true c r.command) _ (found rs ps.1 none c q)
    where
      go : (t : Bool) → (t ≡ true → c ≡ r.command) → (rest : Command) → P rest → P (cond t (r.reads d) rest)
      go true h rest later = ps.0 (subst Q (h refl) q)
      go false h rest later = later

  pub read_as_lem : AllRead Q P d readers → P unlisted → Q (byte 1 d) → P (decode d)
  read_as_lem ps none q = found readers ps none (byte 1 d) q
