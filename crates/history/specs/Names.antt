-- What the count says that the question on a name gives. The proof is proofs/Names.antt.
use Rattle.std.specs.Prelude.{ℕ, ◌<◌, ◌≡◌, ◌≢◌, List, [], ◌∷◌, length}
use Rattle.laws.specs.Tab.{tab}
use Rattle.history.specs.Standing.{Known, unknown, told}
use Rattle.history.specs.Asked.{count_told}

-- those of a list that are told
unfoldable pub only_told : List Known → List ℕ
only_told [] = []
only_told (unknown ∷ ks) = only_told ks
only_told (told v ∷ ks) = v ∷ only_told ks

-- every one of the sixteen characters is told
abbrev pub AllTold : (ℕ → Known) → Type 0
AllTold name = (i : ℕ) → i < 16 → name i ≢ unknown

-- the count is the number of told characters among the sixteen, and it is 16 exactly where all are told
pub record WholeIsSixteen : Type 0 where
  pub counts : (name : ℕ → Known) → count_told 16 name ≡ length (only_told (tab 16 name))
  pub whole : (name : ℕ → Known) → count_told 16 name ≡ 16 → AllTold name
  pub all_told : (name : ℕ → Known) → AllTold name → count_told 16 name ≡ 16
