-- Worked cases: a row, its plan, a proposed plan, and the answer to it.
use Rattle.std.specs.Prelude.{ℕ, ◌≡◌, Bool, true, false, List, [], ◌∷◌, ◌++◌, map, replicate}
use Rattle.reads.specs.Plan.{plan_of}
use Rattle.reads.specs.Judging.{right_plan}

-- so many cells that are told, with a number that installers take for unread, and so many that are not heard
abbrev pub told : ℕ → List ℕ
told n = replicate n 255

abbrev pub unheard : ℕ → List ℕ
unheard n = replicate n 256

pub record Case : Type 0 where
  pub row : List ℕ
  pub plan : List ℕ
  pub proposed : List ℕ
  pub right : Bool

abbrev pub of : List ℕ → List ℕ → List ℕ → Bool → Case
of row plan proposed right = record { row = row; plan = plan; proposed = proposed; right = right }

abbrev pub cases : List Case
cases =
    -- nothing unknown: the empty plan, and no read is one too many
    of (told 128) [] (0 ∷ []) false
    -- 125 and 127 of 128: the last allowed start, 124; 125 is no start
    ∷ of (told 125 ++ (unheard 1 ++ (told 1 ++ unheard 1))) (124 ∷ []) (125 ∷ []) false
    -- 121, 125 and 127 of 128: a right plan in another order, with another start
    ∷ of (told 121 ++ (unheard 1 ++ (told 3 ++ (unheard 1 ++ (told 1 ++ unheard 1))))) (121 ∷ 124 ∷ []) (124 ∷ 118 ∷ []) true
    -- 3, 5, 6, 100 and 255 of 256; the same read twice leaves one unread
    ∷ of (told 3 ++ (unheard 1 ++ (told 1 ++ (unheard 2 ++ (told 93 ++ (unheard 1 ++ (told 154 ++ unheard 1))))))) (3 ∷ 100 ∷ 252 ∷ []) (3 ∷ 3 ∷ 252 ∷ []) false
    -- the last cell of 1024
    ∷ of (told 1023 ++ unheard 1) (1020 ∷ []) (1020 ∷ []) true
    -- rows of fewer than four cells, which no module has
    ∷ of (unheard 3) (0 ∷ []) (1 ∷ []) false
    ∷ of [] [] [] true
    ∷ []

abbrev pub Worked : Type 0
Worked =
    (map (λ c. plan_of c.row) cases ≡ map (λ c. c.plan) cases)
    × (map (λ c. right_plan c.row c.proposed) cases ≡ map (λ c. c.right) cases)
