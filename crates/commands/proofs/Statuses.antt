-- The blind that a byte stands for, on a module that has any, and the status of a blind.
--     first-blind, other_blind     H'03' is the first; H'0C' is the second of a VMB2BL; no other byte is one
--     Named, named                 what a number of a blind tells of the byte
--     unnamed                      a byte that is no blind's is refused
--     fitting, unfitting           a status whose fields are allowed, and one whose fields are not
--     status-told, status-refused  what each leaves
-- Assumes nothing.
use Rattle.std.proofs.Common.{◌≡◌, ℕ, zero, suc, ◌*◌, ◌≤◌, Bool, true, false, cond, ◌&&◌, ◌||◌, eqb, ltb, leb, List, [], ◌∷◌, length, sym, refl, ◌∙◌, arith, lit<, ltb-true, ne_eqb, eqb-true, leb-true}
use Rattle.laws.specs.Tests.{among, unless}
use Rattle.laws.proofs.Testing.{not_both, and_both, among-each, ◌&◌, held}
use Rattle.kinds.specs.Bits.{one_bit}
use Rattle.kinds.specs.Types.{Line, module_types, vmb8ir, vmb2bl, line_of, blinds_of, position_in, blind_of, up_bit}
use Rattle.kinds.proofs.Listed.{of-line}
use Rattle.kinds.proofs.Positions.{among_position, blind_few}
use Rattle.fields.specs.Fields.{is_blind, blind_states, blind_status_fault, stop_fault, field_refusal}
use Rattle.fields.proofs.Codes.{untold}
use Rattle.places.specs.Runs.{telling, named_blind, blind_state}
use Rattle.changes.specs.Telling.{told_in}
use Rattle.commands.specs.Arms.{blind_in, blind_fit, is_state, status_bytes}

module _ (kind : ℕ) (m : among kind module_types ≡ true) (b : kind ≡ vmb8ir → ⊥) where
  pub first-blind : blind_in kind 0x03 ≡ 1
  unfolding blind_in blind_of position_in line_of
  first-blind = among-each (λ k. (k ≡ vmb8ir → ⊥) → blind_in k 0x03 ≡ 1) kind module_types ((λ h. refl) & (λ h. absurd (h refl)) & (λ h. refl) & tt) m b

  pub other_blind : (channel : ℕ) → (channel ≡ 0x03 → ⊥) → blind_in kind channel ≡ cond (eqb channel 0x0C && eqb kind vmb2bl) 2 0
  unfolding blind_in blind_of position_in line_of
  other_blind channel n =
      among-each (λ k. (k ≡ vmb8ir → ⊥) → blind_in k channel ≡ cond (eqb channel 0x0C && eqb k vmb2bl) 2 0) kind module_types
      ((λ h. rw (ne_eqb channel 0x03 n) (none (eqb channel 0x0C))) & (λ h. absurd (h refl)) & (λ h. rw (ne_eqb channel 0x03 n) (second (eqb channel 0x0C))) & tt) m b
    where
      none : (t : Bool) → ◌≡◌ {A = ℕ} 0 (cond (t && false) 2 0)
      none true = refl
      none false = refl

      second : (t : Bool) → ◌≡◌ {A = ℕ} (cond (cond t true false) (suc (suc (cond t 0 1))) 0) (cond (t && true) 2 0)
      second true = refl
      second false = refl

-- a look through three numbers
state_among : (up state : ℕ) → among state (0 ∷ up ∷ 2 * up ∷ []) ≡ is_state up state
state_among up state = go (eqb state 0) (eqb state up) (eqb state (2 * up))
  where
    go : (a b c : Bool) → cond a true (cond b true (cond c true false)) ≡ a || (b || c)
    go true b c = refl
    go false true c = refl
    go false false true = refl
    go false false false = refl

-- a byte that stands for the blind n
pub record Named (kind channel n : ℕ) : Type 0 where
  pub is_blind_lem : is_blind kind channel ≡ true
  pub number : blind_of kind channel ≡ n

module _ (kind channel : ℕ) where
  pub named : {n : ℕ} → n ≡ blind_in kind channel → (n ≡ 0 → ⊥) → Named kind channel n
  unfolding blind_in
  named {n} e h = go (is_blind kind channel) refl e
    where
      go : (t : Bool) → is_blind kind channel ≡ t → n ≡ cond t (blind_of kind channel) 0 → Named kind channel n
      go true i e = record { is_blind_lem = i; number = sym e }
      go false i e = absurd (h e)

  is_named : is_blind kind channel ≡ true → blind_in kind channel ≡ blind_of kind channel
  unfolding blind_in
  is_named i = rw i

  pub unnamed : {n : ℕ} → n ≡ blind_in kind channel → n ≡ 0 → field_refusal (stop_fault kind channel) ≡ 0 → ⊥
  unnamed e z f =
      let i = (held (is_blind kind channel) 2 0 (lit< tt) (untold (stop_fault kind channel) f)).0 in
      let few = blind_few kind channel in
      omega (arith, sym (is_named i) ∙ sym e ∙ z, few.0)

  pub named_stop : {n : ℕ} → Named kind channel n → field_refusal (stop_fault kind channel) ≡ 0
  named_stop k = rw k.is_blind_lem

  -- of two blinds at most
  one_or_two : is_blind kind channel ≡ true → blind_of kind channel ≤ 2
  unfolding blind_of
  one_or_two i =
      let few = leb-true (length (blinds_of kind)) 2 (of-line (λ (l : Line). leb (length l.blinds) 2) refl refl kind) in
      let below = ltb-true (position_in (blinds_of kind) channel) (length (blinds_of kind)) (sym (among_position (blinds_of kind) channel) ∙ i) in
      omega arith

  module _ (timeout state led : ℕ) {n : ℕ} (e : n ≡ blind_fit kind channel timeout led) where
    abbrev fault_of : ℕ
    fault_of = blind_status_fault kind channel timeout state led

    abbrev others : Bool
    others = leb timeout 3 && (eqb led 0 || one_bit led)

    pub fitting : (n ≡ 0 → ⊥) → is_state (up_bit n) state ≡ true → (field_refusal fault_of ≡ 0) × (blind_of kind channel ≡ n)
    unfolding blind_fit
    fitting h is = go others refl (state_among (up_bit n) state ∙ is) e
      where
        go : (t : Bool) → others ≡ t → among state (blind_states n) ≡ true → n ≡ cond t (blind_in kind channel) 0 → (field_refusal fault_of ≡ 0) × (blind_of kind channel ≡ n)
        go true o states e =
            let g = and_both (leb timeout 3) (eqb led 0 || one_bit led) o in
            let k = named e h in
            (rw (k.is_blind_lem, g.0, k.number, states, g.1), k.number)
        go false o states e = absurd (h e)

    pub unfitting : (n ≡ 1 → is_state 1 state ≡ true → ⊥) → (n ≡ 2 → is_state 4 state ≡ true → ⊥) → field_refusal fault_of ≡ 0 → ⊥
    unfolding blind_fit
    unfitting first second f =
        let i = held (is_blind kind channel) 2 _ (lit< tt) (untold fault_of f) in
        let t = held (leb timeout 3) 3 _ (lit< tt) i.1 in
        let s = held (among state (blind_states (blind_of kind channel))) 4 _ (lit< tt) t.1 in
        let l = held (eqb led 0 || one_bit led) 5 0 (lit< tt) s.1 in
        let k : n ≡ blind_of kind channel = e ∙ rw (t.0, l.0) (is_named i.0) in
        let few = blind_few kind channel in
        go (blind_of kind channel) k few.0 (one_or_two i.0) s.0
      where
        go : (b : ℕ) → n ≡ b → 1 ≤ b → b ≤ 2 → among state (blind_states b) ≡ true → ⊥
        go zero k l m s = omega arith
        go (suc zero) k l m s = first k (sym (state_among 1 state) ∙ s)
        go (suc (suc zero)) k l m s = second k (sym (state_among 4 state) ∙ s)
        go (suc (suc (suc b))) k l m s = omega arith

-- the bytes after it
pub status-told :
    (b : List ℕ) (slot kind channel timeout state led : ℕ) {place value : ℕ} {x : List ℕ} →
    field_refusal (blind_status_fault kind channel timeout state led) ≡ 0 →
    place ≡ named_blind kind channel →
    value ≡ blind_state kind channel state →
    x ≡ told_in b slot (telling place (value ∷ [])) →
    x ≡ status_bytes b slot kind channel timeout state led
unfolding status_bytes
status-told b slot kind channel timeout state led f p v q = rw (f, ← p, ← v) q

pub status-refused :
    (b : List ℕ) (slot kind channel timeout state led : ℕ) →
    (field_refusal (blind_status_fault kind channel timeout state led) ≡ 0 → ⊥) →
    b ≡ status_bytes b slot kind channel timeout state led
unfolding status_bytes
status-refused b slot kind channel timeout state led h = rw (ne_eqb (field_refusal (blind_status_fault kind channel timeout state led)) 0 h)
