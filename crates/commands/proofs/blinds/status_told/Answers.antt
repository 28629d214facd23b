-- `commands::blinds::status_told` meets its contract. Assumes nothing.
use Rattle.std.proofs.Common.{◌≡◌, eqb, sym, ◌∙◌, arith, rules, eq-eqb, eqb-true}
use Rattle.laws.proofs.Testing.{not_both, and_both}
use Rattle.fields.specs.Fields.{blind_status_fault, field_refusal}
use Rattle.commands.proofs.Statuses.{fitting, unfitting, status-told, status-refused}
use Rattle.commands.proofs.blinds.status_told.Goals as goal

pub returns-then-both : goal.returns-then-both
returns-then-both c =
    let f = c.blind_fit-n in
    let i = c.is_state in
    let g = and_both (eqb f.result 1) i.result (sym c.both.ensures ∙ c.if-both.true) in
    let fit = fitting c.args.kind c.args.channel c.args.timeout c.args.state c.args.led (sym (eqb-true f.result 1 g.0) ∙ f.ensures) (λ z. omega arith) (sym i.ensures ∙ g.1) in
    record { value = sym fit.0; picture_after = status-told c.args.picture.now c.args.slot c.args.kind c.args.channel c.args.timeout c.args.state c.args.led fit.0 (rw fit.1) (rw fit.1 (omega arith)) c.tell_one.ensures }

pub returns-then-both-2 : goal.returns-then-both-2
returns-then-both-2 c =
    let f = c.blind_fit-n in
    let i = c.is_state-2 in
    let g = and_both (eqb f.result 2) i.result (sym c.both-2.ensures ∙ c.if-both-2.true) in
    let fit = fitting c.args.kind c.args.channel c.args.timeout c.args.state c.args.led (sym (eqb-true f.result 2 g.0) ∙ f.ensures) (λ z. omega arith) (sym i.ensures ∙ g.1) in
    record { value = sym fit.0; picture_after = status-told c.args.picture.now c.args.slot c.args.kind c.args.channel c.args.timeout c.args.state c.args.led fit.0 (rw fit.1) (rw fit.1) c.tell_one-then-both-2.ensures }

pub returns : goal.returns
returns c =
    let f = c.blind_fit-n in
    let no : field_refusal (blind_status_fault c.args.kind c.args.channel c.args.timeout c.args.state c.args.led) ≡ 0 → ⊥ =
    unfitting c.args.kind c.args.channel c.args.timeout c.args.state c.args.led f.ensures
    (λ n is. not_both (sym c.if-both.false ∙ c.both.ensures ∙ rw (eq-eqb f.result 1 n, c.is_state.ensures, is)))
    (λ n is. not_both (sym c.if-both-2.false ∙ c.both-2.ensures ∙ rw (eq-eqb f.result 2 n, c.is_state-2.ensures, is))) in
    record { value = rw c.wide32.ensures at c.blind_status_fault.ensures; picture_after = status-refused c.args.picture.now c.args.slot c.args.kind c.args.channel c.args.timeout c.args.state c.args.led no }
