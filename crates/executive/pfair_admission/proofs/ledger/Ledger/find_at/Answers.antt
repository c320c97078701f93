use Rattle.pfair_admission.proofs.Common.{◌≡◌, true, Some, refl, sym, ◌∙◌, rules, slice_get}
use Rattle.pfair_admission.proofs.Registers.{only_at, same_name}
use Rattle.pfair_admission.proofs.ledger.Ledger.find_at.Goals as goal

pub returns-in-Some : goal.returns-in-Some
returns-in-Some c r =
    let a = c.args.self.now in
    let m = c.in-Some.member.now in
    let at : slice_get a.members.entries c.args.seat ≡ Some (c.in-Some.field-0-0.now, m) = search rules in
    let named = sym c.name.ensures.value ∙ same_name c.name.result.now c.args.name.now (sym c.eq.ensures ∙ c.if-eq.true) in
    (m, only_at (λ _. true) a.admitted a.members.entries a.names.entries c.args.name.now c.args.seat c.in-Some.field-0-0.now m r at refl named)

pub returns-in_default : goal.returns-in_default
returns-in_default c r = c.find.ensures (λ _. true) r
