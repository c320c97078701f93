use Rattle.pfair_output.proofs.Common.{◌≤◌, ◌+◌, sym, subst, arith, Share}
use Rattle.std.proofs.lemmas.Nat.{mul-le}
use Rattle.pfair_admission.specs.declared.members.TheConstants.Members.{LAST_SLOT}
use Rattle.pfair_admission.specs.Carried.{CanBeCarried}
use Rattle.pfair_admission.proofs.Registers.{able_at}
use Rattle.pfair_output.proofs.lags.enter_at.Goals as goal

pub enter_after-requires-clause-fits : goal.enter_after-requires-clause-fits
enter_after-requires-clause-fits c =
    let able : CanBeCarried c.in-Some.member.now = able_at c.args.members.now.members c.args.place c.in-Some.member.now (sym c.in-Some.ensures.member) c.requires.able in
    let cost : c.weight.result.cost ≤ 1000000 = subst (λ (w : Share). w.cost ≤ 1000000) (sym c.weight.ensures.value) able.cost.1 in
    let few : c.saturating_sub-slots.result + 1000000 ≤ LAST_SLOT + 1000000 = omega (arith, c.saturating_sub-slots.ensures, c.requires.slot) in
    let product = mul-le c.weight.result.cost (c.saturating_sub-slots.result + 1000000) 1000000 (LAST_SLOT + 1000000) cost few in
    omega (arith, product)
