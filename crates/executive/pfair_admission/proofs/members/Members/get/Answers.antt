use Rattle.pfair_admission.proofs.Common.{option_copied, Member, member_named, listed, Roster, List, true, refl, sym, ap, ◌∙◌}
use Rattle.pfair_admission.proofs.Deciding.{filter_all, is_there_now, within}
use Rattle.pfair_admission.proofs.members.Members.get.Goals as goal

pub returns-in_err-place : goal.returns-in_err-place
returns-in_err-place c =
    ap option_copied c.from_residual.ensures
    ∙ sym (ap (λ (r : Roster). member_named r.members c.args.name.now) (sym c.self.view_is) ∙ ap (λ (ms : List Member). member_named ms c.args.name.now) (sym (filter_all (listed c.self.inside.ledger)))
    ∙ c.in_err-place.ensures (λ _. true) c.self.invariant.kept.register)

pub index-requires : goal.index-requires
index-requires c =
    let is = c.in_ok-place.ensures (λ _. true) c.self.invariant.kept.register in
    within c.self.inside.ledger.members.entries c.in_ok-place.place is.0 is.1.at

pub returns : goal.returns
returns c =
    let is = c.in_ok-place.ensures (λ _. true) c.self.invariant.kept.register in
    sym (ap (λ (r : Roster). member_named r.members c.args.name.now) (sym c.self.view_is) ∙ ap (λ (ms : List Member). member_named ms c.args.name.now) (sym (filter_all (listed c.self.inside.ledger)))
    ∙ (is_there_now (λ _. true) c.args.name.now (listed c.self.inside.ledger) c.in_ok-place.place c.index.result.now (is.0, is.1, refl) c.index.ensures).found)
