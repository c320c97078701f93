use Rattle.pfair_table.proofs.Common.{carried, Roster, IsOrigin, Settings, Origin, Carried, machine, members_before, ◌≡◌, ◌∙◌, ap, map, subst, sym, Some, None, Result, Ok, Err, IfOk, all_again}
use Rattle.pfair_table.proofs.state.first_members.Goals as goal

-- members that a run left stay as they are if they are carried
stay : {E : Type 0} (r : Result Roster E) (o : Origin) (s : Settings) (c : Carried) → IsOrigin o s → o ≡ Some c
    → IfOk r (λ next. next ≡ record { machine = c.machine; members = map carried c.members; heard = 0; last_slot = None })
    → IfOk r (λ members. members ≡ record { machine = machine s; members = members_before o; heard = 0; last_slot = None })
stay (Ok x) o s c began is next =
    let taken = subst (λ (q : Origin). IsOrigin q s) is began in
    let machine_is = taken.machine_is in
    let again = all_again c.slot c.members taken.members.left in
    next ∙ (λ i. record { machine = machine_is i; members = again i; heard = 0; last_slot = None })
    ∙ ap (λ (q : Origin). record { machine = machine s; members = members_before q; heard = 0; last_slot = None }) (sym is)
stay (Err e) o s c began is next = tt

pub returns : goal.returns
returns c =
    let inside = c.state.inside in
    let there : Carried = record { slot = inside.slot; machine = inside.members.machine; members = inside.members.members; table = inside.table.items; places = inside.places.items } in
    stay c.carried.result c.args.origin.now c.args.settings there c.requires (c.in-Some.is ∙ ap Some (sym c.state.view_is)) c.carried.ensures
