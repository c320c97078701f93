use Rattle.pfair_state.proofs.Common.{decimal, decimal_injective, arith, ap, Some, ◌≡◌, truth}
use Rattle.pfair_state.proofs.Spelled.{whole, same_member}
use Rattle.pfair_state.proofs.rows.read_member.Goals as goal

pub returns : goal.returns
returns c row spelled is =
    let name : c.in_ok-ok.field-0 ≡ row.name = grind arith in
    let weight : c.in_ok-ok-2.field-0 ≡ row.weight = grind (arith, decimal_injective) in
    let early : truth c.in_ok-read_truth.field-0 ≡ truth row.early = grind arith in
    let joined : decimal c.in_ok-read_number-3.field-0 ≡ decimal row.joined = grind arith in
    let next : decimal c.in_ok-read_number-4.field-0 ≡ decimal row.next = grind arith in
    let freed : c.in_ok-read_slot.field-0 ≡ row.freed_at = grind (arith, whole) in
    ap Some (same_member _ row name weight early joined next freed c.in_ok-read_number-3.ensures.0 spelled.2 c.in_ok-read_number-4.ensures.0 spelled.3)
