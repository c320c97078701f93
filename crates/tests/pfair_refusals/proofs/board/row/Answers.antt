use Rattle.std.proofs.Common.{◌≡◌, refl, ap, arith, rules, length, vec_len}
use Rattle.std.proofs.lemmas.Option.{slice_get_read}
use Rattle.pfair_desk.specs.Desks.{DeskState}
use Rattle.pfair_refusals.proofs.board.row.Goals as goal

pub returns : goal.returns
returns c =
    let items = c.in_ok-desks.desks.items in
    let long : length items ≡ vec_len c.in_ok-desks.desks = search rules in
    let at = slice_get_read items (length items) c.args.processor c.swap_remove.result refl (omega (arith, long, c.in_ok-desks.ensures.count, c.requires)) c.swap_remove.ensures.value in
    (c.in_ok-desks.ensures.own c.args.processor c.swap_remove.result at, ap (λ (d : DeskState). d.next_number) (c.in_ok-desks.ensures.fresh c.args.processor c.swap_remove.result at))
