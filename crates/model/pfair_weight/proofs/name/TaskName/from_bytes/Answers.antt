use Rattle.pfair_weight.proofs.Common.{arith, ◌≤◌, length, ◌∙◌, sym}
use Rattle.pfair_weight.proofs.Length.{is_name, name_stored, is_padded}
use Rattle.pfair_weight.proofs.name.TaskName.from_bytes.Goals as goal

pub invariant_of-result : goal.invariant_of-result
invariant_of-result c =
    let short : length c.args.bytes.now ≤ 16 = omega arith in
    let named = is_name c.args.bytes.now c.loop-place.place (sym c.is_empty.ensures ∙ c.if-is_empty.false) short c.loop-place.invariant c.loop-place-test.false in
    is_padded c.args.bytes.now c.copy_from_slice.new.self named c.copy_from_slice.ensures.after

pub returns-clause-ok : goal.returns-clause-ok
returns-clause-ok c = grind (arith, is_name, name_stored)
