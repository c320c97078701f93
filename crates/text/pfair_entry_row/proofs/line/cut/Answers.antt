use Rattle.pfair_entry_row.proofs.Common.{slice_split_none, fails_before_first, arith, ◌≡◌, ◌==◌, length, cond, ltb, Some, None, rules, tests}
use Rattle.std.proofs.lemmas.Iterator.{YieldsList-from_slice}
use Rattle.std.proofs.lemmas.Iterator.Search.{position_from_yields_List}
use Rattle.pfair_entry_row.proofs.RowFields.{cut_there, first_of, no_place}
use Rattle.pfair_entry_row.proofs.line.cut.Goals as goal

pub returns-in_err-at-clause-parts : goal.returns-in_err-at-clause-parts
returns-in_err-at-clause-parts c = grind (arith, position_from_yields_List, no_place, slice_split_none, fails_before_first)

pub returns-clause-parts : goal.returns-clause-parts
returns-clause-parts c =
    let found : c.position.result ≡ cond (ltb (first_of c.args.separator c.args.text.now) (length c.args.text.now)) (Some (first_of c.args.separator c.args.text.now)) None =
    position_from_yields_List (λ b. b == c.args.separator) _ _ c.position.result c.position.ensures.ran (YieldsList-from_slice c.args.text.now cc) (λ x b q k. search (rules, tests)) in
    cut_there c.args.separator c.args.text.now c.in_ok-at.at c.position.result found c.in_ok-at.was
