use Rattle.pfair_file.proofs.Common.{as_table, items_view, table_view, view, lists_of, with_items, arith, rules, Some, Err, ◌≡◌, ◌≢◌, sym, ◌∙◌, common_steps, Memory, entries_at}
use Rattle.pfair_file.proofs.TableFacts.{all_tables, left-refused, left_all}
use Rattle.pfair_file.proofs.tables.add_entries.Goals as goal

pub returns-then-not-are_tables-clause-fault : goal.returns-then-not-are_tables-clause-fault
returns-then-not-are_tables-clause-fault c = grind (arith, common_steps, all_tables)

pub loop-i-init : goal.loop-i-init
loop-i-init c = (search rules, c.requires.short, grind (arith, common_steps, left_all))

pub returns-in_err-add_entry-clause-fault : goal.returns-in_err-add_entry-clause-fault
returns-in_err-add_entry-clause-fault c =
    let f = c.in_err-add_entry.field-0.0 in
    let items = c.as_slice-items.result.now in
    let start = lists_of c.args.logs.now.items in
    let at : as_table (view c.index-items-i.result) ≡ Some (table_view c.in-Some-as_table.table.now) = search rules in
    let same : entries_at c.args.version start (table_view c.args.table.now) ≡ with_items c.args.version start (items_view items) = grind (arith, common_steps) in
    let whole : f ≢ Memory → entries_at c.args.version start (table_view c.args.table.now) ≡ Err f =
    λ other. same ∙ left-refused c.args.version start (lists_of c.loop-i.logs.items) items c.loop-i.i c.index-items-i.result (table_view c.in-Some-as_table.table.now) f (omega arith) (sym c.index-items-i.is) at (c.in_err-add_entry.ensures.fault other) c.loop-i.invariant.2 in
    search rules
