use Rattle.pfair_state.proofs.Common.{Row, List, ap, arith, length, rules, sym, subst}
use Rattle.pfair_state.proofs.RowsSpelled.{IsReadSoFar, all_read, begun, none_read, row_read}
use Rattle.pfair_state.proofs.rows.read_rows.Goals as goal

pub loop-line-init : goal.loop-line-init
loop-line-init c = subst (λ (done : List Row). IsReadSoFar c.args.text.now done c.args.text.now) (sym c.new-rows.ensures.items) (begun c.args.text.now)

pub returns-in_default-read_row : goal.returns-in_default-read_row
returns-in_default-read_row c rows spelled is =
    absurd (none_read c.args.text.now c.loop-line.rows.items c.loop-line.rest.now c.in-Some.line.now c.in-Some.behind.now c.loop-line.invariant c.in-Some.ensures.parts.1 c.read_row.result c.read_row.ensures c.in_default-read_row.not-Some rows spelled is)

pub loop-line-smaller : goal.loop-line-smaller
loop-line-smaller c = c.in-Some.ensures.less

pub loop-line-preserved : goal.loop-line-preserved
loop-line-preserved c =
    subst (λ (done : List Row). IsReadSoFar c.args.text.now done c.in-Some.behind.now) (sym c.in_default-push.ensures.items)
    (row_read c.args.text.now c.loop-line.rows.items c.loop-line.rest.now c.in-Some.line.now c.in-Some.behind.now c.loop-line.invariant c.in-Some.ensures.parts.1 c.read_row.result c.read_row.ensures c.in-Some-read_row.row c.in-Some-read_row.is)

pub returns-then-is_empty : goal.returns-then-is_empty
returns-then-is_empty c rows spelled is = (all_read c.args.text.now c.loop-line.rows.items c.loop-line.rest.now c.loop-line.invariant c.in_default.ensures.parts rows spelled is).0

pub returns-else-is_empty : goal.returns-else-is_empty
returns-else-is_empty c rows spelled is =
    let none = (all_read c.args.text.now c.loop-line.rows.items c.loop-line.rest.now c.loop-line.invariant c.in_default.ensures.parts rows spelled is).1 in
    absurd (let long = ap length none in let seen = c.is_empty.ensures in let some = c.if-is_empty.false in search (arith, rules, long, seen, some))
