use Rattle.pfair_entry_row.proofs.Common.{noticed, arith, option_map}
use Rattle.pfair_entry_row.proofs.RowFields.{says, parts-entry_row, eleven, is_said, no_floor}
use Rattle.pfair_entry_row.proofs.line.read_line.Goals as goal

pub returns-in_err-fields : goal.returns-in_err-fields
returns-in_err-fields c = grind (arith, parts-entry_row, eleven)

pub returns-in_err-read_number : goal.returns-in_err-read_number
returns-in_err-read_number c = grind (arith, says)

pub returns-in_err-read_number-2 : goal.returns-in_err-read_number-2
returns-in_err-read_number-2 c = grind (arith, says)

pub returns-in_err-read_number-3 : goal.returns-in_err-read_number-3
returns-in_err-read_number-3 c = rw c.from_residual-in_err-read_number-3.ensures (no_floor c.args.row.now c.in_ok-fields.fields c.in_ok-fields.ensures.1 c.in_err-read_number-3.ensures)

pub read_notice-requires : goal.read_notice-requires
read_notice-requires c = c.in_ok-fields.ensures.0

pub returns-in_err-read_notice : goal.returns-in_err-read_notice
returns-in_err-read_notice c = grind (arith, says)

pub returns : goal.returns
returns c =
    is_said c.args.row.now c.in_ok-fields.fields c.in_ok-read_number.field-0 c.in_ok-read_number-2.field-0 (record { floor = c.in_ok-read_number-3.field-0; said = option_map noticed c.in_ok-read_notice.field-0 })
    c.in_ok-fields.ensures.1 c.in_ok-read_number.ensures.0 c.in_ok-read_number-2.ensures.0 c.in_ok-read_number-3.ensures.0
    c.in_ok-read_number.ensures.1 c.in_ok-read_number-2.ensures.1 c.in_ok-read_number-3.ensures.1 c.in_ok-read_notice.ensures
