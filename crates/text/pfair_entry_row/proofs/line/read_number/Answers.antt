use Rattle.pfair_entry_row.proofs.Common.{common_steps, arith, ◌∙◌, sym}
use Rattle.std.specs.Cmp.Lexicographic.{bytes_decides}
use Rattle.pfair_entry_row.proofs.RowFields.{no_text, not_read, read_is}
use Rattle.pfair_entry_row.proofs.line.read_number.Goals as goal

pub returns-in_err-ok : goal.returns-in_err-ok
returns-in_err-ok c = rw c.from_residual.ensures (no_text _ _ c.args.field.now c.from_utf8.result c.from_utf8.ensures.cases (sym c.ok.ensures.value ∙ c.in_err-ok.was))

pub returns-in_err-number : goal.returns-in_err-number
returns-in_err-number c = grind (arith, not_read)

pub returns : goal.returns
returns c = grind (arith, common_steps, read_is, bytes_decides)
