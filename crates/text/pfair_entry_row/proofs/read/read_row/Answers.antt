use Rattle.pfair_entry_row.proofs.Common.{Logged, IsEntryAt, entry_row, arith, common_steps, ℕ, Ok, ◌≡◌, ◌∙◌, sym, keyed, logged}
use Rattle.pfair_entry_row.proofs.RowFields.{entry_row_injective}
use Rattle.pfair_entry_row.proofs.Refused.{read_back, sayable}
use Rattle.pfair_entry_row.proofs.read.read_row.Goals.{In-Some}
use Rattle.pfair_entry_row.proofs.read.read_row.Goals as goal

-- what the line says is the entry of which it is the row
said : (c : In-Some) (p n : ℕ) (e : Logged) → IsEntryAt p n e → c.args.row.now ≡ entry_row p n e → keyed c.in-Some.line.processor c.in-Some.line.number (logged c.in-Some.line) ≡ Ok (p, n, e)
said c p n e h is =
    read_back p n e c.in-Some.line.processor c.in-Some.line.number (logged c.in-Some.line) h
    (entry_row_injective p n e c.in-Some.line.processor c.in-Some.line.number (logged c.in-Some.line) (sayable p n e h) c.in-Some.ensures.0 (sym is ∙ c.in-Some.ensures.1))

pub returns-in_default-clause-back : goal.returns-in_default-clause-back
returns-in_default-clause-back c p n e h is = absurd (c.in_default.ensures p n e (sayable p n e h) is)

pub returns-in_err-entry-clause-back : goal.returns-in_err-entry-clause-back
returns-in_err-entry-clause-back c p n e h is = let back = said ((goal.at.returns-in_err-entry-clause-back c).In-Some) p n e h is in grind (arith, common_steps, back)

pub returns-in_err-processor-clause-back : goal.returns-in_err-processor-clause-back
returns-in_err-processor-clause-back c p n e h is = let back = said ((goal.at.returns-in_err-processor-clause-back c).In-Some) p n e h is in grind (arith, common_steps, back)

pub returns-in_err-number-clause-back : goal.returns-in_err-number-clause-back
returns-in_err-number-clause-back c p n e h is = let back = said ((goal.at.returns-in_err-number-clause-back c).In-Some) p n e h is in grind (arith, common_steps, back)

pub returns-clause-back : goal.returns-clause-back
returns-clause-back c p n e h is = let back = said ((goal.at.returns-clause-back c).In-Some) p n e h is in grind (arith, common_steps, back)
