use Rattle.pfair_lag.proofs.Common.{common_steps, true≢false, tally_of, ◌≡◌, not, sym, ap, ◌∙◌, arith, is_some, nothing}
use Rattle.indexmap.proofs.CallerLemmas.{insert_entry-new}
use Rattle.pfair_lag.proofs.BookLemmas.{contained, entered_there, entered_new, kept_new}
use Rattle.pfair_lag.proofs.book.LagBook.enter_after.Goals as goal
use Rattle.pfair_lag.proofs.book.LagBook.enter_after.Goals.{After-contains_key}

there : (c : After-contains_key) → is_some (tally_of c.args.name c.args.self.now) ≡ c.contains_key.result
there c = contained c.self.inside.time c.self.inside.accounts.entries c.args.name c.args.self.now _ c.self.view_is c.contains_key.ensures

pub returns-then-contains_key-clause-answer : goal.returns-then-contains_key-clause-answer
returns-then-contains_key-clause-answer c = ap not (sym (there ((goal.at.returns-then-contains_key-clause-answer c).After-contains_key) ∙ c.if-contains_key.true))

pub returns-then-contains_key-clause-book : goal.returns-then-contains_key-clause-book
returns-then-contains_key-clause-book c = entered_there c.args.slots c.args.ran c.args.name c.args.weight c.args.self.now (there ((goal.at.returns-then-contains_key-clause-book c).After-contains_key) ∙ c.if-contains_key.true)

pub returns-in_err-insert-clause-there : goal.returns-in_err-insert-clause-there
returns-in_err-insert-clause-there c known = absurd (true≢false (sym known ∙ there ((goal.at.returns-in_err-insert-clause-there c).After-contains_key) ∙ c.if-contains_key.false))

pub returns-clause-answer : goal.returns-clause-answer
returns-clause-answer c = ap not (sym (there ((goal.at.returns-clause-answer c).After-contains_key) ∙ c.if-contains_key.false))

pub returns-clause-there : goal.returns-clause-there
returns-clause-there c known = absurd (true≢false (sym known ∙ there ((goal.at.returns-clause-there c).After-contains_key) ∙ c.if-contains_key.false))

pub invariant_of-self-2 : goal.invariant_of-self-2
invariant_of-self-2 c = grind (arith, common_steps, nothing, kept_new, insert_entry-new)

pub returns-clause-book : goal.returns-clause-book
returns-clause-book c = grind (arith, common_steps, nothing, entered_new, there, insert_entry-new)
