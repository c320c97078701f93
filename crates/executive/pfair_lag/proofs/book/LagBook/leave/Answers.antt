use Rattle.pfair_lag.proofs.Common.{ap, sym, ◌∙◌, is_some}
use Rattle.pfair_lag.proofs.BookLemmas.{contained, left_shown, kept_left}
use Rattle.pfair_lag.proofs.book.LagBook.leave.Goals as goal

pub invariant_of-self : goal.invariant_of-self
invariant_of-self c = kept_left c.self.inside.time c.self.inside.accounts.entries c.shift_remove.new.self.entries c.args.name.now c.self.invariant c.shift_remove.ensures.unique c.shift_remove.ensures.entries

pub returns-clause-answer : goal.returns-clause-answer
returns-clause-answer c = sym (contained c.self.inside.time c.self.inside.accounts.entries c.args.name.now c.args.self.now _ c.self.view_is (c.is_some.ensures ∙ ap is_some c.shift_remove.ensures.value))

pub returns-clause-book : goal.returns-clause-book
returns-clause-book c = left_shown c.self.inside.time c.self.inside.accounts.entries c.shift_remove.new.self.entries c.args.name.now c.args.self.now c.self.view_is c.self.invariant c.shift_remove.ensures.entries
