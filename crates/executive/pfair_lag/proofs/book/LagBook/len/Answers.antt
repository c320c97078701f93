use Rattle.pfair_lag.proofs.Common.{◌∙◌}
use Rattle.pfair_lag.proofs.BookLemmas.{length_shown}
use Rattle.pfair_lag.proofs.book.LagBook.len.Goals as goal

pub returns : goal.returns
returns c = c.len.ensures.len ∙ length_shown c.self.inside.time c.self.inside.accounts.entries c.args.self.now c.self.view_is
