use Rattle.pfair_lag.proofs.Common.{option_map, option_copied, lag_of, tally_shown, Some, sym, ap, ◌∙◌}
use Rattle.pfair_lag.proofs.BookLemmas.{tally_kept, sound_found}
use Rattle.pfair_lag.proofs.book.LagBook.lag.Goals as goal

pub returns-in_err-account : goal.returns-in_err-account
returns-in_err-account c =
    let none = sym c.get.ensures.value ∙ ap option_copied c.in_err-account.was in
    c.from_residual.ensures
    ∙ sym (ap (option_map lag_of) (tally_kept c.self.inside.time c.self.inside.accounts.entries c.args.name.now c.args.self.now c.self.view_is ∙ ap (option_map (tally_shown c.self.inside.time)) none))

pub lag-requires-clause-sound : goal.lag-requires-clause-sound
lag-requires-clause-sound c = sound_found c.self.inside.time c.args.name.now c.self.inside.accounts.entries c.in_ok-account.account.now c.self.invariant (sym c.get.ensures.value ∙ ap option_copied c.in_ok-account.was)

pub returns : goal.returns
returns c =
    let found = sym c.get.ensures.value ∙ ap option_copied c.in_ok-account.was in
    ap Some c.lag.ensures
    ∙ sym (ap (option_map lag_of) (tally_kept c.self.inside.time c.self.inside.accounts.entries c.args.name.now c.args.self.now c.self.view_is ∙ ap (option_map (tally_shown c.self.inside.time)) found))
