use Rattle.pfair_lag.proofs.Common.{option_map, ◌≡◌, Option, Some, sym, ap, ◌∙◌, slice_get, Account, NameValue}
use Rattle.std.specs.Map.Iter.{deref_pair}
use Rattle.pfair_lag.proofs.BookLemmas.{name_shown, names_apart}
use Rattle.pfair_lag.proofs.book.LagBook.name_at.Goals as goal

pub returns-in_err-name-clause-apart : goal.returns-in_err-name-clause-apart
returns-in_err-name-clause-apart c = names_apart c.self.inside.time c.self.inside.accounts.entries c.args.self.now c.self.view_is c.self.invariant

pub returns-clause-name : goal.returns-clause-name
returns-clause-name c =
    let here : Some c.in_ok-name.name.now ≡ option_map (λ (e : NameValue × Account). e.0) (slice_get c.self.inside.accounts.entries c.args.place) =
    ap (λ (o : Option (NameValue × Account)). option_map (λ (e : NameValue × Account). e.0) o) (sym (ap (option_map deref_pair) c.in_ok-name.was) ∙ c.get_index.ensures.entry) in
    here ∙ name_shown c.self.inside.time c.self.inside.accounts.entries c.args.place c.args.self.now c.self.view_is

pub returns-clause-apart : goal.returns-clause-apart
returns-clause-apart c = names_apart c.self.inside.time c.self.inside.accounts.entries c.args.self.now c.self.view_is c.self.invariant
