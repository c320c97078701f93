use Rattle.pfair_lag.proofs.Common.{Book, ◌<◌, ◌-◌, sym, subst, START}
use Rattle.pfair_lag.proofs.BookLemmas.{each_fits, recorded_shown, kept_recorded}
use Rattle.pfair_lag.proofs.book.LagBook.record.Goals as goal

pub count_quanta-requires : goal.count_quanta-requires
count_quanta-requires c = each_fits c.self.inside.time c.self.inside.accounts.entries c.self.invariant.each

pub invariant_of-self : goal.invariant_of-self
invariant_of-self c =
    let room : c.self.inside.time - START < 1000000 = subst (λ (b : Book). b.time < 1000000) (sym c.self.view_is) c.requires in
    kept_recorded c.self.inside.time c.self.inside.accounts.entries c.count_quanta.new.accounts.entries _ c.self.invariant room c.count_quanta.ensures

pub returns : goal.returns
returns c = recorded_shown c.self.inside.time c.self.inside.accounts.entries c.count_quanta.new.accounts.entries _ c.args.self.now c.self.view_is c.self.invariant c.count_quanta.ensures
