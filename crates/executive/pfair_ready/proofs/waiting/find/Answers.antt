use Rattle.pfair_ready.proofs.Common.{bytes_decides, IsEntryOf, ◌≡◌, Some, rules, sym, subst, ◌∙◌, slice_get}
use Rattle.pfair_ready.proofs.WaitingLemmas.{each_entry}
use Rattle.pfair_ready.proofs.waiting.find.Goals as goal

pub returns-in-Some-clause-some : goal.returns-in-Some-clause-some
returns-in-Some-clause-some c =
    let at : slice_get c.args.entries.now.entries c.args.hint ≡ Some (c.in-Some.there.now, c.in-Some.field-0-1.now) = search rules in
    let same : c.in-Some.there.now ≡ c.args.name.now = (bytes_decides c.in-Some.there.now c.args.name.now).0 (sym c.eq.ensures ∙ c.if-eq.true) in
    subst (λ n. IsEntryOf c.args.entries.now.entries n c.args.hint) same (c.in-Some.field-0-1.now, at)

pub returns-in_default-clause-some : goal.returns-in_default-clause-some
returns-in_default-clause-some c = each_entry c.args.entries.now.entries c.args.name.now c.get_index_of.result c.get_index_of.ensures.index
