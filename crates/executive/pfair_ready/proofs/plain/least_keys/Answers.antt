use Rattle.std.proofs.lemmas.Iterator.{items_from_collect}
use Rattle.std.proofs.lemmas.Iterator.Adapters.{YieldsList-from_vec}
use Rattle.std.proofs.lemmas.Result.{IfOk-weaker}
use Rattle.pfair_ready.proofs.Common.{Key, pd2_cmp, ◌≡◌, Vec, Global, refl, rules, sym, subst, IsKLeast, by_cmp}
use Rattle.std.specs.Vec.Iter.{into_iter_items}
use Rattle.pfair_ready.proofs.plain.least_keys.Goals as goal

pub returns : goal.returns
returns c =
    let least : IsKLeast (by_cmp pd2_cmp) c.args.m c.args.keys.now (into_iter_items c.in_ok-least.least) = search rules in
    IfOk-weaker c.collect.result (λ (l : Vec Key Global). l.items ≡ into_iter_items c.in_ok-least.least) (λ (l : Vec Key Global). IsKLeast (by_cmp pd2_cmp) c.args.m c.args.keys.now l.items)
    (λ l all. subst (IsKLeast (by_cmp pd2_cmp) c.args.m c.args.keys.now) (sym all) least)
    (items_from_collect c.collect.result c.collect.ensures.ran (YieldsList-from_vec _ refl c.in_ok-least.least.rest.ok.0))
