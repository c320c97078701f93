use Rattle.pfair_table.proofs.Common.{◌∙◌, sym, refl, [], Vec, Global}
use Rattle.pfair_table.proofs.Alike.{last_is}
use Rattle.pfair_table.proofs.planned.last_of.Goals as goal

pub returns-in-Some : goal.returns-in-Some
returns-in-Some g c = c.deref.ensures.value ∙ sym (last_is (λ (list : Vec _ Global). list.items) [] c.args.lists.now _ c.in-Some.list.now refl c.in-Some.ensures.value)
