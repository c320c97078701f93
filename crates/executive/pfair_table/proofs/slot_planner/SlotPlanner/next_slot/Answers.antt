use Rattle.pfair_table.proofs.Common.{Dispatch, ◌∙◌, sym, ap, arith, length, None}
use Rattle.pfair_table.proofs.Keeping.{tables_long}
use Rattle.pfair_table.proofs.Alike.{within}
use Rattle.pfair_table.proofs.slot_planner.SlotPlanner.next_slot.Goals as goal

pub returns-clause-value : goal.returns-clause-value
returns-clause-value g c = sym (tables_long None c.self.inside.planner.settings c.self.inside.of.value c.self.inside.planned) ∙ ap (λ (d : Dispatch). length d.tables) c.self.view_is

pub returns-clause-within : goal.returns-clause-within
returns-clause-within g c =
    omega (arith, within c.self.inside.of.value c.self.inside.planned c.self.invariant.0, ap (λ (d : Dispatch). d.settings.slots) c.self.view_is)

pub returns-clause-few : goal.returns-clause-few
returns-clause-few g c =
    omega (arith, within c.self.inside.of.value c.self.inside.planned c.self.invariant.0, c.slots.ensures.value, c.if-prove.false)
