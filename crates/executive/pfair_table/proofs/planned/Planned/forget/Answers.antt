use Rattle.pfair_table.proofs.Common.{AreKept, ◌+◌, sym, subst, arith, List, PlannedSlot}
use Rattle.pfair_table.proofs.Keeping.{kept_without}
use Rattle.pfair_table.proofs.planned.Planned.forget.Goals as goal

pub invariant_of-self : goal.invariant_of-self
invariant_of-self c =
    let a = c.self.inside in
    subst (λ (slots : List PlannedSlot). AreKept a.origin a.settings.value a.of.value (a.first + c.min-count.result) c.max-self-inside.result slots) (sym c.give_back.ensures)
    (kept_without c.self.invariant c.min-count.result c.max-self-inside.result
    (omega (arith, c.min-count.ensures, c.saturating_sub.ensures, c.len-2.ensures, a.slots.ok))
    (omega (arith, c.min-count.ensures, c.max-self-inside.ensures, c.self.invariant.forgets))
    (omega (arith, c.max-self-inside.ensures, c.min.ensures, c.len.ensures, a.slots.ok, c.self.invariant.forgets)))
