use Rattle.pfair_table.proofs.Common.{slice_get_read, places_in, table_before, places_before, PlannedSlots, last_or, ◌-◌, ◌≡◌, refl, sym, ap, ◌∙◌, arith, length, Some, slice_get}
use Rattle.pfair_table.proofs.Keeping.{last_table_is, last_places_are}
use Rattle.pfair_table.proofs.Alike.{last_is}
use Rattle.pfair_table.proofs.planned.Planned.last.Goals.{After-deref-in-Some}
use Rattle.pfair_table.proofs.planned.Planned.last.Goals as goal

there : (c : After-deref-in-Some) → Some c.in-Some.planned.now ≡ slice_get c.self.inside.slots.items (c.self.inside.slots.len - 1)
there c =
    sym (slice_get_read c.self.inside.slots.items (length c.self.inside.slots.items) (c.self.inside.slots.len - 1) c.in-Some.planned.now refl
    (let some = c.in-Some.ensures.variant.0 refl in omega (arith, some, c.self.inside.slots.ok)) c.in-Some.ensures.lookup)

pub returns-in-Some-clause-table : goal.returns-in-Some-clause-table
returns-in-Some-clause-table c =
    c.deref.ensures.value
    ∙ sym (last_is (λ p. p.plan.table.items) (table_before c.self.inside.origin) c.self.inside.slots.items (c.self.inside.slots.len - 1) c.in-Some.planned.now (omega (arith, c.self.inside.slots.ok)) (there c))
    ∙ last_table_is c.self.invariant
    ∙ ap (λ (p : PlannedSlots). last_or (table_before p.origin) p.tables) c.self.view_is

pub returns-in-Some-clause-places : goal.returns-in-Some-clause-places
returns-in-Some-clause-places c =
    c.deref-in-Some.ensures.value
    ∙ sym (last_is (λ p. p.places.items) (places_before c.self.inside.origin) c.self.inside.slots.items (c.self.inside.slots.len - 1) c.in-Some.planned.now (omega (arith, c.self.inside.slots.ok)) (there c))
    ∙ last_places_are c.self.invariant
    ∙ ap (λ (p : PlannedSlots). last_or (places_before p.origin) (places_in p.origin p.tables)) c.self.view_is
