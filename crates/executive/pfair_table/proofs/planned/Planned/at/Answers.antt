use Rattle.pfair_table.proofs.Common.{slice_get_past, slice_get_read, option_map, places_in, PlannedSlots, tables_to, decided_to, ℕ, ◌+◌, ◌-◌, ◌≡◌, ◌∙◌, sym, ap, arith, refl, length, drop, map, slice_get, List, Option, Some, None, Bor, PlannedSlot}
use Rattle.std.specs.Slice.{IsItemAt}
use Rattle.pfair_table.proofs.Keeping.{get_kept}
use Rattle.pfair_table.proofs.planned.Planned.at.Goals as goal

-- what is lent of a list, if there is one, is the element there
lent_at : {A : Type 0} (f : PlannedSlot → A) (slots : List PlannedSlot) (i : ℕ) (found : Option (Bor PlannedSlot)) → IsItemAt slots i found → option_map (λ p. f p.now) found ≡ option_map f (slice_get slots i)
lent_at f slots i None item = ap (option_map f) (sym (slice_get_past slots i item.3))
lent_at f slots i (Some p) item = ap (option_map f) (sym (slice_get_read slots (length slots) i p.now refl item.3.0 item.1))

-- a part of the slot that is found is the same part of all planned slots there
part : {A : Type 0} (c : goal.After-get) (f : PlannedSlot → A) (all : List A) → map f c.self.inside.slots.items ≡ drop c.self.inside.first all → option_map (λ p. f p.now) c.get.result ≡ slice_get all c.args.slot
part c f all is =
    lent_at f c.self.inside.slots.items (c.args.slot - c.self.inside.first) c.get.result c.get.ensures.item
    ∙ get_kept c.self.invariant f all is c.args.slot (omega (arith, c.if-slot-self.false, c.self.invariant.forgets))

pub returns-clause-table : goal.returns-clause-table
returns-clause-table c = λ unforgotten.
    (let a = c.self.inside in
    part c (λ p. p.plan.table.items) (tables_to a.origin a.settings.value a.of.value (a.first + length a.slots.items)) c.self.invariant.tables_are
    ∙ ap (λ (d : PlannedSlots). slice_get d.tables c.args.slot) c.self.view_is)

pub returns-clause-places : goal.returns-clause-places
returns-clause-places c = λ unforgotten.
    (let a = c.self.inside in
    part c (λ p. p.places.items) (places_in a.origin (tables_to a.origin a.settings.value a.of.value (a.first + length a.slots.items))) c.self.invariant.places_are
    ∙ ap (λ (d : PlannedSlots). slice_get (places_in d.origin d.tables) c.args.slot) c.self.view_is)

pub returns-clause-decided : goal.returns-clause-decided
returns-clause-decided c = λ unforgotten.
    (let a = c.self.inside in
    part c (λ p. p.plan.decided.items) (decided_to a.origin a.settings.value a.of.value (a.first + length a.slots.items)) c.self.invariant.decided_are
    ∙ ap (λ (d : PlannedSlots). slice_get d.decided c.args.slot) c.self.view_is)
