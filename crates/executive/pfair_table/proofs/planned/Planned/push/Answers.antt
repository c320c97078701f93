use Rattle.pfair_table.proofs.Common.{ReplicaRows, PlannedSlots, AreKept, IsNext, tables_to, decided_to, with_next, ◌+◌, ◌≡◌, ◌<◌, ◌∙◌, sym, ap, subst, arith, length, List, PlannedSlot}
use Rattle.pfair_table.proofs.Keeping.{kept_more, seen_more, tables_long}
use Rattle.pfair_table.proofs.planned.Planned.push.Goals as goal

pub invariant_of-self-2 : goal.invariant_of-self-2
invariant_of-self-2 c =
    let a = c.self.inside in
    let long = tables_long a.origin a.settings.value a.of.value (a.first + length a.slots.items) in
    let count = ap (λ (p : PlannedSlots). length p.tables) c.self.view_is in
    let few : a.first + length a.slots.items < 1000000 = omega (arith, c.requires.few, long, count) in
    subst (λ (p : ReplicaRows × List PlannedSlot). AreKept a.origin a.settings.value p.0 a.first a.forgotten p.1) (λ i. (sym c.of.ensures i, sym c.in_ok-push_back.ensures.items i))
    (kept_more c.self.invariant (subst (λ (p : PlannedSlots). IsNext p c.args.replica.now c.args.next) (sym c.self.view_is) c.requires.next) few)

pub returns-clause-ok : goal.returns-clause-ok
returns-clause-ok c =
    let a = c.self.inside in
    let x = c.args.replica.now in
    subst (λ (p : ReplicaRows × List PlannedSlot). ◌≡◌ {A = PlannedSlots} (record {
      settings = a.settings.value;
      origin = a.origin;
      tables = tables_to a.origin a.settings.value p.0 (a.first + length p.1);
      decided = decided_to a.origin a.settings.value p.0 (a.first + length p.1);
      forgotten = a.forgotten;
    }) (with_next c.args.self.now x)) (λ i. (sym c.of.ensures i, sym c.in_ok-push_back.ensures.items i))
    (seen_more c.self.invariant (subst (λ (p : PlannedSlots). IsNext p x c.args.next) (sym c.self.view_is) c.requires.next) ∙ ap (λ (p : PlannedSlots). with_next p x) c.self.view_is)
