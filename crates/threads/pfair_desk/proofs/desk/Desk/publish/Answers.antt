use Rattle.pfair_desk.proofs.Common.{Replica, replica_of, place_of, IsKey, Knowledge, One, held, state_of, ◌≡◌, ◌≤◌, ◌+◌, ◌∙◌, Some, ap, sym, arith, refl, rules, true, false}
use Rattle.std.proofs.Common.{◌≢◌}
use Rattle.pfair_desk.specs.Desks.{numbered}
use Rattle.pfair_desk.proofs.NotedLemmas.{in_order_after, in_order_next, keeps_after, now_one, place_there}
use Rattle.pfair_desk.proofs.desk.Desk.publish.Goals.{Joined-eq, then-eq, else-eq}
use Rattle.pfair_desk.proofs.desk.Desk.publish.Goals as goal

module _ (c : Joined-eq) where
  room : c.self.inside.next_number ≤ c.self.inside.replica.capacity
  room = omega arith

  there : c.place-place.result ≡ place_of c.self.inside.replica.capacity c.self.inside.processor c.self.inside.next_number
  there = place_there _ _ c.self.inside.processor c.self.inside.next_number _ c.self.view_is c.place-place.ensures.value

  -- what stands at the desk's number is held there, and the desk is one number further
  stands : held c.take.new.self c.args.self.now.processor c.args.self.now.next_number ≡ Some (One c.in-Ok.standing)
  stands = rw (← c.self.view_is) (now_one (replica_of c.self.inside.replica) c.self.inside.notes c.self.inside.processor c.self.inside.next_number _ c.in-Ok.standing (replica_of c.take.new.self) c.self.invariant.noted there c.in-Ok.ensures.same c.in-Ok-take.ensures.taken)

  further : state_of (record { processor = c.self.inside.processor; next_number = c.self.inside.next_number + 1; cells = c.set.new.self.cells; replica = c.take.new.self }) ≡ numbered (state_of c.args.self.now) c.in-Ok.standing
  further = rw (← c.self.view_is) (λ i. record { processor = c.self.inside.processor; next_number = c.self.inside.next_number + 1; cells = ap (λ (w : Knowledge). w.cells) c.in-Ok.ensures.ok i; replica = c.in-Ok-take.ensures.taken i })

  equal : c.eq.result ≡ true → c.in-Ok.standing ≡ c.args.entry
  equal is = search rules

  apart : c.eq.result ≡ false → c.in-Ok.standing ≢ c.args.entry
  apart is = search rules

pub invariant_of-self-2 : goal.invariant_of-self-2
invariant_of-self-2 c =
    let desk = c.self.inside in
    let fits = room c in
    let key : IsKey desk.replica.processors desk.replica.capacity desk.processor desk.next_number = record { row = c.self.invariant.row; first = c.self.invariant.numbered; last = fits } in
    let same : c.take.new.self.capacity ≡ desk.replica.capacity = ap (λ (y : Replica). y.capacity) c.in-Ok-take.ensures.taken in
    in_order_next desk.processor desk.next_number (replica_of c.take.new.self) c.set.new.self
    (in_order_after desk.processor desk.next_number (replica_of desk.replica) desk.notes desk.processor desk.next_number _ c.in-Ok.standing (replica_of c.take.new.self) c.set.new.self c.self.invariant key (there c) c.in-Ok.ensures.ok c.in-Ok.ensures.same c.in-Ok-take.ensures.taken)
    (omega (arith, fits, same))

pub returns-clause-ok : goal.returns-clause-ok
returns-clause-ok c = elim c.if-eq.branch [ then-eq w ↦ rw w.result-is (ap (λ d. d.next_number) c.self.view_is, further c ∙ ap (numbered (state_of c.args.self.now)) (equal c w.if-eq.true)) | else-eq w ↦ rw w.result-is tt ]

pub returns-clause-fault : goal.returns-clause-fault
returns-clause-fault c = elim c.if-eq.branch [ then-eq w ↦ rw w.result-is tt | else-eq w ↦ rw w.result-is (rw (← c.self.view_is) (room c), apart c w.if-eq.false, further c, stands c) ]

pub returns-clause-held_now : goal.returns-clause-held_now
returns-clause-held_now c = elim c.if-eq.branch [ then-eq w ↦ rw w.result-is (stands c ∙ ap (λ e. Some (One e)) (equal c w.if-eq.true)) | else-eq w ↦ rw w.result-is tt ]

pub returns-clause-kept : goal.returns-clause-kept
returns-clause-kept c = rw (← c.self.view_is) (record {
  processor = refl;
  cells = ap (λ (w : Knowledge). w.cells) c.in-Ok.ensures.ok;
  processors = sym c.take.ensures.shape.0;
  capacity = sym c.take.ensures.shape.1;
  kept = keeps_after (replica_of c.self.inside.replica) c.self.inside.notes c.self.inside.processor c.self.inside.next_number _ c.in-Ok.standing (replica_of c.take.new.self) c.self.invariant.noted (there c) c.in-Ok.ensures.same c.in-Ok-take.ensures.taken;
})
