use Rattle.pfair_desk.proofs.Common.{One, held, replica_of, IsKey, DeskView, learned, state_of, Knowledge, ◌≡◌, ap, sym, ◌∙◌, subst, refl, Some, arith}
use Rattle.pfair_desk.proofs.NotedLemmas.{in_order_after, keeps_after, now_one, place_there}
use Rattle.pfair_desk.proofs.desk.Desk.look.Goals as goal

pub invariant_of-self-2 : goal.invariant_of-self-2
invariant_of-self-2 c =
    let key : IsKey c.self.inside.replica.processors c.self.inside.replica.capacity c.args.proc c.args.number = record { row = omega arith; first = omega arith; last = omega arith } in
    in_order_after c.self.inside.processor c.self.inside.next_number (replica_of c.self.inside.replica) c.self.inside.notes c.args.proc c.args.number _ c.in-Some.entry (replica_of c.take.new.self) c.read.new.self c.self.invariant key
    (place_there _ c.args.self.now c.args.proc c.args.number _ c.self.view_is c.place-place.ensures.value) c.in-Some.ensures.some c.in-Some.ensures.same c.in_ok-take.ensures.taken

pub returns-clause-kept : goal.returns-clause-kept
returns-clause-kept c = rw (← c.self.view_is) (record {
  processor = refl;
  cells = ap (λ (w : Knowledge). w.cells) c.in-Some.ensures.some;
  processors = sym c.take.ensures.shape.0;
  capacity = sym c.take.ensures.shape.1;
  kept = keeps_after (replica_of c.self.inside.replica) c.self.inside.notes c.args.proc c.args.number _ c.in-Some.entry (replica_of c.take.new.self) c.self.invariant.noted
      (place_there _ c.args.self.now c.args.proc c.args.number _ c.self.view_is c.place-place.ensures.value) c.in-Some.ensures.same c.in_ok-take.ensures.taken;
})

pub returns-clause-some : goal.returns-clause-some
returns-clause-some c = λ e is.
    (let same : c.in-Some.entry ≡ e = cc is in
    record {
      state = (λ i. record {
        processor = c.self.inside.processor;
        next_number = c.self.inside.next_number;
        cells = ap (λ (k : Knowledge). k.cells) c.in-Some.ensures.some i;
        replica = c.in_ok-take.ensures.taken i;
      })
          ∙ ap (λ (d : DeskView). learned (state_of d) c.args.proc c.args.number c.in-Some.entry) c.self.view_is
          ∙ ap (learned (state_of c.args.self.now) c.args.proc c.args.number) same;
      there = subst (λ f. held c.take.new.self c.args.proc c.args.number ≡ Some (One f)) same
          (now_one (replica_of c.self.inside.replica) c.self.inside.notes c.args.proc c.args.number _ c.in-Some.entry (replica_of c.take.new.self) c.self.invariant.noted
          (place_there _ c.args.self.now c.args.proc c.args.number _ c.self.view_is c.place-place.ensures.value) c.in-Some.ensures.same c.in_ok-take.ensures.taken);
    })
