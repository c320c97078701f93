use Rattle.pfair_ready.proofs.Common.{length-map, Key, pd2_cmp, first_by_rank, IsCovered, Content, Queue, heap_items, released, List, map, min, ◌∙◌, ◌≡◌, ◌≤◌, ◌<◌, length, sym, subst, refl, arith, vec_capacity}
use Rattle.pfair_ready.proofs.CalendarLemmas.{covered_moved, top_number}
use Rattle.pfair_ready.proofs.Taking.{IsTaking, one_more, room_for, taking_none, taking_dead, taking_live, first_taken}
use Rattle.pfair_ready.proofs.heap.HeapReady.select.Given.{Over}
use Rattle.pfair_ready.proofs.heap.HeapReady.select.Goals as goal
use Rattle.pfair_ready.proofs.heap.HeapReady.select.Goals.{After-release, else-turns-test, then-turns-test+in_default}

-- what has come has moved
moved : (g : Over) (c : After-release g) → IsCovered c.args.slot c.self.inside.waiting c.release.new.self (heap_items c.release.new.released)
moved g c =
    covered_moved c.self.inside.now c.args.slot c.self.inside.waiting c.self.inside.calendar c.release.new.self (heap_items c.self.inside.released) (heap_items c.release.new.released)
    c.self.invariant (subst (λ (v : Content). v.now ≤ c.args.slot) (sym c.self.view_is) c.requires.1.1.0) c.release.ensures.moves c.release.ensures.turned c.release.ensures.order

pub invariant_of-self : goal.invariant_of-self
invariant_of-self g c = moved g ((goal.at.invariant_of-self g c).After-release)

pub invariant_of-self-in_err-reserve : goal.invariant_of-self-in_err-reserve
invariant_of-self-in_err-reserve g c = moved g ((goal.at.invariant_of-self-in_err-reserve g c).After-release)

pub turns-init : goal.turns-init
turns-init g c = (
  rw (c.in_ok-reserve.ensures.items ∙ c.clear.ensures.items) (taking_none c.args.slot c.args.m c.self.inside.waiting c.release.new.self (heap_items c.release.new.released) (moved g ((goal.at.turns-init g c).After-release)) c.in_ok-release.ensures.done),
  refl,
  room_for c.args.m (length (heap_items c.release.new.released)) (min c.args.m (length (heap_items c.release.new.released))) (vec_capacity c.reserve.new.self) (omega (arith, c.min.ensures, c.len.ensures, c.release.new.released.data.ok.0)) (omega (arith, c.in_ok-reserve.ensures.ok, c.min.ensures, c.len.ensures, c.release.new.released.data.ok.0)),
)

pub take-requires : goal.take-requires
take-requires g c = top_number c.in-Some.turn c.in-Some.ensures.permutation c.turns.invariant.0.covered.sound

pub turns-preserved-in-Continue-branch-3 : goal.turns-preserved-in-Continue-branch-3
turns-preserved-in-Continue-branch-3 g c =
    let given : List Key = map g.key c.turns.first.items in
    let room : length given < c.args.m = omega (arith, length-map c.turns.first.items g.key) in (
      rw (one_more g.key c.turns.first.items c.push.new.self.items c.give.result c.in-Some-take.seated.key c.in_ok-push.ensures.items (c.requires.1.1.1.1 c.in-Some-take.seated c.give.result c.give.ensures))
          (taking_live c.args.slot c.args.m (length (heap_items c.release.new.released)) c.self.inside.waiting c.turns.self-inside.waiting c.turns.self-inside.calendar (heap_items c.turns.self-inside.released) given c.turns.invariant.0
          c.in-Some.turn (heap_items c.pop.new.self) c.in-Some.ensures.permutation c.in-Some.ensures.heap_order c.in-Some-take.seated.key c.take.new.self c.in-Some-take.ensures.content
          room c.in-Some-take.ensures.key (sym c.in-Some-take.ensures.answer)),
      c.turns.invariant.1,
      omega (arith, c.turns.invariant.2, c.in_ok-push.ensures.capacity),
    )

pub turns-preserved : goal.turns-preserved
turns-preserved g c = (
  subst (λ (h : Queue). IsTaking c.args.slot c.args.m (length (heap_items c.release.new.released)) c.self.inside.waiting h c.turns.self-inside.calendar (heap_items c.pop.new.self) (map g.key c.turns.first.items))
      (sym c.in_default-take.ensures.content)
      (taking_dead c.args.slot c.args.m (length (heap_items c.release.new.released)) c.self.inside.waiting c.turns.self-inside.waiting c.turns.self-inside.calendar (heap_items c.turns.self-inside.released) (map g.key c.turns.first.items) c.turns.invariant.0
      c.in-Some.turn (heap_items c.pop.new.self) c.in-Some.ensures.permutation c.in-Some.ensures.heap_order (sym c.in_default-take.ensures.answer)),
  c.turns.invariant.1,
  c.turns.invariant.2,
)

pub returns-clause-first : goal.returns-clause-first
returns-clause-first g c =
    let given : List Key = map g.key c.turns.first.items in
    let empty : length given < c.args.m → length (heap_items c.turns.self-inside.released) ≡ 0 =
    elim c.turns-test.branch [
      | else-turns-test w ↦ λ less. let h = w.turns-test.false in absurd (omega (arith, length-map c.turns.first.items g.key))
      | then-turns-test+in_default w ↦ λ less. omega (arith, w.in_default.ensures.none, c.turns.self-inside.released.data.ok.0)
    ] in
    subst (λ (v : Content). given ≡ first_by_rank pd2_cmp c.args.m (released c.args.slot v.held)) c.self.view_is
    (first_taken c.args.slot c.args.m (length (heap_items c.release.new.released)) c.self.inside.waiting c.turns.self-inside.waiting c.turns.self-inside.calendar (heap_items c.turns.self-inside.released) given c.turns.invariant.0 empty)
