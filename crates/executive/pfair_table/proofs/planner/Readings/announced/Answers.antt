use Rattle.pfair_table.proofs.Common.{replica_of, said_by_all, slice_get-get_or, ◌≡◌, ◌∙◌, ◌<◌, sym, ap, arith, List, Some, length, common_steps, subst, Reading, Readings, Replica, AreReadFrom, AreWhole}
use Rattle.pfair_table.proofs.ReadOn.{whole_said, none_said, read_whole, readings_put, silent_put, whole_put, whole_at_end, whole_by_total, total_by_whole}
use Rattle.pfair_table.proofs.planner.Readings.announced.Goals as goal
use Rattle.pfair_table.proofs.planner.Readings.announced.Goals.{After-new-announced, then-self-sound_total+else-loop-processor-test, else-self-sound_total}

pub loop-processor-preserved : goal.loop-processor-preserved
loop-processor-preserved c =
    let x = replica_of c.args.replica.now in
    let rs = c.loop-processor.self.by_processor.items in
    let p = c.loop-processor.processor in
    let so_far = c.loop-processor.invariant in
    let room : p < length rs = omega (arith, so_far.readings.one_each, c.loop-processor-test.true, c.processors-processor-end.ensures.value) in
    let before = c.index_mut-reading.result.now in
    let after : Reading = record { count = c.sound_count-reading.result; agenda = c.note_said.new.agenda } in
    let there = slice_get-get_or rs p before room ∙ ap Some (sym c.index_mut-reading.ensures.value) in
    let count = c.sound_count-reading.ensures.value in
    record {
      readings = readings_put x rs p after room so_far.readings (read_whole x p before after (so_far.readings.each c.requires.replica c.requires.untorn p before there) count c.in_ok-note_said.ensures.noted);
      whole = whole_put x rs p after room so_far.whole count;
      silent = silent_put x rs p after room so_far.silent (omega (arith, c.max-self.ensures)) (λ t late. c.last.ensures.silent t (omega (arith, late, c.max-self.ensures)));
    }

-- all is read
abbrev AreAllRead : Replica → Readings → Type 0
AreAllRead x r = AreReadFrom x r × AreWhole x r.by_processor.items

read : (c : After-new-announced) → AreAllRead (replica_of c.args.replica.now) c.if-self-sound_total.self
read c = elim c.if-self-sound_total.branch [
  | then-self-sound_total+else-loop-processor-test w ↦ (let x = replica_of c.args.replica.now in
      let rs = w.loop-processor.self.by_processor.items in
      let so_far = w.loop-processor.invariant in
      let so_many = so_far.readings.one_each in
      let whole = whole_at_end x rs w.loop-processor.processor (omega (arith, so_many, w.loop-processor-test.false, w.processors-processor-end.ensures.value)) so_far.whole in
      let all = total_by_whole x rs so_many whole in
      subst (AreAllRead x) (sym w.self-is) (record { are = so_far.readings; counted = omega (arith, all, w.sound_total-self.ensures); silent = so_far.silent }, whole))
  | else-self-sound_total w ↦ (let x = replica_of c.args.replica.now in
      subst (AreAllRead x) (sym w.self-is) (
        c.requires.readings,
        whole_by_total x c.args.self.now.by_processor.items c.requires.readings.are c.requires.replica c.requires.untorn (omega (arith, c.requires.readings.counted, w.if-self-sound_total.false, c.sound_total.ensures)),
      ))
]

pub returns-then-slot-self-clause-announced : goal.returns-then-slot-self-clause-announced
returns-then-slot-self-clause-announced c =
    let now = c.if-self-sound_total.self in
    c.new-announced.ensures.items
    ∙ sym (none_said now.by_processor.items c.args.slot (λ k r is. (read (goal.at.returns-then-slot-self-clause-announced c).After-new-announced).0.silent k r c.args.slot is c.if-slot-self.true))
    ∙ whole_said (replica_of c.args.replica.now) now.by_processor.items (read (goal.at.returns-then-slot-self-clause-announced c).After-new-announced).0.are c.requires.replica c.requires.untorn (read (goal.at.returns-then-slot-self-clause-announced c).After-new-announced).1 c.args.slot

pub returns-clause-announced : goal.returns-clause-announced
returns-clause-announced c =
    let all : c.loop-reading.announced.items ≡ said_by_all c.deref-reading-items.result.now c.args.slot = grind (arith, common_steps) in
    all ∙ ap (λ (rs : List Reading). said_by_all rs c.args.slot) c.deref-reading-items.ensures.value ∙ whole_said (replica_of c.args.replica.now) c.if-self-sound_total.self.by_processor.items (read (goal.at.returns-clause-announced c).After-new-announced).0.are c.requires.replica c.requires.untorn (read (goal.at.returns-clause-announced c).After-new-announced).1 c.args.slot

pub returns-then-slot-self-clause-readings : goal.returns-then-slot-self-clause-readings
returns-then-slot-self-clause-readings c = (read (goal.at.returns-then-slot-self-clause-readings c).After-new-announced).0

pub returns-clause-readings : goal.returns-clause-readings
returns-clause-readings c = (read (goal.at.returns-clause-readings c).After-new-announced).0
