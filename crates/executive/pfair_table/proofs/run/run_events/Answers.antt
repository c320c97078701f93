use Rattle.pfair_table.proofs.Common.{AllByRecursion, Settings, IsEvent, Course, happens, run, course_of, ◌≡◌, ◌+◌, ◌∙◌, sym, ap, subst, drop, List, Event}
use Rattle.pfair_table.proofs.QueueKept.{drop_item}
use Rattle.pfair_table.proofs.run.run_events.Goals as goal

pub loop-event-preserved : goal.loop-event-preserved
loop-event-preserved g c =
    let rest : List Event = drop (c.loop-event.event-index + 1) c.args.events.now in
    let was : Course = course_of c.loop-event.dispatcher in
    let next : course_of c.happen.new.dispatcher ≡ happens c.args.settings was c.event-item.result =
    c.in_ok-happen.ensures.course ∙ ap (λ (s : Settings). happens s was c.event-item.result) c.loop-event.invariant.settings in
    let items = drop_item c.args.events.now c.loop-event.event-index c.event-item.result c.loop-event-test.true c.event-item.is in
    record {
      course = ap (λ (k : Course). run c.args.settings k rest) next ∙ sym (ap (run c.args.settings was) items) ∙ c.loop-event.invariant.course;
      settings = c.in_ok-happen.ensures.settings ∙ c.loop-event.invariant.settings;
      spent = c.in_ok-happen.ensures.spent;
      unforgotten = c.happen.ensures.unforgotten ∙ c.loop-event.invariant.unforgotten;
      events = λ all. c.loop-event.invariant.events (subst (AllByRecursion IsEvent) (sym items) (c.happen.ensures.event, all));
    }
