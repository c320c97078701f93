use Rattle.pfair_table.proofs.Common.{AllByRecursion, IsEvent, run, run_of, course_of, ◌≡◌, drop, false}
use Rattle.pfair_table.proofs.run.run_events.Given as goal

abbrev pub invariant-loop-event : goal.invariant-loop-event
invariant-loop-event g l = record {
  course : run l.fn.settings (course_of l.dispatcher) (drop l.event-index l.events) ≡ run_of l.fn.settings l.capacity l.events;
  settings : l.dispatcher.settings ≡ l.fn.settings;
  spent : l.dispatcher.spent ≡ false;
  unforgotten : l.dispatcher.forgotten ≡ 0;
  events : AllByRecursion IsEvent (drop l.event-index l.events) → AllByRecursion IsEvent l.events;
}
