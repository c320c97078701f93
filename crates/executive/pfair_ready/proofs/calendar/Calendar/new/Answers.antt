use Rattle.pfair_ready.proofs.CalendarLemmas.{none_noted}
use Rattle.pfair_ready.proofs.calendar.Calendar.new.Goals as goal

pub returns-clause-none : goal.returns-clause-none
returns-clause-none c = none_noted (record { turned = 0; near = c.new.result; far = c.new-2.result }) c.new.ensures.items c.new-2.ensures.items
