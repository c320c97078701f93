use Rattle.pfair_table.proofs.Common.{refl, arith, length-append, subst, sym}
use Rattle.pfair_table.proofs.ReadOn.{AreUnread, unread_push}
use Rattle.pfair_table.proofs.planner.Readings.new.Goals as goal

pub loop-preserved : goal.loop-preserved
loop-preserved c = record {
  unread = subst AreUnread (sym c.in_ok-push.ensures.items) (unread_push c.loop.by_processor.items (record { count = 0; agenda = c.new-agenda.result }) c.loop.invariant.unread (refl, c.new-agenda.ensures));
  many = grind (arith, length-append, c.in_ok-push.ensures.items, c.loop.invariant.many);
}
