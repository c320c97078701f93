use Rattle.pfair_feed.proofs.RoundTrip.{entries_are_their_rows}
use Rattle.pfair_feed.proofs.laws.entries_are_their_rows.Goals as goal

pub returns : goal.returns
returns c = entries_are_their_rows c.events_leave_the_least.ensures c.each_entry_has_its_row.ensures
