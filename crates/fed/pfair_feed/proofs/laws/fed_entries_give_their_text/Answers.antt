use Rattle.pfair_feed.proofs.RoundTrip.{fed_entries_give_their_text}
use Rattle.pfair_feed.proofs.laws.fed_entries_give_their_text.Goals as goal

pub returns : goal.returns
returns c = fed_entries_give_their_text c.entries_give_their_schedule.ensures
