use Rattle.pfair_in_time.proofs.Served.{served_where_there_is_room}
use Rattle.pfair_in_time.proofs.laws.served_where_there_is_room.Goals as goal

pub returns : goal.returns
returns c = served_where_there_is_room
