use Rattle.pfair_table.proofs.PlacesKept.{places_are_kept}
use Rattle.pfair_table.proofs.laws.places_are_kept.Goals as goal

pub returns : goal.returns
returns c = places_are_kept
