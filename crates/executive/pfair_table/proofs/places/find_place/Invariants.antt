use Rattle.pfair_table.proofs.Common.{place_of, ◌≡◌}
use Rattle.pfair_table.proofs.places.find_place.Given as goal

abbrev pub invariant-loop-pick : goal.invariant-loop-pick
invariant-loop-pick l = place_of l.pick-iterator.a.rest.now l.pick-iterator.b.rest.now l.name ≡ place_of l.table l.places l.name
