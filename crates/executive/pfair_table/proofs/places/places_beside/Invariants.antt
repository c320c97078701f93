use Rattle.pfair_table.proofs.Common.{kept_places, ◌≡◌, take}
use Rattle.pfair_table.proofs.places.places_beside.Given as goal

abbrev pub invariant-loop-pick : goal.invariant-loop-pick
invariant-loop-pick l = l.kept.items ≡ kept_places l.before l.places (take l.pick-index l.table)

abbrev pub invariant-loop-pick-else-before-le-FEW_ROWS : goal.invariant-loop-pick-else-before-le-FEW_ROWS
invariant-loop-pick-else-before-le-FEW_ROWS l = l.kept.items ≡ kept_places l.before l.places (take l.pick-index l.table)
