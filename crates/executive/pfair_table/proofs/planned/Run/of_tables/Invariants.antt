use Rattle.pfair_table.proofs.Common.{places_in, as_tables, as_places, ◌≡◌, take, None}
use Rattle.pfair_table.proofs.planned.Run.of_tables.Given as goal

-- the places so far are those of the tables so far
abbrev pub invariant-loop-slot : goal.invariant-loop-slot
invariant-loop-slot l = as_places l.places ≡ places_in None (take l.slot (as_tables l.fn.tables))
