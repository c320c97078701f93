use Rattle.pfair_table.proofs.Common.{◌≡◌, drop}
use Rattle.pfair_table.proofs.planned.give_back.Given as goal

abbrev pub invariant-loop : goal.invariant-loop
invariant-loop l = l.slots.items ≡ drop l.counter l.fn.slots.items
