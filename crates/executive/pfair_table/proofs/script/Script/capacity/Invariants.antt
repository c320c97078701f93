use Rattle.pfair_table.proofs.Common.{capacity_of, lists_of, ◌≡◌, ◌≤◌, drop, max}
use Rattle.pfair_table.proofs.script.Script.capacity.Given as goal

abbrev pub invariant-loop-log : goal.invariant-loop-log
invariant-loop-log l = (1 ≤ l.longest) × (max l.longest (capacity_of (lists_of (drop l.log-index l.log-items))) ≡ capacity_of (lists_of l.log-items))
