use Rattle.pfair_file.proofs.Common.{◌-◌, ◌≤◌, vec_len, Consumes}
use Rattle.pfair_file.proofs.input.read_bytes.Given as goal

abbrev pub invariant-pieces : goal.invariant-pieces
invariant-pieces g l = (vec_len l.bytes ≤ 67108865) × Consumes (g.R.Read.remaining l.fn.reader) (g.R.Read.remaining l.reader) l.bytes.items

abbrev pub decreases-pieces : goal.decreases-pieces
decreases-pieces g l = 67108865 - vec_len l.bytes
