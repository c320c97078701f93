use Rattle.pfair_file.proofs.Common.{append_assoc, length-append, ℕ, List, Option, ◌≡◌, ◌≤◌, ◌-◌, ◌++◌, length, take, arith, rules, Consumes}
use Rattle.pfair_file.proofs.input.read_bytes.Goals as goal

-- bytes that came, and then more
consumes-more : (old mid new : Option (List ℕ)) (first more : List ℕ) → Consumes old mid first → Consumes mid new more → Consumes old new (first ++ more)
consumes-more old mid new first more a b = grind (arith, append_assoc)

pub returns-in_err-extend_from_slice-in-Ok-clause-most : goal.returns-in_err-extend_from_slice-in-Ok-clause-most
returns-in_err-extend_from_slice-in-Ok-clause-most g c =
    let taken : length (take c.in-Ok.count c.read.new.buf) ≤ 67108865 - c.len-in-pieces.result = search rules in
    let held : length c.pieces.bytes.items ≡ c.len-in-pieces.result = search rules in
    let size = length-append c.pieces.bytes.items (take c.in-Ok.count c.read.new.buf) in
    (_, consumes-more _ _ _ _ _ c.pieces.invariant.1 c.in-Ok.ensures.bytes.0, omega arith)
