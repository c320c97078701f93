use Rattle.pfair_desk.proofs.Common.{length-map, cell_name, replica_of, ◌∙◌, ap, None, length, replicate}
use Rattle.pfair_desk.proofs.NotedLemmas.{in_order_fresh}
use Rattle.pfair_desk.proofs.desk.Desk.of.Goals as goal

pub invariant_of-result : goal.invariant_of-result
invariant_of-result c = in_order_fresh c.args.processors c.args.capacity c.args.processor (replica_of c.in_ok-new.field-0) c.in_ok-notes.notes c.requires.shape c.in_ok-new.ensures
    (ap length c.in_ok-notes.ensures.cells ∙ length-map c.args.cells.now cell_name ∙ c.requires.all)
    (c.in_ok-notes.ensures.known ∙ ap (λ n. replicate n None) c.requires.all)
    c.requires.row
