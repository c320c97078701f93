use Rattle.pfair_desk.proofs.Common.{cell_name, BoardFrame, fresh_desk, state_of, ◌≡◌, ◌∙◌, ap, arith, map, sym, common_steps}
use Rattle.pfair_desk.proofs.Following.{each_snoc}
use Rattle.pfair_desk.proofs.board.Board.desks.Goals as goal

-- one more fresh desk
pub loop-processor-preserved : goal.loop-processor-preserved
loop-processor-preserved c =
    let frame = ap (λ cells. fresh_desk (record { processors = c.self.inside.processors; capacity = c.self.inside.capacity; cells = map cell_name cells }) c.loop-processor.processor) c.as_slice-cells.ensures.value
    ∙ ap (λ (b : BoardFrame). fresh_desk b c.loop-processor.processor) c.self.view_is in
    record {
      count = grind (arith, common_steps);
      fresh = λ k d at. each_snoc (λ j x. state_of x ≡ fresh_desk c.args.self.now j) c.loop-processor.desks.items c.in_ok-desk.desk c.loop-processor.invariant.fresh
          (c.in_ok-desk.ensures ∙ frame ∙ sym (ap (fresh_desk c.args.self.now) c.loop-processor.invariant.count)) k d (rw (← c.in_ok-push.ensures.items) at);
    }

pub returns-clause-own : goal.returns-clause-own
returns-clause-own c = grind arith
