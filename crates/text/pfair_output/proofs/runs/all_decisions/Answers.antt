use Rattle.pfair_output.proofs.Common.{replica_of, Replica, said, Settings, decisions, line, lines_text, text_so_far, decided_rows, decisions_header, ◌≡◌, ◌++◌, ◌∙◌, ap, arith, None}
use Rattle.pfair_output.proofs.WorldFacts.{decisions_more}
use Rattle.pfair_output.proofs.runs.all_decisions.Goals as goal

pub slots-preserved : goal.slots-preserved
slots-preserved g c =
    let s : Settings = c.args.planner.now.settings in
    let x : Replica = replica_of c.args.replica.now in
    let next = c.in_ok-plan.ensures in
    let decided : c.deref.result.now ≡ decisions None s (said x) c.slots.slot = c.deref.ensures.value ∙ next.decided ∙ (λ i. decisions None (c.slots.invariant.settings i) (said x) (c.slots.invariant.planned i)) in
    record {
      is_open = c.in_ok-add_decisions.ensures.open;
      able = next.able;
      first = next.run.0;
      settings = next.run.1 ∙ c.slots.invariant.settings;
      planned = omega (arith, next.planned, c.slots.invariant.planned);
      text = decisions_more s x c.slots.slot (line decisions_header) (text_so_far c.slots.writer) (text_so_far c.add_decisions.new.writer) c.slots.invariant.text
          (c.in_ok-add_decisions.ensures.text ∙ ap (λ d. text_so_far c.slots.writer ++ lines_text (decided_rows c.slots.slot d)) decided);
    }
