use Rattle.pfair_table.proofs.Common.{ArePlacesOf, IsFit, Table, arith, sym, subst, List, ℕ}
use Rattle.pfair_table.proofs.NextRuns.{no_rows}
use Rattle.pfair_table.proofs.state.State.new.Goals as goal

pub invariant_of-result : goal.invariant_of-result
invariant_of-result c =
    let n = c.args.members.machine.processors in
    let fit = no_rows n in
    record {
      processors = (c.requires.processors, omega (arith, c.processors.ensures.few, c.processors.ensures.value));
      frame = (c.requires.frame, omega (arith, c.frame.ensures.short, c.frame.ensures.value));
      members = c.requires.members;
      early = c.requires.slot;
      rows = subst (IsFit n) (sym c.new.ensures.items) fit.0;
      places = subst (λ (p : Table × List ℕ). ArePlacesOf n p.0 p.1) (λ i. (sym c.new.ensures.items i, sym c.new-2.ensures.items i)) fit.1;
    }
