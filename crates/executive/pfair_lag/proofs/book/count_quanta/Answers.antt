use Rattle.pfair_lag.proofs.Common.{common_steps, with_quanta, with_quantum, EachFits, List, NameValue, ◌≡◌, ◌∙◌, ap, sym, subst, arith, map, take}
use Rattle.pfair_table.specs.declared.slot.Pick.{Pick}
use Rattle.pfair_lag.proofs.BookLemmas.{fits_at, no_quanta, quanta_push, fits_quanta, names_more, quantum_written, quantum_of_stranger}
use Rattle.pfair_lag.proofs.book.count_quanta.Goals.{in-Some, in_default}
use Rattle.pfair_lag.proofs.book.count_quanta.Goals as goal

pub loop-pick-init : goal.loop-pick-init
loop-pick-init c = no_quanta c.args.time c.args.accounts.now.entries

pub count-requires : goal.count-requires
count-requires c =
    fits_at c.loop-pick.accounts.entries c.in-Some.place c.index_mut.result.now
    (subst EachFits (sym c.loop-pick.invariant) (fits_quanta c.args.time _ c.args.accounts.now.entries c.requires)) c.index_mut.ensures.value

pub loop-pick-preserved : goal.loop-pick-preserved
loop-pick-preserved c =
    let name = c.pick-item.result.name in
    let one_more : c.match-get_index_of.accounts.entries ≡ with_quantum c.args.time name c.loop-pick.accounts.entries = elim c.match-get_index_of.branch [
      | in-Some w ↦ grind (arith, common_steps, quantum_written)
      | in_default w ↦ ap (λ accounts. accounts.entries) w.accounts-is ∙ quantum_of_stranger c.args.time c.loop-pick.accounts.entries name c.get_index_of.result w.in_default.not-Some c.get_index_of.ensures.found
    ] in
    one_more ∙ ap (with_quantum c.args.time name) c.loop-pick.invariant ∙ quanta_push c.args.time (map (λ (p : Pick). p.name) (take c.loop-pick.pick-index c.args.picks.now)) name c.args.accounts.now.entries
    ∙ ap (λ (names : List NameValue). with_quanta c.args.time names c.args.accounts.now.entries) (sym (names_more (λ (p : Pick). p.name) c.args.picks.now c.loop-pick.pick-index c.pick-item.result c.loop-pick-test.true (sym c.pick-item.is)))
