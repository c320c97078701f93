use Rattle.pfair_c.proofs.Common.{◌≡◌, ◌≤◌, ap, List, ℕ, arith, rules, sym, length, quanta_at, slot_of, PfairQuantum, Table, common_steps, Settings}
use Rattle.pfair_c.proofs.SlotRows.{as-many-at, rows-fit, slot-counted, written-further}
use Rattle.pfair_c.proofs.quanta.write_quanta.Goals as goal
use Rattle.pfair_c.proofs.quanta.write_quanta.Goals.{then-next-rows, else-next-rows}

pub loop-slot-preserved : goal.loop-slot-preserved
loop-slot-preserved g c =
    let tables : List Table = c.args.dispatcher.now.tables in
    let origin = c.args.dispatcher.now.origin in
    let rows_at : ℕ → List PfairQuantum = quanta_at origin tables in
    let slot = c.loop-slot.slot in
    let after = c.loop-slot.invariant.0 in
    let many = as-many-at origin tables slot in
    let here : length c.unwrap_or-table.result.now ≡ length (slot_of tables slot) = search rules in
    let processors : c.settings.result.processors ≡ c.args.dispatcher.now.settings.processors = ap (λ (s : Settings). s.processors) c.settings.ensures in
    let fit = rows-fit c.args.dispatcher.now.settings.processors tables slot c.places.ensures.fit in
    let few : length c.unwrap_or-table.result.now ≤ 64 = omega (arith, here, fit, processors, c.processors.ensures.limits) in
    let next = slot-counted rows_at c.args.from slot c.loop-slot.count (length (slot_of tables slot)) after c.loop-slot.invariant.2 (sym many) in (
      omega arith,
      omega arith,
      omega (arith, here, next),
      omega (arith, few),
      written-further rows_at c.args.from slot c.loop-slot.count c.args.rows.now c.loop-slot.rows c.if-next-rows.rows after
          (λ room. c.loop-slot.invariant.2) c.loop-slot.invariant.4
          (λ room. (let rows = c.loop-slot.auto.rows in elim c.if-next-rows.branch [ then-next-rows w ↦ grind (arith, common_steps) | else-next-rows w ↦ absurd (omega (arith, many)) ])),
    )
