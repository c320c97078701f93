use Rattle.pfair_c.proofs.Common.{◌≡◌, ◌+◌, ◌-◌, List, ℕ, length, min, arith, rules, refl, sym, length-map, decisions_at, decision_row, rows_of, slot_of, Decided, common_steps}
use Rattle.pfair_c.specs.declared.decisions.PfairDecision.{PfairDecision}
use Rattle.pfair_c.proofs.SlotRows.{counted-within, slot-counted, written-further}
use Rattle.pfair_c.proofs.decisions.write_decisions.Goals as goal
use Rattle.pfair_c.proofs.decisions.write_decisions.Goals.{then-next-rows, else-next-rows}

pub loop-slot-preserved : goal.loop-slot-preserved
loop-slot-preserved g c =
    let decided : List (List Decided) = c.args.dispatcher.now.decided in
    let rows_at : ℕ → List PfairDecision = decisions_at decided in
    let from = c.args.from in
    let slot = c.loop-slot.slot in
    let after = c.loop-slot.invariant.0 in
    let before : ℕ = length (rows_of rows_at from (slot - from)) in
    let here : ℕ = length (slot_of decided slot) in
    let many = length-map (slot_of decided slot) (decision_row slot) in
    let whole = slot-counted rows_at from slot before here after refl (sym many) in
    let next : c.saturating_add-next.result ≡ min (c.loop-slot.count + here) 18446744073709551615 = search rules in (
      omega arith,
      omega arith,
      counted-within before here (length (rows_of rows_at from (slot + 1 - from))) 18446744073709551615 c.loop-slot.count c.saturating_add-next.result c.loop-slot.invariant.2 next (sym whole),
      written-further rows_at from slot c.loop-slot.count c.args.rows.now c.loop-slot.rows c.if-next-rows.rows after
          (λ room. (let counted = c.loop-slot.invariant.2 in let rows = c.loop-slot.auto.rows in omega arith)) c.loop-slot.invariant.3
          (λ room. (let rows = c.loop-slot.auto.rows in elim c.if-next-rows.branch [ then-next-rows w ↦ grind (arith, common_steps) | else-next-rows w ↦ absurd (omega (arith, many)) ])),
    )
