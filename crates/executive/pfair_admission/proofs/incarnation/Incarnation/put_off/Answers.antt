use Rattle.pfair_admission.proofs.Common.{◌||◌, ◌==◌, unwrap_or, nat_cmp, Some, rules, Position, MAX_OFFSET, last_offset, member_of, IsIncarnation, ◌≡◌, ◌≤◌, ◌+◌, ◌++◌, ◌∷◌, [], refl, sym, ap, subst, arith, Inside}
use Rattle.std.specs.BTreeMap as map
use Rattle.pfair_admission.proofs.Carrying.{theta_fits, own_fits, noted, now_put_off, later_put_off}
use Rattle.pfair_admission.proofs.incarnation.Incarnation.put_off.Goals as goal
use Rattle.pfair_admission.proofs.incarnation.Incarnation.put_off.Goals.{then-index-next+in_ok-insert, else-index-next}

pub delay-requires : goal.delay-requires
delay-requires c = grind (arith, theta_fits)

pub overflow_add-so_far : goal.overflow_add-so_far
overflow_add-so_far c = grind (arith, own_fits)

pub invariant_of-self-2 : goal.invariant_of-self-2
invariant_of-self-2 c =
    let room : last_offset (member_of c.self.inside) + c.args.by ≤ MAX_OFFSET = (let view = ap last_offset c.self.view_is in omega (arith, view, c.requires)) in
    let pushed : Inside → Type 0 = λ x. c.push.new.self.items ≡ x.delays.items ++ record { index = c.args.index; by = c.args.by } ∷ [] in
    let kept = noted c.self.inside c.reserve.new.self c.push.new.self in
    (elim c.if-index-next.branch [
      | then-index-next+in_ok-insert w ↦
          let updates : map.Updates nat_cmp c.self.inside.coming w.insert.new.self c.args.index (Some (unwrap_or (map.get nat_cmp c.self.inside.coming c.args.index) 0 + c.args.by)) = search rules in
          subst (λ x. pushed x → IsIncarnation (record x { delays = c.push.new.self })) (sym w.self-inside-is)
          (λ items. kept c.self.inside.stepper c.self.inside.is_put_off w.insert.new.self c.args.index c.args.by c.self.invariant room c.in_ok-reserve.ensures.items items refl
          (later_put_off (member_of c.self.inside) c.self.inside.stepper c.self.inside.is_put_off c.self.inside.coming w.insert.new.self c.args.index c.args.by (omega arith) c.self.invariant.stands updates))
          c.in_ok-push.ensures.items
      | else-index-next w ↦
          subst (λ x. pushed x → IsIncarnation (record x { delays = c.push.new.self })) (sym w.self-inside-is)
          (λ items. kept w.delay.new.self _ c.self.inside.coming c.args.index c.args.by c.self.invariant room c.in_ok-reserve.ensures.items items (ap (λ (p : Position). p.index) w.delay.ensures)
          (now_put_off (member_of c.self.inside) c.self.inside.stepper w.delay.new.self c.self.inside.is_put_off _ c.self.inside.coming c.args.index c.args.by (omega arith) c.self.invariant.stands w.delay.ensures
          (ap (λ n. c.self.inside.is_put_off || c.args.index == n) c.index-next.ensures.value)))
          c.in_ok-push.ensures.items
    ])
