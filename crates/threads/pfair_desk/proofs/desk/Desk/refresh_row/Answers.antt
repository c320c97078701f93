use Rattle.pfair_desk.proofs.Common.{One, held, replica_of, DeskView, state_of, learned, gained_in_row, ◌≡◌, ◌+◌, ◌-◌, ap, sym, ◌∙◌, arith, refl, Ok, Some, true, false, is_none, is_some, cond}
use Rattle.pfair_desk.proofs.Following.{row_full, row_same, row_step, same_trans, same_learned, none_of, look_other, is_some_some, beginning_held}
use Rattle.pfair_desk.proofs.desk.Desk.refresh_row.Goals as goal

pub loop-number-init : goal.loop-number-init
loop-number-init c =
    let capacity : c.self.inside.replica.capacity ≡ c.args.self.now.replica.capacity = ap (λ d. d.replica.capacity) c.self.view_is in
    let within = c.sound_count-number.ensures.within in
    record {
      same = record { processor = refl; next_number = refl; cells = refl; processors = refl; capacity = refl };
      kept = λ k n f is. is;
      positive = omega arith;
      room = omega arith;
      full = rw (← c.self.view_is) (λ j a lt. beginning_held c.read_by_number.ensures (replica_of c.self.inside.replica) c.args.processor j a (omega (arith, c.sound_count-number.ensures.value)));
      count = sym (row_full (replica_of c.args.self.now.replica) (replica_of c.args.self.now.replica) c.args.processor 0 (c.sound_count-number.result + 1 - 1) (omega arith) (λ j lt. refl));
      few = omega arith;
      others = λ k n apart. refl;
      later = λ n le. refl;
    }

-- a number that is held already
pub loop-number-preserved-then-is_some : goal.loop-number-preserved-then-is_some
loop-number-preserved-then-is_some c = grind (arith, row_same)

pub returns-in-Ok-None-clause-count : goal.returns-in-Ok-None-clause-count
returns-in-Ok-None-clause-count c = grind (arith, row_full)

-- a number that is newly held
pub loop-number-preserved : goal.loop-number-preserved
loop-number-preserved c =
    let old = c.args.self.now in
    let now = c.loop-number.self in
    let new = c.look.new.self in
    let x = replica_of old.replica in
    let y = replica_of now.replica in
    let z = replica_of new.replica in
    let m = c.loop-number.number in
    let was = c.loop-number.invariant in
    let e = c.in-Ok-Some.field-0-0 in
    let learned_it : state_of new ≡ learned (state_of now) c.args.processor m e = (c.in-Ok-Some.ensures.some e (ap Ok c.in-Ok-Some.field-0-is)).state in
    let there : held new.replica c.args.processor m ≡ Some (One e) = (c.in-Ok-Some.ensures.some e (ap Ok c.in-Ok-Some.field-0-is)).there in
    let desk = same_learned now new c.args.processor m e learned_it in
    let capacity : c.capacity-number-end.result ≡ old.replica.capacity = c.capacity-number-end.ensures.value ∙ ap (λ d. d.replica.capacity) c.self.view_is in
    let other = look_other now new c.args.processor m e learned_it in
    let step : gained_in_row x z c.args.processor m ≡ gained_in_row x y c.args.processor (m - 1) + cond (is_none (held now.replica c.args.processor m)) 1 0
    = row_step x y z c.args.processor m (One e) was.positive (was.later m (omega arith)) there (λ n lt. other c.args.processor n (λ both. let eq = both.1 in absurd (omega arith))) in
    let missing : is_some (held now.replica c.args.processor m) ≡ false
    = sym (ap is_some c.get.ensures.value ∙ ap (λ (d : DeskView). is_some (held d.replica c.args.processor m)) c.self-in-loop-number.view_is) ∙ (sym c.is_some.ensures ∙ c.if-is_some.false) in
    let shift : m ≡ m + 1 - 1 = omega arith in
    record {
      same = same_trans old now new was.same desk;
      kept = λ k n f is. c.in-Ok-Some.ensures.kept.kept k n f (was.kept k n f is);
      positive = omega arith;
      room = (let longer = desk.capacity in let long = was.same.capacity in let test = c.loop-number-test.true in omega arith);
      full = λ j a lt. grind (arith, other, there, was.full j, is_some_some);
      count = ap (λ n. n + 1) was.count
          ∙ (ap (λ b. gained_in_row x y c.args.processor (m - 1) + cond b 1 0) (none_of (held now.replica c.args.processor m) true missing) ∙ (sym step ∙ ap (gained_in_row x z c.args.processor) shift));
      few = grind arith;
      others = λ k n apart. grind (arith, other, was.others k n);
      later = λ n le. grind (arith, other, was.later n);
    }
