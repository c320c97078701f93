use Rattle.pfair_state.proofs.Common.{Roster, as_member, rules, arith, ℕ, ◌≡◌, ◌+◌, ap, subst, sym, ◌∙◌, length, None, Some}
use Rattle.pfair_state.proofs.MembersRead.{AreRestoredSoFar, all_restored, can, left_on, out_of_memory, restored}
use Rattle.pfair_state.proofs.read.read_members.Goals as goal

pub returns-in-Err-clause-back : goal.returns-in-Err-clause-back
returns-in-Err-clause-back c all behind none left is ends =
    let rows = c.args.rows.now in
    let here = sym c.row_at.ensures ∙ c.in-Some-Member.is ∙ ap Some c.in-Some-Member.field-0-is in
    c.not_restored.ensures (out_of_memory c.loop-member.members.machine c.args.slot c.loop-member.members.members _ c.in-Err.why c.in-Err.ensures.fault
    (can rows c.args.slot c.args.members.now c.loop-member.members c.loop-member.at c.loop-member.invariant.4 c.in-Some-Member.member here c.in_ok-delays.delays.items c.in_ok-delays.ensures.back all behind none left is ends))

pub loop-member-preserved : goal.loop-member-preserved
loop-member-preserved c =
    let rows = c.args.rows.now in
    let here = sym c.row_at.ensures ∙ c.in-Some-Member.is ∙ ap Some c.in-Some-Member.field-0-is in
    let long : c.len.result ≡ length c.in_ok-delays.delays.items = search (rules, arith) in
    let inside = c.in_ok-delays.ensures.inside in
    let grown = c.in_default-restore.ensures.members in
    let machine = c.loop-member.invariant.2 in
    let before = c.loop-member.invariant.3 in (
      omega (arith, inside, long),
      left_on c.args.slot c.loop-member.members c.restore.new.self _ c.in_default-restore.ensures.fit grown c.loop-member.invariant.1,
      ap (λ (r : Roster). r.machine) grown ∙ machine,
      ap (λ (r : Roster). r.last_slot) grown ∙ before,
      subst (λ (n : ℕ). AreRestoredSoFar rows c.args.slot c.args.members.now c.restore.new.self (c.loop-member.at + 1 + n)) (sym long)
          (restored rows c.args.slot c.args.members.now c.loop-member.members c.loop-member.at c.loop-member.invariant.4 c.in-Some-Member.member here c.in_ok-delays.delays.items c.in_ok-delays.ensures.back c.restore.new.self grown),
    )

pub returns-in_default-clause-back : goal.returns-in_default-clause-back
returns-in_default-clause-back c all behind none left is ends =
    let ended : as_member c.row_at.result ≡ None = search rules in
    all_restored c.args.rows.now c.args.slot c.args.members.now c.loop-member.members c.loop-member.at c.loop-member.invariant.4 (ap as_member (sym c.row_at.ensures) ∙ ended) all behind none left is ends

pub returns-in_default-2-clause-back : goal.returns-in_default-2-clause-back
returns-in_default-2-clause-back c all behind none left is ends =
    let ended : as_member c.row_at.result ≡ None = search rules in
    all_restored c.args.rows.now c.args.slot c.args.members.now c.loop-member.members c.loop-member.at c.loop-member.invariant.4 (ap as_member (sym c.row_at.ensures) ∙ ended) all behind none left is ends
