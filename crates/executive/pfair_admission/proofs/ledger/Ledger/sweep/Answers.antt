use Rattle.pfair_admission.proofs.Common.{filter-RetainsPairs, rules, NoneFreedBefore, Share, units_of, values_of, claimed, present, NoneFreed, is_there, listed, Numbered, ◌≡◌, sym, ap, subst, ◌∙◌, arith}
use Rattle.std.proofs.Common.{filter}
use Rattle.pfair_admission.proofs.Deciding.{product_fits, stood, filter_again, filter_all}
use Rattle.pfair_admission.proofs.MemberLists.{first_more, claimed_more, claimed_part, none_freed_before, none_freed_present, present_all}
use Rattle.pfair_admission.proofs.Registers.{register_all, register_kept, values_kept, all_listed}
use Rattle.pfair_admission.proofs.ledger.Ledger.sweep.Goals as goal
use Rattle.pfair_admission.proofs.ledger.Ledger.sweep.Goals.{After-claim_of-claim, After-retain, Then-not-has_come}

-- nobody is freed yet
none : (c : Then-not-has_come) → NoneFreed c.args.slot (listed c.args.self.now)
none c = none_freed_before c.args.slot c.args.self.now.first_freeing (listed c.args.self.now) (sym c.has_come.ensures ∙ c.if-not-has_come.true) c.requires.first

pub returns-then-not-has_come-clause-gone : goal.returns-then-not-has_come-clause-gone
returns-then-not-has_come-clause-gone c = none c

pub returns-then-not-has_come-clause-kept : goal.returns-then-not-has_come-clause-kept
returns-then-not-has_come-clause-kept c =
    let a = c.args.self.now in
    let left = ap (claimed a.frame) (present_all c.args.slot (listed a) (none c)) in
    let all = ap (claimed a.frame) (filter_all (listed a)) in
    record {
      register = register_all c.args.slot a.admitted a.members.entries a.names.entries (none c) c.requires.register;
      few_processors = c.requires.few_processors;
      short_frame = c.requires.short_frame;
      room = c.requires.room;
      total = omega (arith, left, all, c.requires.least, c.requires.most);
      first = c.requires.first;
    }

-- who is there is kept
there : (c : After-retain) → c.retain.new.self.entries ≡ filter (λ e. is_there c.args.slot e.1) c.args.self.now.members.entries
there c = filter-RetainsPairs _ _ _ (λ k v b w g call. search rules) _ _ c.retain.ensures.filtered

-- those that are left
left : (c : After-retain) → values_of c.retain.new.self.entries ≡ present c.args.slot (listed c.args.self.now)
left c = ap (λ (es : Numbered). values_of es) (there c) ∙ values_kept (is_there c.args.slot) c.args.self.now.members.entries

-- one of them claims its units
own : (c : After-claim_of-claim) → c.claim_of-claim.result ≡ units_of c.index-member.result.now.weight c.args.self.now.frame
own c = c.claim_of-claim.ensures.value ∙ ap (λ (w : Share). units_of w c.args.self.now.frame) c.weight.ensures.value

pub overflow_add-claim : goal.overflow_add-claim
overflow_add-claim c =
    let a = c.args.self.now in
    let at = goal.at.overflow_add-claim c in
    let part = claimed_part a.frame (values_of c.retain.new.self.entries) c.loop-place.place c.index-member.result.now c.index-member.ensures in
    let kept = ap (claimed a.frame) (left at.After-retain) in
    let fits = product_fits a.processors a.frame c.requires.few_processors c.requires.short_frame in
    omega (arith, part, own c, kept, fits, c.loop-place.invariant.claim, c.requires.least, c.requires.room)

pub loop-place-preserved : goal.loop-place-preserved
loop-place-preserved c =
    let more = claimed_more c.args.self.now.frame (values_of c.retain.new.self.entries) c.loop-place.place c.index-member.result.now c.index-member.ensures in
    record {
      claim = omega (arith, more, own ((goal.at.loop-place-preserved c).After-claim_of-claim), c.loop-place.invariant.claim);
      first = rw (c.earlier-first.ensures, c.freed_at.ensures.value) (first_more c.loop-place.first (values_of c.retain.new.self.entries) c.loop-place.place c.index-member.result.now c.index-member.ensures c.loop-place.invariant.first);
    }

pub returns-clause-same : goal.returns-clause-same
returns-clause-same c = stood _ (ap (present c.args.slot) (left ((goal.at.returns-clause-same c).After-retain)) ∙ filter_again (is_there c.args.slot) (listed c.args.self.now))

pub returns-clause-gone : goal.returns-clause-gone
returns-clause-gone c = subst (NoneFreed c.args.slot) (sym (left ((goal.at.returns-clause-gone c).After-retain))) (none_freed_present c.args.slot (listed c.args.self.now))

pub returns-clause-kept : goal.returns-clause-kept
returns-clause-kept c =
    let a = c.args.self.now in
    let es = c.retain.new.self.entries in
    let end : c.loop-place.place ≡ c.len-place-end.result = omega (arith, c.loop-place-test.false, c.loop-place.auto.place-end) in
    let whole = all_listed es c.loop-place.place (end ∙ c.len-place-end.ensures.len) in
    let claim = c.loop-place.invariant.claim ∙ ap (claimed a.frame) whole in
    let kept = ap (claimed a.frame) (left ((goal.at.returns-clause-kept c).After-retain)) in
    let all = ap (claimed a.frame) (filter_all (values_of es)) in
    record {
      register = register_kept (is_there c.args.slot) a.admitted a.members.entries es a.names.entries c.retain-2.new.self.entries c.requires.register (there ((goal.at.returns-clause-kept c).After-retain)) c.retain.ensures.unique (filter-RetainsPairs _ _ _ (λ k v b w g call. search rules) _ _ c.retain-2.ensures.filtered);
      few_processors = c.requires.few_processors;
      short_frame = c.requires.short_frame;
      room = omega (arith, kept, claim, c.requires.least, c.requires.room);
      total = omega (arith, all, claim);
      first = subst (NoneFreedBefore c.loop-place.first) whole c.loop-place.invariant.first;
    }
