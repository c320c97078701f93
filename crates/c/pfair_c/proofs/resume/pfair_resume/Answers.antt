use Rattle.pfair_c.proofs.Common.{ℕ, ◌≡◌, ◌≤◌, length, ◌∙◌, true≢false, false, List, Some, ap, arith, rules, sym, subst, refl, same_Some, Dispatch, is_kept, LONGEST_FILE, None, Result, Ok, Kept}
use Rattle.std.specs.Result.{result_ok}
use Rattle.std.specs.declared.alloc.AllocError.{AllocError}
use Rattle.pfair_handle.specs.Behind.{Of}
use Rattle.pfair_c.specs.declared.answer.TheConstants.{DONE, MEMORY}
use Rattle.pfair_c.specs.declared.resume.PfairStateFault.{PfairStateFault}
use Rattle.pfair_c.specs.State.{IsResumeAnswer, IsResumedFrom, IsRunnable}
use Rattle.pfair_c.proofs.resume.pfair_resume.Goals as goal

none_kept : (k : Kept) → is_kept k ≡ false → k ≡ None
none_kept None e = refl
none_kept (Some x) e = absurd (true≢false e)

-- the dispatcher is put behind the handle, or an allocation failed
put_resumed : (bytes : List ℕ) (slots capacity : ℕ) (row : PfairStateFault) → IsRunnable slots capacity → length bytes ≤ LONGEST_FILE
    → (before after : Kept) (answer : ℕ) (d : Dispatch) → is_kept before ≡ false → IsResumedFrom bytes slots capacity d
    → (answer ≡ DONE → (e : Dispatch) × (◌≡◌ {A = Result Dispatch AllocError} (Ok d) (Ok e)) × (after ≡ Some (record { dispatcher = e })))
    → ((answer ≡ DONE → ⊥) → (answer ≡ MEMORY) × (after ≡ None))
    → IsResumeAnswer bytes slots capacity before after answer row row
put_resumed bytes slots capacity row runnable short before after answer d closed from done only = record {
  already = λ there. absurd (true≢false (sym there ∙ closed));
  out_of_range = λ e none. absurd (none runnable);
  too_long = λ e r long. absurd (omega (arith, long, short));
  begun = λ e r s. record {
    resumed = λ is.
        let there = done is in
        let same : d ≡ there.0 = same_Some d there.0 (ap result_ok there.1) in
        subst (λ (k : Kept). Of k (IsResumedFrom bytes slots capacity)) (sym there.2) (subst (IsResumedFrom bytes slots capacity) same from);
    late = λ is. absurd (let memory = (only (λ one. omega (arith, is, one))).0 in omega (arith, is, memory));
    refused = λ d l m. absurd (m (only d).0);
  };
  unchanged = λ n. (only n).1 ∙ sym (none_kept before closed);
  unread = λ n. refl;
}

pub returns-in-Ok-resume : goal.returns-in-Ok-resume
returns-in-Ok-resume c =
    let closed : is_kept c.args.handle.now.owner.kept ≡ false = sym c.is_open.ensures ∙ c.if-is_open.false in
    let runnable : IsRunnable c.args.slots c.args.capacity =
    (omega (arith, c.if-slots-lt1.false), omega (arith, c.if-slots-gt-MAX_SLOTS.false), omega (arith, c.if-capacity-lt1.false), omega (arith, c.if-capacity-gt-LONGEST_LOG.false)) in
    let short : length c.args.bytes.now ≤ LONGEST_FILE = search (rules, arith) in
    let resumed = c.in-Ok-resume.ensures in
    put_resumed c.args.bytes.now c.args.slots c.args.capacity c.args.fault.now runnable short c.args.handle.now.owner.kept c.put_new.new.handle.owner.kept c.put_new.result c.in-Ok-resume.dispatcher closed
    (record { state = c.in-Ok.state; writable = c.in-Ok.ensures.writable; text = c.in-Ok.ensures.text; settings = resumed.settings; course = resumed.course; whole = (resumed.unforgotten, resumed.spent) })
    c.put_new.ensures.done c.put_new.ensures.only
