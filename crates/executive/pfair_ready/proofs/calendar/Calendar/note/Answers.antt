use Rattle.pfair_ready.proofs.Common.{slice_get_read, Contains-append_left, Contains-append_right, Calendar, Date, IsHeap, Reverse, heap_items, in_bucket, later_cmp, ◌≡◌, ◌∷◌, [], inl, inr, refl, sym, ap, subst, ◌∙◌, List, length, arith, Contains, with_item}
use Rattle.pfair_ready.proofs.CalendarLemmas.{pushed_more, pushed_top, near_there, keeps_far, keeps_near}
use Rattle.pfair_ready.proofs.calendar.Calendar.note.Goals as goal

pub returns-in_err-push-in-Some-clause-keeps : goal.returns-in_err-push-in-Some-clause-keeps
returns-in_err-push-in-Some-clause-keeps c =
    let made : Calendar = c.make_near.new.self in
    let here = ap in_bucket (slice_get_read made.near.items (length made.near.items) c.in-Some.bucket c.index_mut.result.now refl c.in-Some.ensures.near.1 c.index_mut.ensures.value) in
    keeps_near c.args.self.now made (record { turned = made.turned; near = with_item made.near c.in-Some.bucket c.push.new.self; far = made.far }) c.in-Some.bucket c.push.new.self c.make_near.ensures.keeps
    (λ d h. subst (λ (l : List Date). Contains l d) (here ∙ sym c.in_err-push-in-Some.ensures.items) h) refl refl refl

pub returns-in_ok-push-in-Some-clause-keeps : goal.returns-in_ok-push-in-Some-clause-keeps
returns-in_ok-push-in-Some-clause-keeps c =
    let made : Calendar = c.make_near.new.self in
    let here = ap in_bucket (slice_get_read made.near.items (length made.near.items) c.in-Some.bucket c.index_mut.result.now refl c.in-Some.ensures.near.1 c.index_mut.ensures.value) in
    keeps_near c.args.self.now made (record { turned = made.turned; near = with_item made.near c.in-Some.bucket c.push.new.self; far = made.far }) c.in-Some.bucket c.push.new.self c.make_near.ensures.keeps
    (λ d h. subst (λ (l : List Date). Contains l d) (sym c.in_ok-push-in-Some.ensures.items) (Contains-append_left c.index_mut.result.now.items (c.args.date ∷ []) d (subst (λ (l : List Date). Contains l d) here h))) refl refl refl

pub returns-in_ok-push-in-Some-clause-there : goal.returns-in_ok-push-in-Some-clause-there
returns-in_ok-push-in-Some-clause-there c =
    let made : Calendar = c.make_near.new.self in
    let near = c.in-Some.ensures.near in
    inl (near_there made.turned made.near.items c.in-Some.bucket c.push.new.self c.args.date near.0 near.1 near.2 near.3
    (subst (λ (l : List Date). Contains l c.args.date) (sym c.in_ok-push-in-Some.ensures.items) (Contains-append_right c.index_mut.result.now.items (c.args.date ∷ []) c.args.date (0, omega (arith), refl))))

pub returns-in_err-push-in-None-clause-keeps : goal.returns-in_err-push-in-None-clause-keeps
returns-in_err-push-in-None-clause-keeps c =
    let same : heap_items c.push-in-None.new.self ≡ heap_items c.make_near.new.self.far = c.in_err-push-in-None.ensures.unchanged.0 in
    keeps_far c.args.self.now c.make_near.new.self (record { turned = c.make_near.new.self.turned; near = c.make_near.new.self.near; far = c.push-in-None.new.self }) c.make_near.ensures.keeps
    (λ x h. subst (λ (l : List (Reverse Date)). Contains l x) (sym same) h) (subst (IsHeap later_cmp) (sym same)) refl refl

pub returns-in_ok-push-in-None-clause-keeps : goal.returns-in_ok-push-in-None-clause-keeps
returns-in_ok-push-in-None-clause-keeps c =
    keeps_far c.args.self.now c.make_near.new.self (record { turned = c.make_near.new.self.turned; near = c.make_near.new.self.near; far = c.push-in-None.new.self }) c.make_near.ensures.keeps
    (λ x h. pushed_more (record { 0 = c.args.date }) x _ (heap_items c.push-in-None.new.self) c.in_ok-push-in-None.ensures.permutation h) c.in_ok-push-in-None.ensures.heap_order refl refl

pub returns-in_ok-push-in-None-clause-there : goal.returns-in_ok-push-in-None-clause-there
returns-in_ok-push-in-None-clause-there c = inr (pushed_top (record { 0 = c.args.date }) (heap_items c.make_near.new.self.far) (heap_items c.push-in-None.new.self) c.in_ok-push-in-None.ensures.permutation)
