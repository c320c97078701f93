use Rattle.std.proofs.Common.{OnOk, Result, true≢false}
use Rattle.pfair_ready.proofs.Common.{Content, Queue, HasTurn, IsCovered, heap_items, ◌≡◌, ◌≤◌, ◌⊎◌, inl, inr, refl, sym, ap, ◌∙◌, false, not, cond, ℕ, Option, Ok, Err, is_some}
use Rattle.std.specs.Result.{is_err}
use Rattle.std.specs.FinMap as finmap
use Rattle.pfair_ready.proofs.CalendarLemmas.{HasDate, covered_kept, covered_more, put_back}
use Rattle.pfair_ready.proofs.heap.HeapReadyReady.insert_seated.Goals as goal
use Rattle.pfair_ready.proofs.heap.HeapReadyReady.insert_seated.Goals.{Joined-release-self, else-release-self, then-release-self}

not_err : {A E P : Type 0} (r : Result A E) → is_err r ≡ false → OnOk r P → P
not_err (Ok x) is h = h
not_err (Err e) is h = absurd (true≢false is)

-- the key was put where nothing waited
vacant : (c : Joined-release-self) → finmap.contains_key c.self.inside.waiting c.args.key.name ≡ false
vacant c = c.in_ok-place.ensures.answer ∙ ap (λ (o : Option ℕ). not (is_some o)) c.in-Some.is

put : (c : Joined-release-self) → c.put.new.self ≡ finmap.insert c.self.inside.waiting c.args.key.name (c.args.release, c.args.key)
put c =
    c.in_ok-place.ensures.content
    ∙ ap (λ (o : Option ℕ). cond (is_some o) (finmap.insert c.self.inside.waiting c.args.key.name (c.args.release, c.args.key)) c.self.inside.waiting) c.in-Some.is

-- nothing is lost, and unless an allocation fails the key has its date or its turn
noted : (c : Joined-release-self) → let s = c.if-release-self.self-inside in
    (s.waiting ≡ c.put.new.self) × IsCovered s.now c.self.inside.waiting s.calendar (heap_items s.released)
    × (is_err c.if-release-self.noted ≡ false → HasDate s.calendar c.args.release c.args.key ⊎ ((c.args.release ≤ s.now) × HasTurn (heap_items s.released) c.args.key))
noted c =
    elim c.if-release-self.branch [
      | then-release-self w ↦ rw (w.self-inside-is, w.noted-is) (
        refl,
        covered_kept c.self.inside.now c.self.inside.waiting c.self.inside.calendar c.self.inside.calendar (heap_items c.self.inside.released) (heap_items w.add_turn-noted.new.turns) (record { noted = λ d h. h; turned = refl; order = λ h. h }) w.add_turn-noted.ensures.keeps c.self.invariant,
        λ fine. inr (w.if-release-self.true, not_err w.add_turn-noted.result fine w.add_turn-noted.ensures.there),
      )
      | else-release-self w ↦ rw (w.self-inside-is, w.noted-is) (
        refl,
        covered_kept c.self.inside.now c.self.inside.waiting c.self.inside.calendar w.note-noted.new.self (heap_items c.self.inside.released) (heap_items c.self.inside.released) w.note-noted.ensures.keeps (record { kept = λ t h. h; sound = λ h. h }) c.self.invariant,
        λ fine. inl (c.in-Some.place, not_err w.note-noted.result fine w.note-noted.ensures.there),
      )
    ]

-- if an allocation fails what waits is as it was
back : (c : Joined-release-self) (after : Queue) → after ≡ finmap.remove c.if-release-self.self-inside.waiting c.args.key.name → after ≡ c.self.inside.waiting
back c after removed =
    removed
    ∙ ap (λ (h : Queue). finmap.remove h c.args.key.name) ((noted c).0 ∙ put c)
    ∙ put_back c.self.inside.waiting c.args.key.name (c.args.release, c.args.key) (vacant c)

pub invariant_of-self-then-is_err : goal.invariant_of-self-then-is_err
invariant_of-self-then-is_err c =
    let joined = (goal.at.invariant_of-self-then-is_err c).Joined-release-self in
    rw (back joined c.remove.new.self c.remove.ensures.content) ((noted joined).1)

pub returns-then-is_err-clause-err : goal.returns-then-is_err-clause-err
returns-then-is_err-clause-err c = back ((goal.at.returns-then-is_err-clause-err c).Joined-release-self) c.remove.new.self c.remove.ensures.content ∙ ap (λ (v : Content). v.held) c.self.view_is

pub invariant_of-self-else-is_err : goal.invariant_of-self-else-is_err
invariant_of-self-else-is_err c =
    let s = c.if-release-self.self-inside in
    let joined = (goal.at.invariant_of-self-else-is_err c).Joined-release-self in
    let all = noted joined in
    rw (all.0 ∙ put joined)
    (covered_more s.now c.args.release c.args.key c.self.inside.waiting s.calendar (heap_items s.released) (all.2 (sym c.is_err.ensures.value ∙ c.if-is_err.false)) all.1)
