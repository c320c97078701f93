use Rattle.pfair_desk.proofs.Common.{Replica, Below, join, replica_of, AllNoted, arith, ◌≡◌, ap, sym, refl, ◌∙◌, subst, inl, Ok, Result, Err, OnOk, OnErr, IsPartlyMerged}
use Rattle.pfair_desk.proofs.NotedLemmas.{all_noted_more, join_noted, below_noted, noted_whole, kept_noted, in_order_met, holds_more}
use Rattle.pfair_desk.proofs.desk.Desk.meet.Goals.{After-merge}
use Rattle.pfair_desk.proofs.desk.Desk.meet.Goals as goal

-- the notes know of all that the two hold
join_known : (c : After-merge) → AllNoted (join (replica_of c.self.inside.replica) (replica_of c.other.inside.replica)) c.share.new.self.known
join_known c =
    let row : c.self.inside.replica.capacity ≡ c.other.inside.replica.capacity = ap (λ d. d.replica.capacity) c.self.view_is ∙ (c.requires.own.capacity ∙ sym (ap (λ d. d.replica.capacity) c.other.view_is)) in
    join_noted (replica_of c.self.inside.replica) (replica_of c.other.inside.replica) c.share.new.self.known row
    (all_noted_more (replica_of c.self.inside.replica) c.self.inside.notes.known c.share.new.self.known c.share.ensures.mine.grows c.self.invariant.noted)
    (all_noted_more (replica_of c.other.inside.replica) c.other.inside.notes.known c.share.new.self.known c.share.ensures.theirs c.other.invariant.noted)

-- however much of the other is merged in, no more is
merged_within : {A E : Type 0} (r : Result A E) (x y z : Replica) → OnOk r (z ≡ join x y) → OnErr r (IsPartlyMerged x y z) → Below z (join x y)
merged_within (Ok a) x y z is part = subst (λ (w : Replica). Below w (join x y)) (sym is) (λ k n f h. inl h)
merged_within (Err e) x y z is part = part.within

now_known : (c : After-merge) → AllNoted (replica_of c.merge.new.self) c.share.new.self.known
now_known c = below_noted (replica_of c.merge.new.self) (join (replica_of c.self.inside.replica) (replica_of c.other.inside.replica)) c.share.new.self.known (sym c.merge.ensures.shape.1)
    (merged_within c.merge.result (replica_of c.self.inside.replica) (replica_of c.other.inside.replica) (replica_of c.merge.new.self) c.merge.ensures.merged c.merge.ensures.partly) (join_known c)

pub invariant_of-self : goal.invariant_of-self
invariant_of-self c = in_order_met c.self.inside.processor c.self.inside.next_number (replica_of c.self.inside.replica) (replica_of c.merge.new.self) c.self.inside.notes c.share.new.self c.self.invariant c.share.ensures.mine c.merge.ensures.shape (now_known (goal.at.invariant_of-self c).After-merge)

pub returns-clause-agree : goal.returns-clause-agree
returns-clause-agree c = rw (← c.self.view_is, ← c.other.view_is) (noted_whole (join (replica_of c.self.inside.replica) (replica_of c.other.inside.replica)) c.share.new.self.known (join_known (goal.at.returns-clause-agree c).After-merge))

pub returns-clause-kept : goal.returns-clause-kept
returns-clause-kept c = rw (← c.self.view_is) (record {
  processor = refl;
  cells = c.share.ensures.mine.cells;
  processors = sym c.merge.ensures.shape.0;
  capacity = sym c.merge.ensures.shape.1;
  kept = kept_noted (replica_of c.self.inside.replica) (replica_of c.merge.new.self) c.share.new.self.known c.merge.ensures.grows (now_known (goal.at.returns-clause-kept c).After-merge);
})

pub returns-clause-lacking : goal.returns-clause-lacking
returns-clause-lacking c = grind (arith, holds_more)
