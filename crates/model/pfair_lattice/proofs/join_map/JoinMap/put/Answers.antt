use Rattle.std.proofs.Common.{rules, sym, ◌∙◌, ap, refl, subst, Some, IsSome}
use Rattle.std.proofs.lemmas.Result.{on_ok_weaker, on_err_weaker}
use Rattle.pfair_lattice.specs.Laws.{exact_cmp}
use Rattle.pfair_lattice.specs.Entries.{get}
use Rattle.pfair_lattice.proofs.SoFar.{joins_put, partly_put, partly_unchanged, absent, present, present_partly}
use Rattle.pfair_lattice.proofs.join_map.JoinMap.put.Goals as goal

pub returns-in-Some-clause-joined : goal.returns-in-Some-clause-joined
returns-in-Some-clause-joined g c =
    let x = exact_cmp g.K.PartialEq.eq g.K.Ord.cmp g.met.K.Exact.exact g.met.K.Ord.matches_eq in
    let h = c.get_mut.follows.holds c.join.new.self in
    let found : IsSome (get g.K.Ord.cmp c.self.inside.map.entries c.args.key) = subst IsSome c.in-Some.ensures.value refl in
    let u = h.3 found in
    on_ok_weaker c.join.result (λ j. rw (← c.self.view_is) (joins_put g.met.K.Ord.total x (record { order = g.met.V.Join.order; least = g.met.V.Join.least })
    c.self.inside.map.entries (c.get_mut.follows.lender c.join.new.self).entries c.args.key c.args.value.now
    c.get_mut.ensures.ordered h.4
    (present g.V.Join.joins (get g.K.Ord.cmp c.self.inside.map.entries c.args.key) (get g.K.Ord.cmp (c.get_mut.follows.lender c.join.new.self).entries c.args.key) c.in-Some.held.now c.args.value.now c.join.new.self (sym c.in-Some.ensures.value) u.1 j)
    u.2)) c.join.ensures.joined

pub returns-in-Some-clause-partly : goal.returns-in-Some-clause-partly
returns-in-Some-clause-partly g c =
    let x = exact_cmp g.K.PartialEq.eq g.K.Ord.cmp g.met.K.Exact.exact g.met.K.Ord.matches_eq in
    let h = c.get_mut.follows.holds c.join.new.self in
    let found : IsSome (get g.K.Ord.cmp c.self.inside.map.entries c.args.key) = subst IsSome c.in-Some.ensures.value refl in
    let u = h.3 found in
    on_err_weaker c.join.result (λ j. rw (← c.self.view_is) (partly_put g.met.K.Ord.total x (record { order = g.met.V.Join.order; least = g.met.V.Join.least })
    c.self.inside.map.entries (c.get_mut.follows.lender c.join.new.self).entries c.args.key c.args.value.now
    c.get_mut.ensures.ordered h.4
    (present_partly g.V.Join.joins g.V.Join.partly (get g.K.Ord.cmp c.self.inside.map.entries c.args.key) (get g.K.Ord.cmp (c.get_mut.follows.lender c.join.new.self).entries c.args.key) c.in-Some.held.now c.args.value.now c.join.new.self (sym c.in-Some.ensures.value) u.1 j)
    u.2)) c.join.ensures.partly

pub returns-in_ok-insert-in-None-clause-joined : goal.returns-in_ok-insert-in-None-clause-joined
returns-in_ok-insert-in-None-clause-joined g c =
    let x = exact_cmp g.K.PartialEq.eq g.K.Ord.cmp g.met.K.Exact.exact g.met.K.Ord.matches_eq in
    let u = c.in_ok-insert-in-None.ensures.updates in
    rw (← c.self.view_is) (joins_put g.met.K.Ord.total x (record { order = g.met.V.Join.order; least = g.met.V.Join.least })
    c.self.inside.map.entries c.insert.new.self.entries c.args.key c.args.value.now
    c.get_mut.ensures.ordered c.insert.ensures.ordered
    (absent g.V.Join.joins (get g.K.Ord.cmp c.self.inside.map.entries c.args.key) (get g.K.Ord.cmp c.insert.new.self.entries c.args.key) c.args.value.now (sym c.in-None.ensures.value) (u.1 ∙ ap Some c.in_ok-copy-in-None.ensures.equal))
    (λ q n. u.2 q n ∙ ap (λ m. get g.K.Ord.cmp m.entries q) c.get_mut.follows.holds-at-none))

pub returns-in_err-copy-in-None-clause-partly : goal.returns-in_err-copy-in-None-clause-partly
returns-in_err-copy-in-None-clause-partly g c =
    let x = exact_cmp g.K.PartialEq.eq g.K.Ord.cmp g.met.K.Exact.exact g.met.K.Ord.matches_eq in
    let p = rw c.self.view_is at (partly_unchanged g.met.K.Ord.total x (record { order = g.met.V.Join.order; least = g.met.V.Join.least }) {partly = g.V.Join.partly}
    c.self.inside.map.entries c.get_mut.follows.lender-at-none.entries c.args.key c.args.value.now c.get_mut.ensures.ordered (ap (λ m. m.entries) c.get_mut.follows.holds-at-none)) in
    search rules

pub returns-in_err-insert-in-None-clause-partly : goal.returns-in_err-insert-in-None-clause-partly
returns-in_err-insert-in-None-clause-partly g c =
    let x = exact_cmp g.K.PartialEq.eq g.K.Ord.cmp g.met.K.Exact.exact g.met.K.Ord.matches_eq in
    let p = rw c.self.view_is at (partly_unchanged g.met.K.Ord.total x (record { order = g.met.V.Join.order; least = g.met.V.Join.least }) {partly = g.V.Join.partly}
    c.self.inside.map.entries c.insert.new.self.entries c.args.key c.args.value.now c.get_mut.ensures.ordered (c.in_err-insert-in-None.ensures.err ∙ ap (λ m. m.entries) c.get_mut.follows.holds-at-none)) in
    search rules
