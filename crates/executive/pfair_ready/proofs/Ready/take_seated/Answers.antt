use Rattle.pfair_ready.proofs.Common.{length-map, length-take, take_all, take_more, Key, pd2_cmp, first_by_rank, keys_total, first_within, Queue, released, without, ◌≡◌, ◌≤◌, ◌∷◌, ◌++◌, [], OnErr, Ok, Err, List, length, map, refl, take, sym, ap, ◌∙◌, arith, by_rank_first}
use Rattle.pfair_ready.proofs.Taking.{without_none, one_more}
use Rattle.pfair_ready.proofs.Ready.take_seated.Given.{Over}
use Rattle.pfair_ready.proofs.Ready.take_seated.Goals as goal
use Rattle.pfair_ready.proofs.Ready.take_seated.Goals.{In_ok-take_first, After-deref-key-items}

-- the selection of no key takes none
same : (g : Over) (c : In_ok-take_first g) → g.Self.Ready.held c.take_first.new.self ≡ g.Self.Ready.held c.args.self.now
same g c =
    c.in_ok-take_first.ensures.removed ∙ ap (λ (keys : List Key). without keys (g.Self.Ready.held c.args.self.now)) c.in_ok-take_first.ensures.first
    ∙ without_none (g.Self.Ready.held c.args.self.now)

pub returns-in_err-reserve-clause-err : goal.returns-in_err-reserve-clause-err
returns-in_err-reserve-clause-err g c once = elim c.from_residual-in_err-reserve.result as (λ r. OnErr r (g.Self.Ready.held c.take_first.new.self ≡ g.Self.Ready.held c.args.self.now)) [
  | Ok x ↦ tt
  | Err e ↦ same g ((goal.at.returns-in_err-reserve-clause-err g c).In_ok-take_first)
]

pub returns-in_err-keys-clause-err : goal.returns-in_err-keys-clause-err
returns-in_err-keys-clause-err g c once = elim c.from_residual-in_err-keys.result as (λ r. OnErr r (g.Self.Ready.held c.take_first-2.new.self ≡ g.Self.Ready.held c.args.self.now)) [
  | Ok x ↦ tt
  | Err e ↦ c.in_err-keys.ensures.err ∙ same g ((goal.at.returns-in_err-keys-clause-err g c).In_ok-take_first)
]

pub loop-key-init : goal.loop-key-init
loop-key-init g c = (ap (map (λ s. s.key)) (c.in_ok-reserve.ensures.items ∙ c.clear.ensures.items), omega (arith, c.in_ok-reserve.ensures.ok))

pub loop-key-preserved : goal.loop-key-preserved
loop-key-preserved g c = (
  one_more (λ s. s.key) c.loop-key.first.items c.push.new.self.items (record { key = c.key-item.result; seats = c.default-seats.result }) c.key-item.result c.in_ok-push.ensures.items refl
      ∙ ap (λ (l : List Key). l ++ c.key-item.result ∷ []) c.loop-key.invariant.0
      ∙ ap (λ (k : Key). take c.loop-key.key-index c.deref-key-items.result.now ++ k ∷ []) c.key-item.is
      ∙ sym (take_more c.deref-key-items.result.now c.loop-key.key-index c.key-item.result c.loop-key-test.true),
  omega (arith, c.in_ok-push.ensures.capacity, c.loop-key.invariant.1),
)

-- the keys that are taken
taken : (g : Over) (c : After-deref-key-items g) → g.Self.Ready.held c.take_first.new.self ≡ g.Self.Ready.held c.args.self.now → c.deref-key-items.result.now ≡ first_by_rank pd2_cmp c.args.m (released c.args.slot (g.Self.Ready.held c.args.self.now))
taken g c unchanged =
    c.deref-key-items.ensures.value ∙ c.in_ok-keys.ensures.first
    ∙ ap (λ (held : Queue). first_by_rank pd2_cmp c.args.m (released c.args.slot held)) unchanged

pub returns-in_err-push-clause-err : goal.returns-in_err-push-clause-err
returns-in_err-push-clause-err g c once =
    let at = goal.at.returns-in_err-push-clause-err g c in
    let all : List Key = released c.args.slot (g.Self.Ready.held c.args.self.now) in
    let within : length (first_by_rank pd2_cmp c.args.m all) ≤ c.args.m = first_within keys_total c.args.m all (first_by_rank pd2_cmp c.args.m all) (by_rank_first keys_total c.args.m all once) in
    let few : length c.deref-key-items.result.now ≤ c.args.m = rw (taken g at.After-deref-key-items (same g at.In_ok-take_first)) within in
    let so_far : length c.loop-key.first.items ≡ length (take c.loop-key.key-index c.deref-key-items.result.now) = sym (length-map c.loop-key.first.items (λ s. s.key)) ∙ ap length c.loop-key.invariant.0 in
    absurd (omega (arith, few, so_far, length-take c.loop-key.key-index c.deref-key-items.result.now, c.in_err-push.ensures.full, c.loop-key.invariant.1))

pub returns-clause-first : goal.returns-clause-first
returns-clause-first g c =
    let at = goal.at.returns-clause-first g c in
    c.loop-key.invariant.0 ∙ take_all c.loop-key.key-index c.deref-key-items.result.now c.loop-key-test.false ∙ taken g at.After-deref-key-items (same g at.In_ok-take_first)

pub returns-clause-removed : goal.returns-clause-removed
returns-clause-removed g c =
    let given = c.loop-key.invariant.0 ∙ take_all c.loop-key.key-index c.deref-key-items.result.now c.loop-key-test.false ∙ c.deref-key-items.ensures.value in
    c.in_ok-keys.ensures.removed
    ∙ ap (λ (keys : List Key). without keys (g.Self.Ready.held c.take_first.new.self)) (sym given)
    ∙ ap (without (map (λ s. s.key) c.loop-key.first.items)) (same g ((goal.at.returns-clause-removed g c).In_ok-take_first))
