use Rattle.pfair_admission.proofs.Common.{same_Some, Member, is_freed, is_there, listed, ◌≡◌, ℕ, Bool, true, false, cond, Some, None, sym, ap, ◌∙◌, not}
use Rattle.pfair_admission.proofs.Deciding.{only_named, within}
use Rattle.pfair_admission.proofs.ledger.Ledger.place_of.Goals as goal

pub index-requires : goal.index-requires
index-requires c =
    let is = c.in_ok-place.ensures (is_there c.args.slot) c.requires in
    within c.args.self.now.members.entries c.in_ok-place.place is.0 is.1.at

-- whether the member that is found counts
there : (m x : Member) (slot : ℕ) (b : Bool) → m ≡ x → b ≡ is_freed slot x.freed_at → is_there slot m ≡ not b
there m x slot b same is = ap (is_there slot) same ∙ ap not (sym is)

pub returns-then-has_come-clause-none : goal.returns-then-has_come-clause-none
returns-then-has_come-clause-none c =
    let is = c.in_ok-place.ensures (is_there c.args.slot) c.requires in
    let same = same_Some is.0 c.index.result.now (sym is.1.at ∙ c.index.ensures) in
    let come = sym c.if-has_come.true ∙ c.has_come.ensures ∙ ap (is_freed c.args.slot) c.freed_at.ensures.value in
    only_named (is_there c.args.slot) c.args.name.now (listed c.args.self.now) c.in_ok-place.place is.0 is.1
    ∙ ap (λ b. cond b (Some is.0) None) (there is.0 c.index.result.now c.args.slot true same come)

pub returns-clause-some : goal.returns-clause-some
returns-clause-some c =
    let is = c.in_ok-place.ensures (is_there c.args.slot) c.requires in
    let same = same_Some is.0 c.index.result.now (sym is.1.at ∙ c.index.ensures) in
    let come = sym c.if-has_come.false ∙ c.has_come.ensures ∙ ap (is_freed c.args.slot) c.freed_at.ensures.value in
    (is.0, is.1, there is.0 c.index.result.now c.args.slot false same come)
