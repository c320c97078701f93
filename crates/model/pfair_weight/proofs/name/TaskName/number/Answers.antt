use Rattle.pfair_weight.proofs.Common.{w128, from_be_bytes, slice_cmp, nat_cmp, IsTaskName, NameValue, ◌≡◌, ◌∙◌, ap, subst}
use Rattle.pfair_weight.specs.Name.{name_of, number_of}
use Rattle.pfair_weight.proofs.ByteOrder.{is_number, name_back, numbers_order}
use Rattle.pfair_weight.proofs.name.TaskName.number.Goals as goal
use Rattle.pfair_weight.proofs.name.TaskName.number.Goals.{After-from_be_bytes}

named : (c : After-from_be_bytes) → IsTaskName c.args.self.now
named c = subst IsTaskName c.self.view_is c.self.invariant.named

number : (c : After-from_be_bytes) → c.from_be_bytes.result ≡ number_of c.args.self.now
unfolding number_of
number c = c.from_be_bytes.ensures ∙ ap (from_be_bytes w128) c.self.invariant.padded_with_zeros ∙ ap number_of c.self.view_is

pub returns-clause-number : goal.returns-clause-number
returns-clause-number c = rw (number c) (is_number c.args.self.now (named c))

pub returns-clause-name : goal.returns-clause-name
returns-clause-name c = ap name_of (number c) ∙ name_back c.args.self.now (named c)

pub returns-clause-order : goal.returns-clause-order
returns-clause-order c n h =
    numbers_order c.from_be_bytes.result n (returns-clause-number ((goal.at.returns-clause-order c).After-from_be_bytes)) h
    ∙ ap (λ (name : NameValue). slice_cmp nat_cmp name (name_of n)) (returns-clause-name ((goal.at.returns-clause-order c).After-from_be_bytes))
