use Rattle.pfair_admission.proofs.Common.{lookup, nat_tests, name_eq, listed, IsFound, ◌≡◌, ℕ, Some, None, arith, rules, sym, ap, subst, ◌∙◌, nat_eq, slice_get}
use Rattle.pfair_admission.proofs.Registers.{found_at, found_none, found_some, parts_at, values_at}
use Rattle.pfair_admission.proofs.ledger.Ledger.find.Goals as goal

pub returns-in_err-hint : goal.returns-in_err-hint
returns-in_err-hint c counts r =
    let a = c.args.self.now in
    let none : lookup (name_eq c.args.name.now) a.names.entries ≡ None = search rules in
    subst (IsFound counts c.args.name.now (listed a)) (sym c.from_residual.ensures) (found_none counts a.admitted a.members.entries a.names.entries c.args.name.now r none)

pub returns-in-Some : goal.returns-in-Some
returns-in-Some c counts r =
    let a = c.args.self.now in
    let number : ℕ = c.in_ok-hint.number.now in
    let hint : ℕ = c.in_ok-hint.hint in
    let leads : lookup (name_eq c.args.name.now) a.names.entries ≡ Some number = search rules in
    let same : c.in-Some.there.now ≡ number = grind (arith, nat_tests, c.if-there-number.true) in
    let at : slice_get a.members.entries hint ≡ Some (c.in-Some.there.now, c.in-Some.field-0-1.now) = search rules in
    let value : lookup (nat_eq c.in-Some.there.now) a.members.entries ≡ Some c.in-Some.field-0-1.now = search rules in
    let parts = parts_at a.members.entries hint (c.in-Some.there.now, c.in-Some.field-0-1.now) at in
    found_at counts a.admitted a.members.entries a.names.entries c.args.name.now number hint r leads (parts.0 ∙ ap (λ (n : ℕ). Some n) same)
    (parts.1 ∙ sym (ap (λ (n : ℕ). lookup (nat_eq n) a.members.entries) (sym same) ∙ value))

pub returns-in_default : goal.returns-in_default
returns-in_default c counts r =
    let a = c.args.self.now in
    let leads : lookup (name_eq c.args.name.now) a.names.entries ≡ Some c.in_ok-hint.number.now = search rules in
    found_some counts a.admitted a.members.entries a.names.entries c.args.name.now c.in_ok-hint.number.now c.get_index_of.result r leads
    c.get_index_of.ensures.index (values_at a.members.entries c.in_ok-hint.number.now c.get_index_of.result c.get_index_of.ensures.value) c.get_index_of.ensures.found
