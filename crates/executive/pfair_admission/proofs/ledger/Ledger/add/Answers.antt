use Rattle.pfair_admission.proofs.Common.{lookup, insert_entry, insert_entry-new, name_eq, Member, member_in, listed, Numbered, ◌≡◌, List, ◌++◌, ◌∷◌, [], Result, Ok, Err, OnOk, Some, cond, length, length-append, ap, ◌∙◌, arith, nat_eq}
use Rattle.pfair_admission.proofs.Deciding.{stood}
use Rattle.pfair_admission.proofs.Registers.{ledger_joined, values_pushed, fresh}
use Rattle.pfair_admission.proofs.ledger.Ledger.add.Goals as goal
use Rattle.pfair_admission.proofs.ledger.Ledger.add.Goals.{After-claim_of}

on_ok : {A E P : Type 0} (r : Result A E) (x : A) → r ≡ Ok x → OnOk r P → P
on_ok (Ok y) x is h = h
on_ok (Err e) x is h = absurd (cc)

made : (c : After-claim_of) → c.insert.new.self.entries ≡ c.args.self.now.members.entries ++ (c.args.self.now.admitted, member_in c.args.state) ∷ []
made c =
    let a = c.args.self.now in
    on_ok c.insert.result c.unwrap.result c.unwrap.ensures c.insert.ensures.entries
    ∙ insert_entry-new nat_eq c.reserve.new.self a.admitted c.in_ok-member.member (ap (lookup (nat_eq a.admitted)) c.reserve.ensures.entries ∙ fresh a.admitted a.members.entries c.requires.room.1.kept.register.numbered)
    ∙ ap (λ (es : Numbered). es ++ (a.admitted, c.in_ok-member.member) ∷ []) c.reserve.ensures.entries
    ∙ ap (λ (m : Member). a.members.entries ++ (a.admitted, m) ∷ []) c.in_ok-member.ensures

pub returns : goal.returns
returns c =
    let a = c.args.self.now in
    let m = member_in c.args.state in
    let at = made ((goal.at.returns c).After-claim_of) in
    let values = values_pushed a.members.entries c.insert.new.self.entries a.admitted m at in
    let names = c.reserve-2.ensures.entries in
    record {
      members = stood _ values;
      err = tt;
      kept = λ counts can.
          rw (c.earlier-self.ensures, c.claim_of.ensures.value)
          (ledger_joined counts a (record a { members = c.insert.new.self; names = c.insert-2.new.self }) m can at c.insert.ensures.unique
          (on_ok c.insert-2.result c.unwrap-self.result c.unwrap-self.ensures c.insert-2.ensures.entries ∙ (λ i. insert_entry name_eq (names i) m.name a.admitted))
          (λ q. (on_ok c.insert-2.result c.unwrap-self.result c.unwrap-self.ensures c.insert-2.ensures.updates).0 q ∙ (λ i. cond (name_eq m.name q) (Some a.admitted) (lookup (name_eq q) (names i)))));
      numbers = (let more = ap (λ (l : List Member). length l) values in omega (arith, more, length-append (listed a) (m ∷ [])));
      admitted = omega arith;
    }
