use Rattle.pfair_state.proofs.Common.{text_so_far, state_text, Carried, lines_text, fields_of, said_of, ℕ, map, ◌≡◌, ◌++◌, ◌∙◌, rules, sym, ap, List, []}
use Rattle.pfair_state.proofs.MembersRead.{other_name}
use Rattle.pfair_state.proofs.StateRead.{rows_say, memory}
use Rattle.pfair_state.proofs.read.read_state.Goals as goal

-- a state's text is that of the rows that say it
text_says : (text : List ℕ) (c : Carried) → text ≡ state_text c → text ≡ lines_text (map fields_of (said_of c))
text_says text c is = is ∙ ap lines_text (sym (rows_say c))

-- a text that is what a writer wrote behind nothing
written : (text own so_far before whole : List ℕ) → own ≡ text → own ≡ so_far → so_far ≡ before ++ whole → before ≡ [] → text ≡ whole
written text own so_far before whole same is grown began = sym same ∙ is ∙ grown ∙ ap (λ b. b ++ whole) began

pub returns-clause-text : goal.returns-clause-text
returns-clause-text c =
    written c.args.text.now c.in_ok-own.own.items (text_so_far c.add_state.new.writer) (text_so_far c.new_text-writer.result) (state_text c.in_ok-state.state)
    (let other = c.ne.ensures in let is = c.if-ne.false in let seen = c.as_slice.ensures.value in search (rules, other, is, seen)) c.in_ok-own.ensures c.in_ok-add_state.ensures.text c.new_text-writer.ensures.text

pub returns-in_err-rows-clause-back : goal.returns-in_err-rows-clause-back
returns-in_err-rows-clause-back c all can is =
    memory (λ (state : Carried). state ≡ all) c.from_residual.result c.in_err-rows.field-0.0 (let gave = c.from_residual.ensures in search (rules, gave)) (c.in_err-rows.ensures (said_of all) can.spelled (text_says c.args.text.now all is))

pub returns-in_err-state-clause-back : goal.returns-in_err-state-clause-back
returns-in_err-state-clause-back c all can is =
    let rows = c.deref.ensures.value ∙ c.in_ok-rows.ensures (said_of all) can.spelled (text_says c.args.text.now all is) in
    memory (λ (state : Carried). state ≡ all) c.from_residual-in_err-state.result c.in_err-state.field-0.0 (let gave = c.from_residual-in_err-state.ensures in search (rules, gave)) (c.in_err-state.ensures all can rows)

pub returns-then-ne-clause-back : goal.returns-then-ne-clause-back
returns-then-ne-clause-back c all can is =
    let rows = c.deref.ensures.value ∙ c.in_ok-rows.ensures (said_of all) can.spelled (text_says c.args.text.now all is) in
    let state = c.in_ok-state.ensures all can rows in
    let own = c.as_slice.ensures.value ∙ c.in_ok-own.ensures ∙ c.in_ok-add_state.ensures.text ∙ ap (λ before. before ++ state_text c.in_ok-state.state) c.new_text-writer.ensures.text ∙ ap state_text state ∙ sym is in
    absurd (other_name c.args.text.now c.as_slice.result.now c.ne.result c.ne.ensures c.if-ne.true own)

pub returns-clause-back : goal.returns-clause-back
returns-clause-back c all can is =
    c.in_ok-state.ensures all can (c.deref.ensures.value ∙ c.in_ok-rows.ensures (said_of all) can.spelled (text_says c.args.text.now all is))
