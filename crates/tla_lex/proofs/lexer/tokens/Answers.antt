use Rattle.std.proofs.Common.{inl, sym, ◌∙◌, length}
use Rattle.tla_lex.specs.Module.{body}
use Rattle.tla_lex.specs.Reads.{InOrder}
use Rattle.tla_lex.specs.Tokens.{AreTokens, IsFirstFault}
use Rattle.tla_lex.specs.declared.error.LexCode.TheVariants.{NoHeader}
use Rattle.tla_lex.specs.declared.lexeme.Source.TheVariants.{Module}
use Rattle.tla_lex.specs.declared.scan.Stop.TheVariants.{End, Fault}
use Rattle.tla_lex.proofs.Module.{fault_means_none, fault_placed, fault_of_no_header, fault_of_body, fault_of_no_line, tokens_once, place_of_end, reads_of_body, same_body, found_tokens, first_fault}
use Rattle.tla_lex.proofs.lexer.tokens.Goals as goal
use Rattle.tla_lex.proofs.lexer.tokens.Goals.{After-drop-tokens}

pub returns-in_default-clause-fault : goal.returns-in_default-clause-fault
returns-in_default-clause-fault c = inl (fault_of_no_header c.args.text.now c.at.result c.in_ok-check_utf8.ensures.ok (sym c.header_end.ensures.value ∙ c.in_default.is) (c.at.ensures ∙ first_fault c.args.text.now NoHeader))

pub closing_line-requires-clause-place : goal.closing_line-requires-clause-place
closing_line-requires-clause-place c =
    let b = same_body c.args.text.now c.body_before.result.now c.in-Some.from c.closing-line.result c.closing-line.ensures.value c.body_before.ensures in
    place_of_end c.args.text.now c.body_before.result.now c.in-Some.from c.in-End-Some.to c.in-End-Some.place _ b (sym c.closing-line.ensures.value ∙ c.in-End-Some.is-1)
    (rw c.in-End-Some.is-1 at c.closing-line.ensures.within) c.in-End-Some.is-0 c.in_ok-tokens.ensures.end

fault_in_body : (c : After-drop-tokens) → IsFirstFault c.args.text.now c.in-Fault-default.error
fault_in_body c =
    let r = reads_of_body c.args.text.now c.body_before.result.now c.in-Some.from c.closing-line.result c.in_ok-tokens.field-0.tokens.items _ (Fault c.in-Fault-default.error)
    c.closing-line.ensures.value c.body_before.ensures c.in-Fault-default.is-0 c.in_ok-tokens.ensures.reads in
    fault_of_body c.args.text.now c.in-Some.from c.in_ok-tokens.field-0.tokens.items c.in-Fault-default.error c.in_ok-check_utf8.ensures.ok (sym c.in-Some.ensures.value) r

pub returns-in-Fault-default-clause-fault : goal.returns-in-Fault-default-clause-fault
returns-in-Fault-default-clause-fault c = inl (fault_in_body c)

pub returns-in-Fault-default-clause-none : goal.returns-in-Fault-default-clause-none
returns-in-Fault-default-clause-none c _ = fault_means_none c.args.text.now c.in-Fault-default.error (fault_in_body c)

pub returns-in-Fault-default-clause-placed : goal.returns-in-Fault-default-clause-placed
returns-in-Fault-default-clause-placed c _ =
    let r = reads_of_body c.args.text.now c.body_before.result.now c.in-Some.from c.closing-line.result c.in_ok-tokens.field-0.tokens.items _ (Fault c.in-Fault-default.error)
    c.closing-line.ensures.value c.body_before.ensures c.in-Fault-default.is-0 c.in_ok-tokens.ensures.reads in
    fault_placed Module (body c.args.text.now c.in-Some.from) c.in-Some.from c.in_ok-tokens.field-0.tokens.items c.in-Fault-default.error r

pub returns-in-End-None-clause-fault : goal.returns-in-End-None-clause-fault
returns-in-End-None-clause-fault c =
    let r = reads_of_body c.args.text.now c.body_before.result.now c.in-Some.from c.closing-line.result c.in_ok-tokens.field-0.tokens.items _ (End c.in-End-None.place)
    c.closing-line.ensures.value c.body_before.ensures c.in-End-None.is-0 c.in_ok-tokens.ensures.reads in
    inl (fault_of_no_line c.args.text.now c.in-Some.from c.in_ok-tokens.field-0.tokens.items c.in-End-None.place c.at-in-End-None.result c.in_ok-check_utf8.ensures.ok
    (sym c.in-Some.ensures.value) (sym c.closing-line.ensures.value ∙ c.in-End-None.is-1) r c.at-in-End-None.ensures)

found : (c : goal.In_ok-push-in-End-Some) → AreTokens c.args.text.now c.push.new.self.items
found c =
    let text = c.args.text.now in
    let r = reads_of_body text c.body_before.result.now c.in-Some.from c.closing-line.result c.in_ok-tokens.field-0.tokens.items _ (End c.in-End-Some.place)
    c.closing-line.ensures.value c.body_before.ensures c.in-End-Some.is-0 c.in_ok-tokens.ensures.reads in
    let b = same_body text c.body_before.result.now c.in-Some.from c.closing-line.result c.closing-line.ensures.value c.body_before.ensures in
    let o : InOrder c.in-Some.from (length (body text c.in-Some.from)) c.in_ok-tokens.field-0.tokens.items = rw (← b) c.in_ok-tokens.ensures.spans in
    let within = rw c.in-End-Some.is-1 at c.closing-line.ensures.within in
    let order = rw c.closing_line.ensures.value at c.closing_line.ensures.order in
    let w = found_tokens text c.in-Some.from c.in-End-Some.to c.in_ok-tokens.field-0.tokens.items c.in-End-Some.place c.in_ok-check_utf8.ensures.ok
    (sym c.in-Some.ensures.value) (sym c.closing-line.ensures.value ∙ c.in-End-Some.is-1) within order.1 order.2 r o in
    rw (c.in_ok-push-in-End-Some.ensures.items, c.closing_line.ensures.value) w

pub returns-in_ok-push-in-End-Some-clause-found : goal.returns-in_ok-push-in-End-Some-clause-found
returns-in_ok-push-in-End-Some-clause-found c = found c

pub returns-in_ok-push-in-End-Some-clause-only : goal.returns-in_ok-push-in-End-Some-clause-only
returns-in_ok-push-in-End-Some-clause-only c ts a = tokens_once c.args.text.now ts c.push.new.self.items a (found c)

pub returns-in_default-clause-none : goal.returns-in_default-clause-none
returns-in_default-clause-none c _ =
    fault_means_none c.args.text.now c.at.result (fault_of_no_header c.args.text.now c.at.result c.in_ok-check_utf8.ensures.ok (sym c.header_end.ensures.value ∙ c.in_default.is) (c.at.ensures ∙ first_fault c.args.text.now NoHeader))

pub returns-in-End-None-clause-none : goal.returns-in-End-None-clause-none
returns-in-End-None-clause-none c _ =
    let r = reads_of_body c.args.text.now c.body_before.result.now c.in-Some.from c.closing-line.result c.in_ok-tokens.field-0.tokens.items _ (End c.in-End-None.place)
    c.closing-line.ensures.value c.body_before.ensures c.in-End-None.is-0 c.in_ok-tokens.ensures.reads in
    fault_means_none c.args.text.now c.at-in-End-None.result
    (fault_of_no_line c.args.text.now c.in-Some.from c.in_ok-tokens.field-0.tokens.items c.in-End-None.place c.at-in-End-None.result c.in_ok-check_utf8.ensures.ok
    (sym c.in-Some.ensures.value) (sym c.closing-line.ensures.value ∙ c.in-End-None.is-1) r c.at-in-End-None.ensures)
