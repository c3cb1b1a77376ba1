use Rattle.std.proofs.Common.{rules, sym}
use Rattle.web_call.proofs.EntryLemmas.{text_found, no_text}
use Rattle.web_call.proofs.entries.first_text.Goals as goal

pub returns-in-Ok : goal.returns-in-Ok
returns-in-Ok c = sym (text_found c.args.list.now c.in_ok-bytes.bytes.now c.in_ok-bytes.rest.now c.in-Ok.text.now (search rules) c.in-Ok.ensures.cases.0 c.in-Ok.ensures.cases.1)

pub returns-in-Err : goal.returns-in-Err
returns-in-Err c = sym (no_text c.args.list.now c.in_ok-bytes.bytes.now c.in_ok-bytes.rest.now (search rules) c.in-Err.ensures.cases.0)
