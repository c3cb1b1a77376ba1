use Rattle.std.proofs.Common.{sym, ◌∙◌, ◌≡◌, length, arith}
use Rattle.std.proofs.lemmas.Bool.Decides.{nat_tests}
use Rattle.web_call.proofs.EntryLemmas.{goes_on, all_listed}
use Rattle.web_call.proofs.entries.is_list.Goals as goal

pub loop-rest-preserved : goal.loop-rest-preserved
loop-rest-preserved c = sym (goes_on c.loop-rest.left c.loop-rest.rest.now _ c.in-Some.after.now (omega (arith, c.if-left-eq0.false)) (sym c.in-Some.ensures)) ∙ c.loop-rest.invariant

pub returns : goal.returns
returns c =
    let end : length c.loop-rest.rest.now ≡ 0 = grind (arith, nat_tests, c.loop-rest-test.false, c.loop-rest-test.ensures, c.is_empty.ensures) in
    sym (all_listed c.loop-rest.left c.loop-rest.rest.now end) ∙ c.loop-rest.invariant
