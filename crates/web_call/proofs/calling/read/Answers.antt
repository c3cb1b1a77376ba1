use Rattle.std.proofs.Common.{sym, ◌∙◌, ◌≡◌, length, map, string_bytes, arith}
use Rattle.std.proofs.lemmas.Bool.Decides.{nat_tests}
use Rattle.web_call.proofs.EntryLemmas.{all_taken}
use Rattle.web_call.proofs.calling.read.Goals as goal

pub returns : goal.returns
returns c =
    let end : length c.loop-rest.rest.now ≡ 0 = grind (arith, nat_tests, c.loop-rest-test.false, c.loop-rest-test.ensures, c.is_empty.ensures) in
    sym c.loop-rest.invariant
    ∙ all_taken c.loop-rest.left c.loop-rest.rest.now (record { words = map string_bytes c.loop-rest.words.items; bench = c.loop-rest.bench }) end
