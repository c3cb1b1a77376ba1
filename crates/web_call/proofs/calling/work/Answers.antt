use Rattle.std.proofs.Common.{List, map, string_bytes, ap, subst}
use Rattle.web_call.specs.Entries.{given}
use Rattle.web_call.specs.Answer.{Shows}
use Rattle.web_call.proofs.AnswerLemmas.{answered, given_by}
use Rattle.web_call.proofs.calling.work.Goals as goal

-- the words of the call are those that were read
pub returns-clause-answer : goal.returns-clause-answer
returns-clause-answer c =
    let words = map string_bytes c.read.new.words.items in
    let bench = c.read.new.bench in
    answered c.show.result (given c.args.input.now) words bench c.make_room.new.bench c.show.new.bench
    c.args.serial c.args.wave c.args.report c.show.new.out
    (given_by c.args.input.now (map string_bytes c.new-words.result.items) c.new-bench.result (record { words = words; bench = bench }) c.in_ok-read.field-0
    c.in_ok-read.ensures (ap (λ (ws : List _). map string_bytes ws) c.new-words.ensures.items) c.new-bench.ensures c.if-not-branch.false)
    c.in_ok-make_room.ensures
    (subst (λ (ws : List _). Shows c.show.result (map string_bytes ws) c.make_room.new.bench c.show.new.bench c.show.new.out) c.deref.ensures.value c.show.ensures.shows)
