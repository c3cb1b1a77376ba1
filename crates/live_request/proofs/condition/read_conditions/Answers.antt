use Rattle.std.proofs.Common.{◌≡◌, ◌<◌, ◌+◌, ◌-◌, ◌∙◌, ℕ, List, [], ◌∷◌, true, false, ap, sym, arith, map}
use Rattle.std.proofs.lemmas.Bool.Decides.{nat_tests}
use Rattle.std.proofs.lemmas.List.{map-append}
use Rattle.live_request.specs.Condition.{Condition, conditions_after}
use Rattle.live_request.specs.Rests.{words_left}
use Rattle.live_request.specs.Views.{condition_of}
use Rattle.live_request.specs.Words.{is_empty}
use Rattle.live_request.proofs.ConditionLemmas.{read_over, read_more, read_none, full, too_many}
use Rattle.live_request.proofs.condition.read_conditions.Goals as goal

pub returns-then-is_over : goal.returns-then-is_over
returns-then-is_over c =
    let below : c.loop-i._i < 16 = grind (arith, nat_tests, c.loop-i-test.true) in
    let over : true ≡ is_empty (words_left c.loop-i.left) = sym c.if-is_over.true ∙ c.is_over.ensures in
    sym (read_over (map condition_of c.loop-i.all.items) c.loop-i._i (words_left c.loop-i.left) below over) ∙ c.loop-i.invariant.reading

pub returns-in-Err : goal.returns-in-Err
returns-in-Err c =
    let below : c.loop-i._i < 16 = grind (arith, nat_tests, c.loop-i-test.true) in
    let some : false ≡ is_empty (words_left c.loop-i.left) = sym c.if-is_over.false ∙ c.is_over.ensures in
    sym (read_none (map condition_of c.loop-i.all.items) c.loop-i._i (words_left c.loop-i.left) c.in-Err.number below some c.in-Err.ensures) ∙ c.loop-i.invariant.reading

pub loop-i-preserved : goal.loop-i-preserved
loop-i-preserved c =
    let below : c.loop-i._i < 16 = grind (arith, nat_tests, c.loop-i-test.true) in
    let some : false ≡ is_empty (words_left c.loop-i.left) = sym c.if-is_over.false ∙ c.is_over.ensures in
    let items = ap (λ l. map condition_of l) c.push.ensures.items ∙ map-append condition_of c.loop-i.all.items (c.in-Ok.condition ∷ []) in
    let more = read_more (map condition_of c.loop-i.all.items) c.loop-i._i (words_left c.loop-i.left) (condition_of c.in-Ok.condition) (words_left c.in-Ok.more) below some c.in-Ok.ensures in
    record {
      reading = ap (λ (l : List Condition). conditions_after l (16 - (c.loop-i._i + 1)) (words_left c.in-Ok.more)) items ∙ sym more ∙ c.loop-i.invariant.reading;
      few = c.push.ensures.len ∙ ap (λ (n : ℕ). n + 1) c.loop-i.invariant.few;
    }

pub returns-then-is_over-2 : goal.returns-then-is_over-2
returns-then-is_over-2 c =
    let none : 0 ≡ 16 - c.loop-i._i = grind (arith, nat_tests, c.loop-i-test.false) in
    let over : true ≡ is_empty (words_left c.loop-i.left) = sym c.if-is_over-2.true ∙ c.is_over-2.ensures in
    sym (full (map condition_of c.loop-i.all.items) (words_left c.loop-i.left) over) ∙ ap (λ (n : ℕ). conditions_after (map condition_of c.loop-i.all.items) n (words_left c.loop-i.left)) none ∙ c.loop-i.invariant.reading

pub returns-else-is_over-2 : goal.returns-else-is_over-2
returns-else-is_over-2 c =
    let none : 0 ≡ 16 - c.loop-i._i = grind (arith, nat_tests, c.loop-i-test.false) in
    let some : false ≡ is_empty (words_left c.loop-i.left) = sym c.if-is_over-2.false ∙ c.is_over-2.ensures in
    sym (too_many (map condition_of c.loop-i.all.items) (words_left c.loop-i.left) some) ∙ ap (λ (n : ℕ). conditions_after (map condition_of c.loop-i.all.items) n (words_left c.loop-i.left)) none ∙ c.loop-i.invariant.reading
