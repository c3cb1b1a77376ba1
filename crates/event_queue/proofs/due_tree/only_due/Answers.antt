use Rattle.std.proofs.Common.{◌≡◌, ◌<◌, ℕ, Option, None, length, subst}
use Rattle.std.specs.Prelude.{option_map, slice_set}
use Rattle.event_queue.specs.First.{IsFirst}
use Rattle.event_queue.proofs.TreeLemmas.{some_same, top_within, without_first}
use Rattle.event_queue.proofs.due_tree.only_due.Goals as goal

pub first_without-requires-clause-part : goal.first_without-requires-clause-part
first_without-requires-clause-part c =
    top_within c.args.dues.now c.args.best.now c.requires.best c.requires.some c.at-top.result c.at-top.ensures c.in-Some._cycle c.in-Some.is

pub returns-in-None : goal.returns-in-None
returns-in-None c = λ j e.
    let part = c.at-top.result.part in
    let low = top_within c.args.dues.now c.args.best.now c.requires.best c.requires.some c.at-top.result c.at-top.ensures c.in-Some._cycle c.in-Some.is in
    let found = c.first_without.result in
    let first : IsFirst (slice_set c.args.dues.now part None) None =
    subst (λ (o : Option ℕ). IsFirst (slice_set c.args.dues.now part None) (option_map (λ (u : ℕ). (u, found.part)) o)) c.in-None.is
    (without_first c.args.dues.now c.args.best.now part c.requires.few low found c.first_without.ensures) in
    let same : part ≡ j = some_same part j e in (
      subst (λ (x : ℕ). x < length c.args.dues.now) same low,
      subst (λ (x : ℕ). IsFirst (slice_set c.args.dues.now x None) None) same first,
    )
