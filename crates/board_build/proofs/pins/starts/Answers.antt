use Rattle.std.proofs.Common.{◌≡◌, ◌∙◌, ◌<◌, ap, sym, subst, length, take, get_or, List, ℕ, None, arith, [], ◌∷◌, ◌++◌}
use Rattle.std.specs.List.{All}
use Rattle.std.proofs.lemmas.List.{take_more, take_all}
use Rattle.std.proofs.lemmas.List.Sums.{sum_by_more}
use Rattle.board_build.specs.Pins.{IsLow, count_of, starts_from}
use Rattle.board_build.proofs.PinLemmas.{starts_length, starts_at, starts_low}
use Rattle.board_build.proofs.pins.starts.Goals as goal

pub loop-kind-preserved : goal.loop-kind-preserved
loop-kind-preserved c =
    let l = c.loop-kind in
    let pins = c.args.pins.now in
    let kinds = c.args.kinds.now in
    let inside : l.kind-index < length kinds = c.loop-kind-test.true in
    let within : l.kind-index < length (starts_from pins 0 kinds) = rw (starts_length pins 0 kinds) inside in
    let here : l.next ≡ get_or (starts_from pins 0 kinds) l.kind-index 0 = omega (arith, l.invariant.next, starts_at pins 0 kinds l.kind-index inside) in
    record {
      firsts = c.in_ok-push.ensures.ok
          ∙ ap (λ (xs : List ℕ). xs ++ l.next ∷ []) l.invariant.firsts
          ∙ ap (λ (n : ℕ). take l.kind-index (starts_from pins 0 kinds) ++ n ∷ []) here
          ∙ sym (take_more (starts_from pins 0 kinds) l.kind-index 0 within);
      next = omega (arith, l.invariant.next, c.count_of-next.ensures.count, sum_by_more (count_of pins) kinds l.kind-index None inside);
      few = omega (arith, l.invariant.few, c.count_of-next.ensures.few);
    }

pub returns-clause-starts : goal.returns-clause-starts
returns-clause-starts c =
    let l = c.loop-kind in
    let starts = starts_from c.args.pins.now 0 c.args.kinds.now in
    l.invariant.firsts ∙ take_all l.kind-index starts (rw (starts_length c.args.pins.now 0 c.args.kinds.now) c.loop-kind-test.false)

pub returns-clause-low : goal.returns-clause-low
returns-clause-low c =
    let l = c.loop-kind in
    let starts = starts_from c.args.pins.now 0 c.args.kinds.now in
    let all : l.firsts ≡ starts = l.invariant.firsts ∙ take_all l.kind-index starts (rw (starts_length c.args.pins.now 0 c.args.kinds.now) c.loop-kind-test.false) in
    subst (λ (xs : List ℕ). All IsLow xs) (sym all) (starts_low c.args.pins.now c.requires.short c.args.kinds.now c.requires.few)
