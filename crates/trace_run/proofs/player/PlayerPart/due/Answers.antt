use Rattle.std.proofs.Common.{◌≡◌, None, Some, ap, ◌∙◌}
use Rattle.law_board.specs.Player.{PlayerState}
use Rattle.trace_run.specs.PlayerAt.{PlayerAt}
use Rattle.trace_run.proofs.StateLemmas.{first_at, first_far, first_none, next_now}
use Rattle.trace_run.proofs.player.PlayerPart.due.Goals as goal

pub returns-in-Some : goal.returns-in-Some
returns-in-Some c =
    let now = c.args.self.now.player in
    let is = ap (λ (p : PlayerAt). p.player) c.self.view_is in
    let some : ¬ (now.cycle ≡ 0) = λ e. c.if-self-eq0.false (ap (λ (p : PlayerState). p.cycle) is ∙ e) in
    first_at now c.in-Some.next some c.if-next-le-MOST_CYCLES.true (next_now _ now _ (Some c.in-Some.next) is c.in-Some.is c.self.invariant.next)

pub returns-in_default : goal.returns-in_default
returns-in_default c =
    let now = c.args.self.now.player in
    let is = ap (λ (p : PlayerAt). p.player) c.self.view_is in
    let some : ¬ (now.cycle ≡ 0) = λ e. c.if-self-eq0.false (ap (λ (p : PlayerState). p.cycle) is ∙ e) in
    first_far now c.in-Some.next some c.if-next-le-MOST_CYCLES.false (next_now _ now _ (Some c.in-Some.next) is c.in-Some.is c.self.invariant.next)

pub returns-in_default-2 : goal.returns-in_default-2
returns-in_default-2 c =
    let now = c.args.self.now.player in
    let is = ap (λ (p : PlayerAt). p.player) c.self.view_is in
    let some : ¬ (now.cycle ≡ 0) = λ e. c.if-self-eq0.false (ap (λ (p : PlayerState). p.cycle) is ∙ e) in
    first_none now some (next_now _ now _ None is c.in_default.is c.self.invariant.next)
