use Rattle.std.proofs.Common.{◌≡◌, ◌∙◌, ◌+◌, List, length, take, false, refl, ap, sym, subst, arith}
use Rattle.std.specs.Prelude.{slice_get}
use Rattle.law_board.specs.Player.{DriveRows, PlayerState, player}
use Rattle.trace_run.specs.PlayerAt.{PlayerAt}
use Rattle.trace_run.specs.Rows.{AreAllPast, AreCounts, IsNext, any_row}
use Rattle.trace_run.proofs.CountLemmas.{still_past}
use Rattle.trace_run.proofs.RowLemmas.{same_driven}
use Rattle.trace_run.proofs.StateLemmas.{next_after, past_after}
use Rattle.trace_run.proofs.player.Player.step.Goals as goal

pub count_all-next-requires-clause-past : goal.count_all-next-requires-clause-past
count_all-next-requires-clause-past c =
    let own = c.self.inside in
    subst (λ (l : List DriveRows). AreAllPast l (own.cycle + 1) own.counts) (sym c.as_slice.ensures) (still_past own.rows own.cycle (own.cycle + 1) own.counts (omega arith) c.self.invariant.counts)

pub invariant_of-self : goal.invariant_of-self
invariant_of-self c =
    let inv = c.self.invariant in
    let own = c.self.inside in
    let is = ap (λ (p : PlayerAt). p.player) c.self.view_is in
    let cycle = ap (λ (p : PlayerState). p.cycle) is in
    record {
      few = inv.few;
      rows = inv.rows;
      counts = subst (λ (l : List DriveRows). AreCounts l (own.cycle + 1) c.count_all-next.new.counts) c.as_slice.ensures c.count_all-next.ensures.counts;
      next = subst (λ (l : List DriveRows). IsNext (any_row l) (own.cycle + 1) c.count_all-next.result.0) c.as_slice.ensures c.count_all-next.ensures.next;
      end = omega (arith, cycle, c.requires.end);
    }

pub invariant_of-self-else-due : goal.invariant_of-self-else-due
invariant_of-self-else-due c =
    let inv = c.self.invariant in
    let own = c.self.inside in
    let is = ap (λ (p : PlayerAt). p.player) c.self.view_is in
    let cycle = ap (λ (p : PlayerState). p.cycle) is in
    let s : PlayerState = record { rows = own.rows; cycle = own.cycle; held = take (length own.rows) own.held } in
    let off : player.due c.args.self.now.player c.args.self.now.player.cycle ≡ false = sym c.is_due-due.ensures ∙ c.if-due.false in
    let none : player.due s s.cycle ≡ false = subst (λ (p : PlayerState). player.due p p.cycle ≡ false) (sym is) off in
    record {
      few = inv.few;
      rows = inv.rows;
      counts = past_after s own.counts none inv.counts;
      next = next_after s own.next none inv.next;
      end = omega (arith, cycle, c.requires.end);
    }

pub returns-then-due-clause-others : goal.returns-then-due-clause-others
returns-then-due-clause-others c = λ pin out.
    let own = c.self.inside in
    let counts : AreCounts own.rows (own.cycle + 1) c.count_all-next.new.counts = subst (λ (l : List DriveRows). AreCounts l (own.cycle + 1) c.count_all-next.new.counts) c.as_slice.ensures c.count_all-next.ensures.counts in
    same_driven own.rows own.cycle (own.cycle + 1) own.counts c.count_all-next.new.counts pin c.self.invariant.counts counts (c.count_all-next.ensures.moved pin out)
    ∙ ap (λ (p : PlayerAt). slice_get (player.drives p.player) pin) c.self.view_is

pub returns-else-due-clause-others : goal.returns-else-due-clause-others
returns-else-due-clause-others c = λ pin out.
    let own = c.self.inside in
    let is = ap (λ (p : PlayerAt). p.player) c.self.view_is in
    let s : PlayerState = record { rows = own.rows; cycle = own.cycle; held = take (length own.rows) own.held } in
    let off : player.due c.args.self.now.player c.args.self.now.player.cycle ≡ false = sym c.is_due-due.ensures ∙ c.if-due.false in
    let none : player.due s s.cycle ≡ false = subst (λ (p : PlayerState). player.due p p.cycle ≡ false) (sym is) off in
    same_driven own.rows own.cycle (own.cycle + 1) own.counts own.counts pin c.self.invariant.counts (past_after s own.counts none c.self.invariant.counts) refl
    ∙ ap (λ (p : PlayerAt). slice_get (player.drives p.player) pin) c.self.view_is
