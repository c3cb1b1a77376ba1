use Rattle.board_run.proofs.Common.{◌-◌, ◌<◌, ◌≤◌, ◌∙◌, ◌≡◌, ap, sym, refl, subst, arith, ℕ, List, length, inl, inr, Option, length-set, slice_get, slice_set}
use Rattle.board_run.proofs.Common.{slice_get_within, MOST_CYCLES, IsQuiet, done_none, done_more, done_all, some_same, get_set_same, get_set_other, glided}
use Rattle.board_run.proofs.Common.{AreAt, kept_of, Engine, wiring_of}
use Rattle.board_run.proofs.TurnLemmas.{at_set}
use Rattle.board_run.proofs.LegLemmas.{may_settle, now_settled}
use Rattle.board_run.proofs.engine.Engine.settle.Goals as goal

pub loop-i-init : goal.loop-i-init
loop-i-init g c = record { same = refl; parts = done_none _ c.args.self.now.parts; long = refl; due = λ k y d (less : k < 0). absurd (omega arith) }

-- the part that is brought to the cycle is as it was, and may be
pub settle_one-due-requires : goal.settle_one-due-requires
settle_one-due-requires g c =
    let p = g.P.Part in
    let e = c.args.self.now in
    let l = c.loop-i in
    let cycle = ap (λ (x : Engine g.row.P.Denot). x.cycle) l.invariant.same in
    let old = sym (l.invariant.parts.rest l.i (omega arith)) ∙ c.item_mut.ensures.value in
    let may = may_settle p.machine g.met.P.Part.laws (wiring_of e) p.state p.now p.wakes e.inputs e.cycle e.parts (kept_of e) c.requires.may.lags l.i c.item_mut.result.now old in
    record {
      end = subst (λ (t : ℕ). t ≤ MOST_CYCLES) (sym cycle) c.requires.end;
      later = subst (λ (t : ℕ). p.now c.item_mut.result.now ≤ t) (sym cycle) may.0;
      quiet = subst (λ (t : ℕ). IsQuiet p.machine (p.state c.item_mut.result.now) (p.now c.item_mut.result.now) (t - p.now c.item_mut.result.now)) (sym cycle) may.1;
    }

pub loop-i-preserved : goal.loop-i-preserved
loop-i-preserved g c =
    let p = g.P.Part in
    let l = c.loop-i in
    let i = l.i in
    let inv = l.invariant in
    let x = c.item_mut.result.now in
    let s = c.settle_one-due in
    let z = s.new.part in
    let cycle = ap (λ (x : Engine g.row.P.Denot). x.cycle) inv.same in
    let here = slice_get_within l.self.parts i x c.item_mut.ensures.value in
    let old = sym (inv.parts.rest i (omega arith)) ∙ c.item_mut.ensures.value in
    let inside : i < length l.self.dues = omega (arith, here, inv.long, inv.parts.long, c.requires.may.lags.dues_long) in
    let set = c.set.ensures in
    record {
      same = ap (λ (x : Engine g.row.P.Denot). let y : Engine g.row.P.Denot = record x { parts = slice_set l.self.parts i z; dues = c.set.new.self } in y) inv.same;
      parts = done_more _ i c.args.self.now.parts l.self.parts x z inv.parts (omega (arith, here, inv.parts.long)) old
          (subst (λ (t : ℕ). (p.state z ≡ glided p.machine p.state p.now p.wakes t x) × (p.now z ≡ t) × (p.wakes z ≡ p.wakes x)) cycle (s.ensures.state, s.ensures.now, s.ensures.wakes));
      long = ap length set ∙ length-set l.self.dues i s.result ∙ inv.long;
      due = λ k y d less ey ed.
          let at = ap (λ (ds : List (Option ℕ)). slice_get ds k) (sym set) ∙ ed in
          elim (at_set l.self.parts i k z y here ey) [
            | inl same ↦
                let d_is : s.result ≡ d = some_same (sym (get_set_same l.self.dues i s.result inside) ∙ rw same.0 at at) in
                rw (← same.1, ← d_is) s.ensures.due
            | inr other ↦ inv.due k y d (omega (arith, less, other.0)) other.1 (sym (get_set_other l.self.dues i k s.result other.0) ∙ at)
          ];
    }

pub returns : goal.returns
returns g c =
    let p = g.P.Part in
    let e = c.args.self.now in
    let l = c.loop-i in
    let inv = l.invariant in
    let all : length e.parts ≤ l.i = omega (arith, c.loop-i-test.false, c.len-i-end.ensures) in
    let each = done_all _ l.i e.parts l.self.parts inv.parts all in
    let cycle = ap (λ (x : Engine g.row.P.Denot). x.cycle) inv.same in
    record {
      settled = record {
        same = inv.same;
        long = inv.parts.long;
        dues_long = inv.long;
        each = each;
        due = λ k y d ey ed. (let inside = slice_get_within l.self.parts k y ey in inv.due k y d (omega (arith, inside, all, inv.parts.long)) ey ed);
      };
      at = subst (λ (t : ℕ). AreAt p.now t l.self.parts) (sym cycle) (now_settled p.machine g.met.P.Part.laws (wiring_of e) p.state p.now p.wakes e.inputs e.cycle e.parts l.self.parts inv.parts.long each);
    }
