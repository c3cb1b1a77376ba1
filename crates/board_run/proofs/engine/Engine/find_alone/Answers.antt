use Rattle.board_run.proofs.Common.{rules, List, subst, ap, ℕ, Option, Input, IsAlone, kept_of, Engine, wiring_of}
use Rattle.board_run.proofs.NextLemmas.{lags_late}
use Rattle.board_run.proofs.engine.Engine.find_alone.Goals as goal

pub first_alone-requires-clause-late : goal.first_alone-requires-clause-late
first_alone-requires-clause-late g c =
    let p = g.P.Part in
    let e = c.args.self.now in
    lags_late p.machine (wiring_of e) p.state p.now p.wakes e.cycle e.parts (kept_of e) c.requires.may.lags

pub returns : goal.returns
returns g c =
    let e = c.args.self.now in
    record {
      same = ap (λ (ds : List (Option ℕ)). let a : Engine g.row.P.Denot = record e { dues = ds } in a) c.first_alone.ensures.same;
      alone = λ x ex. record {
        fresh = search rules;
        after = search rules;
        within = c.first_alone.ensures.within x ex;
        alone = subst (λ (is : List Input). IsAlone is e.dues e.input x.0 e.cycle x.1) c.as_slice.ensures (c.first_alone.ensures.alone x ex);
      };
    }
