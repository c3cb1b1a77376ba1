use Rattle.std.proofs.Common.{◌≡◌, arith}
use Rattle.sim_base.specs.declared.bench.WriteEnd.TheVariants as writes
use Rattle.board_run.proofs.EngineLemmas.{showed_none, showed_then, watches_on}
use Rattle.board_run.proofs.engine.Engine.run.Goals as goal

pub loop-self-init : goal.loop-self-init
loop-self-init g c = record {
  within = c.requires.order;
  showed = showed_none g.P.Part g.met.P.Part.laws g.W.Watcher c.args.self.now c.args.steps.now c.args.out.now c.requires.may c.requires.watches;
}

pub advance-requires-clause-may : goal.advance-requires-clause-may
advance-requires-clause-may g c = c.loop-self.invariant.showed.on.may

pub advance-requires-clause-watches : goal.advance-requires-clause-watches
advance-requires-clause-watches g c =
    let l = c.loop-self in
    watches_on g.P.Part g.met.P.Part.laws g.W.Watcher c.args.self.now l.self c.args.steps.now l.steps c.args.out.now l.out l.invariant.showed

pub loop-self-preserved : goal.loop-self-preserved
loop-self-preserved g c =
    let l = c.loop-self in
    let new = c.advance.new in
    let e = c.in-Ok.ensures in
    record {
      within = e.within;
      showed = showed_then g.P.Part g.met.P.Part.laws g.W.Watcher writes.Ok c.args.self.now l.self new.self c.args.steps.now l.steps new.steps c.args.out.now l.out new.out l.invariant.showed e.further e.showed;
    }

pub returns-in-Failed : goal.returns-in-Failed
returns-in-Failed g c =
    let l = c.loop-self in
    let new = c.advance.new in
    let e = c.in-Failed.ensures in
    record {
      within = e.within;
      cycle = λ (is : writes.Failed ≡ writes.Ok). absurd cc;
      showed = showed_then g.P.Part g.met.P.Part.laws g.W.Watcher writes.Failed c.args.self.now l.self new.self c.args.steps.now l.steps new.steps c.args.out.now l.out new.out l.invariant.showed e.further e.showed;
    }

pub returns : goal.returns
returns g c =
    record {
      within = c.loop-self.invariant.within;
      cycle = λ _. (let most = c.loop-self.invariant.within in omega (arith, most, c.loop-self-test.false));
      showed = c.loop-self.invariant.showed;
    }
