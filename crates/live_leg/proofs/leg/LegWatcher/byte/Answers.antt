use Rattle.std.proofs.Common.{List, [], ◌∷◌, ◌++◌, refl, sym, subst}
use Rattle.std.proofs.lemmas.List.{append-nil}
use Rattle.sim_base.specs.Rows.{Row}
use Rattle.vcd_text.specs.Writers.{Stands}
use Rattle.live_leg.specs.SentView.{SentView, HasOf}
use Rattle.live_leg.proofs.SentLemmas.{has_more}
use Rattle.live_leg.proofs.leg.LegWatcher.byte.Goals as goal

pub returns-clause-ok : goal.returns-clause-ok
returns-clause-ok g c = λ _.
    let leg = c.args.self.now in
    record {
      is_whole = c.requires;
      no_fault = refl;
      appended = λ rows bytes stood. record {
        wrote = λ said has. subst (λ (l : List Row). Stands g.B.Bench.outside leg.writer l said) (sym (append-nil rows)) (stood.wrote said has);
        sent = subst (λ (v : SentView). HasOf v (bytes ++ c.args.b ∷ [])) (sym c.push.ensures) (has_more leg.sent.now bytes c.args.b stood.sent);
      };
    }
