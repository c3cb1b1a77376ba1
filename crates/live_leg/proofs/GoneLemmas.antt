-- Legs, one after another.
use Rattle.std.proofs.Common.{◌≡◌, ◌∙◌, ℕ, ◌-◌, ◌<◌, ◌≤◌, ◌⊎◌, inl, inr, List, length, true, refl, ap, subst, arith}
use Rattle.sim_base.specs.Outside.{Outside}
use Rattle.text_model.specs.Wave.{begun_text}
use Rattle.part_law.specs.declared.part.Part.{Ghosts}
use Rattle.board_live.specs.LiveView.{LiveView, rows_by, bytes_by, wakes_by}
use Rattle.vcd_text.specs.Ports.{texts, BreaksOff}
use Rattle.live_leg.specs.declared.talk.Talk.{Talk}
use Rattle.live_leg.specs.SentView.{most_sent}
use Rattle.live_leg.specs.Talks.{TalkTied, tied_of, sent_by, MayTalk, HasGone, HasBroken}
use Rattle.live_leg.proofs.SaidLemmas.{said_still}
use Rattle.live_leg.proofs.CountLemmas.{short_before}

module _ {P : Type 0} (part : Ghosts P) where
  pub gone_none : (talk : Talk P) (a b : Outside) (steps : ℕ) → MayTalk part talk a b → HasGone part talk talk a b b steps steps
  gone_none talk a b steps may = record {
    later = omega arith;
    live = refl;
    from = refl;
    tied = refl;
    talks = may;
    said = refl;
    steps_are = refl;
  }

  module _ (old mid new : Talk P) (a b c d : Outside) (steps more all : ℕ) (gone : HasGone part old mid a b c steps more) where
    here : (n : ℕ) → wakes_by part mid.live n ≡ wakes_by part old.live n
    here n = ap (λ (s : LiveView P). wakes_by part s n) gone.live

    pub gone_more : HasGone part mid new a c d more all → HasGone part old new a b d steps all
    gone_more next = record {
      later = omega (arith, gone.later, next.later);
      live = next.live ∙ ap (λ (s : LiveView P). record s { cycle = new.live.cycle }) gone.live;
      from = next.from ∙ gone.from;
      tied = next.tied ∙ gone.tied;
      talks = next.talks;
      said = next.said ∙ gone.said;
      steps_are = omega (arith, gone.steps_are, next.steps_are, here mid.live.cycle, here new.live.cycle);
    }

    pub gone_broken : HasBroken part mid new a c d → HasBroken part old new a b d
    gone_broken next = record {
      over = next.over;
      later = omega (arith, gone.later, next.later);
      broke = λ said has.
          subst (λ (t : TalkTied). BreaksOff (texts t.wave true (begun_text t.variables (rows_by part old.live new.live.cycle)) said) a d) gone.tied
          (subst (λ (s : LiveView P). BreaksOff (texts (tied_of mid).wave true (begun_text (tied_of mid).variables (rows_by part s new.live.cycle)) said) a d) gone.live
          (next.broke said (said_still a b c said has gone.said)));
    }

-- it has not come to its end so far
module _ {P : Type 0} (part : Ghosts P) (s m : LiveView P) (from t u : ℕ) (live : m ≡ record s { cycle = m.cycle }) where
  same_sent : (v : ℕ) → sent_by part m from v ≡ sent_by part s from v
  same_sent v = ap (λ (x : LiveView P). sent_by part x from v) live

  same_bytes : (v : ℕ) → bytes_by part m v ≡ bytes_by part s v
  same_bytes v = ap (λ (x : LiveView P). bytes_by part x v) live

  by_half : (u < m.cycle) ⊎ (m.cycle ≤ u)
  by_half = grind arith

  pub short_more : ((v : ℕ) → s.cycle ≤ v → v < m.cycle → length (sent_by part s from v) < most_sent) → length (sent_by part m from m.cycle) < most_sent → bytes_by part m (t - 1) ≡ bytes_by part m m.cycle →
      s.cycle ≤ u → u < t → length (sent_by part s from u) < most_sent
  short_more before short silent late early =
      elim by_half [
        | inl less ↦ before u late less
        | inr more ↦ subst (λ (l : List ℕ). length l < most_sent) (same_sent u) (short_before part m from m.cycle t u silent early short)
      ]
