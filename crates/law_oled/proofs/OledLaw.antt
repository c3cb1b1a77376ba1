-- At each cycle an OLED's picture is that of the bytes that were written on its own lines before that cycle.
use Rattle.std.proofs.Common.{◌≡◌, ℕ, zero, suc, ◌%◌, List, Option, refl, sym, subst}
use Rattle.sim_base.specs.declared.signal.Level.{Level}
use Rattle.part_catalog.specs.declared.settings.Settings.{Settings}
use Rattle.law_board.specs.Alone.{part_run}
use Rattle.part_reactive.specs.Reaction.{Reacting, at_start, reactive}
use Rattle.slave_i2c.specs.declared.lines.Lines.{Lines}
use Rattle.part_oled.specs.Oled.{OledState, lines_at, new_oled, oled, oled_step}
use Rattle.law_oled.specs.Traffic.{before, moved, traffic}
use Rattle.law_oled.specs.Shown.{lines_in, shown_at}
use Rattle.law_oled.proofs.StepLemmas.{Follows, step}

module _ (settings : Settings) (levels : ℕ → List Level) (inputs : ℕ → Option ℕ) where
  abbrev run : ℕ → Reacting OledState
  run t = part_run (reactive oled) levels inputs (at_start oled (new_oled settings)) 0 t

  held_before : (t : ℕ) → lines_at (run t).held ≡ before (lines_in levels) t
  unfolding part_run
  held_before zero = refl
  held_before (suc t) = refl

  follows : (t : ℕ) → Follows (settings.number % 128) (before (lines_in levels) t).scl (traffic (lines_in levels) t) (run t).own
  unfolding part_run traffic
  follows zero = record { own = refl; picture = refl; place = refl }
  follows (suc t) =
      subst (λ (b : Lines). Follows (settings.number % 128) (lines_in levels t).scl (moved (traffic (lines_in levels) t) (before (lines_in levels) t) (lines_in levels t)) (oled_step (run t).own b (lines_in levels t))) (sym (held_before t))
      (step (settings.number % 128) (run t).own (before (lines_in levels) t) (lines_in levels t) (traffic (lines_in levels) t) (follows t))

  -- whatever a script says
  pub shows : (t : ℕ) → (run t).own.picture ≡ shown_at (settings.number % 128) levels t
  shows t = (follows t).picture
