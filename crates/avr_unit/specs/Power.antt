-- Power-down (data sheet, "Power Management and Sleep Modes"): some units go on in it and may end it, and the clock of the
-- others stands.
use Rattle.std.specs.Prelude.{◌≡◌, ℕ, ◌+◌, ◌++◌, ◌||◌, List, [], Bool, true, false, if◌then◌else◌}
use Rattle.std.proofs.Common.{refl, ap, ◌∙◌}
use Rattle.std.proofs.lemmas.Bool.{or_parts}
use Rattle.sim_base.specs.declared.signal.Level.{Level}
use Rattle.avr_unit.specs.declared.request.Request.{Request}
use Rattle.avr_unit.specs.UnitMachine.{UnitMachine, Laws}
use Rattle.avr_unit.specs.Both.{both, both_laws}
use Rattle.avr_unit.specs.Clocked.{Clocked, clocked, clocked_laws}

module _ {A B : Type 0} (m : UnitMachine A) (n : UnitMachine B) where
  -- in power-down requests count only while one is there that ends it
  abbrev pub is_heard : A × Clocked B → List Level → Bool
  is_heard u l = u.1.runs || m.power.rouses u.0 l

  -- Units that go on in power-down beside others by a clock.
  abbrev pub powered : UnitMachine (A × Clocked B)
  powered = record (both m (clocked n)) {
    requests = λ u l. if is_heard u l then m.requests u.0 l ++ n.requests u.1.unit l else [];
    power = record ((both m (clocked n)).power) { doze = λ u. (u.0, record (u.1) { runs = false }) };
  }

  pub powered_laws : Laws m → Laws n → Laws powered
  powered_laws p q =
      let b = both_laws m (clocked n) p (clocked_laws n q) in
      record {
        keeps_pad = b.keeps_pad;
        keeps_requests = λ s t l h. let d = or_parts (m.due s.0 t) ((clocked n).due s.1 t) h in
            ap (λ (x : Bool). if x then (both m (clocked n)).requests ((both m (clocked n)).step s t l l) l else []) (same_heard s t l (p.power_laws.keeps_rouses s.0 t l l d.0))
            ∙ ap (λ (x : List Request). if is_heard s l then x else []) (b.keeps_requests s t l h);
        keeps_silent = b.keeps_silent;
        deaf = b.deaf;
        reads_pad = b.reads_pad;
        taken_pad = b.taken_pad;
        power_laws = record {
          keeps_rouses = b.power_laws.keeps_rouses;
          keeps_resets = b.power_laws.keeps_resets;
          resets_due = b.power_laws.resets_due;
          wdr_pad = b.power_laws.wdr_pad;
          doze_pad = λ s i. refl;
        };
      }
    where
      same_heard : (s : A × Clocked B) (t : ℕ) (l : List Level) → m.power.rouses (m.step s.0 t l l) l ≡ m.power.rouses s.0 l → is_heard ((both m (clocked n)).step s t l l) l ≡ is_heard s l
      same_heard s t l same = by s.1.runs
        where
          by : (b : Bool) → ((if b then record (s.1) { unit = n.step s.1.unit s.1.cycle l l; cycle = s.1.cycle + 1 } else s.1).runs || m.power.rouses (m.step s.0 t l l) l) ≡ (s.1.runs || m.power.rouses s.0 l)
          by true = ap (λ x. s.1.runs || x) same
          by false = ap (λ x. s.1.runs || x) same
