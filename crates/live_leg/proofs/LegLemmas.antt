-- A leg, from the writer that is made again for it to its end.
use Rattle.std.proofs.Common.{◌≡◌, ◌∙◌, ℕ, ◌<◌, ◌≤◌, length, true, ap, sym, subst}
use Rattle.std.specs.Option.{ForSome}
use Rattle.sim_base.specs.declared.bench.Port.TheVariants as ports
use Rattle.sim_base.specs.declared.limits.TheConstants.{MOST_CYCLES}
use Rattle.sim_base.specs.Outside.{Outside}
use Rattle.part_law.specs.declared.part.Part.{Ghosts}
use Rattle.board_live.specs.LiveView.{LiveView, rows_by, bytes_by, shown_by}
use Rattle.vcd_text.specs.declared.writer.WaveWriter.{WaveWriter}
use Rattle.vcd_text.specs.Writers.{Tied, WriterState, place_of, state_of, is_whole, last_of, has_seen, whole_by, last_by, seen_by}
use Rattle.live_leg.specs.declared.leg.Leg.{Leg}
use Rattle.live_leg.specs.declared.talk.Talk.{Talk}
use Rattle.live_leg.specs.Legs.{LegTied, leg_place, LegStands}
use Rattle.live_leg.specs.SentView.{sent_room}
use Rattle.live_leg.specs.Talks.{tied_of, writer_of, IsGoing, MayTalk, sent_by}
use Rattle.live_leg.proofs.GoingLemmas.{leg_done, leg_silent}

module _ {B : Type 0} (outside : B → Outside) (again : WaveWriter B) (w : WriterState) (b : Outside) (state : state_of again ≡ w) (now : outside again.bench.now ≡ b) where
  pub whole_again : whole_by w b ≡ true → is_whole outside again ≡ true
  whole_again whole =
      subst (λ (x : WriterState). whole_by x (outside again.bench.now) ≡ true) (sym state) (subst (λ (o : Outside). whole_by w o ≡ true) (sym now) whole)

  pub last_again : {P : Type 0} (part : Ghosts P) (s : LiveView P) → ForSome (last_by w) (λ u. (u < s.cycle) × ForSome (shown_by part s s.cycle) (λ shown. seen_by w shown.levels)) →
      ForSome (last_of again) (λ u. (u < s.cycle) × ForSome (shown_by part s s.cycle) (λ shown. has_seen again shown.levels))
  last_again part s last = subst (λ (x : WriterState). ForSome (last_by x) (λ u. (u < s.cycle) × ForSome (shown_by part s s.cycle) (λ shown. seen_by x shown.levels))) (sym state) last

module _ {P : Type 0} (part : Ghosts P) {B : Type 0} (outside : B → Outside) (old : Talk P) (a b : Outside) (may : MayTalk part old a b)
    (again : WaveWriter B) (leg : Leg B) (live : LiveView P) (k : ℕ) (o : Outside)
    (state : state_of again ≡ writer_of old) (start : outside again.start.now.value ≡ a) (found : o ≡ b)
    (place : leg_place outside leg ≡ record { tied = place_of outside again; keeps = k; begun = o; first = old.sent.first })
    (same : live ≡ record old.live { cycle = live.cycle }) where
  tied : place_of outside leg.writer ≡ place_of outside again
  tied = ap (λ (t : LegTied). t.tied) place

  begins : outside leg.writer.start.now.value ≡ a
  begins = ap (λ (t : Tied). t.start) tied ∙ start

  begun : outside leg.begun.now.value ≡ b
  begun = ap (λ (t : LegTied). t.begun) place ∙ found

  first : leg.sent.now.first ≡ old.sent.first
  first = ap (λ (t : LegTied). t.first) place

  serial : leg.writer.serial ≡ true
  serial = ap (λ (t : Tied). t.serial) tied ∙ ap (λ (x : WriterState). x.serial) state ∙ may.serial

  pub leg_went : live.cycle ≤ MOST_CYCLES → old.from ≤ live.cycle → is_whole outside leg.writer ≡ true → LegStands outside leg (rows_by part live live.cycle) (bytes_by part live live.cycle) →
      ForSome (last_of leg.writer) (λ u. (u < live.cycle) × ForSome (shown_by part live live.cycle) (λ shown. has_seen leg.writer shown.levels)) →
      length (sent_by part old.live old.from live.cycle) ≤ sent_room → IsGoing part live (state_of leg.writer) leg.sent.now old.from a (outside leg.writer.bench.now)
  leg_went end later whole stands last fits =
      let t = live.cycle in
      subst (λ (v : LiveView P). IsGoing part v (state_of leg.writer) leg.sent.now old.from a (outside leg.writer.bench.now)) (sym same)
      (leg_done part old.live (writer_of old) old.sent old.from a b may outside leg t end later begins begun serial first whole
      (subst (λ (v : LiveView P). LegStands outside leg (rows_by part v t) (bytes_by part v t)) same stands)
      (subst (λ (v : LiveView P). ForSome (last_of leg.writer) (λ u. (u < t) × ForSome (shown_by part v t) (λ shown. has_seen leg.writer shown.levels))) same last)
      fits)

  pub leg_said : LegStands outside leg (rows_by part live live.cycle) (bytes_by part live live.cycle) → (outside leg.writer.bench.now).written ports.Serial ≡ b.written ports.Serial
  leg_said stands =
      leg_silent part old.live (writer_of old) old.sent old.from a b may outside leg (rows_by part live live.cycle) (bytes_by part live live.cycle) begins begun serial stands

  pub leg_tied : (x : WriterState) → x ≡ state_of leg.writer → record { variables = x.head.variables; wave = x.wave } ≡ tied_of old
  leg_tied x e =
      ap (λ (y : WriterState). record { variables = y.head.variables; wave = y.wave }) e
      ∙ ap (λ (t : Tied). record { variables = t.variables; wave = t.wave }) tied
      ∙ ap (λ (y : WriterState). record { variables = y.head.variables; wave = y.wave }) state
