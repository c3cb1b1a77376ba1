-- A live board and its writer go on.
use Rattle.std.proofs.Common.{◌≡◌, ◌∙◌, ℕ, ◌<◌, ◌≤◌, List, [], ◌++◌, take, drop, length, map, Bool, true, false, None, refl, ap, sym, subst, arith}
use Rattle.std.specs.Option.{ForSome}
use Rattle.std.proofs.Math.Seq.{drop-length}
use Rattle.sim_base.specs.declared.bench.Port.TheVariants as ports
use Rattle.sim_base.specs.declared.limits.TheConstants.{MOST_CYCLES}
use Rattle.sim_base.specs.declared.wiring.Input.{Input}
use Rattle.sim_base.specs.Outside.{Outside, SamePorts}
use Rattle.sim_base.specs.Rows.{Row}
use Rattle.text_model.specs.Wave.{begun_text}
use Rattle.part_law.specs.declared.part.Part.{Ghosts}
use Rattle.board_model.specs.Board.{bytes}
use Rattle.board_model.specs.Rows.{rows}
use Rattle.law_board.specs.Scripts.{SameRun}
use Rattle.board_live.specs.LiveView.{LiveView, rows_by, bytes_by, shown_by}
use Rattle.vcd_text.specs.Ports.{texts, BreaksOff}
use Rattle.vcd_text.specs.Writers.{Tied, WriterState, place_of, state_of, is_whole, last_of, has_seen, whole_by, last_by, StandsBy}
use Rattle.live_leg.specs.declared.leg.Leg.{Leg}
use Rattle.live_leg.specs.Legs.{LegStands, LegStopped}
use Rattle.live_leg.specs.Said.{HasSaid}
use Rattle.live_leg.specs.SentView.{SentView, sent_room}
use Rattle.live_leg.specs.Talks.{IsGoing, sent_by}
use Rattle.live_leg.proofs.CountLemmas.{long_by, count_exact, all_kept}
use Rattle.live_leg.proofs.SaidLemmas.{stands_said, stands_as, said_none, broke_within}

module _ {P : Type 0} (part : Ghosts P) where
  -- the same, said of other values that are these
  pub going_as : (s t : LiveView P) (w x : WriterState) (sent keep : SentView) (from since : ℕ) (a b c d : Outside) → s ≡ t → w ≡ x → sent ≡ keep → from ≡ since → a ≡ c → b ≡ d →
      IsGoing part t x keep since c d → IsGoing part s w sent from a b
  going_as s t w x sent keep from since a b c d e f g h i j going =
      subst (λ (z : LiveView P). IsGoing part z w sent from a b) (sym e)
      (subst (λ (z : WriterState). IsGoing part t z sent from a b) (sym f)
      (subst (λ (z : SentView). IsGoing part t x z from a b) (sym g)
      (subst (λ (z : ℕ). IsGoing part t x keep z a b) (sym h)
      (subst (λ (z : Outside). IsGoing part t x keep since z b) (sym i)
      (subst (λ (z : Outside). IsGoing part t x keep since c z) (sym j) going)))))

  -- at cycle 0, where nothing was said
  pub going_first : (s : LiveView P) (w : WriterState) (a b : Outside) → s.cycle ≡ 0 → s.over ≡ false → length s.start ≤ 64 → w.serial ≡ true → whole_by w b ≡ true → last_by w ≡ None → StandsBy w a b [] [] →
      IsGoing part s w (record { bytes = []; total = 0; first = 0 }) 0 a b
  unfolding rows bytes
  going_first s w a b cycle alive few serial whole last stands = record {
    alive = alive;
    few = few;
    end = rw cycle (omega arith);
    serial = serial;
    whole = whole;
    text = [];
    stands = rw cycle stands;
    last = λ u eu. absurd (let none = sym last ∙ eu in cc);
    within = omega arith;
    first = refl;
    bytes = rw cycle refl;
    total = rw cycle refl;
  }

  module _ (s : LiveView P) (w : WriterState) (sent : SentView) (from : ℕ) (a b : Outside) (going : IsGoing part s w sent from a b) where
    -- what was said
    pub going_said : HasSaid a b going.text
    going_said = stands_said w a b (rows_by part s s.cycle) going.text going.serial going.stands

    pub stands_with : (said : List ℕ) → HasSaid a b said → StandsBy w a b (rows_by part s s.cycle) said
    stands_with said has = stands_as w a b (rows_by part s s.cycle) going.text said going.serial has going.stands

    -- its writer wrote something, but no row
    pub going_wrote : (x : WriterState) (c : Outside) (text : List ℕ) → x.wave ≡ w.wave → x.serial ≡ w.serial → x.head.variables ≡ w.head.variables → x.head.values ≡ w.head.values → last_by x ≡ last_by w →
        whole_by x c ≡ true → StandsBy x a c (rows_by part s s.cycle) text → IsGoing part s x sent from a c
    going_wrote x c text wave serial variables values last whole stands = record {
      alive = going.alive;
      few = going.few;
      end = going.end;
      serial = serial ∙ going.serial;
      whole = whole;
      text = text;
      stands = stands;
      last = λ u eu. let l = going.last u (sym last ∙ eu) in (l.0, λ shown e looks. rw (variables, values) (l.1 shown e (rw (← wave, ← serial) looks)));
      within = going.within;
      first = going.first;
      bytes = going.bytes;
      total = going.total;
    }

    -- the bytes of later cycles alone are kept
    pub going_emptied : IsGoing part s w (record sent { bytes = []; first = sent.total }) s.cycle a b
    going_emptied = record {
      alive = going.alive;
      few = going.few;
      end = going.end;
      serial = going.serial;
      whole = going.whole;
      text = going.text;
      stands = going.stands;
      last = going.last;
      within = omega arith;
      first = going.total;
      bytes = sym (drop-length (bytes_by part s s.cycle));
      total = going.total;
    }

    -- a part was given a value
    pub going_given : (more : List Input) → ((n : ℕ) → n ≤ s.cycle → SameRun part.machine s.wiring s.inputs more None (map part.state s.start) 0 n) →
        IsGoing part (record s { inputs = more }) w sent from a b
    going_given more past =
        let now = past s.cycle (omega arith) in
        let then = past from going.within in
        record {
          alive = going.alive;
          few = going.few;
          end = going.end;
          serial = going.serial;
          whole = going.whole;
          text = going.text;
          stands = rw now.same_rows going.stands;
          last = λ u eu. let l = going.last u eu in (l.0, λ shown e. l.1 shown (sym now.same_shown ∙ e));
          within = going.within;
          first = rw then.same_bytes going.first;
          bytes = rw (then.same_bytes, now.same_bytes) going.bytes;
          total = rw now.same_bytes going.total;
        }

    -- A request was read.
    pub going_read : (c : Outside) → SamePorts (record b { requests = c.requests }) c → c.read_faults ≡ b.read_faults → IsGoing part s w sent from a c
    going_read c same reads = record {
      alive = going.alive;
      few = going.few;
      end = going.end;
      serial = going.serial;
      whole = rw (same.opened ports.Wave) going.whole;
      text = going.text;
      stands = record {
        gone = going.stands.gone;
        kept = going.stands.kept;
        leaves = record {
          files = same.files ∙ going.stands.leaves.files;
          name = λ p. same.name p ∙ going.stands.leaves.name p;
          opened = λ p. same.opened p ∙ going.stands.leaves.opened p;
          reads = reads ∙ going.stands.leaves.reads;
          written = λ p. rw (same.written p) (going.stands.leaves.written p);
          faults = λ p. same.faults p ∙ going.stands.leaves.faults p;
        };
        none = going.stands.none;
        follows = going.stands.follows;
        changed = going.stands.changed;
        sent = going.stands.sent;
        long = going.stands.long;
      };
      last = going.last;
      within = going.within;
      first = going.first;
      bytes = going.bytes;
      total = going.total;
    }

    module _ {B : Type 0} (outside : B → Outside) (leg : Leg B) where
      -- a leg begins
      pub leg_begins : state_of leg.writer ≡ w → outside leg.writer.start.now.value ≡ a → outside leg.writer.bench.now ≡ b → outside leg.begun.now.value ≡ b → leg.sent.now ≡ sent → length sent.bytes ≤ sent_room →
          LegStands outside leg (rows_by part s s.cycle) (bytes_by part s s.cycle)
      leg_begins state start now begun keeps fits = record {
        wrote = λ said has.
            rw (state, start, now) (stands_with said (rw (← start, ← begun) has));
        sent = rw keeps (record {
          kept = going.bytes ∙ sym (all_kept part s from s.cycle (subst (λ (l : List ℕ). length l ≤ sent_room) going.bytes fits)) ∙ ap (λ (n : ℕ). take sent_room (drop n (bytes_by part s s.cycle))) (sym going.first);
          counted = going.total ∙ count_exact part s s.cycle going.few going.end;
          began = rw going.first (long_by part s from s.cycle going.within);
        });
      }

      -- it is done
      pub leg_done : (t : ℕ) → t ≤ MOST_CYCLES → from ≤ t → outside leg.writer.start.now.value ≡ a → outside leg.begun.now.value ≡ b → (state_of leg.writer).serial ≡ true → leg.sent.now.first ≡ sent.first →
          is_whole outside leg.writer ≡ true → LegStands outside leg (rows_by part s t) (bytes_by part s t) →
          ForSome (last_of leg.writer) (λ u. (u < t) × ForSome (shown_by part s t) (λ shown. has_seen leg.writer shown.levels)) →
          length (sent_by part s from t) ≤ sent_room → IsGoing part (record s { cycle = t }) (state_of leg.writer) leg.sent.now from a (outside leg.writer.bench.now)
      leg_done t end later start begun serial first whole stands last fits = record {
        alive = going.alive;
        few = going.few;
        end = end;
        serial = serial;
        whole = whole;
        text = going.text;
        stands = rw (← start) (stands.wrote going.text (rw (start, begun) going_said));
        last = last;
        within = later;
        first = first ∙ going.first;
        bytes = stands.sent.kept ∙ ap (λ (n : ℕ). take sent_room (drop n (bytes_by part s t))) (first ∙ going.first) ∙ all_kept part s from t fits;
        total = stands.sent.counted ∙ sym (count_exact part s t going.few end);
      }

      -- nothing was said in it
      pub leg_silent : (rows : List Row) (bytes : List ℕ) → outside leg.writer.start.now.value ≡ a → outside leg.begun.now.value ≡ b → (state_of leg.writer).serial ≡ true → LegStands outside leg rows bytes →
          (outside leg.writer.bench.now).written ports.Serial ≡ b.written ports.Serial
      leg_silent rows bytes start begun serial stands =
          said_none a b (outside leg.writer.bench.now) going.text going_said
          (rw (← start) (stands_said (state_of leg.writer) (outside leg.writer.start.now.value) (outside leg.writer.bench.now) rows going.text serial (stands.wrote going.text (rw (start, begun) going_said))))

-- a leg broke off
pub leg_broke : {B : Type 0} (outside : B → Outside) (leg : Leg B) (tied : Tied) (a b : Outside) (front more made : List Row) (bytes said : List ℕ) →
    place_of outside leg.writer ≡ tied → tied.start ≡ a → tied.serial ≡ true → outside leg.begun.now.value ≡ b → front ++ more ≡ made → LegStopped outside leg front bytes → HasSaid a b said →
    BreaksOff (texts tied.wave true (begun_text tied.variables made) said) a (outside leg.writer.bench.now)
leg_broke outside leg tied a b front more made bytes said same start serial begun whole stopped has =
    let first : (place_of outside leg.writer).start ≡ a = ap (λ (t : Tied). t.start) same ∙ start in
    let broke = stopped said (rw (first, begun) has) in
    let Broke : Tied → Type 0 = λ t. BreaksOff (texts t.wave t.serial (begun_text t.variables front) said) t.start (outside leg.writer.bench.now) in
    let there : BreaksOff (texts tied.wave tied.serial (begun_text tied.variables front) said) tied.start (outside leg.writer.bench.now) = subst Broke same broke in
    let here : BreaksOff (texts tied.wave true (begun_text tied.variables front) said) a (outside leg.writer.bench.now) =
    subst (λ (o : Outside). BreaksOff (texts tied.wave true (begun_text tied.variables front) said) o (outside leg.writer.bench.now)) start
    (subst (λ (k : Bool). BreaksOff (texts tied.wave k (begun_text tied.variables front) said) tied.start (outside leg.writer.bench.now)) serial there) in
    broke_within tied.wave tied.variables front more made said a (outside leg.writer.bench.now) whole here
