use Rattle.std.proofs.Common.{◌≡◌, ◌∙◌, ◌+◌, ◌-◌, ℕ, List, [], ◌∷◌, ◌++◌, length, false, arith, refl, ap, sym}
use Rattle.std.proofs.lemmas.List.{append-nil}
use Rattle.sim_base.specs.declared.bench.Port.TheVariants as ports
use Rattle.sim_base.specs.Rows.{Row}
use Rattle.text_model.specs.Wave.{begun_text}
use Rattle.vcd_text.specs.Heads.{HeadState}
use Rattle.vcd_text.specs.Ports.{texts, Leaves, BreaksOff}
use Rattle.vcd_text.specs.Writers.{capped}
use Rattle.vcd_text.proofs.WriterLemmas.{text_longer, both_ways, counts_look, unseen_wave, leaves_more, breaks_off, sum_rose, after_still, whole_still, whole_room, changed_more, kept_more, whole_front}
use Rattle.vcd_text.proofs.CallerLemmas.{breaks_within}
use Rattle.vcd_text.proofs.ChainLemmas.{seen_after}
use Rattle.vcd_text.proofs.writer.WaveWriterWatcher.row.Goals as goal

pub take_row-more-requires-clause-end : goal.take_row-more-requires-clause-end
take_row-more-requires-clause-end g c = omega (arith, c.requires.end)

pub take_row-more-requires-clause-room : goal.take_row-more-requires-clause-room
take_row-more-requires-clause-room g c =
    let w = c.args.self.now in
    whole_room w.whole _ (length w.head.now.text) c.requires.whole

pub take_row-more-requires-clause-told : goal.take_row-more-requires-clause-told
take_row-more-requires-clause-told g c = λ on.
    let w = c.args.self.now in
    let told = c.requires.changed w.last (rw on refl) in
    (told.0, told.1 (sym c.looks_at_rows.ensures ∙ c.if-not-looks_at_rows.false), told.2)

pub returns-clause-seen : goal.returns-clause-seen
returns-clause-seen g c = λ e looks.
    let row : Row = record { cycle = c.args.t; levels = c.args.levels.now; drives = c.args.drives.now } in
    seen_after c.args.self.now.head.now c.take_row-more.new.self c.pass_on-end.new.head row c.take_row-more.ensures.text c.pass_on-end.ensures.rest

pub returns-clause-ok : goal.returns-clause-ok
returns-clause-ok g c = λ e.
    let outside = g.B.Bench.outside in
    let w = c.args.self.now in
    let s = w.head.now in
    let h = c.take_row-more.new.self in
    let p = c.pass_on-end in
    let k = p.new.head in
    let row : Row = record { cycle = c.args.t; levels = c.args.levels.now; drives = c.args.drives.now } in
    let more = p.ensures.gone.0 in
    let looks = sym c.looks_at_rows.ensures ∙ c.if-not-looks_at_rows.false in
    let wrote : Leaves (texts w.wave false more []) (outside w.bench.now) (outside p.new.bench) = rw e at p.ensures.gone.2 in
    record {
      is_whole = whole_still w.whole c.is_ok-self.result w.wave ((outside w.bench.now).opened ports.Wave) ((outside p.new.bench).opened ports.Wave) (length s.text) (length k.text)
          (c.is_ok-self.ensures.ok e) (wrote.opened ports.Wave) p.ensures.room c.requires.whole;
      no_fault = omega (arith, wrote.faults ports.Wave, wrote.faults ports.Serial);
      appended = λ rows bytes stood. record {
        gone = stood.gone ++ more;
        kept = kept_more s h k rows row stood.gone more c.take_row-more.ensures.text p.ensures.rest p.ensures.gone.1 (stood.follows looks) stood.kept;
        leaves = rw (append-nil bytes) (leaves_more w.wave w.serial stood.gone more bytes (outside w.start.now.value) (outside w.bench.now) (outside p.new.bench) stood.leaves wrote);
        none = λ blind. absurd (both_ways w.wave w.serial looks blind);
        follows = λ seen. after_still s h k rows row c.take_row-more.ensures.text p.ensures.rest;
        changed = λ unwanted silent. rw (c.counted-self.ensures, unwanted, p.ensures.rest, c.take_row-more.ensures.text)
            (changed_more s rows row w.changes c.take_row-more.result (stood.follows looks) c.take_row-more.ensures.count (stood.changed unwanted silent));
        sent = rw (append-nil bytes) stood.sent;
        long = λ _.
            let longer : ℕ = length h.text - length s.text in
            let grown : capped (w.text_length + longer) ≡ c.saturating_add-self.result = omega (arith, c.saturating_add-self.ensures, c.saturating_sub-longer.ensures, ap (λ (l : List ℕ). length l) c.text.ensures, ap (λ (l : List ℕ). length l) c.text-before.ensures) in
            rw p.ensures.rest (sym grown ∙ text_longer s h rows row w.text_length longer c.take_row-more.ensures.text (stood.follows looks) (stood.long looks) refl);
      };
    }

pub returns-clause-failed : goal.returns-clause-failed
returns-clause-failed g c = λ e.
    let outside = g.B.Bench.outside in
    let w = c.args.self.now in
    let s = w.head.now in
    let h = c.take_row-more.new.self in
    let p = c.pass_on-end in
    let k = p.new.head in
    let row : Row = record { cycle = c.args.t; levels = c.args.levels.now; drives = c.args.drives.now } in
    let more = p.ensures.gone.0 in
    let looks = sym c.looks_at_rows.ensures ∙ c.if-not-looks_at_rows.false in
    let broke : BreaksOff (texts w.wave false more []) (outside w.bench.now) (outside p.new.bench) = rw e at p.ensures.gone.2 in (
      sum_rose w.wave more (outside w.bench.now) (outside p.new.bench) broke,
      λ rows bytes stood.
          rw (append-nil bytes)
          (breaks_within w.wave w.serial (stood.gone ++ more) (begun_text k.variables (rows ++ row ∷ [])) bytes bytes (outside w.start.now.value) (outside p.new.bench)
          (record { rest = k.text; whole = kept_more s h k rows row stood.gone more c.take_row-more.ensures.text p.ensures.rest p.ensures.gone.1 (stood.follows looks) stood.kept })
          (whole_front bytes)
          (breaks_off w.wave w.serial stood.gone more bytes (outside w.start.now.value) (outside w.bench.now) (outside p.new.bench) stood.leaves broke)),
    )

pub returns-then-not-looks_at_rows-clause-ok : goal.returns-then-not-looks_at_rows-clause-ok
returns-then-not-looks_at_rows-clause-ok g c = λ e.
    let w = c.args.self.now in
    let k = c.pass_row.new.self in
    let row : Row = record { cycle = c.args.t; levels = c.args.levels.now; drives = c.args.drives.now } in
    let blind = sym c.looks_at_rows.ensures ∙ c.if-not-looks_at_rows.true in
    let begun : List Row → List ℕ = λ rows. begun_text k.variables (rows ++ row ∷ []) in
    let text : k.text ≡ w.head.now.text = ap (λ (s : HeadState). s.text) c.pass_row.ensures in
    record {
      is_whole = rw text c.requires.whole;
      no_fault = refl;
      appended = λ rows bytes stood. record {
        gone = begun rows;
        kept = ap (λ (l : List ℕ). begun rows ++ l) (text ∙ stood.none blind) ∙ append-nil (begun rows);
        leaves = rw (append-nil bytes) (unseen_wave w.wave w.serial stood.gone (begun rows) bytes _ _ blind stood.leaves);
        none = λ same. text ∙ stood.none same;
        follows = λ looks. absurd (both_ways w.wave w.serial looks blind);
        changed = λ unwanted silent. absurd (counts_look w.wave w.serial blind unwanted silent);
        sent = rw (append-nil bytes) stood.sent;
        long = λ looks. absurd (both_ways w.wave w.serial looks blind);
      };
    }
