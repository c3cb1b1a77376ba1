use Rattle.std.proofs.Common.{◌≡◌, ◌∙◌, ◌+◌, ◌≤◌, ◌++◌, ℕ, List, length, take, drop, ap, sym, subst, if◌then◌else◌, arith}
use Rattle.std.proofs.lemmas.List.{length-map}
use Rattle.sim_base.specs.declared.signal.Drive.{Drive}
use Rattle.text_model.specs.Wave as wave
use Rattle.text_model.specs.Wave.{initial_values, value_changes, change_count}
use Rattle.vcd_text.specs.declared.variable.Variable.{Variable}
use Rattle.vcd_text.specs.Buffers.{BufferState}
use Rattle.vcd_text.specs.Heads.{HeadState, gathered, text_room, changed_by}
use Rattle.vcd_text.specs.Variables.{variable_of, variables_of}
use Rattle.vcd_text.specs.Chains.{sources, values_at, RestBut}
use Rattle.vcd_text.specs.Pins.{AreAmong, AreKept, kept_after}
use Rattle.vcd_text.proofs.HeadLemmas.{lent, chains_moved, rest_moved, row_made}
use Rattle.vcd_text.proofs.PinLemmas.{kept_next, among_next}
use Rattle.vcd_text.proofs.head.WaveHead.take.Goals as goal
use Rattle.vcd_text.proofs.head.WaveHead.take.Goals.{After-self-3-1}

pub push_row-count-requires : goal.push_row-count-requires
push_row-count-requires c =
    let i = c.self.inside in
    let v = c.self.invariant in
    let s = c.self.view_is in
    let vs = c.as_slice.ensures in
    record {
      end = c.requires.end;
      few = omega (arith, v.few, ap length vs);
      long = ap length c.deref_mut.ensures.value ∙ sym i.values.ok.0 ∙ v.values_long ∙ ap length (sym vs);
      chains = chains_moved (sym vs) (sym c.deref-2.ensures.value) (sym c.deref-3.ensures.value) v.chains;
      rest = rest_moved c.args.scope c.args.levels.now c.args.drives.now (ap (λ (x : HeadState). x.variables) (sym s) ∙ ap variables_of (sym vs))
          (ap (λ (x : HeadState). x.values) (sym s) ∙ sym c.deref_mut.ensures.value) c.requires.rest;
      room = omega (arith, v.room_is, c.requires.room, ap (λ (x : HeadState). length x.text) s, length-map i.variables variable_of, ap length vs, ap length (c.deref.ensures.value ∙ v.head_is));
    }

-- the values of the row, and the pins behind it
values_now : (c : After-self-3-1) → take c.self.inside.values.len (c.push_row-count.new.values ++ drop (length c.push_row-count.new.values) c.self.inside.values.items) ≡ values_at c.args.levels.now c.args.drives.now (variables_of c.self.inside.variables)
values_now c =
    let i = c.self.inside in
    let p = c.push_row-count in
    lent i.values.len i.values.items p.new.values i.values.ok.0 (p.auto.values ∙ ap length c.deref_mut.ensures.value) ∙ p.ensures.values
    ∙ ap (λ (vs : List Variable). values_at c.args.levels.now c.args.drives.now (variables_of vs)) c.as_slice.ensures

pins_now : (c : After-self-3-1) → take c.self.inside.pins.len (c.keep.new.pins ++ drop (length c.keep.new.pins) c.self.inside.pins.items) ≡ kept_after c.args.scope c.args.drives.now c.self.inside.pins.items
pins_now c =
    let i = c.self.inside in
    lent i.pins.len i.pins.items c.keep.new.pins i.pins.ok.0 (c.keep.auto.pins ∙ ap length c.deref_mut-2.ensures.value) ∙ c.keep.ensures ∙ ap (kept_after c.args.scope c.args.drives.now) c.deref_mut-2.ensures.value

pub invariant_of-self : goal.invariant_of-self
invariant_of-self c =
    let i = c.self.inside in
    let v = c.self.invariant in
    let levels = c.args.levels.now in
    let drives = c.args.drives.now in
    let vs : List wave.Variable = variables_of i.variables in
    let rest : RestBut c.args.scope vs i.values.items levels drives = subst (λ (x : HeadState). RestBut c.args.scope x.variables x.values levels drives) (sym c.self.view_is) c.requires.rest in
    record {
      few = v.few;
      head_is = v.head_is;
      values_long = v.values_long;
      room_is = subst (λ (n : ℕ). gathered + text_room (variables_of c.self.inside.variables) ≤ n) (sym (ap (λ (b : BufferState). b.room) c.push_row-count.ensures.text)) v.room_is;
      chains = v.chains;
      among = subst (λ (l : List (ℕ × Drive)). AreAmong l (sources vs)) (sym (pins_now c)) (among_next c.args.scope i.pins.items drives (sources vs) v.among);
      kept = subst (λ (l : List ℕ). AreKept (take i.pins.len (c.keep.new.pins ++ drop (length c.keep.new.pins) i.pins.items)) vs l) (sym (values_now c))
          (subst (λ (l : List (ℕ × Drive)). AreKept l vs (values_at levels drives vs)) (sym (pins_now c)) (kept_next c.args.scope i.pins.items vs i.values.items levels drives rest v.kept));
    }

pub returns-clause-text : goal.returns-clause-text
returns-clause-text c =
    let i = c.self.inside in
    let p = c.push_row-count in
    let t = c.args.cycle in
    let shown : List Variable → List ℕ = λ vs. values_at c.args.levels.now c.args.drives.now (variables_of vs) in
    let text : List ℕ → List ℕ → List ℕ → List ℕ = λ h old new. i.text.text ++ (if i.started then value_changes t old new else h ++ initial_values t new) in
    row_made (variables_of i.variables) i.values.items _ i.text.text p.new.out.text i.started c.args.self.now (record { cycle = t; levels = c.args.levels.now; drives = c.args.drives.now })
    c.self.view_is
    (values_now c)
    (ap (λ (b : BufferState). b.text) p.ensures.text
    ∙ ap (λ (l : List ℕ). text c.deref.result.now l (shown c.as_slice.result.now)) c.deref_mut.ensures.value
    ∙ ap (λ (vs : List Variable). text c.deref.result.now i.values.items (shown vs)) c.as_slice.ensures
    ∙ ap (λ (h : List ℕ). text h i.values.items (shown i.variables)) (c.deref.ensures.value ∙ c.self.invariant.head_is))

pub returns-clause-count : goal.returns-clause-count
returns-clause-count c =
    let i = c.self.inside in
    let p = c.push_row-count in
    let shown : List Variable → List ℕ = λ vs. values_at c.args.levels.now c.args.drives.now (variables_of vs) in
    let count : List ℕ → List ℕ → ℕ = λ old new. if i.started then change_count old new else 0 in
    subst (λ (s : HeadState). p.result ≡ changed_by s (record { cycle = c.args.cycle; levels = c.args.levels.now; drives = c.args.drives.now })) c.self.view_is
    (p.ensures.count ∙ ap (λ (l : List ℕ). count l (shown c.as_slice.result.now)) c.deref_mut.ensures.value ∙ ap (λ (vs : List Variable). count i.values.items (shown vs)) c.as_slice.ensures)
