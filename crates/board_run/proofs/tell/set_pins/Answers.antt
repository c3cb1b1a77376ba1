use Rattle.board_run.proofs.Common.{◌≡◌, ◌≢◌, ◌<◌, ◌≤◌, ◌+◌, ◌∙◌, inl, inr, ℕ, ap, sym, arith, length, List, length-set, true, false, slice_get, slice_set}
use Rattle.board_run.proofs.Common.{set_same, Drive, NetsView, lt_or_eq, get_set_same, get_set_other}
use Rattle.board_run.proofs.ReadLemmas.{span_put, span_there}
use Rattle.board_run.proofs.tell.set_pins.Goals.{then-drives_other, else-drives_other}
use Rattle.board_run.proofs.tell.set_pins.Goals as goal

pub overflow_add-at : goal.overflow_add-at
overflow_add-at g c = omega (arith, c.requires.room, c.requires.few, c.pins.ensures)

pub loop-pin-preserved : goal.loop-pin-preserved
loop-pin-preserved g c =
    let ds = c.loop-pin.nets.drives in
    let pin = c.loop-pin.pin in
    let i = c.loop-pin.invariant in
    let room : c.args.at + pin < length ds = omega (arith, i.long, c.requires.room, c.requires.long, c.pins.ensures) in
    let d = c.drive-drive.result in
    let told : c.if-drives_other.nets ≡ record c.loop-pin.nets { drives = slice_set ds (c.args.at + pin) d } = elim c.if-drives_other.branch [
      | then-drives_other w ↦ w.nets-is ∙ w.set_drive.ensures
      | else-drives_other w ↦ w.nets-is ∙ ap (λ (l : List Drive). record c.loop-pin.nets { drives = l }) (sym (set_same ds (c.args.at + pin) d (c.drives_other.ensures.same w.if-drives_other.false)))
    ] in
    let new = ap (λ (x : NetsView). x.drives) told in
    let was : slice_get ds (c.args.at + pin) ≡ slice_get c.args.nets.now.drives (c.args.at + pin) = i.rest (c.args.at + pin) (inr (omega arith)) in
    let to : c.min-to.result ≤ c.pins.result = grind (arith, c.min-to.ensures) in
    record {
      long = ap length new ∙ length-set ds (c.args.at + pin) d ∙ i.long;
      told = λ j from h. elim (lt_or_eq j pin h) [
        | inl less ↦ (let other : c.args.at + j ≢ c.args.at + pin = omega arith in ap (λ (l : List Drive). slice_get l (c.args.at + j)) new ∙ get_set_other ds (c.args.at + pin) (c.args.at + j) d other ∙ i.told j from less)
        | inr same ↦ ap (λ (l : List Drive). slice_get l (c.args.at + j)) new ∙ ap (λ (k : ℕ). slice_get (slice_set ds (c.args.at + pin) d) (c.args.at + k)) same
            ∙ get_set_same ds (c.args.at + pin) d room ∙ sym c.drive-drive.ensures ∙ ap (slice_get (g.P.Part.machine.drives (g.P.Part.state c.args.part.now))) (sym same)
      ];
      rest = λ x h. elim h [
        | inl less ↦ (let other : x ≢ c.args.at + pin = omega (arith, less) in ap (λ (l : List Drive). slice_get l x) new ∙ get_set_other ds (c.args.at + pin) x d other ∙ i.rest x (inl less))
        | inr more ↦ (let other : x ≢ c.args.at + pin = omega (arith, more) in ap (λ (l : List Drive). slice_get l x) new ∙ get_set_other ds (c.args.at + pin) x d other ∙ i.rest x (inr (omega (arith, more))))
      ];
      same = λ none j from h.
          let both : (c.loop-pin.changed ≡ false) × (c.drives_other.result ≡ false) = elim c.if-drives_other.branch [
            | then-drives_other w ↦ absurd (let wrong : true ≡ false = sym w.changed-is ∙ none in cc)
            | else-drives_other w ↦ (sym w.changed-is ∙ none, w.if-drives_other.false)
          ] in
          elim (lt_or_eq j pin h) [
            | inl less ↦ i.same both.0 j from less
            | inr same ↦ ap (λ (k : ℕ). slice_get c.args.nets.now.drives (c.args.at + k)) same ∙ sym was ∙ c.drives_other.ensures.same both.1 ∙ sym c.drive-drive.ensures
                ∙ ap (slice_get (g.P.Part.machine.drives (g.P.Part.state c.args.part.now))) (sym same)
          ];
      other = λ one has. elim c.if-drives_other.branch [
        | else-drives_other w ↦ i.other (sym w.changed-is ∙ one) has
        | then-drives_other w ↦ c.drives_other.ensures.other w.if-drives_other.true (was ∙ has pin (omega (arith, c.loop-pin-test.true, c.pins.ensures, c.min-to.ensures, to)) ∙ c.drive-drive.ensures)
      ];
      others = told ∙ ap (λ (x : NetsView). record x { drives = slice_set ds (c.args.at + pin) d }) i.others ∙ ap (λ (xs : List Drive). record c.args.nets.now { drives = xs }) (sym new);
    }

pub returns-clause-put : goal.returns-clause-put
returns-clause-put g c =
    let i = c.loop-pin.invariant in
    let order : c.min-from.result ≤ c.min-to.result = grind (arith, c.min-from.ensures) in
    let end : c.loop-pin.pin ≡ c.min-to.result = omega (arith, c.loop-pin.auto.pin-end order, c.loop-pin-test.false) in
    span_put (g.P.Part.machine.drives (g.P.Part.state c.args.part.now)) c.args.nets.now.drives c.loop-pin.nets.drives c.args.span c.args.at c.pins.result c.min-from.result c.min-to.result
    c.pins.ensures (let few = c.pins.type_inv in omega (arith, few)) c.min-to.ensures c.min-from.ensures i.long (λ j from h. i.told j from (omega (arith, end, h)))
    (λ x h. elim h [ inl l ↦ i.rest x (inl l) | inr r ↦ i.rest x (inr (omega (arith, r, end))) ]) c.requires.others

pub returns-clause-same : goal.returns-clause-same
returns-clause-same g c = λ none.
    let i = c.loop-pin.invariant in
    let order : c.min-from.result ≤ c.min-to.result = grind (arith, c.min-from.ensures) in
    let end : c.loop-pin.pin ≡ c.min-to.result = omega (arith, c.loop-pin.auto.pin-end order, c.loop-pin-test.false) in
    span_there (g.P.Part.machine.drives (g.P.Part.state c.args.part.now)) c.args.nets.now.drives c.args.span c.args.at c.pins.result c.min-from.result c.min-to.result
    c.pins.ensures (let few = c.pins.type_inv in omega (arith, few)) c.min-to.ensures c.min-from.ensures (λ j from h. i.same none j from (omega (arith, end, h))) c.requires.others
