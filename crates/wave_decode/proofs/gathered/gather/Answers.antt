use Rattle.std.proofs.Common.{◌++◌, ◌∙◌, ℕ, List, sym, ap}
use Rattle.std.proofs.lemmas.List.{append_assoc}
use Rattle.wave_decode.proofs.gathered.gather.Goals as goal

pub returns-clause-gathers : goal.returns-clause-gathers
returns-clause-gathers g c = λ a told x.
    let y = c.make_room-end.ensures.gathers a told x in
    let line : List ℕ = c.args.line.now.items in
    let more = c.add.ensures ∙ ap (λ (t : List ℕ). c.make_room-end.new.text.items ++ t) c.as_slice.ensures.value in
    (y.0, ap (λ (t : List ℕ). y.0 ++ t) more ∙ sym (append_assoc y.0 c.make_room-end.new.text.items line) ∙ ap (λ (t : List ℕ). t ++ line) y.1, y.2)
