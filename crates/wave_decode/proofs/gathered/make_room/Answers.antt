use Rattle.std.proofs.Common.{◌++◌, ◌∙◌, List, ℕ, ap}
use Rattle.std.proofs.lemmas.List.{append-nil}
use Rattle.wave_decode.proofs.gathered.make_room.Goals as goal

pub returns-else-len-le4000-clause-gathers : goal.returns-else-len-le4000-clause-gathers
returns-else-len-le4000-clause-gathers g c = λ a told x.
    let gone = x.0 ++ c.args.text.now.items in
    (gone, ap (λ (t : List ℕ). gone ++ t) c.write_out.ensures.empty ∙ append-nil gone ∙ x.1, c.write_out.ensures.next a x.0 x.2)
