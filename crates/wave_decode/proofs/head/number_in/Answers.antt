use Rattle.std.proofs.Common.{ℕ, List, ◌∙◌, ap}
use Rattle.std.specs.Borrow.{Bor}
use Rattle.std.specs.List.{position}
use Rattle.std.specs.Str.{bytes_eq}
use Rattle.wave_decode.proofs.HeadLemmas.{position_text}
use Rattle.wave_decode.proofs.head.number_in.Goals as goal

pub returns : goal.returns
returns c =
    c.get_index_of.ensures.index
    ∙ ap (λ (t : List ℕ). position (λ (k : Bor (List ℕ)). bytes_eq t k.now) c.args.names.now.keys) c.as_bytes.ensures.value
    ∙ position_text (bytes_eq c.args.name.now) c.args.names.now.keys
