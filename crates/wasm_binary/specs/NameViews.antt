-- What the reader of names keeps. No public clause cites it.
use Rattle.std.specs.Prelude.{ℕ, zero, suc, List, [], ◌∷◌, replicate}
use Rattle.wasm_binary.specs.declared.name.Tails.{Tails}
use Rattle.wasm_binary.specs.Names.{Span, any_tail}

-- so many bytes, the first within these bounds
abbrev pub spans : ℕ → ℕ → ℕ → List Span
spans zero least greatest = []
spans (suc n) least greatest = (least, greatest) ∷ replicate n any_tail

abbrev pub spans_of : Tails → List Span
spans_of t = spans t.count t.least t.greatest
