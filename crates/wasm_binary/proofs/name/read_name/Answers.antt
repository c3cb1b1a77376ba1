use Rattle.std.proofs.Common.{sym, subst, List, ℕ}
use Rattle.std.proofs.lemmas.Result.{err_from_is_err_and}
use Rattle.wasm_binary.specs.Leb.{u32}
use Rattle.wasm_binary.specs.Names.{name, name_of_length}
use Rattle.wasm_binary.specs.Reads.{Reads}
use Rattle.wasm_binary.proofs.Steps.{then_reads, then_fails}
use Rattle.wasm_binary.proofs.NameLemmas.{name_is_utf8}
use Rattle.wasm_binary.proofs.name.read_name.Goals as goal

pub returns-in_err-bytes : goal.returns-in_err-bytes
returns-in_err-bytes c =
    let p = err_from_is_err_and c.from_residual-in_err-bytes.result c.from_residual-in_err-bytes.ensures.1 in
    rw (p.1, p.2) (then_fails u32 name_of_length c.args.reader.now c.index.new.reader c.in_ok-count.count _ c.in_ok-count.ensures c.in_err-bytes.ensures)

pub from_utf8-requires : goal.from_utf8-requires
from_utf8-requires c = name_is_utf8 c.in_ok-count.count c.in_ok-bytes.ensures.0 c.in_ok-bytes.bytes.items c.in_ok-bytes.ensures.1

pub returns : goal.returns
returns c =
    let r = then_reads u32 name_of_length c.args.reader.now c.index.new.reader c.name_bytes.new.reader c.in_ok-count.count c.in_ok-bytes.bytes.items c.in_ok-count.ensures c.in_ok-bytes.ensures in
    subst (λ (x : List ℕ). Reads name c.args.reader.now c.name_bytes.new.reader x) (sym c.from_utf8.ensures) r
