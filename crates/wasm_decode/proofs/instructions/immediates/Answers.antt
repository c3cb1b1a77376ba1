use Rattle.wasm_decode.specs.declared.instructions.Shape.TheVariants as shapes
use Rattle.wasm_decode.proofs.InstrLemmas.{shaped, bare_read, number_read}
use Rattle.std.proofs.Common.{Ok}
use Rattle.wasm_decode.proofs.instructions.immediates.Goals as goal

pub returns-in-Block : goal.returns-in-Block
returns-in-Block c = shaped c.args.op c.classify.result shapes.Block _ _ c.block.result c.classify.ensures c.in-Block.is c.block.ensures

pub returns-in-Index : goal.returns-in-Index
returns-in-Index c = shaped c.args.op c.classify.result shapes.Index _ _ c.indexed.result c.classify.ensures c.in-Index.is c.indexed.ensures

pub returns-in-Table : goal.returns-in-Table
returns-in-Table c = shaped c.args.op c.classify.result shapes.Table _ _ c.br_table.result c.classify.ensures c.in-Table.is c.br_table.ensures

pub returns-in-Indirect : goal.returns-in-Indirect
returns-in-Indirect c = shaped c.args.op c.classify.result shapes.Indirect _ _ c.call_indirect.result c.classify.ensures c.in-Indirect.is c.call_indirect.ensures

pub returns-in-Access : goal.returns-in-Access
returns-in-Access c = shaped c.args.op c.classify.result shapes.Access _ _ c.access.result c.classify.ensures c.in-Access.is c.access.ensures

pub returns-in-Reserved : goal.returns-in-Reserved
returns-in-Reserved c = shaped c.args.op c.classify.result shapes.Reserved _ _ c.reserved.result c.classify.ensures c.in-Reserved.is c.reserved.ensures

pub returns-in-Const32 : goal.returns-in-Const32
returns-in-Const32 c = shaped c.args.op c.classify.result shapes.Const32 _ _ c.const_32.result c.classify.ensures c.in-Const32.is c.const_32.ensures

pub returns-in-Const64 : goal.returns-in-Const64
returns-in-Const64 c = shaped c.args.op c.classify.result shapes.Const64 _ _ c.const_64.result c.classify.ensures c.in-Const64.is c.const_64.ensures

pub returns-in-Bare : goal.returns-in-Bare
returns-in-Bare c = shaped c.args.op c.classify.result shapes.Bare _ _ (Ok c.bare.result) c.classify.ensures c.in-Bare.is (bare_read c.args.op c.bare.result _ c.bare.ensures)

pub returns-in-Number : goal.returns-in-Number
returns-in-Number c = shaped c.args.op c.classify.result shapes.Number _ _ (Ok c.numeric.result) c.classify.ensures c.in-Number.is (number_read c.args.op c.numeric.result _ c.numeric.ensures)

pub returns-in-Float32 : goal.returns-in-Float32
returns-in-Float32 c = shaped c.args.op c.classify.result shapes.Float32 _ _ c.float_32.result c.classify.ensures c.in-Float32.is c.float_32.ensures

pub returns-in-Float64 : goal.returns-in-Float64
returns-in-Float64 c = shaped c.args.op c.classify.result shapes.Float64 _ _ c.float_64.result c.classify.ensures c.in-Float64.is c.float_64.ensures

pub returns-in-Prefixed : goal.returns-in-Prefixed
returns-in-Prefixed c = shaped c.args.op c.classify.result shapes.Prefixed _ _ c.prefixed.result c.classify.ensures c.in-Prefixed.is c.prefixed.ensures
