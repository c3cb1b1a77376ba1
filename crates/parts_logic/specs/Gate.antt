-- Logic gates of one and two inputs (function tables of the data sheets of the 74HC04, 74HC34, 74HC08, 74HC32, 74HC00, 74HC02,
-- 74HC86 and 74HC7266; the delay of one cycle, and that OUT is High at the start, are the profile's).
use Rattle.std.proofs.Common.{refl, ap, sym, ◌∙◌, arith}
use Rattle.std.proofs.Math.Bool.{beq}
use Rattle.std.specs.Prelude.{◌≡◌, ℕ, ◌+◌, ◌*◌, List, [], ◌∷◌, length, Bool, true, false, Option, None, Some, slice_index_or}
use Rattle.sim_base.specs.declared.signal.Drive.{Drive}
use Rattle.sim_base.specs.declared.signal.Drive.TheVariants as drives
use Rattle.sim_base.specs.declared.signal.Level.{Level}
use Rattle.part_catalog.specs.declared.kind.Kind.{Kind}
use Rattle.part_catalog.specs.declared.kind.Kind.TheVariants as kinds
use Rattle.part_reactive.specs.Pins.{reads_at, output, digit}
use Rattle.part_reactive.specs.Reaction.{Reaction, ReactionLaws}
use Rattle.parts_logic.specs.Same.{beq_then, beq_self}
use Rattle.parts_logic.specs.declared.gate.GateOp.{GateOp}
use Rattle.parts_logic.specs.declared.gate.GateOp.TheVariants as ops

-- OUT for each reading of the inputs: IN 0 and 1, or A and B 00, 01, 10 and 11
abbrev pub truth : GateOp → List Bool
truth ops.Not = true ∷ false ∷ []
truth ops.Buffer = false ∷ true ∷ []
truth ops.And = false ∷ false ∷ false ∷ true ∷ []
truth ops.Or = false ∷ true ∷ true ∷ true ∷ []
truth ops.Nand = true ∷ true ∷ true ∷ false ∷ []
truth ops.Nor = true ∷ false ∷ false ∷ false ∷ []
truth ops.Xor = false ∷ true ∷ true ∷ false ∷ []
truth ops.Xnor = true ∷ false ∷ false ∷ true ∷ []

abbrev pub input_count : GateOp → ℕ
input_count ops.Not = 1
input_count ops.Buffer = 1
input_count op = 2

-- the place in that table of what the first two pins read; with one input the second pin is OUT
abbrev pub row_of : GateOp → Bool → Bool → ℕ
row_of ops.Not a b = digit a
row_of ops.Buffer a b = digit a
row_of op a b = 2 * digit a + digit b

abbrev pub out_by : GateOp → Bool → Bool → Bool
out_by op a b = slice_index_or (truth op) (row_of op a b) false

abbrev pub out_on : GateOp → List Level → Bool
out_on op ls = out_by op (reads_at ls 0) (reads_at ls 1)

-- the inputs drive nothing, and behind them stands OUT
abbrev pub drives_of : GateOp → Bool → List Drive
drives_of ops.Not out = drives.Z ∷ output out ∷ []
drives_of ops.Buffer out = drives.Z ∷ output out ∷ []
drives_of op out = drives.Z ∷ drives.Z ∷ output out ∷ []

pub record GateState : Type 0 where
  pub op : GateOp
  pub out : Bool

abbrev pub gate : Reaction GateState
gate = record {
  react = λ s before now input. record { op = s.op; out = out_on s.op now };
  drives = λ s. drives_of s.op s.out;
  contacts = λ s. [];
  agrees = λ s ls. beq s.out (out_on s.op ls);
  counted = λ s. 0;
}

abbrev pub new_gate : GateOp → GateState
new_gate op = record { op = op; out = true }

-- the gate of a kind
abbrev pub gate_of : Kind → Option GateOp
gate_of kinds.GateNot = Some ops.Not
gate_of kinds.GateBuffer = Some ops.Buffer
gate_of kinds.GateAnd2 = Some ops.And
gate_of kinds.GateOr2 = Some ops.Or
gate_of kinds.GateNand2 = Some ops.Nand
gate_of kinds.GateNor2 = Some ops.Nor
gate_of kinds.GateXor2 = Some ops.Xor
gate_of kinds.GateXnor2 = Some ops.Xnor
gate_of kind = None

-- it has its inputs and OUT
pub length-drives_of : (op : GateOp) (out : Bool) → length (drives_of op out) ≡ input_count op + 1
length-drives_of ops.Not out = refl
length-drives_of ops.Buffer out = refl
length-drives_of op out = refl

pub gate_laws : ReactionLaws gate
gate_laws = record {
  still = λ s ls h. ap (λ (out : Bool). record { op = s.op; out = out }) (beq_then s.out (out_on s.op ls) h);
  agrees_then = λ s before now input. beq_self (out_on s.op now);
  keeps_pins = λ s before now input. length-drives_of s.op (out_on s.op now) ∙ sym (length-drives_of s.op s.out);
  keeps_contacts = λ s before now input. refl;
  counts_once = λ s before now input. omega arith;
}
