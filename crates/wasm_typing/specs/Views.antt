-- The checker's state as that of the definitions. No public clause cites it.
use Rattle.std.specs.Prelude.{◌≡◌, List, map, Option, Some, None, Bool, true, false, reverse, option_to_list}
use Rattle.wasm_code.specs.declared.types.ValType.{ValType}
use Rattle.wasm_typing.specs.Checking as checks
use Rattle.wasm_typing.specs.Checking.{Operand, Operands, Frame, Around, State, stay, turn}
use Rattle.wasm_typing.specs.declared.open.Frame.{Frame as Opened}
use Rattle.wasm_typing.specs.declared.open.Frame.TheVariants as frames
use Rattle.wasm_typing.specs.declared.open.Open.{Open}
use Rattle.wasm_typing.specs.declared.checker.Checker.{Checker}

abbrev pub frame_of : Opened → Frame
frame_of frames.Block = checks.Block
frame_of frames.Loop = checks.Loop
frame_of frames.If = checks.If
frame_of frames.Else = checks.Else

abbrev pub around_of : Open → Around
around_of o = record { known = reverse o.known.items; missing = o.missing; frame = frame_of o.frame; results = option_to_list o.result }

abbrev pub arounds : List Open → List Around
arounds os = map around_of (reverse os)

-- it says whether the step may be, and goes it
abbrev pub Follows : Bool → Option State → State → Type 0
Follows true o new = o ≡ Some new
Follows false o new = o ≡ None

-- the operands of the innermost block go by this, and the blocks around stay
abbrev pub Becomes : Bool → Option Operands → State → State → Type 0
Becomes may os old = Follows may (stay old.around os)

-- operands are taken, the first one topmost, and others are left
abbrev pub Turns : Bool → List ValType → List ValType → State → State → Type 0
Turns may takes leaves old = Becomes may (turn takes leaves old.known old.missing) old

abbrev pub LabelIs : Option (Option ValType) → Option (List ValType) → Type 0
LabelIs None o = o ≡ None
LabelIs (Some r) o = o ≡ Some (option_to_list r)

abbrev pub is_loop_form : Frame → Bool
is_loop_form checks.Loop = true
is_loop_form _ = false

abbrev pub state_of : Checker → State
state_of c = record { known = reverse c.known.items; missing = c.missing; around = arounds c.around.items }
