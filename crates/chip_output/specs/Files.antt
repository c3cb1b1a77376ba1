-- The calls on files of a C library (WASI snapshot preview 1, "fd_write", "fd_fdstat_get", "fd_seek", "fd_close"). Files 1 and 2 are the
-- chip's console (profile, docs/CHIPS.md); there are no others.
use Rattle.std.specs.Prelude.{ℕ, zero, suc, ◌+◌, ◌*◌, ◌^◌, ◌%◌, ◌==◌, nat_lt, List, [], ◌∷◌, ◌++◌, replicate, Bool, true, not, ◌&&◌, ◌||◌, if◌then◌else◌}
use Rattle.std.specs.Int.{w32, from_le_bytes}
use Rattle.wasm_num.specs.declared.trap.Trap.TheVariants as traps
use Rattle.wasm_num.specs.Mem.{Mem, has, put, written}
use Rattle.wasm_semantics.specs.Eval.{Answer}
use Rattle.chip_output.specs.Output.{OutputState, printed, bytes_at, gives, fails}

-- errno: badf, inval, spipe
abbrev pub no_file : ℕ
no_file = 8

abbrev pub invalid : ℕ
invalid = 28

abbrev pub no_seek : ℕ
no_seek = 70

abbrev pub is_console : ℕ → Bool
is_console file = file == 1 || file == 2

abbrev pub word : Mem → ℕ → ℕ
word m address = from_le_bytes w32 (bytes_at m address 4)

-- where a piece of text begins in the memory, and how many bytes it has ("ciovec")
pub record Piece : Type 0 where
  pub address : ℕ
  pub count : ℕ

-- the pieces of a list, whose entries have 8 bytes ("ciovec_array")
abbrev pub pieces : Mem → ℕ → ℕ → List Piece
pieces m list zero = []
pieces m list (suc n) = record { address = word m list; count = word m (list + 4) } ∷ pieces m (list + 8) n

abbrev pub are_inside : Mem → List Piece → Bool
are_inside m [] = true
are_inside m (p ∷ ps) = has m p.address p.count && are_inside m ps

abbrev pub text : Mem → List Piece → List ℕ
text m [] = []
text m (p ∷ ps) = bytes_at m p.address p.count ++ text m ps

abbrev pub total : List Piece → ℕ
total [] = 0
total (p ∷ ps) = p.count + total ps

-- whether the list, each of its pieces and the word for their total are inside the memory
abbrev pub is_readable : Mem → ℕ → ℕ → ℕ → Bool
is_readable m list count sum = has m list (8 * count) && are_inside m (pieces m list count) && has m sum 4

abbrev pub prints : Mem → List Piece → ℕ → OutputState → Answer OutputState
prints m ps sum o = gives 0 (record o { console = printed o.console (text m ps) }) (written w32 m sum (total ps % 2 ^ 32))

-- file, list of pieces, their number (up to 16), address of the word for their total
abbrev pub fd_write : ℕ → ℕ → ℕ → ℕ → Mem → OutputState → Answer OutputState
fd_write file list count sum m o =
    if not (is_console file) then gives no_file o m
    else if nat_lt 16 count then gives invalid o m
    else if is_readable m list count sum then prints m (pieces m list count) sum o
    else fails traps.HostAddress o m

-- the 24 bytes of "fdstat": filetype 2, character_device, and no flag and no right
abbrev pub console_status : List ℕ
console_status = 2 ∷ replicate 23 0

-- file, address of 24 bytes
abbrev pub fd_fdstat_get : ℕ → ℕ → Mem → OutputState → Answer OutputState
fd_fdstat_get file address m o =
    if not (is_console file) then gives no_file o m
    else if has m address 24 then gives 0 o (record m { bytes = put address console_status m.bytes })
    else fails traps.HostAddress o m

-- what a call that changes nothing answers of a file
abbrev pub answers_of : ℕ → ℕ → ℕ
answers_of answer file = if is_console file then answer else no_file

abbrev pub fd_seek : ℕ → Mem → OutputState → Answer OutputState
fd_seek file m o = gives (answers_of no_seek file) o m

abbrev pub fd_close : ℕ → Mem → OutputState → Answer OutputState
fd_close file m o = gives (answers_of 0 file) o m
