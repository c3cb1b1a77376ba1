-- Sections (WebAssembly core specification, "Binary Format", "Sections" to "Data Section", "Custom Section").
use Rattle.std.specs.Prelude.{◌≡◌, ℕ, ◌+◌, ◌-◌, ◌<◌, List, ◌++◌, length, take, ◌⊎◌, Bool, false, not, ◌&&◌, ◌||◌, nat_le, nat_lt, ◌==◌, if◌then◌else◌, Result, Ok, Err, Some}
use Rattle.sim_refusals.specs.Refusals.{WasmCut, WasmSection, WasmCount}
use Rattle.wasm_binary.specs.Form.{Form, give, byte, choose, ◌>>=◌}
use Rattle.wasm_binary.specs.Leb.{u32}
use Rattle.wasm_binary.specs.Lists.{vec, vec_to, sized}
use Rattle.wasm_binary.specs.Names.{name}
use Rattle.wasm_code.specs.TypeText.{func_type, limits, table_type}
use Rattle.wasm_decode.specs.ItemText.{imports, imported, global, export, element, segment, bodies, is_none_left}
use Rattle.wasm_decode.specs.declared.module.Module.{Module}
use Rattle.wasm_decode.specs.declared.progress.Progress.{Progress}
use Rattle.wasm_decode.specs.declared.progress.Section.{Section}
use Rattle.wasm_decode.specs.declared.progress.Section.TheVariants as sections

-- whether functions are there and their bodies are not
abbrev pub wants_bodies : Progress → Bool
wants_bodies s = not (is_none_left s.module.functions) && nat_lt s.last 10

-- Ids rise from 1 to 11, and 0 stands anywhere; else 63. Data behind functions without bodies is 68.
abbrev pub judge_id : Progress → ℕ → Result ℕ ℕ
judge_id s b =
    if b == 0 then Ok 0
    else if nat_lt 11 b || nat_le b s.last then Err WasmSection
    else if b == 11 && wants_bodies s then Err WasmCount
    else Ok b

-- a custom section: a size, and in so many bytes a name and any bytes
abbrev pub IsCustom : List ℕ → Section → Type 0
IsCustom bytes x =
    (a b c : List ℕ) × (n : List ℕ) × (bytes ≡ a ++ (b ++ c)) × u32.text a (length (b ++ c)) × name.text b n × (x ≡ sections.Custom)

-- in its size, in its name, or where the bytes end before the size does
abbrev pub CustomBreaks : List ℕ → ℕ → ℕ → Type 0
CustomBreaks bytes i number =
    u32.breaks bytes i number
    ⊎ ((a b : List ℕ) × (size j : ℕ) × (bytes ≡ a ++ b) × u32.text a size × (i ≡ length a + j)
    × (name.breaks (take size b) j number
    ⊎ ((c d n : List ℕ) × (take size b ≡ c ++ d) × name.text c n × (length b < size) × (j ≡ length b) × (number ≡ WasmCut))))

abbrev pub custom : Form Section
custom = record { text = IsCustom; breaks = CustomBreaks }

-- The content of each section. Counts have the limits of the profile.
abbrev pub content : Module → ℕ → Form Section
content m id =
    choose (id == 1) (vec_to 1024 func_type >>= λ xs. give (sections.Types xs))
    (choose (id == 2) (imports >>= λ xs. give (sections.Imports xs))
    (choose (id == 3) (vec_to (4096 - imported m.imports) u32 >>= λ xs. give (sections.Functions xs))
    (choose (id == 4) (vec table_type >>= λ xs. give (sections.Tables xs))
    (choose (id == 5) (vec limits >>= λ xs. give (sections.Memories xs))
    (choose (id == 6) (vec_to 1024 global >>= λ xs. give (sections.Globals xs))
    (choose (id == 7) (vec_to 1024 export >>= λ xs. give (sections.Exports xs))
    (choose (id == 8) (u32 >>= λ n. give (sections.Start n))
    (choose (id == 9) (vec_to 8192 element >>= λ xs. give (sections.Elements xs))
    (choose (id == 10) (bodies m.types m.functions >>= λ xs. give (sections.Bodies xs))
    (vec_to 8192 segment >>= λ xs. give (sections.Segments xs)))))))))))

abbrev pub section_of : Module → ℕ → Form Section
section_of m id = choose (id == 0) custom (sized false (content m id))

unfoldable pub section : Progress → Form Section
section s = byte (judge_id s) >>= section_of s.module

-- the module with the section in its place
abbrev pub with_section : Progress → Section → Progress
with_section s sections.Custom = s
with_section s (sections.Types xs) = record { last = 1; «module» = record s.module { types = xs } }
with_section s (sections.Imports xs) = record { last = 2; «module» = record s.module { imports = xs } }
with_section s (sections.Functions xs) = record { last = 3; «module» = record s.module { functions = xs } }
with_section s (sections.Tables xs) = record { last = 4; «module» = record s.module { tables = xs } }
with_section s (sections.Memories xs) = record { last = 5; «module» = record s.module { memories = xs } }
with_section s (sections.Globals xs) = record { last = 6; «module» = record s.module { globals = xs } }
with_section s (sections.Exports xs) = record { last = 7; «module» = record s.module { exports = xs } }
with_section s (sections.Start n) = record { last = 8; «module» = record s.module { start = Some n } }
with_section s (sections.Elements xs) = record { last = 9; «module» = record s.module { elements = xs } }
with_section s (sections.Bodies xs) = record { last = 10; «module» = record s.module { bodies = xs } }
with_section s (sections.Segments xs) = record { last = 11; «module» = record s.module { segments = xs } }
