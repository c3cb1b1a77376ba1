-- Module texts (WebAssembly core specification, "Binary Format", "Modules").
use Rattle.std.specs.Prelude.{◌≡◌, ℕ, ◌+◌, List, [], ◌∷◌, ◌++◌, length, ◌⊎◌, Bool, true, false, None, Result, Ok, Err}
use Rattle.sim_base.specs.declared.fault.Fault.{Fault}
use Rattle.sim_base.specs.declared.fault.Fault.TheVariants as faults
use Rattle.sim_base.specs.declared.fault.Place.TheVariants as places
use Rattle.sim_refusals.specs.Refusals.{WasmMagic, WasmCount}
use Rattle.wasm_binary.specs.Form.{Form, give, byte_or, judge_tag, ◌>>=◌}
use Rattle.wasm_binary.specs.Lists.{Run}
use Rattle.wasm_decode.specs.SectionText.{wants_bodies, section, with_section}
use Rattle.wasm_decode.specs.declared.module.Module.{Module}
use Rattle.wasm_decode.specs.declared.progress.Progress.{Progress}
use Rattle.wasm_decode.specs.declared.progress.Section.{Section}

abbrev pub these_bytes : List ℕ → Form (Unit {0})
these_bytes [] = give tt
these_bytes (b ∷ bytes) = do
  x ← byte_or WasmMagic (judge_tag b WasmMagic)
  these_bytes bytes

-- the magic and the version; each other byte, and the end among them, is 60
abbrev pub magic : Form (Unit {0})
magic = these_bytes (0x00 ∷ 0x61 ∷ 0x73 ∷ 0x6D ∷ 0x01 ∷ 0x00 ∷ 0x00 ∷ 0x00 ∷ [])

abbrev pub nothing : Progress
nothing = record {
  last = 0;
  «module» = record { types = []; imports = []; functions = []; tables = []; memories = []; globals = []; exports = []; start = None; elements = []; bodies = []; segments = [] };
}

abbrev pub never : Progress → Bool
never s = false

-- sections one behind the other
abbrev pub Sections : Progress → List ℕ → List Section → Progress → Type 0
Sections = Run section with_section never

-- The bytes are the text of the module: magic and version, and sections up to the end that fill it.
abbrev pub ModuleText : List ℕ → Module → Type 0
ModuleText bytes m =
    (a b : List ℕ) × (xs : List Section) × (t : Progress) × (bytes ≡ a ++ b) × magic.text a tt × Sections nothing b xs t × (wants_bodies t ≡ false) × (m ≡ t.module)

-- behind some sections: at the end where bodies are missing (68), or in the next section
abbrev pub NextBreaks : Progress → List ℕ → ℕ → ℕ → Type 0
NextBreaks s [] i number = (wants_bodies s ≡ true) × (i ≡ 0) × (number ≡ WasmCount)
NextBreaks s (b ∷ bytes) i number = (section s).breaks (b ∷ bytes) i number

abbrev pub SectionsBreak : List ℕ → ℕ → ℕ → Type 0
SectionsBreak bytes i number =
    (a b : List ℕ) × (xs : List Section) × (t : Progress) × (j : ℕ) × (bytes ≡ a ++ b) × Sections nothing a xs t × (i ≡ length a + j) × NextBreaks t b j number

-- Where bytes break that are no module text, and by which rule.
abbrev pub ModuleBreaks : List ℕ → ℕ → ℕ → Type 0
ModuleBreaks bytes i number =
    magic.breaks bytes i number
    ⊎ ((a b : List ℕ) × (j : ℕ) × (bytes ≡ a ++ b) × magic.text a tt × (i ≡ length a + j) × SectionsBreak b j number)

-- What is refused: the bytes are the text of no module, and break there by that rule, and nowhere else and by no other.
abbrev pub IsBroken : List ℕ → Fault → Type 0
IsBroken bytes faults.OutOfMemory = Unit {0}
IsBroken bytes (faults.Refused r) =
    ((m : Module) → ModuleText bytes m → ⊥)
    × ((i : ℕ) × (r.place ≡ places.Byte i) × ModuleBreaks bytes i r.number × ((j n : ℕ) → ModuleBreaks bytes j n → (j ≡ i) × (n ≡ r.number)))

-- Ok: the bytes are the text of this module and of no other. Out of memory alone is free.
abbrev pub IsDecoded : List ℕ → Result Module Fault → Type 0
IsDecoded bytes (Ok m) = ModuleText bytes m × ((n : Module) → ModuleText bytes n → n ≡ m)
IsDecoded bytes (Err e) = IsBroken bytes e
