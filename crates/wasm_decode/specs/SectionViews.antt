-- What the reader of all sections answers. No public clause cites it.
use Rattle.std.specs.Prelude.{◌≡◌, ℕ, ◌+◌, List, false, Result, Ok, Err}
use Rattle.sim_base.specs.declared.fault.Fault.{Fault}
use Rattle.sim_base.specs.declared.fault.Fault.TheVariants as faults
use Rattle.sim_base.specs.declared.fault.Place.TheVariants as places
use Rattle.wasm_binary.specs.declared.reader.Reader.{Reader}
use Rattle.wasm_decode.specs.declared.progress.Progress.{Progress}
use Rattle.wasm_decode.specs.declared.progress.Section.{Section}
use Rattle.wasm_decode.specs.SectionText.{wants_bodies}
use Rattle.wasm_decode.specs.ModuleText.{nothing, Sections, SectionsBreak}

abbrev pub SectionsFail : Reader → Fault → Type 0
SectionsFail old faults.OutOfMemory = Unit {0}
SectionsFail old (faults.Refused r) = (i : ℕ) × (r.place ≡ places.Byte (old.at + i)) × SectionsBreak old.rest.now i r.number

-- all bytes are the sections that lead to this progress, or they break
abbrev pub SectionsPut : Result (Unit {0}) Fault → Reader → Progress → Type 0
SectionsPut (Ok u) old t = (xs : List Section) × Sections nothing old.rest.now xs t × (wants_bodies t ≡ false)
SectionsPut (Err e) old t = SectionsFail old e

abbrev pub SectionsRead : Result Progress Fault → Reader → Type 0
SectionsRead (Ok t) old = SectionsPut (Ok tt) old t
SectionsRead (Err e) old = SectionsFail old e
