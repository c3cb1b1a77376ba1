-- What a line that was read is for.
use Rattle.std.specs.Prelude.{◌≡◌, ◌≤◌, ◌+◌, ◌⊎◌, length}
use Rattle.text_model.specs.Hex.{Verdict, Passed, Data, Base, End, Faulty, data_of, length_of}
use Rattle.input_texts.specs.declared.record.Line.{Line}
use Rattle.input_texts.specs.declared.record.Line.TheVariants as line

-- a data line keeps its whole record
abbrev pub seen : Line → Verdict
seen line.Passed = Passed
seen (line.Data address bytes) = Data address (data_of bytes.items)
seen (line.Base base) = Base base
seen line.End = End
seen (line.Faulty number) = Faulty number

-- the data of a line lie in its record and, unless there are none, in the flash; a base is one that two bytes can set
abbrev pub IsFitting : Line → Type 0
IsFitting line.Passed = Unit {0}
IsFitting (line.Data address r) = (4 + length_of r.items ≤ length r.items) × ((length_of r.items ≡ 0) ⊎ (address + length_of r.items ≤ 32768))
IsFitting (line.Base base) = base ≤ 4294901760
IsFitting line.End = Unit {0}
IsFitting (line.Faulty number) = Unit {0}
