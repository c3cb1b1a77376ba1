-- A bench in memory: its state, and what each call answers and leaves.
use Rattle.std.specs.Prelude.{ℕ, ◌+◌, ◌-◌, ◌^◌, List, [], ◌∷◌, ◌++◌, length, Bool, true, false, not, ◌&&◌, ◌||◌, nat_le, nat_lt, ◌==◌, min, max, if◌then◌else◌, Option, None, Some}
use Rattle.std.specs.List.{list_any}
use Rattle.std.specs.Str.{bytes_eq}
use Rattle.std.specs.FinMap.{from_entries}
use Rattle.sim_base.specs.declared.bench.Port.{Port}
use Rattle.sim_base.specs.declared.bench.Port.TheVariants as ports
use Rattle.sim_base.specs.declared.bench.ReadEnd.{ReadEnd}
use Rattle.sim_base.specs.declared.bench.ReadEnd.TheVariants as read_ends
use Rattle.sim_base.specs.declared.bench.LineEnd.{LineEnd}
use Rattle.sim_base.specs.declared.bench.LineEnd.TheVariants as line_ends
use Rattle.sim_base.specs.declared.bench.WriteEnd.{WriteEnd}
use Rattle.sim_base.specs.declared.bench.WriteEnd.TheVariants as write_ends
use Rattle.sim_base.specs.Outside.{Outside}

-- a port: its bytes, the number of bytes that it can hold, the name under which it was opened last, its count of faults
pub record Store : Type 0 where
  pub bytes : List ℕ
  pub room : ℕ
  pub name : Option (List ℕ)
  pub faults : ℕ

-- Files newest first, each with its name; of two of one name the newer one counts. Lines of requests in their order.
-- `calls` counts the calls of all four kinds, and those whose number is listed fail.
pub record MemState : Type 0 where
  pub files : List (List ℕ × List ℕ)
  pub requests : List (List ℕ)
  pub serial : Store
  pub wave : Store
  pub report : Store
  pub complaint : Store
  pub wave_open : Bool
  pub report_open : Bool
  pub read_faults : ℕ
  pub calls : ℕ
  pub failing : List ℕ

abbrev pub port_of : MemState → Port → Store
port_of s ports.Serial = s.serial
port_of s ports.Wave = s.wave
port_of s ports.Report = s.report
port_of s ports.Complaint = s.complaint

abbrev pub with_port : MemState → Port → Store → MemState
with_port s ports.Serial p = record s { serial = p }
with_port s ports.Wave p = record s { wave = p }
with_port s ports.Report p = record s { report = p }
with_port s ports.Complaint p = record s { complaint = p }

-- a count that stays at the greatest number of 64 bits
abbrev pub raised : ℕ → ℕ
raised n = min (n + 1) (2 ^ 64 - 1)

abbrev pub called : MemState → MemState
called s = record s { calls = raised s.calls }

-- whether the next call has a listed number
abbrev pub fails_next : MemState → Bool
fails_next s = list_any (λ n. n == raised s.calls) s.failing

abbrev pub file_in : List ℕ → List (List ℕ × List ℕ) → Option (List ℕ)
file_in name [] = None
file_in name (file ∷ files) = if bytes_eq name file.0 then Some file.1 else file_in name files

-- a write appends where the call is not to fail and the bytes have room, and else counts a fault
abbrev pub writes_on : Bool → Store → List ℕ → Bool
writes_on fails p bytes = not fails && nat_le (length bytes) (p.room - length p.bytes)

abbrev pub write_end : Bool → WriteEnd
write_end done = if done then write_ends.Ok else write_ends.Failed

abbrev pub stored : Bool → Store → List ℕ → Store
stored done p bytes = if done then record p { bytes = p.bytes ++ bytes } else record p { faults = raised p.faults }

-- a port is opened where the call is not to fail and the name has at most 255 bytes
abbrev pub opens_on : Bool → List ℕ → Bool
opens_on fails name = not fails && nat_le (length name) 255

-- an opened port is empty and has its name; one that fails to open counts a fault
abbrev pub opened : Bool → Store → List ℕ → Store
opened done p name = if done then record p { bytes = []; name = Some name } else record p { faults = raised p.faults }

-- Wave or Report is open after it was opened; the other two are open from the start
abbrev pub with_open : MemState → Port → Bool → MemState
with_open s ports.Serial done = s
with_open s ports.Wave done = record s { wave_open = s.wave_open || done }
with_open s ports.Report done = record s { report_open = s.report_open || done }
with_open s ports.Complaint done = s

abbrev pub is_open : MemState → Port → Bool
is_open s ports.Serial = true
is_open s ports.Wave = s.wave_open
is_open s ports.Report = s.report_open
is_open s ports.Complaint = true

-- what a reading answers where the call is not to fail and memory is there
abbrev pub read_end : Option (List ℕ) → ℕ → ReadEnd
read_end None limit = read_ends.Missing
read_end (Some bytes) limit = if nat_lt limit (length bytes) then read_ends.TooLong else read_ends.Ok

-- what reading a line answers where the call is not to fail, and the lines that are left
abbrev pub line_end : List (List ℕ) → LineEnd
line_end [] = line_ends.Over
line_end (line ∷ rest) = if nat_lt 1024 (length line) then line_ends.TooLong else line_ends.Line

abbrev pub lines_left : List (List ℕ) → List (List ℕ)
lines_left [] = []
lines_left (line ∷ rest) = rest

-- a port before it was given room, and after
abbrev pub roomless : Store
roomless = record { bytes = []; room = 0; name = None; faults = 0 }

abbrev pub roomy : Store → ℕ → Store
roomy p bytes = record p { room = max p.room bytes }

abbrev pub new_bench : MemState
new_bench = record { files = []; requests = []; serial = roomless; wave = roomless; report = roomless; complaint = roomless; wave_open = false; report_open = false; read_faults = 0; calls = 0; failing = [] }

-- the environment that the bench is: it tells its files, its requests, what is written and the names of opened ports
abbrev pub outside_of : MemState → Outside
outside_of s = record {
  files = Some (from_entries s.files);
  requests = Some s.requests;
  written = λ p. Some (port_of s p).bytes;
  name = λ p. (port_of s p).name;
  opened = is_open s;
  read_faults = s.read_faults;
  faults = λ p. (port_of s p).faults;
}

-- each call counts, and fails where its number is listed
abbrev pub after_read : MemState → MemState
after_read s = if fails_next s then record (called s) { read_faults = raised s.read_faults } else called s

abbrev pub after_line : MemState → MemState
after_line s = if fails_next s then record (called s) { read_faults = raised s.read_faults } else record (called s) { requests = lines_left s.requests }

abbrev pub after_open : MemState → Port → List ℕ → MemState
after_open s p name = with_open (with_port (called s) p (opened (opens_on (fails_next s) name) (port_of s p) name)) p (opens_on (fails_next s) name)

abbrev pub after_write : MemState → Port → List ℕ → MemState
after_write s p bytes = with_port (called s) p (stored (writes_on (fails_next s) (port_of s p) bytes) (port_of s p) bytes)
