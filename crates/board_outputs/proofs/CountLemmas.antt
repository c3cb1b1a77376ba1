-- A run of which nothing is written.
use Rattle.std.proofs.Common.{◌≡◌, ℕ, List, false}
use Rattle.std.specs.Prelude.{IsSome}
use Rattle.sim_base.specs.declared.bench.Port.{Port}
use Rattle.sim_base.specs.declared.bench.Port.TheVariants as ports
use Rattle.sim_base.specs.Outside.{Outside, SamePorts}
use Rattle.vcd_text.specs.Ports.{texts, Leaves, BreaksOff}

-- nothing is written where nothing is wanted
pub unwritten : (text bytes : List ℕ) (a b : Outside) → b.requests ≡ a.requests → Leaves (texts false false text bytes) a b → SamePorts a b
unwritten text bytes a b same l = record { files = l.files; requests = same; written = written; name = l.name; opened = l.opened; faults = l.faults }
  where
    written : (p : Port) → b.written p ≡ a.written p
    written ports.Wave = l.written ports.Wave
    written ports.Serial = l.written ports.Serial
    written ports.Report = l.written ports.Report
    written ports.Complaint = l.written ports.Complaint

pub unread : (text bytes : List ℕ) (a b : Outside) → Leaves (texts false false text bytes) a b → b.read_faults ≡ a.read_faults
unread text bytes a b l = l.reads

-- and nothing can fail
pub unbroken : (text bytes : List ℕ) (a b : Outside) → BreaksOff (texts false false text bytes) a b → ⊥
unbroken text bytes a b l = failed l.rose.0 l.rose.1
  where
    failed : (p : Port) → IsSome (texts false false text bytes p) → ⊥
    failed ports.Wave h = absurd (cc)
    failed ports.Serial h = absurd (cc)
    failed ports.Report h = absurd (cc)
    failed ports.Complaint h = absurd (cc)
