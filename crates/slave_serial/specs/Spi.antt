-- An SPI slave, cycle by cycle (data sheet, "SPI - Serial Peripheral Interface", "Data Modes"; in which cycles bytes are fetched
-- and what MISO has between transactions are the profile's). Bits go from the highest.
use Rattle.std.specs.Prelude.{ℕ, ◌+◌, ◌-◌, ◌/◌, ◌%◌, ◌<◌, ◌≤◌, ◌==◌, ◌&&◌, ◌||◌, not, nat_lt, List, [], ◌∷◌, Bool, true, false, if◌then◌else◌, Option, None, Some}
use Rattle.avr_unit.specs.Bits.{is_set, with_bit}
use Rattle.avr_unit.specs.Coming.{comes, IsAhead}
use Rattle.slave_request.specs.declared.request.EngineRequest.{EngineRequest}
use Rattle.slave_request.specs.declared.request.EngineRequest.TheVariants as requests
use Rattle.slave_request.specs.Slave.{SlaveMachine}
use Rattle.slave_serial.specs.declared.buffer.Buffer.{Buffer}
use Rattle.slave_serial.specs.declared.transaction.Wires.{Wires}
use Rattle.slave_serial.specs.declared.transaction.Shift.{Shift}
use Rattle.slave_serial.specs.declared.transaction.Transaction.{Transaction}
use Rattle.slave_serial.specs.declared.transaction.Transaction.TheVariants.{Idle, Opening, Between, Shifting, Stopped}
use Rattle.slave_serial.specs.declared.transaction.Spi.{Spi}

-- An idle one; of the mode's number, CPOL is bit 1 and CPHA bit 0 ("SPI Modes").
abbrev pub idle_in : ℕ → Spi
idle_in mode = record { cpol = mode / 2 == 1; cpha = mode % 2 == 1; miso = None; transaction = Idle }

-- whether SCK stands away from CPOL
abbrev pub is_away : Bool → Bool → Bool
is_away cpol sck = if cpol then not sck else sck

-- The leading edge leaves CPOL, the trailing edge goes back to it.
abbrev pub leads : Spi → Wires → Wires → Bool
leads s before now = is_away s.cpol now.sck && not (is_away s.cpol before.sck)

abbrev pub trails : Spi → Wires → Wires → Bool
trails s before now = is_away s.cpol before.sck && not (is_away s.cpol now.sck)

-- A bit is read at the leading edge with CPHA 0 and at the trailing one with CPHA 1, and presented at the other.
abbrev pub reads_bit : Spi → Wires → Wires → Bool
reads_bit s before now = if s.cpha then trails s before now else leads s before now

abbrev pub presents : Spi → Wires → Wires → Bool
presents s before now = if s.cpha then leads s before now else trails s before now

-- no bit was read yet
abbrev pub fresh : Shift
fresh = record { out = 0; read = 0; place = 0 }

abbrev pub with_read : Shift → Bool → Shift
with_read x mosi = record x { read = with_bit x.read (7 - x.place) mosi; place = x.place + 1 }

-- A byte is fetched, in the turn of an edge that reads its first bit or not.
abbrev pub loaded : Spi → Buffer → Bool → Bool → Spi × List EngineRequest
loaded s b reads mosi = (
  record s { miso = Some false; transaction = Shifting b (if reads then with_read fresh mosi else fresh) },
  requests.Fetch b.index ∷ [],
)

-- The last bit of a byte is read: the byte is stored, and behind the last one all is done.
abbrev pub byte_over : Spi → Buffer → ℕ → Spi × List EngineRequest
byte_over s b x =
    if b.index + 1 == b.count then (record s { miso = None; transaction = Idle }, requests.Store b.index x ∷ requests.Done b.count ∷ [])
    else (record s { transaction = Between (record b { index = b.index + 1 }) }, requests.Store b.index x ∷ [])

abbrev pub bit_read : Spi → Buffer → Shift → Bool → Spi × List EngineRequest
bit_read s b x mosi =
    if nat_lt x.place 7 then (record s { transaction = Shifting b (with_read x mosi) }, [])
    else byte_over s b (with_read x mosi).read

-- One cycle, by whether an edge of SCK reads a bit or presents one, and what MOSI reads.
abbrev pub moved : Spi → Transaction → ℕ → Bool → Bool → Bool → Spi × List EngineRequest
moved s Idle t reads presents mosi = (s, [])
moved s (Opening b d) t reads presents mosi = if d == t then loaded s b reads mosi else (s, [])
moved s (Between b) t reads presents mosi = if presents then loaded s b false mosi else (s, [])
moved s (Shifting b x) t reads presents mosi =
    if reads then bit_read s b x mosi
    else if presents then (record s { miso = Some (is_set x.out (7 - x.place)) }, [])
    else (s, [])
moved s (Stopped n d) t reads presents mosi = if d == t then (record s { miso = None; transaction = Idle }, requests.Done n ∷ []) else (s, [])

abbrev pub spi_step : Spi → ℕ → Wires → Wires → Spi × List EngineRequest
spi_step s t before now = moved s s.transaction t (reads_bit s before now) (presents s before now) now.mosi

-- the cycle in whose turn it goes on though SCK stays
abbrev pub next_turn : Transaction → Option ℕ
next_turn Idle = None
next_turn (Opening b d) = Some d
next_turn (Between b) = None
next_turn (Shifting b x) = None
next_turn (Stopped n d) = Some d

abbrev pub spi : SlaveMachine Spi Wires
spi = record { step = spi_step; due = λ s t. comes (next_turn s.transaction) t }

-- A transaction that waits for its first turn has it in cycle d.
abbrev pub opens_in : Transaction → ℕ → Transaction
opens_in (Opening b e) d = Opening b d
opens_in Idle d = Idle
opens_in (Between b) d = Between b
opens_in (Shifting b x) d = Shifting b x
opens_in (Stopped n e) d = Stopped n e

abbrev pub is_opening : Transaction → Bool
is_opening (Opening b d) = true
is_opening Idle = false
is_opening (Between b) = false
is_opening (Shifting b x) = false
is_opening (Stopped n d) = false

abbrev pub is_open : Transaction → Bool
is_open Idle = false
is_open (Opening b d) = true
is_open (Between b) = true
is_open (Shifting b x) = true
is_open (Stopped n d) = true

-- A call of some bytes, whose first turn is that of cycle d: with CPHA 0 the first byte is fetched in it.
abbrev pub opened : Spi → ℕ → ℕ → Spi
opened s count d =
    let b : Buffer = record { count = count; index = 0 } in
    record s { transaction = if s.cpha then Between b else Opening b d }

-- A transaction is stopped: `Done` comes in the turn of cycle d, with the bytes that were exchanged whole.
abbrev pub stopped : Transaction → ℕ → Transaction
stopped Idle d = Idle
stopped (Opening b e) d = Stopped b.index d
stopped (Between b) d = Stopped b.index d
stopped (Shifting b x) d = Stopped b.index d
stopped (Stopped n e) d = Stopped n e

-- The byte that was fetched: its first bit is presented.
abbrev pub with_byte : Spi → Transaction → ℕ → Spi
with_byte s (Shifting b x) y = record s { miso = Some (is_set y 7); transaction = Shifting b (record x { out = y }) }
with_byte s transaction y = s

-- that the byte on its way is one of those that are to be exchanged, and its next bit one of eight
pub record IsShift (b : Buffer) (x : Shift) : Type 0 where
  pub index : b.index < b.count
  pub place : x.place ≤ 7

abbrev pub IsTransaction : Transaction → Type 0
IsTransaction Idle = Unit {0}
IsTransaction (Opening b d) = b.index < b.count
IsTransaction (Between b) = b.index < b.count
IsTransaction (Shifting b x) = IsShift b x
IsTransaction (Stopped n d) = Unit {0}

-- that a transaction is one that stands at cycle t
pub record Stands (x : Transaction) (t : ℕ) : Type 0 where
  pub sound : IsTransaction x
  pub ahead : IsAhead (next_turn x) t
