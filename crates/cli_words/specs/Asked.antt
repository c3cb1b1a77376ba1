-- A request without where its texts lie in memory.
use Rattle.std.specs.Prelude.{◌<◌, ◌≤◌}
use Rattle.std.specs.Option.{option_map}
use Rattle.cli_words_model.specs.Request as asks
use Rattle.cli_words.specs.declared.request.NamedFiles.{NamedFiles}
use Rattle.cli_words.specs.declared.request.NamedBus.{NamedBus}
use Rattle.cli_words.specs.declared.request.NamedBus.TheVariants as buses
use Rattle.cli_words.specs.declared.request.Request.{Request}
use Rattle.cli_words.specs.declared.request.Request.TheVariants as requests

abbrev pub named_by : NamedFiles → asks.NamedFiles
named_by named = record {
  script = option_map (λ f. f.now) named.script;
  wave = option_map (λ f. f.now) named.wave;
  report = option_map (λ f. f.now) named.report;
}

abbrev pub bus_by : NamedBus → asks.NamedBus
bus_by (buses.Uart line bit) = asks.Uart line.now bit
bus_by (buses.Spi clock line mode) = asks.Spi clock.now line.now mode
bus_by (buses.I2c clock line) = asks.I2c clock.now line.now

abbrev pub asked_of : Request → asks.Request
asked_of (requests.Bare hex micros) = asks.Bare hex.now micros
asked_of (requests.Check folder) = asks.Check folder.now
asked_of (requests.Module file) = asks.Module file.now
asked_of (requests.Run folder micros budget named) = asks.Run folder.now micros budget (named_by named)
asked_of (requests.Serve folder budget script wave) = asks.Serve folder.now budget (option_map (λ f. f.now) script) (option_map (λ f. f.now) wave)
asked_of (requests.Replay folder wave micros named) = asks.Replay folder.now wave.now micros (named_by named)
asked_of (requests.Twin folder other micros budget) = asks.Twin folder.now other.now micros budget
asked_of (requests.Make seed micros) = asks.Make seed micros
asked_of (requests.Decode wave bus) = asks.Decode wave.now (bus_by bus)

-- bits and modes are those that words can give
abbrev pub IsNamedBus : NamedBus → Type 0
IsNamedBus (buses.Uart line bit) = (2 ≤ bit) × (bit ≤ 1000000)
IsNamedBus (buses.Spi clock line mode) = mode < 4
IsNamedBus (buses.I2c clock line) = Unit {0}

-- the number of microseconds is one that words can give, and so are the numbers of a bus
abbrev pub IsRunTime : Request → Type 0
IsRunTime (requests.Bare hex micros) = (0 < micros) × (micros ≤ 10000000)
IsRunTime (requests.Check folder) = Unit {0}
IsRunTime (requests.Module file) = Unit {0}
IsRunTime (requests.Run folder micros budget named) = (0 < micros) × (micros ≤ 10000000)
IsRunTime (requests.Serve folder budget script wave) = Unit {0}
IsRunTime (requests.Replay folder wave micros named) = (0 < micros) × (micros ≤ 10000000)
IsRunTime (requests.Twin folder other micros budget) = (0 < micros) × (micros ≤ 10000000)
IsRunTime (requests.Make seed micros) = (0 < micros) × (micros ≤ 10000000)
IsRunTime (requests.Decode wave bus) = IsNamedBus bus
