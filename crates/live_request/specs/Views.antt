-- What is read from a line, without where it lies in memory.
use Rattle.std.specs.Prelude.{ℕ, map, Result, Ok, Err}
use Rattle.std.specs.Option.{option_map}
use Rattle.live_request.specs.declared.condition.Condition.{Condition}
use Rattle.live_request.specs.declared.condition.Condition.TheVariants as conditions
use Rattle.live_request.specs.declared.request.Act.{Act}
use Rattle.live_request.specs.declared.request.Request.{Request}
use Rattle.live_request.specs.declared.request.Request.TheVariants as requests
use Rattle.live_request.specs.Condition as asked
use Rattle.live_request.specs.Request as asks

-- what was read, seen so; a rule's number is itself
abbrev pub viewed : {X Y : Type 0} → (X → Y) → Result X ℕ → Result Y ℕ
viewed view (Ok x) = Ok (view x)
viewed view (Err number) = Err number

abbrev pub condition_of : Condition → asked.Condition
condition_of (conditions.Level name value) = asked.Level name.now value
condition_of (conditions.Edge name) = asked.Edge name.now
condition_of (conditions.Sent count) = asked.Sent count
condition_of conditions.Begins = asked.Begins
condition_of conditions.Marked = asked.Marked
condition_of (conditions.Stored from count) = asked.Stored from count
condition_of conditions.Halted = asked.Halted
condition_of conditions.Trapped = asked.Trapped

abbrev pub act_of : Act → asks.Acting
act_of act = record { cycle = act.cycle; part = act.part.now; press = act.press; value = act.value }

abbrev pub request_of : Request → asks.Request
request_of (requests.Run until all) = asks.Run until (map condition_of all.items)
request_of (requests.Act act) = asks.Acts (act_of act)
request_of (requests.Level name) = asks.Level name.now
request_of requests.Report = asks.Report
request_of requests.Wave = asks.Wave
request_of requests.Core = asks.Core
request_of (requests.Data bytes) = asks.Data bytes
request_of (requests.Flash bytes) = asks.Flash bytes
request_of (requests.Eeprom bytes) = asks.Eeprom bytes
request_of (requests.Mark all) = asks.Mark all
request_of (requests.Unmark all) = asks.Unmark all
request_of requests.Count = asks.Count
request_of requests.Counts = asks.Counts
request_of (requests.Light anode cathode) = asks.Light anode.now (option_map (λ c. c.now) cathode)
request_of requests.Lights = asks.Lights
request_of requests.Prints = asks.Prints
request_of requests.Displays = asks.Displays
request_of requests.Omissions = asks.Omissions
request_of requests.Quit = asks.Quit
