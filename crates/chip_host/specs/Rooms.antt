-- What a host keeps when the chip begins: nothing, and room for all that it may be given.
use Rattle.std.specs.Prelude.{◌≡◌, ℕ, ◌≤◌, [], replicate, None}
use Rattle.std.specs.Vec.{vec_capacity}
use Rattle.sim_base.specs.declared.signal.Level.TheVariants as levels
use Rattle.chip_host.specs.declared.room.Room.{Room}

pub record IsEmpty (r : Room) : Type 0 where
  pub levels : r.levels.items ≡ []
  pub pins : r.pins.items ≡ []
  pub watches : r.watches.items ≡ []
  pub timers : r.timers.items ≡ []
  pub attributes : r.attributes.items ≡ []
  pub engines : r.engines.items ≡ []

pub record HasRoom (count : ℕ) (r : Room) : Type 0 where
  pub levels : r.levels.items ≡ replicate count levels.Z
  pub pins : r.pins.items ≡ replicate count None
  pub watches : r.watches.items ≡ replicate count None
  pub timers : r.timers.items ≡ []
  pub timer_room : 32 ≤ vec_capacity r.timers
  pub attributes : r.attributes.items ≡ []
  pub attribute_room : 64 ≤ vec_capacity r.attributes
  pub engines : r.engines.items ≡ replicate 24 None
