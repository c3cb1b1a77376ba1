-- A pin without a name is never given, and no engine drives it, whatever the host is called for.
use Rattle.std.proofs.Common.{◌≡◌, ◌≢◌, ◌+◌, ◌==◌, ℕ, zero, suc, List, [], ◌∷◌, length, drop, Bool, true, false, not, ◌||◌}
use Rattle.std.proofs.Common.{if◌then◌else◌, Option, None, Some, Result, Ok, Err, refl, ap, sym, ◌∙◌, subst, arith}
use Rattle.std.specs.Prelude.{nat_lt, slice_get, slice_set, option_map, option_and_then}
use Rattle.std.specs.List.{list_all, position_from}
use Rattle.std.specs.Str.{bytes_eq}
use Rattle.std.proofs.lemmas.Bool.{and_parts, ne_eqb, and_from, not_from_false, both_ways}
use Rattle.board_model.proofs.Lists.{get_set_other}
use Rattle.sim_base.specs.declared.signal.Level.{Level}
use Rattle.wasm_num.specs.declared.trap.Trap.{Trap}
use Rattle.wasm_num.specs.declared.trap.Trap.TheVariants as traps
use Rattle.wasm_num.specs.declared.value.Value.{Value}
use Rattle.wasm_num.specs.declared.value.Value.TheVariants.{I32, I64, F32, F64}
use Rattle.wasm_num.specs.Mem.{Mem, has}
use Rattle.chip_abi.specs.Reading.{word_at, text_in}
use Rattle.chip_abi.specs.declared.host_name.HostName.{HostName}
use Rattle.chip_abi.specs.declared.host_name.HostName.TheVariants as names
use Rattle.chip_abi.specs.declared.output_name.OutputName.{OutputName}
use Rattle.chip_abi.specs.HostNames.{output_of}
use Rattle.chip_engines.specs.declared.engine.Engine.{Engine}
use Rattle.chip_engines.specs.declared.serial.Serial.{Serial}
use Rattle.chip_engines.specs.declared.serial.Serial.TheVariants as serials
use Rattle.chip_engines.specs.Engine.{is_busy, sends, sends_by, exchanges, exchanges_by, stops, stops_by}
use Rattle.chip_host.specs.declared.pin.Pin.{Pin}
use Rattle.chip_host.specs.declared.watch.Watch.{Watch}
use Rattle.chip_host.specs.declared.timer.Timer.{Timer}
use Rattle.chip_host.specs.declared.timer.Delay.{Delay}
use Rattle.chip_host.specs.declared.timer.Delay.TheVariants as delays
use Rattle.chip_host.specs.Inventory.{Inventory, Moment, HostState, joined, pin_at, engine_at, with_mode}
use Rattle.chip_host.specs.HostCall as calls
use Rattle.chip_host.specs.HostCall.{Done, two_words, four_words, with_two, with_four, given_pin, uart_from, spi_from, i2c_from, engine_of, set_engine, set_pin, host_at, host_does, call_does, answers, kept}
use Rattle.law_chip.specs.Named.{has_name, is_named, is_at, is_off, IsFree}

-- ---- lists

all_at : {A : Type 0} (p : A → Bool) (xs : List A) (k : ℕ) (x : A) → list_all p xs ≡ true → slice_get xs k ≡ Some x → p x ≡ true
all_at p [] k x all at = absurd cc
all_at p (y ∷ xs) zero x all at = ap p (some_is (sym at)) ∙ (and_parts (p y) (list_all p xs) all).0
  where
    some_is : {B : Type 0} {a b : B} → Some a ≡ Some b → a ≡ b
    some_is e = cc
all_at p (y ∷ xs) (suc k) x all at = all_at p xs k x (and_parts (p y) (list_all p xs) all).1 at

all_set : {A : Type 0} (p : A → Bool) (xs : List A) (k : ℕ) (y : A) → list_all p xs ≡ true → p y ≡ true → list_all p (slice_set xs k y) ≡ true
all_set p [] k y all new = refl
all_set p (x ∷ xs) zero y all new = and_from (p y) (list_all p xs) new (and_parts (p x) (list_all p xs) all).1
all_set p (x ∷ xs) (suc k) y all new =
    and_from (p x) (list_all p (slice_set xs k y)) (and_parts (p x) (list_all p xs) all).0 (all_set p xs k y (and_parts (p x) (list_all p xs) all).1 new)

-- the place that a name is found at has a name
found_named : (text : List ℕ) (names whole : List (Option (List ℕ))) (a i : ℕ) → ((j : ℕ) → slice_get whole (a + j) ≡ slice_get names j) →
    position_from (calls.has_name text) a names ≡ Some i → is_named whole i ≡ true
found_named text [] whole a i from e = absurd cc
found_named text (None ∷ names) whole a i from e = found_named text names whole (a + 1) i (later None names whole a from) e
  where
    later : (x : Option (List ℕ)) (names whole : List (Option (List ℕ))) (a : ℕ) → ((j : ℕ) → slice_get whole (a + j) ≡ slice_get (x ∷ names) j) →
        (j : ℕ) → slice_get whole (a + 1 + j) ≡ slice_get names j
    later x names whole a from j = let n : a + 1 + j ≡ a + suc j = omega arith in ap (slice_get whole) n ∙ from (suc j)
found_named text (Some name ∷ names) whole a i from e = go (bytes_eq text name) refl (found_named text names whole (a + 1) i)
  where
    later : (j : ℕ) → slice_get whole (a + 1 + j) ≡ slice_get names j
    later j = let n : a + 1 + j ≡ a + suc j = omega arith in ap (slice_get whole) n ∙ from (suc j)

    some_is : {b c : ℕ} → Some b ≡ Some c → b ≡ c
    some_is e = cc

    go : (b : Bool) → bytes_eq text name ≡ b → (((j : ℕ) → slice_get whole (a + 1 + j) ≡ slice_get names j) →
        position_from (calls.has_name text) (a + 1) names ≡ Some i → is_named whole i ≡ true) → is_named whole i ≡ true
    go true equal more =
        let same : a ≡ i = some_is (sym (ap (λ (b : Bool). if b then Some a else position_from (calls.has_name text) (a + 1) names) equal) ∙ e) in
        let n : i ≡ a + 0 = omega (arith, same) in
        ap (λ (o : Option (Option (List ℕ))). has_name (joined o)) (ap (slice_get whole) n ∙ from 0)
    go false differs more = more later (sym (ap (λ (b : Bool). if b then Some a else position_from (calls.has_name text) (a + 1) names) differs) ∙ e)

module _ (named : List (Option (List ℕ))) (i : ℕ) (un : is_named named i ≡ false) where
  -- a position that has a name is another
  named_other : (j : ℕ) → is_named named j ≡ true → i ≢ j
  named_other j is e = both_ways _ (subst (λ (k : ℕ). is_named named k ≡ false) e un) is

  -- and so is a pin that was given
  given_other : (d : Inventory) → IsFree i d → (j : ℕ) (p : Pin) → pin_at d j ≡ Some p → i ≢ j
  given_other d free j p e same = both (pin_at d i) free.pin (ap (pin_at d) same ∙ e)
    where
      both : (o : Option Pin) → o ≡ None → o ≡ Some p → ⊥
      both o f g = cc

  abbrev IsOff : Option Engine → Type 0
  IsOff o = is_off i o ≡ true

  pub engine_off : (d : Inventory) → IsFree i d → (k : ℕ) → IsOff (engine_at d k)
  engine_off d free k = go (slice_get d.engines k) refl
    where
      go : (o : Option (Option Engine)) → slice_get d.engines k ≡ o → IsOff (joined o)
      go None at = refl
      go (Some None) at = refl
      go (Some (Some e)) at = all_at (is_off i) d.engines k (Some e) free.engines at

  of_kind_off : (d : Inventory) → IsFree i d → (base id : ℕ) → IsOff (engine_of base id d)
  of_kind_off d free base id = go (nat_lt id 8)
    where
      go : (b : Bool) → IsOff (if b then engine_at d (base + id) else None)
      go true = engine_off d free (base + id)
      go false = refl

  set_pin_free : (d : Inventory) → IsFree i d → (j : ℕ) (p : Pin) → i ≢ j → IsFree i (set_pin d j p)
  set_pin_free d free j p other = record { pin = ap joined (get_set_other d.pins j i (Some p) other) ∙ free.pin; engines = free.engines }

  pub set_engine_free : (d : Inventory) → IsFree i d → (k : ℕ) (e : Engine) → IsOff (Some e) → IsFree i (set_engine d k e)
  set_engine_free d free k e off = record { pin = free.pin; engines = all_set (is_off i) d.engines k (Some e) free.engines off }

  either_on : (b : Bool) (x y : Done) → IsFree i x.inventory → IsFree i y.inventory → IsFree i (if b then x else y).inventory
  either_on true x y p q = p
  either_on false x y p q = q

  -- ---- pins

  init_named_on : (r : Result (List ℕ) Trap) (mode : ℕ) (d : Inventory) → IsFree i d → IsFree i (calls.init_named r named mode d).inventory
  init_named_on (Err t) mode d on = on
  init_named_on (Ok text) mode d on = go (position_from (calls.has_name text) 0 named) refl
    where
      go : (o : Option ℕ) → position_from (calls.has_name text) 0 named ≡ o → IsFree i (calls.init_at o mode d).inventory
      go None e = on
      go (Some j) e =
          set_pin_free d on j (with_mode mode (kept (pin_at d j)))
          (named_other j (found_named text named named 0 j (λ l. (let n : 0 + l ≡ l = omega arith in ap (slice_get named) n)) e))

  write_on : (j : ℕ) (high : Bool) (d : Inventory) → IsFree i d → IsFree i (calls.write_pin (pin_at d j) j high d).inventory
  write_on j high d on = go (pin_at d j) refl
    where
      go : (o : Option Pin) → pin_at d j ≡ o → IsFree i (calls.write_pin o j high d).inventory
      go None e = on
      go (Some p) e = set_pin_free d on j (record p { high = high }) (given_other d on j p e)

  mode_on : (j mode : ℕ) (d : Inventory) → IsFree i d → IsFree i (calls.mode_pin (pin_at d j) j mode d).inventory
  mode_on j mode d on = go (pin_at d j) refl
    where
      go : (o : Option Pin) → pin_at d j ≡ o → IsFree i (calls.mode_pin o j mode d).inventory
      go None e = on
      go (Some p) e = set_pin_free d on j (with_mode mode p.high) (given_other d on j p e)

  read_on : (o : Option Pin) (l : Level) (d : Inventory) → IsFree i d → IsFree i (calls.read_pin o l d).inventory
  read_on None l d on = on
  read_on (Some p) l d on = on

  put_watch_on : (r : Result Watch Trap) (j : ℕ) (d : Inventory) → IsFree i d → IsFree i (calls.put_watch r j d).inventory
  put_watch_on (Err t) j d on = on
  put_watch_on (Ok w) j d on = record { pin = on.pin; engines = on.engines }

  watch_on : (o : Option Pin) (j addr : ℕ) (m : Mem) (d : Inventory) → IsFree i d → IsFree i (calls.watch_pin o j addr m d).inventory
  watch_on None j addr m d on = on
  watch_on (Some p) j addr m d on = put_watch_on (calls.watch_from (word_at m (addr + 0)) (word_at m (addr + 4)) (word_at m (addr + 8))) j d on

  unwatch_on : (o : Option (Option Watch)) (j : ℕ) (d : Inventory) → IsFree i d → IsFree i (calls.unwatch o j d).inventory
  unwatch_on None j d on = on
  unwatch_on (Some w) j d on = record { pin = on.pin; engines = on.engines }

  -- ---- timers and attributes

  add_timer_on : (r : Result Timer Trap) (d : Inventory) → IsFree i d → IsFree i (calls.add_timer r d).inventory
  add_timer_on (Err t) d on = on
  add_timer_on (Ok x) d on = record { pin = on.pin; engines = on.engines }

  timer_init_on : (a : Moment) (addr : ℕ) (m : Mem) (d : Inventory) → IsFree i d → IsFree i (calls.timer_init a addr m d).inventory
  timer_init_on a addr m d on =
      either_on (not a.init) (calls.fails traps.HostPhase d) _ on
      (either_on (nat_lt (length d.timers) 32) _ (calls.fails traps.HostLimit d) (add_timer_on (calls.timer_from (word_at m (addr + 0)) (word_at m (addr + 4))) d on) on)

  start_on : (o : Option Timer) (id now : ℕ) (delay : Delay) (again : Bool) (d : Inventory) → IsFree i d → IsFree i (calls.start_timer o id now delay again d).inventory
  start_on None id now delay again d on = on
  start_on (Some x) id now delay again d on = record { pin = on.pin; engines = on.engines }

  stop_on : (o : Option Timer) (id : ℕ) (d : Inventory) → IsFree i d → IsFree i (calls.stop_timer o id d).inventory
  stop_on None id d on = on
  stop_on (Some x) id d on = record { pin = on.pin; engines = on.engines }

  add_attribute_on : (r : Result ℕ Trap) (d : Inventory) → IsFree i d → IsFree i (calls.add_attribute r d).inventory
  add_attribute_on (Err t) d on = on
  add_attribute_on (Ok n) d on = record { pin = on.pin; engines = on.engines }

  attr_init_on : (a : Moment) (addr default : ℕ) (m : Mem) (d : Inventory) → IsFree i d → IsFree i (calls.attr_init a addr default m d).inventory
  attr_init_on a addr default m d on =
      either_on (not a.init) (calls.fails traps.HostPhase d) _ on
      (either_on (nat_lt (length d.attributes) 64) _ (calls.fails traps.HostLimit d) (add_attribute_on (calls.attribute_from (text_in 64 (drop addr m.bytes)) default a.given.attrs) d on) on)

  -- ---- engines

  -- an engine that is made drives another pin
  abbrev IsReadOff : Result Engine Trap → Type 0
  IsReadOff (Ok e) = IsOff (Some e)
  IsReadOff (Err t) = Unit {0}

  two_off : (r : Result (ℕ × ℕ) Trap) (f : ℕ → ℕ → Result Engine Trap) → ((a b : ℕ) → IsReadOff (f a b)) → IsReadOff (with_two r f)
  two_off (Ok w) f all = all w.0 w.1
  two_off (Err t) f all = tt

  four_off : (r : Result ((ℕ × ℕ) × (ℕ × ℕ)) Trap) (f : ℕ → ℕ → ℕ → ℕ → Result Engine Trap) → ((a b c d : ℕ) → IsReadOff (f a b c d)) → IsReadOff (with_four r f)
  four_off (Ok w) f all = all w.0.0 w.0.1 w.1.0 w.1.1
  four_off (Err t) f all = tt

  given_off : (d : Inventory) → IsFree i d → (j : ℕ) → not (is_at i (given_pin d j)) ≡ true
  given_off d on j = go (pin_at d j) refl
    where
      go : (o : Option Pin) → pin_at d j ≡ o → not (is_at i (option_map (λ (p : Pin). j) o)) ≡ true
      go None e = refl
      go (Some p) e = not_from_false (j == i) (ne_eqb j i (λ same. given_other d on j p e (sym same)))

  uart_off : (m : Mem) (addr : ℕ) (d : Inventory) → IsFree i d → IsReadOff (uart_from m addr d)
  uart_off m addr d on = four_off (four_words m addr 0) _ (λ user rx tx baud. two_off (two_words m addr 16) _ (λ received sent. given_off d on tx))

  spi_off : (m : Mem) (addr : ℕ) (d : Inventory) → IsFree i d → IsReadOff (spi_from m addr d)
  spi_off m addr d on = four_off (four_words m addr 0) _ (λ user sck mosi miso. two_off (two_words m addr 16) _ (λ mode done. given_off d on miso))

  i2c_off : (m : Mem) (addr : ℕ) (d : Inventory) → IsFree i d → IsReadOff (i2c_from m addr d)
  i2c_off m addr d on =
      four_off (four_words m addr 0) _ (λ user address scl sda. four_off (four_words m addr 16) _ (λ connect read write disconnect. given_off d on sda))

  init_engine_on : (o : Option ℕ) (base : ℕ) (r : Result Engine Trap) (d : Inventory) → IsFree i d → IsReadOff r → IsFree i (calls.init_engine o base r d).inventory
  init_engine_on None base r d on read = on
  init_engine_on (Some id) base (Err t) d on read = on
  init_engine_on (Some id) base (Ok e) d on read = set_engine_free d on (base + id) e read

  engine_init_on : (a : Moment) (base : ℕ) (r : Result Engine Trap) (d : Inventory) → IsFree i d → IsReadOff r → IsFree i (calls.engine_init a base r d).inventory
  engine_init_on a base r d on read =
      either_on a.init (calls.init_engine (calls.free_id base d) base r d) (calls.fails traps.HostPhase d) (init_engine_on (calls.free_id base d) base r d on read) on

  sends_off : (s : Serial) (e : Engine) (t : ℕ) (early : Bool) (buffer count : ℕ) → IsOff (Some e) → IsOff (Some (sends_by s e t early buffer count))
  sends_off (serials.Uart u) e t early buffer count off = off
  sends_off (serials.Spi s) e t early buffer count off = off
  sends_off (serials.I2c s) e t early buffer count off = off

  exchanges_off : (s : Serial) (e : Engine) (t buffer count : ℕ) → IsOff (Some e) → IsOff (Some (exchanges_by s e t buffer count))
  exchanges_off (serials.Uart u) e t buffer count off = off
  exchanges_off (serials.Spi s) e t buffer count off = off
  exchanges_off (serials.I2c s) e t buffer count off = off

  stops_off : (s : Serial) (e : Engine) (t : ℕ) → IsOff (Some e) → IsOff (Some (stops_by s e t))
  stops_off (serials.Uart u) e t off = off
  stops_off (serials.Spi s) e t off = off
  stops_off (serials.I2c s) e t off = off

  write_uart_on : (o : Option Engine) (id buffer count : ℕ) (a : Moment) (m : Mem) (d : Inventory) → IsFree i d → IsOff o →
      IsFree i (calls.write_uart o id buffer count a m d).inventory
  write_uart_on None id buffer count a m d on off = on
  write_uart_on (Some e) id buffer count a m d on off =
      either_on (not (has m buffer count)) (calls.fails traps.HostAddress d) _ on (either_on (is_busy e) (calls.gives 0 d) _ on
      (set_engine_free d on (calls.uarts + id) (sends e a.now a.init buffer count) (sends_off e.serial e a.now a.init buffer count off)))

  start_spi_on : (o : Option Engine) (id buffer count : ℕ) (a : Moment) (m : Mem) (d : Inventory) → IsFree i d → IsOff o →
      IsFree i (calls.start_spi o id buffer count a m d).inventory
  start_spi_on None id buffer count a m d on off = on
  start_spi_on (Some e) id buffer count a m d on off =
      either_on (not (has m buffer count)) (calls.fails traps.HostAddress d) _ on (either_on (count == 0 || is_busy e) (calls.nothing d) _ on
      (set_engine_free d on (calls.spis + id) (exchanges e a.now buffer count) (exchanges_off e.serial e a.now buffer count off)))

  stop_spi_on : (o : Option Engine) (id : ℕ) (a : Moment) (d : Inventory) → IsFree i d → IsOff o → IsFree i (calls.stop_spi o id a d).inventory
  stop_spi_on None id a d on off = on
  stop_spi_on (Some e) id a d on off = set_engine_free d on (calls.spis + id) (stops e a.now) (stops_off e.serial e a.now off)

  -- ---- each function; one with other arguments than its own traps

  does_on : (name : HostName) (args : List Value) (a : Moment) (m : Mem) (d : Inventory) → a.given.names ≡ named → IsFree i d → IsFree i (host_does name args a m d).inventory
  does_on names.PinInit [] a m d same on = on
  does_on names.PinInit (I32 name ∷ []) a m d same on = on
  does_on names.PinInit (I32 name ∷ I32 mode ∷ []) a m d same on = either_on a.init (calls.init_named (text_in 64 (drop name m.bytes)) a.given.names mode d) (calls.fails traps.HostPhase d) (subst (λ (ns : List (Option (List ℕ))). IsFree i (calls.init_named (text_in 64 (drop name m.bytes)) ns mode d).inventory) (sym same) (init_named_on (text_in 64 (drop name m.bytes)) mode d on)) on
  does_on names.PinInit (I32 name ∷ I32 mode ∷ v ∷ vs) a m d same on = on
  does_on names.PinInit (I32 name ∷ I64 n ∷ vs) a m d same on = on
  does_on names.PinInit (I32 name ∷ F32 n ∷ vs) a m d same on = on
  does_on names.PinInit (I32 name ∷ F64 n ∷ vs) a m d same on = on
  does_on names.PinInit (I64 n ∷ vs) a m d same on = on
  does_on names.PinInit (F32 n ∷ vs) a m d same on = on
  does_on names.PinInit (F64 n ∷ vs) a m d same on = on
  does_on names.PinRead [] a m d same on = on
  does_on names.PinRead (I32 j ∷ []) a m d same on = read_on (pin_at d j) (calls.level_of a.levels j) d on
  does_on names.PinRead (I32 j ∷ v ∷ vs) a m d same on = on
  does_on names.PinRead (I64 n ∷ vs) a m d same on = on
  does_on names.PinRead (F32 n ∷ vs) a m d same on = on
  does_on names.PinRead (F64 n ∷ vs) a m d same on = on
  does_on names.PinWrite [] a m d same on = on
  does_on names.PinWrite (I32 j ∷ []) a m d same on = on
  does_on names.PinWrite (I32 j ∷ I32 value ∷ []) a m d same on = write_on j (not (value == 0)) d on
  does_on names.PinWrite (I32 j ∷ I32 value ∷ v ∷ vs) a m d same on = on
  does_on names.PinWrite (I32 j ∷ I64 n ∷ vs) a m d same on = on
  does_on names.PinWrite (I32 j ∷ F32 n ∷ vs) a m d same on = on
  does_on names.PinWrite (I32 j ∷ F64 n ∷ vs) a m d same on = on
  does_on names.PinWrite (I64 n ∷ vs) a m d same on = on
  does_on names.PinWrite (F32 n ∷ vs) a m d same on = on
  does_on names.PinWrite (F64 n ∷ vs) a m d same on = on
  does_on names.PinWatch [] a m d same on = on
  does_on names.PinWatch (I32 j ∷ []) a m d same on = on
  does_on names.PinWatch (I32 j ∷ I32 addr ∷ []) a m d same on = watch_on (pin_at d j) j addr m d on
  does_on names.PinWatch (I32 j ∷ I32 addr ∷ v ∷ vs) a m d same on = on
  does_on names.PinWatch (I32 j ∷ I64 n ∷ vs) a m d same on = on
  does_on names.PinWatch (I32 j ∷ F32 n ∷ vs) a m d same on = on
  does_on names.PinWatch (I32 j ∷ F64 n ∷ vs) a m d same on = on
  does_on names.PinWatch (I64 n ∷ vs) a m d same on = on
  does_on names.PinWatch (F32 n ∷ vs) a m d same on = on
  does_on names.PinWatch (F64 n ∷ vs) a m d same on = on
  does_on names.AttrInit [] a m d same on = on
  does_on names.AttrInit (I32 name ∷ []) a m d same on = on
  does_on names.AttrInit (I32 name ∷ I32 default ∷ []) a m d same on = attr_init_on a name default m d on
  does_on names.AttrInit (I32 name ∷ I32 default ∷ v ∷ vs) a m d same on = on
  does_on names.AttrInit (I32 name ∷ I64 n ∷ vs) a m d same on = on
  does_on names.AttrInit (I32 name ∷ F32 n ∷ vs) a m d same on = on
  does_on names.AttrInit (I32 name ∷ F64 n ∷ vs) a m d same on = on
  does_on names.AttrInit (I64 n ∷ vs) a m d same on = on
  does_on names.AttrInit (F32 n ∷ vs) a m d same on = on
  does_on names.AttrInit (F64 n ∷ vs) a m d same on = on
  does_on names.AttrRead [] a m d same on = on
  does_on names.AttrRead (I32 id ∷ []) a m d same on = on
  does_on names.AttrRead (I32 id ∷ v ∷ vs) a m d same on = on
  does_on names.AttrRead (I64 n ∷ vs) a m d same on = on
  does_on names.AttrRead (F32 n ∷ vs) a m d same on = on
  does_on names.AttrRead (F64 n ∷ vs) a m d same on = on
  does_on names.TimerInit [] a m d same on = on
  does_on names.TimerInit (I32 addr ∷ []) a m d same on = timer_init_on a addr m d on
  does_on names.TimerInit (I32 addr ∷ v ∷ vs) a m d same on = on
  does_on names.TimerInit (I64 n ∷ vs) a m d same on = on
  does_on names.TimerInit (F32 n ∷ vs) a m d same on = on
  does_on names.TimerInit (F64 n ∷ vs) a m d same on = on
  does_on names.TimerStart [] a m d same on = on
  does_on names.TimerStart (I32 id ∷ []) a m d same on = on
  does_on names.TimerStart (I32 id ∷ I32 x ∷ []) a m d same on = on
  does_on names.TimerStart (I32 id ∷ I32 x ∷ I32 again ∷ []) a m d same on = start_on (slice_get d.timers id) id a.now (delays.Micros x) (not (again == 0)) d on
  does_on names.TimerStart (I32 id ∷ I32 x ∷ I32 again ∷ v ∷ vs) a m d same on = on
  does_on names.TimerStart (I32 id ∷ I32 x ∷ I64 n ∷ vs) a m d same on = on
  does_on names.TimerStart (I32 id ∷ I32 x ∷ F32 n ∷ vs) a m d same on = on
  does_on names.TimerStart (I32 id ∷ I32 x ∷ F64 n ∷ vs) a m d same on = on
  does_on names.TimerStart (I32 id ∷ I64 n ∷ vs) a m d same on = on
  does_on names.TimerStart (I32 id ∷ F32 n ∷ vs) a m d same on = on
  does_on names.TimerStart (I32 id ∷ F64 n ∷ vs) a m d same on = on
  does_on names.TimerStart (I64 n ∷ vs) a m d same on = on
  does_on names.TimerStart (F32 n ∷ vs) a m d same on = on
  does_on names.TimerStart (F64 n ∷ vs) a m d same on = on
  does_on names.GetSimNanos [] a m d same on = on
  does_on names.GetSimNanos (v ∷ vs) a m d same on = on
  does_on names.PinMode [] a m d same on = on
  does_on names.PinMode (I32 j ∷ []) a m d same on = on
  does_on names.PinMode (I32 j ∷ I32 mode ∷ []) a m d same on = mode_on j mode d on
  does_on names.PinMode (I32 j ∷ I32 mode ∷ v ∷ vs) a m d same on = on
  does_on names.PinMode (I32 j ∷ I64 n ∷ vs) a m d same on = on
  does_on names.PinMode (I32 j ∷ F32 n ∷ vs) a m d same on = on
  does_on names.PinMode (I32 j ∷ F64 n ∷ vs) a m d same on = on
  does_on names.PinMode (I64 n ∷ vs) a m d same on = on
  does_on names.PinMode (F32 n ∷ vs) a m d same on = on
  does_on names.PinMode (F64 n ∷ vs) a m d same on = on
  does_on names.PinWatchStop [] a m d same on = on
  does_on names.PinWatchStop (I32 j ∷ []) a m d same on = unwatch_on (slice_get d.watches j) j d on
  does_on names.PinWatchStop (I32 j ∷ v ∷ vs) a m d same on = on
  does_on names.PinWatchStop (I64 n ∷ vs) a m d same on = on
  does_on names.PinWatchStop (F32 n ∷ vs) a m d same on = on
  does_on names.PinWatchStop (F64 n ∷ vs) a m d same on = on
  does_on names.TimerStartNanos [] a m d same on = on
  does_on names.TimerStartNanos (I32 id ∷ []) a m d same on = on
  does_on names.TimerStartNanos (I32 id ∷ I32 n ∷ vs) a m d same on = on
  does_on names.TimerStartNanos (I32 id ∷ I64 x ∷ []) a m d same on = on
  does_on names.TimerStartNanos (I32 id ∷ I64 x ∷ I32 again ∷ []) a m d same on = start_on (slice_get d.timers id) id a.now (delays.Nanos x) (not (again == 0)) d on
  does_on names.TimerStartNanos (I32 id ∷ I64 x ∷ I32 again ∷ v ∷ vs) a m d same on = on
  does_on names.TimerStartNanos (I32 id ∷ I64 x ∷ I64 n ∷ vs) a m d same on = on
  does_on names.TimerStartNanos (I32 id ∷ I64 x ∷ F32 n ∷ vs) a m d same on = on
  does_on names.TimerStartNanos (I32 id ∷ I64 x ∷ F64 n ∷ vs) a m d same on = on
  does_on names.TimerStartNanos (I32 id ∷ F32 n ∷ vs) a m d same on = on
  does_on names.TimerStartNanos (I32 id ∷ F64 n ∷ vs) a m d same on = on
  does_on names.TimerStartNanos (I64 n ∷ vs) a m d same on = on
  does_on names.TimerStartNanos (F32 n ∷ vs) a m d same on = on
  does_on names.TimerStartNanos (F64 n ∷ vs) a m d same on = on
  does_on names.TimerStop [] a m d same on = on
  does_on names.TimerStop (I32 id ∷ []) a m d same on = stop_on (slice_get d.timers id) id d on
  does_on names.TimerStop (I32 id ∷ v ∷ vs) a m d same on = on
  does_on names.TimerStop (I64 n ∷ vs) a m d same on = on
  does_on names.TimerStop (F32 n ∷ vs) a m d same on = on
  does_on names.TimerStop (F64 n ∷ vs) a m d same on = on
  does_on names.UartInit [] a m d same on = on
  does_on names.UartInit (I32 addr ∷ []) a m d same on = engine_init_on a calls.uarts (uart_from m addr d) d on (uart_off m addr d on)
  does_on names.UartInit (I32 addr ∷ v ∷ vs) a m d same on = on
  does_on names.UartInit (I64 n ∷ vs) a m d same on = on
  does_on names.UartInit (F32 n ∷ vs) a m d same on = on
  does_on names.UartInit (F64 n ∷ vs) a m d same on = on
  does_on names.UartWrite [] a m d same on = on
  does_on names.UartWrite (I32 id ∷ []) a m d same on = on
  does_on names.UartWrite (I32 id ∷ I32 buffer ∷ []) a m d same on = on
  does_on names.UartWrite (I32 id ∷ I32 buffer ∷ I32 count ∷ []) a m d same on = write_uart_on (engine_of calls.uarts id d) id buffer count a m d on (of_kind_off d on calls.uarts id)
  does_on names.UartWrite (I32 id ∷ I32 buffer ∷ I32 count ∷ v ∷ vs) a m d same on = on
  does_on names.UartWrite (I32 id ∷ I32 buffer ∷ I64 n ∷ vs) a m d same on = on
  does_on names.UartWrite (I32 id ∷ I32 buffer ∷ F32 n ∷ vs) a m d same on = on
  does_on names.UartWrite (I32 id ∷ I32 buffer ∷ F64 n ∷ vs) a m d same on = on
  does_on names.UartWrite (I32 id ∷ I64 n ∷ vs) a m d same on = on
  does_on names.UartWrite (I32 id ∷ F32 n ∷ vs) a m d same on = on
  does_on names.UartWrite (I32 id ∷ F64 n ∷ vs) a m d same on = on
  does_on names.UartWrite (I64 n ∷ vs) a m d same on = on
  does_on names.UartWrite (F32 n ∷ vs) a m d same on = on
  does_on names.UartWrite (F64 n ∷ vs) a m d same on = on
  does_on names.SpiInit [] a m d same on = on
  does_on names.SpiInit (I32 addr ∷ []) a m d same on = engine_init_on a calls.spis (spi_from m addr d) d on (spi_off m addr d on)
  does_on names.SpiInit (I32 addr ∷ v ∷ vs) a m d same on = on
  does_on names.SpiInit (I64 n ∷ vs) a m d same on = on
  does_on names.SpiInit (F32 n ∷ vs) a m d same on = on
  does_on names.SpiInit (F64 n ∷ vs) a m d same on = on
  does_on names.SpiStart [] a m d same on = on
  does_on names.SpiStart (I32 id ∷ []) a m d same on = on
  does_on names.SpiStart (I32 id ∷ I32 buffer ∷ []) a m d same on = on
  does_on names.SpiStart (I32 id ∷ I32 buffer ∷ I32 count ∷ []) a m d same on = start_spi_on (engine_of calls.spis id d) id buffer count a m d on (of_kind_off d on calls.spis id)
  does_on names.SpiStart (I32 id ∷ I32 buffer ∷ I32 count ∷ v ∷ vs) a m d same on = on
  does_on names.SpiStart (I32 id ∷ I32 buffer ∷ I64 n ∷ vs) a m d same on = on
  does_on names.SpiStart (I32 id ∷ I32 buffer ∷ F32 n ∷ vs) a m d same on = on
  does_on names.SpiStart (I32 id ∷ I32 buffer ∷ F64 n ∷ vs) a m d same on = on
  does_on names.SpiStart (I32 id ∷ I64 n ∷ vs) a m d same on = on
  does_on names.SpiStart (I32 id ∷ F32 n ∷ vs) a m d same on = on
  does_on names.SpiStart (I32 id ∷ F64 n ∷ vs) a m d same on = on
  does_on names.SpiStart (I64 n ∷ vs) a m d same on = on
  does_on names.SpiStart (F32 n ∷ vs) a m d same on = on
  does_on names.SpiStart (F64 n ∷ vs) a m d same on = on
  does_on names.SpiStop [] a m d same on = on
  does_on names.SpiStop (I32 id ∷ []) a m d same on = stop_spi_on (engine_of calls.spis id d) id a d on (of_kind_off d on calls.spis id)
  does_on names.SpiStop (I32 id ∷ v ∷ vs) a m d same on = on
  does_on names.SpiStop (I64 n ∷ vs) a m d same on = on
  does_on names.SpiStop (F32 n ∷ vs) a m d same on = on
  does_on names.SpiStop (F64 n ∷ vs) a m d same on = on
  does_on names.I2cInit [] a m d same on = on
  does_on names.I2cInit (I32 addr ∷ []) a m d same on = engine_init_on a calls.i2cs (i2c_from m addr d) d on (i2c_off m addr d on)
  does_on names.I2cInit (I32 addr ∷ v ∷ vs) a m d same on = on
  does_on names.I2cInit (I64 n ∷ vs) a m d same on = on
  does_on names.I2cInit (F32 n ∷ vs) a m d same on = on
  does_on names.I2cInit (F64 n ∷ vs) a m d same on = on
  does_on (names.Output output) args a m d same on = on

  at_on : (o : Option HostName) (args : List Value) (a : Moment) (m : Mem) (d : Inventory) → a.given.names ≡ named → IsFree i d → IsFree i (host_at o args a m d).inventory
  at_on None args a m d same on = on
  at_on (Some name) args a m d same on = does_on name args a m d same on

  -- a call on the output leaves all but the output
  call_on : (output : Option OutputName) (o : Option HostName) (args : List Value) (a : Moment) (m : Mem) (d : Inventory) → a.given.names ≡ named → IsFree i d → IsFree i (call_does output o args a m d).host
  call_on (Some output) o args a m d same on = record { pin = on.pin; engines = on.engines }
  call_on None o args a m d same on = at_on o args a m d same on

  -- what stays so through host calls: the names, the pin, and whether no engine drives it
  abbrev pub state_at : HostState → List (Option (List ℕ)) × (Option Pin × Bool)
  state_at h = (h.moment.given.names, (pin_at h.inventory i, list_all (is_off i) h.inventory.engines))

  abbrev pub free_state : List (Option (List ℕ)) × (Option Pin × Bool)
  free_state = (named, (None, true))

  abbrev pair : Bool → List (Option (List ℕ)) × (Option Pin × Bool)
  pair off = (named, (None, off))

  pub state_is : (h : HostState) → h.moment.given.names ≡ named → IsFree i h.inventory → state_at h ≡ free_state
  state_is h same is =
      ap (λ (names : List (Option (List ℕ))). (names, (pin_at h.inventory i, list_all (is_off i) h.inventory.engines))) same
      ∙ ap (λ (pin : Option Pin). (named, (pin, list_all (is_off i) h.inventory.engines))) is.pin
      ∙ ap (λ (off : Bool). pair off) is.engines

  pub state_free : (h : HostState) → state_at h ≡ free_state → (h.moment.given.names ≡ named) × IsFree i h.inventory
  state_free h e = (
    ap (λ (t : List (Option (List ℕ)) × (Option Pin × Bool)). t.0) e,
    record {
      pin = ap (λ (t : List (Option (List ℕ)) × (Option Pin × Bool)). t.1.0) e;
      engines = ap (λ (t : List (Option (List ℕ)) × (Option Pin × Bool)). t.1.1) e;
    },
  )

  pub host_keeps : (h : HostState) (f : ℕ) (args : List Value) (m : Mem) → state_at h ≡ free_state → state_at (answers h f args m).host ≡ free_state
  host_keeps h f args m e =
      let is = state_free h e in
      state_is (answers h f args m).host is.0 (call_on (option_and_then output_of (slice_get h.moment.given.table f)) (slice_get h.moment.given.table f) args h.moment m h.inventory is.0 is.1)
