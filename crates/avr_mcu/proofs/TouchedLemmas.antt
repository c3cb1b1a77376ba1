-- The bus on which the code keeps the pins that writes touch: without them it is the bus of the definition, and of pins that were not
-- touched the same is asked.
use Rattle.std.proofs.Common.{◌≡◌, ◌∙◌, ℕ, ◌+◌, ◌-◌, ◌*◌, ◌%◌, ◌/◌, ◌<◌, List, [], Bool, true, false, ◌&&◌, nat_lt, ap, sym, subst, refl}
use Rattle.std.specs.Prelude.{if◌then◌else◌, ◌==◌, slice_set}
use Rattle.part_law.specs.Spans.{IsIn}
use Rattle.avr_isa.specs.declared.instr.Instr.TheVariants.{Nop, Movw, Muls, Mulsu, Fmul, Fmuls, Fmulsu, Mul, Cpc, Sbc, Add, Cpse, Cp, Sub, Adc, And, Eor, Or, Mov, Cpi, Sbci, Subi, Ori, Andi, Ldi, LddZ, LddY, StdZ, StdY, Lds, LdZInc, LdZDec, LpmZ, LpmZInc, LdYInc, LdYDec, LdX, LdXInc, LdXDec, Pop, Sts, StZInc, StZDec, StYInc, StYDec, StX, StXInc, StXDec, Push, Com, Neg, Swap, Inc, Asr, Lsr, Ror, Dec, Bset, Bclr, Ijmp, Icall, Ret, Reti, Sleep, Break, Wdr, Lpm, Jmp, Call, Adiw, Sbiw, Cbi, Sbic, Sbi, Sbis, In, Out, Rjmp, Rcall, Brbs, Brbc, Bld, Bst, Sbrc, Sbrs, Halt}
use Rattle.avr_isa.specs.declared.instr.Instr.{Instr}
use Rattle.avr_core.specs.declared.state.Mode.{Mode}
use Rattle.avr_core.specs.declared.state.Mode.TheVariants as modes
use Rattle.avr_core.specs.Bus.{Bus}
use Rattle.avr_core.specs.CoreState.{Core}
use Rattle.avr_core.specs.Registers.{reg, pair, advanced, jumped, raised}
use Rattle.avr_core.specs.AvrStep.{X, Y, Z, Did, did, acted, avr_step, stepped, entered, instr_at, loaded, after_load, after_store, is_own, after_call, after_push, pushed, did_ret, did_reti}
use Rattle.avr_core.proofs.BusLemmas.{step_leads, entered_leads}
use Rattle.avr_unit.specs.Bits.{with_bit}
use Rattle.avr_unit.specs.Reach.{Touch, Touches, touched_if}
use Rattle.avr_unit.specs.UnitMachine.{UnitMachine, Laws}
use Rattle.avr_unit.specs.declared.pins.TheConstants.{PORT_PINS}
use Rattle.avr_mcu.specs.Units.{Units, UnitsAt, unit_bus, plain, with_plain, with_asked, with_register, data_at}
use Rattle.avr_mcu.specs.Touched.{Touched, bare, bared, touched_bus, Leads}

module _ {D : Type 0} (m : UnitMachine D) (r : Touch D) where
  abbrev b : Bus (UnitsAt D)
  b = unit_bus m

  abbrev t : Bus (Touched D)
  t = touched_bus m r

  by_own : (o : Bool) (x y : Touched D) → bare (if o then x else y) ≡ (if o then bare x else bare y)
  by_own true x y = refl
  by_own false x y = refl

  load_is : (s : Touched D) (a : ℕ) → bare (after_load t s a) ≡ after_load b (bare s) a
  load_is s a = by_own (is_own a) s (t.read s a)

  store_is : (s : Touched D) (a x : ℕ) → bare (after_store t s a x) ≡ after_store b (bare s) a x
  store_is s a x = by_own (is_own a) s (t.write s a x)

  call_is : (c : Core) (s : Touched D) → bare (after_call t c s) ≡ after_call b c (bare s)
  call_is c s =
      store_is (after_push t c s (c.pc % 256)) (pushed c (c.pc % 256)).sp (c.pc / 256)
      ∙ ap (λ (x : UnitsAt D). after_store b x (pushed c (c.pc % 256)).sp (c.pc / 256)) (store_is s c.sp (c.pc % 256))

  on : (c : Core) (n : ℕ) (x y : UnitsAt D) → x ≡ y → did c x n ≡ did c y n
  on c n x y e = ap (λ (z : UnitsAt D). did c z n) e

  ret_is : (c : Core) (s : Touched D) → bared (did_ret t c s) ≡ did_ret b c (bare s)
  ret_is c s =
      let c1 = raised c in
      let s1 = after_load t s c1.sp in
      let c2 = raised c1 in
      let f : UnitsAt D → Did (UnitsAt D) = λ u. did (jumped c2 (256 * loaded b c1 (bare s) c1.sp + loaded b c2 u c2.sp)) (after_load b u c2.sp) 4 in
      on _ _ _ _ (load_is s1 c2.sp) ∙ ap f (load_is s c1.sp)

  reti_is : (c : Core) (s : Touched D) → bared (did_reti t c s) ≡ did_reti b c (bare s)
  reti_is c s = ap (λ (d : Did (UnitsAt D)). did (record d.core { sreg = record d.core.sreg { i = true }; just_enabled = true }) d.bus d.cycles) (ret_is c s)

  acted_bare : (flash : List ℕ) (i : Instr) (c : Core) (s : Touched D) → bared (acted t flash i c s) ≡ acted b flash i c (bare s)
  acted_bare flash Nop c s = refl
  acted_bare flash (Movw x y) c s = refl
  acted_bare flash (Muls x y) c s = refl
  acted_bare flash (Mulsu x y) c s = refl
  acted_bare flash (Fmul x y) c s = refl
  acted_bare flash (Fmuls x y) c s = refl
  acted_bare flash (Fmulsu x y) c s = refl
  acted_bare flash (Mul x y) c s = refl
  acted_bare flash (Cpc x y) c s = refl
  acted_bare flash (Sbc x y) c s = refl
  acted_bare flash (Add x y) c s = refl
  acted_bare flash (Cpse x y) c s = refl
  acted_bare flash (Cp x y) c s = refl
  acted_bare flash (Sub x y) c s = refl
  acted_bare flash (Adc x y) c s = refl
  acted_bare flash (And x y) c s = refl
  acted_bare flash (Eor x y) c s = refl
  acted_bare flash (Or x y) c s = refl
  acted_bare flash (Mov x y) c s = refl
  acted_bare flash (Cpi x y) c s = refl
  acted_bare flash (Sbci x y) c s = refl
  acted_bare flash (Subi x y) c s = refl
  acted_bare flash (Ori x y) c s = refl
  acted_bare flash (Andi x y) c s = refl
  acted_bare flash (Ldi x y) c s = refl
  acted_bare flash (LddZ x y) c s = on _ _ _ _ (load_is s ((pair c Z + y) % 65536))
  acted_bare flash (LddY x y) c s = on _ _ _ _ (load_is s ((pair c Y + y) % 65536))
  acted_bare flash (StdZ x y) c s = on _ _ _ _ (store_is s ((pair c Z + x) % 65536) (reg c y))
  acted_bare flash (StdY x y) c s = on _ _ _ _ (store_is s ((pair c Y + x) % 65536) (reg c y))
  acted_bare flash (Lds x y) c s = on _ _ _ _ (load_is s y)
  acted_bare flash (LdZInc x) c s = on _ _ _ _ (load_is s (pair c Z))
  acted_bare flash (LdZDec x) c s = on _ _ _ _ (load_is s ((pair c Z + 65535) % 65536))
  acted_bare flash (LpmZ x) c s = refl
  acted_bare flash (LpmZInc x) c s = refl
  acted_bare flash (LdYInc x) c s = on _ _ _ _ (load_is s (pair c Y))
  acted_bare flash (LdYDec x) c s = on _ _ _ _ (load_is s ((pair c Y + 65535) % 65536))
  acted_bare flash (LdX x) c s = on _ _ _ _ (load_is s (pair c X))
  acted_bare flash (LdXInc x) c s = on _ _ _ _ (load_is s (pair c X))
  acted_bare flash (LdXDec x) c s = on _ _ _ _ (load_is s ((pair c X + 65535) % 65536))
  acted_bare flash (Pop x) c s = on _ _ _ _ (load_is s (raised c).sp)
  acted_bare flash (Sts x y) c s = on _ _ _ _ (store_is s y (reg c x))
  acted_bare flash (StZInc x) c s = on _ _ _ _ (store_is s (pair c Z) (reg c x))
  acted_bare flash (StZDec x) c s = on _ _ _ _ (store_is s ((pair c Z + 65535) % 65536) (reg c x))
  acted_bare flash (StYInc x) c s = on _ _ _ _ (store_is s (pair c Y) (reg c x))
  acted_bare flash (StYDec x) c s = on _ _ _ _ (store_is s ((pair c Y + 65535) % 65536) (reg c x))
  acted_bare flash (StX x) c s = on _ _ _ _ (store_is s (pair c X) (reg c x))
  acted_bare flash (StXInc x) c s = on _ _ _ _ (store_is s (pair c X) (reg c x))
  acted_bare flash (StXDec x) c s = on _ _ _ _ (store_is s ((pair c X + 65535) % 65536) (reg c x))
  acted_bare flash (Push x) c s = on _ _ _ _ (store_is s c.sp (reg c x))
  acted_bare flash (Com x) c s = refl
  acted_bare flash (Neg x) c s = refl
  acted_bare flash (Swap x) c s = refl
  acted_bare flash (Inc x) c s = refl
  acted_bare flash (Asr x) c s = refl
  acted_bare flash (Lsr x) c s = refl
  acted_bare flash (Ror x) c s = refl
  acted_bare flash (Dec x) c s = refl
  acted_bare flash (Bset x) c s = refl
  acted_bare flash (Bclr x) c s = refl
  acted_bare flash Ijmp c s = refl
  acted_bare flash Icall c s = on _ _ _ _ (call_is (advanced c 1) s)
  acted_bare flash Ret c s = ret_is (advanced c 1) s
  acted_bare flash Reti c s = reti_is (advanced c 1) s
  acted_bare flash Sleep c s = refl
  acted_bare flash Break c s = refl
  acted_bare flash Wdr c s = refl
  acted_bare flash Lpm c s = refl
  acted_bare flash (Jmp x) c s = refl
  acted_bare flash (Call x) c s = on _ _ _ _ (call_is (advanced c 2) s)
  acted_bare flash (Adiw x y) c s = refl
  acted_bare flash (Sbiw x y) c s = refl
  acted_bare flash (Cbi x y) c s = refl
  acted_bare flash (Sbic x y) c s = refl
  acted_bare flash (Sbi x y) c s = refl
  acted_bare flash (Sbis x y) c s = refl
  acted_bare flash (In x y) c s = on _ _ _ _ (load_is s (y + 0x20))
  acted_bare flash (Out x y) c s = on _ _ _ _ (store_is s (x + 0x20) (reg c y))
  acted_bare flash (Rjmp x) c s = refl
  acted_bare flash (Rcall x) c s = on _ _ _ _ (call_is (advanced c 1) s)
  acted_bare flash (Brbs x y) c s = refl
  acted_bare flash (Brbc x y) c s = refl
  acted_bare flash (Bld x y) c s = refl
  acted_bare flash (Bst x y) c s = refl
  acted_bare flash (Sbrc x y) c s = refl
  acted_bare flash (Sbrs x y) c s = refl
  acted_bare flash (Halt x) c s = refl

  pub step_bare : (flash : List ℕ) (c : Core) (s : Touched D) → bared (avr_step t flash c s) ≡ avr_step b flash c (bare s)
  step_bare flash c s = by_mode c.mode
    where
      by_mode : (k : Mode) → bared (stepped t k flash c s) ≡ stepped b k flash c (bare s)
      by_mode modes.Run = acted_bare flash (instr_at flash c.pc) c s
      by_mode modes.Sleep = refl
      by_mode (modes.Halt w) = refl

  pub entered_bare : (vector : ℕ) (c : Core) (s : Touched D) → bared (entered t vector c s) ≡ entered b vector c (bare s)
  entered_bare vector c s = on _ _ _ _ (call_is c s)

pub leads_same : {D : Type 0} (m : UnitMachine D) (s : Touched D) → Leads m s s
leads_same m s = record { cycle = refl; held = refl; steady = λ p l out. (out, refl) }

pub leads_on : {D : Type 0} (m : UnitMachine D) (s t u : Touched D) → Leads m s t → Leads m t u → Leads m s u
leads_on m s t u f g = record {
  cycle = g.cycle ∙ f.cycle;
  held = g.held ∙ f.held;
  steady = λ p l out. let k = g.steady p l out in let i = f.steady p l k.0 in (i.0, k.1 ∙ i.1);
}

-- another state of the devices, which asks the same of each pin
pub leads_by : {D : Type 0} (m : UnitMachine D) (s x : Touched D) (d : D) → x ≡ record s { units = record (s.units) { devices = d } } → ((p : ℕ) → m.pad d p ≡ m.pad s.units.devices p) → Leads m s x
leads_by {D} m s x d is same = subst (λ (y : Touched D). Leads m s y) (sym is) (record { cycle = refl; held = refl; steady = λ p l out. (out, same p) })

-- another SMCR
pub smcr_leads : {D : Type 0} (m : UnitMachine D) (s x : Touched D) (y : ℕ) → x ≡ record s { units = record (s.units) { smcr = y } } → Leads m s x
smcr_leads {D} m s x y is = subst (λ (z : Touched D). Leads m s z) (sym is) (record { cycle = refl; held = refl; steady = λ p l out. (out, refl) })

plain_devices : {D : Type 0} (m : UnitMachine D) (u : Units D) (a x : ℕ) → (with_plain m u a x).devices ≡ u.devices
plain_devices m u a x = by (a == 0x3E) (a == 0x4A) (a == 0x4B) (a == 0x53)
  where
    by : (b c d e : Bool) → (if b then record u { gpior0 = x } else if c then record u { gpior1 = x } else if d then record u { gpior2 = x } else if e then record u { smcr = x } else record u { ignored = slice_set u.ignored a true }).devices ≡ u.devices
    by true c d e = refl
    by false true d e = refl
    by false false true e = refl
    by false false false true = refl
    by false false false false = refl

module _ {D : Type 0} (m : UnitMachine D) (laws : Laws m) (r : Touch D) (h : Touches m r) where
  read_leads : (s : Touched D) (a : ℕ) → Leads m s ((touched_bus m r).read s a)
  read_leads s a = record { cycle = refl; held = refl; steady = λ p l out. (out, by (nat_lt a 0x0100 && m.has a) p) }
    where
      by : (b : Bool) (p : ℕ) → m.pad (if b then record (s.units) { devices = m.read s.units.devices s.cycle a } else s.units).devices p ≡ m.pad s.units.devices p
      by true p = laws.reads_pad s.units.devices s.cycle a p
      by false p = refl

  write_leads : (s : Touched D) (a x : ℕ) → Leads m s ((touched_bus m r).write s a x)
  write_leads s a x = record { cycle = refl; held = refl; steady = λ p l out. by (nat_lt a 0x0100) (m.has a) (nat_lt a 0x0900) p l out }
    where
      by : (b c d : Bool) (p : ℕ) → p < PORT_PINS → ¬ IsIn (touched_if (b && c) (r.writes s.units.devices a x) s.touched) p → (¬ IsIn s.touched p)
          × (m.pad (if b then with_asked (if c then record (s.units) { devices = m.write s.units.devices s.cycle a x } else with_plain m s.units a x) s.cycle a x else if d then record (s.units) { sram = slice_set s.units.sram (a - 0x0100) x } else s.units).devices p ≡ m.pad s.units.devices p)
      by true true d p l out = let w = h.writes s.units.devices s.cycle a x s.touched in (w.0 p out, w.1 p l out)
      by true false d p l out = (out, ap (λ (u : D). m.pad u p) (plain_devices m s.units a x))
      by false c true p l out = (out, refl)
      by false c false p l out = (out, refl)

  pub bits_lead : (s : Touched D) (a k : ℕ) (x : Bool) → Leads m s ((touched_bus m r).write_bit s a k x)
  bits_lead s a k x = record {
    cycle = refl;
    held = refl;
    steady = λ p l out. by (nat_lt a 0x0100) (m.has a) (nat_lt a 0x0900) (with_bit (plain m s.units a) k x) (with_bit (data_at m s.units s.cycle [] a) k x) p l out;
  }
    where
      by : (b c d : Bool) (y z p : ℕ) → p < PORT_PINS → ¬ IsIn (touched_if (b && c) (r.bits s.units.devices a k x) s.touched) p → (¬ IsIn s.touched p)
          × (m.pad (if b then (if c then record (s.units) { devices = m.write_bit s.units.devices s.cycle a k x } else with_plain m s.units a y)
          else if b then with_asked (with_register m s.units s.cycle a z) s.cycle a z
          else if d then record (s.units) { sram = slice_set s.units.sram (a - 0x0100) z } else s.units).devices p ≡ m.pad s.units.devices p)
      by true true d y z p l out = let w = h.bits s.units.devices s.cycle a k x s.touched in (w.0 p out, w.1 p l out)
      by true false d y z p l out = (out, ap (λ (u : D). m.pad u p) (plain_devices m s.units a y))
      by false c true y z p l out = (out, refl)
      by false c false y z p l out = (out, refl)

  -- where an instruction leads, and an entry
  core_leads : (flash : List ℕ) (core : Core) (s : Touched D) → Leads m s (avr_step (touched_bus m r) flash core s).bus
  core_leads flash core s = step_leads (touched_bus m r) (Leads m) (leads_same m) (leads_on m) read_leads write_leads bits_lead flash core s

  -- an instruction of the core, as the code does it on that bus
  pub stepped_leads : (flash : List ℕ) (core : Core) (s : Touched D) (d : Did (Touched D)) → d ≡ avr_step (touched_bus m r) flash core s → Leads m s d.bus
  stepped_leads flash core s d e = subst (λ (x : Did (Touched D)). Leads m s x.bus) (sym e) (core_leads flash core s)

  pub stepped_is : (flash : List ℕ) (core : Core) (s : Touched D) (d : Did (Touched D)) → d ≡ avr_step (touched_bus m r) flash core s → bared d ≡ avr_step (unit_bus m) flash core (bare s)
  stepped_is flash core s d e = ap (λ (x : Did (Touched D)). bared x) e ∙ step_bare m r flash core s

  pub entry_leads : (vector : ℕ) (core : Core) (s : Touched D) (d : Did (Touched D)) → d ≡ entered (touched_bus m r) vector core s → Leads m s d.bus
  entry_leads vector core s d e =
      subst (λ (x : Did (Touched D)). Leads m s x.bus) (sym e) (entered_leads (touched_bus m r) (Leads m) (leads_same m) (leads_on m) read_leads write_leads bits_lead vector core s)

  pub entry_is : (vector : ℕ) (core : Core) (s : Touched D) (d : Did (Touched D)) → d ≡ entered (touched_bus m r) vector core s → bared d ≡ entered (unit_bus m) vector core (bare s)
  entry_is vector core s d e = ap (λ (x : Did (Touched D)). bared x) e ∙ entered_bare m r vector core s
