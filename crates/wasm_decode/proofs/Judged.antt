-- A judged byte and what its value asks for.
use Rattle.std.proofs.Common.{◌≡◌, ℕ, Result, Ok, Err, sym, subst}
use Rattle.sim_base.specs.declared.fault.Fault.{Fault}
use Rattle.sim_base.specs.declared.fault.Fault.TheVariants as faults
use Rattle.sim_base.specs.declared.fault.Place.TheVariants as places
use Rattle.wasm_binary.specs.declared.reader.Reader.{Reader}
use Rattle.wasm_binary.specs.Form.{any_byte, byte, ◌>>=◌}
use Rattle.wasm_binary.specs.Reads.{Reads, Fails, Decodes}
use Rattle.wasm_binary.proofs.Steps.{stops, then, judged_ends, judged_ok, judged_err}
use Rattle.wasm_decode.specs.declared.progress.Progress.{Progress}
use Rattle.wasm_decode.specs.declared.progress.Section.{Section}
use Rattle.wasm_decode.specs.SectionText.{judge_id, section_of, section}

module _ (s : Progress) where
  pub section_ends : (old : Reader) (e : Fault) → Fails any_byte old e → Fails (section s) old e
  unfolding section
  section_ends old e f = stops (byte (judge_id s)) (section_of s.module) old e (judged_ends (judge_id s) old e f)

  pub section_faulty : (old mid : Reader) (b k : ℕ) (e : Fault) → Reads any_byte old mid b → Err k ≡ judge_id s b → e ≡ faults.Refused (record { number = k; place = places.Byte old.at }) → Fails (section s) old e
  unfolding section
  section_faulty old mid b k e h j is =
      let f = stops (byte (judge_id s)) (section_of s.module) old (faults.Refused (record { number = k; place = places.Byte old.at })) (judged_err (judge_id s) old mid b k h (sym j)) in
      subst (λ (z : Fault). Fails (byte (judge_id s) >>= section_of s.module) old z) (sym is) f

  pub section_goes : (old mid new : Reader) (b id : ℕ) (r : Result Section Fault) → Reads any_byte old mid b → Ok id ≡ judge_id s b → Decodes (section_of s.module id) r mid new → Decodes (section s) r old new
  unfolding section
  section_goes old mid new b id r h j d = then (byte (judge_id s)) (section_of s.module) old mid new id r (judged_ok (judge_id s) old mid b id h (sym j)) d
