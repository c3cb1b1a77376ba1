-- An Uno alone on its board.
use Rattle.std.proofs.Common.{◌≡◌, ◌∙◌, ◌<◌, ℕ, zero, suc, List, [], ◌∷◌, Some, false, length, map, refl, ap, sym, subst, arith}
use Rattle.std.specs.Prelude.{take, slice_get, slice_index}
use Rattle.std.proofs.lemmas.List.{append-nil}
use Rattle.sim_base.specs.declared.wiring.Wiring.{Wiring}
use Rattle.board_model.specs.Board.{drives_of}
use Rattle.board_model.specs.Fits.{Fits}
use Rattle.board_model.specs.Fresh.{AreFresh}
use Rattle.avr_mcu.specs.Devices.{Devices, devices}
use Rattle.avr_mcu.specs.McuOf.{McuAt, mcu, uno_drives}
use Rattle.avr_mcu.specs.McuLawsOf.{length-uno_drives}

module _ (w : Wiring) (p : McuAt Devices) (pins : length w.net_of ≡ 31) (contacts : w.contacts ≡ []) (first : w.first_pin ≡ 0 ∷ []) (chip : w.chip ≡ false ∷ []) where
  fits_one : Fits (mcu devices) w (p.mcu ∷ [])
  fits_one = record {
    parts = ap length first;
    chips = ap length chip;
    pins = pins ∙ sym (length-uno_drives devices p.mcu.units.devices) ∙ ap length (sym (append-nil (uno_drives devices p.mcu.units.devices)));
    contacts = ap length contacts;
    places = λ i (h : i < 1).
        let none : 0 ≡ i = omega (arith, h) in
        subst (λ (k : ℕ). slice_index w.first_pin k ≡ length (drives_of (mcu devices) (take k (p.mcu ∷ [])))) none (ap (λ (l : List ℕ). slice_index l 0) first);
  }

  pub fits : (ps : List (McuAt Devices)) → ps ≡ p ∷ [] → Fits (mcu devices) w (map (λ (m : McuAt Devices). m.mcu) ps)
  fits ps is = subst (λ (l : List (McuAt Devices)). Fits (mcu devices) w (map (λ (m : McuAt Devices). m.mcu) l)) (sym is) fits_one

-- an Uno at cycle 0 that was not woken
only : (p q : McuAt Devices) (k : ℕ) → slice_get (p ∷ []) k ≡ Some q → p ≡ q
only p q zero e = cc
only p q (suc k) e = absurd cc

pub fresh : (p : McuAt Devices) (ps : List (McuAt Devices)) → p.cycle ≡ 0 → p.wakes ≡ 0 → ps ≡ p ∷ [] →
    AreFresh (mcu devices) (λ (m : McuAt Devices). m.mcu) (λ (m : McuAt Devices). m.cycle) (λ (m : McuAt Devices). m.wakes) ps
fresh p ps cycle wakes is =
    subst (λ (l : List (McuAt Devices)). AreFresh (mcu devices) (λ (m : McuAt Devices). m.mcu) (λ (m : McuAt Devices). m.cycle) (λ (m : McuAt Devices). m.wakes) l) (sym is) (record {
      at_start = λ k q e. ap (λ (m : McuAt Devices). m.cycle) (sym (only p q k e)) ∙ cycle;
      never_woken = λ k q e. ap (λ (m : McuAt Devices). m.wakes) (sym (only p q k e)) ∙ wakes;
      are_valid = λ k q e. refl;
    })
