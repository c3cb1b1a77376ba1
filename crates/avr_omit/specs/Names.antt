-- All omissions, in the order of their registers' addresses, and their names.
use Rattle.std.specs.Prelude.{ℕ, List, [], ◌∷◌, codes}
use Rattle.avr_omit.specs.declared.omission.Omission.{Omission}
use Rattle.avr_omit.specs.declared.omission.Omission.TheVariants.{HeldPrescaler, ToggleInPwm, PinClock, ForcedMatch, SpiSlave, Comparator, PullUpDisable, VectorPlace, FlashWrite, ClockPrescaler, PowerReduction, OscillatorTrim, AdcTrigger, AdcChannel, AdcReference, InputDisable, InputCapture, Crystal, TwiSlave, AddressedFrames, NineBits, ClockedUsart, ReservedParity}

abbrev pub all : List Omission
all = HeldPrescaler ∷ ToggleInPwm ∷ PinClock ∷ ForcedMatch ∷ SpiSlave ∷ Comparator ∷ PullUpDisable ∷ VectorPlace ∷ FlashWrite ∷ ClockPrescaler ∷ PowerReduction ∷ OscillatorTrim ∷ AdcTrigger ∷ AdcChannel ∷ AdcReference ∷ InputDisable ∷ InputCapture ∷ Crystal ∷ TwiSlave ∷ AddressedFrames ∷ NineBits ∷ ClockedUsart ∷ ReservedParity ∷ []

abbrev pub name_of : Omission → List ℕ
name_of HeldPrescaler = codes "HeldPrescaler"
name_of ToggleInPwm = codes "ToggleInPwm"
name_of PinClock = codes "PinClock"
name_of ForcedMatch = codes "ForcedMatch"
name_of SpiSlave = codes "SpiSlave"
name_of Comparator = codes "Comparator"
name_of PullUpDisable = codes "PullUpDisable"
name_of VectorPlace = codes "VectorPlace"
name_of FlashWrite = codes "FlashWrite"
name_of ClockPrescaler = codes "ClockPrescaler"
name_of PowerReduction = codes "PowerReduction"
name_of OscillatorTrim = codes "OscillatorTrim"
name_of AdcTrigger = codes "AdcTrigger"
name_of AdcChannel = codes "AdcChannel"
name_of AdcReference = codes "AdcReference"
name_of InputDisable = codes "InputDisable"
name_of InputCapture = codes "InputCapture"
name_of Crystal = codes "Crystal"
name_of TwiSlave = codes "TwiSlave"
name_of AddressedFrames = codes "AddressedFrames"
name_of NineBits = codes "NineBits"
name_of ClockedUsart = codes "ClockedUsart"
name_of ReservedParity = codes "ReservedParity"
