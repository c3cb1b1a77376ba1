-- For each omission the first write that asked for it.
use Rattle.std.specs.Prelude.{ℕ, List, replicate, slice_set, slice_index_or, Option, None, Some}
use Rattle.avr_omit.specs.declared.omission.Omission.{Omission}
use Rattle.avr_omit.specs.declared.omission.Omission.TheVariants.{HeldPrescaler, ToggleInPwm, PinClock, ForcedMatch, SpiSlave, Comparator, PullUpDisable, VectorPlace, FlashWrite, ClockPrescaler, PowerReduction, OscillatorTrim, AdcTrigger, AdcChannel, AdcReference, InputDisable, InputCapture, Crystal, TwiSlave, AddressedFrames, NineBits, ClockedUsart, ReservedParity}
use Rattle.avr_omit.specs.declared.kept.Asked.{Asked}
use Rattle.avr_omit.specs.Omissions.{left_out, left_out_beside}

-- its place among them
abbrev pub place_of : Omission → ℕ
place_of HeldPrescaler = 0
place_of ToggleInPwm = 1
place_of PinClock = 2
place_of ForcedMatch = 3
place_of SpiSlave = 4
place_of Comparator = 5
place_of PullUpDisable = 6
place_of VectorPlace = 7
place_of FlashWrite = 8
place_of ClockPrescaler = 9
place_of PowerReduction = 10
place_of OscillatorTrim = 11
place_of AdcTrigger = 12
place_of AdcChannel = 13
place_of AdcReference = 14
place_of InputDisable = 15
place_of InputCapture = 16
place_of Crystal = 17
place_of TwiSlave = 18
place_of AddressedFrames = 19
place_of NineBits = 20
place_of ClockedUsart = 21
place_of ReservedParity = 22

-- the first of two writes
abbrev pub earlier : Option Asked → Asked → Option Asked
earlier None new = Some new
earlier (Some old) new = Some old

-- after a write that asked for this
abbrev pub with_asked : Option Omission → Asked → List (Option Asked) → List (Option Asked)
with_asked None new kept = kept
with_asked (Some omission) new kept = slice_set kept (place_of omission) (earlier (slice_index_or kept (place_of omission) None) new)

-- nothing was asked for
abbrev pub none_asked : List (Option Asked)
none_asked = replicate 23 None

-- after a write
abbrev pub noted : Asked → List (Option Asked) → List (Option Asked)
noted new kept = with_asked (left_out_beside new.address new.value) new (with_asked (left_out new.address new.value) new kept)

-- the first write that asked for this
abbrev pub asked_for : Omission → List (Option Asked) → Option Asked
asked_for omission kept = slice_index_or kept (place_of omission) None
