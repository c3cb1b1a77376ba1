-- What firmware can write that this Uno leaves out (ATmega328P data sheet, "Register Summary"; profile).
use Rattle.std.specs.Prelude.{ℕ, ◌==◌, ◌&&◌, nat_le, nat_lt, Bool, if◌then◌else◌, Option, None, Some, bit_and}
use Rattle.avr_omit.specs.declared.omission.Omission.{Omission}
use Rattle.avr_omit.specs.declared.omission.Omission.TheVariants.{HeldPrescaler, ToggleInPwm, PinClock, ForcedMatch, SpiSlave, Comparator, PullUpDisable, VectorPlace, FlashWrite, ClockPrescaler, PowerReduction, OscillatorTrim, AdcTrigger, AdcChannel, AdcReference, InputDisable, InputCapture, Crystal, TwiSlave, AddressedFrames, NineBits, ClockedUsart, ReservedParity}

-- whether the bits of a mask have a value from the least to the greatest
abbrev pub is_within : ℕ → ℕ → ℕ → ℕ → Bool
is_within mask least greatest x = nat_le least (bit_and x mask) && nat_le (bit_and x mask) greatest

-- whether a write of x to address a is one of the row with this address, mask, least and greatest value
abbrev pub is_row : ℕ → ℕ → ℕ → ℕ → ℕ → ℕ → Bool
is_row address mask least greatest a x = a == address && is_within mask least greatest x

-- what a write of x to an address from GTCCR on asks for that is not there, the first of several
abbrev pub left_out_from : ℕ → ℕ → Option Omission
left_out_from a x =
    if is_row 0x43 0x80 0x80 0x80 a x then Some HeldPrescaler
    else if is_row 0x44 0xC3 0x41 0x41 a x then Some ToggleInPwm
    else if is_row 0x44 0xC3 0x43 0x43 a x then Some ToggleInPwm
    else if is_row 0x45 0x07 0x06 0x07 a x then Some PinClock
    else if is_row 0x45 0xC0 0x40 0xC0 a x then Some ForcedMatch
    else if is_row 0x4C 0x50 0x40 0x40 a x then Some SpiSlave
    else if is_row 0x50 0x80 0x00 0x00 a x then Some Comparator
    else if is_row 0x55 0x10 0x10 0x10 a x then Some PullUpDisable
    else if is_row 0x55 0x02 0x02 0x02 a x then Some VectorPlace
    else if is_row 0x57 0x01 0x01 0x01 a x then Some FlashWrite
    else if is_row 0x61 0x8F 0x01 0x08 a x then Some ClockPrescaler
    else if is_row 0x64 0xFF 0x01 0xFF a x then Some PowerReduction
    else if is_row 0x66 0x00 0x00 0x00 a x then Some OscillatorTrim
    else if is_row 0x7B 0x07 0x01 0x07 a x then Some AdcTrigger
    else if is_row 0x7B 0x40 0x40 0x40 a x then Some Comparator
    else if is_row 0x7C 0x0F 0x06 0x0E a x then Some AdcChannel
    else if is_row 0x7C 0xC0 0x80 0xC0 a x then Some AdcReference
    else if is_row 0x7E 0x3F 0x01 0x3F a x then Some InputDisable
    else if is_row 0x7F 0x03 0x01 0x03 a x then Some InputDisable
    else if is_row 0x80 0xC3 0x41 0x43 a x then Some ToggleInPwm
    else if is_row 0x81 0x07 0x06 0x07 a x then Some PinClock
    else if is_row 0x81 0xC0 0x40 0xC0 a x then Some InputCapture
    else if is_row 0x82 0xC0 0x40 0xC0 a x then Some ForcedMatch
    else if is_row 0xB0 0xC3 0x41 0x41 a x then Some ToggleInPwm
    else if is_row 0xB0 0xC3 0x43 0x43 a x then Some ToggleInPwm
    else if is_row 0xB1 0xC0 0x40 0xC0 a x then Some ForcedMatch
    else if is_row 0xB6 0x60 0x20 0x60 a x then Some Crystal
    else if is_row 0xBA 0xFF 0x01 0xFF a x then Some TwiSlave
    else if is_row 0xBD 0xFE 0x02 0xFE a x then Some TwiSlave
    else if is_row 0xC0 0x01 0x01 0x01 a x then Some AddressedFrames
    else if is_row 0xC1 0x04 0x04 0x04 a x then Some NineBits
    else if is_row 0xC2 0xC0 0x40 0xC0 a x then Some ClockedUsart
    else if is_row 0xC2 0x30 0x10 0x10 a x then Some ReservedParity
    else None

-- the second of several: six of these registers have two fields that do
abbrev pub left_out_too : ℕ → ℕ → Option Omission
left_out_too a x =
    if is_row 0x45 0xC0 0x40 0xC0 a x then Some ForcedMatch
    else if is_row 0x55 0x02 0x02 0x02 a x then Some VectorPlace
    else if is_row 0x7B 0x40 0x40 0x40 a x then Some Comparator
    else if is_row 0x7C 0xC0 0x80 0xC0 a x then Some AdcReference
    else if is_row 0x81 0xC0 0x40 0xC0 a x then Some InputCapture
    else if is_row 0xC2 0x30 0x10 0x10 a x then Some ReservedParity
    else None

-- What a write of x to a data address asks for that is not there, the first of several. Below GTCCR nothing is left out.
abbrev pub left_out : ℕ → ℕ → Option Omission
left_out a x = if nat_lt a 0x43 then None else left_out_from a x

-- what else it asks for: that again where it asks for one thing alone
abbrev pub left_out_beside : ℕ → ℕ → Option Omission
left_out_beside a x = if nat_lt a 0x43 then None else left_out_too a x
