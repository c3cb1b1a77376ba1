-- The generated firmware (AVR Instruction Set Manual, "LDI", "OUT", "RJMP"; which instructions there are is the profile's):
-- it makes pins 0 to 7 and 8 to 13 outputs, and then writes drawn values to their two ports in turn, without an end.
use Rattle.std.specs.Prelude.{ℕ, zero, suc, ◌+◌, ◌-◌, ◌*◌, ◌/◌, ◌%◌, ◌==◌, if◌then◌else◌, List, [], ◌∷◌, ◌++◌, length, replicate}
use Rattle.board_make.specs.Draws.{draw}

-- a word in flash, its low byte first
abbrev pub little : ℕ → List ℕ
little word = word % 256 ∷ (word / 256 ∷ [])

-- LDI r16, k
abbrev pub load : ℕ → ℕ
load k = 0xE000 + k / 16 * 256 + k % 16

-- OUT PORTB, r16 in even turns and OUT PORTD, r16 in odd ones
abbrev pub put : ℕ → ℕ
put j = if j % 2 == 0 then 0xB905 else 0xB90B

-- turn j from 0 on; the first two draws are not the firmware's
abbrev pub turn : ℕ → ℕ → List ℕ
turn seed j = little (load (draw seed (3 + j) % 256)) ++ little (put j)

-- the first turns
unfoldable pub turns : ℕ → ℕ → List ℕ
turns seed zero = []
turns seed (suc j) = turns seed j ++ turn seed j

-- LDI r16, 0xFF; OUT DDRB, r16; OUT DDRD, r16
abbrev pub opening : List ℕ
opening = little 0xEF0F ++ (little 0xB904 ++ little 0xB90A)

-- RJMP back to the first turn
abbrev pub firmware : ℕ → List ℕ
firmware seed = (opening ++ turns seed 64) ++ little 0xCF7F

-- the flash of the ATmega328P: 32,768 bytes, 0xFF behind those that are given
abbrev pub flash_of : List ℕ → List ℕ
flash_of bytes = bytes ++ replicate (32768 - length bytes) 255

abbrev pub image : ℕ → List ℕ
image seed = flash_of (firmware seed)
