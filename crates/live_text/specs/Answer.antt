-- The lines of answers (profile).
use Rattle.std.specs.Prelude.{ℕ, ◌/◌, ◌%◌, ◌+◌, ◌==◌, List, [], ◌∷◌, ◌++◌, nat_lt, if◌then◌else◌, codes}
use Rattle.std.specs.Fmt.{decimal}
use Rattle.sim_refusals.specs.Refusals.{name_of}
use Rattle.live_text.specs.declared.answer.TheConstants.{OUT_OF_MEMORY}

-- a digit of 0 to 15
abbrev pub hex_digit : ℕ → ℕ
hex_digit d = if nat_lt d 10 then 48 + d else 55 + d

abbrev pub hex_byte : ℕ → List ℕ
hex_byte n = hex_digit (n / 16) ∷ hex_digit (n % 16) ∷ []

abbrev pub hex_word : ℕ → List ℕ
hex_word n = hex_byte (n / 256) ++ hex_byte (n % 256)

-- words after a count, if there are any
abbrev pub after_count : List ℕ → List ℕ
after_count [] = []
after_count (b ∷ bs) = 32 ∷ b ∷ bs

-- `ok CYCLE COUNT WORDS`
abbrev pub ok_text : ℕ → ℕ → List ℕ → List ℕ
ok_text cycle count words = codes "ok " ++ (decimal cycle ++ (codes " " ++ (decimal count ++ (after_count words ++ codes "\n"))))

-- why a request is refused: by a refusal's name, or since memory ran out
abbrev pub reason : ℕ → List ℕ
reason number = if number == OUT_OF_MEMORY then codes "OutOfMemory" else name_of number

-- `no CYCLE NUMBER NAME`
abbrev pub no_text : ℕ → ℕ → List ℕ
no_text cycle number = codes "no " ++ (decimal cycle ++ (codes " " ++ (decimal number ++ (codes " " ++ (reason number ++ codes "\n")))))

-- a block with the line feed after it; nothing for an empty one
abbrev pub block_text : List ℕ → List ℕ
block_text [] = []
block_text (b ∷ bs) = (b ∷ bs) ++ codes "\n"
