-- The definitions on texts that are known.
use Rattle.std.specs.Fmt.{digits}
use Rattle.std.proofs.Common.{◌++◌, replicate, ◌≡◌, refl, codes, List, [], ◌∷◌, ℕ, Ok, Err}
use Rattle.sim_base.specs.declared.fault.Place.TheVariants as places
use Rattle.sim_base.specs.declared.signal.Level.{Level}
use Rattle.sim_base.specs.declared.signal.Level.TheVariants as levels
use Rattle.sim_base.specs.declared.signal.Drive.TheVariants as drives
use Rattle.sim_base.specs.Rows.{Row}
use Rattle.text_model.specs.Lines.{lines}
use Rattle.text_model.specs.Hex.{verdict, Passed, Data, Base, End, Faulty, hex_image, image_of, put}
use Rattle.text_model.specs.Wave.{Variable, Net, Strong, Weak, id_of, declarations, value_lines, changes, later_text, begun_text, wave_text, wave_count, later_count, change_count}

three_lines : lines (codes "ab\r\n\r\r\n\nc\r") ≡ codes "ab" ∷ codes "\r" ∷ [] ∷ codes "c\r" ∷ []
unfolding lines
three_lines = refl

blink_line : verdict 0 (codes ":08000000259A2D9A2D98FDCFE1") ≡ Data 0 (0x25 ∷ 0x9A ∷ 0x2D ∷ 0x9A ∷ 0x2D ∷ 0x98 ∷ 0xFD ∷ 0xCF ∷ [])
blink_line = refl

end_line : verdict 0 (codes ":00000001FF") ≡ End
end_line = refl

at_the_end : verdict 0 (codes ":017FFF000081") ≡ Data 0x7FFF (0 ∷ [])
at_the_end = refl

past_the_end : verdict 0 (codes ":01800000007F") ≡ Faulty 25
past_the_end = refl

past_the_end_by_base : verdict 65536 (codes ":0100000000FF") ≡ Faulty 25
past_the_end_by_base = refl

segment : verdict 0 (codes ":020000020100FB") ≡ Base 0x1000
segment = refl

upper_half : verdict 0 (codes ":020000040001F9") ≡ Base 0x10000
upper_half = refl

start : verdict 0 (codes ":0400000500000100F6") ≡ Passed
start = refl

cr_alone : verdict 0 (codes ":00000001FF\r") ≡ Faulty 21
cr_alone = refl

bad_sum : verdict 0 (codes ":08000000259A2D9A2D98FDCFE2") ≡ Faulty 23
bad_sum = refl

no_end : hex_image (codes ":08000000259A2D9A2D98FDCFE1\n") ≡ Err (record { number = 26; place = places.Line 2 })
unfolding image_of lines
no_end = refl

empty : hex_image [] ≡ Err (record { number = 26; place = places.Line 1 })
unfolding image_of lines
empty = refl

-- the image of the blink firmware, over any image before
blink : (image : List ℕ) → image_of image 0 1 (lines (codes ":08000000259A2D9A2D98FDCFE1\n:00000001FF\n")) ≡ Ok (put image 0 (0x25 ∷ 0x9A ∷ 0x2D ∷ 0x9A ∷ 0x2D ∷ 0x98 ∷ 0xFD ∷ 0xCF ∷ []))
unfolding image_of lines
blink image = refl

-- the identifier codes `!`, `.`, `~`, `!!` and `"!`
ids : (id_of 0 ∷ id_of 13 ∷ id_of 93 ∷ id_of 94 ∷ id_of 188 ∷ []) ≡ codes "!" ∷ codes "." ∷ codes "~" ∷ codes "!!" ∷ codes "\"!" ∷ []
ids = refl

-- a pin of a chip: its net, what it drives strongly and what it drives weakly
three : List Variable
three = record { name = codes "c.OUT"; shows = Net 0 } ∷ record { name = codes "c.OUT.out"; shows = Strong 0 } ∷ record { name = codes "c.OUT.pull"; shows = Weak 0 } ∷ []

four_rows : List Row
four_rows =
    record { cycle = 0; levels = levels.Z ∷ []; drives = drives.Z ∷ [] }
    ∷ record { cycle = 1; levels = levels.Low ∷ []; drives = drives.Low ∷ [] }
    ∷ record { cycle = 2; levels = levels.Low ∷ []; drives = drives.Low ∷ [] }
    ∷ record { cycle = 4; levels = levels.Wiped 700 ∷ []; drives = drives.Wiper 700 ∷ [] }
    ∷ []

small_wave : wave_text three four_rows 16 ≡
    codes "$timescale 100 ps $end\n$scope module board $end\n$var wire 1 ! c.OUT $end\n$var wire 1 \" c.OUT.out $end\n$var wire 1 # c.OUT.pull $end\n$upscope $end\n$enddefinitions $end\n#0\n$dumpvars\nz!\nz\"\nz#\n$end\n#625\n0!\n0\"\n#2500\n1!\nz\"\n1#\n#10000\n"
unfolding digits three four_rows declarations value_lines changes change_count later_text begun_text
small_wave = refl

small_count : wave_count three four_rows ≡ 5
unfolding three four_rows change_count later_count wave_count
small_count = refl

-- the pins of an Uno without wires, each on a net of its own
uno_pins : List Variable
uno_pins =
    record { name = codes "uno.0"; shows = Net 0 } ∷
    record { name = codes "uno.1"; shows = Net 1 } ∷
    record { name = codes "uno.2"; shows = Net 2 } ∷
    record { name = codes "uno.3"; shows = Net 3 } ∷
    record { name = codes "uno.4"; shows = Net 4 } ∷
    record { name = codes "uno.5"; shows = Net 5 } ∷
    record { name = codes "uno.6"; shows = Net 6 } ∷
    record { name = codes "uno.7"; shows = Net 7 } ∷
    record { name = codes "uno.8"; shows = Net 8 } ∷
    record { name = codes "uno.9"; shows = Net 9 } ∷
    record { name = codes "uno.10"; shows = Net 10 } ∷
    record { name = codes "uno.11"; shows = Net 11 } ∷
    record { name = codes "uno.12"; shows = Net 12 } ∷
    record { name = codes "uno.13"; shows = Net 13 } ∷
    record { name = codes "uno.A0"; shows = Net 14 } ∷
    record { name = codes "uno.A1"; shows = Net 15 } ∷
    record { name = codes "uno.A2"; shows = Net 16 } ∷
    record { name = codes "uno.A3"; shows = Net 17 } ∷
    record { name = codes "uno.A4"; shows = Net 18 } ∷
    record { name = codes "uno.A5"; shows = Net 19 } ∷
    []

-- a row in which pin 13 alone has a level
pin_13 : ℕ → Level → Row
pin_13 cycle level = record { cycle = cycle; levels = replicate 13 levels.Z ++ level ∷ replicate 6 levels.Z; drives = [] }

blink_rows : List Row
blink_rows =
    pin_13 0 levels.Z ∷ pin_13 1 levels.Low ∷ pin_13 3 levels.High ∷ pin_13 5 levels.Low ∷ pin_13 9 levels.High ∷ pin_13 11 levels.Low ∷ pin_13 15 levels.High ∷ []

blink_wave : wave_text uno_pins blink_rows 16 ≡
    codes "$timescale 100 ps $end\n$scope module board $end\n$var wire 1 ! uno.0 $end\n$var wire 1 \" uno.1 $end\n$var wire 1 # uno.2 $end\n$var wire 1 $ uno.3 $end\n$var wire 1 % uno.4 $end\n$var wire 1 & uno.5 $end\n$var wire 1 ' uno.6 $end\n$var wire 1 ( uno.7 $end\n$var wire 1 ) uno.8 $end\n$var wire 1 * uno.9 $end\n$var wire 1 + uno.10 $end\n$var wire 1 , uno.11 $end\n$var wire 1 - uno.12 $end\n$var wire 1 . uno.13 $end\n$var wire 1 / uno.A0 $end\n$var wire 1 0 uno.A1 $end\n$var wire 1 1 uno.A2 $end\n$var wire 1 2 uno.A3 $end\n$var wire 1 3 uno.A4 $end\n$var wire 1 4 uno.A5 $end\n$upscope $end\n$enddefinitions $end\n#0\n$dumpvars\nz!\nz\"\nz#\nz$\nz%\nz&\nz'\nz(\nz)\nz*\nz+\nz,\nz-\nz.\nz/\nz0\nz1\nz2\nz3\nz4\n$end\n"
    ++ codes "#625\n0.\n#1875\n1.\n#3125\n0.\n#5625\n1.\n#6875\n0.\n#9375\n1.\n#10000\n"
unfolding digits uno_pins pin_13 blink_rows declarations value_lines changes change_count later_text begun_text
blink_wave = refl
