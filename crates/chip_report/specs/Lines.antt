-- The lines that a report has of what a chip printed and drew (profile, docs/REPORT.md).
use Rattle.std.specs.Prelude.{ℕ, zero, suc, ◌+◌, ◌*◌, ◌==◌, nat_le, List, [], ◌∷◌, ◌++◌, map, take, drop, Bool, ◌&&◌, not, if◌then◌else◌, Option, None, Some, codes}
use Rattle.std.specs.List.{flat_map, list_any}
use Rattle.std.specs.Fmt.{decimal}
use Rattle.sim_report.specs.Lines.{hex_byte}

-- what each line of a chip begins with, and a word
abbrev pub opening : List ℕ → List ℕ → List ℕ
opening id word = codes "chip " ++ (id ++ word)

-- ---- the console

-- a byte as it is shown: `?` in place of what is no printable character of ASCII
abbrev pub shown : ℕ → ℕ
shown b = if nat_le 0x20 b && nat_le b 0x7E then b else 0x3F

-- a character put before the first of some lines
abbrev pub joined : ℕ → List (List ℕ) → List (List ℕ)
joined b [] = (b ∷ []) ∷ []
joined b (line ∷ lines) = (b ∷ line) ∷ lines

-- the lines of a text: LF ends one, and what stands after the last LF is one too
abbrev pub lines_of : List ℕ → List (List ℕ)
lines_of [] = []
lines_of (b ∷ bs) = if b == 10 then [] ∷ lines_of bs else joined b (lines_of bs)

-- what each line of a console begins with
abbrev pub console_opening : List ℕ → List ℕ
console_opening id = opening id (codes " | ")

abbrev pub shown_line : List ℕ → List ℕ → List ℕ
shown_line word line = word ++ (map shown line ++ 10 ∷ [])

-- a chip's lines of what it printed
abbrev pub console_text : List ℕ → List ℕ → List ℕ
console_text id text = flat_map (shown_line (console_opening id)) (lines_of text)

-- ---- the display

abbrev pub is_drawn : List ℕ → Bool
is_drawn row = list_any (λ b. not (b == 0)) row

abbrev pub row_opening : List ℕ → ℕ → List ℕ
row_opening id y = opening id (codes " row ") ++ (decimal y ++ 32 ∷ [])

-- the line of row y, where it has a byte other than 0
abbrev pub row_text : List ℕ → ℕ → List ℕ → List ℕ
row_text id y row = if is_drawn row then row_opening id y ++ (flat_map hex_byte row ++ 10 ∷ []) else []

-- the lines of n rows from row y on, which have this many bytes each
abbrev pub rows_text : List ℕ → ℕ → ℕ → ℕ → List ℕ → List ℕ
rows_text id count y zero pixels = []
rows_text id count y (suc n) pixels = row_text id y (take count pixels) ++ rows_text id count (y + 1) n (drop count pixels)

-- a chip's lines of its display, 4 bytes for each pixel
abbrev pub frame_text : List ℕ → ℕ → ℕ → List ℕ → List ℕ
frame_text id width height pixels = rows_text id (4 * width) 0 height pixels

-- the same of a width, a height and pixels, if there are any
abbrev pub display_text : List ℕ → Option (ℕ × (ℕ × List ℕ)) → List ℕ
display_text id None = []
display_text id (Some picture) = frame_text id picture.0 picture.1.0 picture.1.1

-- ---- both

-- what a chip printed, and then what it drew
abbrev pub output_text : List ℕ → List ℕ → Option (ℕ × (ℕ × List ℕ)) → List ℕ
output_text id console picture = console_text id console ++ display_text id picture
