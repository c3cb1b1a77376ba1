-- Worked lines of a console and of a display.
use Rattle.std.proofs.Common.{◌≡◌, ℕ, List, [], ◌∷◌, ◌++◌, refl}
use Rattle.std.specs.Prelude.{codes, replicate}
use Rattle.std.specs.Fmt.{decimal}
use Rattle.std.proofs.lemmas.List.{append-nil}
use Rattle.chip_report.specs.Lines.{console_text, row_opening, frame_text}

abbrev c : List ℕ
c = codes "c"

nothing_printed : console_text c [] ≡ []
nothing_printed = refl

one_line : console_text c (codes "hi" ++ 10 ∷ []) ≡ codes "chip c | hi" ++ 10 ∷ []
one_line = refl

-- what stands after the last LF is a line too, and nothing there is none
line_without_its_end : console_text c (codes "hi" ++ (10 ∷ codes "you")) ≡ codes "chip c | hi" ++ (10 ∷ (codes "chip c | you" ++ 10 ∷ []))
line_without_its_end = refl

empty_lines : console_text c (10 ∷ 10 ∷ codes "a") ≡ codes "chip c | " ++ (10 ∷ (codes "chip c | " ++ (10 ∷ (codes "chip c | a" ++ 10 ∷ []))))
empty_lines = refl

-- 0x1F, 0x20, 0x7E, 0x7F, a CR, 0xFF
what_is_shown : console_text c (0x1F ∷ 0x20 ∷ 0x7E ∷ 0x7F ∷ 13 ∷ 0xFF ∷ 10 ∷ []) ≡ codes "chip c | ? ~???" ++ 10 ∷ []
what_is_shown = refl

-- a display of 2 by 2 pixels
blank_display : frame_text c 2 2 (replicate 16 0) ≡ []
blank_display = refl

begin_of_row : row_opening c 1 ≡ codes "chip c row " ++ (decimal 1 ++ 32 ∷ [])
begin_of_row = refl

second_row : frame_text c 2 2 (replicate 8 0 ++ (0xFF ∷ 0 ∷ 0 ∷ 0xFF ∷ 0 ∷ 0 ∷ 0 ∷ 0 ∷ [])) ≡ row_opening c 1 ++ (codes "FF0000FF00000000" ++ 10 ∷ [])
second_row = append-nil (row_opening c 1 ++ (codes "FF0000FF00000000" ++ 10 ∷ []))
