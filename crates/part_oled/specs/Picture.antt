-- The picture of a small OLED, and what bytes of commands and of data make of it (SSD1306 data sheet, "Graphic Display Data RAM",
-- "Command Table"; that scrolling, the order of the lines and the charge pump show nothing, is the profile's).
use Rattle.std.specs.Prelude.{ℕ, zero, suc, ◌+◌, ◌-◌, ◌*◌, ◌/◌, ◌%◌, ◌==◌, ◌&&◌, not, nat_lt, Bool, true, false, if◌then◌else◌}
use Rattle.std.specs.Prelude.{List, [], ◌∷◌, ◌++◌, replicate, slice_set, get_or, Option, None, Some}
use Rattle.std.specs.List.{list_any}
use Rattle.part_oled.specs.declared.picture.Addressing.{Addressing}
use Rattle.part_oled.specs.declared.picture.Addressing.TheVariants.{Horizontal, Vertical, Page}
use Rattle.part_oled.specs.declared.picture.Window.{Window}
use Rattle.part_oled.specs.declared.picture.Waiting.{Waiting}

-- The cell of a page and a column is at 128 times the page and the column: eight dots below one another, the lowest bit on top.
-- Then the addressing of data, the windows of columns and pages, and the column and page of the next byte of data; whether the
-- display is on, all dots are lit, and lit and dark are exchanged; and a command whose parameters are still to come.
pub record Picture : Type 0 where
  pub cells : List ℕ
  pub addressing : Addressing
  pub columns : Window
  pub pages : Window
  pub column : ℕ
  pub page : ℕ
  pub on : Bool
  pub lit : Bool
  pub inverted : Bool
  pub waiting : Option Waiting

unfoldable pub dark_cells : List ℕ
dark_cells = replicate 1024 0

abbrev pub dark : Picture
dark = record {
  cells = dark_cells;
  addressing = Page;
  columns = record { first = 0; last = 127 };
  pages = record { first = 0; last = 7 };
  column = 0;
  page = 0;
  on = false;
  lit = false;
  inverted = false;
  waiting = None;
}

-- the place after this one in a window of so many columns or pages
abbrev pub next_in : Window → ℕ → ℕ → ℕ
next_in w count n = if n == w.last then w.first else (n + 1) % count

abbrev pub with_column : Picture → ℕ → Picture
with_column p column = record p { column = column }

abbrev pub with_page : Picture → ℕ → Picture
with_page p page = record p { page = page }

-- Data move on by columns or by pages, and at the end of the window the other one moves on too; in page addressing the column alone
-- moves on, through all of the page.
abbrev pub advanced : Addressing → Picture → Picture
advanced Horizontal p = record p { column = next_in p.columns 128 p.column; page = if p.column == p.columns.last then next_in p.pages 8 p.page else p.page }
advanced Vertical p = record p { page = next_in p.pages 8 p.page; column = if p.page == p.pages.last then next_in p.columns 128 p.column else p.column }
advanced Page p = with_column p ((p.column + 1) % 128)

-- A byte of data is written at page and column, which then move on.
abbrev pub with_data : Picture → ℕ → Picture
with_data p x = advanced p.addressing (record p { cells = slice_set p.cells (128 * p.page + p.column) x })

abbrev pub is_from : ℕ → ℕ → ℕ → Bool
is_from first last x = not (nat_lt x first) && not (nat_lt last x)

-- the commands that have parameters: so many each, and those that have one
abbrev pub with_parameters : List (ℕ × ℕ)
with_parameters = (0x21, 2) ∷ (0x22, 2) ∷ (0xA3, 2) ∷ (0x29, 5) ∷ (0x2A, 5) ∷ (0x26, 6) ∷ (0x27, 6) ∷ []

abbrev pub with_one : List ℕ
with_one = 0x20 ∷ 0x81 ∷ 0x8D ∷ 0xA8 ∷ 0xD3 ∷ 0xD5 ∷ 0xD9 ∷ 0xDA ∷ 0xDB ∷ []

abbrev pub count_in : ℕ → List (ℕ × ℕ) → ℕ
count_in x [] = 0
count_in x (c ∷ cs) = if x == c.0 then c.1 else count_in x cs

-- how many parameters a command has
abbrev pub parameters : ℕ → ℕ
parameters x = if list_any (λ c. x == c) with_one then 1 else count_in x with_parameters

-- A command without parameters: the low four bits or the high three bits of the column, the page, all lit or not, inverted or not,
-- off or on; any other byte does nothing.
abbrev pub switched : Picture → ℕ → Picture
switched p x =
    if x == 0xA4 then record p { lit = false }
    else if x == 0xA5 then record p { lit = true }
    else if x == 0xA6 then record p { inverted = false }
    else if x == 0xA7 then record p { inverted = true }
    else if x == 0xAE then record p { on = false }
    else if x == 0xAF then record p { on = true }
    else p

abbrev pub commanded : Picture → ℕ → Picture
commanded p x =
    if nat_lt x 0x10 then with_column p (p.column / 16 * 16 + x)
    else if nat_lt x 0x20 then with_column p (x % 8 * 16 + p.column % 16)
    else if is_from 0xB0 0xB7 x then with_page p (x - 0xB0)
    else switched p x

-- the addressing by its number's two low bits
abbrev pub addressing_of : ℕ → Addressing
addressing_of n = if n == 0 then Horizontal else if n == 1 then Vertical else Page

-- A window begins where data go on; one whose first place is after its last is ignored.
abbrev pub with_columns : Picture → ℕ → ℕ → Picture
with_columns p first last = if nat_lt last first then p else record p { columns = record { first = first; last = last }; column = first }

abbrev pub with_pages : Picture → ℕ → ℕ → Picture
with_pages p first last = if nat_lt last first then p else record p { pages = record { first = first; last = last }; page = first }

-- A command with its last two parameters.
abbrev pub completed : Picture → ℕ → ℕ → ℕ → Picture
completed p command before x =
    if command == 0x20 then record p { addressing = addressing_of (x % 4) }
    else if command == 0x21 then with_columns p (before % 128) (x % 128)
    else if command == 0x22 then with_pages p (before % 8) (x % 8)
    else p

-- A byte of commands is a command, or a parameter of the one that waits.
abbrev pub with_waiting : Picture → Option Waiting → ℕ → Picture
with_waiting p None x =
    if parameters x == 0 then commanded p x
    else record p { waiting = Some (record { command = x; left = parameters x; before = 0 }) }
with_waiting p (Some w) x =
    if w.left == 1 then completed (record p { waiting = None }) w.command w.before x
    else record p { waiting = Some (record w { left = w.left - 1; before = x }) }

abbrev pub with_command : Picture → ℕ → Picture
with_command p x = with_waiting p p.waiting x

-- what is shown of a cell
abbrev pub cell : Picture → ℕ → ℕ → ℕ
cell p page column =
    if not p.on then 0
    else if p.lit then 255
    else if p.inverted then 255 - get_or p.cells (128 * page + column) 0
    else get_or p.cells (128 * page + column) 0

-- what is shown of the columns of a page below one
unfoldable pub cells_below : Picture → ℕ → ℕ → List ℕ
cells_below p page zero = []
cells_below p page (suc n) = cells_below p page n ++ cell p page n ∷ []

-- what is shown of a page
unfoldable pub page_cells : Picture → ℕ → List ℕ
page_cells p page = cells_below p page 128
