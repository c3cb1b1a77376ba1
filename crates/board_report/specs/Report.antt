-- The report of a run: how the parts of its board stand at the end, a line a fact (profile).
use Rattle.std.specs.Prelude.{◌⊎◌, ℕ, ◌+◌, List, [], ◌∷◌, ◌++◌, map, Bool, true, false, if◌then◌else◌, Option, None, Some, is_some, option_map, slice_index_or}
use Rattle.std.specs.List.{concat, flat_map}
use Rattle.std.proofs.Common.{inl, inr}
use Rattle.sim_base.specs.declared.signal.Level.{Level}
use Rattle.board_model.specs.Walks.{below}
use Rattle.law_board.specs.Player.{PlayerState}
use Rattle.avr_core.specs.declared.state.Mode.{Mode}
use Rattle.avr_core.specs.declared.state.Mode.TheVariants as modes
use Rattle.avr_mcu.specs.Mcu.{Mcu}
use Rattle.part_catalog.specs.Attributes.{greatest_of}
use Rattle.parts_basic.specs.Led.{is_lit}
use Rattle.parts_display.specs.Screen.{Screen, line}
use Rattle.part_oled.specs.Picture.{Picture, page_cells}
use Rattle.board_build.specs.declared.plan.PlanKind.{PlanKind}
use Rattle.board_build.specs.declared.plan.PlanKind.TheVariants as plans
use Rattle.board_build.specs.declared.plan.PlanPart.{PlanPart}
use Rattle.board_build.specs.Parts.{is_chip}
use Rattle.wasm_num.specs.Traps.{number_of}
use Rattle.part_reactive.specs.Reaction.{Reacting}
use Rattle.chip_host.specs.Chip.{Chip}
use Rattle.chip_host.specs.declared.death.Death.{Death}
use Rattle.chip_output.specs.Output.{picture}
use Rattle.chip_report.specs.Lines.{output_text}
use Rattle.any_part.specs.AnyBehaviour.{AnyOwn}
use Rattle.any_part.specs.AnyPart.{AnyState}
use Rattle.sim_report.specs.declared.row.UnoMode.{UnoMode}
use Rattle.sim_report.specs.declared.row.UnoMode.TheVariants as unos
use Rattle.sim_report.specs.declared.row.ReportRow.{ReportRow}
use Rattle.sim_report.specs.declared.row.ReportRow.TheVariants as lines
use Rattle.sim_report.specs.Lines.{line_of}

abbrev pub mode_of : Mode → UnoMode
mode_of modes.Run = unos.Run
mode_of modes.Sleep = unos.Sleep
mode_of (modes.Halt word) = unos.Halt word

-- a line for a data address where something was written though no register is there
abbrev pub ignored_row : Bool → List ℕ → ℕ → List ReportRow
ignored_row written id address = if written then lines.Ignored id address ∷ [] else []

abbrev pub ignored_rows : List ℕ → List Bool → ℕ → List ReportRow
ignored_rows id ignored address = ignored_row (slice_index_or ignored address false) id address

-- where the core stands, and the addresses without a register in rising order
abbrev pub uno_rows : List ℕ → Mcu → List ReportRow
uno_rows id uno = lines.Uno id uno.core.pc (mode_of uno.core.mode) ∷ flat_map (ignored_rows id uno.units.ignored) (below 256)

-- a button, a switch or a potentiometer is a kind with values to be set
abbrev pub is_input : PlanKind → Bool
is_input (plans.Stock kind) = is_some (greatest_of kind)
is_input (plans.Chip chip) = false

-- the two lines of a text display, which the report counts from 1
abbrev pub lcd_row : List ℕ → Screen → ℕ → ReportRow
lcd_row id screen row = lines.Lcd id (row + 1) (line screen row)

abbrev pub lcd_rows : List ℕ → Screen → List ReportRow
lcd_rows id screen = lcd_row id screen 0 ∷ lcd_row id screen 1 ∷ []

-- whether an OLED is on, and its pages in their order
abbrev pub page_row : List ℕ → Picture → ℕ → ReportRow
page_row id picture page = lines.OledPage id page (page_cells picture page)

abbrev pub oled_rows : List ℕ → Picture → List ReportRow
oled_rows id picture = lines.Oled id picture.on ∷ flat_map (λ page. page_row id picture page ∷ []) (below 8)

-- what a part that does nothing by itself shows; an LED by the levels of its last step
abbrev pub own_rows : PlanPart → List Level → AnyOwn → List ReportRow
own_rows part held (inl led) = lines.Led part.id (is_lit held) led.count ∷ []
own_rows part held (inr (inl passive)) = if is_input part.kind then lines.Input part.id passive.value ∷ [] else []
own_rows part held (inr (inr (inl gate))) = []
own_rows part held (inr (inr (inr (inl shift)))) = lines.Shift part.id shift.stages shift.storage ∷ []
own_rows part held (inr (inr (inr (inr (inl seven))))) = lines.Seg part.id seven.segments ∷ []
own_rows part held (inr (inr (inr (inr (inr (inl lcd)))))) = lcd_rows part.id lcd.screen
own_rows part held (inr (inr (inr (inr (inr (inr oled)))))) = oled_rows part.id oled.picture

-- whether a chip lives, or the trap that ended it and its cycle
abbrev pub chip_row : List ℕ → Option Death → ReportRow
chip_row id None = lines.Alive id
chip_row id (Some death) = lines.Trap id (number_of death.trap) death.cycle

-- the texts of rows, one after the other
abbrev pub text_of : List ReportRow → List ℕ
text_of rows = concat (map line_of rows)

abbrev pub uno_text : PlanPart → Mcu → List ℕ
uno_text part uno = text_of (uno_rows part.id uno)

abbrev pub own_text : PlanPart → Reacting AnyOwn → List ℕ
own_text part reacting = text_of (own_rows part reacting.held reacting.own)

-- how it stands, then what it printed, and then what it drew
abbrev pub chip_text : PlanPart → Chip → List ℕ
chip_text part chip =
    line_of (chip_row part.id chip.dead) ++ output_text part.id chip.inventory.output.console (option_map picture chip.inventory.output.frame)

-- a player of recorded drives has none
abbrev pub no_text : PlanPart → PlayerState → List ℕ
no_text part player = []

-- that of a part of one of two kinds
abbrev pub either_text : {A B : Type 0} → (PlanPart → A → List ℕ) → (PlanPart → B → List ℕ) → PlanPart → A ⊎ B → List ℕ
either_text f g part (inl a) = f part a
either_text f g part (inr b) = g part b

-- the text of a part, by how it stands
abbrev pub part_text : PlanPart → AnyState → List ℕ
part_text = either_text uno_text (either_text own_text chip_text)

abbrev pub play_part_text : PlanPart → AnyState ⊎ PlayerState → List ℕ
play_part_text = either_text part_text no_text

-- the text of parts, by how each stands; of the chips alone, or of all others
module _ {S : Type 0} (says : PlanPart → S → List ℕ) where
  abbrev pub chosen_text : Bool → PlanPart → S → List ℕ
  chosen_text true part state = if is_chip (Some part.kind) then says part state else []
  chosen_text false part state = if is_chip (Some part.kind) then [] else says part state

  -- that of the parts of a plan in their order
  unfoldable pub parts_text : Bool → List PlanPart → List S → List ℕ
  parts_text chips [] states = []
  parts_text chips (part ∷ parts) [] = []
  parts_text chips (part ∷ parts) (state ∷ states) = chosen_text chips part state ++ parts_text chips parts states

-- the report after so many cycles, but for the chips
abbrev pub rest_text : {S : Type 0} → (PlanPart → S → List ℕ) → ℕ → List PlanPart → List S → List ℕ
rest_text says cycles parts states = line_of (lines.Cycles cycles) ++ parts_text says false parts states

-- the same with the chips, which come last, or without
abbrev pub shown_text : {S : Type 0} → (PlanPart → S → List ℕ) → Bool → ℕ → List PlanPart → List S → List ℕ
shown_text says true cycles parts states = rest_text says cycles parts states ++ parts_text says true parts states
shown_text says false cycles parts states = rest_text says cycles parts states

-- the report after so many cycles
abbrev pub report_text : ℕ → List PlanPart → List AnyState → List ℕ
report_text = shown_text part_text true
