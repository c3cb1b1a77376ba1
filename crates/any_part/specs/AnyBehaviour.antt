-- A behaviour of any kind: it reacts as its kind does (profile).
use Rattle.std.specs.Prelude.{◌⊎◌}
use Rattle.std.proofs.Common.{inl, inr}
use Rattle.part_reactive.specs.Reaction.{Reaction, ReactionLaws}
use Rattle.part_reactive.specs.Either.{either, either_laws}
use Rattle.parts_basic.specs.Led.{LedState, led, led_laws}
use Rattle.parts_basic.specs.Passive.{PassiveState, passive, passive_laws}
use Rattle.parts_logic.specs.Gate.{GateState, gate, gate_laws}
use Rattle.parts_logic.specs.Shift595.{ShiftState, shift595, shift595_laws}
use Rattle.parts_display.specs.Seven.{SevenState, seven, seven_laws}
use Rattle.parts_display.specs.Lcd.{LcdState, lcd, lcd_laws}
use Rattle.part_oled.specs.Oled.{OledState, oled, oled_laws}
use Rattle.part_either.specs.EitherPart.{either_state}
use Rattle.part_either.specs.declared.either.Either.{Either}

-- what is known of a behaviour is its state
abbrev pub AnyBehaviour : Type 0
AnyBehaviour = Either LedState (Either PassiveState (Either GateState (Either ShiftState (Either SevenState (Either LcdState OledState)))))

abbrev pub AnyOwn : Type 0
AnyOwn = LedState ⊎ (PassiveState ⊎ (GateState ⊎ (ShiftState ⊎ (SevenState ⊎ (LcdState ⊎ OledState)))))

abbrev pub any_reaction : Reaction AnyOwn
any_reaction = either led (either passive (either gate (either shift595 (either seven (either lcd oled)))))

pub any_reaction_laws : ReactionLaws any_reaction
any_reaction_laws =
    either_laws led (either passive (either gate (either shift595 (either seven (either lcd oled))))) led_laws
    (either_laws passive (either gate (either shift595 (either seven (either lcd oled)))) passive_laws
    (either_laws gate (either shift595 (either seven (either lcd oled))) gate_laws
    (either_laws shift595 (either seven (either lcd oled)) shift595_laws
    (either_laws seven (either lcd oled) seven_laws
    (either_laws lcd oled lcd_laws oled_laws)))))

-- where each kind stands in the sum
abbrev pub a_led : LedState → AnyOwn
a_led s = inl s

abbrev pub a_passive : PassiveState → AnyOwn
a_passive s = inr (inl s)

abbrev pub a_gate : GateState → AnyOwn
a_gate s = inr (inr (inl s))

abbrev pub a_shift595 : ShiftState → AnyOwn
a_shift595 s = inr (inr (inr (inl s)))

abbrev pub a_seven : SevenState → AnyOwn
a_seven s = inr (inr (inr (inr (inl s))))

abbrev pub an_lcd : LcdState → AnyOwn
an_lcd s = inr (inr (inr (inr (inr (inl s)))))

abbrev pub an_oled : OledState → AnyOwn
an_oled s = inr (inr (inr (inr (inr (inr s)))))

abbrev pub own_of : AnyBehaviour → AnyOwn
own_of = either_state (λ s. s) (either_state (λ s. s) (either_state (λ s. s) (either_state (λ s. s) (either_state (λ s. s) (either_state (λ s. s) (λ s. s))))))
