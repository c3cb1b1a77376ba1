-- Pins that stand side by side: those whose drives a wake may have changed (profile).
use Rattle.std.specs.Prelude.{ℕ, Bool, not, ◌&&◌, ◌<◌, ◌≤◌, nat_lt, min, max, if◌then◌else◌}
use Rattle.part_law.specs.declared.span.Span.{Span}

-- every pin that a part may have: it has 255 at most
abbrev pub all_pins : Span
all_pins = record { from = 0; to = 255 }

abbrev pub no_pins : Span
no_pins = record { from = 0; to = 0 }

-- the pin is one of the span
abbrev pub IsIn : Span → ℕ → Type 0
IsIn span pin = (span.from ≤ pin) × (pin < span.to)

abbrev pub is_in : Span → ℕ → Bool
is_in span pin = not (nat_lt pin span.from) && nat_lt pin span.to

-- the least span that has the pins of both; the second, where the first has none
abbrev pub join : Span → Span → Span
join a b = if nat_lt a.from a.to then record { from = min a.from b.from; to = max a.to b.to } else b
