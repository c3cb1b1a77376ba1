-- When a player is due, and how it goes on.
use Rattle.std.proofs.Common.{◌≡◌, ◌<◌, ◌≤◌, inl, inr, ℕ, suc, ◌+◌, ◌-◌, List, [], ◌∷◌, length, take, replicate, map, Bool, true, false, Option, None, Some, refl, sym, ap, subst, ◌∙◌, arith}
use Rattle.std.specs.Prelude.{◌==◌, ◌||◌, nat_lt, slice_get}
use Rattle.std.proofs.lemmas.List.{take-replicate}
use Rattle.std.proofs.lemmas.Simd.{splat_is_map}
use Rattle.std.proofs.lemmas.Bool.{cases_lt, or_from, or_right, or_parts}
use Rattle.sim_base.specs.declared.signal.Drive.{Drive}
use Rattle.sim_base.specs.declared.signal.Level.TheVariants as levels
use Rattle.sim_base.specs.declared.limits.TheConstants.{MOST_CYCLES}
use Rattle.part_law.specs.Machine.{glide, IsQuiet, IsFirstDue}
use Rattle.part_law.specs.declared.span.Span.{Span}
use Rattle.part_law.specs.Spans.{IsIn}
use Rattle.part_law.proofs.SpanLemmas.{none_in}
use Rattle.law_board.specs.Player.{DriveRows, PlayerState, player}
use Rattle.law_board.proofs.PlayerLemmas.{player_glides, player_quiet}
use Rattle.trace_run.specs.Rows.{AreCounts, IsNext, any_row}
use Rattle.trace_run.proofs.RowLemmas.{eq_no}
use Rattle.trace_run.proofs.CountLemmas.{counts_later}

-- it is quiet before a cycle, where no row comes up to it
quiet_to : (s : PlayerState) (to : ℕ) → ¬ (s.cycle ≡ 0) → ((v : ℕ) → s.cycle < v → v ≤ to → any_row s.rows v ≡ false) → IsQuiet player s s.cycle (to - s.cycle)
quiet_to s to some none = player_quiet s (to - s.cycle)
    (λ k (h : k < to - s.cycle). or_from (s.cycle + k == 0) (any_row s.rows (s.cycle + k + 1)) (eq_no (s.cycle + k) 0 (λ e. some (omega (arith, e)))) (none (s.cycle + k + 1) (omega arith) (omega arith)))

pub first_at : (s : PlayerState) (u : ℕ) → ¬ (s.cycle ≡ 0) → u ≤ MOST_CYCLES → IsNext (any_row s.rows) s.cycle (Some u) → IsFirstDue player s s.cycle (Some (u - 1))
first_at s u some end next =
    let late : s.cycle < u = next.0 in
    let here : u ≡ u - 1 + 1 = omega arith in
    let due : (u - 1 == 0 || any_row s.rows (u - 1 + 1)) ≡ true = or_right (u - 1 == 0) _ (subst (λ (v : ℕ). any_row s.rows v ≡ true) here next.1) in (
      omega (arith, late),
      omega (arith, late, end),
      quiet_to s (u - 1) some (λ v h l. next.2 v h (omega (arith, l, late))),
      ap (λ (p : PlayerState). player.due p (u - 1)) (player_glides s (u - 1 - s.cycle)) ∙ due,
    )

pub first_far : (s : PlayerState) (u : ℕ) → ¬ (s.cycle ≡ 0) → MOST_CYCLES < u → IsNext (any_row s.rows) s.cycle (Some u) → IsFirstDue player s s.cycle None
first_far s u some far next = quiet_to s MOST_CYCLES some (λ v h l. next.2 v h (omega (arith, l, far)))

pub first_none : (s : PlayerState) → ¬ (s.cycle ≡ 0) → IsNext (any_row s.rows) s.cycle None → IsFirstDue player s s.cycle None
first_none s some next = quiet_to s MOST_CYCLES some (λ v h l. next v h)

pub next_now : (s now : PlayerState) (d e : Option ℕ) → s ≡ now → d ≡ e → IsNext (any_row s.rows) s.cycle d → IsNext (any_row now.rows) now.cycle e
next_now s now d e is same next = subst (λ (x : Option ℕ). IsNext (any_row now.rows) now.cycle x) same (subst (λ (p : PlayerState). IsNext (any_row p.rows) p.cycle d) is next)

from_next : (f : ℕ → Bool) (c to : ℕ) (next : Option ℕ) → c ≤ to → ((v : ℕ) → c < v → v ≤ to → f v ≡ false) → IsNext f c next → IsNext f to next
from_next f c to None l none next = λ v h. next v (omega (arith, l, h))
from_next f c to (Some u) l none next = elim (cases_lt to u) [
  | inl h ↦ (h, next.1, λ v a b. next.2 v (omega (arith, l, a)) b)
  | inr h ↦ let no = none u next.0 h in let yes = next.1 in absurd cc
]

-- over quiet cycles no row comes
none_over : (now : PlayerState) (to : ℕ) → IsQuiet player now now.cycle (to - now.cycle) → (v : ℕ) → now.cycle < v → v ≤ to → any_row now.rows v ≡ false
none_over now to quiet v h m =
    let k = v - now.cycle - 1 in
    let within : k < to - now.cycle = omega (arith, h, m) in
    let at : now.cycle + k + 1 ≡ v = omega (arith, h) in
    let due : ((now.cycle + k == 0) || any_row now.rows (now.cycle + k + 1)) ≡ false = sym (ap (λ (p : PlayerState). player.due p (now.cycle + k)) (player_glides now k)) ∙ quiet k within in
    subst (λ (w : ℕ). any_row now.rows w ≡ false) at (or_parts (now.cycle + k == 0) (any_row now.rows (now.cycle + k + 1)) due).1

-- the next row stays so over them, and as many are past
pub next_later : (s now : PlayerState) (to : ℕ) (next : Option ℕ) → s ≡ now → now.cycle ≤ to → IsQuiet player now now.cycle (to - now.cycle) → IsNext (any_row s.rows) s.cycle next → IsNext (any_row s.rows) to next
next_later s now to next e l quiet is =
    subst (λ (p : PlayerState). IsNext (any_row p.rows) to next) (sym e)
    (from_next (any_row now.rows) now.cycle to next l (none_over now to quiet) (subst (λ (p : PlayerState). IsNext (any_row p.rows) p.cycle next) e is))

pub past_later : (s now : PlayerState) (to : ℕ) (counts : List ℕ) → s ≡ now → now.cycle ≤ to → IsQuiet player now now.cycle (to - now.cycle) → AreCounts s.rows s.cycle counts → AreCounts s.rows to counts
past_later s now to counts e l quiet are =
    subst (λ (p : PlayerState). AreCounts p.rows to counts) (sym e)
    (counts_later now.rows now.cycle to counts l (none_over now to quiet) (subst (λ (p : PlayerState). AreCounts p.rows p.cycle counts) e are))

pub settled : (s now : PlayerState) (to : ℕ) → s ≡ now → now.cycle ≤ to → record { rows = s.rows; cycle = to; held = s.held } ≡ glide player now now.cycle (to - now.cycle)
settled s now to e l =
    let at : to ≡ now.cycle + (to - now.cycle) = omega (arith, l) in
    ap (λ (p : PlayerState). record { rows = p.rows; cycle = to; held = p.held }) e
    ∙ ap (λ (t : ℕ). record { rows = now.rows; cycle = t; held = now.held }) at
    ∙ sym (player_glides now (to - now.cycle))

-- over a cycle in which it is not due no row comes
none_after : (s : PlayerState) → player.due s s.cycle ≡ false → (v : ℕ) → s.cycle < v → v ≤ s.cycle + 1 → any_row s.rows v ≡ false
none_after s due v h m =
    let at : s.cycle + 1 ≡ v = omega (arith, h, m) in
    subst (λ (w : ℕ). any_row s.rows w ≡ false) at (or_parts (s.cycle == 0) (any_row s.rows (s.cycle + 1)) due).1

-- the next row stays so over it, and as many are past
pub next_after : (s : PlayerState) (next : Option ℕ) → player.due s s.cycle ≡ false → IsNext (any_row s.rows) s.cycle next → IsNext (any_row s.rows) (s.cycle + 1) next
next_after s next due is = from_next (any_row s.rows) s.cycle (s.cycle + 1) next (omega arith) (none_after s due) is

pub past_after : (s : PlayerState) (counts : List ℕ) → player.due s s.cycle ≡ false → AreCounts s.rows s.cycle counts → AreCounts s.rows (s.cycle + 1) counts
past_after s counts due are = counts_later s.rows s.cycle (s.cycle + 1) counts (omega arith) (none_after s due) are

pub held_at_start : (rows : List DriveRows) → length rows ≤ 64 → take (length rows) (replicate 64 levels.Z) ≡ map (λ r. levels.Z) rows
held_at_start rows few = take-replicate (length rows) 64 levels.Z few ∙ splat_is_map rows (length rows) levels.Z refl

drive_is : (d e : Drive) → Some d ≡ Some e → d ≡ e
drive_is d e is = cc

-- where each pin drives the same, all do
all_same : (ds es : List Drive) → ((k : ℕ) → slice_get ds k ≡ slice_get es k) → ds ≡ es
all_same [] [] same = refl
all_same [] (e ∷ es) same = absurd (let first = same 0 in cc)
all_same (d ∷ ds) [] same = absurd (let first = same 0 in cc)
all_same (d ∷ ds) (e ∷ es) same =
    ap (λ (x : Drive). x ∷ ds) (drive_is d e (same 0)) ∙ ap (λ (l : List Drive). e ∷ l) (all_same ds es (λ k. same (suc k)))

-- where no pin moved, no drive did
pub none_moved : (moved : Span) (s now : PlayerState) → ((pin : ℕ) → ¬ IsIn moved pin → slice_get (player.drives now) pin ≡ slice_get (player.drives s) pin) → nat_lt moved.from moved.to ≡ false → player.drives now ≡ player.drives s
none_moved moved s now others none = all_same (player.drives now) (player.drives s) (λ k. others k (none_in moved k none))
