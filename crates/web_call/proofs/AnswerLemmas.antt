-- What was read, given room and shown is the answer.
use Rattle.std.specs.Prelude.{ℕ, List, Bool, true, Option, Some, None, if◌then◌else◌, ◌≡◌}
use Rattle.std.specs.Option.{option_map}
use Rattle.std.proofs.Common.{[], sym, subst, inr, ap, ◌∙◌}
use Rattle.sim_base.specs.Mem.{MemState, new_bench}
use Rattle.web_call.specs.Entries.{Given, entries, given, with_entries}
use Rattle.web_call.specs.Answer.{roomed, Shows, IsAnswer}

-- A list that was read into no words and a new bench is what a call is given.
pub given_by : (list : List ℕ) (words : List (List ℕ)) (bench : MemState) (after : Given) (is_list : Bool)
    → option_map (with_entries (record { words = words; bench = bench })) (entries list) ≡ (if is_list then Some after else None)
    → words ≡ [] → bench ≡ new_bench → is_list ≡ true → given list ≡ Some after
given_by list words bench after is_list read none blank is =
    sym (ap (λ (ws : List (List ℕ)). option_map (with_entries (record { words = ws; bench = bench })) (entries list)) none
    ∙ ap (λ (b : MemState). option_map (with_entries (record { words = []; bench = b })) (entries list)) blank)
    ∙ read ∙ ap (λ (b : Bool). if b then Some after else None) is

pub answered : (answer : ℕ) (asked : Option Given) (words : List (List ℕ)) (bench room after : MemState) (serial wave report : ℕ) (out : List ℕ)
    → asked ≡ Some (record { words = words; bench = bench }) → room ≡ roomed bench serial wave report → Shows answer words room after out
    → IsAnswer answer asked serial wave report out
answered answer asked words bench room after serial wave report out is has shows =
    subst (λ (o : Option Given). IsAnswer answer o serial wave report out) (sym is)
    (inr (after, subst (λ (s : MemState). Shows answer words s after out) has shows))
