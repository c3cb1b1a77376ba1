-- How many bytes there can be.
use Rattle.std.proofs.Common.{◌≡◌, ℕ, zero, suc, ◌+◌, ◌-◌, ◌*◌, ◌<◌, ◌≤◌, ◌∙◌, List, [], ◌∷◌, ◌++◌, map, take, length, Option, None, Some, ap, sym, subst, arith, length-append, false, nat_le}
use Rattle.std.proofs.lemmas.Bool.Decides.{nat_tests}
use Rattle.std.proofs.lemmas.List.{length-map}
use Rattle.std.proofs.lemmas.List.{length-drop}
use Rattle.sim_base.specs.declared.limits.TheConstants.{MOST_CYCLES}
use Rattle.sim_base.specs.declared.wiring.Wiring.{Wiring}
use Rattle.sim_base.specs.declared.wiring.Input.{Input}
use Rattle.part_law.specs.Machine.{Machine}
use Rattle.part_law.specs.declared.part.Part.{Ghosts}
use Rattle.board_model.specs.Board.{options, steps_from, levels_of, bytes_of, states, bytes}
use Rattle.board_model.proofs.Lists.{take_whole}
use Rattle.board_model.proofs.Steps.{length-steps_from, length-states}
use Rattle.law_board.proofs.Splits.{bytes_split}
use Rattle.board_live.specs.LiveView.{LiveView, states_by, bytes_by}
use Rattle.vcd_text.specs.Writers.{capped}
use Rattle.live_leg.specs.SentView.{most_sent, sent_room}
use Rattle.live_leg.specs.Talks.{sent_by}

options_few : (xs : List (Option ℕ)) → length (options xs) ≤ length xs
options_few [] = omega arith
options_few (None ∷ xs) = omega (arith, options_few xs)
options_few (Some x ∷ xs) = omega (arith, options_few xs)

module _ {S : Type 0} (m : Machine S) (w : Wiring) (inputs : List Input) where
  -- one of each part at most
  bytes_of_few : (ss : List S) (t : ℕ) → length (bytes_of m w inputs ss t) ≤ length ss
  bytes_of_few ss t =
      let rs = steps_from m w inputs (levels_of m w ss) t 0 ss in
      omega (arith, options_few (map (λ (r : S × Option ℕ). r.1) rs), length-map rs (λ (r : S × Option ℕ). r.1), length-steps_from m w inputs (levels_of m w ss) t 0 ss)

  step_few : (ss : List S) (c n : ℕ) → length ss ≤ 64 → length (bytes m w inputs ss c (suc n)) ≤ length (bytes m w inputs ss c n) + 64
  unfolding bytes
  step_few ss c n few =
      omega (arith, few, length-append (bytes m w inputs ss c n) (bytes_of m w inputs (states m w inputs ss c n) (c + n)), bytes_of_few (states m w inputs ss c n) (c + n), length-states m w inputs ss c n)

  bytes_few : (ss : List S) (c n : ℕ) → length ss ≤ 64 → length (bytes m w inputs ss c n) ≤ 64 * n
  unfolding bytes
  bytes_few ss c zero few = omega arith
  bytes_few ss c (suc n) few = omega (arith, bytes_few ss c n few, step_few ss c n few)

module _ {P : Type 0} (part : Ghosts P) (s : LiveView P) where
  more_by : (c t : ℕ) → c ≤ t → (more : List ℕ) × (bytes_by part s t ≡ bytes_by part s c ++ more)
  more_by c t order =
      let end : c + (t - c) ≡ t = omega (arith, order) in (
        bytes part.machine s.wiring s.inputs (states_by part s c) (0 + c) (t - c),
        ap (bytes part.machine s.wiring s.inputs (map part.state s.start) 0) (sym end) ∙ bytes_split part.machine s.wiring s.inputs (map part.state s.start) 0 c (t - c),
      )

  -- there are no fewer later
  pub long_by : (c t : ℕ) → c ≤ t → length (bytes_by part s c) ≤ length (bytes_by part s t)
  long_by c t order =
      let more = more_by c t order in
      omega (arith, ap length more.1, length-append (bytes_by part s c) more.0)

  pub sent_long : (c t : ℕ) → length (sent_by part s c t) ≡ length (bytes_by part s t) - length (bytes_by part s c)
  sent_long c t = length-drop (length (bytes_by part s c)) (bytes_by part s t)

  all_few : length s.start ≤ 64 → length (map part.state s.start) ≤ 64
  all_few few = omega (arith, few, length-map s.start part.state)

  -- a count of them is exact
  pub count_exact : (n : ℕ) → length s.start ≤ 64 → n ≤ MOST_CYCLES → length (bytes_by part s n) ≡ capped (length (bytes_by part s n))
  count_exact n few end =
      let most : n ≤ 10000000000000 = end in
      omega (arith, most, bytes_few part.machine s.wiring s.inputs (map part.state s.start) 0 n (all_few few))

  last_few : (t : ℕ) → 0 < t → length s.start ≤ 64 → length (bytes_by part s t) ≤ length (bytes_by part s (t - 1)) + 64
  last_few t some few =
      let e : suc (t - 1) ≡ t = omega (arith, some) in
      subst (λ (k : ℕ). length (bytes_by part s k) ≤ length (bytes_by part s (t - 1)) + 64) e
      (step_few part.machine s.wiring s.inputs (map part.state s.start) 0 (t - 1) (all_few few))

  -- where the last cycle alone brings bytes, there is room for them
  pub advance_fits : (from c t : ℕ) → length s.start ≤ 64 → c < t → bytes_by part s (t - 1) ≡ bytes_by part s c → length (sent_by part s from c) < most_sent → length (sent_by part s from t) ≤ sent_room
  advance_fits from c t few order silent short =
      omega (arith, last_few t (omega (arith, order)) few, ap length silent, short, sent_long from c, sent_long from t)

  pub fits_before : (from c t : ℕ) → c ≤ t → length (sent_by part s from t) ≤ sent_room → length (sent_by part s from c) ≤ sent_room
  fits_before from c t order fits = omega (arith, long_by c t order, fits, sent_long from c, sent_long from t)

  pub fits_short : (from c : ℕ) → length (sent_by part s from c) < most_sent → length (sent_by part s from c) ≤ sent_room
  fits_short from c short = omega (arith, short)

  -- before the last cycle none came
  pub short_before : (from c t u : ℕ) → bytes_by part s (t - 1) ≡ bytes_by part s c → u < t → length (sent_by part s from c) < most_sent → length (sent_by part s from u) < most_sent
  short_before from c t u silent early short =
      omega (arith, long_by u (t - 1) (omega (arith, early)), ap length silent, short, sent_long from c, sent_long from u)

  pub all_kept : (from t : ℕ) → length (sent_by part s from t) ≤ sent_room → take sent_room (sent_by part s from t) ≡ sent_by part s from t
  all_kept from t fits = take_whole sent_room (sent_by part s from t) fits

pub not_full : (n : ℕ) → nat_le most_sent n ≡ false → n < most_sent
not_full n e = grind (arith, nat_tests, e)
