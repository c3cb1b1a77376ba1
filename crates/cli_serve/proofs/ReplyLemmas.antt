-- What an answer may change: the cycle grows, or a value is given in this cycle or later.
use Rattle.std.proofs.Common.{rules, [], ◌∷◌, ◌≡◌, ◌≤◌, ◌<◌, ◌+◌, ◌-◌, ℕ, zero, suc, List, length, map, Bool, true, false, if◌then◌else◌, Option, None, Some, Result, Ok, Err, refl, subst, inl, inr, arith}
use Rattle.std.specs.Prelude.{◌&&◌}
use Rattle.std.proofs.lemmas.Bool.{cases_Bool}
use Rattle.std.proofs.lemmas.Bool.Decides.{nat_tests}
use Rattle.std.proofs.lemmas.List.{length-map}
use Rattle.std.specs.Prelude.{nat_lt, nat_le, min, slice_get}
use Rattle.std.specs.Option.{unwrap_or}
use Rattle.std.specs.Str.{bytes_eq}
use Rattle.sim_base.specs.declared.limits.TheConstants.{MOST_CYCLES}
use Rattle.sim_base.specs.declared.wiring.Input.{Input}
use Rattle.text_model.specs.Wave.{Source}
use Rattle.board_build.specs.declared.plan.PlanPart.{PlanPart}
use Rattle.board_build.specs.Parts.{place_of}
use Rattle.board_build.proofs.WireLemmas.{position_below}
use Rattle.law_board.specs.Scripts.{with_input}
use Rattle.live_request.specs.Request.{Acting, Request, Run, Acts, Level, Report, Wave, Quit}
use Rattle.live_request.specs.Words.{◌>>=◌}
use Rattle.live_model.specs.Board.{Setup, value_at, sent_to}
use Rattle.live_model.specs.Leg.{Wait, ends_at, end_after, leg_end, source_or, waits_for}
use Rattle.live_model.specs.Standing.{Standing, greatest_by, input_by, input_of, timely, valued}
use Rattle.live_model.specs.Talk.{Answer, Said, silent, worded, answer, asked, lacking, may_lack, ran_to, reply, run_to, standing_after}

-- a run does not end before it began
end_not_before : (value : ℕ → Source → ℕ) (sent : ℕ → List ℕ) (c : ℕ) (ws : List Wait) (t n : ℕ) → t ≤ end_after value sent c ws t n
unfolding end_after
end_not_before value sent c ws t zero = omega arith
end_not_before value sent c ws t (suc n) =
    let later : suc t ≤ end_after value sent c ws (suc t) n = end_not_before value sent c ws (suc t) n in
    go later (ends_at value sent c ws (suc t))
  where
    go : suc t ≤ end_after value sent c ws (suc t) n → (e : Bool) → t ≤ (if e then suc t else end_after value sent c ws (suc t) n)
    go later true = omega arith
    go later false = omega (arith, later)

-- a value that a line gives is for a part, in this cycle or later
input_later : (parts : List PlanPart) (cycle : ℕ) (act : Acting) (x : Input) → input_of parts cycle act ≡ Ok x → (cycle ≤ x.cycle) × (x.part < length parts)
input_later parts cycle act x e = at (place_of (map (λ (p : PlanPart). p.id) parts) act.part) refl e
  where
    below : (part : ℕ) → place_of (map (λ (p : PlanPart). p.id) parts) act.part ≡ Some part → part < length parts
    below part is =
        let under : part < 0 + length (map (λ (p : PlanPart). p.id) parts) = position_below (bytes_eq act.part) 0 (map (λ (p : PlanPart). p.id) parts) part is in
        let long : length (map (λ (p : PlanPart). p.id) parts) ≡ length parts = length-map parts (λ (p : PlanPart). p.id) in
        omega (arith, under, long)

    by_time : (part at : ℕ) → part < length parts → timely cycle part at act.value ≡ Ok x → (cycle ≤ x.cycle) × (x.part < length parts)
    by_time part at less is = elim (cases_Bool (nat_lt at cycle)) [
      | inl early ↦ absurd (let bad = rw early at is in cc)
      | inr late ↦ (
          let same : ◌≡◌ {A = Input} (record { cycle = at; part = part; value = act.value }) x = (let ok = rw late at is in cc) in
          let not_early : cycle ≤ at = grind (arith, nat_tests, late) in
          (subst (λ (y : Input). cycle ≤ y.cycle) same not_early, subst (λ (y : Input). y.part < length parts) same less)
          )
    ]

    by_value : (part : ℕ) (greatest : Option ℕ) → part < length parts → valued cycle part act greatest ≡ Ok x → (cycle ≤ x.cycle) × (x.part < length parts)
    by_value part None less is = absurd (cc)
    by_value part (Some greatest) less is = elim (cases_Bool (nat_lt greatest act.value)) [
      | inl above ↦ absurd (let bad = rw above at is in cc)
      | inr within ↦ by_time part (unwrap_or act.cycle cycle) less (rw within at is)
    ]

    at : (o : Option ℕ) → place_of (map (λ (p : PlanPart). p.id) parts) act.part ≡ o → input_by parts cycle act o ≡ Ok x → (cycle ≤ x.cycle) × (x.part < length parts)
    at None is e = absurd (cc)
    at (Some part) is e = by_value part (greatest_by act.press (slice_get (map (λ (p : PlanPart). p.kind) parts) part)) (below part is) e

module _ {S : Type 0} (b : Setup S) (s : Standing) (Q : Standing → Type 0) (here : Q s) (runs : (t : ℕ) → s.cycle ≤ t → Q (record s { cycle = t }))
    (gives : (x : Input) → s.cycle ≤ x.cycle → x.part < length b.parts → Q (record s { inputs = with_input s.inputs x })) where
  abbrev value : ℕ → Source → ℕ
  value = value_at b s.inputs

  abbrev sent : ℕ → List ℕ
  sent = sent_to b s.inputs

  run_keeps : (until : ℕ) (ws : Result (List Wait) ℕ) (x : Answer) → (ws >>= run_to value sent b.variables s until) ≡ Ok x → Q x.0
  run_keeps until (Err n) x e = absurd (cc)
  run_keeps until (Ok ws) x e = elim (cases_Bool (nat_le until s.cycle)) [
    | inl past ↦ absurd (let bad = rw past at e in cc)
    | inr later ↦ (
        let t : ℕ = leg_end value sent s.cycle until ws in
        let same : ◌≡◌ {A = Answer} (ran_to value sent b.variables s ws t) x = (let ok = rw later at e in cc) in
        subst (λ (y : Answer). Q y.0) same (runs t (end_not_before value sent s.cycle ws s.cycle (until - s.cycle)))
        )
  ]

  act_keeps : (act : Acting) (r : Result Input ℕ) → input_of b.parts s.cycle act ≡ r → (x : Answer) → (r >>= λ v. Ok (record s { inputs = with_input s.inputs v }, silent)) ≡ Ok x → Q x.0
  act_keeps act (Err n) is x e = absurd (cc)
  act_keeps act (Ok v) is x e =
      let same : ◌≡◌ {A = Answer} (record s { inputs = with_input s.inputs v }, silent) x = cc in
      let fits = input_later b.parts s.cycle act v is in
      subst (λ (y : Answer). Q y.0) same (gives v fits.0 fits.1)

  level_keeps : (r : Result Source ℕ) (x : Answer) → (r >>= λ shows. Ok (s, worded (value s.cycle shows ∷ []))) ≡ Ok x → Q x.0
  level_keeps (Err n) x e = absurd (cc)
  level_keeps (Ok shows) x e = let same : ◌≡◌ {A = Answer} (s, worded (value s.cycle shows ∷ [])) x = cc in subst (λ (y : Answer). Q y.0) same here

  stays : (said : Said) (x : Answer) → ◌≡◌ {A = Result Answer ℕ} (Ok (s, said)) (Ok x) → Q x.0
  stays said x e = let same : ◌≡◌ {A = Answer} (s, said) x = cc in subst (λ (y : Answer). Q y.0) same here

  answer_keeps : (request : Request) (x : Answer) → answer b s request ≡ Ok x → Q x.0
  answer_keeps (Run until conditions) x e = run_keeps (min until MOST_CYCLES) (waits_for b.variables conditions) x e
  answer_keeps (Acts act) x e = act_keeps act (input_of b.parts s.cycle act) refl x e
  answer_keeps (Level name) x e = level_keeps (source_or b.variables name) x e
  answer_keeps Report x e = stays _ x e
  answer_keeps Wave x e = elim (cases_Bool b.wave) [ inl wanted ↦ stays _ x (rw wanted at e) | inr none ↦ absurd (let bad = rw none at e in cc) ]
  answer_keeps Quit x e = stays _ x e
  answer_keeps _ x e = absurd (cc)

  told_keeps : (r : Result Answer ℕ) → ((x : Answer) → r ≡ Ok x → Q x.0) → (lacks : Bool) → Q (standing_after s (lacking lacks r))
  told_keeps (Err n) f lacks = here
  told_keeps (Ok x) f true = here
  told_keeps (Ok x) f false = f x refl

  asked_keeps : (r : Result Request ℕ) (lacks : Bool) → Q (standing_after s (lacking lacks (r >>= answer b s)))
  asked_keeps (Err n) lacks = here
  asked_keeps (Ok request) lacks = told_keeps (answer b s request) (λ x e. answer_keeps request x e) lacks

  -- what holds of a standing, of it some cycles later, and with a value that is given, holds after each answer
  pub reply_keeps : (lacks : Bool) (line : List ℕ) → Q (standing_after s (reply b s lacks line))
  reply_keeps lacks line = asked_keeps (asked line) (lacks && may_lack (asked line))

-- after a line that is too long nothing has happened
pub long_stays : {S : Type 0} (b : Setup S) (s : Standing) (lacks : Bool) (line : List ℕ) → 1024 < length line → standing_after s (reply b s lacks line) ≡ s
long_stays b s lacks line long = let e : nat_lt 1024 (length line) ≡ true = search rules in rw e refl
