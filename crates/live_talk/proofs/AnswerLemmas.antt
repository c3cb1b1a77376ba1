-- What was said is an answer.
use Rattle.std.proofs.Common.{◌≡◌, ◌∙◌, ℕ, ◌+◌, ◌<◌, ◌≤◌, List, [], ◌∷◌, ◌++◌, length, Bool, true, false, Result, Ok, Err, refl, ap, sym, subst, arith}
use Rattle.std.specs.Prelude.{min, nat_le, if◌then◌else◌}
use Rattle.std.specs.Fmt.{decimal}
use Rattle.std.proofs.lemmas.Bool.Decides.{nat_tests}
use Rattle.std.specs.Option.{option_map}
use Rattle.std.proofs.lemmas.List.{append-nil}
use Rattle.sim_base.specs.declared.bench.Port.TheVariants as ports
use Rattle.sim_base.specs.declared.bench.WriteEnd.{WriteEnd}
use Rattle.sim_base.specs.declared.bench.WriteEnd.TheVariants as writes
use Rattle.sim_base.specs.declared.wiring.Input.{Input}
use Rattle.sim_base.specs.Outside.{Outside}
use Rattle.sim_base.specs.declared.limits.TheConstants.{MOST_CYCLES}
use Rattle.sim_refusals.specs.Refusals.{RequestPast}
use Rattle.text_model.specs.Wave.{Variable, Source, begun_text}
use Rattle.part_law.specs.declared.part.Part.{Ghosts}
use Rattle.law_board.specs.Scripts.{with_input}
use Rattle.board_build.specs.declared.plan.PlanPart.{PlanPart}
use Rattle.board_live.specs.LiveView.{LiveView, rows_by, bytes_by, wakes_by}
use Rattle.live_request.specs.Condition.{Condition}
use Rattle.live_request.specs.Request.{Acting}
use Rattle.live_request.specs.Words.{◌>>=◌}
use Rattle.live_text.specs.declared.answer.TheConstants.{OUT_OF_MEMORY}
use Rattle.live_text.specs.Answer.{ok_text, no_text, block_text}
use Rattle.live_probe.specs.Levels.{value_in}
use Rattle.vcd_text.specs.Ports.{texts, BreaksOff}
use Rattle.vcd_text.proofs.CallerLemmas.{breaks_within}
use Rattle.live_leg.specs.Said.{HasSaid}
use Rattle.live_leg.specs.Talks.{TalkTied, tied_of, writer_of, sent_by, begun_texts}
use Rattle.live_leg.specs.declared.talk.Talk.{Talk}
use Rattle.live_model.specs.Leg.{Wait, source_or, waits_for, held, leg_end}
use Rattle.live_model.specs.Standing.{Standing, input_of}
use Rattle.live_model.specs.Talk.{Said, silent, worded, Answer, ran_to, run_to, run, level, acts, lacking, standing_after, text_of}
use Rattle.live_talk.specs.Legs.{HasRun, BrokeBy}
use Rattle.live_talk.specs.Says.{Says}
use Rattle.live_talk.specs.Answers.{standing_of, live_at, talk_at, HasAnswered, HasFailed, Answers}

module _ {P : Type 0} (part : Ghosts P) (x : Result Answer ℕ) (old : Talk P) where
  abbrev at : Standing
  at = standing_after (standing_of old.live) x

  -- the live board has come to where it is to stand, and the answer was said then
  pub answered : (mid new : Talk P) (a b m c : Outside) (steps more : ℕ) (text : List ℕ) (end : WriteEnd) →
      mid.live ≡ live_at old.live (standing_after (standing_of old.live) x) → tied_of mid ≡ tied_of old → text ≡ text_of old.live.cycle x →
      m.written ports.Serial ≡ b.written ports.Serial → more + wakes_by part old.live old.live.cycle ≡ steps + wakes_by part mid.live mid.live.cycle →
      Says part text end mid new a m c → Answers part x old end new a b c steps more
  answered mid new a b m c steps more text writes.Ok live tied is same count spoken = record {
    live = spoken.live ∙ live;
    tied = spoken.tied ∙ tied;
    talks = spoken.talks;
    said = spoken.said ∙ ap (option_map (λ (l : List ℕ). l ++ text)) same ∙ ap (λ (t : List ℕ). option_map (λ (l : List ℕ). l ++ t) (b.written ports.Serial)) is;
    steps_are = count ∙ ap (λ (s : LiveView P). steps + wakes_by part s s.cycle) (sym spoken.live);
  }
  answered mid new a b m c steps more text writes.Failed live tied is same count broke = record {
    cycle = mid.live.cycle;
    within = let e : mid.live.cycle ≡ at.cycle = ap (λ (s : LiveView P). s.cycle) live in omega (arith, e);
    broke = λ said h.
        let Broke : TalkTied → LiveView P → List ℕ → Type 0 = λ t s l. BreaksOff (texts t.wave true (begun_text t.variables (rows_by part s mid.live.cycle)) (said ++ l)) a c in
        subst (λ (t : TalkTied). Broke t (live_at old.live at) (text_of old.live.cycle x)) tied
        (subst (λ (s : LiveView P). Broke (tied_of mid) s (text_of old.live.cycle x)) live
        (subst (λ (l : List ℕ). Broke (tied_of mid) mid.live l) is (broke said (same ∙ h))));
  }

  -- a write failed before, in some cycle
  pub failed : (n : ℕ) (a b c : Outside) → n ≤ (standing_after (standing_of old.live) x).cycle → (standing_after (standing_of old.live) x).inputs ≡ old.live.inputs →
      ((said : List ℕ) → HasSaid a b said → BreaksOff (begun_texts part old n said) a c) → HasFailed part x old a b c
  failed n a b c within inputs broke = record {
    cycle = n;
    within = within;
    broke = λ said h.
        let text = begun_text old.head.variables (rows_by part old.live n) in
        let Broke : List Input → Type 0 = λ xs. BreaksOff (begun_texts part (talk_at old (record { inputs = xs; cycle = at.cycle })) n (said ++ text_of old.live.cycle x)) a c in
        subst Broke (sym inputs)
        (breaks_within (writer_of old).wave true text text said (said ++ text_of old.live.cycle x) a c
        (record { rest = []; whole = append-nil text }) (record { rest = text_of old.live.cycle x; whole = refl }) (broke said h));
  }

  -- nothing has happened but that a refusal was said
  pub refused : (new : Talk P) (a b c : Outside) (steps number : ℕ) (end : WriteEnd) → x ≡ Err number → Says part (no_text old.live.cycle number) end old new a b c →
      Answers part x old end new a b c steps steps
  refused new a b c steps number end is says =
      answered old new a b b c steps steps (no_text old.live.cycle number) end
      (ap (λ (r : Result Answer ℕ). live_at old.live (standing_after (standing_of old.live) r)) (sym is)) refl (ap (text_of old.live.cycle) (sym is)) refl refl says

  -- nothing has happened but that an answer was said
  pub told : (new : Talk P) (a b c : Outside) (steps : ℕ) (said : Said) (end : WriteEnd) → x ≡ Ok (standing_of old.live, said) →
      Says part (ok_text old.live.cycle (length said.block) said.words ++ block_text said.block) end old new a b c → Answers part x old end new a b c steps steps
  told new a b c steps said end is says =
      answered old new a b b c steps steps (ok_text old.live.cycle (length said.block) said.words ++ block_text said.block) end
      (ap (λ (r : Result Answer ℕ). live_at old.live (standing_after (standing_of old.live) r)) (sym is)) refl (ap (text_of old.live.cycle) (sym is)) refl refl says

module _ (parts : List PlanPart) (s : Standing) (act : Acting) where
  abbrev gives : Input → Result Answer ℕ
  gives x = Ok (record s { inputs = with_input s.inputs x }, silent)

  pub act_refused : (lacks : Bool) (number : ℕ) → Err number ≡ input_of parts s.cycle act → lacking lacks (acts parts s act) ≡ Err number
  act_refused lacks number e = ap (λ (r : Result Input ℕ). lacking lacks (r >>= gives)) (sym e)

  pub act_lacks : (x : Input) → Ok x ≡ input_of parts s.cycle act → lacking true (acts parts s act) ≡ Err OUT_OF_MEMORY
  act_lacks x e = ap (λ (r : Result Input ℕ). lacking true (r >>= gives)) (sym e)

  pub act_given : (x : Input) → Ok x ≡ input_of parts s.cycle act → lacking false (acts parts s act) ≡ Ok (record s { inputs = with_input s.inputs x }, silent)
  act_given x e = ap (λ (r : Result Input ℕ). lacking false (r >>= gives)) (sym e)

module _ (value : ℕ → Source → ℕ) (sent : ℕ → List ℕ) (variables : List Variable) (s : Standing) where
  pub level_refused : (name : List ℕ) (number : ℕ) → Err number ≡ source_or variables name → level value sent variables s name ≡ Err number
  level_refused name number e = ap (λ (r : Result Source ℕ). r >>= λ shows. Ok (s, worded (value s.cycle shows ∷ []))) (sym e)

  pub level_told : (name : List ℕ) (shows : Source) → Ok shows ≡ source_or variables name → level value sent variables s name ≡ Ok (s, worded (value s.cycle shows ∷ []))
  level_told name shows e = ap (λ (r : Result Source ℕ). r >>= λ shows. Ok (s, worded (value s.cycle shows ∷ []))) (sym e)

  pub run_refused : (until : ℕ) (conditions : List Condition) (number : ℕ) → Err number ≡ waits_for variables conditions → run value sent variables s until conditions ≡ Err number
  run_refused until conditions number e = ap (λ (r : Result (List Wait) ℕ). r >>= run_to value sent variables s (min until MOST_CYCLES)) (sym e)

  runs : (until : ℕ) (conditions : List Condition) (ws : List Wait) → Ok ws ≡ waits_for variables conditions → run value sent variables s until conditions ≡ run_to value sent variables s (min until MOST_CYCLES) ws
  runs until conditions ws e = ap (λ (r : Result (List Wait) ℕ). r >>= run_to value sent variables s (min until MOST_CYCLES)) (sym e)

  pub run_past : (until : ℕ) (conditions : List Condition) (ws : List Wait) → Ok ws ≡ waits_for variables conditions → min until MOST_CYCLES ≤ s.cycle → run value sent variables s until conditions ≡ Err RequestPast
  run_past until conditions ws e past =
      let h : nat_le (min until MOST_CYCLES) s.cycle ≡ true = grind (arith, nat_tests) in
      runs until conditions ws e ∙ ap (λ (b : Bool). if b then Err RequestPast else Ok (ran_to value sent variables s ws (leg_end value sent s.cycle (min until MOST_CYCLES) ws))) h

  pub run_ends : (until : ℕ) (conditions : List Condition) (ws : List Wait) → Ok ws ≡ waits_for variables conditions → s.cycle < min until MOST_CYCLES →
      run value sent variables s until conditions ≡ Ok (ran_to value sent variables s ws (leg_end value sent s.cycle (min until MOST_CYCLES) ws))
  run_ends until conditions ws e further =
      let h : nat_le (min until MOST_CYCLES) s.cycle ≡ false = grind (arith, nat_tests) in
      runs until conditions ws e ∙ ap (λ (b : Bool). if b then Err RequestPast else Ok (ran_to value sent variables s ws (leg_end value sent s.cycle (min until MOST_CYCLES) ws))) h

-- a leg that ran is answered
module _ {P : Type 0} (part : Ghosts P) (old : Talk P) (ws : List Wait) (until : ℕ) (variables : List Variable) where
  abbrev pub ended : ℕ
  ended = leg_end (value_in part old.live) (bytes_by part old.live) old.live.cycle until ws

  abbrev pub leg_answer : Answer
  leg_answer = ran_to (value_in part old.live) (bytes_by part old.live) variables (standing_of old.live) ws ended

  pub ran : (mid new : Talk P) (x : Result Answer ℕ) (number : ℕ) (words : List ℕ) (a b m c : Outside) (steps more : ℕ) (end : WriteEnd) → x ≡ Ok leg_answer →
      HasRun part until ws number old mid a b m steps more → words ≡ decimal number →
      Says part (ok_text mid.live.cycle (length mid.sent.bytes) words ++ block_text mid.sent.bytes) end mid new a m c → Answers part x old end new a b c steps more
  ran mid new x number words a b m c steps more end is has_run wordy says =
      let text : ℕ → ℕ → ℕ → List ℕ = λ t n u. ok_text t (length (sent_by part old.live old.live.cycle u)) (decimal n) ++ block_text (sent_by part old.live old.live.cycle u) in
      answered part x old mid new a b m c steps more (ok_text mid.live.cycle (length mid.sent.bytes) words ++ block_text mid.sent.bytes) end
      (has_run.live ∙ ap (λ (t : ℕ). record old.live { cycle = t }) has_run.ends ∙ ap (λ (r : Result Answer ℕ). live_at old.live (standing_after (standing_of old.live) r)) (sym is))
      has_run.tied
      (ap (λ (l : List ℕ). ok_text mid.live.cycle (length l) words ++ block_text l) has_run.bytes
      ∙ ap (λ (w : List ℕ). ok_text mid.live.cycle (length (sent_by part old.live old.live.cycle mid.live.cycle)) w ++ block_text (sent_by part old.live old.live.cycle mid.live.cycle))
      (wordy ∙ ap decimal has_run.number_is)
      ∙ ap (λ (t : ℕ). text t (held (value_in part old.live) (bytes_by part old.live) t ws) t) has_run.ends
      ∙ ap (text_of old.live.cycle) (sym is))
      has_run.said
      (has_run.steps_are ∙ ap (λ (s : LiveView P). steps + wakes_by part s mid.live.cycle) (sym has_run.live))
      says

  -- and one that broke off
  pub broke_off : (x : Result Answer ℕ) (gone : Talk P) (a b c : Outside) → x ≡ Ok leg_answer → BrokeBy part old ended gone a b c → HasFailed part x old a b c
  broke_off x gone a b c is broke =
      let e : ended ≡ (standing_after (standing_of old.live) x).cycle = ap (λ (r : Result Answer ℕ). (standing_after (standing_of old.live) r).cycle) (sym is) in
      let within = broke.within in
      failed part x old broke.cycle a b c (omega (arith, within, e))
      (ap (λ (r : Result Answer ℕ). (standing_after (standing_of old.live) r).inputs) is) broke.broke
