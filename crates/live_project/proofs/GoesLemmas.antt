-- What a call of a conversation is for the live board of a project.
use Rattle.std.proofs.Common.{◌≡◌, ◌≢◌, ◌∙◌, ◌+◌, ◌<◌, ◌≤◌, ℕ, List, ◌++◌, length, map, Bool, true, false, None, Result, Ok, Err, refl, ap, sym, subst, arith}
use Rattle.std.specs.Prelude.{nat_lt, ◌&&◌, if◌then◌else◌}
use Rattle.std.proofs.lemmas.Bool.Decides.{nat_tests}
use Rattle.sim_base.specs.declared.bench.WriteEnd.{WriteEnd}
use Rattle.sim_base.specs.declared.bench.WriteEnd.TheVariants as writes
use Rattle.sim_base.specs.declared.wiring.Wiring.{Wiring}
use Rattle.sim_base.specs.Outside.{Outside}
use Rattle.sim_base.specs.Rows.{Row}
use Rattle.sim_refusals.specs.Refusals.{RequestLong, RequestUnknown}
use Rattle.text_model.specs.Wave.{Variable, begun_text, wave_text}
use Rattle.part_law.specs.declared.part.Part.{Ghosts}
use Rattle.board_model.specs.Rows.{rows}
use Rattle.law_board.specs.Active.{active_pairs}
use Rattle.board_build.specs.declared.plan.PlanPart.{PlanPart}
use Rattle.board_live.specs.LiveView.{LiveView, rows_by, wakes_by}
use Rattle.vcd_text.specs.Ports.{texts, BreaksOff, Writes}
use Rattle.any_part.specs.AnyPart.{AnyPart, AnyState, any, state_of}
use Rattle.board_report.specs.Report.{report_text}
use Rattle.live_request.specs.Request.{Acting, Request, request_of}
use Rattle.live_request.specs.Views.{request_of as seen}
use Rattle.live_request.specs.declared.request.Request.{Request as Asking}
use Rattle.live_request.specs.declared.request.Request.TheVariants as requests
use Rattle.live_request.specs.Words.{◌>>=◌}
use Rattle.live_leg.specs.Said.{HasSaid}
use Rattle.live_leg.specs.declared.talk.Talk.{Talk}
use Rattle.live_leg.specs.Talks.{TalkTied, MayTalk, tied_of, writer_of, begun_texts, whole_texts}
use Rattle.live_model.specs.Board.{Setup, wave_to, whole_wave, wakes_to}
use Rattle.live_model.specs.Standing.{Standing}
use Rattle.live_model.specs.Talk.{Answer, acts, answer, greeting, asked, is_quit, lacking, may_lack, reply, standing_after, text_of}
use Rattle.live_talk.specs.Says.{HasSpoken, HasFallenSilent, Says}
use Rattle.live_talk.specs.Answers.{standing_of, live_at, HasAnswered, HasFailed, Answers}
use Rattle.live_talk.proofs.SayLemmas.{said_more}
use Rattle.live_project.specs.Goes.{setup_by, next_by, MayAnswer, IsAt, Replies}
use Rattle.live_project.specs.declared.live.Live.{Live}
use Rattle.live_project.specs.declared.live.Next.{Next}
use Rattle.live_project.specs.declared.live.Next.TheVariants as nexts

-- a line that asks for this, and one that is refused
short : (n : ℕ) → n ≤ 1024 → nat_lt 1024 n ≡ false
short n h = grind (arith, nat_tests)

long : (n : ℕ) → 1024 < n → nat_lt 1024 n ≡ true
long n h = grind (arith, nat_tests)

pub asked_is : (line : List ℕ) (r : Result Request ℕ) → length line ≤ 1024 → r ≡ request_of line → asked line ≡ r
asked_is line r few is = ap (λ (b : Bool). if b then Err RequestLong else request_of line) (short (length line) few) ∙ sym is

pub asked_long : (line : List ℕ) → 1024 < length line → asked line ≡ Err RequestLong
asked_long line more = ap (λ (b : Bool). if b then Err RequestLong else request_of line) (long (length line) more)

pub reply_is : (b : Setup AnyState) (s : Standing) (lacks : Bool) (line : List ℕ) (r : Result Request ℕ) → asked line ≡ r → reply b s lacks line ≡ lacking (lacks && may_lack r) (r >>= answer b s)
reply_is b s lacks line r is = ap (λ (x : Result Request ℕ). lacking (lacks && may_lack x) (x >>= answer b s)) is

pub not_lacking : (x : Result Answer ℕ) → x ≡ lacking false x
not_lacking (Ok y) = refl
not_lacking (Err n) = refl

abbrev pub setup_from : List AnyState → Wiring → List PlanPart → List Variable → Bool → Setup AnyState
setup_from starts wiring parts variables wave = record {
  machine = any;
  starts = starts;
  wiring = wiring;
  parts = parts;
  variables = variables;
  wave = wave;
  report = λ t states. report_text t parts states;
}

-- the board of a live board whose parts have these states
abbrev made : LiveView AnyPart → List PlanPart → TalkTied → Bool → Setup AnyState
made l parts tied wave = record {
  machine = any;
  starts = map state_of l.start;
  wiring = l.wiring;
  parts = parts;
  variables = tied.variables;
  wave = wave;
  report = λ t states. report_text t parts states;
}

-- boards that are the same in each of these
pub same_setup : (starts others : List AnyState) (w v : Wiring) (parts plan : List PlanPart) (variables shown : List Variable) (wave : Bool) → starts ≡ others → w ≡ v → parts ≡ plan → variables ≡ shown →
    setup_from starts w parts variables wave ≡ setup_from others v plan shown wave
same_setup starts others w v parts plan variables shown wave es ew ep ev =
    ap (λ (ss : List AnyState). setup_from ss w parts variables wave) es ∙ ap (λ (x : Wiring). setup_from others x parts variables wave) ew
    ∙ ap (λ (ps : List PlanPart). setup_from others v ps variables wave) ep ∙ ap (λ (vs : List Variable). setup_from others v plan vs wave) ev

module _ {part : Ghosts AnyPart} (old new : Live) (a b : Outside) (may : MayAnswer part old a b) where
  -- it is the same board at another standing
  pub stands : new.parts ≡ old.parts → new.wave ≡ old.wave → new.probe.wiring ≡ old.probe.wiring → (at : Standing) (said text : List ℕ) (c : Outside) → new.talk.live ≡ live_at old.talk.live at →
      tied_of new.talk ≡ tied_of old.talk → MayTalk part new.talk a c → HasSaid a b said → HasSaid b c text → IsAt part (setup_by old) new at (said ++ text) a c
  stands parts wave wiring at said text c live tied talks before after = record {
    setup = ap (λ (l : LiveView AnyPart). made l new.parts (tied_of new.talk) new.wave) live ∙ ap (λ (ps : List PlanPart). made old.talk.live ps (tied_of new.talk) new.wave) parts
        ∙ ap (λ (t : TalkTied). made old.talk.live old.parts t new.wave) tied ∙ ap (made old.talk.live old.parts (tied_of old.talk)) wave;
    standing = ap (λ (l : LiveView AnyPart). standing_of l) live;
    may = record {
      talks = talks;
      wanted = wave ∙ may.wanted ∙ sym (ap (λ (t : TalkTied). t.wave) tied);
      wiring = wiring ∙ may.wiring ∙ sym (ap (λ (l : LiveView AnyPart). l.wiring) live);
      many = ap (λ (ps : List PlanPart). length ps) parts ∙ may.many ∙ sym (ap (λ (l : LiveView AnyPart). length l.start) live);
    };
    has_said = said_more a b c said text before after;
  }

module _ {part : Ghosts AnyPart} (old : Live) (a b : Outside) (may : MayAnswer part old a b)
    (rows_are : (l : LiveView AnyPart) (n : ℕ) → rows_by part l n ≡ rows any l.wiring l.inputs None (map state_of l.start) 0 n) where
  -- what broke off, by the board
  pub broke_off : (at : Standing) (m : ℕ) (text : List ℕ) (c : Outside) →
      BreaksOff (texts (writer_of old.talk).wave true (begun_text old.talk.head.variables (rows_by part (live_at old.talk.live at) m)) text) a c →
      BreaksOff (texts old.wave true (wave_to (setup_by old) at.inputs m) text) a c
  broke_off at m text c broke =
      subst (λ (w : Bool). BreaksOff (texts w true (wave_to (setup_by old) at.inputs m) text) a c) (sym may.wanted)
      (subst (λ (rs : List Row). BreaksOff (texts (writer_of old.talk).wave true (begun_text old.talk.head.variables rs) text) a c) (rows_are (live_at old.talk.live at) m) broke)

module _ {part : Ghosts AnyPart} (old new : Live) (a b : Outside) (may : MayAnswer part old a b)
    (rows_are : (l : LiveView AnyPart) (n : ℕ) → rows_by part l n ≡ rows any l.wiring l.inputs None (map state_of l.start) 0 n)
    (wakes_are : (l : LiveView AnyPart) (n : ℕ) → wakes_by part l n ≡ active_pairs any l.wiring l.inputs (map state_of l.start) 0 n)
    (parts : new.parts ≡ old.parts) (wave : new.wave ≡ old.wave) (wiring : new.probe.wiring ≡ old.probe.wiring) where
  -- the answer to a line, for the board and the standing that it has
  module _ (c : Outside) (steps more : ℕ) (lacks : Bool) (line : List ℕ) where
    abbrev at : Standing
    at = standing_of old.talk.live

    abbrev x : Result Answer ℕ
    x = reply (setup_by old) at lacks line

    abbrev pub Counts : Setup AnyState → Standing → Type 0
    Counts d s = more + wakes_to d s.inputs s.cycle ≡ steps + wakes_to d (standing_after s (reply d s lacks line)).inputs (standing_after s (reply d s lacks line)).cycle

    counts : HasAnswered part x old.talk new.talk a b c steps more → Counts (setup_by old) at
    counts answered =
        ap (λ (n : ℕ). more + n) (sym (wakes_are old.talk.live old.talk.live.cycle)) ∙ answered.steps_are
        ∙ ap (λ (l : LiveView AnyPart). steps + wakes_by part l l.cycle) answered.live
        ∙ ap (λ (n : ℕ). steps + n) (wakes_are (live_at old.talk.live (standing_after at x)) (standing_after at x).cycle)

    own : (end : WriteEnd) (quits : Bool) (said : List ℕ) → quits ≡ is_quit (asked line) → Answers part x old.talk end new.talk a b c steps more → HasSaid a b said →
        Replies part (setup_by old) lacks at line said (next_by end quits) new a c × (next_by end quits ≢ nexts.WriteFailed → Counts (setup_by old) at)
    own writes.Ok true said is answered h =
        ((sym is, stands old new a b may parts wave wiring (standing_after at x) said (text_of at.cycle x) c answered.live answered.tied answered.talks h answered.said), λ _. counts answered)
    own writes.Ok false said is answered h =
        ((sym is, stands old new a b may parts wave wiring (standing_after at x) said (text_of at.cycle x) c answered.live answered.tied answered.talks h answered.said), λ _. counts answered)
    own writes.Failed quits said is failed h =
        ((failed.cycle, failed.within, broke_off old a b may rows_are (standing_after at x) failed.cycle (said ++ text_of at.cycle x) c (failed.broke said h)), λ other. absurd (other refl))

    -- and for any name of them
    pub replies : (end : WriteEnd) (quits : Bool) → quits ≡ is_quit (asked line) → Answers part x old.talk end new.talk a b c steps more → (d : Setup AnyState) (s : Standing) (said : List ℕ) →
        IsAt part d old s said a b → Replies part d lacks s line said (next_by end quits) new a c × (next_by end quits ≢ nexts.WriteFailed → Counts d s)
    replies end quits is answers d s said here =
        let Goes : Setup AnyState → Standing → Type 0 = λ d s. Replies part d lacks s line said (next_by end quits) new a c × (next_by end quits ≢ nexts.WriteFailed → Counts d s) in
        subst (λ (y : Standing). Goes d y) here.standing (subst (λ (y : Setup AnyState). Goes y at) here.setup (own end quits said is answers here.has_said))

  -- the answer to a line that asks for this, by what comes next
  pub line_replies : (c : Outside) (steps more : ℕ) (lacks : Bool) (line : List ℕ) (r : Result Request ℕ) (end : WriteEnd) (quits : Bool) (next : Next) → asked line ≡ r → quits ≡ is_quit r →
      next ≡ next_by end quits → Answers part (lacking (lacks && may_lack r) (r >>= answer (setup_by old) (standing_of old.talk.live))) old.talk end new.talk a b c steps more →
      (d : Setup AnyState) (s : Standing) (said : List ℕ) → IsAt part d old s said a b → Replies part d lacks s line said next new a c × (next ≢ nexts.WriteFailed → Counts c steps more lacks line d s)
  line_replies c steps more lacks line r end quits next asks quit comes answers d s said here =
      let is = reply_is (setup_by old) (standing_of old.talk.live) lacks line r asks in
      let own_answers = subst (λ (x : Result Answer ℕ). Answers part x old.talk end new.talk a b c steps more) (sym is) answers in
      subst (λ (n : Next). Replies part d lacks s line said n new a c × (n ≢ nexts.WriteFailed → Counts c steps more lacks line d s)) (sym comes)
      (replies c steps more lacks line end quits (quit ∙ sym (ap is_quit asks)) own_answers d s said here)

-- the greeting
module _ {part : Ghosts AnyPart} (old new : Live) (a b : Outside) (may : MayAnswer part old a b) where
  pub greeted : (parts : new.parts ≡ old.parts) (wave : new.wave ≡ old.wave) (wiring : new.probe.wiring ≡ old.probe.wiring) (end : WriteEnd) (c : Outside) (line : List ℕ) → line ≡ greeting →
      end ≡ writes.Ok → Says part line end old.talk new.talk a b c → (d : Setup AnyState) (s : Standing) (said : List ℕ) → IsAt part d old s said a b → IsAt part d new s (said ++ greeting) a c
  greeted parts wave wiring end c line is ok says d s said here =
      let spoken : HasSpoken part line old.talk new.talk a b c = subst (λ (e : WriteEnd). Says part line e old.talk new.talk a b c) ok says in
      let heard : HasSaid b c greeting = subst (λ (l : List ℕ). HasSaid b c l) is spoken.said in
      let Here : Setup AnyState → Standing → Type 0 = λ d s. IsAt part d new s (said ++ greeting) a c in
      subst (λ (y : Standing). Here d y) here.standing
      (subst (λ (y : Setup AnyState). Here y (standing_of old.talk.live)) here.setup
      (stands old new a b may parts wave wiring (standing_of old.talk.live) said greeting c spoken.live spoken.tied spoken.talks here.has_said heard))

  pub ungreeted : (rows_are : (l : LiveView AnyPart) (n : ℕ) → rows_by part l n ≡ rows any l.wiring l.inputs None (map state_of l.start) 0 n) (end : WriteEnd) (c : Outside) (line : List ℕ) → line ≡ greeting →
      end ≡ writes.Failed → Says part line end old.talk new.talk a b c → (d : Setup AnyState) (s : Standing) (said : List ℕ) → IsAt part d old s said a b →
      BreaksOff (texts d.wave true (wave_to d s.inputs s.cycle) (said ++ greeting)) a c
  ungreeted rows_are end c line is failed says d s said here =
      let silent : HasFallenSilent part line old.talk a b c = subst (λ (e : WriteEnd). Says part line e old.talk new.talk a b c) failed says in
      let broke = subst (λ (l : List ℕ). BreaksOff (begun_texts part old.talk old.talk.live.cycle (said ++ l)) a c) is (silent said here.has_said) in
      let Here : Setup AnyState → Standing → Type 0 = λ d s. BreaksOff (texts d.wave true (wave_to d s.inputs s.cycle) (said ++ greeting)) a c in
      subst (λ (y : Standing). Here d y) here.standing
      (subst (λ (y : Setup AnyState). Here y (standing_of old.talk.live)) here.setup
      (broke_off old a b may rows_are (standing_of old.talk.live) old.talk.live.cycle (said ++ greeting) c broke))

-- the end
module _ {part : Ghosts AnyPart} (old : Live) (a b : Outside) (may : MayAnswer part old a b)
    (rows_are : (l : LiveView AnyPart) (n : ℕ) → rows_by part l n ≡ rows any l.wiring l.inputs None (map state_of l.start) 0 n) where
  pub closes : (end : WriteEnd) (c : Outside) → ((said : List ℕ) → HasSaid a b said → Writes end (whole_texts part old.talk old.talk.live.cycle said) a c) →
      (d : Setup AnyState) (s : Standing) (said : List ℕ) → IsAt part d old s said a b → Writes end (texts d.wave true (whole_wave d s.inputs s.cycle) said) a c
  closes end c wrote d s said here =
      let Here : Setup AnyState → Standing → Type 0 = λ d s. Writes end (texts d.wave true (whole_wave d s.inputs s.cycle) said) a c in
      let own : Here (setup_by old) (standing_of old.talk.live) =
      subst (λ (w : Bool). Writes end (texts w true (whole_wave (setup_by old) old.talk.live.inputs old.talk.live.cycle) said) a c) (sym may.wanted)
      (subst (λ (rs : List Row). Writes end (texts (writer_of old.talk).wave true (wave_text old.talk.head.variables rs old.talk.live.cycle) said) a c) (rows_are old.talk.live old.talk.live.cycle) (wrote said here.has_said)) in
      subst (λ (y : Standing). Here d y) here.standing (subst (λ (y : Setup AnyState). Here y (standing_of old.talk.live)) here.setup own)

-- what a request leaves, by what it asks for
module _ {part : Ghosts AnyPart} (live : Live) (a b : Outside) (may : MayAnswer part live a b) where
  abbrev pub Does : Request → Talk AnyPart → WriteEnd → Outside → ℕ → ℕ → Type 0
  Does q new end c steps more =
      (lacks : Bool) × Answers part (lacking (lacks && may_lack (Ok q)) (answer (setup_by live) (standing_of live.talk.live) q)) live.talk end new a b c steps more

  pub does_as : (p q : Request) (new : Talk AnyPart) (end : WriteEnd) (c : Outside) (steps more : ℕ) → p ≡ q → Does q new end c steps more → Does p new end c steps more
  does_as p q new end c steps more same does = subst (λ (r : Request). Does r new end c steps more) (sym same) does

  pub act_as : (parts : List PlanPart) (new : Talk AnyPart) (end : WriteEnd) (c : Outside) (act : Acting) → parts ≡ live.parts →
      ((lacks : Bool) × ((n : ℕ) → Answers part (lacking lacks (acts parts (standing_of live.talk.live) act)) live.talk end new a b c n n)) →
      (lacks : Bool) × ((n : ℕ) → Answers part (lacking lacks (acts live.parts (standing_of live.talk.live) act)) live.talk end new a b c n n)
  act_as parts new end c act same answers =
      subst (λ (ps : List PlanPart). (lacks : Bool) × ((n : ℕ) → Answers part (lacking lacks (acts ps (standing_of live.talk.live) act)) live.talk end new a b c n n)) same answers

-- what a call of a conversation answers, where memory is lacking for it or not
module _ {part : Ghosts AnyPart} (live : Live) (a b : Outside) (may : MayAnswer part live a b) (x : Result Answer ℕ) (new : Talk AnyPart) (end : WriteEnd) (c : Outside) where
  pub without : (steps more : ℕ) (wants : Bool) → Answers part x live.talk end new a b c steps more →
      (lacks : Bool) × Answers part (lacking (lacks && wants) x) live.talk end new a b c steps more
  without steps more wants answers = (false, subst (λ (y : Result Answer ℕ). Answers part y live.talk end new a b c steps more) (not_lacking x) answers)

  and_true : (lacks : Bool) → lacks ≡ (lacks && true)
  and_true true = refl
  and_true false = refl

  pub with_memory : (steps : ℕ) → (lacks : Bool) × ((n : ℕ) → Answers part (lacking lacks x) live.talk end new a b c n n) →
      (lacks : Bool) × Answers part (lacking (lacks && true) x) live.talk end new a b c steps steps
  with_memory steps (lacks, answers) =
      (lacks, subst (λ (l : Bool). Answers part (lacking l x) live.talk end new a b c steps steps) (and_true lacks) (answers steps))

  -- the same for an answer that is this one
  pub answers_as : (y : Result Answer ℕ) (steps more : ℕ) → x ≡ y → Answers part x live.talk end new a b c steps more → Answers part y live.talk end new a b c steps more
  answers_as y steps more same answers = subst (λ (z : Result Answer ℕ). Answers part z live.talk end new a b c steps more) same answers

-- a request that is not answered yet
module _ (d : Setup AnyState) (s : Standing) where
  pub unknown : (r : Asking) → ((n : ℕ) (all : _) → r ≡ requests.Run n all → ⊥) → ((act : _) → r ≡ requests.Act act → ⊥) → ((name : _) → r ≡ requests.Level name → ⊥) →
      (r ≡ requests.Report → ⊥) → (r ≡ requests.Wave → ⊥) → (r ≡ requests.Quit → ⊥) → answer d s (seen r) ≡ Err RequestUnknown
  unknown (requests.Run n all) run act level report wave quit = absurd (run n all refl)
  unknown (requests.Act x) run act level report wave quit = absurd (act x refl)
  unknown (requests.Level name) run act level report wave quit = absurd (level name refl)
  unknown requests.Report run act level report wave quit = absurd (report refl)
  unknown requests.Wave run act level report wave quit = absurd (wave refl)
  unknown requests.Core run act level report wave quit = refl
  unknown (requests.Data bytes) run act level report wave quit = refl
  unknown (requests.Flash bytes) run act level report wave quit = refl
  unknown (requests.Eeprom bytes) run act level report wave quit = refl
  unknown (requests.Mark all) run act level report wave quit = refl
  unknown (requests.Unmark all) run act level report wave quit = refl
  unknown requests.Count run act level report wave quit = refl
  unknown requests.Counts run act level report wave quit = refl
  unknown (requests.Light anode cathode) run act level report wave quit = refl
  unknown requests.Lights run act level report wave quit = refl
  unknown requests.Prints run act level report wave quit = refl
  unknown requests.Displays run act level report wave quit = refl
  unknown requests.Omissions run act level report wave quit = refl
  unknown requests.Quit run act level report wave quit = absurd (quit refl)

module _ {part : Ghosts AnyPart} (live : Live) (a b : Outside) (may : MayAnswer part live a b) where
  pub unknown_does : (q : Request) (new : Talk AnyPart) (end : WriteEnd) (c : Outside) (steps : ℕ) → answer (setup_by live) (standing_of live.talk.live) q ≡ Err RequestUnknown →
      ((n : ℕ) → Answers part (Err RequestUnknown) live.talk end new a b c n n) → Does live a b may q new end c steps steps
  unknown_does q new end c steps is answers =
      (false, subst (λ (y : Result Answer ℕ). Answers part (lacking false y) live.talk end new a b c steps steps) (sym is) (answers steps))
