-- A step of a leg, and legs of steps.
use Rattle.std.proofs.Common.{◌≡◌, ◌∙◌, ℕ, suc, ◌+◌, ◌-◌, ◌<◌, ◌≤◌, List, [], ◌∷◌, ◌++◌, length, drop, map, Bool, true, false, not, ◌||◌, refl, ap, sym, subst, arith, true≢false}
use Rattle.std.proofs.lemmas.Bool.{false≢true}
use Rattle.std.specs.Prelude.{nat_le, nat_lt, ◌==◌, ◌&&◌, if◌then◌else◌}
use Rattle.std.proofs.lemmas.Bool.Decides.{nat_tests}
use Rattle.std.proofs.lemmas.List.{append-nil, length-append}
use Rattle.sim_base.specs.declared.signal.Drive.{Drive}
use Rattle.sim_base.specs.declared.signal.Level.{Level}
use Rattle.sim_base.specs.declared.bench.Port.TheVariants as ports
use Rattle.sim_base.specs.Outside.{Outside}
use Rattle.text_model.specs.Wave.{Source, shown_value, begun_text}
use Rattle.vcd_text.specs.Ports.{texts, BreaksOff}
use Rattle.net_resolve.specs.NetsView.{NetsView}
use Rattle.part_law.specs.declared.part.Part.{Ghosts}
use Rattle.board_model.specs.Board.{states, bytes}
use Rattle.law_board.proofs.Splits.{bytes_split}
use Rattle.board_live.specs.LiveView.{LiveView, rows_by, bytes_by, wakes_by}
use Rattle.live_probe.specs.Levels.{levels_in, drives_in, value_in}
use Rattle.live_leg.specs.declared.talk.Talk.{Talk}
use Rattle.live_leg.specs.SentView.{SentView}
use Rattle.live_leg.specs.Talks.{TalkTied, MayTalk, HasGone, HasBroken, tied_of, sent_by}
use Rattle.live_model.specs.Leg.{Wait, held, held_from, ends_at, end_after, leg_end, most_sent}
use Rattle.live_model.proofs.LegLemmas.{IsStill, none_between, one_more, reaches, is_over}
use Rattle.live_talk.specs.Waiting.{held_by}
use Rattle.live_talk.specs.Legs.{Looked, Stepped, HasRun, BrokeBy}
use Rattle.live_talk.proofs.WaitLemmas.{held_alike}

none_more : (a x : List ℕ) → length x ≡ 0 → a ++ x ≡ a
none_more a [] e = append-nil a
none_more a (d ∷ ds) e = absurd (let f : length (d ∷ ds) ≡ suc (length ds) = refl in omega (arith, e, f))

-- a text between two that are the same, where each begins the next
squeezed : (a b c x y : List ℕ) → b ≡ a ++ x → c ≡ b ++ y → c ≡ a → b ≡ a
squeezed a b c x y eb ec same =
    let la : length b ≡ length a + length x = ap (λ (l : List ℕ). length l) eb ∙ length-append a x in
    let lb : length c ≡ length b + length y = ap (λ (l : List ℕ). length l) ec ∙ length-append b y in
    let lc : length c ≡ length a = ap (λ (l : List ℕ). length l) same in
    let none : length x ≡ 0 = omega (arith, la, lb, lc) in
    eb ∙ none_more a x none

module _ {P : Type 0} (part : Ghosts P) (s : LiveView P) where
  -- the bytes of earlier cycles begin those of later ones
  bytes_more : (t u : ℕ) → t ≤ u → (more : List ℕ) × (bytes_by part s u ≡ bytes_by part s t ++ more)
  bytes_more t u order =
      let e : u ≡ t + (u - t) = omega (arith, order) in
      let ss = map part.state s.start in (
        bytes part.machine s.wiring s.inputs (states part.machine s.wiring s.inputs ss 0 t) (0 + t) (u - t),
        ap (bytes part.machine s.wiring s.inputs ss 0) e ∙ bytes_split part.machine s.wiring s.inputs ss 0 t (u - t),
      )

  -- over a step nothing is new before its last cycle
  pub still : (u : ℕ) → Stepped part s u → IsStill (value_in part s) (bytes_by part s) s.cycle u
  still u stepped = record {
    values = λ t shows from to.
        ap (λ (l : List Level). shown_value l (drives_in part s t) shows) (stepped.levels t from to)
        ∙ ap (λ (d : List Drive). shown_value (levels_in part s s.cycle) d shows) (stepped.drives t from to);
    silent = λ t from to.
        let a = bytes_more s.cycle t from in
        let b = bytes_more t (u - 1) (omega (arith, to)) in
        squeezed (bytes_by part s s.cycle) (bytes_by part s t) (bytes_by part s (u - 1)) a.0 b.0 a.1 b.1 stepped.silent;
  }

  -- what holds after a step, by what was seen before it
  pub held_after : (u : ℕ) (now : Source → ℕ) (ws : List Wait) → s.cycle < u → Stepped part s u → ((shows : Source) → now shows ≡ value_in part s u shows) →
      held_by now (value_in part s s.cycle) (length (bytes_by part s u)) 1 ws ≡ held (value_in part s) (bytes_by part s) u ws
  held_after u now ws further stepped same =
      held_alike (value_in part s) (bytes_by part s) u now (value_in part s s.cycle) same
      (λ shows. sym ((still u stepped).values (u - 1) shows (omega (arith, further)) (omega (arith, further)))) 1 ws

  -- the same of levels and drives that were looked at
  pub step_held : (new : LiveView P) (ws : List Wait) (levels : List Level) (drives : List Drive) (total number : ℕ) → new ≡ record s { cycle = new.cycle } → s.cycle < new.cycle →
      Stepped part s new.cycle → levels ≡ levels_in part new new.cycle → drives ≡ drives_in part new new.cycle → total ≡ length (bytes_by part new new.cycle) →
      number ≡ held_by (shown_value levels drives) (value_in part s s.cycle) total 1 ws → number ≡ held (value_in part s) (bytes_by part s) new.cycle ws
  step_held new ws levels drives total number live further stepped looked driven counted is =
      let u = new.cycle in
      let level = looked ∙ ap (λ (x : LiveView P). levels_in part x u) live in
      let drive = driven ∙ ap (λ (x : LiveView P). drives_in part x u) live in
      let count = counted ∙ ap (λ (x : LiveView P). length (bytes_by part x u)) live in
      is ∙ ap (λ (n : ℕ). held_by (shown_value levels drives) (value_in part s s.cycle) n 1 ws) count
      ∙ held_after u (shown_value levels drives) ws further stepped
      (λ shows. ap (λ (l : List Level). shown_value l drives shows) level ∙ ap (λ (d : List Drive). shown_value (levels_in part s u) d shows) drive)

-- A leg on its way: `old` is the conversation as the leg found it.
module _ {P : Type 0} (part : Ghosts P) (until : ℕ) (ws : List Wait) (old : Talk P) (a b : Outside) (steps : ℕ) where
  abbrev pub value : ℕ → Source → ℕ
  value = value_in part old.live

  abbrev pub sent : ℕ → List ℕ
  sent = bytes_by part old.live

  abbrev pub ends : ℕ → Bool
  ends t = ends_at value sent old.live.cycle ws t

  abbrev pub rest : ℕ → ℕ
  rest t = end_after value sent old.live.cycle ws t (until - t)

  abbrev pub whole : ℕ
  whole = leg_end value sent old.live.cycle until ws

  -- its live board has come to some cycle, whose levels were looked at
  pub record Going (talk : Talk P) (nets : NetsView) (c : Outside) (more : ℕ) : Type 0 where
    pub within : talk.live.cycle ≤ until
    pub live : talk.live ≡ record old.live { cycle = talk.live.cycle }
    pub from : talk.from ≡ old.live.cycle
    pub tied : tied_of talk ≡ tied_of old
    pub talks : MayTalk part talk a c
    pub said : c.written ports.Serial ≡ b.written ports.Serial
    pub steps_are : more + wakes_by part old.live old.live.cycle ≡ steps + wakes_by part old.live talk.live.cycle
    pub looked : Looked part talk.live nets

  -- and this is the first wait that holds there, before which the leg did not end
  pub record Come (talk : Talk P) (nets : NetsView) (number : ℕ) (c : Outside) (more : ℕ) : Type 0 where
    pub going : Going talk nets c more
    pub number_is : number ≡ held value sent talk.live.cycle ws
    pub at : whole ≡ (if ends talk.live.cycle then talk.live.cycle else rest talk.live.cycle)

  abbrev pub NoneIn : ℕ → ℕ → Type 0
  NoneIn t u = (v : ℕ) → t < v → v < u → ends v ≡ false

  -- it begins
  pub begins : (talk : Talk P) (nets : NetsView) (x : SentView) → talk ≡ record old { sent = x; from = old.live.cycle } → MayTalk part talk a b → old.live.cycle ≤ until →
      Looked part talk.live nets → Going talk nets b steps
  begins talk nets x e talks order looked =
      let at : talk.live.cycle ≡ old.live.cycle = ap (λ (t : Talk P). t.live.cycle) e in
      record {
        within = omega (arith, at, order);
        live = ap (λ (t : Talk P). t.live) e ∙ ap (λ (n : ℕ). record old.live { cycle = n }) (sym at);
        from = ap (λ (t : Talk P). t.from) e;
        tied = ap (λ (t : Talk P). tied_of t) e;
        talks = talks;
        said = refl;
        steps_are = ap (λ (n : ℕ). steps + wakes_by part old.live n) (sym at);
        looked = looked;
      }

  -- one cycle has none between
  pub none_first : (t u : ℕ) → u ≤ t + 1 → NoneIn t u
  none_first t u small = λ v from to. absurd (omega (arith, small, from, to))

  -- it goes on by a step in which it did not end before
  pub moved : (talk new : Talk P) (nets later : NetsView) (c d : Outside) (more most : ℕ) → Going talk nets c more → new.live.cycle ≤ until →
      HasGone part talk new a c d more most → Looked part new.live later → Going new later d most
  moved talk new nets later c d more most going within gone looked =
      let wakes : (t : ℕ) → wakes_by part talk.live t ≡ wakes_by part old.live t = λ t. ap (λ (s : LiveView P). wakes_by part s t) going.live in
      let here = wakes talk.live.cycle in
      let there = wakes new.live.cycle in
      record {
        within = within;
        live = gone.live ∙ ap (λ (s : LiveView P). record s { cycle = new.live.cycle }) going.live;
        from = gone.from ∙ going.from;
        tied = gone.tied ∙ going.tied;
        talks = gone.talks;
        said = gone.said ∙ going.said;
        steps_are = (let e = gone.steps_are in let f = going.steps_are in omega (arith, e, f, here, there));
        looked = looked;
      }

  pub held_there : (talk : Talk P) (u number : ℕ) → talk.live ≡ record old.live { cycle = talk.live.cycle } →
      number ≡ held (value_in part talk.live) (bytes_by part talk.live) u ws → number ≡ held value sent u ws
  held_there talk u number live is = is ∙ ap (λ (s : LiveView P). held (value_in part s) (bytes_by part s) u ws) live

  pub come : (talk new : Talk P) (nets later : NetsView) (number : ℕ) (c d : Outside) (more most : ℕ) → Going talk nets c more →
      talk.live.cycle < new.live.cycle → new.live.cycle ≤ until → HasGone part talk new a c d more most → Looked part new.live later →
      number ≡ held (value_in part talk.live) (bytes_by part talk.live) new.live.cycle ws →
      NoneIn talk.live.cycle new.live.cycle → whole ≡ rest talk.live.cycle → Come new later number d most
  come talk new nets later number c d more most going further within gone looked is none at = record {
    going = moved talk new nets later c d more most going within gone looked;
    number_is = held_there talk new.live.cycle number going.live is;
    at = one_more value sent old.live.cycle ws until talk.live.cycle new.live.cycle further within none at (ends new.live.cycle) refl;
  }

  -- a leg that goes on from a cycle in which it did not end does not end before the last cycle of a step
  pub none_in : (talk : Talk P) (u : ℕ) → talk.live ≡ record old.live { cycle = talk.live.cycle } → Stepped part talk.live u → ends talk.live.cycle ≡ false → NoneIn talk.live.cycle u
  none_in talk u live stepped none =
      let Steps : LiveView P → Type 0 = λ s. IsStill (value_in part s) (bytes_by part s) talk.live.cycle u in
      none_between value sent old.live.cycle ws talk.live.cycle u (subst Steps live (still part talk.live u stepped)) none

  -- what its last test says
  abbrev pub goes_on : ℕ → ℕ → List ℕ → Bool
  goes_on number t kept = number == 0 && (nat_lt t until && not (nat_le most_sent (length kept)))

  kept : (talk : Talk P) (nets : NetsView) (c : Outside) (more : ℕ) → Going talk nets c more → talk.sent.bytes ≡ sent_by part old.live old.live.cycle talk.live.cycle
  kept talk nets c more going =
      going.talks.bytes ∙ ap (λ (s : LiveView P). sent_by part s talk.from talk.live.cycle) going.live ∙ ap (λ (f : ℕ). sent_by part old.live f talk.live.cycle) going.from

  tests : (n : ℕ) (less full : Bool) → (n == 0 && (less && not full)) ≡ true → (not (n == 0) || full) ≡ false
  tests n less full e = cases (n == 0) less full e
    where
      cases : (zero less full : Bool) → (zero && (less && not full)) ≡ true → (not zero || full) ≡ false
      cases true true false e = refl
      cases true true true e = absurd (false≢true e)
      cases true false full e = absurd (false≢true e)
      cases false less full e = absurd (false≢true e)

  untests : (n : ℕ) (less full : Bool) → (n == 0 && (less && not full)) ≡ false → (not (n == 0) || full) ≡ false → less ≡ false
  untests n less full e f = cases (n == 0) less full e f
    where
      cases : (zero less full : Bool) → (zero && (less && not full)) ≡ false → (not zero || full) ≡ false → less ≡ false
      cases true true false e f = absurd (true≢false e)
      cases true true true e f = absurd (true≢false f)
      cases true false full e f = refl
      cases false less full e f = absurd (true≢false f)

  -- it goes on only where it does not end
  pub on : (talk : Talk P) (nets : NetsView) (number : ℕ) (c : Outside) (more : ℕ) → Come talk nets number c more → goes_on number talk.live.cycle talk.sent.bytes ≡ true →
      (ends talk.live.cycle ≡ false) × (talk.live.cycle < until) × (length talk.sent.bytes < most_sent) × (whole ≡ rest talk.live.cycle)
  on talk nets number c more come test =
      let full = nat_le most_sent (length talk.sent.bytes) in
      let quiet : (not (number == 0) || full) ≡ false = tests number (nat_lt talk.live.cycle until) full test in
      let none : ends talk.live.cycle ≡ false =
      ap (λ (n : ℕ). not (n == 0) || nat_le most_sent (length (sent_by part old.live old.live.cycle talk.live.cycle))) (sym come.number_is)
      ∙ ap (λ (l : List ℕ). not (number == 0) || nat_le most_sent (length l)) (sym (kept talk nets c more come.going)) ∙ quiet in (
        none,
        less talk.live.cycle (parts number (nat_lt talk.live.cycle until) full test).0,
        few (length talk.sent.bytes) (parts number (nat_lt talk.live.cycle until) full test).1,
        come.at ∙ ap (λ (x : Bool). if x then talk.live.cycle else rest talk.live.cycle) none,
      )
    where
      parts : (n : ℕ) (less full : Bool) → (n == 0 && (less && not full)) ≡ true → (less ≡ true) × (full ≡ false)
      parts n less full e = cases (n == 0) less full e
        where
          cases : (zero less full : Bool) → (zero && (less && not full)) ≡ true → (less ≡ true) × (full ≡ false)
          cases true true false e = (refl, refl)
          cases true true true e = absurd (false≢true e)
          cases true false full e = absurd (false≢true e)
          cases false less full e = absurd (false≢true e)

      less : (t : ℕ) → nat_lt t until ≡ true → t < until
      less t e = grind (arith, nat_tests)

      few : (n : ℕ) → nat_le most_sent n ≡ false → n < most_sent
      few n e = grind (arith, nat_tests)

  -- and else it has ended
  pub over : (talk : Talk P) (nets : NetsView) (number : ℕ) (c : Outside) (more : ℕ) → Come talk nets number c more → goes_on number talk.live.cycle talk.sent.bytes ≡ false →
      HasRun part until ws number old talk a b c steps more
  over talk nets number c more come test = record {
    ends = sym (here (ends talk.live.cycle) refl);
    number_is = come.number_is;
    live = come.going.live;
    tied = come.going.tied;
    talks = come.going.talks;
    bytes = kept talk nets c more come.going;
    said = come.going.said;
    steps_are = come.going.steps_are;
  }
    where
      more_than : (t : ℕ) → nat_lt t until ≡ false → until ≤ t
      more_than t e = grind (arith, nat_tests)

      last : (t : ℕ) → t ≡ until → whole ≡ rest t → whole ≡ t
      last t e at = is_over value sent old.live.cycle ws until (at ∙ ap rest e) ∙ sym e

      here : (x : Bool) → ends talk.live.cycle ≡ x → whole ≡ talk.live.cycle
      here true is = come.at ∙ ap (λ (x : Bool). if x then talk.live.cycle else rest talk.live.cycle) is
      here false is =
          let full = nat_le most_sent (length talk.sent.bytes) in
          let quiet : (not (number == 0) || full) ≡ false =
          ap (λ (n : ℕ). not (n == 0) || full) come.number_is
          ∙ ap (λ (l : List ℕ). not (held value sent talk.live.cycle ws == 0) || nat_le most_sent (length l)) (kept talk nets c more come.going) ∙ is in
          let at_end : until ≤ talk.live.cycle = more_than talk.live.cycle (untests number (nat_lt talk.live.cycle until) full test quiet) in
          let within = come.going.within in
          last talk.live.cycle (omega (arith, at_end, within)) (come.at ∙ ap (λ (x : Bool). if x then talk.live.cycle else rest talk.live.cycle) is)

  -- a step failed that did not end before
  pub broken : (talk new : Talk P) (nets : NetsView) (c d : Outside) (more : ℕ) → Going talk nets c more → talk.live.cycle < new.live.cycle → new.live.cycle ≤ until →
      NoneIn talk.live.cycle new.live.cycle → whole ≡ rest talk.live.cycle → HasBroken part talk new a c d → BrokeBy part old whole new a b d
  broken talk new nets c d more going further within none at broke = record {
    over = broke.over;
    cycle = new.live.cycle;
    within = reaches value sent old.live.cycle ws until talk.live.cycle new.live.cycle further within none at;
    broke = λ said h.
        let Broke : TalkTied → LiveView P → Type 0 = λ t s. BreaksOff (texts t.wave true (begun_text t.variables (rows_by part s new.live.cycle)) said) a d in
        subst (λ (t : TalkTied). Broke t (record old.live { cycle = talk.live.cycle })) going.tied
        (subst (λ (s : LiveView P). Broke (tied_of talk) s) going.live (broke.broke said (going.said ∙ h)));
  }
