-- Texts that are said one after the other.
use Rattle.std.proofs.Common.{◌≡◌, ◌∙◌, ◌<◌, ◌+◌, ℕ, suc, List, [], ◌∷◌, ◌++◌, length, Option, None, Some, true, refl, ap, sym, subst, append_assoc, arith}
use Rattle.std.specs.Prelude.{codes}
use Rattle.std.specs.Option.{option_map}
use Rattle.std.proofs.lemmas.List.{append-nil}
use Rattle.sim_base.specs.declared.bench.Port.{Port}
use Rattle.sim_base.specs.declared.bench.Port.TheVariants as ports
use Rattle.sim_base.specs.declared.bench.WriteEnd.{WriteEnd}
use Rattle.sim_base.specs.declared.bench.WriteEnd.TheVariants as writes
use Rattle.sim_base.specs.Outside.{Outside, IsFront}
use Rattle.text_model.specs.Wave.{begun_text}
use Rattle.part_law.specs.declared.part.Part.{Ghosts}
use Rattle.board_live.specs.LiveView.{LiveView, rows_by}
use Rattle.vcd_text.specs.Ports.{texts, BreaksOff}
use Rattle.vcd_text.proofs.CallerLemmas.{breaks_within}
use Rattle.live_text.specs.Answer.{block_text}
use Rattle.live_leg.specs.Said.{HasSaid}
use Rattle.live_leg.specs.Talks.{TalkTied, MayTalk, tied_of, writer_of}
use Rattle.live_leg.specs.declared.talk.Talk.{Talk}
use Rattle.live_talk.specs.Says.{HasSpoken, HasFallenSilent, Says}

twice : (o : Option (List ℕ)) (x y : List ℕ) → option_map (λ (l : List ℕ). l ++ y) (option_map (λ (l : List ℕ). l ++ x) o) ≡ option_map (λ (l : List ℕ). l ++ (x ++ y)) o
twice None x y = refl
twice (Some l) x y = ap (λ (l : List ℕ). Some l) (append_assoc l x y)

pub said_more : (a b c : Outside) (x y : List ℕ) → HasSaid a b x → HasSaid b c y → HasSaid a c (x ++ y)
said_more a b c x y one two = two ∙ ap (option_map (λ (l : List ℕ). l ++ y)) one ∙ twice (a.written ports.Serial) x y

pub same_front : (said x y : List ℕ) → IsFront (said ++ x) (said ++ (x ++ y))
same_front said x y = record { rest = y; whole = append_assoc said x y }

module _ {P : Type 0} (part : Ghosts P) where
  -- what is wanted on the ports, by what no call changes
  abbrev pub wanted : TalkTied → LiveView P → ℕ → List ℕ → Port → Option (List ℕ)
  wanted tied s t said = texts tied.wave true (begun_text tied.variables (rows_by part s t)) said

  pub spoken_more : (old mid new : Talk P) (x y : List ℕ) (a b c d : Outside) → HasSpoken part x old mid a b c → HasSpoken part y mid new a c d → HasSpoken part (x ++ y) old new a b d
  spoken_more old mid new x y a b c d one two = record {
    live = two.live ∙ one.live;
    sent = two.sent ∙ one.sent;
    tied = two.tied ∙ one.tied;
    talks = two.talks;
    said = said_more b c d x y one.said two.said;
  }

  pub silent_more : (old mid : Talk P) (x y : List ℕ) (a b c d : Outside) → HasSpoken part x old mid a b c → HasFallenSilent part y mid a c d → HasFallenSilent part (x ++ y) old a b d
  silent_more old mid x y a b c d one two = λ said h.
      let Broke : TalkTied → LiveView P → Type 0 = λ tied s. BreaksOff (wanted tied s s.cycle (said ++ (x ++ y))) a d in
      let all : Broke (tied_of mid) mid.live =
      subst (λ (l : List ℕ). BreaksOff (wanted (tied_of mid) mid.live mid.live.cycle l) a d) (append_assoc said x y) (two (said ++ x) (said_more a b c said x h one.said)) in
      subst (λ (s : LiveView P). Broke (tied_of old) s) one.live (subst (λ (tied : TalkTied). Broke tied mid.live) one.tied all)

  -- more would have been said
  pub silent_within : (old : Talk P) (x y : List ℕ) (a b c : Outside) → HasFallenSilent part x old a b c → HasFallenSilent part (x ++ y) old a b c
  silent_within old x y a b c broke = λ said h.
      let text = begun_text old.head.variables (rows_by part old.live old.live.cycle) in
      breaks_within (writer_of old).wave true text text (said ++ x) (said ++ (x ++ y)) a c (record { rest = []; whole = append-nil text }) (same_front said x y) (broke said h)

  -- what a call of the talk says by its end
  pub said_by : (text : List ℕ) (end : WriteEnd) (old new : Talk P) (a b c : Outside) → new.live ≡ old.live → new.sent ≡ old.sent → (end ≡ writes.Ok → tied_of new ≡ tied_of old) →
      (end ≡ writes.Ok → MayTalk part new a c) → (end ≡ writes.Ok → HasSaid b c text) → (end ≡ writes.Failed → HasFallenSilent part text old a b c) → Says part text end old new a b c
  said_by text writes.Ok old new a b c live sent tied talks said broke = record { live = live; sent = sent; tied = tied refl; talks = talks refl; said = said refl }
  said_by text writes.Failed old new a b c live sent tied talks said broke = broke refl

  -- one text after another
  pub then_said : (x y : List ℕ) (end : WriteEnd) (old mid new : Talk P) (a b c d : Outside) → HasSpoken part x old mid a b c → Says part y end mid new a c d → Says part (x ++ y) end old new a b d
  then_said x y writes.Ok old mid new a b c d one two = spoken_more old mid new x y a b c d one two
  then_said x y writes.Failed old mid new a b c d one two = silent_more old mid x y a b c d one two

  -- a block that is empty is not said
  pub block_said : (block : List ℕ) (end : WriteEnd) (old new : Talk P) (a b c : Outside) → 0 < length block → Says part (block ++ codes "\n") end old new a b c → Says part (block_text block) end old new a b c
  block_said [] end old new a b c some says = absurd (let e : length {A = ℕ} [] ≡ 0 = refl in omega (arith, some, e))
  block_said (d ∷ ds) end old new a b c some says = says

  pub none_said : (block : List ℕ) (old : Talk P) (a b : Outside) → length block ≡ 0 → MayTalk part old a b → HasSpoken part (block_text block) old old a b b
  none_said [] old a b none talks = record { live = refl; sent = refl; tied = refl; talks = talks; said = same (b.written ports.Serial) }
    where
      same : (o : Option (List ℕ)) → o ≡ option_map (λ (l : List ℕ). l ++ []) o
      same None = refl
      same (Some l) = ap (λ (l : List ℕ). Some l) (sym (append-nil l))
  none_said (d ∷ ds) old a b none talks = absurd (let e : length (d ∷ ds) ≡ suc (length ds) = refl in omega (arith, none, e))
