-- A conversation that goes on, and its ends.
use Rattle.std.proofs.Common.{◌≡◌, ◌∙◌, ◌≤◌, ◌<◌, ℕ, ◌+◌, List, [], ◌∷◌, ◌++◌, length, Bool, true, false, Option, None, Some, refl, ap, sym, subst, append_assoc, length-append, inl, inr, arith}
use Rattle.std.proofs.lemmas.List.{append-nil}
use Rattle.sim_base.specs.Outside.{Outside, IsFront}
use Rattle.vcd_text.specs.Ports.{texts, BreaksOff, Leaves}
use Rattle.vcd_text.proofs.CallerLemmas.{breaks_within}
use Rattle.any_part.specs.AnyPart.{AnyState}
use Rattle.live_model.specs.Board.{Setup, wave_to, whole_wave, wakes_to}
use Rattle.live_model.specs.Standing.{Standing}
use Rattle.live_model.specs.Talk.{asked, greeting, is_quit, reply, standing_after, talk, text_of}
use Rattle.cli_serve.specs.declared.serving.Ended.{Ended}
use Rattle.cli_serve.specs.declared.serving.Ended.TheVariants as ends
use Rattle.cli_serve.specs.Answer.{most_requests}
use Rattle.cli_serve.specs.Conversed.{WereRead, AreCounted, texts_at, IsCut, IsUnread, Asks, HasConversed, HasBroken, HasStopped, Conversed}
use Rattle.cli_serve.proofs.TalkLemmas.{HasCome, begun, come_more}
use Rattle.cli_serve.proofs.LaterLemmas.{IsLater, later_same, later_on, later_run, wave_later, talk_later}
use Rattle.cli_serve.proofs.ConverseLemmas.{may_say, none_read, one_read, talk_full, talk_last, talk_over}

-- what was said is a first part of what is said later
said_front : (text more : List ℕ) → IsFront text (text ++ more)
said_front text more = record { rest = more; whole = refl }

-- counts from one standing to the next add up
counts_on : {S : Type 0} (b : Setup S) (s m end : Standing) (first then_so after : ℕ) → AreCounted b s m first then_so → AreCounted b m end then_so after → AreCounted b s end first after
counts_on b s m end first then_so after one two =
    let x : ℕ = wakes_to b s.inputs s.cycle in
    let y : ℕ = wakes_to b m.inputs m.cycle in
    let z : ℕ = wakes_to b end.inputs end.cycle in
    let one' : then_so + x ≡ first + y = one in
    let two' : after + y ≡ then_so + z = two in
    omega (arith, one', two')

-- a text that broke off broke off within that of a later standing
module _ {S : Type 0} (b : Setup S) (a : Outside) where
  pub broke_later : (s end : Standing) (said more : List ℕ) (c : Outside) → IsLater b s end → BreaksOff (texts b.wave true (wave_to b s.inputs s.cycle) said) a c → BreaksOff (texts_at b end (said ++ more)) a c
  broke_later s end said more c later broke =
      breaks_within b.wave true (wave_to b s.inputs s.cycle) (whole_wave b end.inputs end.cycle) said (said ++ more) a c (wave_later b s end later) (said_front said more) broke

module _ {Live : Type 0} (IsAt : Setup AnyState → Live → Standing → List ℕ → Outside → Outside → Type 0) (b : Setup AnyState) (a : Outside) (start : Standing) where
  -- so many requests were answered, and the conversation has come to a standing
  pub record IsGoing (live : Live) (m now : Outside) (before after count : ℕ) : Type 0 where
    pub lines : List (List ℕ)
    pub many : length lines ≡ count
    pub s : Standing
    pub said : List ℕ
    pub come : HasCome b start s lines said
    pub read : WereRead m.requests lines now.requests
    pub at : IsAt b live s (greeting ++ said) a now
    pub counted : AreCounted b start s before after

  pub going_begun : (live : Live) (m now : Outside) (steps : ℕ) → now.requests ≡ m.requests → IsAt b live start ([] ++ greeting) a now → IsGoing live m now steps steps 0
  going_begun live m now steps same at = record {
    lines = [];
    many = refl;
    s = start;
    said = [];
    come = begun b start;
    read = rw same (none_read m.requests);
    at = subst (λ (l : List ℕ). IsAt b live start l a now) (sym (append-nil greeting)) at;
    counted = refl;
  }

  pub going_more : (live next : Live) (m now c : Outside) (before steps after count : ℕ) (going : IsGoing live m now before steps count) → Asks IsAt b a going.s (greeting ++ going.said) None next now c steps after →
      IsGoing next m c before after (count + 1)
  going_more live next m now c before steps after count going asks =
      let then_s : Standing = standing_after going.s (reply b going.s asks.lacks asks.line) in
      let text : List ℕ = text_of going.s.cycle (reply b going.s asks.lacks asks.line) in
      record {
        lines = going.lines ++ asks.line ∷ [];
        many = length-append going.lines (asks.line ∷ []) ∙ ap (λ (n : ℕ). n + 1) going.many;
        s = then_s;
        said = going.said ++ text;
        come = come_more b start going.s going.lines going.said going.come asks.lacks asks.line asks.quit;
        read = one_read m.requests going.lines now.requests asks.line c.requests going.read asks.taken;
        at = subst (λ (l : List ℕ). IsAt b next then_s l a c) (append_assoc greeting going.said text) asks.at;
        counted = counts_on b start going.s then_s before steps after going.counted asks.counted;
      }

  -- enough were answered
  pub going_full : (live : Live) (m now : Outside) (before after count : ℕ) → IsGoing live m now before after count → count ≡ most_requests → HasConversed IsAt b a start live m now before after
  going_full live m now before after count going full = record {
    end = going.s;
    said = going.said;
    talked = talk_full b start m.requests now.requests going.s going.lines going.said going.come going.read (going.many ∙ full);
    at = going.at;
    counted = going.counted;
  }

-- a first part of a first part
front_on : (x y z : List ℕ) → IsFront x y → IsFront y z → IsFront x z
front_on x y z p q = record { rest = p.rest ++ q.rest; whole = sym (append_assoc x p.rest q.rest) ∙ ap (λ (l : List ℕ). l ++ q.rest) p.whole ∙ q.whole }

module _ {Live : Type 0} (IsAt : Setup AnyState → Live → Standing → List ℕ → Outside → Outside → Type 0) (b : Setup AnyState) (a : Outside) (start : Standing)
    (fronts : (live : Live) (s : Standing) (said : List ℕ) (m : Outside) → IsAt b live s said a m → (gone : List ℕ) × IsFront gone (wave_to b s.inputs s.cycle) × Leaves (texts b.wave true gone said) a m) where
  -- what broke off at a standing, whatever was to come
  broken : (old new : Option (List (List ℕ))) (m c : Outside) (s here : Standing) (lines : List (List ℕ)) (said : List ℕ) → m.requests ≡ old → HasCome b start s lines said → WereRead old lines new → length lines ≤ most_requests →
      IsLater b here s → BreaksOff (texts b.wave true (wave_to b here.inputs here.cycle) (greeting ++ said)) a c → HasBroken b a start m c
  broken old new m c s here lines said same come read few later broke =
      let may = may_say b start old new s lines said come read few in
      let end : Standing × List ℕ = talk b may.lacks s may.rest in
      record {
        end = end.0;
        said = said ++ end.1;
        talked = rw same may.talked;
        broke = subst (λ (l : List ℕ). BreaksOff (texts_at b end.0 l) a c) (append_assoc greeting said end.1)
            (broke_later b a here end.0 (greeting ++ said) end.1 c (later_on b here s end.0 later (talk_later b may.lacks s may.rest)) broke);
      }

  -- the greeting could not be written whole
  pub greeting_broke : (m c : Outside) → BreaksOff (texts b.wave true (wave_to b start.inputs start.cycle) ([] ++ greeting)) a c → HasBroken b a start m c
  greeting_broke m c broke =
      let none : 0 ≤ most_requests = omega arith in
      broken m.requests m.requests m c start start [] [] refl (begun b start) (none_read m.requests) none (later_same b start)
      (subst (λ (l : List ℕ). BreaksOff (texts b.wave true (wave_to b start.inputs start.cycle) l) a c) (sym (append-nil greeting)) broke)

  module _ (live next : Live) (m now c : Outside) (before steps after count : ℕ) (going : IsGoing IsAt b a start live m now before steps count) (few : count < most_requests) where
    few_lines : length going.lines < most_requests
    few_lines = subst (λ (n : ℕ). n < most_requests) (sym going.many) few

    whole : Asks IsAt b a going.s (greeting ++ going.said) (Some ends.Whole) next now c steps after → HasConversed IsAt b a start next m c before after
    whole (inl answered) =
        let then_s : Standing = standing_after going.s (reply b going.s answered.lacks answered.line) in
        let text : List ℕ = text_of going.s.cycle (reply b going.s answered.lacks answered.line) in
        record {
          end = then_s;
          said = going.said ++ text;
          talked = talk_last b start m.requests now.requests c.requests going.s going.lines going.said going.come going.read few_lines answered.lacks answered.line answered.taken answered.quit;
          at = subst (λ (l : List ℕ). IsAt b next then_s l a c) (append_assoc greeting going.said text) answered.at;
          counted = counts_on b start going.s then_s before steps after going.counted answered.counted;
        }
    whole (inr over) =
        let le : length going.lines ≤ most_requests = omega (arith, few_lines) in
        record {
          end = going.s;
          said = going.said;
          talked = talk_over b start m.requests now.requests going.s going.lines going.said going.come going.read over.none le;
          at = over.at;
          counted = rw over.counted going.counted;
        }

    unread : IsUnread IsAt b a going.s (greeting ++ going.said) next now c → HasStopped b a start m c
    unread it =
        let le : length going.lines ≤ most_requests = omega (arith, few_lines) in
        let may = may_say b start m.requests now.requests going.s going.lines going.said going.come going.read le in
        let end : Standing × List ℕ = talk b may.lacks going.s may.rest in
        let front = fronts next going.s (greeting ++ going.said) now it.at in
        record {
          end = end.0;
          said = going.said ++ end.1;
          talked = may.talked;
          before = now;
          wave = front.0;
          answers = greeting ++ going.said;
          leaves = front.2;
          wave_front = front_on front.0 (wave_to b going.s.inputs going.s.cycle) (whole_wave b end.0.inputs end.0.cycle) front.1 (wave_later b going.s end.0 (talk_later b may.lacks going.s may.rest));
          answers_front = record { rest = end.1; whole = append_assoc greeting going.said end.1 };
          rose = it.rose;
          ports = it.ports;
        }

    cut : IsCut b a going.s (greeting ++ going.said) now c → HasBroken b a start m c
    cut it = go (is_quit (asked it.line)) refl
      where
        then_s : Standing
        then_s = standing_after going.s (reply b going.s it.lacks it.line)

        text : List ℕ
        text = text_of going.s.cycle (reply b going.s it.lacks it.line)

        here : Standing
        here = record then_s { cycle = it.reached }

        broke : BreaksOff (texts b.wave true (wave_to b here.inputs here.cycle) (greeting ++ (going.said ++ text))) a c
        broke = subst (λ (l : List ℕ). BreaksOff (texts b.wave true (wave_to b here.inputs here.cycle) l) a c) (append_assoc greeting going.said text) it.broke

        later : IsLater b here then_s
        later = later_run b here then_s.cycle it.within

        go : (q : Bool) → is_quit (asked it.line) ≡ q → HasBroken b a start m c
        go true e = record {
          end = then_s;
          said = going.said ++ text;
          talked = talk_last b start m.requests now.requests c.requests going.s going.lines going.said going.come going.read few_lines it.lacks it.line it.taken e;
          broke = subst (λ (l : List ℕ). BreaksOff (texts_at b then_s l) a c) (append-nil (greeting ++ (going.said ++ text)))
              (broke_later b a here then_s (greeting ++ (going.said ++ text)) [] c later broke);
        }
        go false e =
            let long : length (going.lines ++ it.line ∷ []) ≡ length going.lines + 1 = length-append going.lines (it.line ∷ []) in
            let le : length (going.lines ++ it.line ∷ []) ≤ most_requests = omega (arith, long, few_lines) in
            broken m.requests c.requests m c then_s here (going.lines ++ it.line ∷ []) (going.said ++ text) refl
            (come_more b start going.s going.lines going.said going.come it.lacks it.line e)
            (one_read m.requests going.lines now.requests it.line c.requests going.read it.taken) le later broke

    pub going_ends : (ended : Ended) → Asks IsAt b a going.s (greeting ++ going.said) (Some ended) next now c steps after → Conversed IsAt b a start ended next m c before after
    going_ends ends.Whole asks = whole asks
    going_ends ends.RequestFailed asks = unread asks
    going_ends ends.WriteFailed asks = cut asks
