-- A conversation over the lines that are read.
use Rattle.std.proofs.Common.{◌≡◌, ◌∙◌, ◌≤◌, ◌<◌, ℕ, zero, suc, ◌-◌, List, [], ◌∷◌, ◌++◌, length, take, Bool, true, Option, None, Some, refl, ap, sym, append_assoc, arith}
use Rattle.std.proofs.lemmas.List.{append-nil, take_all}
use Rattle.live_model.specs.Board.{Setup}
use Rattle.live_model.specs.Standing.{Standing}
use Rattle.live_model.specs.Talk.{asked, is_quit, reply, standing_after, talk, text_of}
use Rattle.cli_serve.specs.Answer.{most_requests}
use Rattle.cli_serve.specs.Conversed.{TakesOne, AreTold, WereRead, HasTalked}
use Rattle.cli_serve.proofs.TalkLemmas.{HasCome, come_on, come_last}

take_within : {A : Type 0} (xs ys : List A) (n : ℕ) → length xs ≤ n → take n (xs ++ ys) ≡ xs ++ take (n - length xs) ys
take_within [] ys n le = let e : n ≡ n - 0 = omega arith in ap (λ (k : ℕ). take k ys) e
take_within (x ∷ xs) ys zero le = absurd (omega (arith, le))
take_within {A = A} (x ∷ xs) ys (suc n) le =
    let less : length xs ≤ n = omega (arith, le) in
    let e : n - length xs ≡ suc n - length (x ∷ xs) = omega arith in
    ap (λ (l : List A). x ∷ l) (take_within xs ys n less) ∙ ap (λ (k : ℕ). x ∷ (xs ++ take k ys)) e

-- where the requests are told, they are those that were read and those that are left
pub all_told : (old : Option (List (List ℕ))) (lines : List (List ℕ)) (new : Option (List (List ℕ))) → WereRead old lines new → (rest : List (List ℕ)) × AreTold old (lines ++ rest) × AreTold new rest
all_told None lines new read = ([], tt, rw read tt)
all_told (Some old) lines new (rest, all, left) = (rest, all, rw left refl)

pub none_read : (old : Option (List (List ℕ))) → WereRead old [] old
none_read None = refl
none_read (Some old) = (old, refl, refl)

pub one_read : (old : Option (List (List ℕ))) (lines : List (List ℕ)) (mid : Option (List (List ℕ))) (line : List ℕ) (new : Option (List (List ℕ))) → WereRead old lines mid → TakesOne mid line new → WereRead old (lines ++ line ∷ []) new
one_read None lines mid line new read takes = let none : TakesOne None line new = rw read at takes in none
one_read (Some old) lines mid line new (rest, all, left) takes =
    let t : TakesOne (Some rest) line new = rw left at takes in
    (t.0, all ∙ ap (λ (l : List (List ℕ)). lines ++ l) t.1 ∙ sym (append_assoc lines (line ∷ []) t.0), t.2)

module _ {S : Type 0} (b : Setup S) (start : Standing) where
  -- no more lines are to be read, or enough were
  pub talk_over : (old new : Option (List (List ℕ))) (s : Standing) (lines : List (List ℕ)) (said : List ℕ) → HasCome b start s lines said → WereRead old lines new → AreTold new [] → length lines ≤ most_requests → HasTalked b start old s said
  talk_over old new s lines said come read over few = record {
    lines = lines;
    told = by old read;
    lacks = come.lacks;
    talked = ap (λ (l : List (List ℕ)). talk b come.lacks start l) (take_all most_requests lines few) ∙ come.talked;
  }
    where
      by : (old : Option (List (List ℕ))) → WereRead old lines new → AreTold old lines
      by None read = tt
      by (Some old) (rest, all, left) =
          let none : AreTold (Some rest) [] = rw left at over in
          all ∙ ap (λ (l : List (List ℕ)). lines ++ l) none ∙ append-nil lines

  pub talk_full : (old new : Option (List (List ℕ))) (s : Standing) (lines : List (List ℕ)) (said : List ℕ) → HasCome b start s lines said → WereRead old lines new → length lines ≡ most_requests → HasTalked b start old s said
  talk_full old new s lines said come read full =
      let x = all_told old lines new read in
      let le : length lines ≤ most_requests = omega (arith, full) in
      let none : most_requests - length lines ≡ 0 = omega (arith, full) in
      let all : take most_requests (lines ++ x.0) ≡ lines = take_within lines x.0 most_requests le ∙ ap (λ (k : ℕ). lines ++ take k x.0) none ∙ append-nil lines in
      record {
        lines = lines ++ x.0;
        told = x.1;
        lacks = come.lacks;
        talked = ap (λ (l : List (List ℕ)). talk b come.lacks start l) all ∙ come.talked;
      }

  -- the line that ends it
  pub talk_last : (old mid new : Option (List (List ℕ))) (s : Standing) (lines : List (List ℕ)) (said : List ℕ) → HasCome b start s lines said → WereRead old lines mid → length lines < most_requests →
      (lack : Bool) (line : List ℕ) → TakesOne mid line new → is_quit (asked line) ≡ true → HasTalked b start old (standing_after s (reply b s lack line)) (said ++ text_of s.cycle (reply b s lack line))
  talk_last old mid new s lines said come read few lack line takes e =
      let x = all_told old (lines ++ line ∷ []) new (one_read old lines mid line new read takes) in
      let le : length lines ≤ most_requests = omega (arith, few) in
      let k : ℕ = most_requests - length lines - 1 in
      let some : most_requests - length lines ≡ suc k = omega (arith, few) in
      let front : take most_requests ((lines ++ line ∷ []) ++ x.0) ≡ lines ++ line ∷ take k x.0 =
      ap (take most_requests) (append_assoc lines (line ∷ []) x.0) ∙ take_within lines (line ∷ x.0) most_requests le ∙ ap (λ (n : ℕ). lines ++ take n (line ∷ x.0)) some in
      record {
        lines = (lines ++ line ∷ []) ++ x.0;
        told = x.1;
        lacks = come.lacks ++ lack ∷ [];
        talked = ap (λ (l : List (List ℕ)). talk b (come.lacks ++ lack ∷ []) start l) front
            ∙ come_last b start s lines said come lack line (take k x.0) e;
      }

  -- what may be said behind some lines, whatever they were
  pub record MaySay (old : Option (List (List ℕ))) (s : Standing) (said : List ℕ) : Type 0 where
    pub lacks : List Bool
    pub rest : List (List ℕ)
    pub talked : HasTalked b start old (talk b lacks s rest).0 (said ++ (talk b lacks s rest).1)

  pub may_say : (old new : Option (List (List ℕ))) (s : Standing) (lines : List (List ℕ)) (said : List ℕ) → HasCome b start s lines said → WereRead old lines new → length lines ≤ most_requests → MaySay old s said
  may_say old new s lines said come read few =
      let x = all_told old lines new read in
      let rest : List (List ℕ) = take (most_requests - length lines) x.0 in
      record {
        lacks = [];
        rest = rest;
        talked = record {
          lines = lines ++ x.0;
          told = x.1;
          lacks = come.lacks ++ [];
          talked = ap (λ (l : List (List ℕ)). talk b (come.lacks ++ []) start l) (take_within lines x.0 most_requests few)
              ∙ come_on b start s lines said come [] rest;
        };
      }
