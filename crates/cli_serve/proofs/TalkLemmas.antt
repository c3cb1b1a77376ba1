-- A conversation, one request after the other.
use Rattle.std.proofs.Common.{◌≡◌, ◌∙◌, ℕ, ◌+◌, List, [], ◌∷◌, ◌++◌, length, Bool, true, false, not, refl, ap, sym, append_assoc, length-append, arith}
use Rattle.std.specs.List.{list_all}
use Rattle.std.proofs.lemmas.Bool.{and_from, and_parts}
use Rattle.std.proofs.lemmas.List.{append-nil}
use Rattle.live_model.specs.Board.{Setup}
use Rattle.live_model.specs.Standing.{Standing}
use Rattle.live_model.specs.Talk.{asked, first_lacks, is_quit, reply, rest_lacks, standing_after, talk, text_of}

module _ {S : Type 0} (b : Setup S) where
  -- none of the lines ends it
  abbrev pub goes_on : List (List ℕ) → Bool
  goes_on lines = list_all (λ line. not (is_quit (asked line))) lines

  -- what comes after some lines, and was said before
  abbrev pub after : List ℕ → Standing × List ℕ → Standing × List ℕ
  after said x = (x.0, said ++ x.1)

  pub talk_on : (lacks more : List Bool) (s : Standing) (lines rest : List (List ℕ)) → length lacks ≡ length lines → goes_on lines ≡ true →
      talk b (lacks ++ more) s (lines ++ rest) ≡ after (talk b lacks s lines).1 (talk b more (talk b lacks s lines).0 rest)
  unfolding talk
  talk_on [] more s [] rest long on = refl
  talk_on (l ∷ lacks) more s [] rest long on = absurd (omega (arith, long))
  talk_on [] more s (line ∷ lines) rest long on = absurd (omega (arith, long))
  talk_on (l ∷ lacks) more s (line ∷ lines) rest long on =
      let shorter : length lacks ≡ length lines = omega (arith, long) in
      go (λ next others. talk_on lacks more next lines rest shorter others) (is_quit (asked line)) refl on
    where
      go : ((next : Standing) → goes_on lines ≡ true → talk b (lacks ++ more) next (lines ++ rest) ≡ after (talk b lacks next lines).1 (talk b more (talk b lacks next lines).0 rest)) →
          (q : Bool) → is_quit (asked line) ≡ q → goes_on (line ∷ lines) ≡ true →
          talk b ((l ∷ lacks) ++ more) s ((line ∷ lines) ++ rest) ≡ after (talk b (l ∷ lacks) s (line ∷ lines)).1 (talk b more (talk b (l ∷ lacks) s (line ∷ lines)).0 rest)
      go so true e on = let bad : false ≡ true = rw e at on in absurd (cc)
      go so false e on =
          let others : goes_on lines ≡ true = rw e at on in
          let next : Standing = standing_after s (reply b s l line) in
          let said : List ℕ = text_of s.cycle (reply b s l line) in
          let first : Standing × List ℕ = talk b lacks next lines in
          let behind : Standing × List ℕ = talk b more first.0 rest in
          rw e (ap (λ (z : Standing × List ℕ). after said z) (so next others) ∙ ap (λ (text : List ℕ). (behind.0, text)) (sym (append_assoc said first.1 behind.1)))

  -- A conversation that began at one standing has come to another by these lines, and this was said.
  pub record HasCome (start s : Standing) (lines : List (List ℕ)) (said : List ℕ) : Type 0 where
    pub lacks : List Bool
    pub long : length lacks ≡ length lines
    pub on : goes_on lines ≡ true
    pub talked : talk b lacks start lines ≡ (s, said)

  pub begun : (s : Standing) → HasCome s s [] []
  unfolding talk
  begun s = record { lacks = []; long = refl; on = refl; talked = refl }

  -- whatever comes behind these lines
  pub come_on : (start s : Standing) (lines : List (List ℕ)) (said : List ℕ) (come : HasCome start s lines said) (more : List Bool) (rest : List (List ℕ)) →
      talk b (come.lacks ++ more) start (lines ++ rest) ≡ after said (talk b more s rest)
  come_on start s lines said come more rest =
      let at : (x : Standing × List ℕ) → x ≡ (s, said) → after x.1 (talk b more x.0 rest) ≡ after said (talk b more s rest) =
      λ x e. ap (λ (y : Standing × List ℕ). after y.1 (talk b more y.0 rest)) e in
      talk_on come.lacks more start lines rest come.long come.on ∙ at _ come.talked

  all_on : (lines : List (List ℕ)) (line : List ℕ) → goes_on lines ≡ true → is_quit (asked line) ≡ false → goes_on (lines ++ line ∷ []) ≡ true
  all_on lines line on e = go lines on
    where
      go : (ls : List (List ℕ)) → goes_on ls ≡ true → goes_on (ls ++ line ∷ []) ≡ true
      go [] on = rw e refl
      go (l ∷ ls) on = (let parts = and_parts (not (is_quit (asked l))) (goes_on ls) on in and_from _ _ parts.0 (go ls parts.1))

  -- one more line that is not the last
  pub come_more : (start s : Standing) (lines : List (List ℕ)) (said : List ℕ) → HasCome start s lines said → (lack : Bool) (line : List ℕ) → is_quit (asked line) ≡ false →
      HasCome start (standing_after s (reply b s lack line)) (lines ++ line ∷ []) (said ++ text_of s.cycle (reply b s lack line))
  unfolding talk
  come_more start s lines said come lack line e = record {
    lacks = come.lacks ++ lack ∷ [];
    long = length-append come.lacks (lack ∷ []) ∙ ap (λ (n : ℕ). n + 1) come.long ∙ sym (length-append lines (line ∷ []));
    on = all_on lines line come.on e;
    talked = come_on start s lines said come (lack ∷ []) (line ∷ [])
        ∙ rw e (ap (λ (text : List ℕ). (standing_after s (reply b s lack line), said ++ text)) (append-nil (text_of s.cycle (reply b s lack line))));
  }

  -- the line that ends it, and whatever comes behind that
  pub come_last : (start s : Standing) (lines : List (List ℕ)) (said : List ℕ) (come : HasCome start s lines said) (lack : Bool) (line : List ℕ) (rest : List (List ℕ)) → is_quit (asked line) ≡ true →
      talk b (come.lacks ++ lack ∷ []) start (lines ++ line ∷ rest) ≡ (standing_after s (reply b s lack line), said ++ text_of s.cycle (reply b s lack line))
  unfolding talk
  come_last start s lines said come lack line rest e = come_on start s lines said come (lack ∷ []) (line ∷ rest) ∙ rw e refl

  -- what each answer keeps, a conversation keeps
  pub talk_keeps : (Q : Standing → Type 0) → ((s : Standing) (lacks : Bool) (line : List ℕ) → Q s → Q (standing_after s (reply b s lacks line))) → (lacks : List Bool) (s : Standing) (lines : List (List ℕ)) → Q s → Q (talk b lacks s lines).0
  unfolding talk
  talk_keeps Q keeps lacks s [] q = q
  talk_keeps Q keeps lacks s (line ∷ lines) q =
      let next : Q (standing_after s (reply b s (first_lacks lacks) line)) = keeps s (first_lacks lacks) line q in
      go next (talk_keeps Q keeps (rest_lacks lacks) (standing_after s (reply b s (first_lacks lacks) line)) lines next) (is_quit (asked line)) refl
    where
      go : Q (standing_after s (reply b s (first_lacks lacks) line)) → Q (talk b (rest_lacks lacks) (standing_after s (reply b s (first_lacks lacks) line)) lines).0 → (q : Bool) → is_quit (asked line) ≡ q → Q (talk b lacks s (line ∷ lines)).0
      go here on true e = rw e here
      go here on false e = rw e on
