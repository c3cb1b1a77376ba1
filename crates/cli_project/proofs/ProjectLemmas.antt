-- Reading a project file by file.
use Rattle.cli_project.proofs.Common.{◌≡◌, ◌∙◌, ◌⊎◌, ◌++◌, [], ◌∷◌, ◌<◌, ◌-◌, ◌+◌, ℕ, List, length, length-append, take, drop, slice_index_or, arith, ap, sym}
use Rattle.cli_project.proofs.Common.{subst, refl, Option, Some, None, Result, Ok, Err, inl, inr, IfSome, IfOk, Refusal, Outside, SamePorts, Files, hex_image}
use Rattle.cli_project.proofs.Common.{project_text, ChipFile, pins_and_display, Binary, Judges, ChipSource, Stop, Texts, accepted, Reading, Is, ReadStops, Got}
use Rattle.cli_project.proofs.Common.{IsSteady, IsOneReading, if_always, first_stops, got_both, steady_file, steady_within, steady_both, steady_rule, one_file}
use Rattle.cli_project.proofs.Common.{one_within, one_function, one_both, steady_judged, one_judged, answered, answer_stops, only_texts, one_answer}
use Rattle.std.proofs.lemmas.List.{take_all}
use Rattle.document_model.specs.declared.diagram.Diagram.{Diagram}
use Rattle.document_model.specs.Diagram.{diagram_text}
use Rattle.chip_module.proofs.BinaryLemmas.{one_binary, not_both, one_refusal}
use Rattle.input_script.specs.Script.{script_of}
use Rattle.sim_outcome_model.specs.Outcome.{Outcome, Stopped, OutOfMemory}
use Rattle.project_model.specs.Work.{Work, in_folder, with_bytes, drawn, ChipIn, ChipsAfter, PinsIn, ScriptIn, WaveIn, WorkIn}
use Rattle.sim_outcome_model.specs.Happens.{Ends}
use Rattle.sim_outcome_model.specs.Promises.{IsOne}
use Rattle.cli_project.specs.Answer.{CheckAnswer}

pub steady_script : (script : Option (List ℕ)) → IsSteady (ScriptIn script)
steady_script None = λ files name x e. inl e
steady_script (Some name) = steady_file name script_of

pub steady_wave : (wave : Option (List ℕ)) → IsSteady (WaveIn wave)
steady_wave None = λ files name x e. inl e
steady_wave (Some name) = steady_within 16777216 name (λ bytes. Ok bytes)

-- the files of chips are read alike where another is not there
module _ (folder : List ℕ) where
  pub steady_pins : (path : List ℕ) (binary : Binary) → IsSteady (PinsIn folder path binary)
  steady_pins path binary = steady_both _ _ (steady_file (in_folder folder path) pins_and_display) (λ pins. steady_rule _)

  pub steady_chip : (chip : ChipFile) → IsSteady (ChipIn folder chip)
  steady_chip chip = steady_both _ _ (steady_judged (in_folder folder chip.binary) Judges) (steady_pins chip.json)

  pub steady_chips : (read : List ChipSource) (chips : List ChipFile) → IsSteady (ChipsAfter folder read chips)
  unfolding ChipsAfter
  steady_chips read [] = steady_rule _
  steady_chips read (chip ∷ chips) = steady_both _ _ (steady_chip chip) (λ source. steady_chips (read ++ source ∷ []) chips)

-- the first chip and those behind it
chips_split : (d chip : ChipFile) (chips : List ChipFile) → 0 < length chips → chip ≡ slice_index_or chips 0 d → chips ≡ chip ∷ take (length chips - 1) (drop 1 chips)
chips_split d chip [] more first = absurd (omega arith)
chips_split d chip (c ∷ cs) more first =
    ap (λ (x : ChipFile). x ∷ cs) (sym first) ∙ ap (λ (l : List ChipFile). chip ∷ l) (sym (take_all (length (c ∷ cs) - 1) cs (omega arith)))

-- the chips behind those that were read
module _ (folder : List ℕ) (read : List ChipSource) where
  module _ (chip : ChipFile) (chips : List ChipFile) where
    abbrev chips_next : ChipSource → Reading (List ChipSource)
    chips_next source = ChipsAfter folder (read ++ source ∷ []) chips

    pub chip_stops : (o : Outcome) (a b : Outside) → ReadStops o (ChipIn folder chip) a b → ReadStops o (ChipsAfter folder read (chip ∷ chips)) a b
    unfolding ChipsAfter
    chip_stops = first_stops (ChipIn folder chip) chips_next

    pub chips_got : {E : Type 0} (out : E → Outcome) (source : ChipSource) (r : Result (List ChipSource) E) (a m b : Outside) → SamePorts a m → IfSome a.files (λ files. ChipIn folder chip files (Ok source)) × (m.read_faults ≡ a.read_faults) →
        Got (λ (sources : List ChipSource). sources) out r (ChipsAfter folder (read ++ source ∷ []) chips) m b → Got (λ (sources : List ChipSource). sources) out r (ChipsAfter folder read (chip ∷ chips)) a b
    unfolding ChipsAfter
    chips_got out source r a m b = got_both (ChipIn folder chip) chips_next (steady_chip folder chip) source (λ sources. sources) out r a m b

  pub first_chip_stops : (d chip : ChipFile) (chips : List ChipFile) → 0 < length chips → chip ≡ slice_index_or chips 0 d → (o : Outcome) (a b : Outside) → ReadStops o (ChipIn folder chip) a b → ReadStops o (ChipsAfter folder read chips) a b
  first_chip_stops d chip chips more first o a b s =
      subst (λ (l : List ChipFile). ReadStops o (ChipsAfter folder read l) a b) (sym (chips_split d chip chips more first)) (chip_stops chip (take (length chips - 1) (drop 1 chips)) o a b s)

  pub more_chips_got : {E : Type 0} (out : E → Outcome) (d chip : ChipFile) (chips : List ChipFile) → 0 < length chips → chip ≡ slice_index_or chips 0 d → (source : ChipSource) (after : List ChipSource) → after ≡ read ++ source ∷ [] →
      (r : Result (List ChipSource) E) (a m b : Outside) → SamePorts a m → IfSome a.files (λ files. ChipIn folder chip files (Ok source)) × (m.read_faults ≡ a.read_faults) →
      Got (λ (sources : List ChipSource). sources) out r (ChipsAfter folder after (take (length chips - 1) (drop 1 chips))) m b → Got (λ (sources : List ChipSource). sources) out r (ChipsAfter folder read chips) a b
  more_chips_got out d chip chips more first source after added r a m b same got g =
      let rest : List ChipFile = take (length chips - 1) (drop 1 chips) in
      subst (λ (l : List ChipFile). Got (λ (sources : List ChipSource). sources) out r (ChipsAfter folder read l) a b) (sym (chips_split d chip chips more first))
      (chips_got chip rest out source r a m b same got (subst (λ (l : List ChipSource). Got (λ (sources : List ChipSource). sources) out r (ChipsAfter folder l rest) m b) added g))

  pub more_counted : {E : Type 0} (d chip : ChipFile) (chips : List ChipFile) → 0 < length chips → chip ≡ slice_index_or chips 0 d → (source : ChipSource) (after : List ChipSource) → after ≡ read ++ source ∷ [] →
      (r : Result (List ChipSource) E) → IfOk r (λ cs. length cs ≡ length after + length (take (length chips - 1) (drop 1 chips))) → IfOk r (λ cs. length cs ≡ length read + length chips)
  more_counted d chip chips more first source after added (Ok cs) e =
      let n = ap (λ (l : List ChipFile). length l) (chips_split d chip chips more first) in
      omega (arith, n, ap (λ (l : List ChipSource). length l) added ∙ length-append read (source ∷ []), e)
  more_counted d chip chips more first source after added (Err x) e = tt

  pub no_chips : (chips : List ChipFile) → length chips < 1 → (told : Option Files) → IfSome told (λ files. ChipsAfter folder read chips files (Ok read))
  unfolding ChipsAfter
  no_chips [] none told = if_always told _ (λ files. refl)
  no_chips (c ∷ cs) none told = absurd (omega (arith, none))

-- two runs of calls leave the ports alone, and none at all does
pub same_both : (a m b : Outside) → SamePorts a m → SamePorts m b → SamePorts a b
same_both a m b x y = record { files = y.files ∙ x.files; requests = y.requests ∙ x.requests; written = λ p. y.written p ∙ x.written p; name = λ p. y.name p ∙ x.name p; opened = λ p. y.opened p ∙ x.opened p; faults = λ p. y.faults p ∙ x.faults p }

pub same_here : (a : Outside) → SamePorts a a
same_here a = record { files = refl; requests = refl; written = λ p. refl; name = λ p. refl; opened = λ p. refl; faults = λ p. refl }

-- what is refused without a file is refused over all files
pub rule_stops : {X : Type 0} (result : Result X Stop) (s : Stop) (said : Outcome) (a : Outside) → result ≡ Err s → (said ≡ Stopped s) ⊎ (said ≡ OutOfMemory) → ReadStops said (Is (λ (files : Files). result)) a a
rule_stops result s said a e (inl is) = rw is (if_always a.files _ (λ files. e))
rule_stops result s said a e (inr is) = rw is tt

-- what is kept beside its bytes is what they are read as
bytes_beside : {X : Type 0} (bytes : List ℕ) (r : Result X Refusal) (d : X × List ℕ) → with_bytes bytes r ≡ Ok d → r ≡ Ok d.0
bytes_beside {X = X} bytes (Ok x) d e = let same : (x, bytes) ≡ d = cc in ap (λ (p : X × List ℕ). Ok p.0) same
bytes_beside {X = X} bytes (Err r) d e = absurd cc

pub drawn_is : (bytes : List ℕ) (d : Diagram × List ℕ) → drawn bytes ≡ Ok d → diagram_text bytes ≡ Ok d.0
drawn_is bytes d e = bytes_beside bytes (diagram_text bytes) d e

-- A project holds one work.
module _ (folder : List ℕ) (script wave : Option (List ℕ)) where
  one_chip : (chip : ChipFile) → IsOneReading (ChipIn folder chip)
  one_chip chip =
      one_both _ _ (one_judged (in_folder folder chip.binary) Judges one_binary not_both one_refusal) (λ binary.
      one_both _ _ (one_file _ pins_and_display) (λ pins. one_function _))

  one_chips : (read : List ChipSource) (chips : List ChipFile) → IsOneReading (ChipsAfter folder read chips)
  unfolding ChipsAfter
  one_chips read [] = one_function _
  one_chips read (chip ∷ chips) = one_both _ _ (one_chip chip) (λ source. one_chips (read ++ source ∷ []) chips)

  one_script : (script : Option (List ℕ)) → IsOneReading (ScriptIn script)
  one_script None = one_function _
  one_script (Some name) = one_file name script_of

  one_wave : (wave : Option (List ℕ)) → IsOneReading (WaveIn wave)
  one_wave None = one_function _
  one_wave (Some name) = one_within 16777216 name (λ bytes. Ok bytes)

  -- it is read alike where another file is not there
  pub steady_work : IsSteady (WorkIn folder script wave)
  steady_work =
      steady_both _ _ (steady_file _ project_text) (λ project.
      steady_both _ _ (steady_file _ hex_image) (λ flash.
      steady_both _ _ (steady_file _ drawn) (λ diagram.
      steady_both _ _ (steady_chips folder [] project.chips) (λ chips.
      steady_both _ _ (steady_script script) (λ rows.
      steady_both _ _ (steady_wave wave) (λ bytes.
      steady_both _ _ (steady_rule _) (λ plan. steady_rule _)))))))

  pub one_work : IsOneReading (WorkIn folder script wave)
  one_work =
      one_both _ _ (one_file _ project_text) (λ project.
      one_both _ _ (one_file _ hex_image) (λ flash.
      one_both _ _ (one_file _ drawn) (λ diagram.
      one_both _ _ (one_chips [] project.chips) (λ chips.
      one_both _ _ (one_script script) (λ rows.
      one_both _ _ (one_wave wave) (λ bytes.
      one_both _ _ (one_function _) (λ plan. one_function _)))))))

module _ (folder : List ℕ) where
  -- the answer to `check`
  abbrev texts_by : Work → Texts
  texts_by work = accepted

  pub one_check : IsOne (CheckAnswer folder)
  unfolding CheckAnswer
  one_check = one_answer (WorkIn folder None None) texts_by (one_work folder None None)

  pub check_answer : (told : Option Files) (work : Work) → IfSome told (λ files. WorkIn folder None None files (Ok work)) → IfSome told (λ files. CheckAnswer folder files (Ok accepted))
  unfolding CheckAnswer
  check_answer = answered (WorkIn folder None None) texts_by

  pub check_stops : (o : Outcome) (a b : Outside) → ReadStops o (WorkIn folder None None) a b → SamePorts a b → Ends (CheckAnswer folder) o a b
  unfolding CheckAnswer
  check_stops = answer_stops (WorkIn folder None None) texts_by

  pub check_only : (files : Files) (t : Texts) → CheckAnswer folder files (Ok t) → t ≡ accepted
  unfolding CheckAnswer
  check_only files t e = only_texts (WorkIn folder None None) texts_by accepted (λ work. refl) files t e
