-- What was read of a folder without a script, and that twins have one plan.
use Rattle.cli_twin.proofs.Common.{◌≡◌, ◌∙◌, ◌+◌, ℕ, suc, List, [], ◌∷◌, length, map, replicate, set, Bool, true, false, Option, None, Some, Result, Ok, Err}
use Rattle.cli_twin.proofs.Common.{refl, ap, sym, subst, if◌then◌else◌, nat_lt, drop, position_from, option_map, bytes_eq, length-map, length-replicate}
use Rattle.cli_twin.proofs.Common.{length-set, Input, Files, ChipFile, Stop, file_within, read_from, refused_in, Reading, Is, IsFile, Then, ChipSource}
use Rattle.cli_twin.proofs.Common.{pins_of, PlanKind, Plan, is_plan, Work, WorkIn, BehindProject, BehindFirmware, BehindDiagram, BehindChips, BehindScript}
use Rattle.cli_twin.proofs.Common.{ChipsAfter, PlanIn, ScriptIn, WaveIn, by_rule, diagram_name, drawn, in_folder, with_bytes, names_of}
use Rattle.std.specs.FinMap.{get}
use Rattle.sim_base.specs.declared.fault.Refusal.{Refusal}
use Rattle.sim_base.specs.declared.fault.Place.TheVariants as places
use Rattle.sim_refusals.specs.Refusals.{TypeUnknown}
use Rattle.text_model.specs.Hex.{Verdict, Passed, Data, Base, End, Faulty, after, hex_image, image_of, put, verdict}
use Rattle.text_model.specs.Lines.{lines}
use Rattle.part_catalog.specs.declared.kind.Kind.{Kind}
use Rattle.part_catalog.specs.Kinds.{named_kind}
use Rattle.document_model.specs.declared.project.Project.{Project}
use Rattle.document_model.specs.declared.diagram.Diagram.{Diagram}
use Rattle.document_model.specs.declared.diagram.PartText.{PartText}
use Rattle.document_model.specs.Diagram.{diagram_text}
use Rattle.document_model.specs.Project.{project_text}
use Rattle.document_model.specs.Reading.{◌>>=◌, each_from, refusal}
use Rattle.document_model.proofs.LimitLemmas.{few_parts}
use Rattle.input_texts.specs.declared.script.ScriptRow.{ScriptRow}
use Rattle.board_build.specs.declared.plan.PlanKind.TheVariants as plans
use Rattle.board_build.specs.Parts.{chosen, is_chip_type, kind_of_part, ids_from}
use Rattle.board_build.specs.Plan.{plan_in, plan_of}

-- where two readings give something, each does
pub both_given : {X Y : Type 0} (first : Reading X) (next : X → Reading Y) (files : Files) (y : Y) → Then first next files (Ok y) → (x : X) × first files (Ok x) × next x files (Ok y)
both_given {Y = Y} first next files y (Ok x, e, g) = (x, e, g)
both_given {Y = Y} first next files y (Err s, e, g) = let bad : ◌≡◌ {A = Result Y Stop} (Err s) (Ok y) = g in absurd (cc)

-- a file that gives something has bytes that are read so
file_given : {X : Type 0} (limit : ℕ) (name : List ℕ) (reading : List ℕ → Result X Refusal) (files : Files) (x : X) → file_within limit files name reading ≡ Ok x →
    (bytes : List ℕ) × (reading bytes ≡ Ok x)
file_given {X = X} limit name reading files x e = from (get files name) e
  where
    within : (bytes : List ℕ) (r : Result X Refusal) → refused_in name r ≡ Ok x → r ≡ Ok x
    within bytes (Ok y) e = let same : y ≡ x = cc in ap Ok same
    within bytes (Err r) e = absurd cc

    short : (long : Bool) (s : Stop) (bytes : List ℕ) → (if long then Err s else refused_in name (reading bytes)) ≡ Ok x → reading bytes ≡ Ok x
    short true s bytes e = absurd cc
    short false s bytes e = within bytes (reading bytes) e

    from : (told : Option (List ℕ)) → read_from name limit reading told ≡ Ok x → (bytes : List ℕ) × (reading bytes ≡ Ok x)
    from None e = absurd cc
    from (Some bytes) e = (bytes, short (nat_lt limit (length bytes)) _ bytes e)

-- an image of the flash is as long as the erased one
put_long : (image : List ℕ) (address : ℕ) (bytes : List ℕ) → length (put image address bytes) ≡ length image
put_long image address [] = refl
put_long image address (b ∷ bytes) = put_long (set image address b) (suc address) bytes ∙ length-set image address b

after_long : (v : Verdict) (image : List ℕ) (base k : ℕ) (on : List ℕ → ℕ → Result (List ℕ) Refusal) (f : List ℕ) →
    ((next : List ℕ) (base : ℕ) → on next base ≡ Ok f → length f ≡ length next) → after v image base k on ≡ Ok f → length f ≡ length image
after_long Passed image base k on f further e = further image base e
after_long (Data address bytes) image base k on f further e = further (put image address bytes) base e ∙ put_long image address bytes
after_long (Base next) image base k on f further e = further image next e
after_long End image base k on f further e = let same : image ≡ f = cc in ap (λ (l : List ℕ). length l) (sym same)
after_long (Faulty number) image base k on f further e = absurd cc

image_long : (image : List ℕ) (base k : ℕ) (ls : List (List ℕ)) (f : List ℕ) → image_of image base k ls ≡ Ok f → length f ≡ length image
unfolding image_of
image_long image base k [] f e = absurd cc
image_long image base k (line ∷ rest) f e =
    after_long (verdict base line) image base k (λ (image : List ℕ) (base : ℕ). image_of image base (suc k) rest) f (λ next base given. image_long next base (suc k) rest f given) e

flash_long : (text flash : List ℕ) → hex_image text ≡ Ok flash → length flash ≡ 32768
flash_long text flash e = image_long (replicate 32768 255) 0 1 (lines text) flash e ∙ length-replicate {A = ℕ} 32768 255

-- what was read
pub record WasRead (work : Work) : Type 0 where
  pub board : Diagram
  pub text : diagram_text work.diagram ≡ Ok board
  pub plan : plan_of work.project board (pins_of work.chips) [] ≡ Ok work.plan
  pub flash : length work.flash ≡ 32768

drawn_given : (bytes : List ℕ) (r : Result Diagram Refusal) (d : Diagram × List ℕ) → diagram_text bytes ≡ r → with_bytes bytes r ≡ Ok d → diagram_text d.1 ≡ Ok d.0
drawn_given bytes (Ok board) d is e =
    let same : (board, bytes) ≡ d = cc in
    subst (λ (p : Diagram × List ℕ). diagram_text p.1 ≡ Ok p.0) same is
drawn_given bytes (Err r) d is e = absurd cc

rule_given : (folder : List ℕ) (r : Result Plan Refusal) (plan : Plan) → by_rule folder None r ≡ Ok plan → r ≡ Ok plan
rule_given folder (Ok made) plan e = let same : made ≡ plan = cc in ap Ok same
rule_given folder (Err r) plan e = absurd cc

ok_same : {E X : Type 0} {x y : X} → ◌≡◌ {A = Result X E} (Ok x) (Ok y) → x ≡ y
ok_same e = cc

pub was_read : (folder : List ℕ) (files : Files) (work : Work) → WorkIn folder None None files (Ok work) → WasRead work
was_read folder files work given =
    let project = both_given (IsFile _ project_text) (BehindProject folder None None) files work given in
    let flash = both_given (IsFile (in_folder folder project.0.firmware) hex_image) (BehindFirmware folder None None project.0) files work project.2 in
    let board = both_given (IsFile (diagram_name folder) drawn) (BehindDiagram folder None None project.0 flash.0) files work flash.2 in
    let chips = both_given (ChipsAfter folder [] project.0.chips) (BehindChips folder None None project.0 flash.0 board.0) files work board.2 in
    let rows = both_given (ScriptIn None) (λ rows. Then (WaveIn None) (BehindScript folder None project.0 flash.0 board.0 chips.0 rows)) files work chips.2 in
    let wave = both_given (WaveIn None) (BehindScript folder None project.0 flash.0 board.0 chips.0 rows.0) files work rows.2 in
    let plan = both_given (PlanIn folder None project.0 board.0.0 chips.0 rows.0)
    (λ plan. Is (λ files. Ok (record { project = project.0; flash = flash.0; diagram = board.0.1; chips = chips.0; plan = plan; wave = wave.0 }))) files work wave.2 in
    let made : Work = record { project = project.0; flash = flash.0; diagram = board.0.1; chips = chips.0; plan = plan.0; wave = wave.0 } in
    let same : made ≡ work = ok_same {x = made} plan.2 in
    let image = file_given 1048576 (in_folder folder project.0.firmware) hex_image files flash.0 flash.1 in
    let text = file_given 1048576 (diagram_name folder) drawn files board.0 board.1 in
    let none : [] ≡ rows.0 = ok_same rows.1 in
    subst WasRead {x = made} same (record {
      board = board.0.0;
      text = drawn_given text.0 (diagram_text text.0) board.0 refl text.1;
      plan = rule_given folder _ plan.0
          (subst (λ (rows : List ScriptRow). by_rule folder None (plan_of project.0 board.0.0 (pins_of chips.0) rows) ≡ Ok plan.0) (sym none) plan.1);
      flash = flash_long image.0 flash.0 image.1;
    })

-- chips of the same names have the same places
place_same : (name : List ℕ) (n : ℕ) (one two : List ChipFile) → names_of one ≡ names_of two →
    position_from (λ (chip : ChipFile). bytes_eq name chip.name) n one ≡ position_from (λ (chip : ChipFile). bytes_eq name chip.name) n two
place_same name n [] [] e = refl
place_same name n [] (b ∷ two) e = absurd cc
place_same name n (a ∷ one) [] e = absurd cc
place_same name n (a ∷ one) (b ∷ two) e =
    let first : a.name ≡ b.name = cc in
    let rest : names_of one ≡ names_of two = cc in
    ap (λ (x : List ℕ). if bytes_eq name x then Some n else position_from (λ (chip : ChipFile). bytes_eq name chip.name) (n + 1) one) first
    ∙ ap (λ (o : Option ℕ). if bytes_eq name b.name then Some n else o) (place_same name (n + 1) one two rest)

module _ (one two : List ChipFile) (same : names_of one ≡ names_of two) where
  -- so parts are of the same kinds
  chosen_same : (k : ℕ) (part : PartText) (o : Option Kind) → chosen one k part o ≡ chosen two k part o
  chosen_same k part (Some kind) = refl
  chosen_same k part None =
      ap (λ (o : Option ℕ). if is_chip_type part.kind then Ok (option_map plans.Chip o) else Err (refusal TypeUnknown (places.Part k))) (place_same (drop 5 part.kind) 0 one two same)

  kinds_same : (k : ℕ) (parts : List PartText) → each_from (kind_of_part one) k parts ≡ each_from (kind_of_part two) k parts
  unfolding each_from
  kinds_same k [] = refl
  kinds_same k (part ∷ parts) =
      ap (λ (r : Result (Option PlanKind) Refusal). r >>= (λ x. each_from (kind_of_part one) (suc k) parts >>= (λ xs. Ok (x ∷ xs)))) (chosen_same k part (named_kind part.kind))
      ∙ ap (λ (r : Result (List (Option PlanKind)) Refusal). kind_of_part two k part >>= (λ x. r >>= (λ xs. Ok (x ∷ xs)))) (kinds_same (suc k) parts)

-- and boards have one plan
plan_same : (a b : Project) → names_of a.chips ≡ names_of b.chips → (board : Diagram) (pins : List (List (Option (List ℕ)))) (script : List ScriptRow) →
    plan_of a board pins script ≡ plan_of b board pins script
unfolding plan_of
plan_same a b same board pins script =
    ap (λ (r : Result (List (Option PlanKind)) Refusal). r >>= (λ found. ids_from [] 1 board.parts >>= (λ ids. plan_in board pins script found ids))) (kinds_same a.chips b.chips same 1 board.parts)

pub one_plan : (a b : Work) → names_of a.project.chips ≡ names_of b.project.chips → a.diagram ≡ b.diagram → pins_of a.chips ≡ pins_of b.chips → WasRead a → WasRead b → a.plan ≡ b.plan
one_plan a b names diagram pins was also =
    let boards : Ok was.board ≡ Ok also.board = sym was.text ∙ ap diagram_text diagram ∙ also.text in
    let plans : Ok a.plan ≡ Ok b.plan =
    sym was.plan
    ∙ plan_same a.project b.project names was.board (pins_of a.chips) []
    ∙ ap (λ (d : Diagram). plan_of b.project d (pins_of a.chips) []) (ok_same boards)
    ∙ ap (λ (p : List (List (Option (List ℕ)))). plan_of b.project also.board p []) pins
    ∙ also.plan in
    ok_same plans

-- without a script a plan has no inputs
pub no_inputs : (work : Work) → length work.chips ≡ length work.project.chips → WasRead work → work.plan.inputs ≡ []
no_inputs work each was =
    let many : length (pins_of work.chips) ≡ length work.project.chips = length-map work.chips (λ (c : ChipSource). c.pins) ∙ each in
    empty work.plan.inputs ((is_plan was.board (pins_of work.chips) [] work.project (few_parts work.diagram was.board was.text) many work.plan was.plan).1)
  where
    empty : (inputs : List Input) → map (λ (input : Input). input.cycle) inputs ≡ [] → inputs ≡ []
    empty [] e = refl
    empty (i ∷ inputs) e = absurd cc
