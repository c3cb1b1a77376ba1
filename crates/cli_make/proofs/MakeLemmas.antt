-- The answer to `make`, by the project that is generated.
use Rattle.std.proofs.Common.{◌≡◌, ◌∙◌, ◌*◌, ◌≤◌, ℕ, List, [], ◌∷◌, length, Some, Option, Ok, Err, refl, ap, inl, arith, IfSome}
use Rattle.std.specs.List.{concat}
use Rattle.std.proofs.lemmas.List.{append-nil}
use Rattle.sim_base.specs.declared.bench.Port.TheVariants as ports
use Rattle.sim_base.specs.declared.bench.Port.{Port}
use Rattle.sim_base.specs.Outside.{Outside, SamePorts, SameOthers, Files}
use Rattle.sim_outcome_model.specs.Stop.{Stop, Missing, Refused, Output, Texts, printed}
use Rattle.sim_outcome_model.specs.Outcome.{Outcome, Accepted, WriteFailed, OutOfMemory, Hold, Begin}
use Rattle.sim_outcome_model.specs.Work.{Reading, Is, ReadStops, RanOn, SaidNothing, IsSteady, IsOneReading}
use Rattle.sim_outcome_model.specs.Happens.{Answer, Ends}
use Rattle.sim_outcome_model.specs.Promises.{IsOne}
use Rattle.sim_outcome_model.proofs.ReadLemmas.{if_some, one_both, one_function}
use Rattle.sim_outcome_model.proofs.JudgeLemmas.{once_as}
use Rattle.sim_outcome_model.proofs.EndLemmas.{answered, answer_stops, one_answer, alone_ran, on_after, begins_after, untouched_after}
use Rattle.document_model.specs.declared.project.Project.{Project}
use Rattle.board_make.specs.Board.{chip_file, diagram, lamps_parts}
use Rattle.board_make.specs.Inverter.{inverter}
use Rattle.board_build.specs.declared.plan.Plan.{Plan}
use Rattle.chip_module.specs.declared.source.ChipSource.{ChipSource}
use Rattle.chip_module.specs.Binary.{Binary, Judges}
use Rattle.chip_module.proofs.BinaryLemmas.{one_binary, not_both, one_refusal}
use Rattle.project_model.specs.Work.{Work, in_folder}
use Rattle.vcd_text.specs.Writers.{capped}
use Rattle.project_run.specs.Counted.{run_changes}
use Rattle.project_run.specs.Run.{run_bytes, run_wakes}
use Rattle.cli_project.proofs.ProjectLemmas.{same_here}
use Rattle.cli_make.specs.Answer.{JudgedBytes, MadeIn, MakeAnswer, contents, folder, line, made_line, made_texts}

-- bytes are judged alike whatever files there are
pub steady_bytes : (name bytes : List ℕ) → IsSteady (JudgedBytes name bytes)
steady_bytes name bytes files n x e = inl e

-- bytes are worth one thing or refused once, and not both
pub one_bytes : (name bytes : List ℕ) → IsOneReading (JudgedBytes name bytes)
one_bytes name bytes = record {
  one_sided = sided;
  one_given = λ files x y e f. one_binary bytes x y e f;
  one_stop = λ files t s e f. once_as name Judges one_refusal bytes t s e f;
}
  where
    sided : (files : Files) (x : Binary) (s : Stop) → JudgedBytes name bytes files (Ok x) → JudgedBytes name bytes files (Err s) → ⊥
    sided files x (Missing n) e f = f
    sided files x (Refused n r) e f = not_both bytes x r e f.1

-- what comes behind the plan
abbrev pub with_plan : Project → List ℕ → ChipSource → Plan → Reading Work
with_plan project flash chip plan =
    Is (λ (files : Files). Ok (record { project = project; flash = flash; diagram = []; chips = chip ∷ []; plan = plan; wave = [] }))

one_made : (seed : ℕ) → IsOneReading (MadeIn seed)
one_made seed =
    one_both _ _ (one_bytes (in_folder folder chip_file.binary) inverter) (λ binary. one_both _ _ (one_function _) (λ plan. one_function _))

module _ (seed us : ℕ) where
  pub one_make : IsOne (MakeAnswer seed us)
  unfolding MakeAnswer
  one_make = one_answer (MadeIn seed) (made_texts seed (16 * us)) (one_made seed)

  pub make_answer : (told : Option Files) (work : Work) → IfSome told (λ files. MadeIn seed files (Ok work)) →
      IfSome told (λ files. MakeAnswer seed us files (Ok (made_texts seed (16 * us) work)))
  unfolding MakeAnswer
  make_answer = answered (MadeIn seed) (made_texts seed (16 * us))

  pub make_stops : (o : Outcome) (a b : Outside) → ReadStops o (MadeIn seed) a b → SamePorts a b → Ends (MakeAnswer seed us) o a b
  unfolding MakeAnswer
  make_stops = answer_stops (MadeIn seed) (made_texts seed (16 * us))

-- What happens to a request says nothing of the wakes that its texts cost.
module _ (answer : Answer) (wakes : ℕ) where
  abbrev costing : Texts → Texts
  costing t = record { serial = t.serial; wave = t.wave; report = t.report; wakes = wakes }

  -- the answer by its texts alone
  abbrev pub uncounted : Answer
  uncounted files (Ok t) = answer files (Ok (costing t))
  uncounted files (Err s) = answer files (Err s)

  held : (t : Texts) (a b : Outside) → Hold t a b → Hold (costing t) a b
  held t a b h = record { serial = h.serial; wave = h.wave; report = h.report }

  begun : (t : Texts) (a b : Outside) → Begin t a b → Begin (costing t) a b
  begun t a b h = record { serial = h.serial; wave = h.wave; report = h.report }

  pub ends_counted : (o : Outcome) (a b : Outside) → Ends uncounted o a b → Ends answer o a b
  ends_counted Accepted a b e =
      (e.0, if_some a.files _ _ (λ (files : Files) (x : (t : Texts) × uncounted files (Ok t) × Hold t a b). (costing x.0, x.1, held x.0 a b x.2)) e.1)
  ends_counted WriteFailed a b e =
      (e.0, if_some a.files _ _ (λ (files : Files) (x : (t : Texts) × uncounted files (Ok t) × Begin t a b). (costing x.0, x.1, begun x.0 a b x.2)) e.1)
  ends_counted _ a b e = e

-- the same of what happens behind calls that leave the ports alone
module _ (a m b : Outside) (same : SamePorts a m) where
  pub ran_after : (p : Port) (o : Outcome) (out : Output) → RanOn p o out m b → RanOn p o out a b
  ran_after p Accepted out ran = (on_after a m b same p (Some out) ran.0, ran.1 ∙ same.faults p)
  ran_after p WriteFailed out ran = (rw (← same.faults p) ran.0, begins_after a m b same p (Some out) ran.1)
  ran_after p OutOfMemory out ran = (untouched_after a m b same p ran.0, ran.1 ∙ same.faults p)
  ran_after p _ out ran = absurd ran

  pub others_after : (p : Port) → m.read_faults ≡ a.read_faults → SameOthers p m b → SameOthers p a b
  others_after p reads others = record {
    files = others.files ∙ same.files;
    requests = others.requests ∙ same.requests;
    written = λ q ne. others.written q ne ∙ same.written q;
    name = λ q ne. others.name q ne ∙ same.name q;
    opened = λ q ne. others.opened q ne ∙ same.opened q;
    faults = λ q ne. others.faults q ne ∙ same.faults q;
    reads = others.reads ∙ reads;
  }

-- nothing happened yet
pub nothing_ran : (p : Port) (out : Output) (a m : Outside) → SamePorts a m → RanOn p OutOfMemory out a m
nothing_ran p out a m same = (((same.written p, same.name p), same.opened p), same.faults p)

pub nothing_else : (p : Port) (a m : Outside) → SamePorts a m → m.read_faults ≡ a.read_faults → SameOthers p a m
nothing_else p a m same reads = record {
  files = same.files;
  requests = same.requests;
  written = λ q ne. same.written q;
  name = λ q ne. same.name q;
  opened = λ q ne. same.opened q;
  faults = λ q ne. same.faults q;
  reads = reads;
}

-- one part is the whole text
pub one_part : (xs : List ℕ) → concat (xs ∷ []) ≡ xs
one_part xs = append-nil xs

-- the line by what was counted
pub line_is : (seed n changes sent : ℕ) (work : Work) → changes ≡ capped (run_changes (contents work) work.plan n) →
    sent ≡ capped (length (run_bytes (contents work) work.plan n)) → line seed n changes sent ≡ made_line seed n work
line_is seed n changes sent work ec es =
    ap (λ (x : ℕ). line seed n x sent) ec ∙ ap (line seed n (capped (run_changes (contents work) work.plan n))) es

-- the work of a seed, run after nothing was read
pub made_ends : (seed us : ℕ) (work : Work) (o : Outcome) (a b : Outside) → IfSome a.files (λ files. MadeIn seed files (Ok work)) →
    RanOn ports.Report o (printed (made_line seed (16 * us) work)) a b → SameOthers ports.Report a b → Ends (MakeAnswer seed us) o a b
made_ends seed us work o a b is ran others =
    let answer : Answer = MakeAnswer seed us in
    let wakes : ℕ = run_wakes (contents work) work.plan (16 * us) in
    let out : Output = printed (made_line seed (16 * us) work) in
    ends_counted answer wakes o a b
    (alone_ran (uncounted answer wakes) a a b refl (same_here a) o out (make_answer seed us a.files work is) ran others)

pub made_silent : (a b : Outside) → SameOthers ports.Report a b → SaidNothing a b
made_silent a b others = (others.written ports.Complaint (λ e. cc), others.faults ports.Complaint (λ e. cc))

few : (seed : ℕ) → length (diagram seed).parts ≡ 20
unfolding lamps_parts
few seed = refl

-- the board has at most 64 parts
pub few_parts : (seed : ℕ) → length (diagram seed).parts ≤ 64
few_parts seed = let n = few seed in omega (arith, n)
