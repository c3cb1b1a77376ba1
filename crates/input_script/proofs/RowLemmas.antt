-- What one line adds to a script.
use Rattle.std.proofs.Common.{◌≡◌, ◌+◌, ℕ, suc, List, [], ◌∷◌, ◌++◌, length, ap, add-one, sym, ◌∙◌, refl, Result, Ok, Err, arith}
use Rattle.std.proofs.lemmas.List.{append_assoc, append-nil, length-append}
use Rattle.sim_base.specs.declared.fault.Refusal.{Refusal}
use Rattle.sim_base.specs.declared.fault.Place.TheVariants as places
use Rattle.input_texts.specs.declared.script.ScriptRow.{ScriptRow}
use Rattle.input_script.specs.declared.action.Action.{Action}
use Rattle.input_script.specs.Script.{Verdict, Passed, Acts, Faulty, verdict, after, with_rows, rows_from, row_of}

abbrev pub Reading : Type 0
Reading = Result (List ScriptRow) Refusal

module _ (rows : List ScriptRow) (last k : ℕ) (ls : List (List ℕ)) (line : List ℕ) (rest : List (List ℕ)) (all : Reading) where
  read : (v : Verdict) → with_rows rows (rows_from k last (length rows) ls) ≡ all → ls ≡ line ∷ rest → v ≡ verdict last (length rows) line →
      all ≡ with_rows rows (after v k last (length rows) (λ last count. rows_from (k + 1) last count rest))
  unfolding rows_from
  read v reads is e =
      rw (add-one k) (sym reads ∙ ap (λ (l : List (List ℕ)). with_rows rows (rows_from k last (length rows) l)) is
      ∙ ap (λ (u : Verdict). with_rows rows (after u k last (length rows) (λ (last count : ℕ). rows_from (suc k) last count rest))) (sym e))

  pub line_passed : with_rows rows (rows_from k last (length rows) ls) ≡ all → ls ≡ line ∷ rest → Passed ≡ verdict last (length rows) line →
      with_rows rows (rows_from (k + 1) last (length rows) rest) ≡ all
  line_passed reads is e = sym (read Passed reads is e)

  pub line_faulty : (number : ℕ) → with_rows rows (rows_from k last (length rows) ls) ≡ all → ls ≡ line ∷ rest → Faulty number ≡ verdict last (length rows) line →
      all ≡ Err (record { number = number; place = places.Line k })
  line_faulty number reads is e = read (Faulty number) reads is e

  two : (row : ScriptRow) (later : Reading) → with_rows (rows ++ row ∷ []) later ≡ with_rows rows (with_rows (row ∷ []) later)
  two row (Ok more) = ap Ok (append_assoc rows (row ∷ []) more)
  two row (Err r) = refl

  pub line_acts : (action : Action) → with_rows rows (rows_from k last (length rows) ls) ≡ all → ls ≡ line ∷ rest → Acts action ≡ verdict last (length rows) line →
      with_rows (rows ++ row_of k action ∷ []) (rows_from (k + 1) action.cycle (length (rows ++ row_of k action ∷ [])) rest) ≡ all
  line_acts action reads is e =
      let more : length (rows ++ row_of k action ∷ []) ≡ suc (length rows) = length-append rows (row_of k action ∷ []) ∙ omega arith in
      rw more (two (row_of k action) (rows_from (k + 1) action.cycle (suc (length rows)) rest) ∙ sym (read (Acts action) reads is e))

pub no_line : (rows : List ScriptRow) (last k : ℕ) (ls : List (List ℕ)) (all : Reading) → with_rows rows (rows_from k last (length rows) ls) ≡ all → ls ≡ [] → all ≡ Ok rows
unfolding rows_from
no_line rows last k ls all reads is =
    sym reads ∙ ap (λ (l : List (List ℕ)). with_rows rows (rows_from k last (length rows) l)) is ∙ ap Ok (append-nil rows)
