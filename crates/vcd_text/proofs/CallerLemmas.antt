-- What whoever lent a bench to a writer knows of it, once the run is over.
use Rattle.std.proofs.Common.{◌≡◌, ℕ, List, [], ◌∷◌, ◌++◌, Bool, true, false, None, refl, ap, sym, subst, ◌∙◌}
use Rattle.std.specs.Prelude.{IsSome}
use Rattle.std.proofs.lemmas.List.{append_assoc}
use Rattle.sim_base.specs.declared.bench.Port.{Port}
use Rattle.sim_base.specs.declared.bench.Port.TheVariants as ports
use Rattle.sim_base.specs.Outside.{Outside, IsFront}
use Rattle.sim_base.specs.Rows.{Row, StopsWithin}
use Rattle.text_model.specs.Wave.{Variable, values, head, initial_values, value_changes, later_text, begun_text, time_line, wave_text}
use Rattle.vcd_text.specs.declared.writer.WaveWriter.{WaveWriter}
use Rattle.vcd_text.specs.Ports.{texts, BeginsOn, BreaksOff}
use Rattle.vcd_text.specs.Writers.{Tied, texts_of, place_of, outside_of, last_values, Stands, HasStopped}

later_split : (vs : List Variable) (before : List ℕ) (rows more : List Row) →
    later_text vs before (rows ++ more) ≡ later_text vs before rows ++ later_text vs (last_values vs before rows) more
unfolding later_text
later_split vs before [] more = refl
later_split vs before (r ∷ rows) more =
    ap (λ (l : List ℕ). value_changes r.cycle before (values vs r) ++ l) (later_split vs (values vs r) rows more)
    ∙ sym (append_assoc (value_changes r.cycle before (values vs r)) (later_text vs (values vs r) rows) (later_text vs (last_values vs (values vs r) rows) more))

-- the text of the first rows is a first part of the wave
pub begun_front : (vs : List Variable) (rows more all : List Row) (n : ℕ) → rows ++ more ≡ all → IsFront (begun_text vs rows) (wave_text vs all n)
unfolding begun_text later_text
begun_front vs [] more all n e = record { rest = wave_text vs all n; whole = refl }
begun_front vs (r ∷ rows) more all n e =
    let begun : List ℕ = head vs ++ initial_values r.cycle (values vs r) in
    let rest : List ℕ = later_text vs (last_values vs (values vs r) rows) more in
    record {
      rest = rest ++ time_line n;
      whole = sym (append_assoc (begun ++ later_text vs (values vs r) rows) rest (time_line n))
          ∙ ap (λ (l : List ℕ). l ++ time_line n)
          (append_assoc begun (later_text vs (values vs r) rows) rest
          ∙ ap (λ (l : List ℕ). begun ++ l) (sym (later_split vs (values vs r) rows more))
          ∙ ap (begun_text vs) e);
    }

front_of : (a b c : List ℕ) → IsFront a b → IsFront b c → IsFront a c
front_of a b c p q = record {
  rest = p.rest ++ q.rest;
  whole = sym (append_assoc a p.rest q.rest) ∙ ap (λ (l : List ℕ). l ++ q.rest) p.whole ∙ q.whole;
}

begins : (wave serial : Bool) (t u s v : List ℕ) (a b : Outside) → IsFront t u → IsFront s v → BreaksOff (texts wave serial t s) a b → (p : Port) → BeginsOn (texts wave serial u v p) (a.written p) (b.written p)
begins true serial t u s v a b f g broke ports.Wave = let w = broke.written ports.Wave in (w.0, front_of w.0 t u w.1 f, w.2)
begins false serial t u s v a b f g broke ports.Wave = broke.written ports.Wave
begins wave true t u s v a b f g broke ports.Serial = let w = broke.written ports.Serial in (w.0, front_of w.0 s v w.1 g, w.2)
begins wave false t u s v a b f g broke ports.Serial = broke.written ports.Serial
begins wave serial t u s v a b f g broke ports.Report = broke.written ports.Report
begins wave serial t u s v a b f g broke ports.Complaint = broke.written ports.Complaint

same_wanted : (wave serial : Bool) (t u s v : List ℕ) (p : Port) → texts wave serial u v p ≡ None → texts wave serial t s p ≡ None
same_wanted true serial t u s v ports.Wave e = cc
same_wanted false serial t u s v ports.Wave e = refl
same_wanted wave true t u s v ports.Serial e = cc
same_wanted wave false t u s v ports.Serial e = refl
same_wanted wave serial t u s v ports.Report e = refl
same_wanted wave serial t u s v ports.Complaint e = refl

some_wanted : (wave serial : Bool) (t u s v : List ℕ) (p : Port) → IsSome (texts wave serial t s p) → IsSome (texts wave serial u v p)
some_wanted true serial t u s v ports.Wave i = refl
some_wanted false serial t u s v ports.Wave i = i
some_wanted wave true t u s v ports.Serial i = refl
some_wanted wave false t u s v ports.Serial i = i
some_wanted wave serial t u s v ports.Report i = i
some_wanted wave serial t u s v ports.Complaint i = i

-- what broke off within first parts broke off within the whole texts
pub breaks_within : (wave serial : Bool) (t u s v : List ℕ) (a b : Outside) → IsFront t u → IsFront s v → BreaksOff (texts wave serial t s) a b → BreaksOff (texts wave serial u v) a b
breaks_within wave serial t u s v a b f g broke = record {
  files = broke.files;
  name = broke.name;
  opened = broke.opened;
  reads = broke.reads;
  written = begins wave serial t u s v a b f g broke;
  faults = broke.faults;
  alone = λ p e. broke.alone p (same_wanted wave serial t u s v p e);
  rose = (broke.rose.0, some_wanted wave serial t u s v broke.rose.0 broke.rose.1, broke.rose.2);
}

-- A run that stopped within rows and bytes has left first parts of their texts.
pub stopped_within : {B : Type 0} (outside : B → Outside) (old new : WaveWriter B) (rows : List Row) (bytes : List ℕ) (n : ℕ) →
    Stands outside old [] [] → place_of outside new ≡ place_of outside old → StopsWithin (Stands outside old) (HasStopped outside new) rows bytes →
    BreaksOff (texts_of (place_of outside old) (wave_text (place_of outside old).variables rows n) bytes) (place_of outside old).start (outside_of outside new)
stopped_within outside old new rows bytes n stood same (r, b, fronts, appended) =
    let P : Tied → Type 0 = λ tied. BreaksOff (texts_of tied (wave_text tied.variables rows n) bytes) tied.start (outside_of outside new) in
    subst P same
    (breaks_within new.wave new.serial (begun_text new.head.now.variables r) (wave_text new.head.now.variables rows n) b bytes (outside new.start.now.value) (outside_of outside new)
    (begun_front new.head.now.variables r fronts.more_rows rows n fronts.whole_rows)
    (record { rest = fronts.more_bytes; whole = fronts.whole_bytes })
    (appended [] [] stood))
