-- What was said, and what broke off.
use Rattle.std.proofs.Common.{◌≡◌, ◌∙◌, ℕ, List, [], ◌∷◌, ◌++◌, Bool, true, false, Option, None, Some, refl, ap, sym, append_assoc}
use Rattle.std.proofs.lemmas.List.{append-nil}
use Rattle.sim_base.specs.declared.bench.Port.{Port}
use Rattle.sim_base.specs.declared.bench.Port.TheVariants as ports
use Rattle.sim_base.specs.Outside.{Outside, Grows, IsFront}
use Rattle.sim_base.specs.Rows.{Row}
use Rattle.text_model.specs.Wave.{Variable, values, head, initial_values, value_changes, later_text, begun_text}
use Rattle.vcd_text.specs.Ports.{texts, IsOn, BreaksOff}
use Rattle.vcd_text.specs.Writers.{WriterState, StandsBy, last_values}
use Rattle.vcd_text.proofs.CallerLemmas.{breaks_within}
use Rattle.live_leg.specs.Said.{HasSaid}

grown_on : (o m n : Option (List ℕ)) (t u : List ℕ) → Grows o m t → Grows o n (t ++ u) → Grows m n u
grown_on None m n t u p q = rw (q, p) refl
grown_on (Some x) m n t u p q = rw (q, p) (ap (λ (l : List ℕ). Some l) (sym (append_assoc x t u)))

-- what was said between
pub said_on : (a b c : Outside) (t u : List ℕ) → HasSaid a b t → HasSaid a c (t ++ u) → HasSaid b c u
said_on a b c t u p q = grown_on (a.written ports.Serial) (b.written ports.Serial) (c.written ports.Serial) t u p q

-- nothing was said between
pub said_none : (a b c : Outside) (t : List ℕ) → HasSaid a b t → HasSaid a c t → c.written ports.Serial ≡ b.written ports.Serial
said_none a b c t p q = q ∙ sym p

-- what was said before, where nothing was said between
pub said_still : (a b c : Outside) (t : List ℕ) → HasSaid a b t → c.written ports.Serial ≡ b.written ports.Serial → HasSaid a c t
said_still a b c t p q = q ∙ p

on_serial : (wave serial : Bool) (gone text : List ℕ) (a b : Outside) → serial ≡ true → ((p : Port) → IsOn (texts wave serial gone text p) (a.written p) (b.written p)) → HasSaid a b text
on_serial wave true gone text a b e on = on ports.Serial
on_serial wave false gone text a b e on = absurd cc

swapped : (wave serial : Bool) (gone text said : List ℕ) (a b : Outside) → serial ≡ true → HasSaid a b said → ((p : Port) → IsOn (texts wave serial gone text p) (a.written p) (b.written p)) →
    (p : Port) → IsOn (texts wave serial gone said p) (a.written p) (b.written p)
swapped wave true gone text said a b e has on ports.Wave = on ports.Wave
swapped wave true gone text said a b e has on ports.Serial = has
swapped wave true gone text said a b e has on ports.Report = on ports.Report
swapped wave true gone text said a b e has on ports.Complaint = on ports.Complaint
swapped wave false gone text said a b e has on p = absurd cc

-- what a writer has said
pub stands_said : (w : WriterState) (a b : Outside) (rows : List Row) (text : List ℕ) → w.serial ≡ true → StandsBy w a b rows text → HasSaid a b text
stands_said w a b rows text e stood = on_serial w.wave w.serial stood.gone text a b e stood.leaves.written

-- whatever it has said, by the environment
pub stands_as : (w : WriterState) (a b : Outside) (rows : List Row) (text said : List ℕ) → w.serial ≡ true → HasSaid a b said → StandsBy w a b rows text → StandsBy w a b rows said
stands_as w a b rows text said e has stood = record {
  gone = stood.gone;
  kept = stood.kept;
  leaves = record {
    files = stood.leaves.files;
    name = stood.leaves.name;
    opened = stood.leaves.opened;
    reads = stood.leaves.reads;
    written = swapped w.wave w.serial stood.gone text said a b e has stood.leaves.written;
    faults = stood.leaves.faults;
  };
  none = stood.none;
  follows = stood.follows;
  changed = λ f g. absurd (let no : true ≡ false = sym e ∙ g in cc);
  sent = λ g. absurd (let no : true ≡ false = sym e ∙ g in cc);
  long = stood.long;
}

later_split : (vs : List Variable) (before : List ℕ) (rows more : List Row) →
    later_text vs before (rows ++ more) ≡ later_text vs before rows ++ later_text vs (last_values vs before rows) more
unfolding later_text
later_split vs before [] more = refl
later_split vs before (r ∷ rows) more =
    ap (λ (l : List ℕ). value_changes r.cycle before (values vs r) ++ l) (later_split vs (values vs r) rows more)
    ∙ sym (append_assoc (value_changes r.cycle before (values vs r)) (later_text vs (values vs r) rows) (later_text vs (last_values vs (values vs r) rows) more))

-- the text of first rows is a first part of the text of all
pub begun_within : (vs : List Variable) (rows more all : List Row) → rows ++ more ≡ all → IsFront (begun_text vs rows) (begun_text vs all)
unfolding begun_text later_text
begun_within vs [] more all e = record { rest = begun_text vs all; whole = refl }
begun_within vs (r ∷ rows) more all e =
    let begun : List ℕ = head vs ++ initial_values r.cycle (values vs r) in
    let rest : List ℕ = later_text vs (last_values vs (values vs r) rows) more in
    record {
      rest = rest;
      whole = append_assoc begun (later_text vs (values vs r) rows) rest
          ∙ ap (λ (l : List ℕ). begun ++ l) (sym (later_split vs (values vs r) rows more))
          ∙ ap (begun_text vs) e;
    }

whole_front : (text : List ℕ) → IsFront text text
whole_front text = record { rest = []; whole = append-nil text }

-- what broke off within first rows broke off within all
pub broke_within : (wave : Bool) (vs : List Variable) (rows more all : List Row) (said : List ℕ) (a b : Outside) → rows ++ more ≡ all → BreaksOff (texts wave true (begun_text vs rows) said) a b → BreaksOff (texts wave true (begun_text vs all) said) a b
broke_within wave vs rows more all said a b e broke = breaks_within wave true (begun_text vs rows) (begun_text vs all) said said a b (begun_within vs rows more all e) (whole_front said) broke
