-- What a writer stands for, one call further.
use Rattle.std.proofs.Common.{◌≡◌, ◌+◌, ◌-◌, ◌≤◌, length, nat_le, ℕ, List, [], ◌∷◌, ◌++◌, Bool, true, false, not, ◌&&◌, ◌||◌, Option, None, Some, refl, ap, sym, ◌∙◌, arith}
use Rattle.std.specs.Prelude.{IsSome}
use Rattle.std.proofs.lemmas.Bool.Decides.{nat_tests}
use Rattle.std.proofs.lemmas.List.{append_assoc, append-nil, length-append}
use Rattle.sim_base.specs.declared.bench.Port.{Port}
use Rattle.sim_base.specs.declared.bench.Port.TheVariants as ports
use Rattle.sim_base.specs.declared.bench.WriteEnd.{WriteEnd}
use Rattle.sim_base.specs.declared.bench.WriteEnd.TheVariants as writes
use Rattle.sim_base.specs.Causes.{Rose}
use Rattle.sim_base.specs.Outside.{Outside, Grows, IsFront}
use Rattle.sim_base.specs.Rows.{Row}
use Rattle.text_model.specs.Wave.{Variable, values, head, initial_values, value_changes, change_count, later_text, begun_text, later_count, wave_count}
use Rattle.vcd_text.specs.Heads.{HeadState, gathered, row_text, after_row, changed_by}
use Rattle.vcd_text.specs.Ports.{texts, IsOn, BeginsOn, Leaves, BreaksOff, Writes}
use Rattle.vcd_text.specs.Writers.{last_values, IsAfter, looks_at_rows, capped}

later_push : (vs : List Variable) (before : List ℕ) (rows : List Row) (row : Row) →
    later_text vs before (rows ++ row ∷ []) ≡ later_text vs before rows ++ value_changes row.cycle (last_values vs before rows) (values vs row)
unfolding later_text
later_push vs before [] row = append-nil (value_changes row.cycle before (values vs row))
later_push vs before (r ∷ rows) row =
    ap (λ (l : List ℕ). value_changes r.cycle before (values vs r) ++ l) (later_push vs (values vs r) rows row)
    ∙ sym (append_assoc (value_changes r.cycle before (values vs r)) (later_text vs (values vs r) rows) (value_changes row.cycle (last_values vs (values vs r) rows) (values vs row)))

-- the text of one row more
pub begun_more : (s : HeadState) (rows : List Row) (row : Row) → IsAfter s rows →
    begun_text s.variables (rows ++ row ∷ []) ≡ begun_text s.variables rows ++ row_text s row
unfolding begun_text later_text
begun_more s [] row fresh = rw fresh (append-nil (head s.variables ++ initial_values row.cycle (values s.variables row)))
begun_more s (r ∷ rows) row (begun, kept) =
    rw (begun, kept)
    (ap (λ (l : List ℕ). head s.variables ++ initial_values r.cycle (values s.variables r) ++ l) (later_push s.variables (values s.variables r) rows row)
    ∙ sym (append_assoc (head s.variables ++ initial_values r.cycle (values s.variables r)) (later_text s.variables (values s.variables r) rows) (value_changes row.cycle (last_values s.variables (values s.variables r) rows) (values s.variables row))))

last_push : (vs : List Variable) (before : List ℕ) (rows : List Row) (row : Row) → last_values vs before (rows ++ row ∷ []) ≡ values vs row
last_push vs before [] row = refl
last_push vs before (r ∷ rows) row = last_push vs (values vs r) rows row

pub after_more : (s : HeadState) (rows : List Row) (row : Row) → IsAfter (after_row s row) (rows ++ row ∷ [])
after_more s [] row = (refl, refl)
after_more s (r ∷ rows) row = (refl, sym (last_push s.variables (values s.variables r) rows row))

later_count_push : (vs : List Variable) (before : List ℕ) (rows : List Row) (row : Row) →
    later_count vs before (rows ++ row ∷ []) ≡ later_count vs before rows + change_count (last_values vs before rows) (values vs row)
unfolding later_count
later_count_push vs before [] row = omega arith
later_count_push vs before (r ∷ rows) row = omega (arith, later_count_push vs (values vs r) rows row)

-- the value changes of one row more
pub count_push : (s : HeadState) (rows : List Row) (row : Row) → IsAfter s rows →
    wave_count s.variables (rows ++ row ∷ []) ≡ wave_count s.variables rows + changed_by s row
unfolding wave_count later_count
count_push s [] row fresh = rw fresh refl
count_push s (r ∷ rows) row (begun, kept) = rw (begun, kept) (later_count_push s.variables (values s.variables r) rows row)

le_true : (n m : ℕ) → n ≤ m → nat_le n m ≡ true
le_true n m h = grind (arith, nat_tests, h)

true_le : (n m : ℕ) → nat_le n m ≡ true → n ≤ m
true_le n m h = grind (arith, nat_tests, h)

and_true : (a b : Bool) → (a && b) ≡ true → (a && true) ≡ true
and_true true b h = refl
and_true false b h = cc

pub capped_more : (n more count : ℕ) → count ≡ capped n → capped (count + more) ≡ capped (n + more)
capped_more n more count e = omega arith

pub grows_none : (o : Option (List ℕ)) → Grows o o []
grows_none None = refl
grows_none (Some text) = ap (λ (l : List ℕ). Some l) (sym (append-nil text))

grows_on : (o m n : Option (List ℕ)) (t u : List ℕ) → Grows o m t → Grows m n u → Grows o n (t ++ u)
grows_on None m n t u p q = rw (q, p) refl
grows_on (Some text) m n t u p q = rw (q, p) (ap (λ (l : List ℕ). Some l) (append_assoc text t u))

-- a new writer has written nothing
pub leaves_nothing : (wave serial : Bool) (a : Outside) → Leaves (texts wave serial [] []) a a
leaves_nothing wave serial a = record {
  files = refl;
  name = λ p. refl;
  opened = λ p. refl;
  reads = refl;
  written = written wave serial;
  faults = λ p. refl;
}
  where
    written : (wave serial : Bool) (p : Port) → IsOn (texts wave serial [] [] p) (a.written p) (a.written p)
    written true serial ports.Wave = grows_none (a.written ports.Wave)
    written false serial ports.Wave = refl
    written wave true ports.Serial = grows_none (a.written ports.Serial)
    written wave false ports.Serial = refl
    written wave serial ports.Report = refl
    written wave serial ports.Complaint = refl

wave_on : (wave serial : Bool) (t u bytes : List ℕ) (a m b : Outside) → Leaves (texts wave serial t bytes) a m → Leaves (texts wave false u []) m b → (p : Port) → IsOn (texts wave serial (t ++ u) bytes p) (a.written p) (b.written p)
wave_on true serial t u bytes a m b p q ports.Wave = grows_on (a.written ports.Wave) (m.written ports.Wave) (b.written ports.Wave) t u (p.written ports.Wave) (q.written ports.Wave)
wave_on false serial t u bytes a m b p q ports.Wave = q.written ports.Wave ∙ p.written ports.Wave
wave_on wave true t u bytes a m b p q ports.Serial = q.written ports.Serial ∙ p.written ports.Serial
wave_on wave false t u bytes a m b p q ports.Serial = q.written ports.Serial ∙ p.written ports.Serial
wave_on wave serial t u bytes a m b p q ports.Report = q.written ports.Report ∙ p.written ports.Report
wave_on wave serial t u bytes a m b p q ports.Complaint = q.written ports.Complaint ∙ p.written ports.Complaint

-- where rows are not looked at, Wave gets nothing, whatever their text
pub unseen_wave : (wave serial : Bool) (t u bytes : List ℕ) (a b : Outside) → looks_at_rows wave serial ≡ false → Leaves (texts wave serial t bytes) a b → Leaves (texts wave serial u bytes) a b
unseen_wave true serial t u bytes a b blind h = absurd cc
unseen_wave false serial t u bytes a b blind h = record { files = h.files; name = h.name; opened = h.opened; reads = h.reads; written = written serial h; faults = h.faults }
  where
    written : (serial : Bool) → Leaves (texts false serial t bytes) a b → (p : Port) → IsOn (texts false serial u bytes p) (a.written p) (b.written p)
    written serial h ports.Wave = h.written ports.Wave
    written true h ports.Serial = h.written ports.Serial
    written false h ports.Serial = h.written ports.Serial
    written serial h ports.Report = h.written ports.Report
    written serial h ports.Complaint = h.written ports.Complaint

pub both_ways : (wave serial : Bool) → looks_at_rows wave serial ≡ true → looks_at_rows wave serial ≡ false → ⊥
both_ways true serial e f = cc
both_ways false true e f = cc
both_ways false false e f = cc

-- where neither is wanted, rows are looked at
pub counts_look : (wave serial : Bool) → looks_at_rows wave serial ≡ false → wave ≡ false → serial ≡ false → ⊥
counts_look true serial e f h = cc
counts_look false true e f h = cc
counts_look false false e f h = cc

-- more of the wave is written
pub leaves_more : (wave serial : Bool) (t u bytes : List ℕ) (a m b : Outside) → Leaves (texts wave serial t bytes) a m → Leaves (texts wave false u []) m b → Leaves (texts wave serial (t ++ u) bytes) a b
leaves_more wave serial t u bytes a m b p q = record {
  files = q.files ∙ p.files;
  name = λ port. q.name port ∙ p.name port;
  opened = λ port. q.opened port ∙ p.opened port;
  reads = q.reads ∙ p.reads;
  written = wave_on wave serial t u bytes a m b p q;
  faults = λ port. q.faults port ∙ p.faults port;
}

pub whole_front : (t : List ℕ) → IsFront t t
whole_front t = record { rest = []; whole = append-nil t }

front_on : (t u front : List ℕ) → IsFront front u → IsFront (t ++ front) (t ++ u)
front_on t u front f = record { rest = f.rest; whole = append_assoc t front f.rest ∙ ap (λ (l : List ℕ). t ++ l) f.whole }

wave_begins : (wave serial : Bool) (t u bytes : List ℕ) (a m b : Outside) → Leaves (texts wave serial t bytes) a m → BreaksOff (texts wave false u []) m b → (p : Port) → BeginsOn (texts wave serial (t ++ u) bytes p) (a.written p) (b.written p)
wave_begins true serial t u bytes a m b p q ports.Wave =
    let more = q.written ports.Wave in
    (t ++ more.0, front_on t u more.0 more.1, grows_on (a.written ports.Wave) (m.written ports.Wave) (b.written ports.Wave) t more.0 (p.written ports.Wave) more.2)
wave_begins false serial t u bytes a m b p q ports.Wave = q.written ports.Wave ∙ p.written ports.Wave
wave_begins wave true t u bytes a m b p q ports.Serial = (bytes, whole_front bytes, q.written ports.Serial ∙ p.written ports.Serial)
wave_begins wave false t u bytes a m b p q ports.Serial = q.written ports.Serial ∙ p.written ports.Serial
wave_begins wave serial t u bytes a m b p q ports.Report = q.written ports.Report ∙ p.written ports.Report
wave_begins wave serial t u bytes a m b p q ports.Complaint = q.written ports.Complaint ∙ p.written ports.Complaint

wave_alone : (wave serial : Bool) (t u bytes : List ℕ) (p : Port) → texts wave serial (t ++ u) bytes p ≡ None → texts wave false u [] p ≡ None
wave_alone true serial t u bytes ports.Wave e = cc
wave_alone false serial t u bytes ports.Wave e = refl
wave_alone wave serial t u bytes ports.Serial e = refl
wave_alone wave serial t u bytes ports.Report e = refl
wave_alone wave serial t u bytes ports.Complaint e = refl

wave_wanted : (wave serial : Bool) (t u bytes : List ℕ) (p : Port) → IsSome (texts wave false u [] p) → IsSome (texts wave serial (t ++ u) bytes p)
wave_wanted true serial t u bytes ports.Wave i = i
wave_wanted false serial t u bytes ports.Wave i = cc
wave_wanted wave serial t u bytes ports.Serial i = cc
wave_wanted wave serial t u bytes ports.Report i = cc
wave_wanted wave serial t u bytes ports.Complaint i = cc

rose_from : (x y z : ℕ) → y ≡ x → Rose y z → Rose x z
rose_from x y z e r = rw (sym e) r

-- a write of more of the wave fails
pub breaks_off : (wave serial : Bool) (t u bytes : List ℕ) (a m b : Outside) → Leaves (texts wave serial t bytes) a m → BreaksOff (texts wave false u []) m b → BreaksOff (texts wave serial (t ++ u) bytes) a b
breaks_off wave serial t u bytes a m b p q = record {
  files = q.files ∙ p.files;
  name = λ port. q.name port ∙ p.name port;
  opened = λ port. q.opened port ∙ p.opened port;
  reads = q.reads ∙ p.reads;
  written = wave_begins wave serial t u bytes a m b p q;
  faults = λ port. (let e = p.faults port in let h = q.faults port in omega (arith, e, h));
  alone = λ port e. q.alone port (wave_alone wave serial t u bytes port e) ∙ p.faults port;
  rose = (q.rose.0, wave_wanted wave serial t u bytes q.rose.0 q.rose.1, rose_from (a.faults q.rose.0) (m.faults q.rose.0) (b.faults q.rose.0) (p.faults q.rose.0) q.rose.2);
}

-- the sum of the counts rises with that of Wave
pub sum_rose : (wave : Bool) (u : List ℕ) (m b : Outside) → BreaksOff (texts wave false u []) m b →
    Rose (m.faults ports.Wave + m.faults ports.Serial) (b.faults ports.Wave + b.faults ports.Serial)
sum_rose wave u m b q = risen wave q.rose.0 q.rose.1 q.rose.2
  where
    risen : (wave : Bool) (p : Port) → IsSome (texts wave false u [] p) → Rose (m.faults p) (b.faults p) → Rose (m.faults ports.Wave + m.faults ports.Serial) (b.faults ports.Wave + b.faults ports.Serial)
    risen true ports.Wave i r = let h = q.faults ports.Serial in omega (arith, h, r)
    risen false ports.Wave i r = cc
    risen wave ports.Serial i r = cc
    risen wave ports.Report i r = cc
    risen wave ports.Complaint i r = cc

-- a writer whose call answered Ok is whole as before
pub whole_still : (w now wanted before still : Bool) (n m : ℕ) → now ≡ true → still ≡ before → m ≤ gathered → (w && ((not wanted || before) && nat_le n gathered)) ≡ true → (now && ((not wanted || still) && nat_le m gathered)) ≡ true
whole_still true now wanted before still n m e f less h = rw (e, f, le_true m gathered less) (and_true (not wanted || before) (nat_le n gathered) h)
whole_still false now wanted before still n m e f less h = cc

-- a whole writer has room for a row
pub whole_room : (w opened : Bool) (n : ℕ) → (w && (opened && nat_le n gathered)) ≡ true → n ≤ gathered
whole_room true true n h = true_le n gathered h
whole_room true false n h = cc
whole_room false opened n h = cc

-- the count of changes that are not written, one row more
pub changed_more : (s : HeadState) (rows : List Row) (row : Row) (count more : ℕ) → IsAfter s rows → more ≡ changed_by s row → count ≡ capped (wave_count s.variables rows) → capped (count + more) ≡ capped (wave_count s.variables (rows ++ row ∷ []))
changed_more s rows row count more follows e f =
    capped_more (wave_count s.variables rows) more count f
    ∙ ap (λ (n : ℕ). capped (wave_count s.variables rows + n)) e
    ∙ ap capped (sym (count_push s rows row follows))

-- what has gone and what is kept are the text of one row more
pub kept_more : (s h k : HeadState) (rows : List Row) (row : Row) (gone more : List ℕ) → h ≡ after_row s row → k ≡ record h { text = k.text } → more ++ k.text ≡ h.text → IsAfter s rows →
    gone ++ s.text ≡ begun_text s.variables rows → (gone ++ more) ++ k.text ≡ begun_text k.variables (rows ++ row ∷ [])
kept_more s h k rows row gone more e f split follows kept =
    append_assoc gone more k.text
    ∙ ap (λ (l : List ℕ). gone ++ l) (split ∙ ap (λ (x : HeadState). x.text) e)
    ∙ sym (append_assoc gone s.text (row_text s row))
    ∙ ap (λ (l : List ℕ). l ++ row_text s row) kept
    ∙ sym (begun_more s rows row follows)
    ∙ ap (λ (vs : List Variable). begun_text vs (rows ++ row ∷ [])) (sym (ap (λ (x : HeadState). x.variables) f ∙ ap (λ (x : HeadState). x.variables) e))

-- the kept text comes behind rows as they were
pub after_still : (s h k : HeadState) (rows : List Row) (row : Row) → h ≡ after_row s row → k ≡ record h { text = k.text } → IsAfter k (rows ++ row ∷ [])
after_still s h k rows row e f = rw (f, e) (after_more s rows row)

-- more of the wave is written, whatever the answer
pub writes_more : (end : WriteEnd) (wave serial : Bool) (t u bytes : List ℕ) (a m b : Outside) → Leaves (texts wave serial t bytes) a m → Writes end (texts wave false u []) m b → Writes end (texts wave serial (t ++ u) bytes) a b
writes_more writes.Ok = leaves_more
writes_more writes.Failed = breaks_off

-- the length of the text, one row more
pub text_longer : (s h : HeadState) (rows : List Row) (row : Row) (count longer : ℕ) → h ≡ after_row s row → IsAfter s rows → count ≡ capped (length (begun_text s.variables rows)) → longer ≡ length h.text - length s.text →
    capped (count + longer) ≡ capped (length (begun_text h.variables (rows ++ row ∷ [])))
text_longer s h rows row count longer e follows long is =
    let sum : length h.text ≡ length s.text + length (row_text s row) = ap (λ (x : HeadState). length x.text) e ∙ length-append s.text (row_text s row) in
    let more : longer ≡ length (row_text s row) = omega (arith, sum, is) in
    let all : length (begun_text s.variables (rows ++ row ∷ [])) ≡ length (begun_text s.variables rows) + length (row_text s row) =
    ap length (begun_more s rows row follows) ∙ length-append (begun_text s.variables rows) (row_text s row) in
    let same : length (begun_text h.variables (rows ++ row ∷ [])) ≡ length (begun_text s.variables (rows ++ row ∷ [])) =
    ap (λ (x : HeadState). length (begun_text x.variables (rows ++ row ∷ []))) e in
    capped_more (length (begun_text s.variables rows)) longer count long ∙ ap capped (ap (λ (n : ℕ). length (begun_text s.variables rows) + n) more ∙ sym all ∙ sym same)
