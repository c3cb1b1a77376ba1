-- What the calls of a bench in memory leave of the environment.
use Rattle.std.proofs.Common.{◌≡◌, ℕ, ◌<◌, ◌≤◌, List, length, Bool, true, false, nat_lt, if◌then◌else◌, refl, inl, sym, ◌∙◌, Some, Option, ap, cond, ◌∷◌, [], subst, arith}
use Rattle.std.specs.Prelude.{slice_index_or, remove}
use Rattle.std.specs.Cmp.Lexicographic.{slice_cmp}
use Rattle.std.specs.Ordering.{nat_cmp, eq_by_cmp}
use Rattle.std.specs.FinMap.{from_entries, get, get-empty, get-insert}
use Rattle.std.proofs.lemmas.Map.Text.{is_eq-slice_cmp}
use Rattle.std.proofs.lemmas.Cmp.{nat_list_cmp_total}
use Rattle.std.proofs.Math.Bool.{or-true, or-false}
use Rattle.std.proofs.lemmas.Bool.Decides.{nat_tests}
use Rattle.sim_base.specs.declared.bench.Port.{Port}
use Rattle.sim_base.specs.declared.bench.Port.TheVariants as ports
use Rattle.sim_base.specs.declared.bench.ReadEnd.{ReadEnd}
use Rattle.sim_base.specs.declared.bench.LineEnd.{LineEnd}
use Rattle.sim_base.specs.declared.bench.LineEnd.TheVariants as lines
use Rattle.sim_base.specs.declared.bench.WriteEnd.{WriteEnd}
use Rattle.sim_base.specs.Causes.{WriteCause}
use Rattle.sim_base.specs.Outside.{Opens, ReadsFile, ReadsTold, TakesLine}
use Rattle.sim_base.specs.Mem.{MemState, port_of, with_port, with_open, called, opened, write_end, outside_of, file_in, line_end, lines_left}

-- what a bench is after a port was opened, or failed to open
abbrev after : MemState → Port → List ℕ → Bool → MemState
after a p name done = with_open (with_port a p (opened done (port_of a p) name)) p done

opens_here : (s : MemState) (p : Port) (name : List ℕ) (done : Bool) → WriteCause (write_end done) (port_of (called s) p).faults (port_of (after (called s) p name done) p).faults → Opens (write_end done) p name (outside_of s) (outside_of (after (called s) p name done))
opens_here s ports.Serial name false cause = (inl refl, inl (refl, refl), cause.0, cause.1)
opens_here s ports.Wave name false cause = (inl (or-false s.wave_open), inl (refl, refl), cause.0, cause.1)
opens_here s ports.Report name false cause = (inl (or-false s.report_open), inl (refl, refl), cause.0, cause.1)
opens_here s ports.Complaint name false cause = (inl refl, inl (refl, refl), cause.0, cause.1)
opens_here s ports.Serial name true cause = (refl, refl, refl, cause)
opens_here s ports.Wave name true cause = (or-true s.wave_open, refl, refl, cause)
opens_here s ports.Report name true cause = (or-true s.report_open, refl, refl, cause)
opens_here s ports.Complaint name true cause = (refl, refl, refl, cause)

-- opening a port, where its count of faults has this cause
pub opens : (s a b : MemState) (p : Port) (name : List ℕ) (done : Bool) (end : WriteEnd) → a ≡ called s → end ≡ write_end done → b ≡ with_open (with_port a p (opened done (port_of a p) name)) p done → WriteCause end (port_of a p).faults (port_of b p).faults → Opens end p name (outside_of s) (outside_of b)
opens s a b p name done end is_called is_end is_after cause =
    let e : b ≡ after (called s) p name done = is_after ∙ ap (λ (x : MemState). after x p name done) is_called in
    let here : WriteCause (write_end done) (port_of a p).faults (port_of b p).faults = subst (λ (x : WriteEnd). WriteCause x (port_of a p).faults (port_of b p).faults) is_end cause in
    let there : WriteCause (write_end done) (port_of (called s) p).faults (port_of b p).faults = subst (λ (x : MemState). WriteCause (write_end done) (port_of x p).faults (port_of b p).faults) is_called here in
    let later : WriteCause (write_end done) (port_of (called s) p).faults (port_of (after (called s) p name done) p).faults = subst (λ (x : MemState). WriteCause (write_end done) (port_of (called s) p).faults (port_of x p).faults) e there in
    let made : Opens (write_end done) p name (outside_of s) (outside_of b) = subst (λ (x : MemState). Opens (write_end done) p name (outside_of s) (outside_of x)) (sym e) (opens_here s p name done later) in
    subst (λ (x : WriteEnd). Opens x p name (outside_of s) (outside_of b)) (sym is_end) made

-- a file of the list is that of the map
pub get_file : (name : List ℕ) (files : List (List ℕ × List ℕ)) → get (from_entries {R = slice_cmp nat_cmp} files) name ≡ file_in name files
get_file name [] = get-empty (slice_cmp nat_cmp) name
get_file name (file ∷ files) =
    get-insert nat_list_cmp_total (from_entries {R = slice_cmp nat_cmp} files) file.0 file.1 name
    ∙ ap (λ (m : Option (List ℕ)). cond (eq_by_cmp (slice_cmp nat_cmp) name file.0) (Some file.1) m) (get_file name files)
    ∙ ap (λ (b : Bool). cond b (Some file.1) (file_in name files)) (is_eq-slice_cmp name file.0)

pub told : (end : ReadEnd) (files : List (List ℕ × List ℕ)) (name : List ℕ) (limit : ℕ) (into : List ℕ) → ReadsFile end (file_in name files) limit into → ReadsTold end (Some (from_entries files)) name limit into
told end files name limit into read = subst (λ (f : Option (List ℕ)). ReadsFile end f limit into) (sym (get_file name files)) read

-- a line that was copied, or passed over because it is too long
copied_line : (long : Bool) (line into : List ℕ) (rest : List (List ℕ)) (end : LineEnd) → nat_lt 1024 (length line) ≡ long → end ≡ (if long then lines.TooLong else lines.Line) → (end ≡ lines.Line → into ≡ line) →
    TakesLine end (line ∷ rest) into rest
copied_line true line into rest end e is copied =
    let long : 1024 < length line = grind (arith, nat_tests, e) in
    rw is (line, refl, long)
copied_line false line into rest end e is copied =
    let same : into ≡ line = copied is in
    let short : length line ≤ 1024 = grind (arith, nat_tests, e) in
    rw (is, same) (refl, short)

-- the first of some lines was taken out
pub first_line : (old new : List (List ℕ)) (line into : List ℕ) (end : LineEnd) → 0 < length old → line ≡ slice_index_or old 0 line → new ≡ remove old 0 → end ≡ (if nat_lt 1024 (length line) then lines.TooLong else lines.Line) →
    (end ≡ lines.Line → into ≡ line) → TakesLine end old into new × (end ≡ line_end old) × (new ≡ lines_left old)
first_line [] new line into end some at left is copied = absurd (omega (arith, some))
first_line (x ∷ xs) new line into end some at left is copied =
    let first : line ≡ x = at in
    let rest : new ≡ xs = left in
    let ends : end ≡ line_end (x ∷ xs) = is ∙ ap (λ (l : List ℕ). if nat_lt 1024 (length l) then lines.TooLong else lines.Line) first in
    (rw rest (copied_line (nat_lt 1024 (length x)) x into xs end refl ends (λ e. copied e ∙ first)), ends, rest)
