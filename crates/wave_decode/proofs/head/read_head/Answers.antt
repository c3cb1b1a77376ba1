use Rattle.std.proofs.Common.{◌≡◌, ◌<◌, ◌++◌, ◌∷◌, ◌∙◌, ℕ, List, [], length, Bor, Err, true, false, not, sym, ap, arith}
use Rattle.std.specs.List.{list_any}
use Rattle.std.specs.Option.{option_map}
use Rattle.std.specs.Str.{bytes_eq}
use Rattle.sim_base.specs.declared.fault.Refusal.{Refusal}
use Rattle.text_model.specs.Wave.{declarations}
use Rattle.wave_lines.specs.Reading.{ended_lines, line_count}
use Rattle.wave_decode.specs.Head.{head_behind, head_with, names_from, nets}
use Rattle.wave_decode.specs.Names.{found, texts_in}
use Rattle.wave_decode.proofs.HeadLemmas.{added, among, count_none, counted_more, found_is, head_is, head_lacks, name_new, name_old, names_done, no_end, no_texts, none_declared, some_of, text_more, texts_long}
use Rattle.wave_decode.proofs.head.read_head.Goals as goal

pub loop-name-init : goal.loop-name-init
loop-name-init c =
    let none : texts_in c.new-names.result.keys ≡ [] = no_texts c.new-names.result.keys c.new-names.ensures.len in
    record {
      names_so_far = ap (λ (ns : List (List ℕ)). names_from ns (ended_lines c.in-Ok.start.1.now)) none;
      text = none_declared (texts_in c.new-names.result.keys) c.in-Ok.start.1.now none;
      counted = count_none c.in-Ok.start.0 (texts_in c.new-names.result.keys) none;
      within = omega arith;
    }

pub loop-name-preserved : goal.loop-name-preserved
loop-name-preserved c =
    let l = c.loop-name in
    let names : List (List ℕ) = texts_in l.names.keys in
    let name : Bor (List ℕ) = c.in-Some.name in
    let more : List ℕ = c.in-Some.more.now in
    let at : c.len.result ≡ length names = c.len.ensures.len ∙ sym (texts_long l.names.keys) in
    let new : c.in_ok-insert.field-0 ≡ true = c.if-not-branch.false in
    let none : list_any (bytes_eq name.now) names ≡ false = among name l.names.keys c.in_ok-insert.field-0 c.in_ok-insert.ensures.added ∙ ap not new in
    let kept : texts_in c.insert.new.self.keys ≡ names ++ name.now ∷ [] = added name l.names.keys c.in_ok-insert.field-0 c.in_ok-insert.ensures.added c.insert.new.self.keys new c.in_ok-insert.ensures.keys in
    record {
      names_so_far = ap (λ (ns : List (List ℕ)). names_from ns (ended_lines more)) kept
          ∙ sym (name_new names name.now c.len.result at (ended_lines l.rest.now) (ended_lines more) c.in-Some.ensures.some c.in-Some.ensures.ended none)
          ∙ l.invariant.names_so_far;
      text = text_more names name.now c.len.result at c.in-Ok.start.1.now l.rest.now more l.invariant.text c.in-Some.ensures.whole
          ∙ ap (λ (ns : List (List ℕ)). declarations 0 (nets ns) ++ more) (sym kept);
      counted = (let e = counted_more names name.now c.len.result at c.in-Some.ensures.unbroken in
          let f = ap (λ (ns : List (List ℕ)). line_count (declarations 0 (nets ns))) kept in
          let g = l.invariant.counted in
          omega (arith, e, f, g));
      within = (let s = c.in-Some.ensures.shorter in let w = l.invariant.within in omega (arith, s, w));
    }

pub returns-then-not-branch-clause-reads : goal.returns-then-not-branch-clause-reads
returns-then-not-branch-clause-reads c =
    let l = c.loop-name in
    let names : List (List ℕ) = texts_in l.names.keys in
    let name : Bor (List ℕ) = c.in-Some.name in
    let more : List ℕ = c.in-Some.more.now in
    let at : c.len.result ≡ length names = c.len.ensures.len ∙ sym (texts_long l.names.keys) in
    let old : list_any (bytes_eq name.now) names ≡ true = among name l.names.keys c.in_ok-insert.field-0 c.in_ok-insert.ensures.added ∙ ap not c.if-not-branch.true in
    let all : names_from [] (ended_lines c.in-Ok.start.1.now) ≡ names = sym l.invariant.names_so_far
    ∙ name_old names name.now c.len.result at (ended_lines l.rest.now) (ended_lines more) c.in-Some.ensures.some c.in-Some.ensures.ended old in
    ap (found c.args.first.now (option_map (λ (s : Bor (List ℕ)). s.now) c.args.second))
    (ap head_behind c.in-Ok.ensures.behind
    ∙ head_is c.in-Ok.start.0 c.in-Ok.start.1.now names l.number l.rest.now all l.invariant.text l.invariant.counted (some_of (bytes_eq name.now) names old)
    ∙ ap (head_with names) (no_end l.number c.len.result name.now l.rest.now more c.in-Some.ensures.whole))
    ∙ ap (λ (r : Refusal). Err r) (sym c.refused.ensures)

pub returns-then-variables-eq0-clause-reads : goal.returns-then-variables-eq0-clause-reads
returns-then-variables-eq0-clause-reads c =
    let l = c.loop-name in
    let names : List (List ℕ) = texts_in l.names.keys in
    let at : c.len.result ≡ length names = c.len.ensures.len ∙ sym (texts_long l.names.keys) in
    let all : names_from [] (ended_lines c.in-Ok.start.1.now) ≡ names = sym l.invariant.names_so_far
    ∙ names_done names c.len.result at (ended_lines l.rest.now) c.in_default.ensures.none in
    let none : length names ≡ 0 = texts_long l.names.keys ∙ sym c.len-variables.ensures.len ∙ c.if-variables-eq0.true in
    ap (found c.args.first.now (option_map (λ (s : Bor (List ℕ)). s.now) c.args.second))
    (ap head_behind c.in-Ok.ensures.behind
    ∙ head_lacks c.in-Ok.start.0 c.in-Ok.start.1.now names l.number l.rest.now all l.invariant.text l.invariant.counted none)
    ∙ ap (λ (r : Refusal). Err r) (sym c.refused-then-variables-eq0.ensures)

pub returns-in-Ok-behind-clause-reads : goal.returns-in-Ok-behind-clause-reads
returns-in-Ok-behind-clause-reads c =
    let l = c.loop-name in
    let names : List (List ℕ) = texts_in l.names.keys in
    let at : c.len.result ≡ length names = c.len.ensures.len ∙ sym (texts_long l.names.keys) in
    let all : names_from [] (ended_lines c.in-Ok.start.1.now) ≡ names = sym l.invariant.names_so_far
    ∙ names_done names c.len.result at (ended_lines l.rest.now) c.in_default.ensures.none in
    let long : c.len-variables.result ≡ length names = c.len-variables.ensures.len ∙ sym (texts_long l.names.keys) in
    let other = c.if-variables-eq0.false in
    let some : 0 < length names = omega (arith, long, other) in
    ap (found c.args.first.now (option_map (λ (s : Bor (List ℕ)). s.now) c.args.second))
    (ap head_behind c.in-Ok.ensures.behind
    ∙ head_is c.in-Ok.start.0 c.in-Ok.start.1.now names l.number l.rest.now all l.invariant.text l.invariant.counted some
    ∙ ap (head_with names) c.in-Ok-behind.ensures.behind)
    ∙ found_is _ _ _ _ _ _ c.in-Ok-behind.number c.in-Ok-behind.rest.now (sym long) (sym c.number_in.ensures) (sym c.second_in.ensures)

pub returns-clause-reads : goal.returns-clause-reads
returns-clause-reads c =
    let l = c.loop-name in
    let names : List (List ℕ) = texts_in l.names.keys in
    let at : c.len.result ≡ length names = c.len.ensures.len ∙ sym (texts_long l.names.keys) in
    let all : names_from [] (ended_lines c.in-Ok.start.1.now) ≡ names = sym l.invariant.names_so_far
    ∙ names_done names c.len.result at (ended_lines l.rest.now) c.in_default.ensures.none in
    let long : c.len-variables.result ≡ length names = c.len-variables.ensures.len ∙ sym (texts_long l.names.keys) in
    let other = c.if-variables-eq0.false in
    let some : 0 < length names = omega (arith, long, other) in
    ap (found c.args.first.now (option_map (λ (s : Bor (List ℕ)). s.now) c.args.second))
    (ap head_behind c.in-Ok.ensures.behind
    ∙ head_is c.in-Ok.start.0 c.in-Ok.start.1.now names l.number l.rest.now all l.invariant.text l.invariant.counted some
    ∙ ap (head_with names) c.in-Err-behind.ensures.behind)
