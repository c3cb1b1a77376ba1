use Rattle.std.proofs.Common.{◌≡◌, ◌≢◌, ◌≤◌, ◌<◌, ℕ, List, min, length, refl, sym, ◌∙◌, subst, arith, inl, inr, Some}
use Rattle.std.proofs.lemmas.List.{length-map}
use Rattle.std.specs.Prelude.{slice_get, slice_index}
use Rattle.text_model.specs.Wave.{Source, Net, Variable, shown_value}
use Rattle.vcd_text.specs.Variables.{variable_of, variables_of}
use Rattle.vcd_text.specs.Chains.{sources, values_at, IsNext, OnChain}
use Rattle.vcd_text.specs.Written.{IsWritten}
use Rattle.vcd_text.proofs.ChainLemmas.{Follows, follows, next_from, next_same, nets_meet, rest_alone, shown_long, run_of}
use Rattle.vcd_text.proofs.WaveLemmas.{made_long}
use Rattle.vcd_text.proofs.WrittenLemmas.{written_none, written_far, written_all}
use Rattle.vcd_text.proofs.follow.push_chain.Goals as goal
use Rattle.vcd_text.proofs.follow.push_chain.Goals.{After-first_of-b, After-push_run-a}

-- ---- where the next variables of both nets are one place

at_one : (c : After-first_of-b) → IsNext (sources (variables_of c.args.links.now.variables.now)) c.args.one 0 c.first_of-a.result
at_one c = c.first_of-a.ensures (sources (variables_of c.args.links.now.variables.now)) c.args.links.now.next.now c.requires.chains (shown_long c.args.links.now.variables.now)

at_two : (c : After-first_of-b) → IsNext (sources (variables_of c.args.links.now.variables.now)) c.args.two 0 c.first_of-b.result
at_two c = c.first_of-b.ensures (sources (variables_of c.args.links.now.variables.now)) c.args.links.now.next.now c.requires.chains (shown_long c.args.links.now.variables.now)

same_long : (c : After-first_of-b) → length c.args.values.now ≡ length (variables_of c.args.links.now.variables.now)
same_long c = c.requires.long ∙ sym (length-map c.args.links.now.variables.now variable_of)

inside : (c : After-first_of-b) → min c.first_of-a.result (length c.args.values.now) ≡ c.first_of-a.result
inside c = let on = at_one c in let within = on.within in omega (arith, within, c.requires.long, shown_long c.args.links.now.variables.now)

abbrev chain_alone : (c : After-first_of-b) → OnChain c.args.links.now.next.now (min c.first_of-a.result (length c.args.values.now)) c.first_of-a.result
chain_alone c = record {
  shows = sources (variables_of c.args.links.now.variables.now);
  first = c.args.links.now.first.now;
  net = c.args.one;
  chains = c.requires.chains;
  here = let on = at_one c in next_from (sources (variables_of c.args.links.now.variables.now)) c.args.one 0 (min c.first_of-a.result (length c.args.values.now)) c.first_of-a.result (omega arith) (omega arith) on;
}

rest : (c : After-first_of-b) → c.first_of-a.result ≡ c.first_of-b.result → (k : ℕ) → k < length (variables_of c.args.links.now.variables.now) → slice_get (sources (variables_of c.args.links.now.variables.now)) k ≢ Some (Net c.args.one)
    → slice_index c.args.values.now k ≡ slice_index (values_at c.args.row.now.levels.now c.args.row.now.drives.now (variables_of c.args.links.now.variables.now)) k
rest c same = rest_alone (variables_of c.args.links.now.variables.now) c.args.row.now.levels.now c.args.row.now.drives.now c.args.values.now c.args.one c.args.two c.first_of-a.result c.requires.others (at_one c)
    (subst (λ (i : ℕ). IsNext (sources (variables_of c.args.links.now.variables.now)) c.args.two 0 i) (sym same) (at_two c))

pub push_run-requires-clause-chain : goal.push_run-requires-clause-chain
push_run-requires-clause-chain c = chain_alone (goal.at.push_run-requires-clause-chain c).After-first_of-b

pub returns-then-a-b : goal.returns-then-a-b
returns-then-a-b c =
    let d = (goal.at.returns-then-a-b c).After-first_of-b in
    let vs = variables_of c.args.links.now.variables.now in
    let last = c.args.values.now in
    let new = values_at c.args.row.now.levels.now c.args.row.now.drives.now vs in
    let a = c.first_of-a.result in
    let out = c.args.out.now in
    let long = same_long d ∙ sym (length-map vs (λ (v : Variable). shown_value c.args.row.now.levels.now c.args.row.now.drives.now v.shows)) in
    let on = at_one d in
    let within = on.within in
    let before : IsWritten last new out a 0 last out = written_far last new out 0 a 0 last out (omega arith) long
    (λ k least less. rest d c.if-a-b.true k (omega (arith, less, within, length-map vs (λ (v : Variable). v.shows))) (on.none k least less)) (written_none last new out) in
    let w : IsWritten last new out (length last) c.push_run.new.count c.push_run.new.values c.push_run.new.out =
    c.push_run.ensures.written (chain_alone d) last new out
    (run_of vs c.args.row.now.levels.now c.args.row.now.drives.now last c.args.one a (length last) c.of_net-value_one.result (same_long d) c.of_net-value_one.ensures (omega (arith, same_long d))
    (λ k least less more. rest d c.if-a-b.true k more))
    (subst (λ (i : ℕ). IsWritten last new out i 0 last out) (sym (inside d)) before) in
    let all = written_all last new out (length last) c.push_run.new.count c.push_run.new.values c.push_run.new.out (omega arith) long w in
    record { values = all.0; text = all.1; count = all.2 }

-- ---- when the variables of the first net that stand before the next one of the second are written

abbrev shown : After-push_run-a → List Source
shown c = sources (variables_of c.args.links.now.variables.now)

abbrev values : After-push_run-a → List ℕ
values c = values_at c.args.row.now.levels.now c.args.row.now.drives.now (variables_of c.args.links.now.variables.now)

abbrev chain_one : (c : After-push_run-a) → OnChain c.args.links.now.next.now (min c.loop-a.a c.loop-a.b) c.loop-a.a
chain_one c = record { shows = shown c; first = c.args.links.now.first.now; net = c.args.one; chains = c.requires.chains; here = c.loop-a.invariant.one }

next : (c : After-push_run-a) → IsNext (shown c) c.args.one c.loop-a.b c.push_run-a.result
next c = c.push_run-a.ensures.next (chain_one c)

long_all : (c : After-push_run-a) → length c.args.values.now ≡ length (variables_of c.args.links.now.variables.now)
long_all c = c.requires.long ∙ sym (length-map c.args.links.now.variables.now variable_of)

written : (c : After-push_run-a) → IsWritten c.args.values.now (values c) c.args.out.now c.loop-a.b c.push_run-a.new.count c.push_run-a.new.values c.push_run-a.new.out
written c =
    let two = c.loop-a.invariant.two in
    let within = two.within in
    c.push_run-a.ensures.written (chain_one c) c.args.values.now (values c) c.args.out.now
    (run_of (variables_of c.args.links.now.variables.now) c.args.row.now.levels.now c.args.row.now.drives.now c.args.values.now c.args.one c.loop-a.a c.loop-a.b c.of_net-value_one.result
    (long_all c) c.of_net-value_one.ensures (omega (arith, within, shown_long c.args.links.now.variables.now, length-map c.args.links.now.variables.now variable_of)) (λ k least less more off. c.requires.others k more off (two.none k (omega (arith, least)) less)))
    c.loop-a.invariant.written

abbrev chain_two : (c : After-push_run-a) → OnChain c.args.links.now.next.now (min c.loop-a.b c.push_run-a.result) c.loop-a.b
chain_two c =
    let on = next c in
    let least = on.order in
    record {
      shows = shown c;
      first = c.args.links.now.first.now;
      net = c.args.two;
      chains = c.requires.chains;
      here = next_from (shown c) c.args.two (min c.loop-a.a c.loop-a.b) (min c.loop-a.b c.push_run-a.result) c.loop-a.b (omega (arith, least)) (omega arith) c.loop-a.invariant.two;
    }

within : (c : After-push_run-a) → c.push_run-a.result ≤ length c.args.links.now.variables.now
within c = let on = next c in let in_all = on.within in omega (arith, in_all, shown_long c.args.links.now.variables.now)

pub loop-a-init : goal.loop-a-init
loop-a-init c =
    let d = (goal.at.loop-a-init c).After-first_of-b in
    let vs = variables_of c.args.links.now.variables.now in
    let last = c.args.values.now in
    let new = values_at c.args.row.now.levels.now c.args.row.now.drives.now vs in
    let a = c.first_of-a.result in
    let b = c.first_of-b.result in
    let f : Follows vs last new c.args.one c.args.two 0 a b (min a b) = follows vs c.args.row.now.levels.now c.args.row.now.drives.now last c.args.one c.args.two 0 a b (min a b) c.requires.others refl (at_one d) (at_two d) in
    record {
      written = written_far last new c.args.out.now 0 (min a b) 0 last c.args.out.now f.order
          (c.requires.long ∙ sym (made_long variable_of (λ (v : Variable). shown_value c.args.row.now.levels.now c.args.row.now.drives.now v.shows) c.args.links.now.variables.now)) f.same (written_none last new c.args.out.now);
      one = f.at_one;
      two = f.at_two;
    }

pub push_run-b-requires : goal.push_run-b-requires
push_run-b-requires c =
    let d = (goal.at.push_run-b-requires c).After-push_run-a in
    let w = written d in
    let long = w.long in
    let short = w.short in
    let few = w.few in
    let on = next d in
    let least = on.order in
    record {
      few = omega (arith, long, c.requires.long, c.requires.few);
      inside = omega (arith, within d, long, c.requires.long);
      long = omega (arith, long, c.requires.long, c.requires.chains.long, shown_long c.args.links.now.variables.now);
      chain = chain_two d;
      room = omega (arith, within d, short, w.room, least, c.requires.room);
      counts = omega (arith, within d, few, least, c.requires.few);
    }

pub loop-a-smaller : goal.loop-a-smaller
loop-a-smaller c =
    let d = (goal.at.loop-a-smaller c).After-push_run-a in
    let on = next d in
    let least = on.order in
    let order = c.push_run-a.ensures.order in
    let after = c.push_run-b.ensures.next (chain_two d) in
    let last = after.order in
    omega (arith, within d, least, order, last, c.loop-a-test.true)

pub loop-a-preserved : goal.loop-a-preserved
loop-a-preserved c =
    let d = (goal.at.loop-a-preserved c).After-push_run-a in
    let on = next d in
    let least = on.order in
    let after = c.push_run-b.ensures.next (chain_two d) in
    let last = after.order in
    let a = c.push_run-a.result in
    let b = c.push_run-b.result in
    let here : a ≡ min a b = omega (arith, last) in
    let from_b : c.loop-a.b ≡ min c.loop-a.b a = omega (arith, least) in
    let old = c.args.values.now in
    let run = run_of (variables_of c.args.links.now.variables.now) c.args.row.now.levels.now c.args.row.now.drives.now old c.args.two c.loop-a.b a c.of_net-value_two.result
    (long_all d) c.of_net-value_two.ensures (omega (arith, within d, length-map c.args.links.now.variables.now variable_of)) (λ k from less more off. c.requires.others k more (on.none k from less) off) in
    let w : IsWritten old (values d) c.args.out.now a c.push_run-b.new.count c.push_run-b.new.values c.push_run-b.new.out =
    c.push_run-b.ensures.written (chain_two d) old (values d) c.args.out.now run
    (subst (λ (i : ℕ). IsWritten old (values d) c.args.out.now i c.push_run-a.new.count c.push_run-a.new.values c.push_run-a.new.out) from_b (written d)) in
    record {
      written = subst (λ (i : ℕ). IsWritten old (values d) c.args.out.now i c.push_run-b.new.count c.push_run-b.new.values c.push_run-b.new.out) here w;
      one = next_from (shown d) c.args.one c.loop-a.b (min a b) a (omega (arith, least, last)) (omega arith) on;
      two = subst (λ (i : ℕ). IsNext (shown d) c.args.two i b) here after;
    }

pub returns : goal.returns
returns c =
    let d = (goal.at.returns c).After-first_of-b in
    let l = c.loop-a in
    let vs = c.args.links.now.variables.now in
    let all = sources (variables_of vs) in
    let last = c.args.values.now in
    let new = values_at c.args.row.now.levels.now c.args.row.now.drives.now (variables_of vs) in
    let long = made_long variable_of (λ (v : Variable). shown_value c.args.row.now.levels.now c.args.row.now.drives.now v.shows) vs in
    let same : l.a ≡ l.b = c.loop-a-test.false in
    let two : IsNext all c.args.two (min l.a l.b) l.a = subst (λ (i : ℕ). IsNext all c.args.two (min l.a l.b) i) (sym same) l.invariant.two in
    let end : l.a ≡ length all = elim (nets_meet all c.args.one c.args.two (min l.a l.b) l.a l.invariant.one two) [
      | inl one ↦ absurd (c.if-a-b.false (next_same all c.args.one 0 c.first_of-a.result c.first_of-b.result (at_one d) (subst (λ (n : ℕ). IsNext all n 0 c.first_of-b.result) one (at_two d))))
      | inr past ↦ past
    ] in
    let made = written_all last new c.args.out.now (min l.a l.b) l.count l.values l.out (omega (arith, same, end, c.requires.long, shown_long vs)) (c.requires.long ∙ sym long) l.invariant.written in
    record { values = made.0; text = made.1; count = made.2 }
