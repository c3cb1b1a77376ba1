use Rattle.std.proofs.Common.{rules, ◌≡◌, [], List, ℕ, get_or, true, false, Bor}
use Rattle.chip_json.specs.ChipJson.{is_pin_name, is_skipped}
use Rattle.chip_json.proofs.NameLemmas.{repeated, added}
use Rattle.chip_json.proofs.names.have_good_names.Goals as goal

pub returns-then-not-branch : goal.returns-then-not-branch
returns-then-not-branch c =
    let text : Bor (List ℕ) = get_or c.args.texts.now c.loop-i.i (record { ref_ptr = (0, 0); now = [] }) in
    let there : is_skipped text.now ≡ false = search rules in
    let name : is_pin_name text.now ≡ true = search rules in
    let at : text ≡ get_or c.args.texts.now c.loop-i.i text = search rules in
    repeated c.args.texts.now c.loop-i.i text c.as_bytes.result c.loop-i.seen.keys c.in_ok-insert.field-0 c.loop-i-test.true at c.as_bytes.ensures.value there name c.in_ok-insert.ensures.added _ c.if-not-branch.true c.loop-i.invariant

pub loop-i-preserved : goal.loop-i-preserved
loop-i-preserved c =
    let text : Bor (List ℕ) = get_or c.args.texts.now c.loop-i.i (record { ref_ptr = (0, 0); now = [] }) in
    let there : is_skipped text.now ≡ false = search rules in
    let name : is_pin_name text.now ≡ true = search rules in
    let at : text ≡ get_or c.args.texts.now c.loop-i.i text = search rules in
    added c.args.texts.now c.loop-i.i text c.as_bytes.result c.loop-i.seen.keys c.in_ok-insert.field-0 c.loop-i-test.true at c.as_bytes.ensures.value there name c.in_ok-insert.ensures.added _ c.insert.new.self.keys c.if-not-branch.false c.in_ok-insert.ensures.keys c.loop-i.invariant
