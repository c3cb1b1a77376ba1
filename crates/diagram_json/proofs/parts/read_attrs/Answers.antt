use Rattle.std.proofs.Common.{◌++◌, List, ℕ, sym, ap, ◌∙◌, append_assoc, append-nil}
use Rattle.serde_json.specs.View.{members_view}
use Rattle.serde_json.proofs.Views.{Entry}
use Rattle.document_model.specs.Diagram.{attrs_of}
use Rattle.diagram_json.proofs.parts.read_attrs.Goals as goal

pub loop-key-preserved : goal.loop-key-preserved
loop-key-preserved c =
    let l = c.loop-key in
    let e : Entry = (c.in-Some.key.now, c.in-Some.value.now) in
    let left = attrs_of (members_view c.next.new.self) in
    ap (λ (xs : List (List ℕ × List ℕ)). xs ++ left) c.in_ok-push_attr.ensures
    ∙ append_assoc l.attrs _ left
    ∙ ap (λ (es : List Entry). l.attrs ++ attrs_of (members_view es)) (sym c.in-Some.ensures.steps)
    ∙ l.invariant

pub returns : goal.returns
returns c =
    let l = c.loop-key in
    sym (append-nil l.attrs) ∙ ap (λ (es : List Entry). l.attrs ++ attrs_of (members_view es)) (sym c.in-None.ensures.steps.0) ∙ l.invariant
