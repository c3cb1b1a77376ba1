use Rattle.board_run.proofs.Common.{◌≡◌, ◌<◌, ◌+◌, ◌∙◌, ap, sym, subst, arith, length, List, Bool, ℕ, inl, inr, slice_get, slice_set, or_cases, or_parts}
use Rattle.board_run.proofs.Common.{NetsView, Put, lt_or_eq}
use Rattle.board_run.proofs.ReadLemmas.{put_more}
use Rattle.board_run.proofs.tell.set_ports.Goals as goal

pub overflow_add-at : goal.overflow_add-at
overflow_add-at g c = omega (arith, c.requires.room, c.requires.few, c.contacts-contacts.ensures)

pub loop-i-preserved : goal.loop-i-preserved
loop-i-preserved g c =
    let p = g.P.Part in
    let cs = p.machine.contacts (p.state c.args.part.now) in
    let i = c.loop-i.invariant in
    let room : c.args.at + c.loop-i.i < length c.loop-i.nets.closed = omega (arith, i.put.long, c.requires.room, c.requires.long, c.contacts-contacts.ensures) in
    let new = ap (λ (x : NetsView). x.closed) c.set_contact.ensures in
    let was : slice_get c.loop-i.nets.closed (c.args.at + c.loop-i.i) ≡ slice_get c.args.nets.now.closed (c.args.at + c.loop-i.i) = i.put.after (c.args.at + c.loop-i.i) (omega arith) in
    let there = c.contact-closed.ensures (omega (arith, c.contacts-contacts.ensures, c.loop-i-test.true)) in
    record {
      put = subst (λ (xs : List Bool). Put c.args.at (c.loop-i.i + 1) cs c.args.nets.now.closed xs) (sym new)
          (put_more c.args.at c.loop-i.i cs c.args.nets.now.closed c.loop-i.nets.closed c.contact-closed.result i.put (c.contact-closed.ensures (omega (arith, c.contacts-contacts.ensures))) room);
      same = λ none j h.
          let both = or_parts c.loop-i.changed c.joins_other-changed.result none in
          elim (lt_or_eq j c.loop-i.i h) [
            | inl less ↦ i.same both.0 j less
            | inr same ↦ ap (λ (k : ℕ). slice_get c.args.nets.now.closed (c.args.at + k)) same ∙ sym was ∙ c.joins_other-changed.ensures.same both.1 ∙ sym there ∙ ap (slice_get cs) (sym same)
          ];
      other = λ one has. elim (or_cases c.loop-i.changed c.joins_other-changed.result one) [
        | inl before ↦ i.other before has
        | inr here ↦ c.joins_other-changed.ensures.other here (was ∙ has c.loop-i.i (omega (arith, c.loop-i-test.true, c.contacts-contacts.ensures)) ∙ there)
      ];
      rest = c.set_contact.ensures ∙ ap (λ (x : NetsView). record x { closed = slice_set c.loop-i.nets.closed (c.args.at + c.loop-i.i) c.contact-closed.result }) i.rest ∙ ap (λ (xs : List Bool). record c.args.nets.now { closed = xs }) (sym new);
    }
