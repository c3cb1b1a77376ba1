use Rattle.std.proofs.Common.{sym, ap, arith, length}
use Rattle.std.proofs.lemmas.List.{nil_from_length}
use Rattle.std.proofs.lemmas.Bool.{eqb-true}
use Rattle.text_model.specs.Lines.{lines}
use Rattle.text_model.specs.Hex.{Passed, Data, Base, End, Faulty, data_of}
use Rattle.input_texts.proofs.ImageLemmas.{line_read, no_line}
use Rattle.input_texts.proofs.hex.read_hex.Goals as goal
use Rattle.input_texts.proofs.hex.read_hex.Goals.{in-Passed, in-Data, in-Base}

pub returns-in-End : goal.returns-in-End
returns-in-End c = line_read _ _ _ _ _ _ _ End c.loop-rest.invariant.reading c.next_line.ensures.line c.in-End.ensures.seen

pub returns-in-Faulty : goal.returns-in-Faulty
returns-in-Faulty c = rw c.refused.ensures (line_read _ _ _ _ _ _ _ (Faulty c.in-Faulty.fault) c.loop-rest.invariant.reading c.next_line.ensures.line c.in-Faulty.ensures.seen)

pub loop-rest-preserved : goal.loop-rest-preserved
loop-rest-preserved c =
    elim c.match-read_line.branch [
      | in-Passed w ↦ record {
        reading = rw (w.flash-is, w.base-is) (sym (line_read _ _ _ _ _ _ _ Passed c.loop-rest.invariant.reading c.next_line.ensures.line w.in-Passed.ensures.seen));
        base = rw w.base-is c.loop-rest.invariant.base;
        number = omega arith;
      }
      | in-Data w ↦ record {
        reading = rw (w.flash-is, w.base-is, w.write_record.ensures) (sym (line_read _ _ _ _ _ _ _ (Data w.in-Data.address (data_of w.in-Data.r.items)) c.loop-rest.invariant.reading c.next_line.ensures.line w.in-Data.ensures.seen));
        base = rw w.base-is c.loop-rest.invariant.base;
        number = omega arith;
      }
      | in-Base w ↦ record {
        reading = rw (w.flash-is, w.base-is) (sym (line_read _ _ _ _ _ _ _ (Base w.in-Base.next) c.loop-rest.invariant.reading c.next_line.ensures.line w.in-Base.ensures.seen));
        base = rw w.base-is w.in-Base.ensures.fits;
        number = omega arith;
      }
    ]

pub returns : goal.returns
unfolding lines
returns c = rw c.refused-2.ensures (no_line _ _ _ _ _ c.loop-rest.invariant.reading (ap lines (nil_from_length c.loop-rest.rest.now (eqb-true (length c.loop-rest.rest.now) 0 (sym c.loop-rest-test.ensures)))))
