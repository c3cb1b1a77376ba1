use Rattle.board_run.proofs.Common.{◌≡◌, length, map, take, contacts_of}
use Rattle.board_run.proofs.tell.first_contact.Given as goal

abbrev pub invariant-loop-k : goal.invariant-loop-k
invariant-loop-k g l = l.at ≡ length (contacts_of g.P.Part.machine (take l.k (map g.P.Part.state l.parts)))
