use Rattle.std.proofs.Common.{◌≡◌, length, take}
use Rattle.live_probe.proofs.probe.set_contacts.Given as goal

abbrev pub invariant-loop-contact : goal.invariant-loop-contact
invariant-loop-contact l = record {
  rest : l.nets ≡ record l.fn.nets { closed = l.nets.closed };
  long : length l.nets.closed ≡ length l.fn.nets.closed;
  filled : take l.contact l.nets.closed ≡ take l.contact l.closed;
}
