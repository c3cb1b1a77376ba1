use Rattle.std.proofs.Common.{sym, subst, ◌∙◌}
use Rattle.part_law.specs.declared.span.Span.{Span}
use Rattle.part_law.specs.Spans.{IsIn}
use Rattle.part_law.proofs.SpanLemmas.{none_in, not_joined}
use Rattle.chip_host.proofs.span.both.Goals as goal

pub returns-then-has_any : goal.returns-then-has_any
returns-then-has_any c = λ k out. not_joined c.args.a c.args.b k (subst (λ (x : Span). ¬ IsIn x k) c.joined.ensures out)

pub returns-else-has_any : goal.returns-else-has_any
returns-else-has_any c = λ k out. (out, none_in c.args.b k (sym c.has_any.ensures ∙ c.if-has_any.false))
