use Rattle.bench_input.proofs.Input.{keeps-more, keeps-over}
use Rattle.bench_input.proofs.keep.Goals as goal

pub returns-then-kept-line : goal.returns-then-kept-line
returns-then-kept-line c = λ o p. keeps-more _ _ _ o c.if-kept-line.true p

pub returns : goal.returns
returns c = λ o p. keeps-over _ _ _ o c.if-kept-line.false p
