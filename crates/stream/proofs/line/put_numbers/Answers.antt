-- Each number's piece is the number behind a space.
use Rattle.stream.specs.Line.{spaced, numbers_text}
use Rattle.std.proofs.Common.{rules}
use Rattle.stream.proofs.line.put_numbers.Goals as goal

pub returns : goal.returns
unfolding numbers_text
returns c = c.put_each.ensures spaced (λ b e k r x p. search rules)
