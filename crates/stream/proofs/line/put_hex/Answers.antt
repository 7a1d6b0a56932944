-- Each byte's piece is its two digits.
use Rattle.stream.specs.Line.{hex_byte, hex_text}
use Rattle.std.proofs.Common.{rules}
use Rattle.stream.proofs.line.put_hex.Goals as goal

pub returns : goal.returns
unfolding hex_text
returns c = c.put_each.ensures hex_byte (λ b e k r x p. search rules)
