-- A byte inside is the number of one byte there; past the end that number is 0.
use Rattle.std.specs.Prelude.{◌≡◌}
use Rattle.std.proofs.Common.{rules}
use Rattle.laws.specs.Kit.{sym, ◌∙◌, get_or}
use Rattle.laws.specs.Bytes.Laws.{number_1}
use Rattle.block.proofs.numbers.byte_or_zero.Goals as goal

pub returns : goal.returns
returns c = let e : c.unwrap_or.result ≡ get_or c.args.s.now c.args.at 0 = search rules in e ∙ sym (number_1 c.args.at c.args.s.now)
