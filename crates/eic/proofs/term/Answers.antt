-- A weight is at most 16 and a byte at most 255.
use Rattle.laws.specs.Kit.{refl, arith}
use Rattle.eic.proofs.Laws.{term_small}
use Rattle.eic.proofs.term.Goals as goal

pub overflow_mul-result : goal.overflow_mul-result
overflow_mul-result c = omega (arith, term_small c.args.weight c.args.value c.requires (omega arith))

pub returns : goal.returns
returns c = (refl, term_small c.args.weight c.args.value c.requires (omega arith))
