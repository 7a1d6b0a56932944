-- A position is kept in one byte.
use Rattle.laws.specs.Kit.{arith}
use Rattle.listing_text.proofs.Laws.Line.{first_small}
use Rattle.listing_text.proofs.first_number.Goals as goal

pub overflow_cast-result : goal.overflow_cast-result
overflow_cast-result c =
    omega (arith, first_small c.args.x.now c.shared_slice_known-1.given, c.first.ensures)
