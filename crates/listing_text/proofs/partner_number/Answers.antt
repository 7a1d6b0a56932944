-- A slot is kept in two bytes.
use Rattle.laws.specs.Kit.{arith}
use Rattle.listing_text.proofs.Laws.Line.{partner_small}
use Rattle.listing_text.proofs.partner_number.Goals as goal

pub overflow_cast-result : goal.overflow_cast-result
overflow_cast-result c =
    omega (arith, partner_small c.args.x.now c.shared_slice_known-1.given, c.partner.ensures)
