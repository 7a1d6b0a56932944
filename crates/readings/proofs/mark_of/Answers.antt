-- Each number is read where the definition reads it.
use Rattle.laws.specs.Kit.{sym}
use Rattle.readings.proofs.mark_of.Goals as goal

pub returns : goal.returns
returns c = rw (sym c.differing-differing.ensures, sym c.partner-partner.ensures, sym c.mark_code.ensures, sym c.first.ensures)
