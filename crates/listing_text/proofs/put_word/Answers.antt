-- The text, then the byte that ends it.
use Rattle.laws.specs.Kit.{arith}
use Rattle.listing_text.proofs.Laws.{then_byte}
use Rattle.listing_text.proofs.put_word.Goals as goal

pub returns : goal.returns
returns c =
    let t = c.put_text-behind.ensures in
    (then_byte _ t c.put_byte.ensures, omega (arith, t.place))
