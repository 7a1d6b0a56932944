-- The digits, then the byte that ends them.
use Rattle.listing_text.proofs.Laws.{put, then_byte}
use Rattle.std.proofs.Common.{rules}
use Rattle.listing_text.proofs.put_number.Goals as goal

pub returns : goal.returns
returns c =
    (then_byte _ (put c.decimal.ensures.0 c.decimal.ensures.2) c.put_byte.ensures, search rules)
