-- The first k bytes of the array are the digits.
use Rattle.desk_text.specs.Put.Laws.{called}
use Rattle.desk_text.proofs.Digits.{digits_front}
use Rattle.std.proofs.Common.{rules}
use Rattle.desk_text.proofs.numbers.put_digits.Goals as goal

pub returns : goal.returns
returns c =
    called _ (digits_front _ _ _ (search rules) c.put_last_digits.ensures) c.put.ensures
