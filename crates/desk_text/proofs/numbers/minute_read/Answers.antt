-- The code asks whether a minus stands in front, as the definition does.
use Rattle.std.specs.Option.{option_map}
use Rattle.laws.specs.Kit.{◌∙◌, ap}
use Rattle.desk_text.specs.Numbers.{minute_before, minute_after}
use Rattle.desk_text.proofs.Digits.{minus_read, plain_read, mapped}
use Rattle.desk_text.proofs.numbers.minute_read.Goals as goal

pub returns-in-Some : goal.returns-in-Some
returns-in-Some c =
    let p = c.in-Some.ensures.cases in
    mapped minute_before _ _ c.map.ensures.cases ∙ ap (option_map minute_before) (rw p.1 at c.number_read.ensures) ∙ minus_read _ p.0

pub returns-in-None : goal.returns-in-None
returns-in-None c =
    mapped minute_after _ _ c.map-in-None.ensures.cases ∙ ap (option_map minute_after) c.number_read-in-None.ensures ∙ plain_read _ c.in-None.ensures.cases
