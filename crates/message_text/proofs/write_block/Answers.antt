-- Each field is written as the definition has it, the check last.
use Rattle.laws.specs.Kit.{◌∙◌, ap}
use Rattle.paper.specs.Check.{sealed}
use Rattle.layout.specs.Written.{with_business_type, with_field}
use Rattle.message_text.specs.MessageText.{new_block}
use Rattle.message_text.proofs.write_block.Goals as goal

pub returns : goal.returns
unfolding new_block
returns c =
    c.seal.ensures ∙ ap sealed (c.write_field.ensures ∙ ap (with_field _ _) (c.write_business_type.ensures ∙ ap (with_business_type _) c.write_front.ensures))
