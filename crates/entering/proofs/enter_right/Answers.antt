-- The block is written only where there is a place, and behind the used slots.
use Rattle.laws.specs.Kit.{refl, sym, ◌∙◌}
use Rattle.entering.proofs.Laws.{refused, refusal_other, written_in}
use Rattle.entering.proofs.enter_right.Goals as goal

pub returns-in-Ok : goal.returns-in-Ok
returns-in-Ok c = written_in _ _ c.in-Ok.ensures.number refl c.in-Ok.ensures.place c.write_bytes.ensures

pub returns-in-Err : goal.returns-in-Err
returns-in-Err c =
    refused _ _ (c.number.ensures ∙ c.in-Err.ensures.number) (λ z. refusal_other c.in-Err.refusal (sym c.number.ensures ∙ z))
