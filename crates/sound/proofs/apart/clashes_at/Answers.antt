-- Blocks that are not alike by their tags do not clash.
use Rattle.laws.specs.Kit.{sym, ◌∙◌}
use Rattle.sound.proofs.Laws.Tags.{tags_apart}
use Rattle.sound.proofs.apart.clashes_at.Goals as goal

pub returns-else-alike : goal.returns-else-alike
returns-else-alike c =
    let p = c.requires in
    λ h. c.if-alike.false ∙ tags_apart _ _ _ _ _ _ _ p.0 p.1 p.2 h (sym c.alike.ensures ∙ c.if-alike.false)
