-- The block has the one byte that the definition puts there.
use Rattle.std.specs.Prelude.{◌∷◌}
use Rattle.laws.specs.Kit.{ap, ◌∙◌}
use Rattle.laws.specs.Base.{ap₂, [], ℕ, replicate}
use Rattle.laws.specs.Bytes.{written}
use Rattle.paper.specs.Check.{check_of}
use Rattle.std.specs.Prelude.{Option}
use Rattle.std.specs.Option.{unwrap_or}
use Rattle.desk_text.specs.Arguments.{byte_value}
use Rattle.site_leaves.specs.Leaves.{block_with}
use Rattle.site_leaves.proofs.leaves.check.Goals as goal

pub returns : goal.returns
unfolding block_with
returns c =
    c.check_of.ensures
    ∙ ap check_of
    (c.put_byte.ensures
    ∙ ap₂ (λ (a b : ℕ). written a (b ∷ []) (replicate 512 0))
    (c.unwrap_or.ensures ∙ ap (λ (q : Option ℕ). unwrap_or q 0) c.number_read.ensures)
    (c.byte_value.ensures ∙ ap byte_value (c.unwrap_or-2.ensures ∙ ap (λ (q : Option ℕ). unwrap_or q 0) c.number_read-2.ensures)))
