-- The piece ends as many bytes behind its start as it is long, and the byte that ends it is passed with it.
use Rattle.std.specs.Prelude.{◌+◌}
use Rattle.laws.specs.Kit.{◌∙◌, ap, drop}
use Rattle.laws.specs.Slices.{rest_slice}
use Rattle.desk_text.specs.Words.{past_piece, first_piece}
use Rattle.desk_text.proofs.Laws.{drop_inside}
use Rattle.desk_text.proofs.words.past_piece.Goals as goal

pub returns : goal.returns
unfolding past_piece first_piece
returns c =
    let s = c.args.s.now in
    rest_slice c.min.result s ∙ drop_inside _ _ s c.min.ensures ∙ ap (λ n. drop (n + 1) s) c.length_before-behind.ensures.0
