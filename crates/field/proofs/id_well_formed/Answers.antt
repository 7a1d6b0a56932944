-- The field is cut where its text ends: the characters stand before, the zero bytes behind.
use Rattle.laws.specs.Kit.{ap, ◌∙◌, ◌and◌, is, upto}
use Rattle.laws.specs.Lists.{every}
use Rattle.laws.specs.Lists.Keep.{until_take}
use Rattle.paper.specs.Layout.{zeros}
use Rattle.paper.specs.Ids.{id_character, id_text, id_well_formed}
use Rattle.laws.specs.Slices.{rest_slice}
use Rattle.field.proofs.id_well_formed.Goals as goal

pub returns : goal.returns
unfolding id_well_formed ◌and◌ is upto id_text
returns c =
    let s = c.args.s.now in
    let n = c.length_before-n.ensures.0 in
    let front = c.all_id_characters.ensures ∙ ap (every id_character) (until_take _ s _ n) in
    let back = c.all_zero.ensures ∙ ap zeros (rest_slice _ s) in
    rw (front, back, n)
