-- What the looks have found tells the sides of each trade.
use Rattle.accept.proofs.Laws.Touching.{sides_found}
use Rattle.accept.proofs.remarking.remark_all.Goals as goal

pub look_all-looked-requires : goal.look_all-looked-requires
look_all-looked-requires c = (c.requires.1, c.requires.2.sent)

pub remark_each-requires : goal.remark_each-requires
remark_each-requires c =
    let e = c.look_all-looked.ensures in
    (c.requires.0, c.requires.1, sides_found _ _ _ c.requires.2 _ _ _ e.0 e.1 e.2)

pub returns : goal.returns
returns c =
    (c.remark_each.ensures, c.look_all-looked.ensures.3)
