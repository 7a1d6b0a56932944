-- Five searches, then the rules.
use Rattle.laws.specs.Kit.{ap, ◌∙◌}
use Rattle.paper.specs.Layout.{sender}
use Rattle.judge.proofs.Laws.Places.{sizes}
use Rattle.std.proofs.Common.{rules}
use Rattle.judge.proofs.series.walk.Goals as goal

pub look_up-requires : goal.look_up-requires
look_up-requires c = let z = sizes _ _ c.series_of-series.ensures c.requires.0 in (z.1, z.1, search rules)

pub look_up-requires-2 : goal.look_up-requires-2
look_up-requires-2 c = let z = sizes _ _ c.series_of-series.ensures c.requires.0 in (z.1, z.1, search rules)

pub look_up-requires-3 : goal.look_up-requires-3
look_up-requires-3 c = let z = sizes _ _ c.series_of-series.ensures c.requires.0 in (z.0, z.1, search rules)

pub look_up-requires-4 : goal.look_up-requires-4
look_up-requires-4 c =
    let z = sizes _ _ c.series_of-series.ensures c.requires.0 in
    (z.0, z.1, c.requires.1)

pub look_up_rights-requires : goal.look_up_rights-requires
look_up_rights-requires c =
    let z = sizes _ _ c.series_of-series.ensures c.requires.0 in
    (z.0, z.1, search rules)

pub each_series-requires : goal.each_series-requires
each_series-requires c =
    let e = c.series_of-series.ensures in
    let f = c.sender.ensures ∙ ap sender c.head_of.ensures in
    (c.requires.0, record { first_ids_found = rw e at c.look_up.ensures; first_keys_found = rw e at c.look_up-2.ensures; stored_ids_found = rw e at c.look_up-3.ensures; stored_keys = rw e at c.look_up-4.ensures; rights_held = rw (e, f) at c.look_up_rights.ensures })

pub returns : goal.returns
returns c = (c.each_series.ensures, rw c.series_of-series.ensures at c.look_up-4.ensures)
