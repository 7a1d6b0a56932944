-- How many stand before the first free slot; all of them where there is none.
use Rattle.std.specs.Option.{unwrap_or}
use Rattle.laws.specs.Kit.{arith, sym, ap, ◌∙◌}
use Rattle.laws.specs.Lists.Keep.{until_length}
use Rattle.laws.specs.Cut.{cut}
use Rattle.laws.specs.Cut.Laws.{cut_length}
use Rattle.laws.specs.Chains.{until_found, blocks_road}
use Rattle.paper.specs.Book.{is_free}
use Rattle.std.proofs.Common.{rules}
use Rattle.slots.proofs.used_count.Goals as goal

pub returns : goal.returns
returns c =
    let e =
    c.unwrap_or.ensures ∙ ap (λ n. unwrap_or c.position.result n) (sym (cut_length 512 c.args.slots.now))
    ∙ until_found is_free (blocks_road 512 _ (omega arith) c.chunks_exact.ensures.rest c.chunks_exact.ensures.size) (λ x b q k. search rules) c.position.ensures.ran
    in
    (e, omega (arith, e, until_length is_free (cut 512 c.args.slots.now), cut_length 512 c.args.slots.now))
