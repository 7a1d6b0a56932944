-- Of the blocks of its group behind it, the first that clashes is sought.
use Rattle.laws.specs.Kit.{arith, ap, ◌∙◌, get_or, []}
use Rattle.std.specs.Prelude.{◌≡◌, ◌+◌, ◌-◌, ◌/◌, ◌<◌, length}
use Rattle.std.proofs.Common.{rules}
use lib.Dec.{eqb}
use Rattle.laws.specs.Cut.{cut}
use Rattle.laws.specs.Cut.Laws.{cut_length}
use Rattle.index.specs.Linked.Laws.{in_bucket, next_of, next_ends}
use Rattle.sound.specs.Used.{clashes}
use Rattle.sound.specs.Links.{group, in_group}
use Rattle.sound.proofs.Laws.Clear.{own_group, clash_group, none_clashes}
use Rattle.sound.proofs.Laws.Tags.{tag_at}
use Rattle.sound.proofs.apart.clear_of_later.Goals as goal

pub find_from-requires : goal.find_from-requires
find_from-requires c =
    let p = c.requires in
    let l = cut 512 c.args.us.now in
    let i : c.args.i + 1 - 1 ≡ c.args.i = omega arith in
    let first = rw i at c.next-next.ensures.0 in
    let ends = next_ends in_group l _ p.0 (rw (cut_length 512 _) p.2) _ _ (rw (cut_length 512 _) p.3) (own_group (get_or l c.args.i [])) in
    (rw first ends, λ j h. let t = tag_at c.args.us.now (length c.args.us.now / 512) c.args.tags.now p.1 c.args.i p.3 (record { id = 0; key = 0 }) in search rules)

pub returns : goal.returns
returns c =
    let p = c.requires in
    let l = cut 512 c.args.us.now in
    let a = get_or l c.args.i [] in
    let i : c.args.i + 1 - 1 ≡ c.args.i = omega arith in
    let first = rw i at c.next-next.ensures.0 in
    ap (λ n. eqb n 0)
    (c.find_from.ensures.0 l (in_group (group a)) (clashes a) (c.args.i + 1)
    (in_bucket in_group l _ p.0 _ (clashes a) _ _ (clash_group a) (λ j b h k. let w : j < length c.args.us.now / 512 = rw (cut_length 512 _) at h in search rules))
    (first ∙ next_of in_group l _ p.0 _ _ (rw (cut_length 512 _) p.3) (own_group a)))
    ∙ none_clashes _ _ _
