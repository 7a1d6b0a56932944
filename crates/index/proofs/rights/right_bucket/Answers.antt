-- A right that e holds is linked in the bucket of its agreement, and no other block is linked.
use Rattle.std.specs.Prelude.{◌≡◌}
use Rattle.laws.specs.Kit.{◌∙◌, sym}
use Rattle.std.proofs.Common.{rules}
use Rattle.paper.specs.Layout.{agreement}
use Rattle.paper.specs.Book.{is_right_of}
use Rattle.index.specs.Linked.{bucket}
use Rattle.index.specs.Rights.{right_in}
use Rattle.index.specs.Linked.Laws.{told_where}
use Rattle.index.specs.Rights.Laws.{not_right, right_out, right_told}
use Rattle.index.proofs.rights.right_bucket.Goals as goal
use Rattle.index.proofs.rights.right_bucket.Goals.{then-is_right, else-is_right}

pub returns : goal.returns
returns c =
    let e : c.if-is_right.then ≡ is_right_of c.args.e.now c.args.x.now = elim c.if-is_right.branch [
      | then-is_right w ↦ w.then-is ∙ w.is_right_of.ensures
      | else-is_right w ↦ w.then-is ∙ w.if-is_right.false ∙ sym (not_right _ _ (sym c.is_right.ensures ∙ w.if-is_right.false))
    ] in
    told_where (right_in c.args.e.now) c.args.x.now _ (bucket (agreement c.args.x.now)) _ (c.then.ensures.variant ∙ e) c.then.ensures.some (λ b k. search rules) (right_told _ _) (right_out _ _)
