-- The text that is put together is the definition's.
use Rattle.laws.specs.Kit.{sym, ap, ◌∙◌}
use Rattle.laws.specs.Base.{ap₂, zero-add}
use Rattle.laws.specs.Bytes.{part}
use Rattle.desk_text.specs.Put.{within}
use Rattle.cases_site.specs.Site.{held, sellers_text}
use Rattle.commission.proofs.book.sold.Goals as goal

pub returns : goal.returns
unfolding sellers_text held
returns c =
    let t = c.sellers_text-k.ensures in
    rw (sym (c.part_of.ensures ∙ ap₂ (part 0) (t.size ∙ ap (λ k. within k 512) (zero-add _)) t.text)) c.submitted.ensures
