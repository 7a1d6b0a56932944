-- No bytes are no text; others stand behind the space.
use Rattle.laws.specs.Kit.{sym, ◌∙◌, is}
use Rattle.desk_text.specs.Put.Laws.{none, then}
use Rattle.stream.specs.Line.{bytes_text}
use Rattle.stream.proofs.line.put_bytes.Goals as goal

pub returns-then-is_empty : goal.returns-then-is_empty
unfolding bytes_text is
returns-then-is_empty c = rw (sym c.is_empty.ensures ∙ c.if-is_empty.true) (none _ _ c.requires)

pub returns : goal.returns
unfolding bytes_text is
returns c =
    rw (sym c.is_empty.ensures ∙ c.if-is_empty.false) (then c.put-behind.ensures c.put_hex.ensures)
