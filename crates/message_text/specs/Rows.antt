-- The rows of a table as a program has them.
use Rattle.std.specs.Prelude.{cond, List, [], ◌∷◌}
use Rattle.laws.specs.Lists.{same}
use Rattle.paper.specs.Layout.{Bytes}
use Rattle.layout.specs.declared.write.Field.{Field}
use Rattle.message_text.specs.declared.fill.Row.{Row}
use Rattle.message_text.specs.MessageText.{field}

-- the first row with a word; of no width where there is none
unfoldable pub field_by : (rows : List Row) (w : Bytes) → Field
field_by [] w = field 0 0
field_by (r ∷ rows) w = cond (same r.word.now w) r.field (field_by rows w)
