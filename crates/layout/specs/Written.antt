-- A block with a field written, each by its name: with the paper's Layout, Check and Opening, and the tables of message_text, the only definitions that name an offset.
use Rattle.std.specs.Prelude.{List, [], ◌∷◌, ◌++◌, ℕ, zero, suc, ◌+◌, ◌*◌, ◌%◌, drop, get_or, set}
use Rattle.laws.specs.Bytes.{written, little}
use Rattle.paper.specs.Layout.{Bytes, Block}
use Rattle.paper.specs.Opening.{Opening}
use Rattle.layout.specs.declared.write.Field.{Field}
use Rattle.layout.specs.declared.write.Parameters.{Parameters}

-- ---- numbers

-- kind, n, and the number behind them: the lead of a day block, the version of a sender or a series block
unfoldable pub with_front : (kind n number : ℕ) → Block → Block
with_front kind n number b = written 2 (little 2 number) (set (set b 0 kind) 1 n)

unfoldable pub with_series_count : ℕ → Block → Block
with_series_count count s = written 4 (little 2 count) s

unfoldable pub with_business_type : ℕ → Block → Block
with_business_type business x = set x 4 business

-- ---- fields of bytes

-- the parameters as the code holds them
abbrev pub opening_by : Parameters → Opening
opening_by p = record { n = p.n; lead = p.lead; rule = p.rule; day = p.day.now; area = p.area.now; receiver = p.receiver.now }

-- the fields of a day block that an opening gives
unfoldable pub with_day_fields : Opening → Block → Block
with_day_fields o d = written 40 o.receiver (written 24 o.area (written 8 o.day (set (with_front 3 o.n o.lead d) 6 o.rule.0)))

-- m bytes: v, then zero bytes
unfoldable pub padded : ℕ → Bytes → Bytes
padded zero v = []
padded (suc m) v = get_or v 0 0 ∷ padded m (drop 1 v)

unfoldable pub with_field : Field → Bytes → Block → Block
with_field f v b = written f.at (padded f.width v) b

-- ---- quantities and nets

-- at position k + 1
unfoldable pub with_quantity : (k kilowatts : ℕ) → Block → Block
with_quantity k kilowatts x = written (108 + 4 * k) (little 4 kilowatts) x

-- the first k of some numbers as bytes, four each
unfoldable pub entries : List ℕ → ℕ → Bytes
entries v zero = []
entries v (suc k) = entries v k ++ little 4 (get_or v k 0 % 4294967296)

-- all hundred
unfoldable pub with_entries : List ℕ → Block → Block
with_entries v b = written 108 (entries v 100) b
