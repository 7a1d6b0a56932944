-- "Blocks": the layout. With Check, the only file that reads or writes a field by its offset; Opening lays out the day block in this order.
-- A day block is called day, a sender block s, a series block x, a rights block r, a block of any kind b.
use Rattle.std.specs.Prelude.{Bool, List, ◌++◌, ℕ, ◌+◌, ◌-◌, ◌*◌}
use Rattle.laws.specs.Tests.{◌and◌, is}
use Rattle.laws.specs.Lists.{every}
use Rattle.laws.specs.Bytes.{part, written, little, number}
use Rattle.laws.specs.Cut.{cut}
use Rattle.paper.specs.declared.Rule.{Rule}
use Rattle.paper.specs.Check.{sealed}

abbrev pub Bytes : Type 0
Bytes = List ℕ

abbrev pub Block : Type 0
Block = List ℕ

-- the whole blocks of some bytes
abbrev pub blocks : Bytes → List Block
blocks bytes = cut 512 bytes

-- every byte is 0
unfoldable pub zeros : Bytes → Bool
zeros bytes = every (λ byte. is byte 0) bytes

-- ---- every kind

unfoldable pub kind : Block → ℕ
kind b = number 1 0 b

unfoldable pub n_of : Block → ℕ
n_of b = number 1 1 b

-- ---- the day block

unfoldable pub lead : Block → ℕ
lead day = number 2 2 day

-- the clock is kept 10,080 above its value
unfoldable pub clock_plus_10080 : Block → ℕ
clock_plus_10080 day = number 2 4 day

-- "Byte 6 of the day block names the rule: 0 seller's, 1 lesser"
unfoldable pub rule_of : Block → Rule
rule_of day = record { 0 = number 1 6 day }

abbrev pub sellers_rule : Rule
sellers_rule = record { 0 = 0 }

abbrev pub lesser_rule : Rule
lesser_rule = record { 0 = 1 }

unfoldable pub same_rule : (a : Rule) (b : Rule) → Bool
same_rule a b = is a.0 b.0

unfoldable pub day_of_book : Block → Bytes
day_of_book day = part 8 8 day

unfoldable pub area : Block → Bytes
area day = part 24 16 day

-- of a day block and of a sender block: the same place in both
unfoldable pub receiver : Block → Bytes
receiver b = part 40 16 b

-- the bytes shown as 0
unfoldable pub day_zeros : Block → Bool
day_zeros day = zeros (part 7 1 day) and zeros (part 16 8 day) and zeros (part 56 452 day)

-- ---- sender and series blocks

-- the message version of a sender block, the series version of a series block
unfoldable pub version : Block → ℕ
version b = number 2 2 b

-- the message id of a sender block, the series id of a series block
unfoldable pub id_of : Block → Bytes
id_of b = part 8 16 b

-- ---- a sender block

unfoldable pub series_count : Block → ℕ
series_count s = number 2 4 s

unfoldable pub sender : Block → Bytes
sender s = part 24 16 s

unfoldable pub day_of_message : Block → Bytes
day_of_message s = part 56 8 s

-- the bytes of all hundred nets
unfoldable pub nets : Block → Bytes
nets s = part 108 400 s

-- the net at position k + 1, as the remainder by 4,294,967,296
unfoldable pub net : (s : Block) (k : ℕ) → ℕ
net s k = number 4 (108 + 4 * k) s

-- the bytes shown as 0, nets apart
unfoldable pub sender_zeros : Block → Bool
sender_zeros s = zeros (part 6 2 s) and zeros (part 64 44 s)

-- ---- a series block

unfoldable pub business_type : Block → ℕ
business_type x = number 1 4 x

unfoldable pub contract_type : Block → ℕ
contract_type x = number 1 5 x

unfoldable pub senders_slot : Block → ℕ
senders_slot x = number 2 6 x

unfoldable pub in_area : Block → Bytes
in_area x = part 24 16 x

unfoldable pub out_area : Block → Bytes
out_area x = part 40 16 x

unfoldable pub in_party : Block → Bytes
in_party x = part 56 16 x

unfoldable pub out_party : Block → Bytes
out_party x = part 72 16 x

-- in party and out party, in this order: what two series of one trade have in common
unfoldable pub pair : Block → Bytes
pair x = part 56 32 x

unfoldable pub agreement : Block → Bytes
agreement x = part 88 16 x

-- "the key grows to business type, areas, parties, contract type and agreement": these fields as they stand
unfoldable pub key : Block → Bytes
key x = part 4 2 x ++ part 24 80 x

-- count of differing positions, first and partner slot
unfoldable pub mark : Block → Bytes
mark x = part 104 4 x

-- "Byte 104 becomes that count": of the positions at which the counterpart differs
unfoldable pub differing : Block → ℕ
differing x = number 1 104 x

unfoldable pub first : Block → ℕ
first x = number 1 105 x

unfoldable pub partner : Block → ℕ
partner x = number 2 106 x

-- the bytes of all hundred quantities
unfoldable pub quantities : Block → Bytes
quantities x = part 108 400 x

-- the quantity at position k + 1, in kilowatts
unfoldable pub quantity : (x : Block) (k : ℕ) → ℕ
quantity x k = number 4 (108 + 4 * k) x

-- the same, of the bytes of a hundred quantities alone
unfoldable pub entry : (quantities : Bytes) (k : ℕ) → ℕ
entry quantities k = number 4 (4 * k) quantities

-- the bytes of the quantities, or of the nets, at the positions above n
unfoldable pub above_n : (n : ℕ) (b : Block) → Bytes
above_n n b = part (108 + 4 * n) (400 - 4 * n) b

-- ---- a rights block: "kind 4, series layout, type 3, holder as both parties, version, slot, id and mark 0"

unfoldable pub holder : Block → Bytes
holder r = in_party r

-- its "limit per position", at position k + 1, in kilowatts
unfoldable pub limit : (r : Block) (k : ℕ) → ℕ
limit r k = quantity r k

-- version; sender's slot and id; mark
unfoldable pub right_zeros : Block → Bool
right_zeros r = zeros (part 2 2 r) and zeros (part 6 18 r) and zeros (part 104 4 r)

-- "all but limits", and the check
unfoldable pub but_limits : Block → Bytes
but_limits r = part 0 108 r

-- ---- "0 in a message": the bytes of a message's blocks that must be 0, capacity fields and quantities excepted

unfoldable pub sender_zeros_in_message : Block → Bool
sender_zeros_in_message s = zeros (part 6 2 s) and zeros (part 64 444 s)

unfoldable pub series_zeros_in_message : Block → Bool
series_zeros_in_message x = zeros (part 6 2 x) and zeros (part 104 4 x)

-- ---- fields written

-- the check is put right with the clock
unfoldable pub with_clock : (minute : ℕ) (day : Block) → Block
with_clock minute day = sealed (written 4 (little 2 minute) day)

-- the check is put right with the mark
unfoldable pub with_senders_slot : (slot : ℕ) (x : Block) → Block
with_senders_slot slot x = written 6 (little 2 slot) x

unfoldable pub with_mark : (mark : Bytes) (x : Block) → Block
with_mark mark x = sealed (written 104 mark x)

unfoldable pub with_nets : (nets : Bytes) (s : Block) → Block
with_nets nets s = sealed (written 108 nets s)
