-- "Blocks": the ranges of the fields.
use Rattle.std.specs.Prelude.{Bool, ℕ, ◌/◌, ◌%◌, length}
use Rattle.laws.specs.Tests.{◌and◌, ◌or◌, is, upto, below}
use Rattle.paper.specs.declared.Rule.{Rule}
use Rattle.paper.specs.Layout.{Bytes, Block, zeros, sellers_rule, lesser_rule, same_rule, net, quantity, above_n}

-- "2 to 1,001 blocks", "2 to 201 whole blocks": whole blocks, from least to most of them
unfoldable pub whole_blocks : (least : ℕ) (most : ℕ) (bytes : Bytes) → Bool
whole_blocks least most bytes = is (length bytes % 512) 0 and upto least (length bytes / 512) and upto (length bytes / 512) most

-- "n is 92, 96 or 100"
unfoldable pub n_allowed : ℕ → Bool
n_allowed n = is n 92 or is n 96 or is n 100

-- "Lead 0 to 1,440"
unfoldable pub lead_allowed : ℕ → Bool
lead_allowed minutes = upto minutes 1440

-- "Clock −10,080 to 1,500": the minute is counted from −10,080
unfoldable pub clock_allowed : ℕ → Bool
clock_allowed minute = upto minute 11580

-- "soundness admits 0 and 1 there"
unfoldable pub rule_allowed : Rule → Bool
rule_allowed rule = same_rule rule sellers_rule or same_rule rule lesser_rule

-- "Versions 1 to 999"
unfoldable pub version_allowed : ℕ → Bool
version_allowed number = upto 1 number and upto number 999

-- "series in a message 1 to 200", and so of a sender
unfoldable pub count_allowed : ℕ → Bool
count_allowed count = upto 1 count and upto count 200

-- "contract type (1–99)"
unfoldable pub contract_allowed : ℕ → Bool
contract_allowed contract = upto 1 contract and upto contract 99

-- "Quantity 0 to 9,999,999"
unfoldable pub quantity_allowed : ℕ → Bool
quantity_allowed kilowatts = upto kilowatts 9999999

-- "a net lies within ±1,999,999,800"; a signed number of four bytes is its remainder by 4,294,967,296
unfoldable pub net_allowed : ℕ → Bool
net_allowed kilowatts = upto kilowatts 1999999800 or upto 2294967496 kilowatts

-- "within the stated ranges (nets too; positions above n zero)"
unfoldable pub quantities_allowed : (n : ℕ) (x : Block) → Bool
quantities_allowed n x = below (λ k. quantity_allowed (quantity x k)) n and zeros (above_n n x)

unfoldable pub nets_allowed : (n : ℕ) (s : Block) → Bool
nets_allowed n s = below (λ k. net_allowed (net s k)) n and zeros (above_n n s)
