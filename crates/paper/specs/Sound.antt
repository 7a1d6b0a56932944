-- "Sound book". day is the day block, us are the used slots, s is a sender block, x a series block and r a rights block among them; ours is the day block's area.
use Rattle.std.specs.Prelude.{Bool, cond, List, ℕ, length, take, drop}
use Rattle.laws.specs.Tests.{◌and◌, ◌or◌, neg, is, upto}
use Rattle.laws.specs.Lists.{same, every, apart, count}
use Rattle.paper.specs.Check.{check_right}
use Rattle.paper.specs.Layout.{Bytes, Block, blocks, zeros, kind, n_of, lead, clock_plus_10080, rule_of, day_of_book, area, receiver, day_zeros, version, id_of, series_count, sender, day_of_message, sender_zeros, business_type, contract_type, senders_slot, in_area, out_area, in_party, out_party, pair, key, agreement, differing, first, partner, right_zeros, but_limits, holder}
use Rattle.paper.specs.Ranges.{whole_blocks, n_allowed, lead_allowed, clock_allowed, rule_allowed, version_allowed, contract_allowed, count_allowed, quantities_allowed, nets_allowed}
use Rattle.paper.specs.Ids.{id_well_formed, day_well_formed}
use Rattle.paper.specs.Eic.{eic_valid}
use Rattle.paper.specs.Book.{day_block, slots, is_free, used, is_sender, is_series, is_right, is_trade, with_capacity, is_external, numbered, slot_of, is_series_of}

-- ---- "day block as above with valid EICs"

unfoldable pub day_fields : (day : Block) → Bool
day_fields day = is (kind day) 3 and n_allowed (n_of day) and lead_allowed (lead day) and clock_allowed (clock_plus_10080 day) and day_well_formed (day_of_book day)

unfoldable pub day_sound : (day : Block) → Bool
day_sound day = day_fields day and rule_allowed (rule_of day) and eic_valid (area day) and eic_valid (receiver day) and day_zeros day

-- ---- "used slots first, free ones after"

unfoldable pub used_first : (book : Bytes) → Bool
used_first book = every is_free (drop (length (used book)) (slots book))

-- ---- a sender block

-- "each sender's count equals its series"
unfoldable pub count_sound : (us : List Block) (s : Block) → Bool
count_sound us s = count_allowed (series_count s) and is (series_count s) (count (is_series_of (slot_of us (sender s))) us)

-- "within the stated ranges …, ids well formed, every byte shown as 0 in the layout 0, n … equal to the day block's"; "sender EICs valid"
unfoldable pub sender_fields : (day : Block) (s : Block) → Bool
sender_fields day s = is (n_of s) (n_of day) and version_allowed (version s) and id_well_formed (id_of s) and eic_valid (sender s) and sender_zeros s

-- "day … and receiver equal to the day block's"; "nets too"
unfoldable pub sender_day_and_nets : (day : Block) (s : Block) → Bool
sender_day_and_nets day s = same (receiver s) (receiver day) and same (day_of_message s) (day_of_book day) and nets_allowed (n_of day) s

unfoldable pub sender_sound : (day : Block) (us : List Block) (s : Block) → Bool
sender_sound day us s = sender_fields day s and sender_day_and_nets day s and count_sound us s

-- ---- a series block

-- two parties of which one is e; distinct, but of an external schedule "in and out party may both be the sender"
unfoldable pub parties_of : (external : Bool) (e : Bytes) (parties : Bytes) → Bool
parties_of external e parties =
    (external or neg (same (take 16 parties) (drop 16 parties))) and (same (take 16 parties) e or same (drop 16 parties) e)

-- "For rights, A03 and A06, exactly one area is ours, the other a valid EIC"
unfoldable pub one_area_ours : (ours : Bytes) (x : Block) → Bool
one_area_ours ours x =
    cond (same (in_area x) ours) (neg (same (out_area x) ours) and eic_valid (out_area x)) (same (out_area x) ours and eic_valid (in_area x))

-- "area (a series' two areas) … equal to the day block's", of an external schedule one of them
unfoldable pub areas_allowed : (ours : Bytes) (x : Block) → Bool
areas_allowed ours x = cond (is_external x) (one_area_ours ours x) (same (in_area x) ours and same (out_area x) ours)

-- "business type 2", and "A06 (no capacity) and A03 (with capacity)"
unfoldable pub type_allowed : (x : Block) → Bool
type_allowed x = is_trade x or is_external x

-- contract type and agreement of a right, and of a series on one
unfoldable pub capacity_named : (x : Block) → Bool
capacity_named x = contract_allowed (contract_type x) and id_well_formed (agreement x)

-- "capacity fields zero", but for A03
unfoldable pub capacity_allowed : (x : Block) → Bool
capacity_allowed x = cond (with_capacity x) (capacity_named x) (is (contract_type x) 0 and zeros (agreement x))

-- "each series names a sender's slot, has two distinct … parties of which one is that sender"
unfoldable pub owner_sound : (us : List Block) (x : Block) → Bool
owner_sound us x = is_sender (numbered us (senders_slot x)) and parties_of (is_external x) (sender (numbered us (senders_slot x))) (pair x)

-- "partner 0 or a series slot"
unfoldable pub partner_sound : (us : List Block) (x : Block) → Bool
partner_sound us x = is (partner x) 0 or is_series (numbered us (partner x))

unfoldable pub series_fields : (day : Block) (x : Block) → Bool
series_fields day x = is (n_of x) (n_of day) and version_allowed (version x) and type_allowed x and capacity_allowed x and id_well_formed (id_of x)

-- "valid parties"
unfoldable pub series_codes : (day : Block) (x : Block) → Bool
series_codes day x = areas_allowed (area day) x and eic_valid (in_party x) and eic_valid (out_party x)

-- "first at most n"
unfoldable pub series_values : (day : Block) (x : Block) → Bool
series_values day x = upto (first x) (n_of day) and quantities_allowed (n_of day) x

unfoldable pub series_sound : (day : Block) (us : List Block) (x : Block) → Bool
series_sound day us x = series_fields day x and series_codes day x and series_values day x and owner_sound us x and partner_sound us x

-- ---- a rights block

-- "type 3 …, version, slot, id and mark 0"; "contract type (1–99), agreement"
unfoldable pub right_fields : (day : Block) (r : Block) → Bool
right_fields day r = is (n_of r) (n_of day) and with_capacity r and capacity_named r and right_zeros r

-- "holder as both parties", a valid EIC; "areas"; "a limit per position"
unfoldable pub right_sound : (day : Block) (r : Block) → Bool
right_sound day r =
    right_fields day r and one_area_ours (area day) r and eic_valid (holder r) and same (out_party r) (holder r) and quantities_allowed (n_of day) r

-- ---- the book

-- a used slot holds a sender, a right or a series: "Soundness admits kind 4 and these series"
unfoldable pub used_sound : (day : Block) (us : List Block) (b : Block) → Bool
used_sound day us b = cond (is_sender b) (sender_sound day us b) (cond (is_right b) (right_sound day b) (is_series b and series_sound day us b))

-- "sender EICs … distinct": a and b are senders with one EIC
unfoldable pub same_sender : (a : Block) (b : Block) → Bool
same_sender a b = is_sender a and is_sender b and same (sender a) (sender b)

-- "within a sender no series id twice and no … pair twice", in whose place "the key grows": a and b are series of one sender with one id or one key
unfoldable pub same_series : (a : Block) (b : Block) → Bool
same_series a b = is_series a and is_series b and is (senders_slot a) (senders_slot b) and (same (id_of a) (id_of b) or same (key a) (key b))

-- "equal to a stored right in all but limits", which is "entered once": a and b are two such rights
unfoldable pub same_right : (a : Block) (b : Block) → Bool
same_right a b = is_right a and is_right b and same (but_limits a) (but_limits b)

-- byte 104 of a block that is a series: allowed is the test of it, which is told n
unfoldable pub differing_sound : (allowed : ℕ → ℕ → Bool) (n : ℕ) (b : Block) → Bool
differing_sound allowed n b = neg (is_series b) or allowed n (differing b)

-- soundness over that test
unfoldable pub sound_over : (allowed : ℕ → ℕ → Bool) (book : Bytes) → Bool
sound_over allowed book =
    whole_blocks 2 1001 book
    and every check_right (blocks book)
    and day_sound (day_block book)
    and used_first book
    and every (used_sound (day_block book) (used book)) (used book)
    and apart same_sender (used book)
    and apart same_series (used book)
    and apart same_right (used book)
    and every (differing_sound allowed (n_of (day_block book))) (used book)

-- "Soundness asks byte 104 at most n"
unfoldable pub differing_allowed : (n : ℕ) (differing : ℕ) → Bool
differing_allowed n differing = upto differing n

unfoldable pub sound : (book : Bytes) → Bool
sound book = sound_over differing_allowed book
