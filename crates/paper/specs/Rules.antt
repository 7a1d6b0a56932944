-- "Submission: order of checks". A rule is the test that it is broken. Its arguments come in this order: the day block or its n; what is stored of
-- the sender, and the number of free slots; the message; the position.
-- known is the sender's stored sender block, the empty block for a new sender, own are its stored series and rights those that it holds; head is the
-- message's first block, y a series of the message, x what is stored of it and r the right that it names.
use Rattle.std.specs.Prelude.{Bool, cond, List, [], ◌∷◌, ◌++◌, ℕ, ◌+◌, ◌-◌, ◌*◌}
use Rattle.std.proofs.Math.Option.{get_or}
use Rattle.laws.specs.Tests.{◌and◌, ◌or◌, neg, is, less, upto}
use Rattle.laws.specs.Lists.{same, find, has, count, total}
use Rattle.laws.specs.Order.{first as first_refusal, along}
use Rattle.paper.specs.declared.Verdict.{Verdict}
use Rattle.paper.specs.Layout.{Bytes, Block, n_of, lead, clock_plus_10080, day_of_book, area, receiver, version, id_of, sender, day_of_message, contract_type, in_area, out_area, in_party, out_party, pair, key, agreement, quantities, quantity, limit}
use Rattle.paper.specs.Ids.{id_well_formed}
use Rattle.paper.specs.Ranges.{version_allowed}
use Rattle.paper.specs.Eic.{eic_number, eic_number_of_two, eic_valid}
use Rattle.paper.specs.Book.{day_block, used, free_slots, is_sender, is_series, with_capacity, is_external, id_is, key_is, own_sender, own_series, own_rights}
use Rattle.paper.specs.Sound.{parties_of, areas_allowed, type_allowed, capacity_allowed, sound}
use Rattle.paper.specs.Message.{head_of, series_of, rule2}
use Rattle.paper.specs.Codes.{reason_code}

-- ---- "The first broken rule is given, with its code, series number and position (0 where none)"; the EIC check's number "as one more field"

abbrev pub verdict_of : (number : ℕ) (series : ℕ) (position : ℕ) (character : ℕ) → Verdict
verdict_of number series position character =
    record { number = number; code = reason_code number; series = series; position = record { 0 = position }; character = character }

-- "Accepted (0, A01)"
abbrev pub fine : Verdict
fine = verdict_of 0 0 0 0

abbrev pub number_of : Verdict → ℕ
number_of v = v.number

-- v, or w where v is no refusal
infixr 20 ◌then◌
unfoldable pub ◌then◌ : (v : Verdict) (w : Verdict) → Verdict
v then w = first_refusal number_of v w

unfoldable pub broken : (test : Bool) (number : ℕ) (series : ℕ) (position : ℕ) → Verdict
broken test number series position = cond test (verdict_of number series position 0) fine

-- "submission (4, 8) pass that number on …, 0 elsewhere": character is the number that the EIC check gives
unfoldable pub broken_by : (test : Bool) (number : ℕ) (series : ℕ) (character : ℕ) → Verdict
broken_by test number series character = cond test (verdict_of number series 0 character) fine

-- "by ascending position over all 100"; at k is the verdict on position k + 1
unfoldable pub over_positions : (at : ℕ → Verdict) → Verdict
over_positions at = along number_of fine at 100 0

-- ---- rules 1 and 3 to 6: the book, the message's first block

-- "book not sound"
unfoldable pub rule1 : (book : Bytes) → Bool
rule1 book = neg (sound book)

-- "receiver is not the book's"
unfoldable pub rule3 : (day : Block) (head : Block) → Bool
rule3 day head = neg (same (receiver head) (receiver day))

-- "sender not a valid EIC"
unfoldable pub rule4 : (head : Block) → Bool
rule4 head = neg (eic_valid (sender head))

-- "day or n is not the book's"
unfoldable pub rule5 : (day : Block) (head : Block) → Bool
rule5 day head = neg (same (day_of_message head) (day_of_book day)) or neg (is (n_of head) (n_of day))

-- "known sender: other id"; of the version C-12: "any version above the stored one up to 999, and from a new sender any from 1"
unfoldable pub id_or_version_broken : (known : Block) (head : Block) → Bool
id_or_version_broken known head =
    cond (is_sender known)
    (neg (same (id_of head) (id_of known)) or upto (version head) (version known) or less 999 (version head))
    (neg (version_allowed (version head)))

-- "message id malformed", or these
unfoldable pub rule6 : (known : Block) (head : Block) → Bool
rule6 known head = neg (id_well_formed (id_of head)) or id_or_version_broken known head

-- ---- rules 7 to 10: a series y of the message; seen are those earlier in it

-- x has the id of y and another key
unfoldable pub with_other_key : (y : Block) (x : Block) → Bool
with_other_key y x = id_is (id_of y) x and neg (key_is (key y) x)

-- x has the key of y and another id
unfoldable pub with_other_id : (y : Block) (x : Block) → Bool
with_other_id y x = key_is (key y) x and neg (id_is (id_of y) x)

-- "series id malformed, or seen earlier in the message, or stored for this sender with another pair; or its pair seen earlier, or stored under another id":
-- "rules 7 to 10 read the new key", here in the pair's place
unfoldable pub rule7 : (own : List Block) (seen : List Block) (y : Block) → Bool
rule7 own seen y =
    neg (id_well_formed (id_of y))
    or has (id_is (id_of y)) seen
    or has (with_other_key y) own
    or has (key_is (key y)) seen
    or has (with_other_id y) own

-- "a party not a valid EIC, both equal, or neither the sender"; of an external schedule both may be the sender
unfoldable pub rule8 : (head : Block) (y : Block) → Bool
rule8 head y = neg (eic_valid (in_party y)) or neg (eic_valid (out_party y)) or neg (parties_of (is_external y) (sender head) (pair y))

-- "for 8 the in party is judged first, and parties equal or neither the sender give 0": both codes are good then
unfoldable pub wrong_character : (y : Block) → ℕ
wrong_character y = eic_number_of_two (in_party y) (out_party y)

-- "either area is not the book's"; of an external schedule not "exactly one", or the other no valid EIC
unfoldable pub rule9 : (day : Block) (y : Block) → Bool
rule9 day y = neg (areas_allowed (area day) y)

-- "business type not 2 (A02), or a capacity field not 0"; of A03 what soundness asks of these fields
unfoldable pub rule10 : (y : Block) → Bool
rule10 y = neg (type_allowed y) or neg (capacity_allowed y)

-- ---- rules 11 to 13: position k + 1 of a series y; n is the day's

-- "quantity with top bit set, position up to n"
unfoldable pub rule11 : (n : ℕ) (y : Block) (k : ℕ) → Bool
rule11 n y k = less k n and upto 2147483648 (quantity y k)

-- "otherwise above 9,999,999, position up to n": where rule 11 is broken, it comes first
unfoldable pub rule12 : (n : ℕ) (y : Block) (k : ℕ) → Bool
rule12 n y k = less k n and less 9999999 (quantity y k)

-- "not 0 at a position above n"
unfoldable pub rule13 : (n : ℕ) (y : Block) (k : ℕ) → Bool
rule13 n y k = upto n k and neg (is (quantity y k) 0)

-- ---- rules 18 and 19, "at series level after 13 and before 14"

-- the right r has the areas, the contract type and the agreement that y names
unfoldable pub names : (y : Block) (r : Block) → Bool
names y r =
    same (in_area y) (in_area r) and same (out_area y) (out_area r) and is (contract_type y) (contract_type r) and same (agreement y) (agreement r)

-- "an A03 series names no right the sender holds"
unfoldable pub rule18 : (rights : List Block) (y : Block) → Bool
rule18 rights y = with_capacity y and neg (has (names y) rights)

-- the right that y names, the empty block where there is none
unfoldable pub right_for : (rights : List Block) (y : Block) → Block
right_for rights y = get_or (find (names y) rights) []

-- the quantities at position k + 1 of the series on the right r
unfoldable pub sum_on : (r : Block) (series : List Block) (k : ℕ) → ℕ
sum_on r series k = total (λ z. cond (with_capacity z and names z r) (quantity z k) 0) series

-- "At each position the sum of this series and the earlier ones of the message on one right stays at or below its limit"; seen are the earlier ones
unfoldable pub rule19 : (n : ℕ) (r : Block) (seen : List Block) (y : Block) (k : ℕ) → Bool
rule19 n r seen y k = with_capacity y and less k n and less (limit r k) (sum_on r seen k + quantity y k)

-- ---- rules 14 and 15: x is what is stored of the series y, the empty block where it is new

-- A series is known again by its key: past rule 7 id and key go together
unfoldable pub stored_of : (own : List Block) (y : Block) → Block
stored_of own y = get_or (find (key_is (key y)) own) []

-- "position p is open exactly when clock + lead ≤ 15 × (p − 1)"; 10,080 is added on both sides
unfoldable pub is_open : (day : Block) (position : ℕ) → Bool
is_open day position = upto (clock_plus_10080 day + lead day) (15 * (position - 1) + 10080)

unfoldable pub closed : (day : Block) (position : ℕ) → Bool
closed day position = neg (is_open day position)

-- "a closed position differs from the stored value (0 for a new series)"
unfoldable pub rule14 : (day : Block) (x : Block) (y : Block) (k : ℕ) → Bool
rule14 day x y k = closed day (k + 1) and neg (is (quantity y k) (quantity x k))

-- "equal to the message version if the series is new or any quantity differs, otherwise the stored version"
unfoldable pub series_version : (x : Block) (head : Block) (y : Block) → ℕ
series_version x head y = cond (neg (is_series x) or neg (same (quantities x) (quantities y))) (version head) (version x)

-- "series version wrong"
unfoldable pub rule15 : (x : Block) (head : Block) (y : Block) → Bool
rule15 x head y = neg (is (version y) (series_version x head y))

-- ---- rules 16 and 17: series are all of the message's

-- the stored series x has none in the message
unfoldable pub absent : (series : List Block) (x : Block) → Bool
absent series x = neg (has (key_is (key x)) series)

-- "a stored series of the sender is absent"
unfoldable pub rule16 : (own : List Block) (series : List Block) → Bool
rule16 own series = has (absent series) own

-- y is not stored
unfoldable pub is_new : (own : List Block) (y : Block) → Bool
is_new own y = neg (has (key_is (key y)) own)

-- how many new blocks: the sender's if it is new, and the new series
unfoldable pub new_blocks : (known : Block) (own : List Block) (series : List Block) → ℕ
new_blocks known own series = cond (is_sender known) 0 1 + count (is_new own) series

-- "new blocks outnumber free slots"
unfoldable pub rule17 : (known : Block) (own : List Block) (free : ℕ) (series : List Block) → Bool
rule17 known own free series = less free (new_blocks known own series)

-- ---- the order: number is that of the series y in the message

unfoldable pub head_verdict : (day : Block) (known : Block) (head : Block) → Verdict
head_verdict day known head =
    broken (rule3 day head) 3 0 0
    then broken_by (rule4 head) 4 0 (eic_number (sender head))
    then broken (rule5 day head) 5 0 0
    then broken (rule6 known head) 6 0 0

unfoldable pub form_verdict : (day : Block) (own : List Block) (head : Block) (seen : List Block) (number : ℕ) (y : Block) → Verdict
form_verdict day own head seen number y =
    broken (rule7 own seen y) 7 number 0
    then broken_by (rule8 head y) 8 number (wrong_character y)
    then broken (rule9 day y) 9 number 0
    then broken (rule10 y) 10 number 0

-- "11 to 13 go by ascending position over all 100; then 14 likewise"
unfoldable pub quantity_verdict : (n : ℕ) (number : ℕ) (y : Block) (k : ℕ) → Verdict
quantity_verdict n number y k =
    broken (rule11 n y k) 11 number (k + 1) then broken (rule12 n y k) 12 number (k + 1) then broken (rule13 n y k) 13 number (k + 1)

unfoldable pub closed_verdict : (day : Block) (x : Block) (number : ℕ) (y : Block) (k : ℕ) → Verdict
closed_verdict day x number y k = broken (rule14 day x y k) 14 number (k + 1)

unfoldable pub limit_verdict : (n : ℕ) (r : Block) (seen : List Block) (number : ℕ) (y : Block) (k : ℕ) → Verdict
limit_verdict n r seen number y k = broken (rule19 n r seen y k) 19 number (k + 1)

-- "19 above the limit, its position given": the lowest
unfoldable pub right_verdict : (n : ℕ) (rights : List Block) (seen : List Block) (number : ℕ) (y : Block) → Verdict
right_verdict n rights seen number y =
    broken (rule18 rights y) 18 number 0 then over_positions (limit_verdict n (right_for rights y) seen number y)

unfoldable pub late_verdict : (day : Block) (x : Block) (head : Block) (number : ℕ) (y : Block) → Verdict
late_verdict day x head number y = over_positions (closed_verdict day x number y) then broken (rule15 x head y) 15 number 0

unfoldable pub values_verdict : (day : Block) (x : Block) (rights : List Block) (head : Block) (seen : List Block) (number : ℕ) (y : Block) → Verdict
values_verdict day x rights head seen number y =
    over_positions (quantity_verdict (n_of day) number y)
    then right_verdict (n_of day) rights seen number y
    then late_verdict day x head number y

unfoldable pub series_verdict : (day : Block) (own : List Block) (rights : List Block) (head : Block) (seen : List Block) (number : ℕ) (y : Block) → Verdict
series_verdict day own rights head seen number y =
    form_verdict day own head seen number y then values_verdict day (stored_of own y) rights head seen number y

-- "one series passes 7 to 15 before the next begins"; ys are those from number on
unfoldable pub each_series : (day : Block) (own : List Block) (rights : List Block) (head : Block) (seen : List Block) (number : ℕ) (ys : List Block) → Verdict
each_series day own rights head seen number [] = fine
each_series day own rights head seen number (y ∷ ys) =
    series_verdict day own rights head seen number y then each_series day own rights head (seen ++ y ∷ []) (number + 1) ys

unfoldable pub last_verdict : (known : Block) (own : List Block) (free : ℕ) (series : List Block) → Verdict
last_verdict known own free series = broken (rule16 own series) 16 0 0 then broken (rule17 known own free series) 17 0 0

-- "Past rule 1, a submission's answer depends only on" these: the day block, the sender's own stored blocks, "the sender's own rights", the number of free
-- slots, the message
unfoldable pub judge : (day : Block) (known : Block) (own : List Block) (rights : List Block) (free : ℕ) (head : Block) (series : List Block) → Verdict
judge day known own rights free head series =
    head_verdict day known head then each_series day own rights head [] 1 series then last_verdict known own free series

unfoldable pub verdict : (book : Bytes) (message : Bytes) → Verdict
verdict book message =
    broken (rule1 book) 1 0 0
    then broken (rule2 message) 2 0 0
    then judge (day_block book) (own_sender (used book) (sender (head_of message))) (own_series (used book) (sender (head_of message))) (own_rights (used book) (sender (head_of message))) (free_slots book) (head_of message) (series_of message)
