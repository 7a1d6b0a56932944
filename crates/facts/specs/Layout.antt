-- A field that is written is read as it was written, and no other field changes with it: each field is a part of the block, and no two parts meet.
use Rattle.std.specs.Prelude.{◌≡◌, ◌∷◌, ◌++◌, ◌+◌, ◌-◌, ◌*◌, ◌≤◌, ◌<◌}
use Rattle.laws.specs.Base.{refl, sym, ap, ap₂, ◌∙◌, true, [], ℕ, zero, suc, add-zero, arith, length, drop-nil, take-nil}
use Rattle.laws.specs.Tests.{is}
use Rattle.laws.specs.Tests.Laws.{and_left, and_right, and_both, is_yes, is_equal}
use Rattle.laws.specs.Lists.{every, All}
use Rattle.laws.specs.Lists.Each.{all_append, every_all, all_every}
use Rattle.laws.specs.Bytes.{part, written, value, little, number}
use Rattle.laws.specs.Bytes.Laws.{part_none, part_part, part_add, all_part, written_length, part_written_before, part_written_after, part_written_same, little_length, value_little, number_part}
use Rattle.paper.specs.declared.Rule.{Rule}
use Rattle.paper.specs.Layout.{Bytes, Block, zeros, kind, n_of, lead, clock_plus_10080, rule_of, day_of_book, area, receiver, day_zeros, version, id_of, series_count, sender, day_of_message, nets, net, sender_zeros, business_type, contract_type, senders_slot, in_area, out_area, in_party, out_party, pair, agreement, key, mark, differing, first, partner, quantities, quantity, entry, above_n, sender_zeros_in_message, with_clock, with_senders_slot, with_mark, with_nets}
use Rattle.facts.specs.Check.{sealed_length, part_sealed, sealed_again}

-- ---- lengths

pub with_senders_slot_length : (slot : ℕ) (x : Block) → length (with_senders_slot slot x) ≡ length x
unfolding with_senders_slot
with_senders_slot_length slot x = written_length 6 (little 2 slot) x

pub with_mark_length : (m : Bytes) (x : Block) → length (with_mark m x) ≡ length x
unfolding with_mark
with_mark_length m x = sealed_length (written 104 m x) ∙ written_length 104 m x

pub with_nets_length : (v : Bytes) (s : Block) → length (with_nets v s) ≡ length s
unfolding with_nets
with_nets_length v s = sealed_length (written 108 v s) ∙ written_length 108 v s

pub with_clock_length : (minute : ℕ) (d : Block) → length (with_clock minute d) ≡ length d
unfolding with_clock
with_clock_length minute d = sealed_length (written 4 (little 2 minute) d) ∙ written_length 4 (little 2 minute) d

-- ---- the parts beside what is written

pub part_with_senders_slot_before : (slot o n : ℕ) (x : Block) → o + n ≤ 6 → part o n (with_senders_slot slot x) ≡ part o n x
unfolding with_senders_slot
part_with_senders_slot_before slot o n x h = part_written_before o n 6 (little 2 slot) x h

pub part_with_senders_slot_after : (slot o n : ℕ) (x : Block) → 8 ≤ o → part o n (with_senders_slot slot x) ≡ part o n x
unfolding with_senders_slot
part_with_senders_slot_after slot o n x h = part_written_after o n 6 (little 2 slot) x (omega (arith, little_length 2 slot))

pub part_with_mark_before : (m : Bytes) (o n : ℕ) (x : Block) → o + n ≤ 104 → part o n (with_mark m x) ≡ part o n x
unfolding with_mark
part_with_mark_before m o n x h = part_sealed o n _ (omega arith) ∙ part_written_before o n 104 m x h

pub part_with_mark_after : (m : Bytes) (o n : ℕ) (x : Block) → length m ≡ 4 → 108 ≤ o → o + n ≤ 508 → part o n (with_mark m x) ≡ part o n x
unfolding with_mark
part_with_mark_after m o n x l h f = part_sealed o n _ f ∙ part_written_after o n 104 m x (omega arith)

pub part_with_nets_before : (v : Bytes) (o n : ℕ) (s : Block) → o + n ≤ 108 → part o n (with_nets v s) ≡ part o n s
unfolding with_nets
part_with_nets_before v o n s h = part_sealed o n _ (omega arith) ∙ part_written_before o n 108 v s h

pub part_with_clock_before : (minute o n : ℕ) (d : Block) → o + n ≤ 4 → part o n (with_clock minute d) ≡ part o n d
unfolding with_clock
part_with_clock_before minute o n d h = part_sealed o n _ (omega arith) ∙ part_written_before o n 4 (little 2 minute) d h

pub part_with_clock_after : (minute o n : ℕ) (d : Block) → 6 ≤ o → o + n ≤ 508 → part o n (with_clock minute d) ≡ part o n d
unfolding with_clock
part_with_clock_after minute o n d h f = part_sealed o n _ f ∙ part_written_after o n 4 (little 2 minute) d (omega (arith, little_length 2 minute))

-- ---- what is written is read

two_bytes : (o j : ℕ) (b : Block) → o + 2 ≤ length b → part o 2 (written o (little 2 j) b) ≡ little 2 j
two_bytes o j b h = rw (little_length 2 j) at (part_written_same o (little 2 j) b (omega (arith, little_length 2 j)))

pub senders_slot_with_senders_slot : (slot : ℕ) (x : Block) → slot < 65536 → length x ≡ 512 → senders_slot (with_senders_slot slot x) ≡ slot
unfolding senders_slot number with_senders_slot
senders_slot_with_senders_slot slot x h e = ap value (two_bytes 6 slot x (omega arith)) ∙ value_little 2 slot h

pub mark_with_mark : (m : Bytes) (x : Block) → length m ≡ 4 → length x ≡ 512 → mark (with_mark m x) ≡ m
unfolding mark with_mark
mark_with_mark m x h e = part_sealed 104 4 _ (omega arith) ∙ rw h at (part_written_same 104 m x (omega arith))

pub nets_with_nets : (v : Bytes) (s : Block) → length v ≡ 400 → length s ≡ 512 → nets (with_nets v s) ≡ v
unfolding nets with_nets
nets_with_nets v s h e = part_sealed 108 400 _ (omega arith) ∙ rw h at (part_written_same 108 v s (omega arith))

-- of two marks, and of two rows of nets, the later one stays
pub mark_again : (m k : Bytes) (x : Block) → length m ≡ 4 → length k ≡ 4 → with_mark m (with_mark k x) ≡ with_mark m x
unfolding with_mark
mark_again m k x e f = sealed_again 104 m k x (omega arith) (e ∙ sym f)

pub nets_again : (v w : Bytes) (s : Block) → length v ≡ 400 → length w ≡ 400 → with_nets v (with_nets w s) ≡ with_nets v s
unfolding with_nets
nets_again v w s e f = sealed_again 108 v w s (omega arith) (e ∙ sym f)

pub clock_with_clock : (minute : ℕ) (d : Block) → minute < 65536 → length d ≡ 512 → clock_plus_10080 (with_clock minute d) ≡ minute
unfolding clock_plus_10080 number with_clock
clock_with_clock minute d h e = ap value (part_sealed 4 2 _ (omega arith) ∙ two_bytes 4 minute d (omega arith)) ∙ value_little 2 minute h

-- ---- the other fields of a block with a sender's slot, a mark, nets

pub kind_with_senders_slot : (slot : ℕ) (x : Block) → kind (with_senders_slot slot x) ≡ kind x
unfolding kind number
kind_with_senders_slot slot x = ap value (part_with_senders_slot_before slot 0 1 x (omega arith))

pub pair_with_senders_slot : (slot : ℕ) (x : Block) → pair (with_senders_slot slot x) ≡ pair x
unfolding pair
pair_with_senders_slot slot x = part_with_senders_slot_after slot 56 32 x (omega arith)

pub key_with_senders_slot : (slot : ℕ) (x : Block) → key (with_senders_slot slot x) ≡ key x
unfolding key
key_with_senders_slot slot x = ap₂ ◌++◌ (part_with_senders_slot_before slot 4 2 x (omega arith)) (part_with_senders_slot_after slot 24 80 x (omega arith))

pub quantities_with_senders_slot : (slot : ℕ) (x : Block) → quantities (with_senders_slot slot x) ≡ quantities x
unfolding quantities
quantities_with_senders_slot slot x = part_with_senders_slot_after slot 108 400 x (omega arith)

pub kind_with_mark : (m : Bytes) (x : Block) → kind (with_mark m x) ≡ kind x
unfolding kind number
kind_with_mark m x = ap value (part_with_mark_before m 0 1 x (omega arith))

pub sender_with_mark : (m : Bytes) (x : Block) → sender (with_mark m x) ≡ sender x
unfolding sender
sender_with_mark m x = part_with_mark_before m 24 16 x (omega arith)

pub senders_slot_with_mark : (m : Bytes) (x : Block) → senders_slot (with_mark m x) ≡ senders_slot x
unfolding senders_slot number
senders_slot_with_mark m x = ap value (part_with_mark_before m 6 2 x (omega arith))

pub pair_with_mark : (m : Bytes) (x : Block) → pair (with_mark m x) ≡ pair x
unfolding pair
pair_with_mark m x = part_with_mark_before m 56 32 x (omega arith)

pub key_with_mark : (m : Bytes) (x : Block) → key (with_mark m x) ≡ key x
unfolding key
key_with_mark m x = ap₂ ◌++◌ (part_with_mark_before m 4 2 x (omega arith)) (part_with_mark_before m 24 80 x (omega arith))

pub quantities_with_mark : (m : Bytes) (x : Block) → length m ≡ 4 → quantities (with_mark m x) ≡ quantities x
unfolding quantities
quantities_with_mark m x l = part_with_mark_after m 108 400 x l (omega arith) (omega arith)

pub kind_with_nets : (v : Bytes) (s : Block) → kind (with_nets v s) ≡ kind s
unfolding kind number
kind_with_nets v s = ap value (part_with_nets_before v 0 1 s (omega arith))

pub sender_with_nets : (v : Bytes) (s : Block) → sender (with_nets v s) ≡ sender s
unfolding sender
sender_with_nets v s = part_with_nets_before v 24 16 s (omega arith)

pub n_with_nets : (v : Bytes) (s : Block) → n_of (with_nets v s) ≡ n_of s
unfolding n_of number
n_with_nets v s = ap value (part_with_nets_before v 1 1 s (omega arith))

pub version_with_nets : (v : Bytes) (s : Block) → version (with_nets v s) ≡ version s
unfolding version number
version_with_nets v s = ap value (part_with_nets_before v 2 2 s (omega arith))

pub series_count_with_nets : (v : Bytes) (s : Block) → series_count (with_nets v s) ≡ series_count s
unfolding series_count number
series_count_with_nets v s = ap value (part_with_nets_before v 4 2 s (omega arith))

pub id_with_nets : (v : Bytes) (s : Block) → id_of (with_nets v s) ≡ id_of s
unfolding id_of
id_with_nets v s = part_with_nets_before v 8 16 s (omega arith)

pub receiver_with_nets : (v : Bytes) (s : Block) → receiver (with_nets v s) ≡ receiver s
unfolding receiver
receiver_with_nets v s = part_with_nets_before v 40 16 s (omega arith)

pub day_of_message_with_nets : (v : Bytes) (s : Block) → day_of_message (with_nets v s) ≡ day_of_message s
unfolding day_of_message
day_of_message_with_nets v s = part_with_nets_before v 56 8 s (omega arith)

-- ---- the day block with another clock

pub kind_with_clock : (minute : ℕ) (d : Block) → kind (with_clock minute d) ≡ kind d
unfolding kind number
kind_with_clock minute d = ap value (part_with_clock_before minute 0 1 d (omega arith))

pub n_with_clock : (minute : ℕ) (d : Block) → n_of (with_clock minute d) ≡ n_of d
unfolding n_of number
n_with_clock minute d = ap value (part_with_clock_before minute 1 1 d (omega arith))

pub lead_with_clock : (minute : ℕ) (d : Block) → lead (with_clock minute d) ≡ lead d
unfolding lead number
lead_with_clock minute d = ap value (part_with_clock_before minute 2 2 d (omega arith))

-- a rule by its byte
pub rule_by_byte : (d : Block) (rule : Rule) → number 1 6 d ≡ rule.0 → rule_of d ≡ rule
unfolding rule_of
rule_by_byte d rule e = rw e

pub rule_with_clock : (minute : ℕ) (d : Block) → rule_of (with_clock minute d) ≡ rule_of d
unfolding rule_of number
rule_with_clock minute d = rw (part_with_clock_after minute 6 1 d (omega arith) (omega arith))

pub day_of_book_with_clock : (minute : ℕ) (d : Block) → day_of_book (with_clock minute d) ≡ day_of_book d
unfolding day_of_book
day_of_book_with_clock minute d = part_with_clock_after minute 8 8 d (omega arith) (omega arith)

pub area_with_clock : (minute : ℕ) (d : Block) → area (with_clock minute d) ≡ area d
unfolding area
area_with_clock minute d = part_with_clock_after minute 24 16 d (omega arith) (omega arith)

pub receiver_with_clock : (minute : ℕ) (d : Block) → receiver (with_clock minute d) ≡ receiver d
unfolding receiver
receiver_with_clock minute d = part_with_clock_after minute 40 16 d (omega arith) (omega arith)

pub day_zeros_with_clock : (minute : ℕ) (d : Block) → day_zeros (with_clock minute d) ≡ day_zeros d
unfolding day_zeros
day_zeros_with_clock minute d =
    rw (
      part_with_clock_after minute 7 1 d (omega arith) (omega arith),
      part_with_clock_after minute 16 8 d (omega arith)
          (omega arith),
      part_with_clock_after minute 56 452 d (omega arith) (omega arith),
    )

-- ---- two series that agree in all but sender's slot, mark and check

pub record Alike (x y : Block) : Type 0 where
  pub front : (o n : ℕ) → o + n ≤ 6 → part o n x ≡ part o n y
  pub middle : (o n : ℕ) → 8 ≤ o → o + n ≤ 104 → part o n x ≡ part o n y
  pub back : (o n : ℕ) → 108 ≤ o → o + n ≤ 508 → part o n x ≡ part o n y

pub alike_refl : (x : Block) → Alike x x
alike_refl x = record { front = λ o n h. refl; middle = λ o n h f. refl; back = λ o n h f. refl }

pub alike_senders_slot : (slot : ℕ) (x : Block) → Alike (with_senders_slot slot x) x
alike_senders_slot slot x = record {
  front = λ o n h. part_with_senders_slot_before slot o n x h;
  middle = λ o n h f. part_with_senders_slot_after slot o n x h;
  back = λ o n h f. part_with_senders_slot_after slot o n x (omega arith);
}

pub alike_mark : (m : Bytes) (x : Block) → length m ≡ 4 → Alike (with_mark m x) x
alike_mark m x l = record {
  front = λ o n h. part_with_mark_before m o n x (omega arith);
  middle = λ o n h f. part_with_mark_before m o n x f;
  back = λ o n h f. part_with_mark_after m o n x l h f;
}

module _ (x y : Block) (a : Alike x y) where
  pub alike_n : n_of x ≡ n_of y
  unfolding n_of number
  alike_n = ap value (a.front 1 1 (omega arith))

  pub alike_version : version x ≡ version y
  unfolding version number
  alike_version = ap value (a.front 2 2 (omega arith))

  pub alike_business_type : business_type x ≡ business_type y
  unfolding business_type number
  alike_business_type = ap value (a.front 4 1 (omega arith))

  pub alike_contract_type : contract_type x ≡ contract_type y
  unfolding contract_type number
  alike_contract_type = ap value (a.front 5 1 (omega arith))

  pub alike_id : id_of x ≡ id_of y
  unfolding id_of
  alike_id = a.middle 8 16 (omega arith) (omega arith)

  pub alike_key : key x ≡ key y
  unfolding key
  alike_key = ap₂ ◌++◌ (a.front 4 2 (omega arith)) (a.middle 24 80 (omega arith) (omega arith))

  pub alike_in_area : in_area x ≡ in_area y
  unfolding in_area
  alike_in_area = a.middle 24 16 (omega arith) (omega arith)

  pub alike_out_area : out_area x ≡ out_area y
  unfolding out_area
  alike_out_area = a.middle 40 16 (omega arith) (omega arith)

  pub alike_in_party : in_party x ≡ in_party y
  unfolding in_party
  alike_in_party = a.middle 56 16 (omega arith) (omega arith)

  pub alike_out_party : out_party x ≡ out_party y
  unfolding out_party
  alike_out_party = a.middle 72 16 (omega arith) (omega arith)

  pub alike_agreement : agreement x ≡ agreement y
  unfolding agreement
  alike_agreement = a.middle 88 16 (omega arith) (omega arith)

  pub alike_quantity : (k : ℕ) → k < 100 → quantity x k ≡ quantity y k
  unfolding quantity number
  alike_quantity k h = ap value (a.back (108 + 4 * k) 4 (omega arith) (omega arith))

  pub alike_above : (n : ℕ) → n ≤ 100 → above_n n x ≡ above_n n y
  unfolding above_n
  alike_above n h = a.back (108 + 4 * n) (400 - 4 * n) (omega arith) (omega arith)

-- ---- count, first and partner in the bytes of a mark

pub mark_differing : (x : Block) → differing x ≡ number 1 0 (mark x)
unfolding differing mark
mark_differing x = sym (number_part 1 104 4 0 x (omega arith))

pub mark_first : (x : Block) → first x ≡ number 1 1 (mark x)
unfolding first mark
mark_first x = sym (number_part 1 104 4 1 x (omega arith))

pub mark_partner : (x : Block) → partner x ≡ number 2 2 (mark x)
unfolding partner mark
mark_partner x = sym (number_part 2 104 4 2 x (omega arith))

-- ---- entry k of the bytes of all quantities is the quantity at position k + 1

-- a net stands where a series has a quantity
pub net_is_quantity : (s : Block) (k : ℕ) → net s k ≡ quantity s k
unfolding net quantity
net_is_quantity s k = refl

pub entry_quantities : (x : Block) (k : ℕ) → k < 100 → entry (quantities x) k ≡ quantity x k
unfolding entry quantities quantity
entry_quantities x k h = number_part 4 108 400 (4 * k) x (omega arith)

pub entry_nets : (s : Block) (k : ℕ) → k < 100 → entry (nets s) k ≡ quantity s k
unfolding entry nets quantity
entry_nets s k h = number_part 4 108 400 (4 * k) s (omega arith)

-- of no block they are 0

number_nothing : (w o : ℕ) → number w o [] ≡ 0
unfolding number part value
number_nothing w o = rw (drop-nil o, take-nil w)

pub quantity_nothing : (k : ℕ) → quantity [] k ≡ 0
unfolding quantity
quantity_nothing k = number_nothing 4 (108 + 4 * k)

pub entry_nothing : (k : ℕ) → entry [] k ≡ 0
unfolding entry
entry_nothing k = number_nothing 4 (4 * k)

-- ---- zero bytes

pub zeros_part : (o n : ℕ) (b : Bytes) → zeros b ≡ true → zeros (part o n b) ≡ true
unfolding zeros
zeros_part o n b e = all_every _ (part o n b) (all_part (λ x. is x 0 ≡ true) o n b (every_all _ b e))

-- of a part of a part
pub zeros_inner : (o n p m : ℕ) (b : Bytes) → p + m ≤ n → zeros (part o n b) ≡ true → zeros (part (o + p) m b) ≡ true
zeros_inner o n p m b h e = rw (part_part o n p m b h) at (zeros_part p m (part o n b) e)

zeros_append : (u v : Bytes) → zeros u ≡ true → zeros v ≡ true → zeros (u ++ v) ≡ true
unfolding zeros
zeros_append u v e f = all_every _ (u ++ v) (all_append (λ x. is x 0 ≡ true) u v (every_all _ u e) (every_all _ v f))

zeros_value : (b : Bytes) → value b ≡ 0 → zeros b ≡ true
unfolding zeros every value
zeros_value [] e = refl
zeros_value (x ∷ b) e = and_both _ _ (is_equal x 0 (omega arith)) (zeros_value b (omega arith))

pub value_zeros : (b : Bytes) → zeros b ≡ true → value b ≡ 0
unfolding zeros value
value_zeros b e = by b (every_all _ b e)
  where
    by : (l : Bytes) → All (λ x. is x 0 ≡ true) l → value l ≡ 0
    by [] h = refl
    by (x ∷ l) h = omega (arith, is_yes x 0 h.0, by l h.1)

-- words that are 0
pub zeros_words : (k o : ℕ) (b : Bytes) → ((p : ℕ) → p < k → number 4 (o + 4 * p) b ≡ 0) → zeros (part o (4 * k) b) ≡ true
unfolding zeros number every
zeros_words zero o b f = rw (part_none o b)
zeros_words (suc k) o b f =
    let e : 4 * suc k ≡ 4 + 4 * k = omega arith in
    rw (e, part_add o 4 (4 * k) b)
    (zeros_append (part o 4 b) (part (o + 4) (4 * k) b) (zeros_value (part o 4 b) (rw (add-zero o) at (f 0 (omega arith))))
    (zeros_words k (o + 4) b (λ p h. let q : o + 4 * suc p ≡ o + 4 + 4 * p = omega arith in rw q at (f (suc p) (omega arith)))))

-- the bytes that a message keeps 0 are 0 beside the nets
pub sender_zeros_with_nets : (v : Bytes) (h : Block) → sender_zeros_in_message h ≡ true → sender_zeros (with_nets v h) ≡ true
unfolding sender_zeros sender_zeros_in_message
sender_zeros_with_nets v h e =
    rw (part_with_nets_before v 6 2 h (omega arith), part_with_nets_before v 64 44 h (omega arith))
    (and_both _ _ (and_left _ _ e) (zeros_inner 64 444 0 44 h (omega arith) (and_right _ _ e)))

-- ---- the positions above n

pub zeros_above : (n : ℕ) (x : Block) → n ≤ 100 → ((k : ℕ) → k < 100 → n ≤ k → quantity x k ≡ 0) → zeros (above_n n x) ≡ true
unfolding above_n quantity
zeros_above n x h f =
    let e : 4 * (100 - n) ≡ 400 - 4 * n = omega arith in
    rw e at (zeros_words (100 - n) (108 + 4 * n) x (λ p l. let q : 108 + 4 * n + 4 * p ≡ 108 + 4 * (n + p) = omega arith in rw q
    (f (n + p) (omega arith) (omega arith))))
