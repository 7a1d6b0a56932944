-- Each useless version of the desk contradicts a promise: one book and one message or two show it, by computation.
use Rattle.std.specs.Prelude.{◌≡◌, ◌∷◌, ◌++◌, ◌+◌, ◌*◌}
use Rattle.laws.specs.Base.{refl, sym, ap, ◌∙◌, true, Option, none, some, option_map, List, [], map, ℕ, arith, length, take, drop, get_or, replicate}
use Rattle.laws.specs.Tests.Laws.{is_equal}
use Rattle.laws.specs.Lists.{find, nth}
use Rattle.laws.specs.Bytes.Laws.{number_1}
use Rattle.laws.specs.Cut.{join}
use Rattle.paper.specs.declared.Verdict.{Verdict}
use Rattle.paper.specs.Check.{sealed}
use Rattle.paper.specs.Layout.{Bytes, Block, kind, n_of, area, sender, nets, business_type, senders_slot, pair, mark, differing, partner, entry, with_senders_slot}
use Rattle.paper.specs.Book.{day_block, used, is_series, is_trade, trade, is_sender_block_of, slot_of}
use Rattle.paper.specs.Message.{head_of, series_of}
use Rattle.paper.specs.Rules.{number_of, verdict}
use Rattle.paper.specs.Acceptance.{slot_for, used_after, submitted}
use Rattle.paper.specs.Opening.{Opening, open_number, opened}
use Rattle.paper.specs.PlainRule.{or_else, latest, plain_mark, plain_nets}
use Rattle.paper.specs.Calls.{opening, submission, step, run}
use Rattle.facts.specs.Layout.{mark_differing}
use Rattle.facts.specs.Book.{kind_series}
use Rattle.facts.specs.Pairs.{trade_domestic}
use Rattle.promises.specs.Promises.{nets_are_the_plain_rules, marks_are_the_plain_rules}
use Rattle.cases.specs.Opened.{paper, demand3}
use Rattle.cases.specs.Case.{once}
use Rattle.cases.specs.Examples.{area as ours, seller, buyer, head, sale, buyback, steady, parameters, book_of, examples}

-- ---- versions of submission: its answer, and the book after it

pub record Version : Type 0 where
  pub answer : Bytes → Bytes → Verdict
  pub book_after : Bytes → Bytes → Bytes

-- the desk's promise: the answer is the verdict of document 01's table, the book is that of its account of an acceptance
abbrev pub Promised : Version → Type 0
Promised v = (book message : Bytes) → (v.answer book message ≡ verdict book message) × (v.book_after book message ≡ submitted book message)

-- ---- a book of five slots, just opened, and a message with two series that it accepts

unfoldable book : Bytes
book = book_of 5

unfoldable message : Bytes
message = head seller 1 2 ++ sale 1 (steady 45000) ++ buyback 1 (steady 1000)

once_is : {A : Type 0} (f : Bytes → A) (l : Bytes) → once f l ≡ f l
once_is f [] = refl
once_is f (x ∷ l) = refl

twice_is : {A : Type 0} (f : Bytes → Bytes → A) (b m : Bytes) → once (λ x. once (f x) m) b ≡ f b m
twice_is f b m = once_is (λ x. once (f x) m) b ∙ once_is (f b) m

abbrev computed : {A : Type 0} → (Bytes → Bytes → A) → Bytes → Bytes → A
computed f b m = once (λ x. once (f x) m) b

answered_0 : computed (λ b m. number_of (verdict b m)) book message ≡ 0
unfolding paper examples book message
answered_0 = refl

answer_0 : number_of (verdict book message) ≡ 0
answer_0 = sym (twice_is (λ b m. number_of (verdict b m)) book message) ∙ answered_0

-- ---- 1. refusing every message

pub refusing_every_message : (v : Version) → ((b m : Bytes) → number_of (v.answer b m) ≡ 0 → ⊥) → Promised v → ⊥
refusing_every_message v refuses p = refuses book message (ap number_of (p book message).0 ∙ answer_0)

-- ---- 2. always answering 0

nothing_refused : once (λ b. number_of (verdict b [])) book ≡ 2
unfolding paper examples book
nothing_refused = refl

pub always_answering_0 : (v : Version) → ((b m : Bytes) → number_of (v.answer b m) ≡ 0) → Promised v → ⊥
always_answering_0 v accepts p =
    let z : ◌≡◌ {A = ℕ} 0 2 = sym (accepts book []) ∙ ap number_of (p book []).0 ∙ sym (once_is (λ b. number_of (verdict b [])) book) ∙ nothing_refused in
    omega arith

-- ---- 3. accepting and writing nothing

book_empty : once (λ b. length (used b)) book ≡ 0
unfolding paper examples book
book_empty = refl

book_filled : computed (λ b m. length (used (submitted b m))) book message ≡ 3
unfolding paper examples book message
book_filled = refl

pub writing_nothing : (v : Version) → ((b m : Bytes) → v.book_after b m ≡ b) → Promised v → ⊥
writing_nothing v writes p =
    let z : ◌≡◌ {A = ℕ} 0 3 =
    sym book_empty ∙ once_is (λ b. length (used b)) book ∙ ap (λ b. length (used b)) (sym (writes book message) ∙ (p book message).1)
    ∙ sym (twice_is (λ b m. length (used (submitted b m))) book message) ∙ book_filled in
    omega arith

-- ---- 4. treating the first series fully and copying the others

-- as an acceptance of the first series alone, with the others put behind it, told their sender's slot and sealed
unfoldable pub first_only : Bytes → Bytes → Bytes
first_only book message =
    let h : Block = head_of message in
    let copied : List Block = map (λ y. sealed (with_senders_slot (slot_for (used book) (sender h)) y)) (drop 1 (series_of message)) in
    let after : List Block = used_after (n_of (day_block book)) (area (day_block book)) (used book) h (take 1 (series_of message)) ++ copied in
    day_block book ++ join after ++ drop (512 + 512 * length after) book

-- the opening, and the book that it spoils
parameters_allowed : once (λ b. open_number b (parameters 45)) (replicate 3072 7) ≡ 0
unfolding paper examples
parameters_allowed = refl

opening_allowed_lem : open_number (replicate 3072 7) (parameters 45) ≡ 0
opening_allowed_lem = sym (once_is (λ b. open_number b (parameters 45)) (replicate 3072 7)) ∙ parameters_allowed

book_opened : book ≡ opened (replicate 3072 7) (parameters 45)
unfolding book book_of
book_opened = refl

-- by demand 3 the nets kept are the plain rule's, after an opening and one accepted message
abbrev pub NetsPlain : (Bytes → Bytes → Bytes) → Type 0
NetsPlain after = (buffer : Bytes) (o : Opening) (m : Bytes) → open_number buffer o ≡ 0 → number_of (verdict (opened buffer o) m) ≡ 0
    → (e : Bytes) → option_map nets (find (is_sender_block_of e) (used (after (opened buffer o) m))) ≡ plain_nets (area (day_block (after (opened buffer o) m))) (m ∷ []) e

-- the desk does
pub desk_nets_plain : NetsPlain submitted
unfolding run step
desk_nets_plain buffer o m h q e = rw (is_equal _ _ h, is_equal _ _ q) at (nets_are_the_plain_rules buffer (opening o) h (submission m ∷ []) e)

-- at position 1 the seller's net is the 1,000 that it buys less the 45,000 that it sells
net_plain : once (λ m. option_map (λ v. entry v 0) (plain_nets ours (m ∷ []) seller)) message ≡ some 4294923296
unfolding paper examples message plain_nets latest or_else
net_plain = refl

-- the area stays
area_first_only : computed (λ b m. area (day_block (first_only b m))) book message ≡ ours
unfolding paper examples book message first_only
area_first_only = refl

-- the 45,000 alone
net_first_only : computed (λ b m. option_map (λ v. entry v 0) (option_map nets (find (is_sender_block_of seller) (used (first_only b m))))) book message ≡ some 4294922296
unfolding paper examples book message first_only
net_first_only = refl

pub first_series_only_nets : NetsPlain first_only → ⊥
first_series_only_nets p =
    let a : number_of (verdict (opened (replicate 3072 7) (parameters 45)) message) ≡ 0 = rw book_opened at answer_0 in
    let q : option_map nets (find (is_sender_block_of seller) (used (first_only book message))) ≡ plain_nets (area (day_block (first_only book message))) (message ∷ []) seller = rw book_opened
    (p (replicate 3072 7) (parameters 45) message opening_allowed_lem a seller) in
    let i : area (day_block (first_only book message)) ≡ ours = sym (twice_is (λ b m. area (day_block (first_only b m))) book message) ∙ area_first_only in
    let r : ◌≡◌ {A = Option ℕ} (some 4294922296) (some 4294923296) =
    sym net_first_only ∙ twice_is (λ b m. option_map (λ v. entry v 0) (option_map nets (find (is_sender_block_of seller) (used (first_only b m))))) book message ∙ ap
    (option_map (λ v. entry v 0)) q
    ∙ ap (λ o. option_map (λ v. entry v 0) (plain_nets o (message ∷ []) seller)) i
    ∙ sym (once_is (λ m. option_map (λ v. entry v 0) (plain_nets ours (m ∷ []) seller)) message) ∙ net_plain in
    let z : ◌≡◌ {A = ℕ} 4294922296 4294923296 = cc in
    omega arith

-- and so are the marks, after an opening and two accepted messages: a series copied as it came has the mark of one that stands alone, so it takes a counterpart that
-- differs to show it
abbrev pub MarksPlain : (Bytes → Bytes → Bytes) → Type 0
MarksPlain after = (buffer : Bytes) (o : Opening) (m k : Bytes) → open_number buffer o ≡ 0 → number_of (verdict (opened buffer o) m) ≡ 0
    → number_of (verdict (after (opened buffer o) m) k) ≡ 0
    → (slot : ℕ) (x : Block) → nth (used (after (after (opened buffer o) m) k)) slot ≡ some x → is_series x ≡ true
    → (e : Bytes) → slot_of (used (after (after (opened buffer o) m) k)) e ≡ senders_slot x → mark x ≡ plain_mark (m ∷ k ∷ []) e (trade x) (partner x)

pub desk_marks_plain : MarksPlain submitted
unfolding run step
desk_marks_plain buffer o m k h q r slot x there s e i =
    rw (is_equal _ _ h, is_equal _ _ q, is_equal _ _ r) at (marks_are_the_plain_rules buffer (opening o) h (submission m ∷ submission k ∷ []) slot x there s e i)

-- the buyer has filed 900 for what it sells; the message has 1,000 for it, in its second series
unfoldable offer : Bytes
offer = head buyer 1 1 ++ buyback 1 (steady 900)

unfoldable filed : Bytes
filed = computed first_only book offer

unfoldable spoilt : Bytes
spoilt = computed first_only filed message

offered_0 : computed (λ b m. number_of (verdict b m)) book offer ≡ 0
unfolding paper examples book offer
offered_0 = refl

filed_0 : computed (λ b m. number_of (verdict b m)) filed message ≡ 0
unfolding paper examples book offer message filed first_only
filed_0 = refl

-- slot 5 then has that series of the seller in slot 3, with no mark
series_copied : once (λ b. option_map (λ x. kind x ∷ senders_slot x ∷ differing x ∷ business_type x ∷ pair x) (nth (used b) 5)) spoilt ≡ some (2 ∷ 3 ∷ 0 ∷ 2 ∷ seller ++ buyer)
unfolding paper examples book offer message filed spoilt first_only nth
series_copied = refl

sellers_slot : once (λ b. slot_of (used b) seller) spoilt ≡ 3
unfolding paper examples book offer message filed spoilt first_only
sellers_slot = refl

-- by the plain rule all 96 positions differ
count_plain : (slot : ℕ) → computed (λ m k. get_or (plain_mark (m ∷ k ∷ []) seller (some (seller ++ buyer)) slot) 0 0) offer message ≡ 96
unfolding paper demand3 examples offer message
count_plain slot = refl

-- and a mark's first byte is the count
count_of : (x : Block) (m : Bytes) → mark x ≡ m → differing x ≡ get_or m 0 0
count_of x m e = mark_differing x ∙ number_1 0 (mark x) ∙ ap (λ w. get_or w 0 0) e

filed_is : filed ≡ first_only (opened (replicate 3072 7) (parameters 45)) offer
unfolding filed
filed_is = twice_is first_only book offer ∙ ap (λ b. first_only b offer) book_opened

spoilt_is : spoilt ≡ first_only (first_only (opened (replicate 3072 7) (parameters 45)) offer) message
unfolding spoilt
spoilt_is = twice_is first_only filed message ∙ ap (λ b. first_only b message) filed_is

a_trade : (x : Block) → business_type x ≡ 2 → is_trade x ≡ true
unfolding is_trade
a_trade x e = is_equal _ _ e

pub first_series_only_marks : MarksPlain first_only → ⊥
first_series_only_marks p = by (nth (used spoilt) 5) refl
  where
    seen : option_map (λ x. kind x ∷ senders_slot x ∷ differing x ∷ business_type x ∷ pair x) (nth (used spoilt) 5) ≡ some (2 ∷ 3 ∷ 0 ∷ 2 ∷ seller ++ buyer)
    seen = sym (once_is (λ b. option_map (λ x. kind x ∷ senders_slot x ∷ differing x ∷ business_type x ∷ pair x) (nth (used b) 5)) spoilt) ∙ series_copied

    in_slot : slot_of (used spoilt) seller ≡ 3
    in_slot = sym (once_is (λ b. slot_of (used b) seller) spoilt) ∙ sellers_slot

    by : (o : Option Block) → nth (used spoilt) 5 ≡ o → ⊥
    by none f = let z : ◌≡◌ {A = Option Bytes} none (some (2 ∷ 3 ∷ 0 ∷ 2 ∷ seller ++ buyer)) = sym
        (ap (option_map (λ x. kind x ∷ senders_slot x ∷ differing x ∷ business_type x ∷ pair x)) f) ∙ seen in let w : ◌≡◌ {A = ℕ} 0 1 = cc in omega arith
    by (some x) f =
        let z : ◌≡◌ {A = Option Bytes} (some (kind x ∷ senders_slot x ∷ differing x ∷ business_type x ∷ pair x)) (some (2 ∷ 3 ∷ 0 ∷ 2 ∷ seller ++ buyer)) = sym
        (ap (option_map (λ y. kind y ∷ senders_slot y ∷ differing y ∷ business_type y ∷ pair y)) f) ∙ seen in
        let k : kind x ≡ 2 = cc in
        let i : senders_slot x ≡ 3 = cc in
        let c : differing x ≡ 0 = cc in
        let t : business_type x ≡ 2 = cc in
        let v : pair x ≡ seller ++ buyer = cc in
        let q : trade x ≡ some (seller ++ buyer) = trade_domestic x (a_trade x t) ∙ ap some v in
        let a : number_of (verdict (opened (replicate 3072 7) (parameters 45)) offer) ≡ 0 = rw book_opened at
        (sym (twice_is (λ b m. number_of (verdict b m)) book offer) ∙ offered_0) in
        let b : number_of (verdict (first_only (opened (replicate 3072 7) (parameters 45)) offer) message) ≡ 0 = rw filed_is at
        (sym (twice_is (λ b m. number_of (verdict b m)) filed message) ∙ filed_0) in
        let m = p (replicate 3072 7) (parameters 45) offer message opening_allowed_lem a b 5 x (rw spoilt_is at f) (kind_series x k) seller
        (rw spoilt_is at in_slot ∙ sym i) in
        let w : ◌≡◌ {A = ℕ} 0 96 = sym c ∙ count_of x _ (rw q at m)
        ∙ sym (twice_is (λ m k. get_or (plain_mark (m ∷ k ∷ []) seller (some (seller ++ buyer)) (partner x)) 0 0) offer message) ∙ count_plain (partner x) in
        omega arith
