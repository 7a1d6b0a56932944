-- Quantity text: what is printed is read back and is at most 8 bytes long, and what is read is below ten million.
use Rattle.std.specs.Prelude.{◌≡◌, ◌∷◌, ◌++◌, ◌+◌, ◌-◌, ◌*◌, ◌/◌, ◌%◌, ◌^◌, ◌≤◌, ◌<◌}
use Rattle.laws.specs.Base.{refl, ap, ◌∙◌, Bool, true, false, cond, List, [], append-nil, ℕ, zero, suc, add-zero, mul-one, pow-le-pow_right, pow-suc, zero-add, arith, length, take, drop, get_or, get_or-append, length-append, drop_at, length-take-le, take_all, take_at}
use Rattle.laws.specs.Tests.{◌and◌, neg, is, less, upto}
use Rattle.laws.specs.Tests.Laws.{neg_no, neg_false, and_left, and_right, and_both, is_yes, is_no, is_same, is_other, upto_yes, upto_true, less_yes}
use Rattle.laws.specs.Lists.{All, every, until}
use Rattle.laws.specs.Lists.Each.{all_imply, all_every, every_all, every_append, all_get_or_inside}
use Rattle.laws.specs.Lists.Search.{has_no_all}
use Rattle.laws.specs.Lists.Keep.{until_length, until_has, until_take}
use Rattle.paper.specs.Layout.{Bytes}
use Rattle.paper.specs.Ids.{digit}
use Rattle.paper.specs.QuantityText.{leading_digits, decimal_from, read_refused, read_as, worth, past_point, past_whole, unsigned_read, past_minus, quantity_read}
use Rattle.paper.specs.QuantityText.{last_digits, width_of, decimal, quantity_text}
use Rattle.paper.specs.declared.QuantityRead.{QuantityRead}

-- ---- digits

-- a run goes on over what fails the test
until_over : (p : ℕ → Bool) (l r : List ℕ) → All (λ x. p x ≡ false) l → until p (l ++ r) ≡ l ++ until p r
unfolding until
until_over p [] r h = refl
until_over p (x ∷ xs) r h = rw h.0 (ap (λ z. x ∷ z) (until_over p xs r h.1))

no_other : (l : Bytes) → every digit l ≡ true → All (λ x. neg (digit x) ≡ false) l
no_other l e = all_imply (λ x. digit x ≡ true) (λ x. neg (digit x) ≡ false) (λ x. neg_false (digit x)) l (every_all digit l e)

-- the run of digits that a text starts with ends where no digit follows
pub leading_run : (u t : Bytes) → every digit u ≡ true → leading_digits t ≡ 0 → leading_digits (u ++ t) ≡ length u
unfolding leading_digits
leading_run u t e h = rw (until_over (λ x. neg (digit x)) u t (no_other u e), length-append) (omega arith)

pub leading_most : (s : Bytes) → leading_digits s ≤ length s
unfolding leading_digits
leading_most s = until_length (λ x. neg (digit x)) s

-- those counted are digits
pub leading_digits_lem : (s : Bytes) → every digit (take (leading_digits s) s) ≡ true
unfolding leading_digits
leading_digits_lem s =
    let u : Bytes = until (λ x. neg (digit x)) s in
    rw (until_take (λ x. neg (digit x)) s _ refl)
    (all_every digit u (all_imply (λ x. neg (digit x) ≡ false) (λ x. digit x ≡ true) (λ x. neg_no (digit x)) u (has_no_all _ u (until_has _ s))))

pub decimal_append : (a : ℕ) (u v : Bytes) → decimal_from a (u ++ v) ≡ decimal_from (decimal_from a u) v
unfolding decimal_from
decimal_append a [] v = refl
decimal_append a (x ∷ u) v = decimal_append (10 * a + (x - 48)) u v

-- digits after a number of i digits
pub decimal_small : (i a : ℕ) (l : Bytes) → a < 10 ^ i → every digit l ≡ true → decimal_from a l < 10 ^ (i + length l)
unfolding decimal_from every digit
decimal_small i a [] h e = rw add-zero h
decimal_small i a (x ∷ xs) h e =
    let d = and_left _ _ e in
    let low : 48 ≤ x = upto_yes _ _ (and_left _ _ d) in
    let high : x ≤ 57 = upto_yes _ _ (and_right _ _ d) in
    let n : i + suc (length xs) ≡ suc i + length xs = omega arith in
    rw n (decimal_small (suc i) (10 * a + (x - 48)) xs (rw pow-suc (omega arith)) (and_right _ _ e))

-- the digits that a text starts with say less than 10 to their count
pub leading_small : (s : Bytes) → decimal_from 0 (take (leading_digits s) s) < 10 ^ leading_digits s
leading_small s =
    let n : length (take (leading_digits s) s) ≡ leading_digits s = length-take-le _ s (leading_most s) in
    rw (zero-add, n) at (decimal_small 0 0 (take (leading_digits s) s) (omega arith) (leading_digits_lem s))

pub last_digits_length : (k x : ℕ) → length (last_digits k x) ≡ k
unfolding last_digits
last_digits_length zero x = refl
last_digits_length (suc k) x = simp (length-append, last_digits_length k (x / 10)) (omega arith)

pub last_digits_digits : (k x : ℕ) → every digit (last_digits k x) ≡ true
unfolding last_digits every digit
last_digits_digits zero x = refl
last_digits_digits (suc k) x =
    let d : digit (48 + x % 10) ≡ true = and_both _ _ (upto_true _ _ (omega arith)) (upto_true _ _ (omega arith)) in
    rw (every_append digit (last_digits k (x / 10))) (and_both _ _ (last_digits_digits k (x / 10)) (and_both _ _ d refl))

-- the last k digits of a number of k digits say it
pub decimal_last_digits : (k x : ℕ) → x < 10 ^ k → decimal_from 0 (last_digits k x) ≡ x
unfolding last_digits decimal_from
decimal_last_digits zero x h = omega arith
decimal_last_digits (suc k) x h =
    let s : x < 10 ^ k * 10 = rw pow-suc at h in
    let q : decimal_from 0 (last_digits k (x / 10)) ≡ x / 10 = decimal_last_digits k (x / 10) (omega arith) in
    rw (decimal_append 0 (last_digits k (x / 10)), q) (omega arith)

-- ---- reading gives back what is printed

-- a property of both sides of a choice
choice : {A : Type 0} (P : A → Type 0) (b : Bool) {x y : A} → (b ≡ true → P x) → (b ≡ false → P y) → P (cond b x y)
choice P true f g = f refl
choice P false f g = g refl

-- k digits, 1 to 4, are enough for x
abbrev Wide : ℕ → ℕ → Type 0
Wide x k = (1 ≤ k) × (k ≤ 4) × (x < 10 ^ k)

width_wide : (x : ℕ) → x < 10000 → Wide x (width_of x)
unfolding width_of
width_wide x h =
    choice (Wide x) (less x 10) (λ e. (omega arith, omega arith, less_yes _ _ e)) (λ d.
    choice (Wide x) (less x 100) (λ e. (omega arith, omega arith, less_yes _ _ e)) (λ d.
    choice (Wide x) (less x 1000) (λ e. (omega arith, omega arith, less_yes _ _ e)) (λ d. (omega arith, omega arith, h))))

pub decimal_length : (x : ℕ) → length (decimal x) ≡ width_of x
unfolding decimal
decimal_length x = last_digits_length (width_of x) x

pub decimal_digits : (x : ℕ) → every digit (decimal x) ≡ true
unfolding decimal
decimal_digits x = last_digits_digits (width_of x) x

pub decimal_says : (x : ℕ) → x < 10000 → decimal_from 0 (decimal x) ≡ x
unfolding decimal
decimal_says x h = decimal_last_digits (width_of x) x (width_wide x h).2

-- a point ends a run of digits
no_digit : (t : Bytes) → leading_digits (46 ∷ t) ≡ 0
unfolding leading_digits until digit upto ◌and◌ neg
no_digit t = refl

-- three digits after the point are kilowatts
thousandths : (w : ℕ) (t : Bytes) → every digit t ≡ true → length t ≡ 3 → past_point w t ≡ read_as (1000 * w + decimal_from 0 t)
unfolding past_point worth leading_digits until upto is ◌and◌
thousandths w t e h =
    let l : leading_digits t ≡ 3 = rw append-nil at (leading_run t [] e refl) ∙ h in
    rw (l, h, mul-one)

-- a text that starts with a digit has no minus
not_minus : (x : ℕ) → digit x ≡ true → is x 45 ≡ false
unfolding digit
not_minus x e = let h : 48 ≤ x = upto_yes _ _ (and_left _ _ e) in is_other x 45 (λ i. omega arith)

past_whole_point : (w : ℕ) (t : Bytes) → past_whole w (46 ∷ t) ≡ past_point w t
unfolding past_whole
past_whole_point w t = rw (is_other (length (46 ∷ t)) 0 (λ i. omega arith), is_same 46)

-- the digits before a point are the whole megawatts
pointed : (u t : Bytes) → every digit u ≡ true → 1 ≤ length u → length u ≤ 4 → quantity_read (u ++ 46 ∷ t) ≡ past_point (decimal_from 0 u) t
unfolding quantity_read unsigned_read ◌and◌
pointed u t e least most =
    let d : digit (get_or u 0 0) ≡ true = all_get_or_inside (λ x. digit x ≡ true) u 0 0 least (every_all digit u e) in
    rw
    (get_or-append u (46 ∷ t) 0 0 least, not_minus _ d, leading_run u (46 ∷ t) e (no_digit t), upto_true 1 (length u) least, upto_true _ _ most, take_at u (46 ∷ t) _ refl, drop_at u (46 ∷ t) _ refl)
    (past_whole_point _ t)

pub read_printed : (kilowatts : ℕ) → kilowatts ≤ 9999999 → quantity_read (quantity_text kilowatts) ≡ read_as kilowatts
unfolding quantity_text
read_printed kw h =
    let w : ℕ = kw / 1000 in
    let r : Bytes = last_digits 3 (kw % 1000) in
    let s : w < 10000 = omega arith in
    let n : 1000 * w + kw % 1000 ≡ kw = omega arith in
    pointed (decimal w) r (decimal_digits w) (rw decimal_length (width_wide w s).0) (rw decimal_length (width_wide w s).1)
    ∙ rw (decimal_says w s, thousandths w r (last_digits_digits 3 _) (last_digits_length 3 _), decimal_last_digits 3 (kw % 1000) (omega arith), n)

-- ---- what reading gives

-- at most 9,999,999 kilowatts, and none with a refusal
abbrev Fair : QuantityRead → Type 0
Fair r = (r.kilowatts ≤ 9999999) × ((r.number ≡ 0 → ⊥) → r.kilowatts ≡ 0)

fair_refused : (n : ℕ) → Fair (read_refused n)
fair_refused n = (omega arith, λ f. refl)

fair_as : (k : ℕ) → k ≤ 9999999 → Fair (read_as k)
fair_as k h = (h, λ f. absurd (f refl))

-- fewer digits are worth more: a part of a megawatt stays below 1,000 kilowatts
part_small : (m d : ℕ) → 1 ≤ m → m ≤ 3 → d < 10 ^ m → d * worth m ≤ 999
unfolding worth
part_small m d l u h =
    choice (λ z. d * z ≤ 999) (is m 1) (λ e. let q : d < 10 ^ 1 = rw (is_yes _ _ e) at h in omega arith) (λ a.
    choice (λ z. d * z ≤ 999) (is m 2) (λ e. let q : d < 10 ^ 2 = rw (is_yes _ _ e) at h in omega arith) (λ b.
    let e : m ≡ 3 = omega (arith, is_no _ _ a, is_no _ _ b) in
    let q : d < 10 ^ 3 = rw e at h in omega arith))

past_point_fair : (w : ℕ) (s : Bytes) → w < 10000 → Fair (past_point w s)
unfolding past_point
past_point_fair w s h =
    let m : ℕ = leading_digits s in
    choice Fair (upto 1 m and upto m 3 and is m (length s)) (λ e.
    let n : m ≡ length s = is_yes _ _ (and_right _ _ e) in
    let d : decimal_from 0 s < 10 ^ m = rw (take_all m s (omega arith)) at (leading_small s) in
    fair_as _ (omega (arith, part_small m _ (upto_yes _ _ (and_left _ _ (and_left _ _ e))) (upto_yes _ _ (and_right _ _ (and_left _ _ e))) d)))
    (λ e. fair_refused 30)

past_whole_fair : (w : ℕ) (s : Bytes) → w < 10000 → Fair (past_whole w s)
unfolding past_whole
past_whole_fair w s h =
    choice Fair (is (length s) 0) (λ e. fair_as _ (omega arith)) (λ e. choice Fair (is (get_or s 0 0) 46) (λ f. past_point_fair w (drop 1 s) h) (λ f. fair_refused 30))

unsigned_fair : (s : Bytes) → Fair (unsigned_read s)
unfolding unsigned_read
unsigned_fair s =
    let m : ℕ = leading_digits s in
    choice Fair (upto 1 m and upto m 4) (λ e.
    let p : 10 ^ m ≤ 10 ^ 4 = pow-le-pow_right (omega arith) (upto_yes _ _ (and_right _ _ e)) in
    past_whole_fair (decimal_from 0 (take m s)) (drop m s) (omega (arith, leading_small s)))
    (λ e. fair_refused 30)

quantity_fair : (s : Bytes) → Fair (quantity_read s)
unfolding quantity_read past_minus
quantity_fair s =
    let r : QuantityRead = unsigned_read (drop 1 s) in
    choice Fair (is (get_or s 0 0) 45) (λ e. choice Fair (is r.number 0) (λ f. fair_refused 31) (λ f. fair_refused 30)) (λ e. unsigned_fair s)

pub read_small : (s : Bytes) → (quantity_read s).kilowatts ≤ 9999999
read_small s = (quantity_fair s).0

-- ---- what is printed

pub text_length_lem : (kilowatts : ℕ) → length (quantity_text kilowatts) ≡ width_of (kilowatts / 1000) + 4
unfolding quantity_text
text_length_lem kw = simp (length-append, decimal_length, last_digits_length) (omega arith)

pub text_most : (kilowatts : ℕ) → kilowatts ≤ 9999999 → length (quantity_text kilowatts) ≤ 8
text_most kw h = omega (arith, text_length_lem kw, (width_wide (kw / 1000) (omega arith)).1)
