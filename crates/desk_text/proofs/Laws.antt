-- Laws of a text that is put, of its pieces passed by, and of the command that a word names.
use Rattle.std.specs.Prelude.{◌≡◌, ◌∷◌, ◌+◌, ◌-◌, ◌≤◌, ◌<◌, ◌≢◌, Option, None, Some}
use Rattle.std.specs.List.{find}
use Rattle.std.specs.Option.{option_map}
use Rattle.laws.specs.Kit.{refl, sym, ap, ◌∙◌, Bool, true, false, cond, List, [], ℕ, zero, suc, min, add-one, arith, length, drop, get_or, set, drop_of_length-le, drop-cons, is, is_equal, is_other}
use Rattle.laws.specs.Tests.{less}
use Rattle.laws.specs.Tests.Laws.{split, less_yes, less_no}
use Rattle.laws.specs.Lists.{same, until}
use Rattle.paper.specs.Listing.{text}
use Rattle.laws.specs.Bytes.{written}
use Rattle.laws.specs.Bytes.Laws.{written_none, written_cons}
use Rattle.laws.specs.Slices.{written_past}
use Rattle.desk_text.specs.Put.{Put, within}
use Rattle.desk_text.specs.Put.Laws.{then_text}
use Rattle.desk_text.specs.Words.{lines, first_piece, past_piece, past_pieces, piece_numbered, line_numbered, commands}
use Rattle.desk_text.specs.declared.commands.Command.{Command}
use Rattle.desk_text.specs.declared.commands.Command.TheVariants.{Open, Clock, Submit, Mark, Block, Final, Plain, List as Listing, Message, Eic, Kw, Commission, Convert, Right, Settle}
use Rattle.desk_text.specs.Commands.{word_of, number_of}
use Rattle.desk_text.specs.Arguments.{command_from, command_number, behind_last}

-- ---- put

pub within_min : (a b : ℕ) → min a b ≡ within a b
unfolding within less
within_min a b = grind arith

-- what is still to be put, over the line as it stands, gives what all of it gives over the line as it came
module _ (s b : List ℕ) (start i : ℕ) where
  pub put_turn : {t : List ℕ} → i < length s → written (start + i) (drop i s) b ≡ t → written (start + (i + 1)) (drop (i + 1) s) (set b (start + i) (get_or s i 0)) ≡ t
  put_turn h e =
      let next : start + (i + 1) ≡ start + i + 1 = omega arith in
      rw (next, add-one i) (sym (written_cons (start + i) (get_or s i 0) (drop (suc i) s) b)) ∙ ap (λ l. written (start + i) l b) (sym (drop-cons s i 0 h)) ∙ e

-- behind the last byte that has room nothing is put
pub put_all : (at start n : ℕ) (s x : List ℕ) {y : List ℕ} → start ≡ min at (length x) → n ≡ min (length s) (length x - start) → length y ≡ length x
    → written (start + n) (drop n s) y ≡ written start s x → Put at s (start + n) x y
put_all at start n s x {y} e f l g =
    let front : written start s x ≡ written at s x = ap (λ o. written o s x) (e ∙ within_min at (length x)) ∙ then_text at (length x) s x refl in
    let rest : written (start + n) (drop n s) y ≡ y =
    split (less n (length s))
    (λ t. let k : n < length s = less_yes n (length s) t in written_past (start + n) (drop n s) y (omega arith))
    (λ t. let k : length s ≤ n = less_no n (length s) t in rw (drop_of_length-le s {i = n} k) (written_none (start + n) y)) in
    let m : start + n ≡ min (at + length s) (length x) = omega arith in
    record { size = m ∙ within_min (at + length s) (length x); text = sym rest ∙ g ∙ front; fits = omega (arith, l) }

-- ---- pieces

pub drop_inside : (k n : ℕ) (s : List ℕ) → n ≡ min k (length s) → drop n s ≡ drop k s
drop_inside k n s e =
    split (less (length s) k)
    (λ t. let l : length s < k = less_yes (length s) k t in drop_of_length-le s {i = n} (omega arith) ∙ sym (drop_of_length-le s {i = k} (omega arith)))
    (λ t. let l : k ≤ length s = less_no (length s) k t in let q : n ≡ k = omega arith in ap (λ m. drop m s) q)

pub pieces_turn : (end left : ℕ) (x y : List ℕ) {t : List ℕ} → 0 < left → y ≡ past_piece end x → past_pieces end left x ≡ t → past_pieces end (left - 1) y ≡ t
unfolding past_pieces
pieces_turn end zero x y h e p = absurd (omega arith)
pieces_turn end (suc k) x y h e p = let q : suc k - 1 ≡ k = omega arith in rw (q, e) p

pub pieces_end : (end left : ℕ) (x : List ℕ) {t : List ℕ} → left ≤ 0 → past_pieces end left x ≡ t → x ≡ t
unfolding past_pieces
pieces_end end zero x h p = p
pieces_end end (suc k) x h p = absurd (omega arith)

-- ---- the command that a word names: the list of the program goes through the words of the definition in its order

-- the commands of a list have the numbers from k on, and the words of those numbers
abbrev Listed : ℕ → List Command → Type 0
Listed k [] = Unit
Listed k (c ∷ cs) = (number_of (Some c) ≡ k) × (line_numbered k commands ≡ word_of c) × Listed (k + 1) cs

found_from : (w : List ℕ) (k : ℕ) (cs : List Command) → Listed k cs → number_of (find (λ d. same (word_of d) w) cs) ≡ command_from (length cs) k w
unfolding command_from number_of
found_from w k [] h = refl
found_from w k (c ∷ cs) h = rw h.1 (by (same (word_of c) w) (found_from w (k + 1) cs h.2))
  where
    by : (t : Bool) → number_of (find (λ d. same (word_of d) w) cs) ≡ command_from (length cs) (k + 1) w
        → number_of (cond t (Some c) (find (λ d. same (word_of d) w) cs)) ≡ cond t k (command_from (length cs) (k + 1) w)
    by true e = h.0
    by false e = e

whole : (r : Option Command) → option_map (λ d. d) r ≡ r
whole None = refl
whole (Some d) = refl

abbrev commands_all : List Command
commands_all = Open ∷ Clock ∷ Submit ∷ Mark ∷ Block ∷ Final ∷ Plain ∷ Listing ∷ Message ∷ Eic ∷ Kw ∷ Commission ∷ Convert ∷ Right ∷ Settle ∷ []

all_listed : Listed 1 commands_all
unfolding commands lines line_numbered piece_numbered past_pieces past_piece first_piece word_of number_of text until is
all_listed = (refl, refl, (refl, refl, (refl, refl, (refl, refl, (refl, refl, (refl, refl, (refl, refl, (refl, refl, (refl, refl, (refl, refl, (refl, refl, (refl, refl, (refl, refl, (refl, refl, (refl, refl, tt)))))))))))))))

pub command_found : (w : List ℕ) (r : Option Command) → option_map (λ d. d) r ≡ find (λ d. same (word_of d) w) commands_all → number_of r ≡ command_number w
unfolding command_number
command_found w r e = ap number_of (sym (whole r) ∙ e) ∙ found_from w 1 commands_all all_listed

-- ---- the last byte of a kind

module _ (end k at : ℕ) (s : List ℕ) where
  last_go : {t : ℕ} → k < length s → behind_last end k at (drop k s) ≡ t → behind_last end (k + 1) (cond (is (get_or s k 0) end) (k + 1) at) (drop (k + 1) s) ≡ t
  unfolding behind_last
  last_go h e = ap (λ n. behind_last end (k + 1) (cond (is (get_or s k 0) end) (k + 1) at) (drop n s)) (add-one k) ∙ (rw (drop-cons s k 0 h) at e)

  pub last_hit : {t : ℕ} → k < length s → get_or s k 0 ≡ end → behind_last end k at (drop k s) ≡ t → behind_last end (k + 1) (k + 1) (drop (k + 1) s) ≡ t
  last_hit h q e = rw (is_equal _ _ q) at (last_go h e)

  pub last_miss : {t : ℕ} → k < length s → get_or s k 0 ≢ end → behind_last end k at (drop k s) ≡ t → behind_last end (k + 1) at (drop (k + 1) s) ≡ t
  last_miss h q e = rw (is_other _ _ q) at (last_go h e)

  pub last_end : {t : ℕ} → length s ≤ k → behind_last end k at (drop k s) ≡ t → at ≡ t
  unfolding behind_last
  last_end h e = rw (drop_of_length-le s h) at e
