-- A final value once given stays: the clock does not fall and the lead does not change, so a closed position stays closed; the rule does not change; a trade once held
-- stays held, by rule 16, and its id is tied to its key, by rule 7; no message changes a value at a closed position, nor brings one in, by rule 14; and neither a conversion nor a right that is entered changes a value.
use Rattle.std.specs.Prelude.{◌≡◌, ◌∷◌, ◌++◌, ◌+◌, ◌-◌, ◌*◌, ◌≤◌, ◌<◌}
use Rattle.laws.specs.Base.{refl, sym, ap, ◌∙◌, Bool, true, false, cond, true≢false, Option, none, some, option_get_or, option_map, List, [], ℕ, zero, suc, le_refl, le_trans, arith}
use Rattle.laws.specs.Tests.{◌or◌, neg, is, less}
use Rattle.laws.specs.Tests.Laws.{split, or_left, or_right, or_yes_left, or_yes_right, or_else, neg_yes, neg_true, is_yes, is_no, less_no, upto_no, upto_false}
use Rattle.laws.specs.Lists.{same, find, has, keep, All}
use Rattle.laws.specs.Lists.Same.{same_yes}
use Rattle.laws.specs.Lists.Each.{all_imply, all_both, all_keep, all_kept, all_find}
use Rattle.laws.specs.Lists.Search.{has_yes, has_no_find, find_passes, find_agree}
use Rattle.paper.specs.declared.FinalAnswer.{FinalAnswer}
use Rattle.paper.specs.Layout.{Bytes, Block, n_of, lead, clock_plus_10080, rule_of, area, sender, key, quantities, entry, quantity, with_clock}
use Rattle.paper.specs.Book.{day_block, used, is_series, key_is, trade_is, slot_of, is_series_of, own_series}
use Rattle.paper.specs.Sound.{sound}
use Rattle.paper.specs.Rules.{number_of, is_open, closed, stored_of, verdict}
use Rattle.paper.specs.Acceptance.{accepted, submitted}
use Rattle.paper.specs.Finals.{held, is_held, held_at, final_refused, final_in, final}
use Rattle.paper.specs.Clock.{clock_answer, clock_moved}
use Rattle.paper.specs.Rights.{enter_number, entered}
use Rattle.paper.specs.Conversion.{conversion_number, converted}
use Rattle.paper.specs.Calls.{Call, Desk, step, run, opening, clock_move, submission, entering, conversion, reading}
use Rattle.facts.specs.Layout.{clock_with_clock, n_with_clock, lead_with_clock, rule_with_clock, entry_quantities, quantity_nothing, entry_nothing}
use Rattle.promises.specs.Words.{NotOpened, Unopened, final_given, Later}
use Rattle.facts.specs.Sound.{Sound, sound_says, is_sound, day_n, day_block_length}
use Rattle.facts.specs.Verdict.{Line, Accepts, accepts}
use Rattle.facts.specs.Calls.{Moves, moves}
use Rattle.facts.specs.Conversion.{Converts, converts, conversion_refused}
use Rattle.facts.specs.Book.{series_of_series}
use Rattle.facts.specs.Pairs.{trade_by_key, view_found, held_viewed, TradesIn, trade_as_key}
use Rattle.facts.specs.Trades.{used_trades, sent_trades}
use Rattle.facts.specs.Rights.{Enters, enters, entering_refused}
use Rattle.promises.specs.Laws.Parts.{after_of, parts}
use Rattle.promises.specs.Laws.Stored.{held_accepted}
use Rattle.facts.specs.Stored.{present_test}
use Rattle.promises.specs.Laws.ReadBack.{used_accepted, day_block_accepted}
use Rattle.promises.specs.Laws.Refusals.{opening_refused, clock_refused, submission_refused, submission_accepted}
use Rattle.promises.specs.Laws.Soundness.{day_block_moved, used_moved}
use Rattle.promises.specs.Laws.ConvertedSlots.{day_block_converted}
use Rattle.promises.specs.Laws.SoundConverted.{sound_converted}
use Rattle.promises.specs.Laws.Conversion.{held_converted}
use Rattle.promises.specs.Laws.Entering.{held_beside, used_entered, day_block_entered}
use Rattle.promises.specs.Laws.ById.{own_viewed}
use Rattle.promises.specs.Laws.Invariant.{Invariant, invariant_run}

closed_later : (d e : Block) (p : ℕ) → lead e ≡ lead d → clock_plus_10080 d ≤ clock_plus_10080 e → closed d p ≡ true → closed e p ≡ true
unfolding closed is_open
closed_later d e p l c h =
    let q : 15 * (p - 1) + 10080 < clock_plus_10080 d + lead d = upto_no _ _ (neg_yes _ h) in
    neg_true _ (upto_false _ _ (omega arith))

pub later_refl : (b : Bytes) → Later b b
later_refl b = record { n = refl; leads = refl; rules = refl; clocks = le_refl (clock_plus_10080 (day_block b)); kept = λ e p h. h; values = λ e p k l h. refl }

pub later_trans : (a b c : Bytes) → Later a b → Later b c → Later a c
later_trans a b c f g = record {
  n = g.n ∙ f.n;
  leads = g.leads ∙ f.leads;
  rules = g.rules ∙ f.rules;
  clocks = le_trans f.clocks g.clocks;
  kept = λ e p h. g.kept e p (f.kept e p h);
  values = λ e p k l h. g.values e p k l (closed_later (day_block a) (day_block b) (k + 1) f.leads f.clocks h) ∙ f.values e p k l h;
}

-- ---- a clock move

later_moved : (book : Bytes) (minute : ℕ) → Moves book minute → Later book (clock_moved book minute)
later_moved book minute m =
    let u : used (clock_moved book minute) ≡ used book = used_moved book minute m in
    let d : day_block (clock_moved book minute) ≡ with_clock minute (day_block book) = day_block_moved book minute m in
    let k : clock_plus_10080 (with_clock minute (day_block book)) ≡ minute = clock_with_clock minute (day_block book) (omega (arith, m.most)) (day_block_length book m.was) in
    record {
      n = ap n_of d ∙ n_with_clock minute (day_block book);
      leads = ap lead d ∙ lead_with_clock minute (day_block book);
      rules = ap rule_of d ∙ rule_with_clock minute (day_block book);
      clocks = rw (d, k) m.later;
      kept = λ e p h. rw u h;
      values = λ e p i l h. rw u;
    }

-- ---- an acceptance

-- what the sender holds between two parties is what its stored trade has
own_held : (us : List Block) (e p : Bytes) → view_found quantities (trade_is (some p)) (own_series us e) ≡ held us e p
own_held us e p = own_viewed quantities us e (trade_is (some p)) ∙ sym (held_viewed us e p)

stored_value : (own : List Block) (y : Block) (k : ℕ) → k < 100 → quantity (stored_of own y) k ≡ held_at (view_found quantities (key_is (key y)) own) k
unfolding stored_of held_at view_found
stored_value own y k h = by (find (key_is (key y)) own)
  where
    by : (o : Option Block) → quantity (option_get_or o []) k ≡ entry (option_get_or (option_map quantities o) []) k
    by none = quantity_nothing k ∙ sym (entry_nothing k)
    by (some x) = sym (entry_quantities x k h)

is_held_found : (p : Block → Bool) (l : List Block) → has p l ≡ is_held (view_found quantities p l)
unfolding view_found is_held
is_held_found p l = split (has p l) (λ t. let q = has_yes p l t in rw (t, q.1)) (λ t. rw (t, has_no_find p l t))

not_found : (p : Block → Bool) (l : List Block) → find p l ≡ none → view_found quantities p l ≡ none
unfolding view_found
not_found p l e = rw e

module _ (book message : Bytes) (a : Accepts book message) where
  open parts book message use {ours, us, h, series, own}

  held_now : (e p : Bytes) → held (used (accepted book message)) e p ≡ cond (same (sender h) e) (view_found quantities (trade_is (some p)) series) (held us e p)
  held_now e p = ap (λ l. held l e p) (used_accepted book message a) ∙ held_viewed (after_of book message) e p ∙ held_accepted book message a e p
      ∙ ap (cond (same (sender h) e) (view_found quantities (trade_is (some p)) series)) (sym (held_viewed us e p))

  present : (p : Bytes) → has (trade_is (some p)) own ≡ true → has (trade_is (some p)) series ≡ true
  present p e = present_test own series a.present (trade_is (some p)) (trade_by_key (some p)) e

  own_trades : All (TradesIn (area (day_block book))) own
  unfolding own_series
  own_trades = all_imply (λ x. (is_series x ≡ true → TradesIn (area (day_block book)) x) × (is_series_of (slot_of us (sender h)) x ≡ true)) (TradesIn (area (day_block book)))
      (λ x q. q.0 (series_of_series _ x q.1)) (keep (is_series_of (slot_of us (sender h))) us)
      (all_both (λ x. is_series x ≡ true → TradesIn (area (day_block book)) x) (λ x. is_series_of (slot_of us (sender h)) x ≡ true) (keep (is_series_of (slot_of us (sender h))) us)
      (all_keep (λ x. is_series x ≡ true → TradesIn (area (day_block book)) x) (is_series_of (slot_of us (sender h))) us (used_trades book a.was))
      (all_kept (is_series_of (slot_of us (sender h))) us))

  kept_now : (e p : Bytes) → is_held (held us e p) ≡ true → is_held (held (used (accepted book message)) e p) ≡ true
  kept_now e p t = ap is_held (held_now e p) ∙ split (same (sender h) e)
      (λ i. rw i (sym (is_held_found (trade_is (some p)) series) ∙ present p (is_held_found (trade_is (some p)) own ∙ ap is_held (own_held us (sender h) p) ∙ rw (same_yes _ _ i) t)))
      (λ i. rw i t)

  -- the sender's own
  own_value : (p : Bytes) (k : ℕ) → k < 100 → closed (day_block book) (k + 1) ≡ true → (o : Option Block) → find (trade_is (some p)) series ≡ o → held_at
      (option_map quantities o) k ≡ held_at (held us (sender h) p) k
  unfolding held_at view_found
  own_value p k l c none e =
      split (has (trade_is (some p)) own)
      (λ q. let z : some (has_yes (trade_is (some p)) series (present p q)).0 ≡ none = sym (has_yes (trade_is (some p)) series (present p q)).1
      ∙ e in let w : true ≡ false = cc in absurd (true≢false w))
      (λ q. sym (ap (λ o. entry (option_get_or o []) k) (sym (own_held us (sender h) p) ∙ not_found (trade_is (some p)) own (has_no_find (trade_is (some p)) own q))))
  own_value p k l c (some y) e =
      let d : TradesIn (area (day_block book)) y = all_find (TradesIn (area (day_block book))) (trade_is (some p)) series y (sent_trades book message a) e in
      entry_quantities y k l
      ∙ (all_find (Line (day_block book) own h) (trade_is (some p)) series y a.each e).unchanged k l c
      ∙ stored_value own y k l
      ∙ ap (λ o. held_at (option_map quantities o) k) (sym (find_agree (trade_is (some p)) (key_is (key y)) own (all_imply (TradesIn (area (day_block book)))
      (λ z. trade_is (some p) z ≡ key_is (key y) z) (trade_as_key (area (day_block book)) (some p) y d (find_passes _ series y e)) own own_trades)))
      ∙ ap (λ o. held_at o k) (own_held us (sender h) p)

  values_now : (e p : Bytes) (k : ℕ) → k < 100 → closed (day_block book) (k + 1) ≡ true → held_at (held (used (accepted book message)) e p) k ≡ held_at (held us e p) k
  unfolding view_found
  values_now e p k l c = ap (λ o. held_at o k) (held_now e p) ∙ split (same (sender h) e)
      (λ t. rw (t, ← (same_yes (sender h) e t)) (own_value p k l c (find (trade_is (some p)) series) refl))
      (λ t. rw t)

  later_accepted : Later book (accepted book message)
  later_accepted = record {
    n = ap n_of (day_block_accepted book message a);
    leads = ap lead (day_block_accepted book message a);
    rules = ap rule_of (day_block_accepted book message a);
    clocks = rw (day_block_accepted book message a) (le_refl (clock_plus_10080 (day_block book)));
    kept = kept_now;
    values = values_now;
  }

-- ---- a right entered: no trade stands in its slot

later_entered : (book block : Bytes) → Enters book block → Later book (entered book block)
later_entered book block e = record {
  n = ap n_of (day_block_entered book block e);
  leads = ap lead (day_block_entered book block e);
  rules = ap rule_of (day_block_entered book block e);
  clocks = rw (day_block_entered book block e) (le_refl (clock_plus_10080 (day_block book)));
  kept = λ t p h. ap is_held (stays t p) ∙ h;
  values = λ t p k l h. ap (λ o. held_at o k) (stays t p);
}
  where
    stays : (t p : Bytes) → held (used (entered book block)) t p ≡ held (used book) t p
    stays t p = ap (λ us. held us t p) (used_entered book block e) ∙ held_viewed _ t p ∙ held_beside (used book) block e.kind quantities t (trade_is (some p)) ∙ sym (held_viewed (used book) t p)

-- ---- a conversion: it keeps the day block and every quantity

later_converted : (book : Bytes) → Converts book → Later book (converted book)
later_converted book c = record {
  n = ap n_of (day_block_converted book c);
  leads = ap lead (day_block_converted book c);
  rules = ap rule_of (day_block_converted book c);
  clocks = rw (day_block_converted book c) (le_refl (clock_plus_10080 (day_block book)));
  kept = λ e p h. ap is_held (held_converted book c e p) ∙ h;
  values = λ e p k l h. ap (λ o. held_at o k) (held_converted book c e p);
}

-- ---- one call, accepted or refused

pub later_clock : (book : Bytes) (minute : ℕ) → Later book (clock_moved book minute)
later_clock book minute = split (is (clock_answer book minute).number 0)
    (λ t. later_moved book minute (moves book minute (is_yes _ _ t)))
    (λ t. rw (clock_refused book minute (is_no _ _ t)) (later_refl book))

pub later_submission : (book message : Bytes) → Later book (submitted book message)
later_submission book message = split (is (number_of (verdict book message)) 0)
    (λ t. rw (submission_accepted book message (is_yes _ _ t)) (later_accepted book message (accepts book message (is_yes _ _ t))))
    (λ t. rw (submission_refused book message (is_no _ _ t)) (later_refl book))

pub later_entering : (book block : Bytes) → Later book (entered book block)
later_entering book block = split (is (enter_number book block) 0)
    (λ t. later_entered book block (enters book block (is_yes _ _ t)))
    (λ t. rw (entering_refused book block (is_no _ _ t)) (later_refl book))

pub later_conversion : (book : Bytes) → Later book (converted book)
later_conversion book = split (is (conversion_number book) 0)
    (λ t. later_converted book (converts book (is_yes _ _ t)))
    (λ t. rw (conversion_refused book (is_no _ _ t)) (later_refl book))

-- ---- any calls

later_step : (k : Desk) (c : Call) → NotOpened k c → Later k.book (step k c).book
unfolding step
later_step k (opening o) s = rw (opening_refused k.book o s) (later_refl k.book)
later_step k (clock_move minute) s = later_clock k.book minute
later_step k (submission m) s = later_submission k.book m
later_step k (entering block) s = later_entering k.book block
later_step k conversion s = later_conversion k.book
later_step k reading s = later_refl k.book

later_run : (k : Desk) (cs : List Call) → Unopened k cs → Later k.book (run k cs).book
unfolding run
later_run k [] s = later_refl k.book
later_run k (c ∷ cs) s = later_trans _ _ _ (later_step k c s.0) (later_run (step k c) cs s.1)

pub rule_stays : (k : Desk) (calls : List Call) → Unopened k calls → rule_of (day_block (run k calls).book) ≡ rule_of (day_block k.book)
rule_stays k calls q = (later_run k calls q).rules

-- ---- the reading

refused_not_given : (k v : ℕ) → final_refused (suc k) ≡ final_given v → ⊥
refused_not_given k v e = let z : suc k ≡ 0 = ap (λ (x : FinalAnswer). x.number) e in omega arith

either : (x y z w : Bool) → (x ≡ true → z ≡ true) → (y ≡ true → w ≡ true) → (x or y) ≡ true → (z or w) ≡ true
either x y z w f g e = split x (λ t. or_yes_left _ _ (f t)) (λ t. or_yes_right _ _ (g (or_else _ _ e t)))

module _ (b c : Bytes) (f : Later b c) (few : n_of (day_block b) ≤ 100) (seller buyer : Bytes) (p v : ℕ) where
  abbrev sold : List Block → Option Bytes
  sold us = held us seller (buyer ++ seller)

  abbrev bought : List Block → Option Bytes
  bought us = held us buyer (buyer ++ seller)

  final_in_later : final_in (day_block b) (used b) seller buyer p ≡ final_given v → final_in (day_block c) (used c) seller buyer p ≡ final_given v
  unfolding final_in neg
  final_in_later r =
      split (is p 0 or less (n_of (day_block b)) p) (λ t. absurd (refused_not_given 23 v (rw t at r)))
      (λ t. split (closed (day_block b) p)
      (λ u. split (is_held (sold (used b)) or is_held (bought (used b)))
      (λ w.
      let q : p - 1 + 1 ≡ p = omega (arith, position t) in
      let l : p - 1 < 100 = omega (arith, position t, less_no _ _ (or_right _ _ t)) in
      rw (
        f.n,
        f.rules,
        t,
        closed_later (day_block b) (day_block c) p f.leads f.clocks u,
        either _ _ (is_held (sold (used c))) (is_held (bought (used c))) (f.kept seller (buyer ++ seller)) (f.kept buyer (buyer ++ seller)) w,
        f.values seller (buyer ++ seller) (p - 1) l (rw q u),
        f.values buyer (buyer ++ seller) (p - 1) l (rw q u),
      ) (rw (t, u, w) at r))
      (λ w. absurd (refused_not_given 25 v (rw (t, u, w) at r))))
      (λ u. absurd (refused_not_given 24 v (rw (t, u) at r))))
    where
      positive : (n : ℕ) → (n ≡ 0 → ⊥) → 0 < n
      positive zero g = absurd (g refl)
      positive (suc n) g = omega arith

      position : (is p 0 or less (n_of (day_block b)) p) ≡ false → 0 < p
      position t = positive p (is_no p 0 (or_left _ _ t))

pub final_carried : (b c : Bytes) → Sound c → Later b c → (seller buyer : Bytes) (p v : ℕ) → final b seller buyer p ≡ final_given v → final c seller buyer p ≡ final_given v
unfolding final
final_carried b c s f seller buyer p v r = split (sound b)
    (λ t. rw (is_sound c s) (final_in_later b c f (day_n _ (sound_says b t).day) seller buyer p v (rw t at r)))
    (λ t. absurd (refused_not_given 0 v (rw t at r)))

-- whatever the bytes: a conversion that is accepted leaves a sound book, and one that is refused all as it was
pub final_converted : (book seller buyer : Bytes) (p v : ℕ) → final book seller buyer p ≡ final_given v → final (converted book) seller buyer p ≡ final_given v
final_converted book seller buyer p v r = split (is (conversion_number book) 0)
    (λ t. let c : Converts book = converts book (is_yes _ _ t) in final_carried book (converted book) (sound_converted book c) (later_converted book c) seller buyer p v r)
    (λ t. rw (conversion_refused book (is_no _ _ t)) r)

pub final_stays : (k : Desk) (calls : List Call) → Invariant k.book k.messages → Unopened k calls → (seller buyer : Bytes) (p v : ℕ)
    → final k.book seller buyer p ≡ final_given v → final (run k calls).book seller buyer p ≡ final_given v
final_stays k calls i q seller buyer p v r = final_carried k.book (run k calls).book (invariant_run k calls i).good (later_run k calls q) seller buyer p v r
