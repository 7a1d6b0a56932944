-- What holds of a book and the messages accepted since it began: it holds after an accepted opening, and after an accepted conversion with the messages kept; each call
-- keeps it, and so it holds after any calls.
use Rattle.std.specs.Prelude.{◌≡◌, ◌∷◌, ◌++◌, ◌≤◌, ◌<◌}
use Rattle.laws.specs.Base.{refl, sym, ap, ◌∙◌, Bool, true, cond, some, option_map, List, [], ℕ, arith, length}
use Rattle.laws.specs.Tests.{is, less}
use Rattle.laws.specs.Tests.Laws.{split, is_yes, is_no, is_equal, less_yes, less_no}
use Rattle.laws.specs.Lists.{same, find, apart, All}
use Rattle.laws.specs.Lists.Each.{all_imply}
use Rattle.paper.specs.Layout.{Bytes, Block, n_of, area, sender, nets, quantities, quantity}
use Rattle.paper.specs.Book.{day_block, used, key_is, trade_is, is_sender_block_of, slot_of, is_series_with, own_series}
use Rattle.paper.specs.Message.{head_of, series_of}
use Rattle.paper.specs.Rules.{number_of, verdict}
use Rattle.paper.specs.Nets.{nets_of}
use Rattle.paper.specs.Acceptance.{accepted, submitted}
use Rattle.paper.specs.Finals.{held}
use Rattle.paper.specs.Opening.{Opening, open_number, opened}
use Rattle.paper.specs.Clock.{clock_answer, clock_moved}
use Rattle.paper.specs.Rights.{enter_number, entered}
use Rattle.paper.specs.Conversion.{conversion_number, converted, kept_messages}
use Rattle.paper.specs.PlainRule.{or_else, latest, series_of_latest, plain_held, plain_nets}
use Rattle.paper.specs.Calls.{Call, Desk, step, run, opening, clock_move, submission, entering, conversion, reading}
use Rattle.facts.specs.Layout.{n_with_clock, area_with_clock}
use Rattle.facts.specs.Book.{used_lengths}
use Rattle.facts.specs.Sound.{Sound}
use Rattle.facts.specs.Verdict.{series_some_few, Line, same_id_or_key, Accepts, accepts}
use Rattle.facts.specs.Calls.{Moves, moves, Opens, opens}
use Rattle.facts.specs.Conversion.{Converts, converts, conversion_refused}
use Rattle.facts.specs.Pairs.{with_of_slot, view_found, view_held, held_viewed}
use Rattle.facts.specs.Rights.{Enters, enters, entering_refused}
use Rattle.facts.specs.Renewal.{shape}
use Rattle.promises.specs.Laws.Marks.{MarksTrue, marks_kept}
use Rattle.promises.specs.Laws.NetsTrue.{NetsTrue, nets_kept, nets_after, head_content_after}
use Rattle.promises.specs.Laws.ReadBack.{used_accepted, day_block_accepted}
use Rattle.promises.specs.Laws.Refusals.{opening_refused, clock_refused, submission_refused, submission_accepted}
use Rattle.promises.specs.Laws.Soundness.{sound_accepted, day_block_moved, used_moved, sound_moved, used_opened, sound_opened}
use Rattle.promises.specs.Laws.Stored.{held_accepted, content_accepted}
use Rattle.promises.specs.Laws.ById.{own_viewed}
use Rattle.promises.specs.Laws.OwnSeries.{own_few, own_small, own_distinct}
use Rattle.promises.specs.Laws.SoundConverted.{sound_converted}
use Rattle.promises.specs.Laws.Conversion.{marks_converted, nets_converted}
use Rattle.promises.specs.Laws.Entering.{held_beside, sender_beside, marks_beside, nets_beside, used_entered, day_block_entered, sound_entered}
use Rattle.promises.specs.Laws.KeptMessages.{series_of_latest_kept, heads_kept, plain_nets_kept}
use Rattle.promises.specs.Words.{content, head_content, Starts, begun, messages_after, plain_content, plain_head_content}

-- ---- the messages, one longer

latest_more : (e : Bytes) (ms : List Bytes) (m : Bytes) → latest e (ms ++ m ∷ []) ≡ cond (same (sender (head_of m)) e) (some m) (latest e ms)
unfolding latest or_else
latest_more e [] m = refl
latest_more e (x ∷ ms) m = split (same (sender (head_of m)) e) (λ t. rw (latest_more e ms m, t)) (λ t. rw (latest_more e ms m, t))

view_more : (view : Block → Bytes) (ms : List Bytes) (m e : Bytes) (q : Block → Bool)
    → view_found view q (series_of_latest (latest e (ms ++ m ∷ []))) ≡ cond (same (sender (head_of m)) e) (view_found view q (series_of m))
    (view_found view q (series_of_latest (latest e ms)))
unfolding series_of_latest
view_more view ms m e q = split (same (sender (head_of m)) e) (λ t. rw (latest_more e ms m, t)) (λ t. rw (latest_more e ms m, t))

plain_held_viewed : (ms : List Bytes) (e p : Bytes) → plain_held ms e p ≡ view_found quantities (trade_is (some p)) (series_of_latest (latest e ms))
unfolding plain_held view_found
plain_held_viewed ms e p = refl

plain_content_viewed : (ms : List Bytes) (e k : Bytes) → plain_content ms e k ≡ view_found content (key_is k) (series_of_latest (latest e ms))
unfolding plain_content view_found
plain_content_viewed ms e k = refl

plain_head_more : (ms : List Bytes) (m e : Bytes) → plain_head_content (ms ++ m ∷ []) e ≡ cond (same (sender (head_of m)) e) (some (head_content (head_of m)))
    (plain_head_content ms e)
unfolding plain_head_content
plain_head_more ms m e = split (same (sender (head_of m)) e) (λ t. rw (latest_more e ms m, t)) (λ t. rw (latest_more e ms m, t))

plain_nets_more : (ours : Bytes) (ms : List Bytes) (m e : Bytes) → plain_nets ours (ms ++ m ∷ []) e
    ≡ cond (same (sender (head_of m)) e) (some (nets_of ours e (series_of m))) (plain_nets ours ms e)
unfolding plain_nets
plain_nets_more ours ms m e = split (same (sender (head_of m)) e) (λ t. rw (latest_more e ms m, t)) (λ t. rw (latest_more e ms m, t))

-- a fact of the series of each sender's latest message
sent_more : (P : List Block → Type 0) (ms : List Bytes) (m : Bytes) → P (series_of m) → ((e : Bytes) → P (series_of_latest (latest e ms)))
    → (e : Bytes) → P (series_of_latest (latest e (ms ++ m ∷ [])))
unfolding series_of_latest
sent_more P ms m p v e = split (same (sender (head_of m)) e) (λ t. rw (latest_more e ms m, t) p) (λ t. rw (latest_more e ms m, t) (v e))

-- at most 200 series, no quantity above 9,999,999
pub record Within (series : List Block) : Type 0 where
  pub few : length series ≤ 200
  pub small : (k : ℕ) → k < 100 → All (λ x. quantity x k ≤ 9999999) series

within_sent : (book m : Bytes) → Accepts book m → Within (series_of m)
within_sent book m a = record {
  few = (series_some_few m a.right).1;
  small = λ k h. all_imply (Line (day_block book) (own_series (used book) (sender (head_of m))) (head_of m)) (λ x. quantity x k ≤ 9999999)
      (λ x l. split (less k (n_of (day_block book))) (λ t. l.small k h (less_yes _ _ t)) (λ t. omega (arith, l.above k h (less_no _ _ t)))) (series_of m) a.each;
}

-- ---- what holds

pub record Invariant (book : Bytes) (messages : List Bytes) : Type 0 where
  pub good : Sound book
  -- of every sender and pair the book has the quantities of the trade, and of every sender and key the content of the series, that the sender's latest message has
  pub stored : (e p : Bytes) → view_held quantities (used book) e (trade_is (some p)) ≡ view_found quantities (trade_is (some p)) (series_of_latest (latest e messages))
  pub contents : (e k : Bytes) → view_held content (used book) e (key_is k) ≡ view_found content (key_is k) (series_of_latest (latest e messages))
  -- each sender block is the first block of that message, nets and check apart
  pub heads : (e : Bytes) → option_map head_content (find (is_sender_block_of e) (used book)) ≡ plain_head_content messages e
  -- the marks are true, and the nets, by the book and by the messages
  pub marks : MarksTrue (n_of (day_block book)) (used book)
  pub kept_nets : NetsTrue (area (day_block book)) (used book)
  pub plain : (e : Bytes) → option_map nets (find (is_sender_block_of e) (used book)) ≡ plain_nets (area (day_block book)) messages e
  -- no id and no key stands twice in a sender's latest message, and its series and quantities are within their range
  pub distinct : (e : Bytes) → apart same_id_or_key (series_of_latest (latest e messages)) ≡ true
  pub within : (e : Bytes) → Within (series_of_latest (latest e messages))

-- what is held is what was last sent, in the words of the plain rule
pub held_plain : (book : Bytes) (ms : List Bytes) → Invariant book ms → (e p : Bytes) → held (used book) e p ≡ plain_held ms e p
held_plain book ms v e p = held_viewed (used book) e p ∙ v.stored e p ∙ sym (plain_held_viewed ms e p)

pub content_plain : (book : Bytes) (ms : List Bytes) → Invariant book ms → (e k : Bytes) → option_map content (find (is_series_with (slot_of (used book) e) k)
    (used book)) ≡ plain_content ms e k
unfolding view_held view_found
content_plain book ms v e k = ap (λ q. option_map content (find q (used book))) (with_of_slot (slot_of (used book) e) k) ∙ v.contents e k ∙ sym (plain_content_viewed ms e k)

invariant_accepted : (book : Bytes) (ms : List Bytes) (m : Bytes) → Accepts book m → Invariant book ms → Invariant (accepted book m) (ms ++ m ∷ [])
invariant_accepted book ms m a v = record {
  good = sound_accepted book m a;
  stored = λ e p.
      ap (λ us. view_held quantities us e (trade_is (some p))) (used_accepted book m a) ∙ held_accepted book m a e p
      ∙ ap (cond (same (sender (head_of m)) e) (view_found quantities (trade_is (some p)) (series_of m))) (v.stored e p) ∙ sym (view_more quantities ms m e (trade_is (some p)));
  contents = λ e k.
      ap (λ us. view_held content us e (key_is k)) (used_accepted book m a) ∙ content_accepted book m a e k
      ∙ ap (cond (same (sender (head_of m)) e) (view_found content (key_is k) (series_of m))) (v.contents e k) ∙ sym (view_more content ms m e (key_is k));
  heads = λ e.
      ap (λ us. option_map head_content (find (is_sender_block_of e) us)) (used_accepted book m a) ∙ head_content_after book m a e
      ∙ ap (cond (same (sender (head_of m)) e) (some (head_content (head_of m)))) (v.heads e) ∙ sym (plain_head_more ms m e);
  marks = rw (day_block_accepted book m a, used_accepted book m a) (marks_kept (area (day_block book)) (used book) (head_of m) (series_of m) (shape book m a) (n_of (day_block book)) (used_lengths book)
      v.marks);
  kept_nets = rw (day_block_accepted book m a, used_accepted book m a) (nets_kept book m a v.kept_nets);
  plain = λ e.
      ap (λ us. option_map nets (find (is_sender_block_of e) us)) (used_accepted book m a) ∙ nets_after book m a e
      ∙ ap (cond (same (sender (head_of m)) e) (some (nets_of (area (day_block book)) e (series_of m)))) (v.plain e) ∙ sym (plain_nets_more (area (day_block book)) ms m e)
      ∙ ap (λ d. plain_nets (area d) (ms ++ m ∷ []) e) (sym (day_block_accepted book m a));
  distinct = sent_more (λ l. apart same_id_or_key l ≡ true) ms m a.distinct_all v.distinct;
  within = sent_more Within ms m (within_sent book m a) v.within;
}

pub invariant_opened : (book : Bytes) (o : Opening) → open_number book o ≡ 0 → Invariant (opened book o) []
unfolding view_held view_found find plain_nets plain_head_content latest series_of_latest MarksTrue NetsTrue apart
invariant_opened book o e =
    let p : Opens book o = opens book o e in
    record {
      good = sound_opened book o p;
      stored = λ t k. rw (used_opened book o p);
      contents = λ t k. rw (used_opened book o p);
      heads = λ t. rw (used_opened book o p);
      marks = rw (used_opened book o p) tt;
      kept_nets = rw (used_opened book o p) tt;
      plain = λ t. rw (used_opened book o p);
      distinct = λ t. refl;
      within = λ t. record { few = omega arith; small = λ k h. tt };
    }

-- a book whose marks and nets are true, and the messages that it keeps
invariant_kept : (book : Bytes) → Sound book → MarksTrue (n_of (day_block book)) (used book) → NetsTrue (area (day_block book)) (used book) → Invariant book (kept_messages (used book))
invariant_kept book s m v =
    let own : (e : Bytes) → series_of_latest (latest e (kept_messages (used book))) ≡ own_series (used book) e = series_of_latest_kept book s in
    record {
      good = s;
      stored = λ e p. rw (own e) (sym (own_viewed quantities (used book) e (trade_is (some p))));
      contents = λ e k. rw (own e) (sym (own_viewed content (used book) e (key_is k)));
      heads = heads_kept book s;
      marks = m;
      kept_nets = v;
      plain = λ e. plain_nets_kept book s e (area (day_block book)) v;
      distinct = λ e. rw (own e) (own_distinct book s e);
      within = λ e. rw (own e) (record { few = own_few book s e; small = own_small book s e });
    }

-- the same of a list that is these messages: where it is another, that is told at once, and no definition is looked into
invariant_same : (book : Bytes) (ms : List Bytes) → ms ≡ kept_messages (used book) → Invariant book (kept_messages (used book)) → Invariant book ms
invariant_same book ms p v = rw p v

pub invariant_converted : (book : Bytes) → conversion_number book ≡ 0 → Invariant (converted book) (kept_messages (used (converted book)))
invariant_converted book e =
    let c : Converts book = converts book e in
    invariant_same (converted book) _ (grind arith) (invariant_kept (converted book) (sound_converted book c) (marks_converted book c) (nets_converted book c))

invariant_moved : (book : Bytes) (ms : List Bytes) (minute : ℕ) → Moves book minute → Invariant book ms → Invariant (clock_moved book minute) ms
invariant_moved book ms minute m v =
    let n : n_of (day_block (clock_moved book minute)) ≡ n_of (day_block book) = ap n_of (day_block_moved book minute m) ∙ n_with_clock minute (day_block book) in
    let o : area (day_block (clock_moved book minute)) ≡ area (day_block book) = ap area (day_block_moved book minute m) ∙ area_with_clock minute (day_block book) in
    record {
      good = sound_moved book minute m;
      stored = λ e p. rw (used_moved book minute m) (v.stored e p);
      contents = λ e p. rw (used_moved book minute m) (v.contents e p);
      heads = λ e. rw (used_moved book minute m) (v.heads e);
      marks = rw (n, used_moved book minute m) v.marks;
      kept_nets = rw (o, used_moved book minute m) v.kept_nets;
      plain = λ e. rw (o, used_moved book minute m) (v.plain e);
      distinct = v.distinct;
      within = v.within;
    }

-- a right entered is in no sender's way
invariant_entered : (book : Bytes) (ms : List Bytes) (block : Bytes) → Enters book block → Invariant book ms → Invariant (entered book block) ms
invariant_entered book ms block e v = record {
  good = sound_entered book block e;
  stored = λ t p. ap (λ us. view_held quantities us t (trade_is (some p))) (used_entered book block e) ∙ held_beside (used book) block e.kind quantities t (trade_is (some p))
      ∙ v.stored t p;
  contents = λ t k. ap (λ us. view_held content us t (key_is k)) (used_entered book block e) ∙ held_beside (used book) block e.kind content t (key_is k) ∙ v.contents t k;
  heads = λ t. ap (λ us. option_map head_content (find (is_sender_block_of t) us)) (used_entered book block e)
      ∙ ap (option_map head_content) (sender_beside (used book) block e.kind t) ∙ v.heads t;
  marks = rw (day_block_entered book block e, used_entered book block e) (marks_beside (used book) block e.kind (n_of (day_block book)) v.marks);
  kept_nets = rw (day_block_entered book block e, used_entered book block e) (nets_beside (used book) block e.kind (area (day_block book)) v.kept_nets);
  plain = λ t. rw (day_block_entered book block e) (ap (λ us. option_map nets (find (is_sender_block_of t) us)) (used_entered book block e)
      ∙ ap (option_map nets) (sender_beside (used book) block e.kind t) ∙ v.plain t);
  distinct = v.distinct;
  within = v.within;
}

-- ---- one call, accepted or refused

pub opening_kept : (book : Bytes) (ms : List Bytes) (o : Opening) → Invariant book ms → Invariant (opened book o) (cond (is (open_number book o) 0) [] ms)
opening_kept book ms o v = split (is (open_number book o) 0)
    (λ t. rw t (invariant_opened book o (is_yes _ _ t)))
    (λ t. rw (t, opening_refused book o (is_no _ _ t)) v)

pub clock_kept : (book : Bytes) (ms : List Bytes) (minute : ℕ) → Invariant book ms → Invariant (clock_moved book minute) ms
clock_kept book ms minute v = split (is (clock_answer book minute).number 0)
    (λ t. invariant_moved book ms minute (moves book minute (is_yes _ _ t)) v)
    (λ t. rw (clock_refused book minute (is_no _ _ t)) v)

pub submission_kept : (book : Bytes) (ms : List Bytes) (m : Bytes) → Invariant book ms → Invariant (submitted book m) (messages_after book m ms)
unfolding messages_after
submission_kept book ms m v = split (is (number_of (verdict book m)) 0)
    (λ t. rw (t, submission_accepted book m (is_yes _ _ t)) (invariant_accepted book ms m (accepts book m (is_yes _ _ t)) v))
    (λ t. rw (t, submission_refused book m (is_no _ _ t)) v)

pub entering_kept : (book : Bytes) (ms : List Bytes) (block : Bytes) → Invariant book ms → Invariant (entered book block) ms
entering_kept book ms block v = split (is (enter_number book block) 0)
    (λ t. invariant_entered book ms block (enters book block (is_yes _ _ t)) v)
    (λ t. rw (entering_refused book block (is_no _ _ t)) v)

pub conversion_kept : (book : Bytes) (ms : List Bytes) → Invariant book ms
    → Invariant (converted book) (cond (is (conversion_number book) 0) (kept_messages (used (converted book))) ms)
conversion_kept book ms v = split (is (conversion_number book) 0)
    (λ t. rw t (invariant_converted book (is_yes _ _ t)))
    (λ t. rw (t, conversion_refused book (is_no _ _ t)) v)

-- ---- any calls

invariant_step : (k : Desk) (c : Call) → Invariant k.book k.messages → Invariant (step k c).book (step k c).messages
unfolding step messages_after
invariant_step k (opening o) v = opening_kept k.book k.messages o v
invariant_step k (clock_move minute) v = clock_kept k.book k.messages minute v
invariant_step k (submission m) v = submission_kept k.book k.messages m v
invariant_step k (entering block) v = entering_kept k.book k.messages block v
invariant_step k conversion v = conversion_kept k.book k.messages v
invariant_step k reading v = v

pub invariant_run : (k : Desk) (cs : List Call) → Invariant k.book k.messages → Invariant (run k cs).book (run k cs).messages
unfolding run
invariant_run k [] v = v
invariant_run k (c ∷ cs) v = invariant_run (step k c) cs (invariant_step k c v)

pub invariant_begun : (buffer : Bytes) (start : Call) → Starts buffer start → Invariant (begun buffer start).book (begun buffer start).messages
unfolding step
invariant_begun buffer (opening o) e = rw (is_equal _ _ e) (invariant_opened buffer o e)
invariant_begun buffer conversion e = rw (is_equal _ _ e) (invariant_converted buffer e)
invariant_begun buffer (clock_move _) e = elim e [ ]
invariant_begun buffer (submission _) e = elim e [ ]
invariant_begun buffer (entering _) e = elim e [ ]
invariant_begun buffer reading e = elim e [ ]
