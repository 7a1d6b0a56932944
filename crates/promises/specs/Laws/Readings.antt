-- What is read by sender and id is what the messages give: the series is the one that the sender's latest message has under the id, its mark is the plain rule's,
-- a net is the signed sum of its quantities, and a final is worked out from what each party last sent.
use Rattle.std.specs.Prelude.{◌≡◌, ◌++◌, ◌<◌}
use Rattle.laws.specs.Base.{refl, sym, ap, ◌∙◌, true, false, true≢false, Option, none, some, option_get_or, option_map, List, [], ℕ, length}
use Rattle.laws.specs.Tests.Laws.{and_left}
use Rattle.laws.specs.Lists.{find, place, nth, All}
use Rattle.laws.specs.Lists.Each.{all_keep}
use Rattle.laws.specs.Lists.Search.{find_passes, find_keep_and, nth_place}
use Rattle.paper.specs.Layout.{Bytes, Block, area, nets, net, senders_slot, pair, key, mark, partner, entry}
use Rattle.paper.specs.Book.{day_block, used, is_series, id_is, key_is, trade, is_sender_block_of, slot_of, is_series_of, is_trade_of, own_series}
use Rattle.paper.specs.Message.{series_of}
use Rattle.paper.specs.Nets.{bought, sold, net_of, nets_of}
use Rattle.paper.specs.Finals.{final_in, final}
use Rattle.paper.specs.Readings.{is_stored_as, stored_as, mark_found, mark_answer, accepted_block}
use Rattle.paper.specs.PlainRule.{latest, series_of_latest, other_party, plain_nets}
use Rattle.facts.specs.Layout.{mark_differing, mark_first, mark_partner, net_is_quantity, entry_nets}
use Rattle.facts.specs.Book.{series_of_series, series_of_slot, used_lengths}
use Rattle.facts.specs.Sound.{is_sound}
use Rattle.facts.specs.Verdict.{series_lengths}
use Rattle.facts.specs.Nets.{SignedSum, net_signed}
use Rattle.facts.specs.Keys.{key_pair, key_trade}
use Rattle.facts.specs.Pairs.{view_found}
use Rattle.promises.specs.Laws.Invariant.{Within, Invariant, held_plain}
use Rattle.promises.specs.Laws.Nets.{nets_entry}
use Rattle.promises.specs.Laws.ById.{own_viewed, Row, other_has, by_id}
use Rattle.promises.specs.Laws.OwnSeries.{own_distinct}
use Rattle.promises.specs.Laws.PlainMarks.{mark_plain, partner_found}
use Rattle.promises.specs.Words.{content, plain_stored_as, mark_told, plain_mark_found, plain_mark_answer, plain_final}

latest_lengths : (found : Option Bytes) → All (λ y. length y ≡ 512) (series_of_latest found)
unfolding series_of_latest
latest_lengths none = tt
latest_lengths (some m) = series_lengths m

not_viewed : (o : Option Block) → none ≡ option_map content o → o ≡ none
not_viewed none e = refl
not_viewed (some y) e = let z : true ≡ false = cc in absurd (true≢false z)

mark_found_told : (x : Block) → mark_found (some x) ≡ mark_told (mark x)
unfolding mark_found mark_told
mark_found_told x = rw (mark_differing x, mark_first x, mark_partner x)

module _ (book : Bytes) (ms : List Bytes) (v : Invariant book ms) where
  abbrev us : List Block
  us = used book

  -- a sender's stored series, and those of its latest message

  own_row : (e : Bytes) → Row (own_series us e)
  unfolding own_series
  own_row e = record {
    whole = all_keep (λ x. length x ≡ 512) (is_series_of (slot_of us e)) us (used_lengths book);
    distinct = own_distinct book v.good e;
  }

  sent_row : (e : Bytes) → Row (series_of_latest (latest e ms))
  sent_row e = record { whole = latest_lengths (latest e ms); distinct = v.distinct e }

  by_key : (e k : Bytes) → view_found content (key_is k) (own_series us e) ≡ view_found content (key_is k) (series_of_latest (latest e ms))
  by_key e k = own_viewed content us e (key_is k) ∙ v.contents e k

  own_by_id : (e id : Bytes) → find (id_is id) (own_series us e) ≡ stored_as us e id
  unfolding stored_as is_stored_as own_series
  own_by_id e id = find_keep_and (id_is id) (is_series_of (slot_of us e)) us

  pub stored_plain : (e id : Bytes) → option_map content (stored_as (used book) e id) ≡ option_map content (plain_stored_as ms e id)
  unfolding plain_stored_as view_found
  stored_plain e id = ap (option_map content) (sym (own_by_id e id)) ∙ by_id (own_series us e) (series_of_latest (latest e ms)) (own_row e) (sent_row e) (by_key e) id

  pub accepted_block_plain : (e id : Bytes) → content (accepted_block book e id) ≡ content (option_get_or (plain_stored_as ms e id) [])
  unfolding accepted_block
  accepted_block_plain e id = rw (is_sound book v.good) (by (stored_as us e id) (plain_stored_as ms e id) (stored_plain e id))
    where
      by : (o u : Option Block) → option_map content o ≡ option_map content u → content (option_get_or o []) ≡ content (option_get_or u [])
      by none u q = ap (λ w. content (option_get_or w [])) (sym (not_viewed u q))
      by (some x) none q = let z : true ≡ false = cc in absurd (true≢false z)
      by (some x) (some y) q = cc

  pub accepted_block_none : (e id : Bytes) → plain_stored_as ms e id ≡ none → accepted_block book e id ≡ []
  unfolding accepted_block
  accepted_block_none e id f = rw (is_sound book v.good, not_viewed (stored_as us e id) (sym (ap (option_map content) f) ∙ sym (stored_plain e id)))

  -- ---- marks

  module _ (e id : Bytes) where
    answered : mark_answer book e id ≡ mark_found (stored_as us e id)
    unfolding mark_answer
    answered = rw (is_sound book v.good)

    -- a series x that is stored under the id
    module _ (x : Block) (f : stored_as us e id ≡ some x) where
      abbrev slot : ℕ
      slot = place (is_stored_as us e id) us

      there : nth us slot ≡ some x
      unfolding stored_as
      there = nth_place (is_stored_as us e id) us ∙ f

      own : is_series_of (slot_of us e) x ≡ true
      unfolding stored_as is_stored_as
      own = and_left _ _ (find_passes _ us x f)

      series : is_series x ≡ true
      series = series_of_series _ x own

      whose : slot_of us e ≡ senders_slot x
      whose = sym (series_of_slot _ x own)

      sent : (y : Block) × (find (id_is id) (series_of_latest (latest e ms)) ≡ some y) × (content x ≡ content y) × (key x ≡ key y)
      sent = other_has (own_series us e) (series_of_latest (latest e ms)) (own_row e) (sent_row e) (by_key e) id x (own_by_id e id ∙ f)

      mark_due : mark_found (some x) ≡ plain_mark_answer ms e id (partner x)
      unfolding plain_mark_answer plain_stored_as plain_mark_found
      mark_due = mark_found_told x ∙ ap mark_told (mark_plain book ms v slot x there series e whose) ∙ rw (sent.1, key_trade x sent.0 sent.3)

    mark_by : (o : Option Block) → stored_as us e id ≡ o → mark_found o ≡ plain_mark_answer ms e id (mark_found o).partner.0
    unfolding mark_found plain_mark_answer plain_mark_found
    mark_by none f = rw (not_viewed (plain_stored_as ms e id) (sym (ap (option_map content) f) ∙ stored_plain e id))
    mark_by (some x) f = mark_due x f

    pub mark_reading : mark_answer book e id ≡ plain_mark_answer ms e id (mark_answer book e id).partner.0
    mark_reading = rw answered (mark_by (stored_as us e id) refl)

    -- the slot in it holds the trade of the other party with the pair; where there is none it is 0, and no slot has that number
    pub partner_reading : (y : Block) → plain_stored_as ms e id ≡ some y
        → nth (used book) (mark_answer book e id).partner.0 ≡ find (is_trade_of (slot_of (used book) (other_party e (pair y))) (trade y)) (used book)
    unfolding plain_stored_as mark_found
    partner_reading y f =
        let q = other_has (series_of_latest (latest e ms)) (own_series us e) (sent_row e) (own_row e) (λ p. sym (by_key e p)) id y f in
        let x : Block = q.0 in
        let g : stored_as us e id ≡ some x = sym (own_by_id e id) ∙ q.1 in
        rw (answered, g, key_pair y x q.3, key_trade y x q.3) (partner_found book ms v (slot x g) x (there x g) (series x g) e (whose x g))

  -- ---- nets

  pub net_reading : (e : Bytes) (s : Block) → find (is_sender_block_of e) (used book) ≡ some s → (k : ℕ) → k < 100
      → SignedSum (net s k) (bought (area (day_block book)) e (series_of_latest (latest e ms)) k) (sold (area (day_block book)) e (series_of_latest (latest e ms)) k)
  unfolding plain_nets series_of_latest
  net_reading e s f k h = by (latest e ms) (v.within e) (sym (ap (option_map nets) f) ∙ v.plain e)
    where
      by : (o : Option Bytes) → Within (series_of_latest o) → some (nets s) ≡ option_map (λ m. nets_of (area (day_block book)) e (series_of m)) o
          → SignedSum (net s k) (bought (area (day_block book)) e (series_of_latest o) k) (sold (area (day_block book)) e (series_of_latest o) k)
      by none w q = let z : true ≡ false = cc in absurd (true≢false z)
      by (some m) w q =
          let i : nets s ≡ nets_of (area (day_block book)) e (series_of m) = cc in
          let j : net s k ≡ net_of (area (day_block book)) e (series_of m) k = net_is_quantity s k ∙ sym (entry_nets s k h) ∙ ap (λ l. entry l k) i ∙ nets_entry (area (day_block book)) e (series_of m) k h in
          rw j (net_signed (area (day_block book)) e (series_of m) k w.few (w.small k h))

  -- ---- finals

  pub final_reading : (seller buyer : Bytes) (p : ℕ) → final book seller buyer p ≡ plain_final (day_block book) ms seller buyer p
  unfolding final final_in plain_final
  final_reading seller buyer p =
      rw (is_sound book v.good, held_plain book ms v seller (buyer ++ seller), held_plain book ms v buyer (buyer ++ seller))
