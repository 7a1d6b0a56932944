-- Soundness is kept: an accepted opening gives a sound book, an accepted clock move writes the clock alone, and an acceptance keeps each clause of soundness
-- for its own reason.
use Rattle.std.specs.Prelude.{◌≡◌, ◌-◌, ◌/◌, ◌≤◌}
use Rattle.laws.specs.Base.{refl, ap, ◌∙◌, true, List, [], ℕ, zero, suc, arith, length, drop, replicate, length-append, length-drop, length-replicate}
use Rattle.laws.specs.Tests.{is}
use Rattle.laws.specs.Tests.Laws.{and_left, and_right, and_both, is_same, upto_true}
use Rattle.laws.specs.Lists.{every, apart, until, All}
use Rattle.laws.specs.Lists.Each.{all_imply, every_all, all_every}
use Rattle.laws.specs.Lists.Keep.{until_append}
use Rattle.laws.specs.Bytes.{little}
use Rattle.laws.specs.Bytes.Laws.{written_length}
use Rattle.laws.specs.Cut.Laws.{cut_all}
use Rattle.paper.specs.Check.{check_right}
use Rattle.paper.specs.Layout.{Bytes, Block, blocks, zeros, n_of, rule_of, day_of_book, area, receiver, with_clock}
use Rattle.paper.specs.Ranges.{clock_allowed}
use Rattle.paper.specs.Book.{day_block, slots, is_free, used}
use Rattle.paper.specs.Sound.{day_fields, day_sound, sender_fields, sender_day_and_nets, sender_sound, series_fields, series_codes, series_values, series_sound, right_fields, right_sound, used_sound, sound}
use Rattle.paper.specs.Rules.{number_of, verdict}
use Rattle.paper.specs.Acceptance.{accepted, submitted}
use Rattle.paper.specs.Opening.{Opening, day_block_of, open_number, opened}
use Rattle.paper.specs.Clock.{clock_answer, clock_moved}
use Rattle.facts.specs.Check.{sealed_right}
use Rattle.facts.specs.Layout.{with_clock_length, clock_with_clock, kind_with_clock, n_with_clock, lead_with_clock, rule_with_clock, day_of_book_with_clock, area_with_clock, receiver_with_clock, day_zeros_with_clock}
use Rattle.facts.specs.Book.{day_block_append, slots_append, free_right}
use Rattle.facts.specs.Sound.{Sound, is_sound, day_block_length}
use Rattle.facts.specs.Verdict.{Accepts, accepts}
use Rattle.facts.specs.Calls.{Moves, moves, Opens, opens}
use Rattle.promises.specs.Laws.Parts.{after_of}
use Rattle.promises.specs.Laws.Rewritten.{book_long, checks_parted, checks_joined, sound_rewritten}
use Rattle.promises.specs.Laws.ReadBack.{rewrites}
use Rattle.promises.specs.Laws.SoundBytes.{checks_kept}
use Rattle.promises.specs.Laws.SoundApart.{senders_kept, series_kept}
use Rattle.promises.specs.Laws.SoundSeries.{counts_kept}
use Rattle.promises.specs.Laws.SoundRights.{rights_kept}
use Rattle.promises.specs.Laws.SoundSenders.{each_kept}
use Rattle.promises.specs.Laws.Refusals.{submission_accepted}

-- ---- an acceptance

pub sound_accepted : (book message : Bytes) → Accepts book message → Sound (accepted book message)
unfolding accepted
sound_accepted book message a = sound_rewritten book (after_of book message) (rewrites book message a) (checks_kept book message a) (each_kept book message a)
    (senders_kept book message a) (series_kept book message a) (rights_kept book message a) (counts_kept book message a)

-- ---- a clock move

day_sound_moved : (minute : ℕ) (d : Block) → length d ≡ 512 → minute ≤ 11580 → day_sound d ≡ true → day_sound (with_clock minute d) ≡ true
unfolding day_sound day_fields clock_allowed
day_sound_moved minute d e h k =
    let g = and_left _ _ (and_left _ _ (and_left _ _ k)) in
    let f = and_left _ _ g in
    rw (
      kind_with_clock minute d,
      n_with_clock minute d,
      lead_with_clock minute d,
      clock_with_clock minute d
          (omega arith) e,
      rule_with_clock minute d,
      day_of_book_with_clock minute d,
      area_with_clock minute d,
      receiver_with_clock minute d,
      day_zeros_with_clock minute d,
    )
    (and_both _ _ (and_both _ _ (and_both _ _ (and_both _ _ (and_both _ _ (and_both _ _ (and_left _ _ (and_left _ _ f)) (upto_true _ _ h)) (and_right _ _ f)) (and_right _ _ g))
    (and_right _ _ (and_left _ _ (and_left _ _ k)))) (and_right _ _ (and_left _ _ k))) (and_right _ _ k))

-- what a used block takes of the day block
used_sound_day : (d e : Block) (us : List Block) (x : Block) → n_of d ≡ n_of e → receiver d ≡ receiver e → day_of_book d ≡ day_of_book e → area d ≡ area e
    → used_sound d us x ≡ used_sound e us x
unfolding used_sound sender_sound sender_fields sender_day_and_nets series_sound series_fields series_codes series_values right_sound right_fields
used_sound_day d e us x n r p a = rw (n, r, p, a)

module _ (book : Bytes) (minute : ℕ) (m : Moves book minute) where
  abbrev d : Block
  d = with_clock minute (day_block book)

  day_length : length (with_clock minute (day_block book)) ≡ 512
  day_length = with_clock_length minute (day_block book) ∙ day_block_length book m.was

  pub day_block_moved : day_block (clock_moved book minute) ≡ with_clock minute (day_block book)
  day_block_moved = ap day_block m.result ∙ day_block_append d (drop 512 book) day_length

  slots_moved : slots (clock_moved book minute) ≡ slots book
  unfolding slots
  slots_moved = ap slots m.result ∙ slots_append d (drop 512 book) day_length

  pub used_moved : used (clock_moved book minute) ≡ used book
  unfolding used
  used_moved = ap (until is_free) slots_moved

  moved_length : length (clock_moved book minute) ≡ length book
  moved_length = ap length m.result ∙ omega (arith, length-append d (drop 512 book), day_length, length-drop 512 book, book_long book m.was)

  day_right : check_right (with_clock minute (day_block book)) ≡ true
  unfolding with_clock
  day_right = sealed_right _ (written_length 4 (little 2 minute) (day_block book) ∙ day_block_length book m.was)

  each_moved : All (λ x. used_sound (with_clock minute (day_block book)) (used book) x ≡ true) (used book)
  each_moved = all_imply (λ x. used_sound (day_block book) (used book) x ≡ true) (λ x. used_sound d (used book) x ≡ true)
      (λ x q. used_sound_day d (day_block book) (used book) x (n_with_clock minute (day_block book)) (receiver_with_clock minute (day_block book))
      (day_of_book_with_clock minute (day_block book)) (area_with_clock minute (day_block book)) ∙ q) (used book) m.was.each

  pub sound_moved : Sound (clock_moved book minute)
  sound_moved = record {
    whole = rw moved_length m.was.whole;
    least = rw moved_length m.was.least;
    most = rw moved_length m.was.most;
    checks = checks_joined (clock_moved book minute) (rw moved_length (book_long book m.was)) (rw day_block_moved day_right)
        (rw slots_moved (checks_parted book m.was).1);
    day = rw day_block_moved (day_sound_moved minute (day_block book) (day_block_length book m.was) m.most m.was.day);
    free = rw (used_moved, slots_moved) m.was.free;
    each = rw (day_block_moved, used_moved) each_moved;
    senders = rw used_moved m.was.senders;
    series = rw used_moved m.was.series;
    rights = rw used_moved m.was.rights;
    counts = rw (ap n_of day_block_moved ∙ n_with_clock minute (day_block book), used_moved) m.was.counts;
  }

-- ---- an opening

zeros_replicate : (k : ℕ) → zeros (replicate k 0) ≡ true
unfolding zeros every
zeros_replicate zero = refl
zeros_replicate (suc k) = and_both _ _ (is_same 0) (zeros_replicate k)

zeros_blocks : (b : Bytes) → zeros b ≡ true → All (λ x. is_free x ≡ true) (blocks b)
unfolding zeros is_free
zeros_blocks b e = all_imply (λ x. All (λ y. is y 0 ≡ true) x) (λ x. every (λ y. is y 0) x ≡ true) (λ x q. all_every _ x q) (blocks b)
    (cut_all (λ y. is y 0 ≡ true) 512 b (every_all _ b e))

module _ (book : Bytes) (o : Opening) (p : Opens book o) where
  pub day_block_opened : day_block (opened book o) ≡ day_block_of o
  day_block_opened = ap day_block p.result ∙ day_block_append (day_block_of o) _ p.day_length

  free_opened : All (λ x. is_free x ≡ true) (slots (opened book o))
  free_opened =
      rw (ap slots p.result ∙ slots_append (day_block_of o) (replicate (length book - 512) 0) p.day_length)
      (zeros_blocks (replicate (length book - 512) 0) (zeros_replicate (length book - 512)))

  pub used_opened : used (opened book o) ≡ []
  unfolding used
  used_opened = until_append is_free [] (slots (opened book o)) tt free_opened

  opened_length : length (opened book o) ≡ length book
  opened_length =
      let h : 2 ≤ length book / 512 = p.least in
      ap length p.result ∙ omega (
        arith,
        length-append (day_block_of o) (replicate (length book - 512) 0),
        p.day_length,
        length-replicate {A = ℕ}
            (length book - 512) 0,
      )

  pub sound_opened : Sound (opened book o)
  unfolding apart
  sound_opened = record {
    whole = rw opened_length p.whole;
    least = rw opened_length p.least;
    most = rw opened_length p.most;
    checks = checks_joined (opened book o) (let h : 2 ≤ length book / 512 = p.least in omega (arith, opened_length)) (rw day_block_opened p.check)
        (all_imply (λ x. is_free x ≡ true) (λ x. check_right x ≡ true) free_right (slots (opened book o)) free_opened);
    day = rw day_block_opened p.day;
    free = rw used_opened free_opened;
    each = rw used_opened tt;
    senders = rw used_opened;
    series = rw used_opened;
    rights = rw used_opened;
    counts = rw used_opened tt;
  }

-- ---- as tests

-- and the rule that it names is the book's
pub opened_rule : (book : Bytes) (o : Opening) → open_number book o ≡ 0 → rule_of (day_block (opened book o)) ≡ o.rule
opened_rule book o e = let p = opens book o e in ap rule_of (day_block_opened book o p) ∙ p.rule

pub opened_sound : (book : Bytes) (o : Opening) → open_number book o ≡ 0 → sound (opened book o) ≡ true
opened_sound book o e = is_sound _ (sound_opened book o (opens book o e))

pub moved_sound : (book : Bytes) (minute : ℕ) → (clock_answer book minute).number ≡ 0 → sound (clock_moved book minute) ≡ true
moved_sound book minute e = is_sound _ (sound_moved book minute (moves book minute e))

pub submitted_sound : (book message : Bytes) → number_of (verdict book message) ≡ 0 → sound (submitted book message) ≡ true
submitted_sound book message e = rw (submission_accepted book message e) (is_sound _ (sound_accepted book message (accepts book message e)))
