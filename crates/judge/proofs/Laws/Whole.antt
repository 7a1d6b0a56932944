-- The verdict on a book and a message, by the parts that the code takes of them.
use Rattle.std.specs.Prelude.{◌≡◌, ◌-◌, ◌/◌, Result, Ok, Err}
use Rattle.laws.specs.Kit.{refl, sym, ap, ap₂, ◌∙◌, Bool, true, false, not, List, ℕ, length, neg, neg_no, neg_false}
use Rattle.laws.specs.Lists.Keep.{count_until}
use Rattle.laws.specs.Cut.{cut}
use Rattle.laws.specs.Cut.Laws.{cut_length}
use Rattle.paper.specs.declared.Verdict.{Verdict}
use Rattle.paper.specs.Layout.{Bytes, Block, sender}
use Rattle.paper.specs.Book.{day_block, slots, is_free, used, free_slots, slot_of}
use Rattle.paper.specs.Sound.{sound}
use Rattle.paper.specs.Message.{head_of, series_of, rule2}
use Rattle.paper.specs.Rules.{broken, rule1, verdict}
use Rattle.facts.specs.Book.{slots_length}
use Rattle.facts.specs.Sound.{sound_says, used_few}
use Rattle.facts.specs.Verdict.{message_says, series_some_few}
use Rattle.index.specs.declared.By.TheVariants.{Key}
use Rattle.index.specs.Linked.{Found}
use Rattle.index.specs.Handed.{Handed}
use Rattle.judge.specs.Order.{Gives, judged_by}
use Rattle.judge.specs.Looked.{Taken}
use Rattle.judge.proofs.Laws.Order.{gives_fine, gives_hit, gives_pass, gives_by, kept_by}

-- ---- the used slots us of a sound book; the others are free

used_length : (b us : Bytes) → cut 512 us ≡ used b → length us / 512 ≡ length (used b)
used_length b us e = sym (cut_length 512 us) ∙ ap length e

pub free_count : (b us : Bytes) → cut 512 us ≡ used b → sound b ≡ true → length b / 512 - 1 - length us / 512 ≡ free_slots b
unfolding free_slots used
free_count b us e h = ap₂ (λ m n. m - n) (sym (slots_length b)) (used_length b us e) ∙ sym (count_until is_free (slots b) (sound_says b h).free)

-- ---- the rules of the whole call, and what follows

module _ (b m : Bytes) {T : Type 0} {r : Result T Verdict} where
  pub unsound : {u : Bool} {w : Verdict} → u ≡ sound b → ((◌≡◌ {A = ℕ} 1 0 → ⊥) → Gives {T = Unit {0}} (Err w) (broken (not u) 1 0 0)) → r ≡ Err w → Gives r (verdict b m)
  unfolding verdict rule1 neg
  unsound q g e = gives_hit _ (gives_by 0 0 0 g (ap not q)) e

  pub malformed : {u : Bool} {w : Verdict} → sound b ≡ true → u ≡ rule2 m → ((◌≡◌ {A = ℕ} 2 0 → ⊥) → Gives {T = Unit {0}} (Err w) (broken u 2 0 0)) → r ≡ Err w → Gives r (verdict b m)
  unfolding verdict rule1 broken
  malformed q p g e = gives_pass (gives_fine {u = tt {0}} (rw (neg_false _ q))) (gives_hit _ (gives_by 1 0 0 g p) e)

  pub judged_by_lem : {d : Block} {us : List Block} {free : ℕ} → sound b ≡ true → rule2 m ≡ false
      → d ≡ day_block b → us ≡ used b → free ≡ free_slots b → Gives r (judged_by d us free m) → Gives r (verdict b m)
  unfolding verdict rule1 judged_by broken
  judged_by_lem q p a c f g = gives_pass (gives_fine {u = tt {0}} (rw (neg_false _ q))) (gives_pass (gives_fine {u = tt {0}} (rw p)) (rw (a, c, f) at g))

pub kept_sound : (b : Bytes) {u : Bool} {o : Unit {0}} → u ≡ sound b → ((◌≡◌ {A = ℕ} 1 0 → ⊥) → Gives (Ok o) (broken (not u) 1 0 0)) → sound b ≡ true
kept_sound b q g = sym q ∙ not_no _ (kept_by 0 0 0 g)
  where
    not_no : (u : Bool) → not u ≡ false → u ≡ true
    not_no true e = refl
    not_no false e = sym e

-- ---- what the rules on series stand on

pub taken : (b m : Bytes) {us : List Block} → sound b ≡ true → rule2 m ≡ false → us ≡ used b → Taken us (series_of m)
unfolding rule2
taken b m q p e =
    let s = sound_says b q in
    let w = message_says m (neg_no _ p) in
    record { few = rw e (used_few b s); short = (series_some_few m w).1; apart = rw e s.series; kinds = w.series_slots }

-- ---- what is handed on

pub handed_on : (b m us : Bytes) {slot : ℕ} {places numbers : List ℕ} → cut 512 us ≡ used b → slot ≡ slot_of (cut 512 us) (sender (head_of m))
    → Found slot Key (cut 512 us) (series_of m) places → Found 0 Key (series_of m) (cut 512 us) numbers → Handed (used b) (head_of m) (series_of m) (length us / 512) slot places numbers
handed_on b m us e k s t =
    record { used_count_is = used_length b us e; senders_slot_is = k ∙ ap (λ u. slot_of u (sender (head_of m))) e; stored = rw e at s; sent = rw e at t }
