-- The plain run says yes exactly where the book is sound and its marks and nets are true, as the two tests that it makes of each block say that.
use Rattle.std.specs.Prelude.{◌≡◌}
use Rattle.laws.specs.Base.{ap, Bool, true, false, List, ℕ, true≢false}
use Rattle.laws.specs.Tests.{◌and◌, ◌or◌, neg}
use Rattle.laws.specs.Tests.Laws.{split, and_left, and_right, and_both, or_yes_left, or_yes_right, or_else, neg_true, neg_false}
use Rattle.laws.specs.Lists.{same, every}
use Rattle.laws.specs.Lists.Same.{same_yes, same_equal}
use Rattle.laws.specs.Lists.Each.{all_imply, every_all, all_every}
use Rattle.paper.specs.declared.PlainRunAnswer.{PlainRunAnswer}
use Rattle.paper.specs.Layout.{Bytes, Block, n_of, area, sender, nets, mark}
use Rattle.paper.specs.Book.{day_block, used, is_sender, is_series, own_series}
use Rattle.paper.specs.Sound.{sound}
use Rattle.paper.specs.Marks.{mark_in}
use Rattle.paper.specs.Nets.{nets_of}
use Rattle.paper.specs.PlainRun.{mark_true, nets_true, plain_run}
use Rattle.facts.specs.Sound.{Sound, is_sound}
use Rattle.promises.specs.Laws.Marks.{MarksTrue}
use Rattle.promises.specs.Laws.NetsTrue.{NetsTrue}

-- a test of blocks of one kind
if_kind : (t : Bool) (a b : Bytes) → (t ≡ true → a ≡ b) → (neg t or same a b) ≡ true
if_kind t a b f = split t (λ y. or_yes_right _ _ (same_equal _ _ (f y))) (λ y. or_yes_left _ _ (neg_true _ y))

of_kind : (t : Bool) (a b : Bytes) → (neg t or same a b) ≡ true → t ≡ true → a ≡ b
of_kind t a b e y = same_yes _ _ (or_else _ _ e (neg_false _ y))

module _ (n : ℕ) (us : List Block) where
  every_mark : MarksTrue n us → every (mark_true n us) us ≡ true
  unfolding MarksTrue mark_true
  every_mark m = all_every _ us (all_imply (λ x. is_series x ≡ true → mark x ≡ mark_in n us x) (λ x. (neg (is_series x) or same (mark x) (mark_in n us x)) ≡ true)
      (λ x. if_kind (is_series x) (mark x) (mark_in n us x)) us m)

  marks_every : every (mark_true n us) us ≡ true → MarksTrue n us
  unfolding MarksTrue mark_true
  marks_every e = all_imply (λ x. (neg (is_series x) or same (mark x) (mark_in n us x)) ≡ true) (λ x. is_series x ≡ true → mark x ≡ mark_in n us x)
      (λ x. of_kind (is_series x) (mark x) (mark_in n us x)) us (every_all _ us e)

abbrev Nets : Bytes → List Block → Block → Bytes
Nets ours us x = nets_of ours (sender x) (own_series us (sender x))

every_nets : (ours : Bytes) (us : List Block) → NetsTrue ours us → every (nets_true ours us) us ≡ true
unfolding NetsTrue nets_true
every_nets ours us v = all_every _ us (all_imply (λ x. is_sender x ≡ true → nets x ≡ Nets ours us x) (λ x. (neg (is_sender x) or same (nets x) (Nets ours us x)) ≡ true)
    (λ x. if_kind (is_sender x) (nets x) (Nets ours us x)) us v)

nets_every : (ours : Bytes) (us : List Block) → every (nets_true ours us) us ≡ true → NetsTrue ours us
unfolding NetsTrue nets_true
nets_every ours us e = all_imply (λ x. (neg (is_sender x) or same (nets x) (Nets ours us x)) ≡ true) (λ x. is_sender x ≡ true → nets x ≡ Nets ours us x)
    (λ x. of_kind (is_sender x) (nets x) (Nets ours us x)) us (every_all _ us e)

pub true_yes : (book : Bytes) → Sound book → MarksTrue (n_of (day_block book)) (used book) → NetsTrue (area (day_block book)) (used book) → plain_run book ≡ record { number = 0; holds = true }
unfolding plain_run
true_yes book s m v = rw (is_sound book s, and_both _ _ (every_mark (n_of (day_block book)) (used book) m) (every_nets (area (day_block book)) (used book) v))

pub yes_true : (book : Bytes) → plain_run book ≡ record { number = 0; holds = true } → MarksTrue (n_of (day_block book)) (used book) × NetsTrue (area (day_block book)) (used book)
unfolding plain_run
yes_true book e =
    let h : (every (mark_true (n_of (day_block book)) (used book)) (used book) and every (nets_true (area (day_block book)) (used book)) (used book)) ≡ true = split (sound book)
    (λ t. ap (λ (a : PlainRunAnswer). a.holds) (rw t at e))
    (λ t. let z : false ≡ true = ap (λ (a : PlainRunAnswer). a.holds) (rw t at e) in let w : true ≡ false = cc in absurd (true≢false w)) in
    (marks_every (n_of (day_block book)) (used book) (and_left _ _ h), nets_every (area (day_block book)) (used book) (and_right _ _ h))
