-- The parties that each block is the first to name, a sheet line by line, and the whole text.
use Rattle.std.specs.Prelude.{◌≡◌, ◌∷◌, ◌++◌, ◌+◌, ◌-◌, ◌≤◌, ◌<◌}
use Rattle.laws.specs.Kit.{refl, sym, ap, ap₂, ◌∙◌, Bool, true, false, cond, List, [], append_assoc, append-nil, ℕ, add-one, arith, length, take, take_all, get_or, ◌and◌, ◌or◌, split}
use Rattle.laws.specs.Tests.Laws.{or_false}
use Rattle.laws.specs.Base.{take-suc}
use Rattle.laws.specs.Lists.{same, has, total, once}
use Rattle.laws.specs.Lists.Search.{has_append}
use Rattle.laws.specs.Lists.Count.{total_append, total_each}
use Rattle.laws.specs.Lists.Once.{once_more}
use Rattle.laws.specs.Bytes.{part}
use Rattle.paper.specs.declared.Rule.{Rule}
use Rattle.paper.specs.Layout.{Bytes, Block, rule_of, in_party, out_party}
use Rattle.paper.specs.Book.{day_block, used}
use Rattle.paper.specs.Sound.{sound}
use Rattle.paper.specs.Listing.{text}
use Rattle.paper.specs.Settled.{is_trade_series, appearing, parties, bought_by, sold_by, settled}
use Rattle.facts.specs.Settled.{ClosedAt}
use Rattle.desk_text.specs.Put.{Put}
use Rattle.desk_text.specs.Put.Laws.{none, then, called}
use Rattle.settling.specs.Values.{Valued, position_number}
use Rattle.settling.proofs.Laws.{number_in, closed_at, bought_summed, sold_summed}
use Rattle.settlement_text.specs.declared.Sheet.{Sheet}
use Rattle.settlement_text.specs.Settlement.{sums_line, sums_lines, sums_text, bought_from, sold_from, Filled}

-- ---- the parties, block by block

appearing_append : (l r : List Block) → appearing (l ++ r) ≡ appearing l ++ appearing r
unfolding appearing
appearing_append [] r = refl
appearing_append (b ∷ l) r =
    ap (λ z. cond (is_trade_series b) (in_party b ∷ out_party b ∷ []) [] ++ z) (appearing_append l r) ∙ sym (append_assoc (cond (is_trade_series b) (in_party b ∷ out_party b ∷ []) []) (appearing l) (appearing r))

-- a block names a party
abbrev pub naming : (party : Bytes) (b : Block) → Bool
naming party b = is_trade_series b and (same party (in_party b) or same party (out_party b))

-- a party appears where a block names it
pub appears_named : (party : Bytes) (l : List Block) → has (naming party) l ≡ has (same party) (appearing l)
unfolding has appearing ◌and◌
appears_named party [] = refl
appears_named party (b ∷ l) =
    ap₂ ◌or◌ (by (is_trade_series b)) (appears_named party l) ∙ sym (has_append (same party) (cond (is_trade_series b) (in_party b ∷ out_party b ∷ []) []) (appearing l))
  where
    by : (t : Bool) → (t and (same party (in_party b) or same party (out_party b))) ≡ has (same party) (cond t (in_party b ∷ out_party b ∷ []) [])
    by true = ap (λ z. same party (in_party b) or z) (sym (or_false _))
    by false = refl

-- x is block i of us
module _ (us : List Block) (i : ℕ) (h : i < length us) {x : Block} (e : x ≡ get_or us i []) where
  more : appearing (take (i + 1) us) ≡ appearing (take i us) ++ cond (is_trade_series x) (in_party x ∷ out_party x ∷ []) []
  unfolding appearing
  more = rw e (ap appearing (ap (λ n. take n us) (add-one i) ∙ take-suc us i [] h) ∙ appearing_append (take i us) (get_or us i [] ∷ [])
      ∙ ap (λ z. appearing (take i us) ++ z) (append-nil _))

  pub named_none : is_trade_series x ≡ false → once (appearing (take i us)) ≡ once (appearing (take (i + 1) us))
  named_none t = ap once (sym (more ∙ rw t (append-nil (appearing (take i us)))))

  -- the in party y, unless it appears; then the out party z, unless it does or is the same
  pub named_both : is_trade_series x ≡ true → {y z : Bytes} → y ≡ in_party x → z ≡ out_party x → {seen met alike : Bool} → seen ≡ has (same y) (appearing (take i us))
      → met ≡ has (same z) (appearing (take i us)) → alike ≡ same z y
      → (once (appearing (take i us)) ++ cond seen [] (y ∷ [])) ++ cond (met or alike) [] (z ∷ []) ≡ once (appearing (take (i + 1) us))
  unfolding has
  named_both t {y} {z} p q s a l =
      ap₂ (λ u v. (once (appearing (take i us)) ++ cond u [] (y ∷ [])) ++ cond v [] (z ∷ [])) s
      (ap₂ ◌or◌ a (l ∙ sym (or_false _)) ∙ sym (has_append (same z) (appearing (take i us)) (y ∷ [])))
      ∙ ap (λ w. w ++ cond (has (same z) (appearing (take i us) ++ y ∷ [])) [] (z ∷ [])) (sym (once_more y (appearing (take i us))))
      ∙ sym (once_more z (appearing (take i us) ++ y ∷ []))
      ∙ ap once (append_assoc (appearing (take i us)) (y ∷ []) (z ∷ []) ∙ ap₂ (λ u v. appearing (take i us) ++ u ∷ v ∷ []) p q ∙ sym (more ∙ rw t))

pub all_named : (us : List Block) (i m : ℕ) → length us ≡ m → i ≤ m → m ≤ i → once (appearing (take i us)) ≡ parties us
unfolding parties
all_named us i m e h g = ap (λ l. once (appearing l)) (take_all i us (omega arith))

-- ---- a sheet

lines_append : (b s : Bytes → ℕ) (l r : List Bytes) → sums_lines b s (l ++ r) ≡ sums_lines b s l ++ sums_lines b s r
unfolding sums_lines
lines_append b s [] r = refl
lines_append b s (e ∷ l) r = ap (λ z. sums_line e (b e) (s e) ++ z) (lines_append b s l r) ∙ sym (append_assoc (sums_line e (b e) (s e)) (sums_lines b s l) (sums_lines b s r))

module _ (us : List Block) (values : List ℕ) (m : ℕ) where
  pub filled_none : (at : ℕ) (x : Bytes) → at ≤ length x → Filled us values m (once (appearing (take 0 us))) at (record { at = at; bought = 0; sold = 0 }) x x
  unfolding appearing once sums_lines total
  filled_none at x h = record { lines = none at x h; bought = refl; sold = refl }

  module _ {names : List Bytes} {begun : ℕ} {sheet : Sheet} {x y : Bytes} (f : Filled us values m names begun sheet x y) where
    pub filled_again : {again : Bool} (party : Bytes) → again ≡ true → Filled us values m (names ++ cond again [] (party ∷ [])) begun sheet x y
    filled_again party t = rw (t, append-nil names) f

    pub filled_more : {again : Bool} (party : Bytes) → again ≡ false → {at b s : ℕ} {z : Bytes} → b ≡ bought_from us values m party → s ≡ sold_from us values m party
        → Put sheet.at (sums_line party b s) at y z
        → Filled us values m (names ++ cond again [] (party ∷ [])) begun (record { at = at; bought = sheet.bought + b; sold = sheet.sold + s }) x z
    unfolding sums_lines total
    filled_more party t p q g = rw (t, p, q) (record {
      lines = called _ (sym (lines_append _ _ names (party ∷ []) ∙ ap (λ z. sums_lines (bought_from us values m) (sold_from us values m) names ++ z) (append-nil _)))
          (then f.lines (rw (p, q) at g));
      bought = ap (λ n. n + bought_from us values m party) f.bought ∙ sym (total_append (bought_from us values m) names (party ∷ []) ∙ ap (λ n. total (bought_from us values m) names + n) (omega arith));
      sold = ap (λ n. n + sold_from us values m party) f.sold ∙ sym (total_append (sold_from us values m) names (party ∷ []) ∙ ap (λ n. total (sold_from us values m) names + n) (omega arith));
    })

    pub filled_as : {others : List Bytes} → names ≡ others → Filled us values m others begun sheet x y
    filled_as e = rw (← e) f

    pub filled_all : {at : ℕ} {z : Bytes} → Put sheet.at (sums_line (97 ∷ 108 ∷ 108 ∷ []) sheet.bought sheet.sold) at y z
        → Put begun (sums_text (bought_from us values m) (sold_from us values m) names) at x z
    unfolding sums_text text
    filled_all g = then f.lines (rw (f.bought, f.sold) at g)

-- ---- the sums from the row are those of the finals

text_agree : (b c s t : Bytes → ℕ) → ((e : Bytes) → b e ≡ c e) → ((e : Bytes) → s e ≡ t e) → (names : List Bytes) → sums_text b s names ≡ sums_text c t names
unfolding sums_text sums_lines
text_agree b c s t f g names = ap₂ ◌++◌ (lines names) (ap₂ (sums_line _) (total_each b c f names) (total_each s t g names))
  where
    lines : (l : List Bytes) → sums_lines b s l ≡ sums_lines c t l
    lines [] = refl
    lines (e ∷ l) = ap₂ ◌++◌ (ap₂ (sums_line e) (f e) (g e)) (lines l)

module _ (book : Bytes) (p : ℕ) where
  pub number_unsound : sound book ≡ false → 1 ≡ (settled book [] p).number
  unfolding settled
  number_unsound s = rw s

  module _ (s : sound book ≡ true) {d : Block} (f : d ≡ part 0 512 book) where
    pub number_sound : {number : ℕ} → number ≡ position_number d p → number ≡ (settled book [] p).number
    unfolding settled day_block part
    number_sound e = rw (s, ← f) (number_in d p e (used book) [])

-- past the refusals: us are the used slots, d is the day block, rule its rule, and there are m slots
module _ (book : Bytes) (p : ℕ) {number : ℕ} (e : number ≡ (settled book [] p).number) (z : number ≡ 0) where
  pub is_sound : sound book ≡ true
  unfolding settled
  is_sound = split (sound book) (λ s. s) (λ s. absurd (let f : number ≡ 1 = e ∙ rw s in omega arith))

  pub closed_there : {d : Block} → d ≡ part 0 512 book → ClosedAt d p
  closed_there {d} f = closed_at d p {number = position_number d p} refl (number_sound book p is_sound f refl ∙ sym e ∙ z)

  pub whole_text : {d : Block} {us : List Block} {rule : Rule} {m : ℕ} → d ≡ part 0 512 book → us ≡ used book → rule ≡ rule_of d → length us ≡ m → (values : List ℕ) → Valued rule us (p - 1) m values
      → sums_text (bought_from us values m) (sold_from us values m) (parties us) ≡ sums_text (bought_by (day_block book) (used book) p) (sold_by (day_block book) (used book) p) (parties (used book))
  unfolding day_block part
  whole_text {d} {us} {rule} {m} f g r h values v =
      text_agree (bought_from us values m) (bought_by d us p) (sold_from us values m) (sold_by d us p)
      (λ party. bought_summed d us p (closed_there f) rule r m h values v party) (λ party. sold_summed d us p (closed_there f) rule r m h values v party) (parties us)
      ∙ rw (f, g)
