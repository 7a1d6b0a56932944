-- Rules 7 to 15, 18 and 19, series by series: those passed by are what is seen of the message, and none of them is refused.
use Rattle.std.specs.Prelude.{◌≡◌, ◌+◌, ◌/◌, ◌≤◌, ◌<◌, Result, Ok, Err}
use Rattle.laws.specs.Kit.{refl, sym, ap, ◌∙◌, Bool, List, [], ℕ, length, take, drop, get_or, Step, End, step_cut_at, step_take, end_cut}
use Rattle.laws.specs.Lists.{keep}
use Rattle.laws.specs.Cut.{cut}
use Rattle.laws.specs.Cut.Laws.{cut_length}
use Rattle.paper.specs.declared.Verdict.{Verdict}
use Rattle.paper.specs.Layout.{Bytes, Block, n_of, sender}
use Rattle.paper.specs.Book.{is_series_of, own_rights}
use Rattle.paper.specs.Message.{head_of, series_of}
use Rattle.paper.specs.Rules.{fine, ◌then◌, form_verdict, values_verdict, series_verdict, each_series}
use Rattle.rules.specs.ByPlaces.{known_otherwise}
use Rattle.judge.specs.declared.series.Searched.{Searched}
use Rattle.judge.specs.Looked.{Taken, Looked, LookedIn}
use Rattle.judge.specs.Order.{Gives, form_by, values_by, series_by}
use Rattle.judge.specs.Sums.{SumsTo}
use Rattle.judge.proofs.Laws.Order.{then_pass, gives_fine, gives_hit}
use Rattle.judge.proofs.Laws.Rule7.{rule_7_found}
use Rattle.judge.proofs.Laws.Places.{stored_block}
use Rattle.judge.proofs.Laws.Rights.{rights_found}

-- ---- series i + 1 of a message, by what was found of it

series_found : (us : List Block) (e : Bytes) (series : List Block) (found : Searched) (places : List ℕ) → Taken us series
    → Looked us e series found.slot found.first_ids found.first_keys found.stored_ids found.rights places → (i : ℕ) → i < length series → (d h : Block) {t : Bool} (sums : List ℕ)
    → t ≡ known_otherwise (i + 1) (get_or found.first_ids i 0) (get_or found.first_keys i 0) (get_or found.stored_ids i 0) (get_or places i 0)
    → ((get_or found.rights i 0 ≡ 0 → ⊥) → SumsTo found.rights series (get_or found.rights i 0) (i + 1) sums)
    → series_by d h us (record { number = i + 1; otherwise = t; place = get_or places i 0; right = get_or found.rights i 0 }) sums (get_or series i [])
    ≡ series_verdict d (keep (is_series_of found.slot) us) (own_rights us e) h (take i series) (i + 1) (get_or series i [])
unfolding series_by form_by values_by series_verdict form_verdict values_verdict
series_found us e series found places k a i n d h sums q s =
    rw (
      q,
      rule_7_found us e series found.slot _ _ _ _ _ k a i n,
      stored_block found.slot us (get_or series i []) (get_or places i 0) (a.stored_keys.each i n),
      rights_found e us series found.rights a.rights_held i n (n_of d) (i + 1) sums s,
    )

pub series_at_lem : (us : List Block) (m series : Bytes) (h : Block) (found : Searched) (places : List ℕ) → cut 512 series ≡ series_of m → h ≡ head_of m → Taken us (series_of m) → LookedIn us m found places
    → (i : ℕ) → i < length series / 512 → (d : Block) {t : Bool} (sums : List ℕ) {y : Block} {r : Result (Unit {0}) Verdict}
    → t ≡ known_otherwise (i + 1) (get_or found.first_ids i 0) (get_or found.first_keys i 0) (get_or found.stored_ids i 0) (get_or places i 0)
    → ((get_or found.rights i 0 ≡ 0 → ⊥) → SumsTo found.rights (cut 512 series) (get_or found.rights i 0) (i + 1) sums)
    → y ≡ get_or (cut 512 series) i [] → Gives r (series_by d h us (record { number = i + 1; otherwise = t; place = get_or places i 0; right = get_or found.rights i 0 }) sums y)
    → Gives r (series_verdict d (keep (is_series_of found.slot) us) (own_rights us (sender h)) h (take i (cut 512 series)) (i + 1) (get_or (cut 512 series) i []))
series_at_lem us m series h found places e g k a i n d {t} sums {y} {r} p s q f =
    let j : i < length (cut 512 series) = rw (cut_length 512 series) n in
    let b : series_by d h us (record { number = i + 1; otherwise = t; place = get_or places i 0; right = get_or found.rights i 0 }) sums y ≡ _ =
    ap (series_by d h us (record { number = i + 1; otherwise = t; place = get_or places i 0; right = get_or found.rights i 0 }) sums) q
    ∙ series_found us (sender h) (cut 512 series) found places (rw e k) (rw (e, g) a) i j d h sums p s in
    rw b at f

-- ---- in turn

module _ (d : Block) (own rights : List Block) (h : Block) (b : Bytes) where
  each : {w : Verdict} (i : ℕ) → w ≡ each_series d own rights h (take i (cut 512 b)) (i + 1) (drop i (cut 512 b)) → i < length b / 512
      → w ≡ (series_verdict d own rights h (take i (cut 512 b)) (i + 1) (get_or (cut 512 b) i []) then each_series d own rights h (take (i + 1) (cut 512 b)) (i + 1 + 1) (drop (i + 1) (cut 512 b)))
  unfolding each_series
  each i e k =
      let s : Step (cut 512 b) i (get_or (cut 512 b) i []) = step_cut_at 512 b i k in
      e ∙ ap (each_series d own rights h (take i (cut 512 b)) (i + 1)) s.rest
      ∙ ap (λ v. series_verdict d own rights h (take i (cut 512 b)) (i + 1) (get_or (cut 512 b) i []) then each_series d own rights h v (i + 1 + 1) (drop (i + 1) (cut 512 b)))
      (sym (step_take (cut 512 b) i _ s))

  module _ {w : Verdict} (i : ℕ) (e : w ≡ each_series d own rights h (take i (cut 512 b)) (i + 1) (drop i (cut 512 b))) where
    pub each_go : {u : Unit {0}} → i < length b / 512 → Gives (Ok u) (series_verdict d own rights h (take i (cut 512 b)) (i + 1) (get_or (cut 512 b) i []))
        → w ≡ each_series d own rights h (take (i + 1) (cut 512 b)) (i + 1 + 1) (drop (i + 1) (cut 512 b))
    each_go k g = each i e k ∙ sym (then_pass {v = fine} g.verdict refl refl)

    pub each_hit : {r : Result (Unit {0}) Verdict} {v : Verdict} → i < length b / 512 → Gives {T = Unit {0}} (Err v) (series_verdict d own rights h (take i (cut 512 b)) (i + 1) (get_or (cut 512 b) i []))
        → r ≡ Err v → Gives r w
    each_hit k g q = rw (each i e k) (gives_hit _ g q)

    pub each_end : {u : Unit {0}} → length b / 512 ≤ i → Gives (Ok u) w
    unfolding each_series
    each_end k = let s : End (cut 512 b) i = end_cut 512 b i k in gives_fine (e ∙ ap (each_series d own rights h (take i (cut 512 b)) (i + 1)) s.rest)
