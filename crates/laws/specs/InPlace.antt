-- A list written over in place: by a rule, element by element (done); by another list, from the first element on (over).
use Rattle.std.specs.Prelude.{◌≡◌, ◌∷◌, ◌++◌, ◌+◌, ◌≤◌, ◌<◌}
use Rattle.laws.specs.Base.{refl, sym, ap, ap₂, ◌∙◌, List, [], map, append_assoc, append-nil, ℕ, suc, add-one, arith, length, take, drop, get_or, set, drop_of_length-le, length-append, length-map, take-append-drop, drop-append-add, drop-cons, drop-drop, get_or_at, length-take-le, set_at, take_all, take_at, take-suc}
use Rattle.laws.specs.Lists.Each.{map_append}

module _ {X : Type 0} where
  -- ---- a rewriting in place, by a rule g that reads of the list only what view shows, and keeps it

  unfoldable pub done : (List X → X → X) → List X → ℕ → List X
  done g l s = map (g l) (take s l) ++ drop s l

  pub done_none : (g : List X → X → X) (l : List X) → l ≡ done g l 0
  unfolding done
  done_none g l = refl

  pub done_all : (g : List X → X → X) (l : List X) (s : ℕ) → length l ≤ s → done g l s ≡ map (g l) l
  unfolding done
  done_all g l s h = rw (take_all s l h, drop_of_length-le l h) (append-nil (map (g l) l))

  pub done_next : (g : List X → X → X) (l : List X) (i : ℕ) (d : X) → i < length l → get_or (done g l i) i d ≡ get_or l i d
  unfolding done
  done_next g l i d h =
      let z : length (map (g l) (take i l)) ≡ i = length-map (take i l) (g l) ∙ length-take-le i l (omega arith) in
      ap (λ w. get_or (map (g l) (take i l) ++ w) i d) (drop-cons l i d h) ∙ get_or_at (map (g l) (take i l)) (get_or l i d) (drop (suc i) l) d i z

  module _ {W : Type 0} (view : X → W) (g : List X → X → X)
      (keeps : (l : List X) (y : X) → view (g l y) ≡ view y)
      (reads : (l r : List X) (y : X) → map view l ≡ map view r → g l y ≡ g r y)
      (l : List X) where
    seen_map : (k r : List X) → map view (map (g k) r) ≡ map view r
    seen_map k [] = refl
    seen_map k (y ∷ ys) = ap₂ ◌∷◌ (keeps k y) (seen_map k ys)

    pub done_seen : (s : ℕ) → map view (done g l s) ≡ map view l
    unfolding done
    done_seen s =
        map_append view (map (g l) (take s l)) (drop s l) ∙ ap (λ z. z ++ map view (drop s l)) (seen_map l (take s l))
        ∙ sym (map_append view (take s l) (drop s l)) ∙ ap (map view) (take-append-drop s l)

    opened : (s : ℕ) (d : X) → s < length l → done g l s ≡ map (g l) (take s l) ++ get_or l s d ∷ drop (suc s) l
    unfolding done
    opened s d h = ap (λ w. map (g l) (take s l) ++ w) (drop-cons l s d h)

    closed : (s : ℕ) (d : X) → s < length l → done g l (s + 1) ≡ map (g l) (take s l) ++ g l (get_or l s d) ∷ drop (suc s) l
    unfolding done
    closed s d h =
        rw (add-one s, take-suc l s d h, map_append (g l) (take s l) (get_or l s d ∷ []))
        (append_assoc (map (g l) (take s l)) (g l (get_or l s d) ∷ []) (drop (suc s) l))

    -- one element more: b is a with the rule's result put at s
    pub done_more : (s : ℕ) (d : X) → s < length l → (a b : List X) → a ≡ done g l s → b ≡ set a s (g a (get_or a s d)) → b ≡ done g l (s + 1)
    done_more s d h a b e q =
        let z : length (map (g l) (take s l)) ≡ s = length-map (take s l) (g l) ∙ length-take-le s l (omega arith) in
        let i : done g l s ≡ map (g l) (take s l) ++ get_or l s d ∷ drop (suc s) l = opened s d h in
        let y : get_or a s d ≡ get_or l s d = ap (λ w. get_or w s d) (e ∙ i) ∙ get_or_at (map (g l) (take s l)) (get_or l s d) (drop (suc s) l) d s z in
        let r : g a (get_or a s d) ≡ g l (get_or l s d) = ap (g a) y ∙ reads a l _ (ap (map view) e ∙ done_seen s) in
        q ∙ ap₂ (λ w x. set w s x) (e ∙ i) r ∙ set_at (map (g l) (take s l)) (get_or l s d) (drop (suc s) l) (g l (get_or l s d)) s z ∙ sym (closed s d h)

  -- a rule that reads nothing but the element
  pub done_more_alone : (f : X → X) (l : List X) (s : ℕ) (d : X) → s < length l → (a b : List X) → a ≡ done (λ r y. f y) l s → b ≡ set a s (f (get_or a s d)) → b ≡ done (λ r y. f y) l (s + 1)
  done_more_alone f l s d h a b e q = done_more (λ (y : X). tt {0}) (λ r y. f y) (λ r y. refl) (λ k r y v. refl) l s d h a b e q

  -- ---- p laid over the first elements of l

  unfoldable pub over : List X → List X → List X
  over p l = p ++ drop (length p) l

  pub over_none : (l : List X) (s : ℕ) → s ≤ length l → l ≡ over (take s l) l
  unfolding over
  over_none l s h = sym (rw (length-take-le s l h) (take-append-drop s l))

  pub over_more : (p l a b : List X) (i : ℕ) (y : X) → i ≡ length p → i < length l → a ≡ over p l → b ≡ set a i y → b ≡ over (p ++ y ∷ []) l
  unfolding over
  over_more p l a b i y e h f q =
      let n : length (p ++ y ∷ []) ≡ suc (length p) = simp length-append (omega arith) in
      q ∙ ap (λ w. set w i y) (f ∙ ap (λ w. p ++ w) (drop-cons l (length p) y (omega arith)))
      ∙ set_at p (get_or l (length p) y) (drop (suc (length p)) l) y i (sym e)
      ∙ sym (rw n (append_assoc p (y ∷ []) (drop (suc (length p)) l)))

  pub over_take : (p l : List X) (s : ℕ) → s ≡ length p → take s (over p l) ≡ p
  unfolding over
  over_take p l s e = take_at p (drop (length p) l) s (sym e)

  -- laid over what is laid over already
  pub over_over : (p r l : List X) → over (p ++ r) (over p l) ≡ over (p ++ r) l
  unfolding over
  over_over p r l =
      ap (λ w. (p ++ r) ++ w) (ap (λ n. drop n (p ++ drop (length p) l)) (length-append p r) ∙ drop-append-add p (drop (length p) l) (length r)
      ∙ drop-drop (length r) (length p) l ∙ ap (λ n. drop n l) (sym (length-append p r)))
