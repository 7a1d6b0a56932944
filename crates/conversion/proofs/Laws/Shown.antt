-- A block that is converted shows what it showed: so a list of which some blocks are converted gives the same marks and nets, and its links are the
-- same. What a block shows is the block converted over no others.
use Rattle.std.specs.Prelude.{◌≡◌}
use Rattle.laws.specs.Kit.{sym, ap, ap₂, ◌∙◌, Bool, true, false, List, [], map, ℕ, get_or, set, set-get_or, ◌and◌, is, split}
use Rattle.laws.specs.InPlace.{done, done_seen}
use Rattle.paper.specs.Layout.{Bytes, Block, sender, with_mark, with_nets}
use Rattle.paper.specs.Book.{is_sender, is_series, own_series}
use Rattle.paper.specs.Marks.{mark_in}
use Rattle.paper.specs.Nets.{nets_of}
use Rattle.paper.specs.Conversion.{converted_block}
use Rattle.facts.specs.Keys.{key_pair}
use Rattle.facts.specs.Layout.{mark_again, nets_again}
use Rattle.facts.specs.Remarking.{mark_in_length}
use Rattle.facts.specs.Nets.{nets_of_length}
use Rattle.facts.specs.Conversion.{converted_sender, converted_series, converted_other, kind_converted, series_converted, sender_converted, key_converted, mark_in_converted_list, mark_in_converted, nets_converted_list}
use Rattle.index.specs.Linked.{series_in, Links}
use Rattle.index.specs.Linked.Laws.{links_viewed}
use Rattle.slots.proofs.Laws.{found_so}

module _ (n : ℕ) (ours : Bytes) where
  unfoldable pub shown : Block → Block
  shown b = converted_block n ours [] b

  senders_stay : (us : List Block) (b : Block) → is_sender (converted_block n ours us b) ≡ is_sender b
  unfolding is_sender
  senders_stay us b = ap (λ k. is k 1) (kind_converted n ours us b)

  -- converted over us, and then over r, is converted over r
  converted_again : (us r : List Block) (b : Block) → converted_block n ours r (converted_block n ours us b) ≡ converted_block n ours r b
  converted_again us r b = split (is_sender b) (sender_again b) (λ t. split (is_series b) (series_again b) (λ u. ap (converted_block n ours r) (converted_other n ours us b t u)))
    where
      sender_again : (s : Block) → is_sender s ≡ true → converted_block n ours r (converted_block n ours us s) ≡ converted_block n ours r s
      sender_again s t =
          converted_sender n ours r (converted_block n ours us s) (senders_stay us s ∙ t)
          ∙ ap (λ e. with_nets (nets_of ours e (own_series r e)) (converted_block n ours us s)) (sender_converted n ours us s)
          ∙ ap (with_nets (nets_of ours (sender s) (own_series r (sender s)))) (converted_sender n ours us s t)
          ∙ nets_again _ _ s (nets_of_length ours _ _) (nets_of_length ours _ _) ∙ sym (converted_sender n ours r s t)

      series_again : (x : Block) → is_series x ≡ true → converted_block n ours r (converted_block n ours us x) ≡ converted_block n ours r x
      series_again x t =
          converted_series n ours r (converted_block n ours us x) (series_converted n ours us x ∙ t)
          ∙ ap₂ with_mark (mark_in_converted n ours us r x t) (converted_series n ours us x t)
          ∙ mark_again _ _ x (mark_in_length n r x) (mark_in_length n us x) ∙ sym (converted_series n ours r x t)

  pub converted_shows : (us : List Block) (b : Block) → shown (converted_block n ours us b) ≡ shown b
  unfolding shown
  converted_shows us b = converted_again us [] b

  -- what is read of the list is shown
  reads_shown : (us : List Block) (b : Block) → converted_block n ours us b ≡ converted_block n ours (map shown us) b
  unfolding shown
  reads_shown us b = split (is_sender b)
      (λ t. converted_sender n ours us b t ∙ ap (λ v. with_nets v b) (sym (nets_converted_list n ours [] us (sender b))) ∙ sym (converted_sender n ours (map shown us) b t))
      (λ t. split (is_series b)
      (λ u. converted_series n ours us b u ∙ ap (λ m. with_mark m b) (sym (mark_in_converted_list n ours [] us b)) ∙ sym (converted_series n ours (map shown us) b u))
      (λ u. converted_other n ours us b t u ∙ sym (converted_other n ours (map shown us) b t u)))

  pub converted_reads : (us r : List Block) (b : Block) → map shown us ≡ map shown r → converted_block n ours us b ≡ converted_block n ours r b
  converted_reads us r b e = reads_shown us b ∙ ap (λ l. converted_block n ours l b) e ∙ sym (reads_shown r b)

  -- ---- the links

  linked_shown : (g : ℕ) (x : Block) → series_in g x ≡ series_in g (shown x)
  unfolding series_in shown ◌and◌
  linked_shown g x = split (is_series x)
      (λ t. rw (series_converted n ours [] x, t, key_pair _ x (key_converted n ours [] x t)))
      (λ t. rw (series_converted n ours [] x, t))

  pub links_kept : (l a : List Block) (i : ℕ) → a ≡ done (converted_block n ours) l i → (h k : List ℕ) → Links series_in l 0 h k → Links series_in a 0 h k
  links_kept l a i e = links_viewed shown series_in series_in linked_shown l a
      (sym (ap (map shown) e ∙ done_seen shown (converted_block n ours) converted_shows converted_reads l i))

  -- ---- block i, y as the code finds it: a sender with its nets v, a series with its mark m, another

  module _ (us : List Block) (i : ℕ) where
    pub sender_becomes : {x y : Block} {t : Bool} {v : Bytes} → x ≡ get_or us i [] → t ≡ is_sender x → t ≡ true → y ≡ get_or us i [] → v ≡ nets_of ours (sender y) (own_series us (sender y))
        → with_nets v (get_or us i []) ≡ converted_block n ours us (get_or us i [])
    sender_becomes e f t q r = rw (r, q) (sym (converted_sender n ours us (get_or us i []) (found_so is_sender e f t)))

    pub series_becomes : {x y : Block} {t : Bool} {m : Bytes} → x ≡ get_or us i [] → t ≡ is_series x → t ≡ true → y ≡ get_or us i [] → m ≡ mark_in n us y
        → with_mark m (get_or us i []) ≡ converted_block n ours us (get_or us i [])
    series_becomes e f t q r = rw (r, q) (sym (converted_series n ours us (get_or us i []) (found_so is_series e f t)))

    pub other_stays : {x y : Block} {s t : Bool} → x ≡ get_or us i [] → s ≡ is_sender x → s ≡ false → y ≡ get_or us i [] → t ≡ is_series y → t ≡ false
        → us ≡ set us i (converted_block n ours us (get_or us i []))
    other_stays e f s g h t = rw (converted_other n ours us (get_or us i []) (found_so is_sender e f s) (found_so is_series g h t)) (sym (set-get_or us i []))
