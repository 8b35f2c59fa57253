-- Post, merge, raise and sweep: the reference says nothing of them, and the index stays in order beside it.
use Rattle.std.proofs.Common.{◌≡◌, ℕ, zero, suc, ◌+◌, ◌<◌, ◌≤◌, Bool, true, cond, ◌&&◌, eqb, ltb, List, [], ◌∷◌, length, Some, None, Ok, Option, Result, sym, refl, ap, ◌∙◌, subst, inl, inr, arith}
use Rattle.std.proofs.lemmas.Bool.{and_parts, and_from, ltb-true, ltb-false, lt-ltb, eq-eqb, cond-true, cond_both}
use Rattle.std.proofs.lemmas.List.{length-append}
use Rattle.order.specs.declared.keys.Key.{Key}
use Rattle.order.specs.Laws.{Lawful}
use Rattle.page.specs.declared.entries.Entry.{Entry}
use Rattle.page.specs.declared.pages.PageState.{PageState}
use Rattle.page.specs.declared.pages.PageState.TheVariants.{Live}
use Rattle.page.specs.Pages.{Page}
use Rattle.model.specs.declared.answers.Done.TheVariants.{Posted}
use Rattle.model.specs.declared.answers.Refusal.{Refusal}
use Rattle.model.specs.declared.answers.Refusal.TheVariants.{NoInner, Nothing, NoFreePage, Unreadable}
use Rattle.model.specs.declared.jobs.Job.{Job}
use Rattle.std.specs.List.{AllByRecursion}
use Rattle.model.specs.Lists.{Once}
use Rattle.model.specs.Entries.{KeyOrder}
use Rattle.model.specs.States.{State, Outcome, refused, answered, view, write, root, free_head, free_page, is_live}
use Rattle.model.specs.States.{readable}
use Rattle.model.specs.Splits.{split_full}
use Rattle.model.specs.Upkeep.{is_inner, is_child, wrong_child, on_children, on_inner, child_at, short_child, post_at}
use Rattle.model.specs.Upkeep.{post_page, post, merge_pair, merge_at, merge_page, merge, can_rise, raise_into, raise}
use Rattle.model.specs.Upkeep.{numbers, unreached_of, give_back, give_back_all, sweep_pages, sweep}
use Rattle.model.specs.Reference.{Reference}
use Rattle.model.specs.Soundness.{Child}
use Rattle.model.proofs.Invariant.{InnerEntries, Divides, Tree, JobsOk, Inv, Agrees}
use Rattle.model.proofs.Lists.{all_map}
use Rattle.model.proofs.Frames.{live_held}
use Rattle.model.proofs.Views.{gone_in_range}
use Rattle.model.proofs.Writes.{Reads, reads, reads_post, reads_merge, reads_raise, reads_give_back, inv_reads}
use Rattle.model.proofs.Writes.{agrees_reads}
use Rattle.model.proofs.Levels.{view_within, root_low, inner_of, live_some, page_readable}
use Rattle.model.proofs.Post.{posted, Posts, post_tree, post_chain, post_jobs, post_agrees}
use Rattle.model.proofs.Merge.{merge_live, merge_few, merge_kept}
use Rattle.model.proofs.Raise.{raise_tree, raise_chain, raise_jobs, raise_agrees}
use Rattle.model.proofs.Sweep.{Unreached, free_all, head_after, sweep_tree, sweep_chain, sweep_jobs, sweep_agrees}
use Rattle.model.proofs.Sweep.{all_unreached_lem, once_unreached}
use Rattle.model.proofs.Kept.{Quiet, refused_quiet}
use Rattle.model.proofs.FreePages.{Takes, free_page_lem, split_full_lem}

-- a page that is live and of a level above 0
live_from : (m : PageState) → is_live m ≡ true → m ≡ Live
live_from m h = grind arith

above : (l : ℕ) → 0 < l → (k : ℕ) × (l ≡ suc k)
above zero h = absurd (omega arith)
above (suc k) h = (k, refl)

inner_parts : (fill : ℕ) (x : Page) → is_inner fill x ≡ true → (x.state ≡ Live) × (0 < x.level)
inner_parts fill x h =
    let b = and_parts (readable fill x) (is_live x.state && ltb 0 x.level) h in
    let d = and_parts (is_live x.state) (ltb 0 x.level) b.1 in
    (live_from x.state d.0, ltb-true 0 x.level d.1)

-- pages that join the free chain one by one
reads_give_back_all : (ps : List ℕ) {s : State} {f : ℕ → Page} {h r : ℕ} → Reads s f h r
    → AllByRecursion (λ p. (0 < p) × (p < s.pages)) ps → Reads (give_back_all ps s) (free_all f h ps) (head_after h ps) r
reads_give_back_all [] rd all = rd
reads_give_back_all (p ∷ ps) rd all = reads_give_back_all ps (reads_give_back rd p all.0.0 all.0.1) all.1

-- and leave the fill and the jobs as they are
kept_give_back_all : (ps : List ℕ) (s : State) → ((give_back_all ps s).fill ≡ s.fill) × ((give_back_all ps s).jobs ≡ s.jobs)
kept_give_back_all [] s = (refl, refl)
kept_give_back_all (p ∷ ps) s = kept_give_back_all ps (give_back p s)

module _ {o : KeyOrder} (laws : Lawful o.keyed o.compared) {s : State} {r : Reference} (inv : Inv o s)
    (agrees : Agrees o (view s) s.jobs r) where
  -- every child of an inner page is readable, live and one level lower
  right_child : (l : ℕ) (start : Option Key) (c : ℕ) → Child (view s) l start c
      → is_child s.fill (suc l) (view s c) ≡ true
  right_child l start c h =
      and_from _ _ (page_readable inv c (live_held h.live))
      (and_from _ _ (ap is_live h.live) (eq-eqb _ _ (omega (arith, h.below))))

  children_right : (l : ℕ) (es : List Entry) → AllByRecursion (λ e. Child (view s) l (Some e.key) e.value) es
      → wrong_child s (suc l) es ≡ None
  children_right l [] h = refl
  children_right l (e ∷ es) h =
      cond-true _ _ _ (right_child l (Some e.key) e.value h.0) ∙ children_right l es h.1

  no_wrong_child : (x : Page) (l : ℕ) (es : List Entry) → InnerEntries o (view s) l x es
      → wrong_child s (suc l) es ≡ None
  no_wrong_child x l [] h = absurd h
  no_wrong_child x l (e ∷ es) h =
      cond-true _ _ _ (right_child l x.start e.value h.1)
      ∙ children_right l es (all_map (λ (d : Entry) (i : Divides o (view s) l x d). i.child) es h.3)

  -- work on an inner page, or a refusal
  on_inner_lem : (p : ℕ) (work : Page → State → Outcome)
      → ((l : ℕ) → (view s p).state ≡ Live → (view s p).level ≡ suc l → Quiet o (work (view s p) s) r)
      → Quiet o (on_inner p work s) r
  on_inner_lem p work h =
      cond_both (is_inner s.fill (view s p)) fine (refused NoInner s) (λ out. Quiet o out r) worked
      (λ _. refused_quiet inv agrees NoInner (λ e. omega arith))
    where
      fine : Outcome
      fine = on_children (wrong_child s (view s p).level (view s p).entries) (work (view s p)) s

      worked : is_inner s.fill (view s p) ≡ true → Quiet o fine r
      worked inner =
          let parts = inner_parts s.fill (view s p) inner in
          let live = parts.0 in
          let up = above (view s p).level parts.1 in
          let entries = inner_of inv.tree p up.0 live up.1 in
          let none = ap (λ (n : ℕ). wrong_child s n (view s p).entries) up.1
          ∙ no_wrong_child (view s p) up.0 (view s p).entries entries in
          subst (λ (m : Option ℕ). Quiet o (on_children m (work (view s p)) s) r) (sym none) (h up.0 live up.1)

  -- the entry of a child that ends short, or a split where there is no room for it
  post_at_lem : (p l : ℕ) → (view s p).state ≡ Live → (view s p).level ≡ suc l → (m : Option ℕ)
      → short_child o s (view s p).end (view s p).entries ≡ m → Quiet o (post_at o p (view s p) m s) r
  post_at_lem p l live level None e = refused_quiet inv agrees Nothing (λ q. omega arith)
  post_at_lem p l live level (Some i) e =
      cond_both (ltb (length (view s p).entries) s.fill) _ (split_full p (view s p) s) (λ out. Quiet o out r)
      (λ room. put (ltb-true (length (view s p).entries) s.fill room))
      (λ full. (split_full_lem laws s r inv agrees p live (ltb-false (length (view s p).entries) s.fill full)).quiet)
    where
      child : ℕ
      child = child_at (view s p).entries i

      put : length (view s p).entries < s.fill
          → Quiet o (answered (Posted (view s child).link) (write p (posted o s p i) s)) r
      put room =
          let can : Posts o s p l i = record { live = live; inner = level; room = room; short = e } in
          let some : 0 < length (view s p).entries = live_some inv.tree p live (omega arith) in
          let rd = reads_post inv.written p i _ live some room in
          record {
            inv = inv_reads o rd (post_tree o s p l i can laws (root s) inv.tree)
                (post_chain o s p l i can (free_head s) inv.chain)
                (post_jobs o s p l i can s.jobs inv.jobs) inv.consoles;
            agrees = agrees_reads o rd (post_agrees o s p l i can s.jobs r agrees);
            undamaged = λ q. omega arith;
          }

  -- post
  pub post_quiet : (p : ℕ) → Quiet o (post o p s) r
  post_quiet p = on_inner_lem p (post_page o p) (λ l live level. post_at_lem p l live level _ refl)

  -- the pair that is found
  merge_at_lem : (p l : ℕ) → (view s p).state ≡ Live → (view s p).level ≡ suc l → (m : Option ℕ)
      → merge_pair s (view s p).entries ≡ m → Quiet o (merge_at p (view s p) m s) r
  merge_at_lem p l live level None e = refused_quiet inv agrees Nothing (λ q. omega arith)
  merge_at_lem p l live level (Some i) e =
      let a = child_at (view s p).entries i in
      let b = child_at (view s p).entries (i + 1) in
      let both = merge_live laws s (root s) inv.tree p l i live level e in
      let room = merge_few laws s (root s) inv.tree p l i live level e in
      let few : length (view s a).entries + length (view s b).entries ≤ 18 =
      omega (arith, length-append (view s a).entries (view s b).entries, room, inv.written.fill_most) in
      let some = live_some inv.tree a both.0 in
      let kept = merge_kept laws s (root s) inv.tree p l i live level e in
      let rd = reads_merge inv.written p i a b live both.0 both.1 some few in
      record {
        inv = inv_reads o rd kept.tree (kept.chain (free_head s) inv.chain)
            (kept.jobs s.jobs inv.jobs) inv.consoles;
        agrees = agrees_reads o rd (kept.agrees s.jobs r agrees);
        undamaged = λ q. omega arith;
      }

  -- merge
  pub merge_quiet : (p : ℕ) → Quiet o (merge p s) r
  merge_quiet p = on_inner_lem p (merge_page p) (λ l live level. merge_at_lem p l live level _ refl)

  -- a new root on a free page
  raised_quiet : Takes s → Quiet o (raise_into (Ok (free_head s)) s) r
  raised_quiet take =
      let n = free_head s in
      let rd = reads_raise inv.written n take.free in
      let few : 1 ≤ s.fill = omega (arith, inv.written.fill_least) in
      let tree = raise_tree (view s) (root s) n take.free o s.fill take.some few inv.tree in
      let jobs = raise_jobs (view s) (root s) n take.free o s.jobs inv.jobs in
      record {
        inv = inv_reads o rd tree (raise_chain (view s) (root s) n take.free inv.chain) jobs inv.consoles;
        agrees = agrees_reads o rd (raise_agrees (view s) (root s) n take.free o agrees);
        undamaged = λ q. omega arith;
      }

  raise_into_lem : Quiet o (raise_into (free_page s) s) r
  raise_into_lem = elim (free_page_lem s inv.chain) [
    | inl none ↦ given none (refused_quiet inv agrees NoFreePage (λ q. omega arith))
    | inr take ↦ given take.takes (raised_quiet take)
  ]
    where
      given : {m : Result ℕ Refusal} → free_page s ≡ m → Quiet o (raise_into m s) r → Quiet o (raise_into (free_page s) s) r
      given e h = subst (λ (m : Result ℕ Refusal). Quiet o (raise_into m s) r) (sym e) h

  -- the root can always be read, and is never of the highest level
  can_rise_lem : can_rise s.fill (view s (root s)) ≡ true
  can_rise_lem =
      let live = inv.tree.root_live in
      let low = root_low inv.tree s.pages (view_within s) in
      and_from _ _ (page_readable inv (root s) (live_held live))
      (and_from _ _ (ap is_live live) (lt-ltb _ _ (omega (arith, inv.written.most))))

  -- raise
  pub raise_quiet : Quiet o (raise s) r
  raise_quiet =
      subst (λ (b : Bool). Quiet o (cond b rises (refused (Unreadable (root s)) s)) r) (sym can_rise_lem)
      (cond_both (eqb (view s (root s)).link 0) (refused Nothing s) (raise_into (free_page s) s) (λ out. Quiet o out r)
      (λ _. refused_quiet inv agrees Nothing (λ q. omega arith))
      (λ _. raise_into_lem))
    where
      rises : Outcome
      rises = cond (eqb (view s (root s)).link 0) (refused Nothing s) (raise_into (free_page s) s)

  -- sweep
  pub sweep_quiet : Quiet o (sweep s) r
  sweep_quiet = by_list (unreached_of s (numbers s)) (once_unreached s) (all_unreached_lem s (numbers s))
    where
      in_index : (q : ℕ) → Unreached (view s) s.jobs q → (0 < q) × (q < s.pages)
      in_index q u = let i = gone_in_range s q u.gone in (i.0, i.1)

      by_list : (ps : List ℕ) → Once ps → AllByRecursion (Unreached (view s) s.jobs) ps → Quiet o (sweep_pages ps s) r
      by_list [] once all = refused_quiet inv agrees Nothing (λ q. omega arith)
      by_list (p ∷ ps) once all =
          let qs = p ∷ ps in
          let f = view s in
          let h = free_head s in
          let g = free_all f h qs in
          let rd = reads_give_back_all qs (reads inv.written) (all_map in_index qs all) in
          let same = kept_give_back_all qs s in
          let tree = sweep_tree f s.jobs h qs once all o s.fill (root s) inv.tree in
          let jobs = sweep_jobs f s.jobs h qs once all o inv.jobs in
          let beside = sweep_agrees f s.jobs h qs once all o r agrees in
          record {
            inv = inv_reads o rd (subst (λ (fill : ℕ). Tree o fill (root s) g) (sym same.0) tree)
                (sweep_chain f s.jobs h qs once all inv.chain)
                (subst (JobsOk o g) (sym same.1) jobs) (ap length same.1 ∙ inv.consoles);
            agrees = agrees_reads o rd
                (subst (λ (js : List (Option Job)). Agrees o g js r) (sym same.1) beside);
            undamaged = λ q. omega arith;
          }
