-- The tree after a merge: the left page has taken over all of the right one, which is gone, and out of the parent.
use Rattle.std.proofs.Common.{◌≡◌, ℕ, zero, suc, ◌≤◌, true, ◌≢◌, ◌⊎◌, List, length, Some, None, Option, sym, refl, ap, ◌∙◌, subst, inl, inr, arith}
use Rattle.std.proofs.lemmas.Bool.{cases_eq}
use Rattle.order.specs.declared.keys.Key.{Key}
use Rattle.order.specs.Laws.{Lawful}
use Rattle.page.specs.declared.entries.Entry.{Entry}
use Rattle.page.specs.declared.pages.PageState.TheVariants.{Free, Live, Gone}
use Rattle.page.specs.Pages.{Page}
use Rattle.model.specs.declared.jobs.Job.{Job}
use Rattle.model.specs.Lists.{In}
use Rattle.model.specs.Entries.{KeyOrder}
use Rattle.model.specs.States.{has_form}
use Rattle.model.specs.Turns.{with_entries}
use Rattle.model.specs.Upkeep.{is_small, joined, gone_into}
use Rattle.model.specs.Reference.{Reference}
use Rattle.model.specs.Soundness.{FreeChain}
use Rattle.model.proofs.Bounds.{start_of, end_of, lower_bound, upper_bound, Under, UpTo, under_trans}
use Rattle.model.proofs.Invariant.{BodyOk, LiveOk, GoneOk, Apart, Tree, JobsOk, Holds, Agrees}
use Rattle.model.proofs.Lists.{in_left, in_right, in_append}
use Rattle.model.proofs.Frames.{KeepsHeld, gone_kept, jobs_kept, linked_kept, held_at}
use Rattle.model.proofs.Levels.{inner_of, leaf_of}
use Rattle.model.proofs.MergeParents.{Couple}
use Rattle.model.proofs.MergePages.{KeepsBut, inner_but, link_but, live_but, small_few, Meet, apart_both, joined_leaf}
use Rattle.model.proofs.MergePages.{joined_inner}

-- the pages after a merge of a and b under p, whose entries are then es
pub record Merged (f g : ℕ → Page) (p a b : ℕ) (es : List Entry) : Type 0 where
  pub at_a : g a ≡ joined (f a) (f b)
  pub at_b : g b ≡ gone_into a (f b)
  pub at_p : g p ≡ with_entries es (f p)
  pub elsewhere : (q : ℕ) → q ≢ a → q ≢ b → q ≢ p → g q ≡ f q

-- what a merge, from the pages f to the pages g, keeps
pub record MergeKeeps (o : KeyOrder) (fill root : ℕ) (f g : ℕ → Page) : Type 0 where
  pub tree : Tree o fill root g
  pub chain : (h : ℕ) → FreeChain f h → FreeChain g h
  pub jobs : (js : List (Option Job)) → JobsOk o f js → JobsOk o g js
  pub agrees : (js : List (Option Job)) (r : Reference) → Agrees o f js r → Agrees o g js r

-- whether two pages are apart is said by their starts and ends alone
apart_like : (o : KeyOrder) (x y u v : Page) → u.start ≡ x.start → u.end ≡ x.end → v.start ≡ y.start
    → v.end ≡ y.end → Apart o x y → Apart o u v
apart_like o x y u v us ue vs ve (inl h) =
    inl (subst (λ z. UpTo o (upper_bound z) (start_of v)) (sym ue)
    (subst (λ z. UpTo o (end_of x) (lower_bound z)) (sym vs) h))
apart_like o x y u v us ue vs ve (inr h) =
    inr (subst (λ z. UpTo o (upper_bound z) (start_of u)) (sym ve)
    (subst (λ z. UpTo o (end_of y) (lower_bound z)) (sym us) h))

module _ {o : KeyOrder} (laws : Lawful o.keyed o.compared) (fill root : ℕ) (f g : ℕ → Page)
    (t : Tree o fill root f) (p l a b : ℕ) (k : Key) (es : List Entry) (c : Couple o f p l a b k es)
    (m : Merged f g p a b es) (small : is_small fill (f a) (f b) ≡ true) (few : length es ≤ fill) where
  -- what holds of the three new pages, and of the others as they were, holds of each page
  each_page : (Q : ℕ → Page → Type 0) → Q a (joined (f a) (f b)) → Q b (gone_into a (f b)) → Q p (with_entries es (f p))
      → ((q : ℕ) → q ≢ a → q ≢ b → q ≢ p → Q q (f q)) → (q : ℕ) → Q q (g q)
  each_page Q ha hb hp other q =
      elim (cases_eq q a) [
        | inl e ↦ subst (λ v. Q v (g v)) (sym e) (subst (Q a) (sym m.at_a) ha)
        | inr na ↦ elim (cases_eq q b) [
          | inl e ↦ subst (λ v. Q v (g v)) (sym e) (subst (Q b) (sym m.at_b) hb)
          | inr nb ↦ elim (cases_eq q p) [
            | inl e ↦ subst (λ v. Q v (g v)) (sym e) (subst (Q p) (sym m.at_p) hp)
            | inr np ↦ subst (Q q) (sym (m.elsewhere q na nb np)) (other q na nb np)
          ]
        ]
      ]

  -- all pages but b stay live, and all stay one of live and gone, with their level and start
  keep : KeepsBut b f g
  keep =
      each_page (λ q x. q ≢ b → (f q).state ≡ Live
      → (x.state ≡ Live) × (x.level ≡ (f q).level) × (x.start ≡ (f q).start))
      (λ n h. (h, refl, refl)) (λ n h. absurd (n refl)) (λ n h. (h, refl, refl)) (λ q na nb np n h. (h, refl, refl))

  face : (q : ℕ)
      → (has_form (g q).state ≡ has_form (f q).state) × ((g q).level ≡ (f q).level) × ((g q).start ≡ (f q).start)
  face =
      each_page (λ q x. (has_form x.state ≡ has_form (f q).state)
      × (x.level ≡ (f q).level) × (x.start ≡ (f q).start))
      (refl, refl, refl) (sym (ap has_form c.b_live), refl, refl) (refl, refl, refl)
      (λ q na nb np. (refl, refl, refl))

  held : KeepsHeld f g
  held q h = let w = face q in (w.0 ∙ h, w.1, w.2)

  -- the pages as they were
  a_ok : LiveOk o fill f (f a)
  a_ok = t.live a c.a_live

  b_ok : LiveOk o fill f (f b)
  b_ok = t.live b c.b_live

  p_ok : LiveOk o fill f (f p)
  p_ok = t.live p c.p_live

  same_level : (f b).level ≡ (f a).level
  same_level = c.b_level ∙ sym c.a_level

  meeting : Meet o (f a) (f b)
  meeting =
      let e : end_of (f a) ≡ start_of (f b) = ap upper_bound c.a_end ∙ ap lower_bound (sym c.b_start) in
      record {
        start_key = a_ok.start_key;
        middle_key = b_ok.start_key;
        end_key = b_ok.end_key;
        lower = subst (Under o (start_of (f a))) e a_ok.rises;
        upper = b_ok.rises;
        meets = e;
      }

  -- the three pages as they are now
  left_body : (n : ℕ) → (f a).level ≡ n → BodyOk o g (joined (f a) (f b)) n
  left_body zero e =
      joined_leaf laws (f a) (f b) meeting (leaf_of t a c.a_live e)
      (leaf_of t b c.b_live (same_level ∙ e))
  left_body (suc n) e =
      joined_inner laws (f a) (f b) meeting f g b n keep k c.b_start (f a).entries (f b).entries
      (c.parents a n c.a≢p c.a_live e) (c.parents b n c.b≢p c.b_live (same_level ∙ e))
      (inner_of t a n c.a_live e) (inner_of t b n c.b_live (same_level ∙ e))

  left_ok : LiveOk o fill g (joined (f a) (f b))
  left_ok =
      record {
        few = small_few fill (f a) (f b) a_ok.few b_ok.few small;
        start_key = a_ok.start_key;
        end_key = b_ok.end_key;
        rises = under_trans laws (start_of (f a)) (start_of (f b)) (end_of (f b)) a_ok.start_key b_ok.start_key
            b_ok.end_key meeting.lower meeting.upper;
        body = left_body (f a).level refl;
        link = link_but o f g b keep (f b) (joined (f a) (f b)) (f b).end refl (sym same_level)
            (λ j e. c.lefts b j (λ q. c.a≢b (sym q)) c.b_live e) b_ok.link;
      }

  parent_ok : LiveOk o fill g (with_entries es (f p))
  parent_ok =
      record {
        few = few;
        start_key = p_ok.start_key;
        end_key = p_ok.end_key;
        rises = p_ok.rises;
        body = subst (BodyOk o g (with_entries es (f p))) (sym c.p_level)
            (inner_but o f g b keep l (f p) es es c.others c.entries);
        link = link_but o f g b keep (f p) (with_entries es (f p)) (f p).end refl refl
            (λ j e. c.lefts p j (λ q. c.a≢p (sym q)) c.p_live e) p_ok.link;
      }

  right_ok : GoneOk o g (gone_into a (f b))
  right_ok =
      let w = face a in
      record {
        none = refl;
        start_key = b_ok.start_key;
        held = w.0 ∙ ap has_form c.a_live;
        level = w.1 ∙ sym same_level;
        earlier = subst (λ v. Under o (lower_bound v) (start_of (f b))) (sym w.2) meeting.lower;
      }

  -- which pages are live now, and where they end
  span : (q : ℕ) → (g q).state ≡ Live → (q ≢ b) × ((f q).state ≡ Live) × (q ≢ a → (g q).end ≡ (f q).end)
  span =
      each_page (λ q x. x.state ≡ Live → (q ≢ b) × ((f q).state ≡ Live) × (q ≢ a → x.end ≡ (f q).end))
      (λ h. (c.a≢b, h, λ n. absurd (n refl))) (λ h. absurd (grind arith))
      (λ h. ((λ q. c.b≢p (sym q)), h, λ n. refl)) (λ q na nb np h. (nb, h, λ n. refl))

  -- a page that is apart from a and from b is apart from both together
  apart_joined : (q : ℕ) → q ≢ a → q ≢ b → (f q).state ≡ Live → (f q).level ≡ (f a).level
      → Apart o (joined (f a) (f b)) (f q)
  apart_joined q na nb lq level =
      let q_ok = t.live q lq in
      apart_both laws (start_of (f a)) (start_of (f b)) (end_of (f b)) (start_of (f q)) (end_of (f q))
      a_ok.start_key b_ok.start_key b_ok.end_key q_ok.start_key q_ok.end_key q_ok.rises
      (subst (λ v. UpTo o v (start_of (f q)) ⊎ UpTo o (end_of (f q)) (start_of (f a))) meeting.meets
      (t.apart a q c.a_live lq (sym level) (λ e. na (sym e))))
      (t.apart b q c.b_live lq (same_level ∙ sym level) (λ e. nb (sym e)))

  -- now: a and another page, two others, and so any two
  apart_left : (q : ℕ) → q ≢ a → (g q).state ≡ Live → (g q).level ≡ (g a).level → Apart o (g a) (g q)
  apart_left q na lq level =
      let w = span q lq in
      apart_like o (joined (f a) (f b)) (f q) (g a) (g q) (face a).2 (ap (λ (x : Page). x.end) m.at_a)
      (face q).2 (w.2 na) (apart_joined q na w.0 w.1 (sym (face q).1 ∙ level ∙ (face a).1))

  apart_others : (q r : ℕ) → q ≢ a → r ≢ a → (g q).state ≡ Live → (g r).state ≡ Live → (g q).level ≡ (g r).level → q ≢ r
      → Apart o (g q) (g r)
  apart_others q r nq nr lq lr level ne =
      let v = span q lq in
      let w = span r lr in
      apart_like o (f q) (f r) (g q) (g r) (face q).2 (v.2 nq) (face r).2 (w.2 nr)
      (t.apart q r v.1 w.1 (sym (face q).1 ∙ level ∙ (face r).1) ne)

  apart_any : (q r : ℕ) → (g q).state ≡ Live → (g r).state ≡ Live → (g q).level ≡ (g r).level → q ≢ r → Apart o (g q) (g r)
  apart_any q r lq lr level ne =
      elim (cases_eq q a) [
        | inl e ↦ subst (λ v. Apart o (g v) (g r)) (sym e)
            (apart_left r (λ w. ne (e ∙ sym w)) lr (sym level ∙ ap (λ v. (g v).level) e))
        | inr nq ↦ elim (cases_eq r a) [
          | inl e ↦ elim (apart_left q nq lq (level ∙ ap (λ v. (g v).level) e)) [
            | inl h ↦ inr (subst (λ v. UpTo o (end_of (g v)) (start_of (g q))) (sym e) h)
            | inr h ↦ inl (subst (λ v. UpTo o (end_of (g q)) (start_of (g v))) (sym e) h)
          ]
          | inr nr ↦ apart_others q r nq nr lq lr level ne
        ]
      ]

  -- the root has no start, and b has one
  root≢b : root ≢ b
  root≢b q = let w : None ≡ Some k = sym t.root_start ∙ ap (λ v. (f v).start) q ∙ c.b_start in grind arith

  tree_kept : Tree o fill root g
  tree_kept =
      let r = keep root root≢b t.root_live in
      record {
        live = each_page (λ q x. x.state ≡ Live → LiveOk o fill g x)
            (λ h. left_ok) (λ h. absurd (grind arith)) (λ h. parent_ok)
            (λ q na nb np h. live_but o f g b keep fill (f q) (λ n e. c.parents q n np h e)
            (λ j e. c.lefts q j na h e) (t.live q h));
        apart = apart_any;
        gone = each_page (λ q x. x.state ≡ Gone → GoneOk o g x)
            (λ h. absurd (let w = c.a_live in grind arith)) (λ h. right_ok)
            (λ h. absurd (let w = c.p_live in grind arith))
            (λ q na nb np h. gone_kept o f g (f q) (held (f q).link) (t.gone q h));
        root_live = r.0;
        root_start = r.2 ∙ t.root_start;
        root_top = λ q h. let u = face q in let v = t.root_top q (sym u.0 ∙ h) in let w = r.1 in omega arith;
        zero = (face 0).0 ∙ t.zero;
      }

  -- the free pages are as they were
  chain_kept : (h : ℕ) → FreeChain f h → FreeChain g h
  chain_kept h chain =
      let same = each_page (λ q x. (f q).state ≡ Free → x ≡ f q)
      (λ e. absurd (let w = c.a_live in grind arith)) (λ e. absurd (let w = c.b_live in grind arith))
      (λ e. absurd (let w = c.p_live in grind arith)) (λ q na nb np e. refl) in
      let was = each_page (λ q x. x.state ≡ Free → (f q).state ≡ Free)
      (λ e. e) (λ e. absurd (grind arith)) (λ e. e) (λ q na nb np e. e) in
      record {
        pages = chain.pages;
        linked = linked_kept f g same h chain.pages chain.linked;
        once = chain.once;
        all = λ q e. chain.all q (was q e);
      }

  -- the entries of the leaves: those of b are now in a
  into_kept : (r : List Entry) (e : Entry)
      → ((q : ℕ) → (f q).state ≡ Live → (f q).level ≡ 0 → In e (f q).entries → In e r)
      → (q : ℕ) → (g q).state ≡ Live → (g q).level ≡ 0 → In e (g q).entries → In e r
  into_kept r e into =
      each_page (λ q x. x.state ≡ Live → x.level ≡ 0 → In e x.entries → In e r)
      (λ live leaf i. elim (in_append (f a).entries (f b).entries e i)
      [ inl j ↦ into a c.a_live leaf j | inr j ↦ into b c.b_live (same_level ∙ leaf) j ])
      (λ live leaf i. absurd i) (λ live leaf i. absurd (let w = c.p_level in grind arith))
      (λ q na nb np live leaf i. into q live leaf i)

  from_kept : (e : Entry) → Holds f e → Holds g e
  from_kept e d =
      each_page (λ q x. g q ≡ x → (f q).state ≡ Live → (f q).level ≡ 0 → In e (f q).entries → Holds g e)
      (λ here live leaf j. held_at g a (joined (f a) (f b)) e here live leaf
      (in_left (f a).entries (f b).entries e j))
      (λ here live leaf j. held_at g a (joined (f a) (f b)) e m.at_a c.a_live (sym same_level ∙ leaf)
      (in_right (f a).entries (f b).entries e j))
      (λ here live leaf j. absurd (let w = c.p_level in grind arith))
      (λ q na nb np here live leaf j. held_at g q (f q) e here live leaf j)
      d.leaf refl d.live d.level d.holds

  -- a merge of two neighbours
  pub kept_by_merge : MergeKeeps o fill root f g
  kept_by_merge =
      record {
        tree = tree_kept;
        chain = chain_kept;
        jobs = λ js h. jobs_kept o f g held js h;
        agrees = λ js r h. record {
          sorted = h.sorted;
          into = λ q e. into_kept r.entries e (λ q. h.into q e) q;
          from = λ e i. from_kept e (h.from e i);
          tasks = h.tasks;
        };
      }
