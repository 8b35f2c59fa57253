-- What is read after each of the steps that write.
use Rattle.std.proofs.Common.{◌≡◌, ℕ, ◌+◌, ◌<◌, ◌≤◌, List, length, Option, sym, refl, ap, ◌∙◌, subst, arith}
use Rattle.page.specs.declared.entries.Entry.{Entry}
use Rattle.page.specs.declared.pages.PageState.TheVariants.{Free, Live}
use Rattle.page.specs.Pages.{Page}
use Rattle.page.proofs.Layouts.{Plain}
use Rattle.model.specs.declared.jobs.Job.{Job}
use Rattle.model.specs.Entries.{KeyOrder}
use Rattle.model.specs.States.{State, with_job, view, write, write_head, root, free_head}
use Rattle.model.specs.Splits.{split, upper_page, relinked, shortened}
use Rattle.model.specs.Turns.{with_entries}
use Rattle.model.specs.Upkeep.{entry_in, entry_out, joined, gone_into, merge_into, root_over, free_page_to, give_back}
use Rattle.model.specs.Reference.{Reference}
use Rattle.model.specs.Soundness.{Uses, FreeChain}
use Rattle.model.proofs.Invariant.{upd, Written, Tree, JobsOk, Inv, Agrees}
use Rattle.model.proofs.Views.{live_in_range, free_in_range, plain_view, view_write, root_write, free_head_write}
use Rattle.model.proofs.Views.{written_write, view_write_head, root_write_head, free_head_write_head, written_write_head}
use Rattle.model.proofs.Views.{written_with_job}
use Rattle.model.proofs.Plains.{uses_live, uses_gone, uses_free, plain_leaf, plain_free, plain_gone, plain_root}
use Rattle.model.proofs.Plains.{plain_upper, plain_lower, plain_joined, plain_in, plain_out}

-- the pages f are read off the state, with the first free page h and the root r
pub record Reads (s : State) (f : ℕ → Page) (h r : ℕ) : Type 0 where
  pub written : Written s
  pub seen : view s ≡ f
  pub free : free_head s ≡ h
  pub top : root s ≡ r

-- what is read off a state that is written
pub reads : {s : State} → Written s → Reads s (view s) (free_head s) (root s)
reads wr = record { written = wr; seen = refl; free = refl; top = refl }

-- what the invariant says of what is read, it says of the state
pub inv_reads : (o : KeyOrder) {s : State} {f : ℕ → Page} {h r : ℕ} → Reads s f h r
    → Tree o s.fill r f → FreeChain f h → JobsOk o f s.jobs → length s.jobs ≡ 32 → Inv o s
inv_reads o {s} {f} {h} {r} rd tree chain jobs consoles =
    record {
      written = rd.written;
      tree = subst (λ t. Tree o s.fill t (view s)) (sym rd.top)
          (subst (Tree o s.fill r) (sym rd.seen) tree);
      chain = subst (FreeChain (view s)) (sym rd.free) (subst (λ g. FreeChain g h) (sym rd.seen) chain);
      jobs = subst (λ g. JobsOk o g s.jobs) (sym rd.seen) jobs;
      consoles = consoles;
    }

-- so with what the reference agrees with
pub agrees_reads : (o : KeyOrder) {s : State} {f : ℕ → Page} {h r : ℕ} {ref : Reference} → Reads s f h r
    → Agrees o f s.jobs ref → Agrees o (view s) s.jobs ref
agrees_reads o {s} {ref = ref} rd agrees = subst (λ g. Agrees o g s.jobs ref) (sym rd.seen) agrees

module _ {s : State} {f : ℕ → Page} {h r : ℕ} (rd : Reads s f h r) where
  -- one page, page 0 or a job changed
  reads_write : (p : ℕ) (x : Page) → 0 < p → p < s.pages → Plain x → Uses x x.state
      → Reads (write p x s) (upd f p x) h r
  reads_write p x above below plain uses =
      record {
        written = written_write rd.written p above below x plain uses;
        seen = view_write rd.written p above below x plain ∙ ap (λ g. upd g p x) rd.seen;
        free = free_head_write rd.written p above below x plain ∙ rd.free;
        top = root_write rd.written p above below x plain ∙ rd.top;
      }

  -- a live page has no uses words
  reads_write_live : (p : ℕ) (x : Page) → 0 < p → p < s.pages → Plain x → x.state ≡ Live
      → Reads (write p x s) (upd f p x) h r
  reads_write_live p x above below plain live = reads_write p x above below plain (uses_live x live)

  reads_head : (h' r' : ℕ) → Reads (write_head h' r' s) f h' r'
  reads_head h' r' =
      record {
        written = written_write_head rd.written h' r';
        seen = view_write_head rd.written h' r' ∙ rd.seen;
        free = free_head_write_head rd.written h' r';
        top = root_write_head rd.written h' r';
      }

  -- a job changed
  pub reads_job : (c : ℕ) (j : Option Job) → Reads (with_job c j s) f h r
  reads_job c j =
      record { written = written_with_job rd.written c j; seen = rd.seen; free = rd.free; top = rd.top }

-- a page joins the free chain
pub reads_give_back : {s : State} {f : ℕ → Page} {h r : ℕ} → Reads s f h r → (p : ℕ) → 0 < p → p < s.pages
    → Reads (give_back p s) (upd f p (free_page_to h)) p r
reads_give_back {s} {f} {h} {r} rd p above below =
    let page = reads_write rd p (free_page_to h) above below (plain_free h) (uses_free h) in
    subst (λ k. Reads (write_head p (root s) (write p (free_page_to k) s)) (upd f p (free_page_to h)) p r) (sym rd.free)
    (subst (λ t. Reads (write_head p t (write p (free_page_to h) s)) (upd f p (free_page_to h)) p r) (sym rd.top)
    (reads_head page p r))

module _ {s : State} (wr : Written s) where
  -- a live leaf gets other entries
  pub reads_leaf : (p : ℕ) (es : List Entry) → (view s p).state ≡ Live → (view s p).level ≡ 0 → length es ≤ 18
      → Reads (write p (with_entries es (view s p)) s)
      (upd (view s) p (with_entries es (view s p))) (free_head s) (root s)
  reads_leaf p es live leaf few =
      let i = live_in_range s p live in
      reads_write_live (reads wr) p _ i.0 i.1 (plain_leaf es (view s p) leaf few) live

  -- a live page is split into itself and the free page n
  pub reads_split : (p n : ℕ) → (view s p).state ≡ Live → (view s n).state ≡ Free
      → Reads (split p (view s p) n s)
      (upd (upd (view s) n (upper_page s.fill (view s p)))
      p (shortened s.fill (relinked n (view s p))))
      (view s n).link (root s)
  reads_split p n live free =
      let i = live_in_range s p live in
      let j = free_in_range s n free in
      let plain = plain_view wr p in
      let upper = reads_write_live (reads wr) n _ j.0 j.1 (plain_upper s.fill (view s p) plain) refl in
      let lower = reads_write_live upper p _ i.0 i.1 (plain_lower s.fill n (view s p) plain) live in
      reads_head lower (view s n).link (root s)

  -- a live inner page gets an entry behind its entry i
  pub reads_post : (p i : ℕ) (e : Entry) → (view s p).state ≡ Live
      → 0 < length (view s p).entries → length (view s p).entries < s.fill
      → Reads (write p (with_entries (entry_in (i + 1) e (view s p).entries) (view s p)) s)
      (upd (view s) p (with_entries (entry_in (i + 1) e (view s p).entries) (view s p)))
      (free_head s) (root s)
  reads_post p i e live some room =
      let r = live_in_range s p live in
      let most = wr.fill_most in
      let plain = plain_in i e (view s p) (plain_view wr p) some (omega arith) in
      reads_write_live (reads wr) p _ r.0 r.1 plain live

  -- live page b is merged into live page a, and their live parent p loses its entry i + 1
  pub reads_merge : (p i a b : ℕ) → (view s p).state ≡ Live → (view s a).state ≡ Live → (view s b).state ≡ Live
      → (0 < (view s a).level → 0 < length (view s a).entries)
      → length (view s a).entries + length (view s b).entries ≤ 18
      → Reads (merge_into p (view s p) i a b s)
      (upd (upd (upd (view s) a (joined (view s a) (view s b))) b (gone_into a (view s b)))
      p (with_entries (entry_out (i + 1) (view s p).entries) (view s p)))
      (free_head s) (root s)
  reads_merge p i a b parent left right some few =
      let u = live_in_range s p parent in
      let v = live_in_range s a left in
      let w = live_in_range s b right in
      let both = plain_joined (view s a) (view s b) (plain_view wr a) some few in
      let first = reads_write_live (reads wr) a _ v.0 v.1 both left in
      let second = reads_write first b _ w.0 w.1 (plain_gone a (view s b)) (uses_gone a (view s b)) in
      reads_write_live second p _ u.0 u.1 (plain_out i (view s p) (plain_view wr p)) parent

  -- the free page n becomes the root over the old one
  pub reads_raise : (n : ℕ) → (view s n).state ≡ Free
      → Reads (write_head (view s n).link n (write n (root_over (root s) (view s (root s))) s))
      (upd (view s) n (root_over (root s) (view s (root s)))) (view s n).link n
  reads_raise n free =
      let i = free_in_range s n free in
      let plain = plain_root (root s) (view s (root s)) in
      reads_head (reads_write_live (reads wr) n _ i.0 i.1 plain refl) (view s n).link n
