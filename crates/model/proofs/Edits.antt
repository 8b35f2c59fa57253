-- A live page gets other entries: the tree, the free chain and the jobs stay.
use Rattle.std.proofs.Common.{◌≡◌, ℕ, suc, ◌≤◌, true, false, ◌≢◌, List, length, Option, sym, refl, ◌∙◌, subst, arith}
use Rattle.page.specs.declared.entries.Entry.{Entry}
use Rattle.page.specs.declared.pages.PageState.TheVariants.{Live, Gone}
use Rattle.page.specs.Pages.{Page}
use Rattle.model.specs.declared.jobs.Job.{Job}
use Rattle.model.specs.Lists.{In}
use Rattle.model.specs.Entries.{KeyOrder}
use Rattle.model.specs.States.{has_form}
use Rattle.model.specs.Turns.{with_entries}
use Rattle.model.specs.Reference.{Reference}
use Rattle.model.specs.Soundness.{FreeChain}
use Rattle.model.proofs.Invariant.{BodyOk, LiveOk, GoneOk, Tree, JobsOk, upd, Agrees}
use Rattle.model.proofs.Frames.{KeepsLive, KeepsHeld, live_kept, gone_kept, jobs_kept, KeptHeld, KeptLive}
use Rattle.model.proofs.Frames.{live_not_free, live_not_gone}
use Rattle.model.proofs.Updates.{upd_all, holds_other, chain_other, upd_apart}

-- a live page with other entries is in order, if they are
pub live_edited : {o : KeyOrder} (fill : ℕ) (f : ℕ → Page) (x : Page) (es : List Entry) → LiveOk o fill f x
    → length es ≤ fill → BodyOk o f (with_entries es x) x.level → LiveOk o fill f (with_entries es x)
live_edited fill f x es h few body =
    record {
      few = few;
      start_key = h.start_key;
      end_key = h.end_key;
      rises = h.rises;
      body = body;
      link = h.link;
    }

-- page p, which is live, gets the entries es
module _ (f : ℕ → Page) (p : ℕ) (es : List Entry) (live : (f p).state ≡ Live) where
  -- the page with them, and all pages
  abbrev x : Page
  x = with_entries es (f p)

  abbrev g : ℕ → Page
  g = upd f p x

  edit_keeps_live : KeepsLive f g
  edit_keeps_live = upd_all f p x (λ q y. KeptLive (f q) y) (λ h. (h, refl, refl)) (λ q _ h. (h, refl, refl))

  edit_keeps_held : KeepsHeld f g
  edit_keeps_held = upd_all f p x (λ q y. KeptHeld (f q) y) (λ h. (h, refl, refl)) (λ q _ h. (h, refl, refl))

  -- the free chain stays
  pub entries_chain : (h : ℕ) → FreeChain f h → FreeChain (upd f p (with_entries es (f p))) h
  entries_chain = let used = live_not_free live in chain_other f p x used used

  -- the jobs stay in order
  pub entries_jobs : (o : KeyOrder) (js : List (Option Job))
      → JobsOk o f js → JobsOk o (upd f p (with_entries es (f p))) js
  entries_jobs o = jobs_kept o f g edit_keeps_held

  -- the entries of an inner page are none of the reference's
  pub entries_agree : (l : ℕ) → (f p).level ≡ suc l → (o : KeyOrder) (js : List (Option Job)) (r : Reference)
      → Agrees o f js r → Agrees o (upd f p (with_entries es (f p))) js r
  entries_agree l inner o js r h =
      record {
        sorted = h.sorted;
        tasks = h.tasks;
        into = λ q e. upd_all f p x
            (λ q y. y.state ≡ Live → y.level ≡ 0 → In e y.entries → In e r.entries)
            (λ _ leaf _. absurd (omega arith)) (λ q _. h.into q e) q;
        from = λ e i. let was = h.from e i in holds_other f p x e was (no_leaf was.leaf was.level);
      }
    where
      no_leaf : (q : ℕ) → (f q).level ≡ 0 → q ≢ p
      no_leaf q leaf e = let no : (f p).level ≡ 0 = subst (λ n. (f n).level ≡ 0) e leaf in omega arith

  -- the tree stays, if the page is in order with its new entries
  pub entries_tree : (o : KeyOrder) (fill root : ℕ) → LiveOk o fill f (with_entries es (f p)) → Tree o fill root f
      → Tree o fill root (upd f p (with_entries es (f p)))
  entries_tree o fill root ok t =
      let root_edited = edit_keeps_live root t.root_live in
      record {
        live = upd_all f p x (λ q y. y.state ≡ Live → LiveOk o fill g y)
            (λ _. live_kept o f g edit_keeps_live fill x ok)
            (λ q _ h. live_kept o f g edit_keeps_live fill (f q) (t.live q h));
        apart = upd_apart f p x o t.apart (λ q other lp lq level. t.apart p q lp lq level (λ e. other (sym e)));
        gone = upd_all f p x (λ q y. y.state ≡ Gone → GoneOk o g y)
            (λ h. absurd (live_not_gone live h))
            (λ q _ h. gone_kept o f g (f q) (edit_keeps_held (f q).link) (t.gone q h));
        root_live = root_edited.0;
        root_start = root_edited.2 ∙ t.root_start;
        root_top = subst (λ top. (q : ℕ) → has_form (g q).state ≡ true → (g q).level ≤ top) (sym root_edited.1)
            (upd_all f p x (λ q y. has_form y.state ≡ true → y.level ≤ (f root).level)
            (t.root_top p) (λ q _. t.root_top q));
        zero = upd_all f p x (λ q y. has_form (f q).state ≡ false → has_form y.state ≡ false) (λ e. e)
            (λ q _ e. e) 0 t.zero;
      }
