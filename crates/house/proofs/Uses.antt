-- Changes of memory and of uses that keep the relation: what each asks, and the keeper's single changes. Assumes nothing.
use Rattle.std.proofs.Common.{◌≡◌, ℕ, ◌+◌, ◌*◌, ◌/◌, ◌%◌, ◌<◌, Bool, true, false, cond, not, ◌&&◌, ◌||◌, T, eqb, ◌⊎◌, List, sym, refl, ap, ◌∙◌, subst, inl, inr, ⊎_elim, arith}
use mathlib.Core.Path.{fun_ext}
use mathlib.Core.List.{Memᴰ}
use lib.Dec.{eqb_refl}
use Rattle.std.proofs.lemmas.Bool.{cond_both}
use Rattle.house.specs.Machine.{Up, Mid, Leaf, frame_in, no_leaf}
use Rattle.house.specs.Meaning.{Loan, Home, Lent, Leaving, Use, House, TableOf, Idle, Of, Dev, loan_of, reaches, is_idle, use_at, map_loan, leaving, leaving_from, not_of}
use Rattle.house.specs.Sound.{Tables, View, Held, Good, Mapped, Sound, entry_of, is_page}
use Rattle.house.proofs.Facts.{with_uses, entry_frame, entry_writes, entry_some, reached_at, table_not_idle, house_not_idle}
use Rattle.house.proofs.Known.{no_leaf_not}
use Rattle.house.proofs.Shelf.{pair, at_one, there, is_true}

-- a good entry of one view is good in another where its frame is reached as it was
pub good_to : {v : View} {d p e : ℕ} (n : ℕ) (what : ℕ → Use) (dev : ℕ → Dev) (slots : ℕ → ℕ → Bool) →
    ((w : Bool) → T (reaches d p w (loan_of (v.what (frame_in e)))) → T (reaches d p w (loan_of (what (frame_in e))))) →
    Good v d p e → Good (record { frames = v.frames; devices = n; what = what; dev = dev; slots = slots }) d p e
good_to n what dev slots k g = record { some = g.some; frame = g.frame; reads = k false g.reads; writes = λ t. k true (g.writes t) }

reached_here : (d p : ℕ) (b : Bool) → T b → T (eqb d d && eqb p p && b)
reached_here d p b t = pair (eqb d d && eqb p p) b (pair (eqb d d) (eqb p p) (eqb_refl d) (eqb_refl p)) t

always : (w : Bool) → T (w || not false)
always true = tt
always false = tt

good_at : (v : View) (g d p : ℕ) (w : Bool) → g < v.frames → ((x : Bool) → T (w || not x) → T (reaches d p x (loan_of (v.what g)))) → Good v d p (entry_of g w)
good_at v g d p w b k =
    let f = entry_frame g w in
    record {
      some = entry_some g w;
      frame = subst (λ (x : ℕ). x < v.frames) (sym f) b;
      reads = subst (λ (y : ℕ). T (reaches d p false (loan_of (v.what y)))) (sym f) (k false (always w));
      writes = λ h. subst (λ (y : ℕ). T (reaches d p true (loan_of (v.what y)))) (sym f) (k true (let z : T w = subst T (entry_writes g w) h in rw (is_true w z) tt));
    }

-- the entry of a page that is leaving, or lent, is good where it is
pub good_leaving : (v : View) (g c u d p : ℕ) (w : Bool) → g < v.frames → v.what g ≡ Of c u (Leaving d p w) → Good v d p (entry_of g w)
unfolding loan_of reaches
good_leaving v g c u d p w b is = good_at v g d p w b (λ x h. subst (λ (y : Use). T (reaches d p x (loan_of y))) (sym is) (reached_here d p (w || not x) h))

pub good_lent : (v : View) (g c u d p : ℕ) (w : Bool) → g < v.frames → v.what g ≡ Of c u (Lent d p w) → Good v d p (entry_of g w)
unfolding loan_of reaches
good_lent v g c u d p w b is = good_at v g d p w b (λ x h. subst (λ (y : Use). T (reaches d p x (loan_of y))) (sym is) (reached_here d p (w || not x) h))

-- idle, or somebody's at home
abbrev pub unlent : Use → Bool
unlent House = false
unlent (TableOf d) = false
unlent Idle = true
unlent (Of c u Home) = true
unlent (Of c u (Lent d p w)) = false
unlent (Of c u (Leaving d p w)) = false

pub unlent_unreached : (x : Use) (d p : ℕ) (w : Bool) → T (unlent x) → T (reaches d p w (loan_of x)) → ⊥
unfolding loan_of reaches
unlent_unreached House d p w a h = h
unlent_unreached (TableOf e) d p w a h = h
unlent_unreached Idle d p w a h = h
unlent_unreached (Of c u Home) d p w a h = h
unlent_unreached (Of c u (Lent e q x)) d p w a h = a
unlent_unreached (Of c u (Leaving e q x)) d p w a h = a

-- uses told apart
abbrev pub paged : Use → Type 0
paged House = ⊥
paged (TableOf d) = ⊥
paged Idle = ⊥
paged (Of c u l) = Unit

abbrev pub pageless : Use → Type 0
pageless House = Unit
pageless (TableOf d) = Unit
pageless Idle = Unit
pageless (Of c u l) = ⊥

abbrev pub lentless : Use → Type 0
lentless House = Unit
lentless (TableOf d) = Unit
lentless Idle = Unit
lentless (Of c u Home) = Unit
lentless (Of c u (Lent d p w)) = ⊥
lentless (Of c u (Leaving d p w)) = Unit

abbrev pub lent : Loan → Type 0
lent Home = ⊥
lent (Lent d p w) = Unit
lent (Leaving d p w) = ⊥

-- what is leaving is reached as it was, and is not lent
pub leaving_reached : (d p : ℕ) (w : Bool) (l : Loan) → T (reaches d p w l) → T (reaches d p w (leaving l))
unfolding reaches leaving
leaving_reached d p w Home h = h
leaving_reached d p w (Lent e q x) h = h
leaving_reached d p w (Leaving e q x) h = h

pub leaving_unlent : (l : Loan) (d p : ℕ) (w : Bool) → leaving l ≡ Lent d p w → ⊥
unfolding leaving
leaving_unlent Home d p w e = subst lent (sym e) tt
leaving_unlent (Lent a b c) d p w e = subst lent (sym e) tt
leaving_unlent (Leaving a b c) d p w e = subst lent (sym e) tt

leaves_or_not : (d : ℕ) (l : Loan) → (leaving_from d l ≡ l) ⊎ (leaving_from d l ≡ leaving l)
unfolding leaving_from leaving
leaves_or_not d Home = inl refl
leaves_or_not d (Lent e p w) = cond_both (eqb d e) (Leaving e p w) (Lent e p w) (λ x. (x ≡ Lent e p w) ⊎ (x ≡ Leaving e p w)) (λ _. inr refl) (λ _. inl refl)
leaves_or_not d (Leaving e p w) = inl refl

mapped_reached : (g : Loan → Loan) → ((l : Loan) → (g l ≡ l) ⊎ (g l ≡ leaving l)) → (x : Use) (d p : ℕ) (w : Bool) → T (reaches d p w (loan_of x)) → T (reaches d p w (loan_of (map_loan g x)))
unfolding loan_of map_loan
mapped_reached g either House d p w h = h
mapped_reached g either (TableOf e) d p w h = h
mapped_reached g either Idle d p w h = h
mapped_reached g either (Of c u l) d p w h =
    ⊎_elim (λ (e : g l ≡ l). subst (λ (x : Loan). T (reaches d p w x)) (sym e) h) (λ (e : g l ≡ leaving l). subst (λ (x : Loan). T (reaches d p w x)) (sym e) (leaving_reached d p w l h)) (either l)

mapped_lent : (g : Loan → Loan) → ((l : Loan) → (g l ≡ l) ⊎ (g l ≡ leaving l)) → (x : Use) (c u d p : ℕ) (w : Bool) → map_loan g x ≡ Of c u (Lent d p w) → (a : ℕ) × (b : ℕ) × (x ≡ Of a b (Lent d p w))
unfolding map_loan loan_of
mapped_lent g either House c u d p w h = absurd (subst pageless h tt)
mapped_lent g either (TableOf e) c u d p w h = absurd (subst pageless h tt)
mapped_lent g either Idle c u d p w h = absurd (subst pageless h tt)
mapped_lent g either (Of a b l) c u d p w h =
    let k : g l ≡ Lent d p w = ap loan_of h in
    (a, b, ap (Of a b) (⊎_elim (λ (e : g l ≡ l). sym e ∙ k) (λ (e : g l ≡ leaving l). absurd (leaving_unlent l d p w (sym e ∙ k))) (either l)))

gone_reached : (o : ℕ) (x : Use) → ((u : ℕ) (l : Loan) → x ≡ Of o u l → l ≡ Home) → (d p : ℕ) (w : Bool) → T (reaches d p w (loan_of x)) → T (reaches d p w (loan_of (not_of o x)))
unfolding loan_of not_of reaches
gone_reached o House home d p w h = h
gone_reached o (TableOf e) home d p w h = h
gone_reached o Idle home d p w h = h
gone_reached o (Of c u l) home d p w h =
    at_one (λ (y : Use). T (reaches d p w (loan_of y))) o c Idle (Of c u l) (λ z. absurd (subst (λ (y : Loan). T (reaches d p w y)) (home u l (ap (λ (y : ℕ). Of y u l) (sym z))) h)) (λ _. h)

gone_lent : (o : ℕ) (x : Use) (c u d p : ℕ) (w : Bool) → not_of o x ≡ Of c u (Lent d p w) → (a : ℕ) × (b : ℕ) × (x ≡ Of a b (Lent d p w))
unfolding not_of
gone_lent o House c u d p w = λ h. absurd (subst pageless h tt)
gone_lent o (TableOf e) c u d p w = λ h. absurd (subst pageless h tt)
gone_lent o Idle c u d p w = λ h. absurd (subst pageless h tt)
gone_lent o (Of a b l) c u d p w =
    at_one (λ (y : Use). y ≡ Of c u (Lent d p w) → (m : ℕ) × (n : ℕ) × (Of a b l ≡ Of m n (Lent d p w))) o a Idle (Of a b l) (λ _ h. absurd (subst pageless h tt)) (λ _ h. (c, u, h))

-- memory changes
module _ {t : Tables} {v : View} {mem : ℕ → ℕ → ℕ} {live : Bool} {ups : List Up} {mids : List Mid} {leaves flying : List Leaf} (s : Sound t v mem live ups mids leaves flying) where
  pub mem_change : (mem2 : ℕ → ℕ → ℕ) →
      (T live → (d : ℕ) → d < v.devices → (mem2 0 d ≡ 0) ⊎ (mem2 0 d ≡ mem 0 d)) →
      ((d i : ℕ) → Held v d → i < 512 → mem2 (t.top d) i ≡ mem (t.top d) i) →
      ((d i j : ℕ) → T (v.slots d i) → i < 512 → j < 512 → (mem2 (t.low d i) j ≡ 0) ⊎ Good v d (512 * i + j) (mem2 (t.low d i) j)) →
      ((f c u d p : ℕ) (w : Bool) → f < v.frames → v.what f ≡ Of c u (Lent d p w) → (mem2 0 d ≡ mem 0 d) × (mem2 (t.low d (p / 512)) (p % 512) ≡ mem (t.low d (p / 512)) (p % 512))) →
      Sound t v mem2 live ups mids leaves flying
  mem_change mem2 roots tops lows lents =
      record {
        house = s.house;
        root = λ l d b. ⊎_elim (λ e. inl e) (λ (e : mem2 0 d ≡ mem 0 d). ⊎_elim (λ z. inl (e ∙ z)) (λ r. inr (e ∙ r.0, r.1)) (s.root l d b)) (roots l d b);
        top = s.top;
        slot = λ d i h b. tops d i h b ∙ s.slot d i h b;
        held = s.held;
        low = s.low;
        apart = s.apart;
        distinct = s.distinct;
        entries = lows;
        ups_good = s.ups_good;
        mids_good = s.mids_good;
        leaves_good = s.leaves_good;
        flying_good = s.flying_good;
        lent = λ f c u d p w b e.
            let m = s.lent f c u d p w b e in
            let k = lents f c u d p w b e in
            record { started = m.started; held = m.held; page = m.page; there = m.there; root = k.0 ∙ m.root; entry = k.1 ∙ m.entry };
      }

  -- memory may change at frames that are idle or somebody's
  pub mem_keeps : (mem2 : ℕ → ℕ → ℕ) → ((g k : ℕ) → T (not (is_page (v.what g))) → T (not (is_idle (v.what g))) → mem2 g k ≡ mem g k) → Sound t v mem2 live ups mids leaves flying
  unfolding is_page is_idle
  mem_keeps mem2 same =
      mem_change mem2
      (λ l d b. inr (at House 0 d s.house tt tt))
      (λ d i h b. at (TableOf d) (t.top d) i (s.top d h).1 tt tt)
      (λ d i j h b c. subst (λ (x : ℕ). (x ≡ 0) ⊎ Good v d (512 * i + j) x) (sym (at (TableOf d) (t.low d i) j (s.low d i h).1 tt tt)) (s.entries d i j h b c))
      (λ f c u d p w b e. (at House 0 d s.house tt tt, at (TableOf d) (t.low d (p / 512)) (p % 512) (s.low d (p / 512) (s.lent f c u d p w b e).there).1 tt tt))
    where
      at : (u : Use) (g k : ℕ) → v.what g ≡ u → T (not (is_page u)) → T (not (is_idle u)) → mem2 g k ≡ mem g k
      at u g k e a b = same g k (subst (λ (x : Use). T (not (is_page x))) (sym e) a) (subst (λ (x : Use). T (not (is_idle x))) (sym e) b)

  -- uses change: what each part of the relation asks
  pub uses_change : (what2 : ℕ → Use) →
      what2 0 ≡ House →
      ((g d : ℕ) → v.what g ≡ TableOf d → what2 g ≡ TableOf d) →
      ((d i j : ℕ) → T (v.slots d i) → i < 512 → j < 512 → Good v d (512 * i + j) (mem (t.low d i) j) → Good (with_uses what2 v) d (512 * i + j) (mem (t.low d i) j)) →
      ((l : Leaf) → Memᴰ l leaves → Good v l.dev l.page l.entry → Good (with_uses what2 v) l.dev l.page l.entry) →
      ((l : Leaf) → Memᴰ l flying → Good v l.dev l.page l.entry → Good (with_uses what2 v) l.dev l.page l.entry) →
      ((f c u d p : ℕ) (w : Bool) → f < v.frames → what2 f ≡ Of c u (Lent d p w) → Mapped t v mem live f d p w) →
      Sound t (with_uses what2 v) mem live ups mids leaves flying
  uses_change what2 house tables lows known fly lents =
      record {
        house = house;
        root = s.root;
        top = λ d h. let r = s.top d h in (r.0, tables (t.top d) d r.1);
        slot = s.slot;
        held = s.held;
        low = λ d i h. let r = s.low d i h in (r.0, tables (t.low d i) d r.1);
        apart = s.apart;
        distinct = s.distinct;
        entries = λ d i j h b c. ⊎_elim (λ z. inl z) (λ g. inr (lows d i j h b c g)) (s.entries d i j h b c);
        ups_good = s.ups_good;
        mids_good = s.mids_good;
        leaves_good = λ l m. known l m (s.leaves_good l m);
        flying_good = λ l m. fly l m (s.flying_good l m);
        lent = λ f c u d p w b e.
            let m = lents f c u d p w b e in
            record { started = m.started; held = m.held; page = m.page; there = m.there; root = m.root; entry = m.entry };
      }

  -- whoever reached a frame still does, and nothing is newly lent
  pub uses_keep : (what2 : ℕ → Use) →
      what2 0 ≡ House →
      ((g d : ℕ) → v.what g ≡ TableOf d → what2 g ≡ TableOf d) →
      ((g d p : ℕ) (w : Bool) → g < v.frames → T (reaches d p w (loan_of (v.what g))) → T (reaches d p w (loan_of (what2 g)))) →
      ((g c u d p : ℕ) (w : Bool) → g < v.frames → what2 g ≡ Of c u (Lent d p w) → (a : ℕ) × (b : ℕ) × (v.what g ≡ Of a b (Lent d p w))) →
      Sound t (with_uses what2 v) mem live ups mids leaves flying
  uses_keep what2 house tables reach lents =
      uses_change what2 house tables
      (λ d i j h b c g. still d (512 * i + j) (mem (t.low d i) j) g)
      (λ l m g. still l.dev l.page l.entry g)
      (λ l m g. still l.dev l.page l.entry g)
      (λ f c u d p w b e. let r = lents f c u d p w b e in s.lent f r.0 r.1 d p w b r.2)
    where
      still : (d p e : ℕ) → Good v d p e → Good (with_uses what2 v) d p e
      still d p e g = good_to v.devices what2 v.dev v.slots (λ w. reach (frame_in e) d p w g.frame) g

  -- uses that are equal one by one
  pub uses_same : (what2 : ℕ → Use) → ((g : ℕ) → v.what g ≡ what2 g) → Sound t (with_uses what2 v) mem live ups mids leaves flying
  uses_same what2 e = subst (λ (x : ℕ → Use). Sound t (with_uses x v) mem live ups mids leaves flying) (fun_ext e) s

  -- the same at one frame
  pub use_keeps : (f : ℕ) (old new : Use) → v.what f ≡ old →
      (old ≡ House → new ≡ House) →
      ((d : ℕ) → old ≡ TableOf d → new ≡ TableOf d) →
      ((d p : ℕ) (w : Bool) → T (reaches d p w (loan_of old)) → T (reaches d p w (loan_of new))) →
      ((c u d p : ℕ) (w : Bool) → new ≡ Of c u (Lent d p w) → (a : ℕ) × (b : ℕ) × (old ≡ Of a b (Lent d p w))) →
      Sound t (with_uses (use_at f new v.what) v) mem live ups mids leaves flying
  use_keeps f old new is house tables reach lents =
      uses_keep (use_at f new v.what)
      (at_one (λ (x : Use). x ≡ House) 0 f new (v.what 0) (λ e. house (sym is ∙ ap v.what (sym e) ∙ s.house)) (λ _. s.house))
      (λ g d h. at_one (λ (x : Use). x ≡ TableOf d) g f new (v.what g) (λ e. tables d (sym is ∙ ap v.what (sym e) ∙ h)) (λ _. h))
      (λ g d p w _ h. at_one (λ (x : Use). T (reaches d p w (loan_of x))) g f new (v.what g) (λ e. reach d p w (subst (λ (x : Use). T (reaches d p w (loan_of x))) (ap v.what e ∙ is) h)) (λ _. h))
      (λ g c u d p w _. at_one (λ (x : Use). x ≡ Of c u (Lent d p w) → (a : ℕ) × (b : ℕ) × (v.what g ≡ Of a b (Lent d p w))) g f new (v.what g)
      (λ e h. let r = lents c u d p w h in (r.0, r.1, ap v.what e ∙ is ∙ r.2))
      (λ _ h. (c, u, h)))

  -- a frame that no device reaches, before and after: idle, or somebody's at home
  pub use_home : (f : ℕ) (old new : Use) → v.what f ≡ old → T (unlent old) → T (unlent new) → Sound t (with_uses (use_at f new v.what) v) mem live ups mids leaves flying
  use_home f old new is a b =
      use_keeps f old new is
      (λ e. absurd (subst (λ (x : Use). T (unlent x)) e a))
      (λ d e. absurd (subst (λ (x : Use). T (unlent x)) e a))
      (λ d p w h. absurd (unlent_unreached old d p w a h))
      (λ c u d p w e. absurd (subst (λ (x : Use). T (unlent x)) e b))

  -- an idle frame becomes a table
  pub idle_to_table : (f d : ℕ) → v.what f ≡ Idle → Sound t (with_uses (use_at f (TableOf d) v.what) v) mem live ups mids leaves flying
  unfolding loan_of reaches
  idle_to_table f d is =
      use_keeps f Idle (TableOf d) is
      (λ e. absurd (house_not_idle House refl (sym e)))
      (λ e z. absurd (table_not_idle Idle e refl z))
      (λ e p w h. absurd h)
      (λ c u e p w z. absurd (subst pageless z tt))

  -- a page at home is on its way, before it is lent
  pub home_to_leaving : (f c u d p : ℕ) (w : Bool) → v.what f ≡ Of c u Home → Sound t (with_uses (use_at f (Of c u (Leaving d p w)) v.what) v) mem live ups mids leaves flying
  unfolding loan_of reaches
  home_to_leaving f c u d p w is =
      use_keeps f (Of c u Home) (Of c u (Leaving d p w)) is
      (λ e. absurd (subst paged e tt))
      (λ e z. absurd (subst paged z tt))
      (λ e q x h. absurd h)
      (λ a b e q x z. absurd (subst lentless z tt))

  -- loans change to leaving, wherever that is
  pub loans_leave : (g : Loan → Loan) → ((l : Loan) → (g l ≡ l) ⊎ (g l ≡ leaving l)) → Sound t (with_uses (λ f. map_loan g (v.what f)) v) mem live ups mids leaves flying
  unfolding map_loan
  loans_leave g either =
      uses_keep (λ f. map_loan g (v.what f))
      (ap (map_loan g) s.house)
      (λ f d e. ap (map_loan g) e)
      (λ f d p w _ h. mapped_reached g either (v.what f) d p w h)
      (λ f c u d p w _ e. mapped_lent g either (v.what f) c u d p w e)

  pub leaving_all : (d : ℕ) → Sound t (with_uses (λ f. map_loan (leaving_from d) (v.what f)) v) mem live ups mids leaves flying
  leaving_all d = loans_leave (leaving_from d) (leaves_or_not d)

  pub leaving_where : (q : Loan → Bool) → Sound t (with_uses (λ f. map_loan (λ l. cond (q l) (leaving l) l) (v.what f)) v) mem live ups mids leaves flying
  leaving_where q = loans_leave (λ l. cond (q l) (leaving l) l) (λ l. cond_both (q l) (leaving l) l (λ x. (x ≡ l) ⊎ (x ≡ leaving l)) (λ _. inr refl) (λ _. inl refl))

  pub use_leaving : (f c u : ℕ) (l : Loan) → v.what f ≡ Of c u l → Sound t (with_uses (use_at f (Of c u (leaving l)) v.what) v) mem live ups mids leaves flying
  unfolding loan_of
  use_leaving f c u l is =
      use_keeps f (Of c u l) (Of c u (leaving l)) is
      (λ e. absurd (subst paged e tt))
      (λ e z. absurd (subst paged z tt))
      (λ d p w h. leaving_reached d p w l h)
      (λ a b d p w e. absurd (leaving_unlent l d p w (ap loan_of e)))

  -- pages of one owner are given up, all at home
  pub pages_gone : (o : ℕ) → ((g u : ℕ) (l : Loan) → g < v.frames → v.what g ≡ Of o u l → l ≡ Home) → Sound t (with_uses (λ g. not_of o (v.what g)) v) mem live ups mids leaves flying
  unfolding not_of
  pages_gone o home =
      uses_keep (λ g. not_of o (v.what g))
      (ap (not_of o) s.house)
      (λ g d e. ap (not_of o) e)
      (λ g d p w b h. gone_reached o (v.what g) (λ u l e. home g u l b e) d p w h)
      (λ g c u d p w _ e. gone_lent o (v.what g) c u d p w e)

  -- what is leaving is lent, once it is mapped
  pub settle_lent : (g c u d p : ℕ) (w : Bool) → v.what g ≡ Of c u (Leaving d p w) → Mapped t v mem live g d p w → Sound t (with_uses (use_at g (Of c u (Lent d p w)) v.what) v) mem live ups mids leaves flying
  unfolding loan_of reaches
  settle_lent g c u d p w is m =
      uses_change what2
      (off House 0 (λ e. subst paged (sym is ∙ ap v.what (sym e) ∙ s.house) tt) s.house)
      (λ f e h. off (TableOf e) f (λ z. subst paged (sym is ∙ ap v.what (sym z) ∙ h) tt) h)
      (λ e i j h b k x. still e (512 * i + j) (mem (t.low e i) j) x)
      (λ l h x. still l.dev l.page l.entry x)
      (λ l h x. still l.dev l.page l.entry x)
      (λ f a b e q x l. at_one (λ (y : Use). y ≡ Of a b (Lent e q x) → Mapped t v mem live f e q x) f g (Of c u (Lent d p w)) (v.what f)
      (λ z h. moved f e q x z (ap loan_of h))
      (λ _ h. s.lent f a b e q x l h))
    where
      what2 : ℕ → Use
      what2 = use_at g (Of c u (Lent d p w)) v.what

      off : (old : Use) (f : ℕ) → (f ≡ g → ⊥) → v.what f ≡ old → what2 f ≡ old
      off old f z h = there f g (Of c u (Lent d p w)) (v.what f) z ∙ h

      reach : (f e q : ℕ) (x : Bool) → T (reaches e q x (loan_of (v.what f))) → T (reaches e q x (loan_of (what2 f)))
      reach f e q x h = at_one (λ (y : Use). T (reaches e q x (loan_of y))) f g (Of c u (Lent d p w)) (v.what f) (λ z. subst (λ (y : Use). T (reaches e q x (loan_of y))) (ap v.what z ∙ is) h) (λ _. h)

      still : (e q y : ℕ) → Good v e q y → Good (with_uses what2 v) e q y
      still e q y k = good_to v.devices what2 v.dev v.slots (λ x. reach (frame_in y) e q x) k

      moved : (f e q : ℕ) (x : Bool) → f ≡ g → Lent d p w ≡ Lent e q x → Mapped t v mem live f e q x
      moved f e q x z h =
          let a : d ≡ e = cc in
          let b : p ≡ q = cc in
          let k : w ≡ x = cc in
          subst (λ (y : Bool). Mapped t v mem live f e q y) k (subst (λ (y : ℕ). Mapped t v mem live f e y w) b (subst (λ (y : ℕ). Mapped t v mem live f y p w) a (subst (λ (y : ℕ). Mapped t v mem live y d p w) (sym z) m)))

  -- what is leaving is home, once its entry is cleared and nothing of it is known
  pub come_home : (g c u d p : ℕ) (w : Bool) → v.what g ≡ Of c u (Leaving d p w) → mem (t.low d (p / 512)) (p % 512) ≡ 0 → T (no_leaf d leaves) → T (no_leaf d flying) →
      Sound t (with_uses (use_at g (Of c u Home) v.what) v) mem live ups mids leaves flying
  unfolding loan_of
  come_home g c u d p w is clear known fly =
      uses_change what2
      (off House 0 (λ e. subst paged (sym is ∙ ap v.what (sym e) ∙ s.house) tt) s.house)
      (λ f e h. off (TableOf e) f (λ z. subst paged (sym is ∙ ap v.what (sym z) ∙ h) tt) h)
      (λ e i j h b k x. still e (512 * i + j) (mem (t.low e i) j) (λ a z. gone e i j k x a z) x)
      (λ l h x. still l.dev l.page l.entry (λ a z. no_leaf_not d leaves known l h (sym a)) x)
      (λ l h x. still l.dev l.page l.entry (λ a z. no_leaf_not d flying fly l h (sym a)) x)
      (λ f a b e q x l. at_one (λ (y : Use). y ≡ Of a b (Lent e q x) → Mapped t v mem live f e q x) f g (Of c u Home) (v.what f)
      (λ z h. absurd (subst lentless h tt))
      (λ _ h. s.lent f a b e q x l h))
    where
      what2 : ℕ → Use
      what2 = use_at g (Of c u Home) v.what

      off : (old : Use) (f : ℕ) → (f ≡ g → ⊥) → v.what f ≡ old → what2 f ≡ old
      off old f z h = there f g (Of c u Home) (v.what f) z ∙ h

      reach : (f e q : ℕ) (x : Bool) → (e ≡ d → p ≡ q → ⊥) → T (reaches e q x (loan_of (v.what f))) → T (reaches e q x (loan_of (what2 f)))
      reach f e q x n h = at_one (λ (y : Use). T (reaches e q x (loan_of y))) f g (Of c u Home) (v.what f)
          (λ z. let r = reached_at e q x w d p (subst (λ (y : Use). T (reaches e q x (loan_of y))) (ap v.what z ∙ is) h) in absurd (n r.0 (sym r.1)))
          (λ _. h)

      still : (e q y : ℕ) → (e ≡ d → p ≡ q → ⊥) → Good v e q y → Good (with_uses what2 v) e q y
      still e q y n k = good_to v.devices what2 v.dev v.slots (λ x. reach (frame_in y) e q x n) k

      gone : (e i j : ℕ) → j < 512 → Good v e (512 * i + j) (mem (t.low e i) j) → e ≡ d → p ≡ 512 * i + j → ⊥
      gone e i j k x a z =
          let b : p / 512 ≡ i = omega arith in
          let n : p % 512 ≡ j = omega arith in
          let m : mem (t.low e i) j ≡ 0 = cc in
          omega (arith, x.some)
