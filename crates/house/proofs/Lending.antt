-- A page at home is lent by one word of memory: its entry, or the link of a new lower table that has it already. Assumes nothing.
use Rattle.std.proofs.Common.{◌≡◌, ℕ, suc, ◌+◌, ◌*◌, ◌/◌, ◌%◌, ◌<◌, Bool, true, false, not, ◌&&◌, ◌||◌, T, eqb, ◌⊎◌, List, sym, refl, ap, ◌∙◌, subst, inl, inr, ⊎_elim, arith}
use Rattle.std.proofs.lemmas.Bool.{cases_eq, eq-eqb, ne_eqb}
use Rattle.house.specs.Machine.{Up, Mid, Leaf, put}
use Rattle.house.specs.Meaning.{Home, Lent, Leaving, Use, TableOf, Idle, Of, use_at}
use Rattle.house.specs.Sound.{Tables, View, Held, Good, Sound, entry_of}
use Rattle.house.proofs.Facts.{with_uses, with_slots, put_here, put_elsewhere, page_back}
use Rattle.house.proofs.Shelf.{at_one, here, there}
use Rattle.house.proofs.Uses.{good_leaving, home_to_leaving, settle_lent, uses_same, paged, lentless}
use Rattle.house.proofs.Tables.{with_low, link, put_entry, low_not_root, top_not_root}

-- the last change at a frame counts
again : (g : ℕ) (x y : Use) (what : ℕ → Use) (j : ℕ) → use_at g x (use_at g y what) j ≡ use_at g x what j
again g x y what j = ⊎_elim (λ (z : j ≡ g). rw (eq-eqb j g z)) (λ (n : j ≡ g → ⊥). rw (ne_eqb j g n)) (cases_eq j g)

across : (f g : ℕ) (x y z : Use) (what : ℕ → Use) → (f ≡ g → ⊥) → (j : ℕ) → use_at g x (use_at f z (use_at g y what)) j ≡ use_at f z (use_at g x what) j
across f g x y z what n j =
    ⊎_elim
    (λ (e : j ≡ g). rw (eq-eqb j g e, ne_eqb j f (λ q. n (sym q ∙ e))))
    (λ (e : j ≡ g → ⊥). rw (ne_eqb j g e))
    (cases_eq j g)

or_right_true : (a : Bool) → T (a || true)
or_right_true true = tt
or_right_true false = tt

module _ {t : Tables} {v : View} {mem : ℕ → ℕ → ℕ} {live : Bool} {ups : List Up} {mids : List Mid} {leaves flying : List Leaf} (s : Sound t v mem live ups mids leaves flying)
    (g c u d p : ℕ) (w : Bool) (bound : g < v.frames) (home : v.what g ≡ Of c u Home) (run : T live) (held : Held v d) (page : p < 262144) (root : mem 0 d ≡ suc (t.top d)) where
  unused_there : ((f a b : ℕ) (x : Bool) → f < v.frames → v.what f ≡ Of a b (Lent d p x) → ⊥) → (f a b : ℕ) (x : Bool) → f < v.frames → use_at g (Of c u (Leaving d p w)) v.what f ≡ Of a b (Lent d (512 * (p / 512) + p % 512) x) → ⊥
  unused_there unused f a b x l = at_one (λ (y : Use). y ≡ Of a b (Lent d (512 * (p / 512) + p % 512) x) → ⊥) f g (Of c u (Leaving d p w)) (v.what f) (λ _ e. subst lentless e tt) (λ _ e. unused f a b x l (e ∙ ap (λ (q : ℕ). Of a b (Lent d q x)) (page_back p)))

  fresh : Good (with_uses (use_at g (Of c u (Leaving d p w)) v.what) v) d (512 * (p / 512) + p % 512) (entry_of g w)
  fresh = subst (λ (q : ℕ). Good (with_uses (use_at g (Of c u (Leaving d p w)) v.what) v) d q (entry_of g w)) (sym (page_back p))
      (good_leaving (with_uses (use_at g (Of c u (Leaving d p w)) v.what) v) g c u d p w bound (here g (Of c u (Leaving d p w)) (v.what g)))

  -- its entry is written in a lower table that is there
  pub lend_entry : T (v.slots d (p / 512)) → ((f a b : ℕ) (x : Bool) → f < v.frames → v.what f ≡ Of a b (Lent d p x) → ⊥) →
      Sound t (with_uses (use_at g (Of c u (Lent d p w)) v.what) v) (put (t.low d (p / 512)) (p % 512) (entry_of g w) mem) live ups mids leaves flying
  lend_entry there unused =
      let s1 = home_to_leaving s g c u d p w home in
      let s2 = put_entry s1 d (p / 512) (p % 512) (entry_of g w) there (inr fresh) (unused_there unused) in
      let s3 = settle_lent s2 g c u d p w (here g (Of c u (Leaving d p w)) (v.what g)) (record {
        started = run;
        held = held;
        page = page;
        there = there;
        root = put_elsewhere (t.low d (p / 512)) (p % 512) (entry_of g w) mem 0 d (λ z. low_not_root s d (p / 512) there (sym z)) ∙ root;
        entry = put_here (t.low d (p / 512)) (p % 512) (entry_of g w) mem;
      }) in
      uses_same s3 (use_at g (Of c u (Lent d p w)) v.what) (again g (Of c u (Lent d p w)) (Of c u (Leaving d p w)) v.what)

  -- a lower table with its entry alone is linked
  pub lend_linked : (f : ℕ) → f < v.frames → v.what f ≡ Idle → T (not (v.slots d (p / 512))) → mem f (p % 512) ≡ entry_of g w → ((k : ℕ) → k < 512 → (k ≡ p % 512 → ⊥) → mem f k ≡ 0) →
      Sound (with_low d (p / 512) f t) (with_slots (λ e j. v.slots e j || (eqb e d && eqb j (p / 512))) (with_uses (use_at f (TableOf d) (use_at g (Of c u (Lent d p w)) v.what)) v)) (put (t.top d) (p / 512) (suc f) mem) live ups mids leaves flying
  lend_linked f small idle free entry zeros =
      let s1 = home_to_leaving s g c u d p w home in
      let s2 = link s1 f d (p / 512) small (there f g (Of c u (Leaving d p w)) (v.what f) other ∙ idle) held free words in
      let s3 = settle_lent s2 g c u d p w (there g f (TableOf d) (use_at g (Of c u (Leaving d p w)) v.what g) (λ z. other (sym z)) ∙ here g (Of c u (Leaving d p w)) (v.what g)) (record {
        started = run;
        held = held;
        page = page;
        there = rw (eq-eqb d d refl, eq-eqb (p / 512) (p / 512) refl) (or_right_true (v.slots d (p / 512)));
        root = put_elsewhere (t.top d) (p / 512) (suc f) mem 0 d (λ z. top_not_root s d held (sym z)) ∙ root;
        entry = rw (eq-eqb d d refl, eq-eqb (p / 512) (p / 512) refl) (put_elsewhere (t.top d) (p / 512) (suc f) mem f (p % 512) apart ∙ entry);
      }) in
      uses_same s3 (use_at f (TableOf d) (use_at g (Of c u (Lent d p w)) v.what)) (across f g (Of c u (Lent d p w)) (Of c u (Leaving d p w)) (TableOf d) v.what other)
    where
      other : f ≡ g → ⊥
      other z = subst paged (sym home ∙ ap v.what (sym z) ∙ idle) tt

      apart : f ≡ t.top d → ⊥
      apart z = let k : ◌≡◌ {A = ℕ} 0 1 = cc (idle, (s.top d held).1) in omega arith

      words : (k : ℕ) → k < 512 → (mem f k ≡ 0) ⊎ Good (with_uses (use_at g (Of c u (Leaving d p w)) v.what) v) d (512 * (p / 512) + k) (mem f k)
      words k b =
          ⊎_elim
          (λ (z : k ≡ p % 512). inr (subst (λ (x : ℕ). Good (with_uses (use_at g (Of c u (Leaving d p w)) v.what) v) d (512 * (p / 512) + x) (mem f x)) (sym z) (subst (λ (x : ℕ). Good (with_uses (use_at g (Of c u (Leaving d p w)) v.what) v) d (512 * (p / 512) + p % 512) x) (sym entry) fresh)))
          (λ (n : k ≡ p % 512 → ⊥). inl (zeros k b n))
          (cases_eq k (p % 512))
