-- Changes of tables that keep the relation: an entry is written, a lower table linked, a device opened, its word in frame 0 cleared.
-- Assumes nothing.
use Rattle.std.proofs.Common.{◌≡◌, ℕ, suc, ◌+◌, ◌*◌, ◌/◌, ◌%◌, ◌<◌, Bool, true, false, cond, not, ◌&&◌, ◌||◌, T, eqb, ◌⊎◌, List, sym, refl, ap, ◌∙◌, subst, inl, inr, ⊎_elim, arith, eqb→eq, T_not}
use lib.Dec.{not_T}
use Rattle.std.proofs.lemmas.Bool.{cases_eq, eq-eqb, ne_eqb, cond_both, cases_Bool, eqb-true, and_parts, and_from, true≢false, cond-false}
use Rattle.house.specs.Machine.{Up, Mid, Leaf, put, frame_in}
use Rattle.house.specs.Meaning.{Lent, Use, TableOf, Idle, Of, Dev, Opened, loan_of, reaches, is_shut, use_at}
use Rattle.house.specs.Sound.{Tables, View, Held, Good, Sound}
use Rattle.house.proofs.Facts.{with_uses, with_devs, with_slots, put_here, put_elsewhere, put_beside, put_either, table_not_house, table_not_idle, same_table}
use Rattle.house.proofs.Shelf.{both, either, is_false, at_one, here, there}
use Rattle.house.proofs.Uses.{good_to, mem_change, idle_to_table}

-- tables with one more lower one, with another upper one
abbrev pub with_low : ℕ → ℕ → ℕ → Tables → Tables
with_low d i f t = record { top = t.top; low = λ e j. cond (eqb e d && eqb j i) f (t.low e j) }

abbrev pub with_top : ℕ → ℕ → Tables → Tables
with_top d f t = record { top = λ e. cond (eqb e d) f (t.top e); low = t.low }

also : (a b : Bool) → T a → T (a || b)
also true b h = tt
also false b h = absurd h

linked_new : (a b : Bool) (f l : ℕ) → b ≡ true → cond (a || b) (suc (cond b f l)) 0 ≡ suc f
linked_new true b f l e = rw e refl
linked_new false b f l e = rw e refl

linked_old : (a b : Bool) (f l : ℕ) → b ≡ false → cond (a || b) (suc (cond b f l)) 0 ≡ cond a (suc l) 0
linked_old true b f l e = rw e refl
linked_old false b f l e = rw e refl

module _ {t : Tables} {v : View} {mem : ℕ → ℕ → ℕ} {live : Bool} {ups : List Up} {mids : List Mid} {leaves flying : List Leaf} (s : Sound t v mem live ups mids leaves flying) where
  -- tables are no other device's, nor frame 0
  pub low_not_root : (d i : ℕ) → T (v.slots d i) → t.low d i ≡ 0 → ⊥
  low_not_root d i h e = table_not_house (v.what 0) d s.house (ap v.what (sym e) ∙ (s.low d i h).1)

  pub top_not_root : (d : ℕ) → Held v d → t.top d ≡ 0 → ⊥
  top_not_root d h e = table_not_house (v.what 0) d s.house (ap v.what (sym e) ∙ (s.top d h).1)

  pub low_owner : (d i e j : ℕ) → T (v.slots d i) → T (v.slots e j) → t.low d i ≡ t.low e j → d ≡ e
  low_owner d i e j h k z = same_table (v.what (t.low d i)) d e (s.low d i h).1 (ap v.what z ∙ (s.low e j k).1)

  pub low_not_top : (d i e : ℕ) → T (v.slots d i) → Held v e → t.low d i ≡ t.top e → ⊥
  low_not_top d i e h k z =
      let o : d ≡ e = same_table (v.what (t.low d i)) d e (s.low d i h).1 (ap v.what z ∙ (s.top e k).1) in
      s.apart d i h (z ∙ ap t.top (sym o))

  pub top_owner : (d e : ℕ) → Held v d → Held v e → t.top d ≡ t.top e → d ≡ e
  top_owner d e h k z = same_table (v.what (t.top d)) d e (s.top d h).1 (ap v.what z ∙ (s.top e k).1)

  -- an entry is written where nothing is lent
  pub put_entry : (d i j e : ℕ) → T (v.slots d i) → (e ≡ 0) ⊎ Good v d (512 * i + j) e →
      ((f c u : ℕ) (w : Bool) → f < v.frames → v.what f ≡ Of c u (Lent d (512 * i + j) w) → ⊥) →
      Sound t v (put (t.low d i) j e mem) live ups mids leaves flying
  put_entry d i j e there good unused =
      mem_change s (put (t.low d i) j e mem)
      (λ l a b. inr (root a))
      (λ a k h b. put_elsewhere (t.low d i) j e mem (t.top a) k (λ z. low_not_top d i a there h (sym z)))
      (λ a k n h b c. put_either (t.low d i) j e mem (t.low a k) n (λ x. (x ≡ 0) ⊎ Good v a (512 * k + n) x) (λ y z. fresh a k n (place a k h y) z) (s.entries a k n h b c))
      (λ f c u a p w b h. (
        root a,
        put_either (t.low d i) j e mem (t.low a (p / 512)) (p % 512) (λ x. x ≡ mem (t.low a (p / 512)) (p % 512)) (λ y z. absurd (clash f c u a p w b h (place a (p / 512) (s.lent f c u a p w b h).there y) z)) refl,
      ))
    where
      root : (a : ℕ) → put (t.low d i) j e mem 0 a ≡ mem 0 a
      root a = put_elsewhere (t.low d i) j e mem 0 a (λ z. low_not_root d i there (sym z))

      place : (a k : ℕ) → T (v.slots a k) → t.low a k ≡ t.low d i → (a ≡ d) × (k ≡ i)
      place a k h z =
          let o : a ≡ d = low_owner a k d i h there z in
          (o, s.distinct d k i (subst (λ (x : ℕ). T (v.slots x k)) o h) there (ap (λ (x : ℕ). t.low x k) (sym o) ∙ z))

      fresh : (a k n : ℕ) → (a ≡ d) × (k ≡ i) → n ≡ j → (e ≡ 0) ⊎ Good v a (512 * k + n) e
      fresh a k n o z =
          let q : 512 * i + j ≡ 512 * k + n = omega (arith, o.1) in
          subst (λ (x : ℕ). (e ≡ 0) ⊎ Good v x (512 * k + n) e) (sym o.0) (subst (λ (x : ℕ). (e ≡ 0) ⊎ Good v d x e) q good)

      clash : (f c u a p : ℕ) (w : Bool) → f < v.frames → v.what f ≡ Of c u (Lent a p w) → (a ≡ d) × (p / 512 ≡ i) → p % 512 ≡ j → ⊥
      clash f c u a p w b h o z =
          let q : p ≡ 512 * i + j = omega (arith, o.1) in
          unused f c u w b (h ∙ ap (λ (x : ℕ). Of c u (Lent a x w)) q ∙ ap (λ (x : ℕ). Of c u (Lent x (512 * i + j) w)) o.0)

  -- a device's word in frame 0 is cleared while nothing is lent to it
  pub unlink : (d : ℕ) → ((f c u p : ℕ) (w : Bool) → f < v.frames → v.what f ≡ Of c u (Lent d p w) → ⊥) → Sound t v (put 0 d 0 mem) live ups mids leaves flying
  unlink d unused =
      mem_change s (put 0 d 0 mem)
      (λ l a b. put_either 0 d 0 mem 0 a (λ x. (x ≡ 0) ⊎ (x ≡ mem 0 a)) (λ _ _. inl refl) (inr refl))
      (λ a i h b. put_elsewhere 0 d 0 mem (t.top a) i (top_not_root a h))
      (λ a i j h b c. subst (λ (x : ℕ). (x ≡ 0) ⊎ Good v a (512 * i + j) x) (sym (put_elsewhere 0 d 0 mem (t.low a i) j (low_not_root a i h))) (s.entries a i j h b c))
      (λ f c u a p w b h. (
        put_beside 0 d 0 mem 0 a (λ z. unused f c u p w b (h ∙ ap (λ (x : ℕ). Of c u (Lent x p w)) z)),
        put_elsewhere 0 d 0 mem (t.low a (p / 512)) (p % 512) (low_not_root a (p / 512) (s.lent f c u a p w b h).there),
      ))

  -- the relation depends on tables that are there only
  pub tables_agree : (t2 : Tables) → ((d : ℕ) → Held v d → t2.top d ≡ t.top d) → ((d i : ℕ) → T (v.slots d i) → t2.low d i ≡ t.low d i) → Sound t2 v mem live ups mids leaves flying
  tables_agree t2 tops lows =
      record {
        house = s.house;
        root = λ l d b. ⊎_elim (λ e. inl e) (λ r. inr (r.0 ∙ ap suc (sym (tops d (b, r.1))), r.1)) (s.root l d b);
        top = λ d h. subst (λ (x : ℕ). (x < v.frames) × (v.what x ≡ TableOf d)) (sym (tops d h)) (s.top d h);
        slot = λ d i h b. ap (λ (x : ℕ). mem x i) (tops d h) ∙ s.slot d i h b ∙ cond_both (v.slots d i) (suc (t.low d i)) 0 (λ x. x ≡ cond (v.slots d i) (suc (t2.low d i)) 0) (λ e. rw e (ap suc (sym (lows d i (rw e tt))))) (λ e. rw e refl);
        held = s.held;
        low = λ d i h. subst (λ (x : ℕ). (x < v.frames) × (v.what x ≡ TableOf d)) (sym (lows d i h)) (s.low d i h);
        apart = λ d i h e. s.apart d i h (sym (lows d i h) ∙ e ∙ tops d (s.held d i h));
        distinct = λ d i j h k e. s.distinct d i j h k (sym (lows d i h) ∙ e ∙ lows d j k);
        entries = λ d i j h b c. subst (λ (x : ℕ). (mem x j ≡ 0) ⊎ Good v d (512 * i + j) (mem x j)) (sym (lows d i h)) (s.entries d i j h b c);
        ups_good = λ u m. let r = s.ups_good u m in (r.0, r.1 ∙ sym (tops u.dev r.0));
        mids_good = λ n m. let r = s.mids_good n m in (r.0, r.1, r.2 ∙ sym (lows n.dev n.slot r.1));
        leaves_good = s.leaves_good;
        flying_good = s.flying_good;
        lent = λ f c u d p w b e.
            let m = s.lent f c u d p w b e in
            record { started = m.started; held = m.held; page = m.page; there = m.there; root = m.root ∙ ap suc (sym (tops d m.held)); entry = ap (λ (x : ℕ). mem x (p % 512)) (lows d (p / 512) m.there) ∙ m.entry };
      }

  -- a lower table at a slot of a device; its frame is that device's already
  link_made : (f d i : ℕ) → f < v.frames → v.what f ≡ TableOf d → ((e : ℕ) → Held v e → t.top e ≡ f → ⊥) → ((e j : ℕ) → T (v.slots e j) → t.low e j ≡ f → ⊥) →
      Held v d → T (not (v.slots d i)) → ((k : ℕ) → k < 512 → (mem f k ≡ 0) ⊎ Good v d (512 * i + k) (mem f k)) →
      Sound (with_low d i f t) (with_slots (λ e j. v.slots e j || (eqb e d && eqb j i)) v) (put (t.top d) i (suc f) mem) live ups mids leaves flying
  link_made f d i bound is off_top off_low opened free words =
      record {
        house = s.house;
        root = λ l a b. subst (λ (x : ℕ). (x ≡ 0) ⊎ ((x ≡ suc (t.top a)) × T (not (is_shut (v.dev a))))) (sym (root a)) (s.root l a b);
        top = s.top;
        slot = slot;
        held = λ a k h. ⊎_elim (λ o. s.held a k o) (λ n. subst (Held v) (sym n.0) opened) (split a k h);
        low = λ a k h.
            ⊎_elim
            (λ o. subst (λ (x : ℕ). (x < v.frames) × (v.what x ≡ TableOf a)) (sym (old a k o)) (s.low a k o))
            (λ n. subst (λ (x : ℕ). (x < v.frames) × (v.what x ≡ TableOf a)) (sym (new a k n)) (bound, is ∙ ap TableOf (sym n.0)))
            (split a k h);
        apart = λ a k h z.
            ⊎_elim (λ o. s.apart a k o (sym (old a k o) ∙ z)) (λ n. off_top d opened (ap t.top (sym n.0) ∙ sym z ∙ new a k n)) (split a k h);
        distinct = λ a k n h g z.
            ⊎_elim
            (λ o. ⊎_elim (λ q. s.distinct a k n o q (sym (old a k o) ∙ z ∙ old a n q)) (λ q. absurd (off_low a k o (sym (old a k o) ∙ z ∙ new a n q))) (split a n g))
            (λ o. ⊎_elim (λ q. absurd (off_low a n q (sym (old a n q) ∙ sym z ∙ new a k o))) (λ q. o.1 ∙ sym q.1) (split a n g))
            (split a k h);
        entries = λ a k n h b c.
            ⊎_elim
            (λ o. subst (λ (x : ℕ). (x ≡ 0) ⊎ Good v2 a (512 * k + n) x) (sym (ap (λ (x : ℕ). mem2 x n) (old a k o) ∙ low a k n o)) (⊎_elim (λ z. inl z) (λ g. inr (again a (512 * k + n) (mem (t.low a k) n) g)) (s.entries a k n o b c)))
            (λ o. subst (λ (x : ℕ). (x ≡ 0) ⊎ Good v2 a (512 * k + n) x) (sym (ap (λ (x : ℕ). mem2 x n) (new a k o) ∙ own n)) (⊎_elim (λ z. inl z) (λ g. inr (again a (512 * k + n) (mem f n) g)) (word a k n c o)))
            (split a k h);
        ups_good = s.ups_good;
        mids_good = λ m h. let r = s.mids_good m h in (r.0, also (v.slots m.dev m.slot) (eqb m.dev d && eqb m.slot i) r.1, r.2 ∙ sym (old m.dev m.slot r.1));
        leaves_good = λ l h. again l.dev l.page l.entry (s.leaves_good l h);
        flying_good = λ l h. again l.dev l.page l.entry (s.flying_good l h);
        lent = λ g c u a p w b e.
            let m = s.lent g c u a p w b e in
            record {
              started = m.started;
              held = m.held;
              page = m.page;
              there = also (v.slots a (p / 512)) (eqb a d && eqb (p / 512) i) m.there;
              root = root a ∙ m.root;
              entry = ap (λ (x : ℕ). mem2 x (p % 512)) (old a (p / 512) m.there) ∙ low a (p / 512) (p % 512) m.there ∙ m.entry;
            };
      }
    where
      mem2 : ℕ → ℕ → ℕ
      mem2 = put (t.top d) i (suc f) mem

      v2 : View
      v2 = with_slots (λ e j. v.slots e j || (eqb e d && eqb j i)) v

      again : (a p e : ℕ) → Good v a p e → Good v2 a p e
      again a p e g = good_to v.devices v.what v.dev (λ e j. v.slots e j || (eqb e d && eqb j i)) (λ w h. h) g

      split : (a k : ℕ) → T (v.slots a k || (eqb a d && eqb k i)) → T (v.slots a k) ⊎ ((a ≡ d) × (k ≡ i))
      split a k h = ⊎_elim (λ o. inl o) (λ n. let b = both (eqb a d) (eqb k i) n in inr (eqb→eq a d b.0, eqb→eq k i b.1)) (either (v.slots a k) (eqb a d && eqb k i) h)

      other : (a k : ℕ) → T (v.slots a k) → (eqb a d && eqb k i) ≡ false
      other a k h = is_false (eqb a d && eqb k i) (not_T (eqb a d && eqb k i) (λ n.
          let b = both (eqb a d) (eqb k i) n in
          T_not (v.slots d i) free (subst (λ (x : ℕ). T (v.slots d x)) (eqb→eq k i b.1) (subst (λ (x : ℕ). T (v.slots x k)) (eqb→eq a d b.0) h))))

      old : (a k : ℕ) → T (v.slots a k) → cond (eqb a d && eqb k i) f (t.low a k) ≡ t.low a k
      old a k h = rw (other a k h)

      new : (a k : ℕ) → (a ≡ d) × (k ≡ i) → cond (eqb a d && eqb k i) f (t.low a k) ≡ f
      new a k n = rw (eq-eqb a d n.0, eq-eqb k i n.1)

      root : (a : ℕ) → mem2 0 a ≡ mem 0 a
      root a = put_elsewhere (t.top d) i (suc f) mem 0 a (λ z. top_not_root d opened (sym z))

      low : (a k n : ℕ) → T (v.slots a k) → mem2 (t.low a k) n ≡ mem (t.low a k) n
      low a k n h = put_elsewhere (t.top d) i (suc f) mem (t.low a k) n (low_not_top a k d h opened)

      own : (n : ℕ) → mem2 f n ≡ mem f n
      own n = put_elsewhere (t.top d) i (suc f) mem f n (λ z. off_top d opened (sym z))

      word : (a k n : ℕ) → n < 512 → (a ≡ d) × (k ≡ i) → (mem f n ≡ 0) ⊎ Good v a (512 * k + n) (mem f n)
      word a k n b o = subst (λ (x : ℕ). (mem f n ≡ 0) ⊎ Good v x (512 * k + n) (mem f n)) (sym o.0) (subst (λ (x : ℕ). (mem f n ≡ 0) ⊎ Good v d (512 * x + n) (mem f n)) (sym o.1) (words n b))

      slot : (a k : ℕ) → Held v a → k < 512 → mem2 (t.top a) k ≡ cond (v.slots a k || (eqb a d && eqb k i)) (suc (cond (eqb a d && eqb k i) f (t.low a k))) 0
      slot a k h b =
          ⊎_elim
          (λ (e : (eqb a d && eqb k i) ≡ true).
          let n = and_parts (eqb a d) (eqb k i) e in
          ap (λ (x : ℕ). mem2 (t.top x) k) (eqb-true a d n.0) ∙ ap (λ (x : ℕ). mem2 (t.top d) x) (eqb-true k i n.1) ∙ put_here (t.top d) i (suc f) mem ∙
          sym (linked_new (v.slots a k) (eqb a d && eqb k i) f (t.low a k) e))
          (λ (e : (eqb a d && eqb k i) ≡ false).
          put_either (t.top d) i (suc f) mem (t.top a) k (λ x. x ≡ mem (t.top a) k) (λ y z. absurd (true≢false (sym (and_from (eqb a d) (eqb k i) (eq-eqb a d (top_owner a d h opened y)) (eq-eqb k i z)) ∙ e))) refl ∙
          s.slot a k h b ∙ sym (linked_old (v.slots a k) (eqb a d && eqb k i) f (t.low a k) e))
          (cases_Bool (eqb a d && eqb k i))

  -- an upper table for a device that was shut; its frame is that device's already
  open_made : (f d c : ℕ) → f < v.frames → v.what f ≡ TableOf d → ((k : ℕ) → k < 512 → mem f k ≡ 0) → d < v.devices → T (is_shut (v.dev d)) →
      Sound (with_top d f t) (with_devs (λ e. cond (eqb e d) (Opened c) (v.dev e)) v) (put 0 d (suc f) mem) live ups mids leaves flying
  unfolding is_shut
  open_made f d c bound is zeros known shut =
      record {
        house = s.house;
        root = λ l a b.
            ⊎_elim (λ (z : a ≡ d). rw (eq-eqb a d z) (inr (refl, tt))) (λ (z : a ≡ d → ⊥). rw (ne_eqb a d z) (s.root l a b)) (cases_eq a d);
        top = λ a h.
            ⊎_elim (λ (z : a ≡ d). rw (eq-eqb a d z) (bound, is ∙ ap TableOf (sym z))) (λ (z : a ≡ d → ⊥). rw (ne_eqb a d z) (s.top a (before a z h))) (cases_eq a d);
        slot = λ a i h b.
            ⊎_elim
            (λ (z : a ≡ d). ap (λ (x : ℕ). mem2 x i) (top_new a z) ∙ put_elsewhere 0 d (suc f) mem f i (λ y. table_not_house (v.what f) d (ap v.what y ∙ s.house) is) ∙ zeros i b ∙ sym (cond-false (v.slots a i) (suc (t.low a i)) 0 (bare a i z)))
            (λ (z : a ≡ d → ⊥). ap (λ (x : ℕ). mem2 x i) (top_old a z) ∙ put_elsewhere 0 d (suc f) mem (t.top a) i (top_not_root a (before a z h)) ∙ s.slot a i (before a z h) b)
            (cases_eq a d);
        held = λ a i h. after a (s.held a i h);
        low = s.low;
        apart = λ a i h z. s.apart a i h (z ∙ top_old a (other a (s.held a i h)));
        distinct = s.distinct;
        entries = λ a i j h b k.
            subst (λ (x : ℕ). (x ≡ 0) ⊎ Good v2 a (512 * i + j) x) (sym (low a i j h)) (⊎_elim (λ z. inl z) (λ g. inr (again a (512 * i + j) (mem (t.low a i) j) g)) (s.entries a i j h b k));
        ups_good = λ u m. let r = s.ups_good u m in (after u.dev r.0, r.1 ∙ sym (top_old u.dev (other u.dev r.0)));
        mids_good = s.mids_good;
        leaves_good = λ l h. again l.dev l.page l.entry (s.leaves_good l h);
        flying_good = λ l h. again l.dev l.page l.entry (s.flying_good l h);
        lent = λ g o u a p w b e.
            let m = s.lent g o u a p w b e in
            let n = other a m.held in
            record {
              started = m.started;
              held = after a m.held;
              page = m.page;
              there = m.there;
              root = put_beside 0 d (suc f) mem 0 a n ∙ m.root ∙ ap suc (sym (top_old a n));
              entry = low a (p / 512) (p % 512) m.there ∙ m.entry;
            };
      }
    where
      mem2 : ℕ → ℕ → ℕ
      mem2 = put 0 d (suc f) mem

      v2 : View
      v2 = with_devs (λ e. cond (eqb e d) (Opened c) (v.dev e)) v

      again : (a p e : ℕ) → Good v a p e → Good v2 a p e
      again a p e g = good_to v.devices v.what (λ e. cond (eqb e d) (Opened c) (v.dev e)) v.slots (λ w h. h) g

      other : (a : ℕ) → Held v a → a ≡ d → ⊥
      other a h z = T_not (is_shut (v.dev d)) (subst (λ (x : ℕ). T (not (is_shut (v.dev x)))) z h.1) shut

      before : (a : ℕ) → (a ≡ d → ⊥) → Held v2 a → Held v a
      before a z h = (h.0, subst (λ (x : Dev). T (not (is_shut x))) (there a d (Opened c) (v.dev a) z) h.1)

      after : (a : ℕ) → Held v a → Held v2 a
      after a h = (h.0, at_one (λ (x : Dev). T (not (is_shut x))) a d (Opened c) (v.dev a) (λ _. tt) (λ _. h.1))

      top_new : (a : ℕ) → a ≡ d → cond (eqb a d) f (t.top a) ≡ f
      top_new a z = rw (eq-eqb a d z)

      top_old : (a : ℕ) → (a ≡ d → ⊥) → cond (eqb a d) f (t.top a) ≡ t.top a
      top_old a z = there a d f (t.top a) z

      bare : (a i : ℕ) → a ≡ d → v.slots a i ≡ false
      bare a i z = is_false (v.slots a i) (not_T (v.slots a i) (λ h. other a (s.held a i h) z))

      low : (a i j : ℕ) → T (v.slots a i) → mem2 (t.low a i) j ≡ mem (t.low a i) j
      low a i j h = put_elsewhere 0 d (suc f) mem (t.low a i) j (low_not_root a i h)

-- an idle frame is linked as the lower table of a slot that was not there
pub link : {t : Tables} {v : View} {mem : ℕ → ℕ → ℕ} {live : Bool} {ups : List Up} {mids : List Mid} {leaves flying : List Leaf} → Sound t v mem live ups mids leaves flying →
    (f d i : ℕ) → f < v.frames → v.what f ≡ Idle → Held v d → T (not (v.slots d i)) → ((k : ℕ) → k < 512 → (mem f k ≡ 0) ⊎ Good v d (512 * i + k) (mem f k)) →
    Sound (with_low d i f t) (with_slots (λ e j. v.slots e j || (eqb e d && eqb j i)) (with_uses (use_at f (TableOf d) v.what) v)) (put (t.top d) i (suc f) mem) live ups mids leaves flying
unfolding loan_of reaches
link {t} {v} {mem} s f d i bound is opened free words =
    link_made (idle_to_table s f d is) f d i bound
    (here f (TableOf d) (v.what f))
    (λ e h z. table_not_idle (v.what f) e is (ap v.what (sym z) ∙ (s.top e h).1))
    (λ e j h z. table_not_idle (v.what f) e is (ap v.what (sym z) ∙ (s.low e j h).1))
    opened free
    (λ k b. ⊎_elim (λ z. inl z) (λ g. inr (good_to v.devices (use_at f (TableOf d) v.what) v.dev v.slots (λ w h. at_one (λ (x : Use). T (reaches d (512 * i + k) w (loan_of x))) (frame_in (mem f k)) f (TableOf d) (v.what (frame_in (mem f k))) (λ z. subst (λ (x : Use). T (reaches d (512 * i + k) w (loan_of x))) (ap v.what z ∙ is) h) (λ _. h)) g)) (words k b))

-- an idle frame of noughts is linked as the upper table of a device that is opened
pub open_device : {t : Tables} {v : View} {mem : ℕ → ℕ → ℕ} {live : Bool} {ups : List Up} {mids : List Mid} {leaves flying : List Leaf} → Sound t v mem live ups mids leaves flying →
    (f d c : ℕ) → f < v.frames → v.what f ≡ Idle → ((k : ℕ) → k < 512 → mem f k ≡ 0) → d < v.devices → T (is_shut (v.dev d)) →
    Sound (with_top d f t) (with_devs (λ e. cond (eqb e d) (Opened c) (v.dev e)) (with_uses (use_at f (TableOf d) v.what) v)) (put 0 d (suc f) mem) live ups mids leaves flying
open_device {v = v} s f d c bound is zeros known shut = open_made (idle_to_table s f d is) f d c bound (here f (TableOf d) (v.what f)) zeros known shut
