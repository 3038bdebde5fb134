-- Devices that are shut, or to be shut, under the relation. Assumes nothing.
use Rattle.std.proofs.Common.{◌≡◌, ℕ, suc, ◌+◌, ◌*◌, ◌/◌, Bool, true, false, cond, not, ◌&&◌, T, eqb, List, sym, refl, ap, ◌∙◌, subst, inl, inr, ⊎_elim, eqb→eq}
use lib.Dec.{not_T}
use Rattle.std.proofs.lemmas.Bool.{cases_eq, ne_eqb, cond_both}
use Rattle.house.specs.Machine.{Up, Mid, Leaf, frame_in, no_up, no_mid, no_leaf}
use Rattle.house.specs.declared.Call.TheVariants.{Close, End, Recall}
use Rattle.house.specs.Meaning.{Loan, Home, Lent, Leaving, Use, House, TableOf, Idle, Of, Dev, Shut, Opened, Closing, State, loan_of, reaches, is_shut, map_loan, home_from, no_table, closing, shut, shutting, loosens, any, owner_is, device_of, frame_of, loan}
use Rattle.house.specs.Sound.{Tables, View, Held, Good, Sound, view_of}
use Rattle.house.proofs.Facts.{with_devs, reached_at}
use Rattle.house.proofs.Known.{no_up_not, no_mid_not, no_leaf_not}
use Rattle.house.proofs.Shelf.{both, pair, differ, at_one, there}
use Rattle.house.proofs.Uses.{good_to, leaving_all, leaving_where, pageless, lent, use_leaving}

-- what a shut device leaves: whoever else reached a frame still does, tables of others stay, nothing is lent to it
others : (d : ℕ) (l : Loan) (a p : ℕ) (w : Bool) → (a ≡ d → ⊥) → T (reaches a p w l) → T (reaches a p w (home_from d l))
unfolding reaches home_from
others d Home a p w n h = h
others d (Lent e q x) a p w n h = at_one (λ (y : Loan). T (reaches a p w y)) d e Home (Lent e q x) (λ z. absurd (n ((reached_at a p w x e q h).0 ∙ sym z))) (λ _. h)
others d (Leaving e q x) a p w n h = at_one (λ (y : Loan). T (reaches a p w y)) d e Home (Leaving e q x) (λ z. absurd (n ((reached_at a p w x e q h).0 ∙ sym z))) (λ _. h)

pub shut_reached : (d : ℕ) (u : Use) (a p : ℕ) (w : Bool) → (a ≡ d → ⊥) → T (reaches a p w (loan_of u)) → T (reaches a p w (loan_of (no_table d (map_loan (home_from d) u))))
unfolding loan_of no_table map_loan reaches
shut_reached d House a p w n h = h
shut_reached d (TableOf e) a p w n h = absurd h
shut_reached d Idle a p w n h = h
shut_reached d (Of c u l) a p w n h = others d l a p w n h

pub shut_table : (d a : ℕ) (u : Use) → (a ≡ d → ⊥) → u ≡ TableOf a → no_table d (map_loan (home_from d) u) ≡ TableOf a
unfolding no_table map_loan
shut_table d a u n e = rw e (there d a Idle (TableOf a) (λ z. n (sym z)))

still_lent : (d : ℕ) (l : Loan) (a p : ℕ) (w : Bool) → home_from d l ≡ Lent a p w → (l ≡ Lent a p w) × (a ≡ d → ⊥)
unfolding home_from
still_lent d Home a p w = λ h. absurd (subst lent (sym h) tt)
still_lent d (Lent e q x) a p w =
    at_one (λ (y : Loan). y ≡ Lent a p w → (Lent e q x ≡ Lent a p w) × (a ≡ d → ⊥)) d e Home (Lent e q x)
    (λ _ h. absurd (subst lent (sym h) tt))
    (λ n h. (h, λ z. let k : e ≡ a = cc in n (sym z ∙ sym k)))
still_lent d (Leaving e q x) a p w =
    at_one (λ (y : Loan). y ≡ Lent a p w → (Leaving e q x ≡ Lent a p w) × (a ≡ d → ⊥)) d e Home (Leaving e q x) (λ _ h. absurd (subst lent (sym h) tt)) (λ _ h. absurd (subst lent (sym h) tt))

pub shut_lent : (d : ℕ) (x : Use) (c u a p : ℕ) (w : Bool) → no_table d (map_loan (home_from d) x) ≡ Of c u (Lent a p w) → (y : ℕ) × (z : ℕ) × (x ≡ Of y z (Lent a p w)) × (a ≡ d → ⊥)
unfolding no_table map_loan loan_of
shut_lent d House c u a p w h = absurd (subst pageless h tt)
shut_lent d (TableOf e) c u a p w h = absurd (subst pageless h (at_one pageless d e Idle (TableOf e) (λ _. tt) (λ _. tt)))
shut_lent d Idle c u a p w h = absurd (subst pageless h tt)
shut_lent d (Of y z l) c u a p w h = let r = still_lent d l a p w (ap loan_of h) in (y, z, ap (Of y z) r.0, r.1)

-- a view with a device shut
abbrev pub with_shut : ℕ → View → View
with_shut d v =
    record { frames = v.frames; devices = v.devices; what = λ f. no_table d (map_loan (home_from d) (v.what f)); dev = λ e. cond (eqb e d) Shut (v.dev e); slots = λ e i. v.slots e i && not (eqb e d) }

and_true : (a b : Bool) → b ≡ false → (a && not b) ≡ a
and_true true b e = rw e refl
and_true false b e = refl

module _ {t : Tables} {v : View} {mem : ℕ → ℕ → ℕ} {live : Bool} {ups : List Up} {mids : List Mid} {leaves flying : List Leaf} (s : Sound t v mem live ups mids leaves flying) where
  -- devices change, and those that are shut stay the same
  pub devs_keep : (dev2 : ℕ → Dev) → ((d : ℕ) → is_shut (dev2 d) ≡ is_shut (v.dev d)) → Sound t (with_devs dev2 v) mem live ups mids leaves flying
  devs_keep dev2 same =
      record {
        house = s.house;
        root = λ l d b. ⊎_elim (λ e. inl e) (λ r. inr (r.0, to d r.1)) (s.root l d b);
        top = λ d h. s.top d (h.0, from d h.1);
        slot = λ d i h b. s.slot d i (h.0, from d h.1) b;
        held = λ d i h. let r = s.held d i h in (r.0, to d r.1);
        low = s.low;
        apart = s.apart;
        distinct = s.distinct;
        entries = λ d i j h b c. ⊎_elim (λ e. inl e) (λ g. inr (again d (512 * i + j) (mem (t.low d i) j) g)) (s.entries d i j h b c);
        ups_good = λ u m. let r = s.ups_good u m in ((r.0.0, to u.dev r.0.1), r.1);
        mids_good = s.mids_good;
        leaves_good = λ l h. again l.dev l.page l.entry (s.leaves_good l h);
        flying_good = λ l h. again l.dev l.page l.entry (s.flying_good l h);
        lent = λ f c u d p w b e.
            let m = s.lent f c u d p w b e in
            record { started = m.started; held = (m.held.0, to d m.held.1); page = m.page; there = m.there; root = m.root; entry = m.entry };
      }
    where
      to : (d : ℕ) → T (not (is_shut (v.dev d))) → T (not (is_shut (dev2 d)))
      to d h = subst (λ (x : Bool). T (not x)) (sym (same d)) h

      from : (d : ℕ) → T (not (is_shut (dev2 d))) → T (not (is_shut (v.dev d)))
      from d h = subst (λ (x : Bool). T (not x)) (same d) h

      again : (a p e : ℕ) → Good v a p e → Good (with_devs dev2 v) a p e
      again a p e g = good_to v.devices v.what dev2 v.slots (λ w h. h) g

  -- a device is shut: its word in frame 0 is cleared, and nothing of it is known or under way
  pub shut_keeps : (d : ℕ) → mem 0 d ≡ 0 → T (no_up d ups) → T (no_mid d mids) → T (no_leaf d leaves) → T (no_leaf d flying) → Sound t (with_shut d v) mem live ups mids leaves flying
  unfolding no_table map_loan is_shut
  shut_keeps d clear noups nomids noleaves noflying =
      record {
        house = ap (λ (x : Use). no_table d (map_loan (home_from d) x)) s.house;
        root = λ l a b.
            ⊎_elim (λ (z : a ≡ d). inl (ap (mem 0) z ∙ clear)) (λ (n : a ≡ d → ⊥). ⊎_elim (λ e. inl e) (λ r. inr (r.0, to a n r.1)) (s.root l a b)) (cases_eq a d);
        top = λ a h. let o = before a h in let r = s.top a o.0 in (r.0, shut_table d a (v.what (t.top a)) o.1 r.1);
        slot = λ a i h b. let o = before a h in s.slot a i o.0 b ∙ ap (λ (x : Bool). cond x (suc (t.low a i)) 0) (sym (and_true (v.slots a i) (eqb a d) (ne_eqb a d o.1)));
        held = λ a i h. let o = there a i h in let r = s.held a i o.0 in (r.0, to a o.1 r.1);
        low = λ a i h. let o = there a i h in let r = s.low a i o.0 in (r.0, shut_table d a (v.what (t.low a i)) o.1 r.1);
        apart = λ a i h. s.apart a i (there a i h).0;
        distinct = λ a i j h k. s.distinct a i j (there a i h).0 (there a j k).0;
        entries = λ a i j h b c. let o = there a i h in ⊎_elim (λ e. inl e) (λ g. inr (again a (512 * i + j) (mem (t.low a i) j) o.1 g)) (s.entries a i j o.0 b c);
        ups_good = λ u m. let r = s.ups_good u m in ((r.0.0, to u.dev (λ e. no_up_not d ups noups u m (sym e)) r.0.1), r.1);
        mids_good = λ n m. let r = s.mids_good n m in (r.0, here n.dev n.slot (λ e. no_mid_not d mids nomids n m (sym e)) r.1, r.2);
        leaves_good = λ l m. again l.dev l.page l.entry (λ e. no_leaf_not d leaves noleaves l m (sym e)) (s.leaves_good l m);
        flying_good = λ l m. again l.dev l.page l.entry (λ e. no_leaf_not d flying noflying l m (sym e)) (s.flying_good l m);
        lent = λ f c u a p w b e.
            let o = shut_lent d (v.what f) c u a p w e in
            let m = s.lent f o.0 o.1 a p w b o.2 in
            record { started = m.started; held = (m.held.0, to a o.3 m.held.1); page = m.page; there = here a (p / 512) o.3 m.there; root = m.root; entry = m.entry };
      }
    where
      to : (a : ℕ) → (a ≡ d → ⊥) → T (not (is_shut (v.dev a))) → T (not (is_shut (cond (eqb a d) Shut (v.dev a))))
      to a n h = at_one (λ (x : Dev). T (not (is_shut x))) a d Shut (v.dev a) (λ z. absurd (n z)) (λ _. h)

      before : (a : ℕ) → Held (with_shut d v) a → Held v a × (a ≡ d → ⊥)
      before a h =
          let k = at_one (λ (x : Dev). T (not (is_shut x)) → T (not (is_shut (v.dev a))) × (a ≡ d → ⊥)) a d Shut (v.dev a) (λ _ y. absurd y) (λ n y. (y, n)) h.1 in
          ((h.0, k.0), k.1)

      there : (a i : ℕ) → T (v.slots a i && not (eqb a d)) → T (v.slots a i) × (a ≡ d → ⊥)
      there a i h = let k = both (v.slots a i) (not (eqb a d)) h in (k.0, differ a d k.1)

      here : (a i : ℕ) → (a ≡ d → ⊥) → T (v.slots a i) → T (v.slots a i && not (eqb a d))
      here a i n h = pair (v.slots a i) (not (eqb a d)) h (not_T (eqb a d) (λ z. n (eqb→eq a d z)))

      again : (a p e : ℕ) → (a ≡ d → ⊥) → Good v a p e → Good (with_shut d v) a p e
      again a p e n g = good_to v.devices (λ f. no_table d (map_loan (home_from d) (v.what f))) (λ e. cond (eqb e d) Shut (v.dev e)) (λ e i. v.slots e i && not (eqb e d)) (λ w. shut_reached d (v.what (frame_in e)) a p w n) g

closing_shut : (x : Dev) → is_shut (closing x) ≡ is_shut x
unfolding is_shut closing
closing_shut Shut = refl
closing_shut (Opened w) = refl
closing_shut (Closing w) = refl

-- the same of states: a device is shut, or is to be shut
pub shut_state : {t : Tables} (s : State) {mem : ℕ → ℕ → ℕ} {live : Bool} {ups : List Up} {mids : List Mid} {leaves flying : List Leaf} → Sound t (view_of s) mem live ups mids leaves flying →
    (d : ℕ) → mem 0 d ≡ 0 → T (no_up d ups) → T (no_mid d mids) → T (no_leaf d leaves) → T (no_leaf d flying) → Sound t (view_of (shut d s)) mem live ups mids leaves flying
shut_state s sound d clear noups nomids noleaves noflying = shut_keeps sound d clear noups nomids noleaves noflying

pub shutting_state : {t : Tables} (s : State) {mem : ℕ → ℕ → ℕ} {live : Bool} {ups : List Up} {mids : List Mid} {leaves flying : List Leaf} → Sound t (view_of s) mem live ups mids leaves flying →
    (d : ℕ) → Sound t (view_of (shutting d s)) mem live ups mids leaves flying
shutting_state s sound d =
    devs_keep (leaving_all sound d) (λ e. cond (eqb e d) (closing (s.dev e)) (s.dev e))
    (λ e. cond_both (eqb e d) (closing (s.dev e)) (s.dev e) (λ x. is_shut x ≡ is_shut (s.dev e)) (λ _. closing_shut (s.dev e)) (λ _. refl))

-- what a call under way lets go before it takes effect
pub loosened_close : {t : Tables} (s : State) {mem : ℕ → ℕ → ℕ} {live : Bool} {ups : List Up} {mids : List Mid} {leaves flying : List Leaf} → Sound t (view_of s) mem live ups mids leaves flying →
    (c d : ℕ) → Sound t (view_of (loosens s c (Close d))) mem live ups mids leaves flying
unfolding loosens
loosened_close s sound c d = leaving_all sound d

pub loosened_recall : {t : Tables} (s : State) {mem : ℕ → ℕ → ℕ} {live : Bool} {ups : List Up} {mids : List Mid} {leaves flying : List Leaf} → Sound t (view_of s) mem live ups mids leaves flying →
    (c x : ℕ) → s.what (frame_of s c x) ≡ Of c x (loan s c x) → Sound t (view_of (loosens s c (Recall x))) mem live ups mids leaves flying
unfolding loosens
loosened_recall s sound c x is = use_leaving sound (frame_of s c x) c x (loan s c x) is

pub loosened_end : {t : Tables} (s : State) {mem : ℕ → ℕ → ℕ} {live : Bool} {ups : List Up} {mids : List Mid} {leaves flying : List Leaf} → Sound t (view_of s) mem live ups mids leaves flying →
    (c w : ℕ) → Sound t (view_of (loosens s c (End w))) mem live ups mids leaves flying
unfolding loosens
loosened_end s sound c w = leaving_where sound (λ l. any s.devices (λ (d : ℕ). owner_is w (s.dev d) && eqb d (device_of l)))
