-- A write of one entry: what the room says after it, of that entry and of all others.
use Rattle.std.proofs.Common.{◌≡◌, ℕ, ◌+◌, ◌*◌, ◌%◌, ◌<◌, ◌≤◌, Bool, true, false, cond, ◌&&◌, eqb, ltb, ◌≢◌, ◌⊎◌, List, length, get_or, set, sym, refl, ap, ◌∙◌, inl, inr, ⊎_elim, arith, rules}
use mathlib.Core.Path.{fun_ext}
use Rattle.std.proofs.lemmas.List.{get_or-set_same, get_or-set_other, length-set}
use Rattle.std.proofs.lemmas.Bool.{ltb-true, lt-ltb, eq-eqb, ne_eqb, cases_eq, and_parts}
use Rattle.ledger.specs.declared.Use.{Use}
use Rattle.ledger.specs.declared.Use.TheVariants.{Idle}
use Rattle.ledger.specs.declared.Place.{Place}
use Rattle.ledger.specs.declared.Place.TheVariants.{Nothing, Page, Registers}
use Rattle.ledger.specs.declared.Device.{Device}
use Rattle.ledger.specs.declared.Device.TheVariants.{Shut, Opened, Closing}
use Rattle.ledger.specs.Words.{use_from, shown_in, tag_in, place_from, place_word, PlaceFits, device_from, device_word, DeviceFits, number_from}
use Rattle.ledger.specs.Room.{use_of, place_of, tag_of, device_of, top_of, low_of}
use Rattle.ledger.specs.View.{View, view_of, with_use, with_place, with_tag, with_device, with_top, with_low}

guarded : {A : Type 0} (b : Bool) (x y z : A) → (b ≡ true → x ≡ y) → cond b x z ≡ cond b y z
guarded true x y z h = h refl
guarded false x y z h = refl

below2 : (a m b n : ℕ) → (ltb a m && ltb b n) ≡ true → (a < m) × (b < n)
below2 a m b n e = let h = and_parts (ltb a m) (ltb b n) e in (ltb-true a m h.0, ltb-true b n h.1)

-- Two rooms that agree on the words of a table say the same there.
pub same_places : (r s : List ℕ) → ((i : ℕ) → i < 32768 → get_or s i 0 ≡ get_or r i 0) → place_of s ≡ place_of r
unfolding place_of
same_places r s h =
    fun_ext (λ c. fun_ext (λ v. guarded (ltb c 32 && ltb v 1024) _ _ _ (λ e. let b = below2 c 32 v 1024 e in ap (λ (x : ℕ). place_from (shown_in x)) (h (c * 1024 + v) (omega (arith, b.0, b.1))))))

pub same_tags : (r s : List ℕ) → ((i : ℕ) → i < 32768 → get_or s i 0 ≡ get_or r i 0) → tag_of s ≡ tag_of r
unfolding tag_of
same_tags r s h =
    fun_ext (λ c. fun_ext (λ v. guarded (ltb c 32 && ltb v 1024) _ _ _ (λ e. let b = below2 c 32 v 1024 e in ap tag_in (h (c * 1024 + v) (omega (arith, b.0, b.1))))))

pub same_lows : (r s : List ℕ) → ((i : ℕ) → 32768 ≤ i → i < 49152 → get_or s i 0 ≡ get_or r i 0) → low_of s ≡ low_of r
unfolding low_of
same_lows r s h =
    fun_ext (λ d. fun_ext (λ i. guarded (ltb d 32 && ltb i 512) _ _ _ (λ e. let b = below2 d 32 i 512 e in ap number_from (h (32768 + d * 512 + i) (omega arith) (omega (arith, b.0, b.1))))))

pub same_devices : (r s : List ℕ) → ((d : ℕ) → d < 32 → get_or s (49152 + 2 * d) 0 ≡ get_or r (49152 + 2 * d) 0) → device_of s ≡ device_of r
unfolding device_of
same_devices r s h = fun_ext (λ d. guarded (ltb d 32) _ _ _ (λ e. ap device_from (h d (ltb-true d 32 e))))

pub same_tops : (r s : List ℕ) → ((d : ℕ) → d < 32 → get_or s (49152 + 2 * d + 1) 0 ≡ get_or r (49152 + 2 * d + 1) 0) → top_of s ≡ top_of r
unfolding top_of
same_tops r s h = fun_ext (λ d. guarded (ltb d 32) _ _ _ (λ e. ap number_from (h d (ltb-true d 32 e))))

pub same_uses : (r s : List ℕ) → ((i : ℕ) → 65536 ≤ i → get_or s i 0 ≡ get_or r i 0) → (f : ℕ) → use_of s f ≡ use_of r f
unfolding use_of
same_uses r s h f = let a = h (65536 + 2 * f) (omega arith) in let b = h (65536 + 2 * f + 1) (omega arith) in cc

-- a view is its five tables
pub same_view : (a b : View) → a.used ≡ b.used → a.place ≡ b.place → a.device ≡ b.device → a.top ≡ b.top → a.low ≡ b.low → a ≡ b
same_view a b u p d t l = λ i. record { used = u i; place = p i; device = d i; top = t i; low = l i }

module _ (r : List ℕ) (f lo hi : ℕ) (fits : 65537 + 2 * f < length r) where
  abbrev after : List ℕ
  after = set (set r (65536 + 2 * f) lo) (65536 + 2 * f + 1) hi

  pub record_kept : (j : ℕ) → j ≢ 65536 + 2 * f → j ≢ 65536 + 2 * f + 1 → get_or after j 0 ≡ get_or r j 0
  record_kept j a b = get_or-set_other _ (65536 + 2 * f + 1) j hi 0 (λ e. b (omega arith)) ∙ get_or-set_other r (65536 + 2 * f) j lo 0 a

  record_low : get_or after (65536 + 2 * f) 0 ≡ lo
  record_low = get_or-set_other _ (65536 + 2 * f + 1) (65536 + 2 * f) hi 0 (λ e. omega arith) ∙ get_or-set_same r (65536 + 2 * f) lo 0 (omega arith)

  record_high : get_or after (65536 + 2 * f + 1) 0 ≡ hi
  record_high = let l : 65536 + 2 * f + 1 < length (set r (65536 + 2 * f) lo) = simp length-set (omega arith) in get_or-set_same (set r (65536 + 2 * f) lo) (65536 + 2 * f + 1) hi 0 l

  pub record_at : (g : ℕ) → use_of after g ≡ cond (eqb g f) (use_from lo hi) (use_of r g)
  unfolding use_of
  record_at g =
      ⊎_elim (λ e. rw (eq-eqb g f e, e, record_low, record_high))
      (λ ne. rw (ne_eqb g f ne, record_kept (65536 + 2 * g) (λ e. ne (omega arith)) (λ e. omega arith), record_kept (65536 + 2 * g + 1) (λ e. omega arith) (λ e. ne (omega arith))))
      (cases_eq g f)

  pub wrote_use : (n : ℕ) (u : Use) → f < n → use_from lo hi ≡ u → view_of n after ≡ with_use f u (view_of n r)
  wrote_use n u l e =
      same_view (view_of n after) (with_use f u (view_of n r)) (fun_ext (λ g. rw (record_at g, e) (swapped g (cases_eq g f))))
      (same_places r after (λ i b. record_kept i (λ z. omega arith) (λ z. omega arith))) (same_devices r after (λ d b. record_kept _ (λ z. omega arith) (λ z. omega arith)))
      (same_tops r after (λ d b. record_kept _ (λ z. omega arith) (λ z. omega arith))) (same_lows r after (λ i a b. record_kept i (λ z. omega arith) (λ z. omega arith)))
    where
      swapped : (g : ℕ) → (g ≡ f) ⊎ (g ≡ f → ⊥) → cond (ltb g n) (cond (eqb g f) u (use_of r g)) Idle ≡ cond (eqb g f) u (cond (ltb g n) (use_of r g) Idle)
      swapped g (inl q) = rw (eq-eqb g f q, q, lt-ltb f n l)
      swapped g (inr q) = rw (ne_eqb g f q)

  pub wrote_use_tags : tag_of after ≡ tag_of r
  wrote_use_tags = same_tags r after (λ i b. record_kept i (λ z. omega arith) (λ z. omega arith))

-- Reading within a table's bounds.
pub read_place : (r : List ℕ) (c v : ℕ) → c < 32 → v < 1024 → place_from (shown_in (get_or r (c * 1024 + v) 0)) ≡ place_of r c v
unfolding place_of
read_place r c v a b = rw (lt-ltb c 32 a, lt-ltb v 1024 b)

pub read_tag : (r : List ℕ) (c v : ℕ) → c < 32 → v < 1024 → tag_in (get_or r (c * 1024 + v) 0) ≡ tag_of r c v
unfolding tag_of
read_tag r c v a b = rw (lt-ltb c 32 a, lt-ltb v 1024 b)

pub read_device : (r : List ℕ) (d : ℕ) → d < 32 → device_from (get_or r (49152 + 2 * d) 0) ≡ device_of r d
unfolding device_of
read_device r d a = rw (lt-ltb d 32 a)

pub read_top : (r : List ℕ) (d : ℕ) → d < 32 → number_from (get_or r (49152 + 2 * d + 1) 0) ≡ top_of r d
unfolding top_of
read_top r d a = rw (lt-ltb d 32 a)

pub read_low : (r : List ℕ) (d i : ℕ) → d < 32 → i < 512 → number_from (get_or r (32768 + d * 512 + i) 0) ≡ low_of r d i
unfolding low_of
read_low r d i a b = rw (lt-ltb d 32 a, lt-ltb i 512 b)

-- One word is written: an entry of a table of one or of two numbers.
both_eq : (a c b v : ℕ) → a ≡ c → b ≡ v → (eqb a c && eqb b v) ≡ true
both_eq a c b v p q = rw (eq-eqb a c p, eq-eqb b v q)

cases_two : (a c b v : ℕ) → ((a ≡ c) × (b ≡ v)) ⊎ (((eqb a c && eqb b v) ≡ false) × ((a ≡ c) × (b ≡ v) → ⊥))
cases_two a c b v = go (cases_eq a c) (cases_eq b v)
  where
    go : (a ≡ c) ⊎ (a ≡ c → ⊥) → (b ≡ v) ⊎ (b ≡ v → ⊥) → ((a ≡ c) × (b ≡ v)) ⊎ (((eqb a c && eqb b v) ≡ false) × ((a ≡ c) × (b ≡ v) → ⊥))
    go (inl p) (inl q) = inl (p, q)
    go (inl p) (inr q) = inr (rw (eq-eqb a c p, ne_eqb b v q), λ e. q e.1)
    go (inr p) q = inr (rw (ne_eqb a c p), λ e. p e.0)

module _ (r : List ℕ) (at x n : ℕ) where
  kept : (j : ℕ) → j ≢ at → get_or (set r at x) j 0 ≡ get_or r j 0
  kept j ne = get_or-set_other r at j x 0 ne

  kept_uses : at < 65536 → (view_of n (set r at x)).used ≡ (view_of n r).used
  kept_uses l = fun_ext (λ g. ap (λ (u : Use). cond (ltb g n) u Idle) (same_uses r (set r at x) (λ i b. kept i (λ z. omega arith)) g))

  kept_places : 32768 ≤ at → place_of (set r at x) ≡ place_of r
  kept_places l = same_places r (set r at x) (λ i b. kept i (λ z. omega arith))

  kept_tags : 32768 ≤ at → tag_of (set r at x) ≡ tag_of r
  kept_tags l = same_tags r (set r at x) (λ i b. kept i (λ z. omega arith))

  kept_lows : (at < 32768) ⊎ (49152 ≤ at) → low_of (set r at x) ≡ low_of r
  kept_lows (inl l) = same_lows r (set r at x) (λ i a b. kept i (λ z. omega arith))
  kept_lows (inr l) = same_lows r (set r at x) (λ i a b. kept i (λ z. omega arith))

  kept_devices : ((d : ℕ) → d < 32 → 49152 + 2 * d ≢ at) → device_of (set r at x) ≡ device_of r
  kept_devices h = same_devices r (set r at x) (λ d l. kept _ (h d l))

  kept_tops : ((d : ℕ) → d < 32 → 49152 + 2 * d + 1 ≢ at) → top_of (set r at x) ≡ top_of r
  kept_tops h = same_tops r (set r at x) (λ d l. kept _ (h d l))

-- a place that is written as it was
pub same_place : (c v : ℕ) (s : View) (x : Place) → s.place c v ≡ x → with_place c v x s ≡ s
same_place c v s x e = same_view (with_place c v x s) s refl (fun_ext (λ a. fun_ext (λ b. here a b (cases_two a c b v)))) refl refl refl
  where
    here : (a b : ℕ) → ((a ≡ c) × (b ≡ v)) ⊎ (((eqb a c && eqb b v) ≡ false) × ((a ≡ c) × (b ≡ v) → ⊥)) → cond (eqb a c && eqb b v) x (s.place a b) ≡ s.place a b
    here a b (inl q) = rw (both_eq a c b v q.0 q.1, q.0, q.1) (sym e)
    here a b (inr q) = rw q.0

module _ (r : List ℕ) (n x : ℕ) (long : 65536 ≤ length r) where
  pub wrote_place : (c v : ℕ) (p : Place) → c < 32 → v < 1024 → place_from (shown_in x) ≡ p → view_of n (set r (c * 1024 + v) x) ≡ with_place c v p (view_of n r)
  unfolding place_of
  wrote_place c v p hc hv e =
      same_view (view_of n (set r (c * 1024 + v) x)) (with_place c v p (view_of n r)) (kept_uses r _ x n (omega arith)) (fun_ext (λ a. fun_ext (λ b. here a b (cases_two a c b v))))
      (kept_devices r _ x n (λ d l z. omega arith)) (kept_tops r _ x n (λ d l z. omega arith)) (kept_lows r _ x n (inl (omega arith)))
    where
      here : (a b : ℕ) → ((a ≡ c) × (b ≡ v)) ⊎ (((eqb a c && eqb b v) ≡ false) × ((a ≡ c) × (b ≡ v) → ⊥)) → place_of (set r (c * 1024 + v) x) a b ≡ cond (eqb a c && eqb b v) p (place_of r a b)
      here a b (inl q) = rw (both_eq a c b v q.0 q.1, q.0, q.1, lt-ltb c 32 hc, lt-ltb v 1024 hv, get_or-set_same r (c * 1024 + v) x 0 (omega arith)) e
      here a b (inr q) =
          rw q.0
          (guarded (ltb a 32 && ltb b 1024) _ _ _
          (λ t. let s = below2 a 32 b 1024 t in ap (λ (w : ℕ). place_from (shown_in w)) (kept r _ x n (a * 1024 + b) (λ z. q.1 (omega (arith, s.0, s.1, z), omega (arith, s.0, s.1, z))))))

  pub wrote_tag : (c v y : ℕ) → c < 32 → v < 1024 → tag_in x ≡ y → tag_of (set r (c * 1024 + v) x) ≡ with_tag c v y (tag_of r)
  unfolding tag_of
  wrote_tag c v y hc hv e = fun_ext (λ a. fun_ext (λ b. here a b (cases_two a c b v)))
    where
      here : (a b : ℕ) → ((a ≡ c) × (b ≡ v)) ⊎ (((eqb a c && eqb b v) ≡ false) × ((a ≡ c) × (b ≡ v) → ⊥)) → tag_of (set r (c * 1024 + v) x) a b ≡ cond (eqb a c && eqb b v) y (tag_of r a b)
      here a b (inl q) = rw (both_eq a c b v q.0 q.1, q.0, q.1, lt-ltb c 32 hc, lt-ltb v 1024 hv, get_or-set_same r (c * 1024 + v) x 0 (omega arith)) e
      here a b (inr q) =
          rw q.0
          (guarded (ltb a 32 && ltb b 1024) _ _ _
          (λ t. let s = below2 a 32 b 1024 t in ap tag_in (kept r _ x n (a * 1024 + b) (λ z. q.1 (omega (arith, s.0, s.1, z), omega (arith, s.0, s.1, z))))))

  -- what a place shows is written again, with a tag
  pub wrote_shown : (c v y : ℕ) → c < 32 → v < 1024 → x ≡ get_or r (c * 1024 + v) 0 % 131072 + 131072 * y → view_of n (set r (c * 1024 + v) x) ≡ view_of n r
  wrote_shown c v y hc hv e =
      wrote_place c v (place_of r c v) hc hv (again (get_or r (c * 1024 + v) 0) e ∙ read_place r c v hc hv) ∙ same_place c v (view_of n r) (place_of r c v) refl
    where
      again : (w : ℕ) → x ≡ w % 131072 + 131072 * y → place_from (shown_in x) ≡ place_from (shown_in w)
      again w q = let z : shown_in x ≡ shown_in w = omega arith in rw z

  pub wrote_low : (d i y : ℕ) → d < 32 → i < 512 → number_from x ≡ y → view_of n (set r (32768 + d * 512 + i) x) ≡ with_low d i y (view_of n r)
  unfolding low_of
  wrote_low d i y hd hi e =
      same_view (view_of n (set r (32768 + d * 512 + i) x)) (with_low d i y (view_of n r)) (kept_uses r _ x n (omega arith)) (kept_places r _ x n (omega arith))
      (kept_devices r _ x n (λ k l z. omega arith)) (kept_tops r _ x n (λ k l z. omega arith)) (fun_ext (λ a. fun_ext (λ b. here a b (cases_two a d b i))))
    where
      here : (a b : ℕ) → ((a ≡ d) × (b ≡ i)) ⊎ (((eqb a d && eqb b i) ≡ false) × ((a ≡ d) × (b ≡ i) → ⊥)) → low_of (set r (32768 + d * 512 + i) x) a b ≡ cond (eqb a d && eqb b i) y (low_of r a b)
      here a b (inl q) = rw (both_eq a d b i q.0 q.1, q.0, q.1, lt-ltb d 32 hd, lt-ltb i 512 hi, get_or-set_same r (32768 + d * 512 + i) x 0 (omega arith)) e
      here a b (inr q) =
          rw q.0
          (guarded (ltb a 32 && ltb b 512) _ _ _
          (λ t. let s = below2 a 32 b 512 t in ap number_from (kept r _ x n (32768 + a * 512 + b) (λ z. q.1 (omega (arith, s.0, s.1, z), omega (arith, s.0, s.1, z))))))

  pub wrote_device : (d : ℕ) (y : Device) → d < 32 → device_from x ≡ y → view_of n (set r (49152 + 2 * d) x) ≡ with_device d y (view_of n r)
  unfolding device_of
  wrote_device d y hd e =
      same_view (view_of n (set r (49152 + 2 * d) x)) (with_device d y (view_of n r)) (kept_uses r _ x n (omega arith)) (kept_places r _ x n (omega arith)) (fun_ext (λ a. here a (cases_eq a d)))
      (kept_tops r _ x n (λ k l z. omega arith)) (kept_lows r _ x n (inr (omega arith)))
    where
      here : (a : ℕ) → (a ≡ d) ⊎ (a ≡ d → ⊥) → device_of (set r (49152 + 2 * d) x) a ≡ cond (eqb a d) y (device_of r a)
      here a (inl q) = rw (eq-eqb a d q, q, lt-ltb d 32 hd, get_or-set_same r (49152 + 2 * d) x 0 (omega arith)) e
      here a (inr q) = rw (ne_eqb a d q) (guarded (ltb a 32) _ _ _ (λ t. ap device_from (kept r _ x n (49152 + 2 * a) (λ z. q (omega arith)))))

  pub wrote_top : (d y : ℕ) → d < 32 → number_from x ≡ y → view_of n (set r (49152 + 2 * d + 1) x) ≡ with_top d y (view_of n r)
  unfolding top_of
  wrote_top d y hd e =
      same_view (view_of n (set r (49152 + 2 * d + 1) x)) (with_top d y (view_of n r)) (kept_uses r _ x n (omega arith)) (kept_places r _ x n (omega arith)) (kept_devices r _ x n (λ k l z. omega arith))
      (fun_ext (λ a. here a (cases_eq a d))) (kept_lows r _ x n (inr (omega arith)))
    where
      here : (a : ℕ) → (a ≡ d) ⊎ (a ≡ d → ⊥) → top_of (set r (49152 + 2 * d + 1) x) a ≡ cond (eqb a d) y (top_of r a)
      here a (inl q) = rw (eq-eqb a d q, q, lt-ltb d 32 hd, get_or-set_same r (49152 + 2 * d + 1) x 0 (omega arith)) e
      here a (inr q) = rw (ne_eqb a d q) (guarded (ltb a 32) _ _ _ (λ t. ap number_from (kept r _ x n (49152 + 2 * a + 1) (λ z. q (omega arith)))))

-- The same where a word's number is given by an equation, as `layout` gives it.
module _ (r : List ℕ) (at : ℕ) where
  pub read_place_at : (c v : ℕ) → at ≡ c * 1024 + v → c < 32 → v < 1024 → place_from (shown_in (get_or r at 0)) ≡ place_of r c v
  read_place_at c v e a b = ap (λ (k : ℕ). place_from (shown_in (get_or r k 0))) e ∙ read_place r c v a b

  pub read_tag_at : (c v : ℕ) → at ≡ c * 1024 + v → c < 32 → v < 1024 → tag_in (get_or r at 0) ≡ tag_of r c v
  read_tag_at c v e a b = ap (λ (k : ℕ). tag_in (get_or r k 0)) e ∙ read_tag r c v a b

  pub read_device_at : (d : ℕ) → at ≡ 49152 + 2 * d → d < 32 → device_from (get_or r at 0) ≡ device_of r d
  read_device_at d e a = ap (λ (k : ℕ). device_from (get_or r k 0)) e ∙ read_device r d a

  pub read_top_at : (d : ℕ) → at ≡ 49152 + 2 * d → d < 32 → number_from (get_or r (at + 1) 0) ≡ top_of r d
  read_top_at d e a = ap (λ (k : ℕ). number_from (get_or r (k + 1) 0)) e ∙ read_top r d a

  pub read_low_at : (d i : ℕ) → at ≡ 32768 + d * 512 + i → d < 32 → i < 512 → number_from (get_or r at 0) ≡ low_of r d i
  read_low_at d i e a b = ap (λ (k : ℕ). number_from (get_or r k 0)) e ∙ read_low r d i a b

  pub read_use_at : (f : ℕ) → at ≡ 65536 + 2 * f → use_from (get_or r at 0) (get_or r (at + 1) 0) ≡ use_of r f
  unfolding use_of
  read_use_at f e = ap (λ (k : ℕ). use_from (get_or r k 0) (get_or r (k + 1) 0)) e

  pub wrote_use_at : (f lo hi n : ℕ) (u : Use) → at ≡ 65536 + 2 * f → 65537 + 2 * f < length r → f < n → use_from lo hi ≡ u → view_of n (set (set r at lo) (at + 1) hi) ≡ with_use f u (view_of n r)
  wrote_use_at f lo hi n u e fits l w = ap (λ (k : ℕ). view_of n (set (set r k lo) (k + 1) hi)) e ∙ wrote_use r f lo hi fits n u l w

  pub wrote_use_tags_at : (f lo hi : ℕ) → at ≡ 65536 + 2 * f → 65537 + 2 * f < length r → tag_of (set (set r at lo) (at + 1) hi) ≡ tag_of r
  wrote_use_tags_at f lo hi e fits = ap (λ (k : ℕ). tag_of (set (set r k lo) (k + 1) hi)) e ∙ wrote_use_tags r f lo hi fits

  -- a word past the places
  pub kept_tags_at : (x : ℕ) → 32768 ≤ at → tag_of (set r at x) ≡ tag_of r
  kept_tags_at x l = kept_tags r at x 0 l

  module _ (n x : ℕ) (long : 65536 ≤ length r) where
    pub wrote_tag_at : (c v y : ℕ) → at ≡ c * 1024 + v → c < 32 → v < 1024 → tag_in x ≡ y → tag_of (set r at x) ≡ with_tag c v y (tag_of r)
    wrote_tag_at c v y e a b w = ap (λ (k : ℕ). tag_of (set r k x)) e ∙ wrote_tag r n x long c v y a b w

    pub wrote_shown_at : (c v y : ℕ) → at ≡ c * 1024 + v → c < 32 → v < 1024 → x ≡ get_or r at 0 % 131072 + 131072 * y → view_of n (set r at x) ≡ view_of n r
    wrote_shown_at c v y e a b w = ap (λ (k : ℕ). view_of n (set r k x)) e ∙ wrote_shown r n x long c v y a b (w ∙ ap (λ (k : ℕ). get_or r k 0 % 131072 + 131072 * y) e)

    pub wrote_place_at : (c v : ℕ) (p : Place) → at ≡ c * 1024 + v → c < 32 → v < 1024 → place_from (shown_in x) ≡ p → view_of n (set r at x) ≡ with_place c v p (view_of n r)
    wrote_place_at c v p e a b w = ap (λ (k : ℕ). view_of n (set r k x)) e ∙ wrote_place r n x long c v p a b w

    pub wrote_low_at : (d i y : ℕ) → at ≡ 32768 + d * 512 + i → d < 32 → i < 512 → number_from x ≡ y → view_of n (set r at x) ≡ with_low d i y (view_of n r)
    wrote_low_at d i y e a b w = ap (λ (k : ℕ). view_of n (set r k x)) e ∙ wrote_low r n x long d i y a b w

    pub wrote_device_at : (d : ℕ) (y : Device) → at ≡ 49152 + 2 * d → d < 32 → device_from x ≡ y → view_of n (set r at x) ≡ with_device d y (view_of n r)
    wrote_device_at d y e a w = ap (λ (k : ℕ). view_of n (set r k x)) e ∙ wrote_device r n x long d y a w

    pub wrote_top_at : (d y : ℕ) → at ≡ 49152 + 2 * d → d < 32 → number_from x ≡ y → view_of n (set r (at + 1) x) ≡ with_top d y (view_of n r)
    wrote_top_at d y e a w = ap (λ (k : ℕ). view_of n (set r (k + 1) x)) e ∙ wrote_top r n x long d y a w

-- what is packed into a word is read from it again
pub place_packed : (s : Place) → PlaceFits s → place_from (place_word s) ≡ s
place_packed Nothing h = refl
place_packed (Page f) h = search rules
place_packed (Registers d) h = search rules

-- it leaves no tag
pub place_below : (s : Place) → PlaceFits s → place_word s < 131072
place_below Nothing h = omega arith
place_below (Page f) h = omega arith
place_below (Registers d) h = omega arith

pub place_shown : (s : Place) (w : ℕ) → PlaceFits s → w ≡ place_word s → place_from (shown_in w) ≡ s
place_shown s w h e = let l = place_below s h in let z : shown_in w ≡ place_word s = omega arith in ap place_from z ∙ place_packed s h

pub place_untagged : (s : Place) (w : ℕ) → PlaceFits s → w ≡ place_word s → tag_in w ≡ 0
place_untagged s w h e = let l = place_below s h in omega arith

pub device_packed : (s : Device) → DeviceFits s → device_from (device_word s) ≡ s
device_packed Shut h = refl
device_packed (Opened c) h = search rules
device_packed (Closing c) h = search rules
