-- Memory and spaces as words.
use Rattle.std.proofs.Common.{◌≡◌, ℕ, ◌+◌, ◌*◌, ◌<◌, ◌≤◌, false, cond, ◌&&◌, eqb, ◌≢◌, ◌⊎◌, List, length, get_or, set, sym, refl, ap, ◌∙◌, inl, inr, arith, get_or-set_other, get_or-set_same}
use Rattle.std.proofs.lemmas.Bool.{cases_eq, cases_lt, eq-eqb, ne_eqb, lt-ltb, le-ltb, and_right}
use Rattle.simulator.specs.declared.spaces.View.{View}
use Rattle.simulator.specs.declared.spaces.View.TheVariants.{Hidden, Page}
use Rattle.simulator.specs.Store.{mem_of, space_of, shown_of, PagesBelow}

-- one word of memory changed
pub mem_set : (ws : List ℕ) (n f k x : ℕ) → length ws ≡ 512 * n → f < n → k < 512 → (g j : ℕ) → mem_of (set ws (512 * f + k) x) g j ≡ cond (eqb g f && eqb j k) x (mem_of ws g j)
mem_set ws n f k x e lf lk g j = by (cases_lt j 512) (cases_eq g f) (cases_eq j k)
  where
    i : ℕ
    i = 512 * f + k

    by : (j < 512) ⊎ (512 ≤ j) → (g ≡ f) ⊎ (g ≡ f → ⊥) → (j ≡ k) ⊎ (j ≡ k → ⊥) → mem_of (set ws i x) g j ≡ cond (eqb g f && eqb j k) x (mem_of ws g j)
    by (inl l) (inl a) (inl b) =
        let t = lt-ltb j 512 l in
        let s = get_or-set_same ws i x 0 (omega arith) in
        let q : 512 * g + j ≡ i = omega arith in
        simp (t, eq-eqb g f a, eq-eqb j k b) (rw q s)
    by (inl l) (inl a) (inr b) =
        let t = lt-ltb j 512 l in
        let q : 512 * g + j ≢ i = λ h. b (omega arith) in
        simp (t, eq-eqb g f a, ne_eqb j k b) (get_or-set_other ws i (512 * g + j) x 0 q)
    by (inl l) (inr a) h =
        let t = lt-ltb j 512 l in
        let q : 512 * g + j ≢ i = λ m. a (omega arith) in
        simp (t, ne_eqb g f a) (get_or-set_other ws i (512 * g + j) x 0 q)
    by (inr l) h (inl b) = absurd (omega arith)
    by (inr l) h (inr b) =
        let t = le-ltb j 512 l in
        simp (t, ne_eqb j k b, and_right (eqb g f) false refl) refl

-- one place of a space changed
pub space_set : (vs : List View) (c v : ℕ) (w : View) → length vs ≡ 32768 → c < 32 → v < 1024 → (b u : ℕ) → space_of (set vs (1024 * c + v) w) b u ≡ cond (eqb b c && eqb u v) (shown_of w) (space_of vs b u)
space_set vs c v w e lc lv b u = by (cases_lt b 32) (cases_lt u 1024) (cases_eq b c) (cases_eq u v)
  where
    i : ℕ
    i = 1024 * c + v

    by : (b < 32) ⊎ (32 ≤ b) → (u < 1024) ⊎ (1024 ≤ u) → (b ≡ c) ⊎ (b ≡ c → ⊥) → (u ≡ v) ⊎ (u ≡ v → ⊥) → space_of (set vs i w) b u ≡ cond (eqb b c && eqb u v) (shown_of w) (space_of vs b u)
    by (inl l) (inl m) (inl p) (inl q) =
        let s = get_or-set_same vs i w Hidden (omega arith) in
        let r : 1024 * b + u ≡ i = omega arith in
        simp (lt-ltb b 32 l, lt-ltb u 1024 m, eq-eqb b c p, eq-eqb u v q) (let z : get_or (set vs i w) (1024 * b + u) Hidden ≡ w = rw r s in ap shown_of z)
    by (inl l) (inl m) (inl p) (inr q) =
        let r : 1024 * b + u ≢ i = λ h. q (omega arith) in
        simp (lt-ltb b 32 l, lt-ltb u 1024 m, eq-eqb b c p, ne_eqb u v q) (ap shown_of (get_or-set_other vs i (1024 * b + u) w Hidden r))
    by (inl l) (inl m) (inr p) h =
        let r : 1024 * b + u ≢ i = λ k. p (omega arith) in
        simp (lt-ltb b 32 l, lt-ltb u 1024 m, ne_eqb b c p) (ap shown_of (get_or-set_other vs i (1024 * b + u) w Hidden r))
    by (inl l) (inr m) h (inl q) = absurd (omega arith)
    by (inl l) (inr m) h (inr q) = simp (lt-ltb b 32 l, le-ltb u 1024 m, ne_eqb u v q, and_right (eqb b c) false refl) refl
    by (inr l) m (inl p) h = absurd (omega arith)
    by (inr l) m (inr p) h = simp (le-ltb b 32 l, ne_eqb b c p) refl

-- where nothing is shown, no page is
pub none_shown : {n : ℕ} (vs : List View) → ((k : ℕ) → get_or vs k Hidden ≡ Hidden) → PagesBelow n vs
none_shown vs h k f e = absurd (let z : Hidden ≡ Page f = sym (h k) ∙ e in cc)
