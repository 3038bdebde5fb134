-- Setting up: each frame's record in turn, and the view of a room whose tables are cleared.
use Rattle.std.proofs.Common.{◌≡◌, ℕ, ◌+◌, ◌*◌, ◌<◌, ◌≤◌, Bool, true, false, cond, ◌&&◌, eqb, ltb, ◌⊎◌, List, length, get_or, set, sym, refl, ap, ◌∙◌, subst, inl, inr, ⊎_elim, arith}
use mathlib.Core.Path.{fun_ext}
use Rattle.std.proofs.lemmas.List.{get_or-set_same, get_or-set_other}
use Rattle.std.proofs.lemmas.Bool.{ltb-true, lt-ltb, eqb-true, eq-eqb, ne_eqb, cases_eq, cases_lt, cond_both, and_parts, le-ltb, false≢true}
use Rattle.ledger.specs.declared.Use.{Use}
use Rattle.ledger.specs.declared.Use.TheVariants.{House, Idle}
use Rattle.ledger.specs.declared.Place.TheVariants.{Nothing}
use Rattle.ledger.specs.declared.Device.TheVariants.{Shut}
use Rattle.ledger.specs.Words.{use_from, shown_in, tag_in, place_from, device_from, number_from}
use Rattle.ledger.specs.Room.{use_of, place_of, tag_of, device_of, top_of, low_of}
use Rattle.ledger.specs.View.{view_of}
use Rattle.ledger.specs.Uses.{is_at, loan_in}
use Rattle.ledger.specs.Consistent.{FrameOk, Coherent, Tagged}
use Rattle.ledger.specs.Changes.{empty}
use Rattle.ledger.proofs.Entries.{record_at, record_kept, same_view}

-- what a frame is at the start
abbrev pub first : ℕ → Use
first f = cond (eqb f 0) House Idle

abbrev Cleared : List ℕ → List ℕ → ℕ → Type 0
Cleared r s n = ((g : ℕ) → g < n → use_of s g ≡ first g) × ((k : ℕ) → (k < 65536) ⊎ (65536 + 2 * n ≤ k) → get_or s k 0 ≡ get_or r k 0)

pub cleared_word : (r s : List ℕ) (i : ℕ) → i < length s → ((k : ℕ) → k < i → get_or s k 0 ≡ 0) × ((k : ℕ) → i ≤ k → get_or s k 0 ≡ get_or r k 0) →
    ((k : ℕ) → k < i + 1 → get_or (set s i 0) k 0 ≡ 0) × ((k : ℕ) → i + 1 ≤ k → get_or (set s i 0) k 0 ≡ get_or r k 0)
cleared_word r s i l h = (
  λ k b. ⊎_elim (λ e. rw e (get_or-set_same s i 0 0 l)) (λ ne. get_or-set_other s i k 0 0 ne ∙ h.0 k (omega arith)) (cases_eq k i),
  λ k b. get_or-set_other s i k 0 0 (λ e. omega arith) ∙ h.1 k (omega arith),
)

first_low : (f lo : ℕ) → lo ≡ cond (eqb f 0) 0 2 → use_from lo 0 ≡ first f
first_low f lo e = go (eqb f 0) e
  where
    go : (b : Bool) → lo ≡ cond b 0 2 → use_from lo 0 ≡ cond b House Idle
    go true e = rw e
    go false e = rw e

cleared_record : (r s : List ℕ) (f lo : ℕ) → 65537 + 2 * f < length s → lo ≡ cond (eqb f 0) 0 2 → Cleared r s f →
    Cleared r (set (set s (65536 + 2 * f) lo) (65536 + 2 * f + 1) 0) (f + 1)
cleared_record r s f lo l e h = (
  λ g b. record_at s f lo 0 l g ∙ ⊎_elim (λ q. rw (eq-eqb g f q, q) (first_low f lo e)) (λ ne. rw (ne_eqb g f ne) (h.0 g (omega arith))) (cases_eq g f),
  λ k b. record_kept s f lo 0 l k (away k b).0 (away k b).1 ∙ h.1 k (still k b),
)
  where
    away : (k : ℕ) → (k < 65536) ⊎ (65536 + 2 * (f + 1) ≤ k) → (k ≡ 65536 + 2 * f → ⊥) × (k ≡ 65536 + 2 * f + 1 → ⊥)
    away k (inl b) = (λ q. omega arith, λ q. omega arith)
    away k (inr b) = (λ q. omega arith, λ q. omega arith)

    still : (k : ℕ) → (k < 65536) ⊎ (65536 + 2 * (f + 1) ≤ k) → (k < 65536) ⊎ (65536 + 2 * f ≤ k)
    still k (inl b) = inl b
    still k (inr b) = inr (omega arith)

pub cleared_frame : (r s : List ℕ) (f at lo : ℕ) → at ≡ 65536 + 2 * f → 65537 + 2 * f < length s → lo ≡ cond (eqb f 0) 0 2 → Cleared r s f → Cleared r (set (set s at lo) (at + 1) 0) (f + 1)
cleared_frame r s f at lo is l e h = subst (λ (k : ℕ). Cleared r (set (set s k lo) (k + 1) 0) (f + 1)) (sym is) (cleared_record r s f lo l e h)

always : {A : Type 0} (b : Bool) (x z : A) → (b ≡ true → x ≡ z) → cond b x z ≡ z
always true x z h = h refl
always false x z h = refl

below2 : (a m b n : ℕ) → (ltb a m && ltb b n) ≡ true → (a < m) × (b < n)
below2 a m b n e = let h = and_parts (ltb a m) (ltb b n) e in (ltb-true a m h.0, ltb-true b n h.1)

empty_coherent : Coherent empty
empty_coherent =
    record {
      house = refl;
      frames = λ f. cond_both (eqb f 0) House Idle (FrameOk (λ c v. Nothing) (λ d. Shut) (λ d. 0) (λ d i. 0) f) (λ e. eqb-true f 0 e) (λ e. tt);
      places = λ c v. tt;
      devices = λ d i. refl;
      lows = λ d i f e. absurd (omega arith);
      once = λ f g d p e k. absurd (nowhere f d p e);
    }
  where
    nowhere : (f d p : ℕ) → is_at d p (loan_in (first f)) ≡ true → ⊥
    nowhere f d p = cond_both (eqb f 0) House Idle (λ u. is_at d p (loan_in u) ≡ true → ⊥) (λ _ e. false≢true e) (λ _ e. false≢true e)

module _ (n : ℕ) (r : List ℕ) (some : 0 < n) (idle : (f : ℕ) → f < n → use_of r f ≡ first f) (zeros : (i : ℕ) → i < 49216 → get_or r i 0 ≡ 0) where
  uses : (f : ℕ) → cond (ltb f n) (use_of r f) Idle ≡ first f
  uses f = ⊎_elim (λ l. rw (lt-ltb f n l) (idle f l)) (λ l. rw (le-ltb f n l, ne_eqb f 0 (λ e. omega arith))) (cases_lt f n)

  pub cleared_view : view_of n r ≡ empty
  unfolding place_of device_of top_of low_of
  cleared_view =
      same_view (view_of n r) empty (fun_ext uses)
      (fun_ext (λ c. fun_ext (λ v. always (ltb c 32 && ltb v 1024) _ _ (λ e. let b = below2 c 32 v 1024 e in ap (λ (x : ℕ). place_from (shown_in x)) (zeros (c * 1024 + v) (omega (arith, b.0, b.1)))))))
      (fun_ext (λ d. always (ltb d 32) _ _ (λ e. let b = ltb-true d 32 e in ap device_from (zeros (49152 + 2 * d) (omega arith)))))
      (fun_ext (λ d. always (ltb d 32) _ _ (λ e. let b = ltb-true d 32 e in ap number_from (zeros (49152 + 2 * d + 1) (omega arith)))))
      (fun_ext (λ d. fun_ext (λ i. always (ltb d 32 && ltb i 512) _ _ (λ e. let b = below2 d 32 i 512 e in ap number_from (zeros (32768 + d * 512 + i) (omega (arith, b.0, b.1)))))))

  no_tags : (c v : ℕ) → tag_of r c v ≡ 0
  unfolding tag_of
  no_tags c v = always (ltb c 32 && ltb v 1024) _ _ (λ e. let b = below2 c 32 v 1024 e in ap tag_in (zeros (c * 1024 + v) (omega (arith, b.0, b.1))))

  pub cleared_tags : Tagged (tag_of r) (view_of n r)
  cleared_tags = subst (Tagged (tag_of r)) (sym cleared_view) no_tags

  pub cleared_coherent : Coherent (view_of n r)
  cleared_coherent = subst Coherent (sym cleared_view) empty_coherent
