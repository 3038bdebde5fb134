-- What the unit knows of a device, and that forgetting leaves less of it.
-- Assumes nothing.
use Rattle.std.proofs.Common.{◌≡◌, ℕ, zero, suc, Bool, not, ◌&&◌, T, eqb, ◌⊎◌, List, [], ◌∷◌, sym, refl, ap, ◌∙◌, subst, inl, inr, eqb→eq, T_not}
use mathlib.Core.List.Memᴰ
use mathlib.Core.List.{Memᴰ}
use lib.Dec.{not_T}
use Rattle.house.specs.Machine.{Up, Mid, Leaf, drop_one, no_up, no_mid, no_leaf}
use Rattle.house.proofs.Shelf.{both, pair, same_number}

-- what holds of a new element and of the others holds of all
pub all_cons : {A : Type 0} (P : A → Type 0) (x : A) (xs : List A) → P x → ((y : A) → Memᴰ y xs → P y) → (y : A) → Memᴰ y (x ∷ xs) → P y
all_cons {A} P x xs new old y m = go (Memᴰ.cases_cons m)
  where
    go : (y ≡ x) ⊎ Memᴰ y xs → P y
    go (inl e) = subst P (sym e) new
    go (inr r) = old y r

pub drop_in : {A : Type 0} (n : ℕ) (xs : List A) (x : A) → Memᴰ x (drop_one n xs) → Memᴰ x xs
unfolding drop_one
drop_in n [] x m = m
drop_in zero (y ∷ ys) x m = Memᴰ.tail m
drop_in {A} (suc n) (y ∷ ys) x m = go (drop_in n ys x) (Memᴰ.cases_cons m)
  where
    go : (Memᴰ x (drop_one n ys) → Memᴰ x ys) → (x ≡ y) ⊎ Memᴰ x (drop_one n ys) → Memᴰ x (y ∷ ys)
    go deeper (inl e) = Memᴰ.head e
    go deeper (inr r) = Memᴰ.tail (deeper r)

-- a test that passes where none of a list is of device d
module _ {A : Type 0} (dev : A → ℕ) (d : ℕ) (free : List A → Bool) (none : T (free [])) (more : (x : A) (xs : List A) → free (x ∷ xs) ≡ (not (eqb d (dev x)) && free xs)) where
  other_dev : (xs : List A) → T (free xs) → (x : A) → Memᴰ x xs → d ≡ dev x → ⊥
  other_dev [] h x m = absurd (Memᴰ.not-nil m)
  other_dev (y ∷ ys) h x m = go (other_dev ys) (both (not (eqb d (dev y))) (free ys) (subst T (more y ys) h)) (Memᴰ.cases_cons m)
    where
      go : (T (free ys) → (z : A) → Memᴰ z ys → d ≡ dev z → ⊥) → T (not (eqb d (dev y))) × T (free ys) → (x ≡ y) ⊎ Memᴰ x ys → d ≡ dev x → ⊥
      go deeper p (inl e) q = T_not (eqb d (dev y)) p.0 (same_number d (dev y) (q ∙ ap dev e))
      go deeper p (inr r) q = deeper p.1 x r q

  free_cons : (x : A) (xs : List A) → (d ≡ dev x → ⊥) → T (free xs) → T (free (x ∷ xs))
  free_cons x xs h r = subst T (sym (more x xs)) (pair (not (eqb d (dev x))) (free xs) (not_T (eqb d (dev x)) (λ (q : T (eqb d (dev x))). h (eqb→eq d (dev x) q))) r)

  free_from : (xs : List A) → ((x : A) → Memᴰ x xs → d ≡ dev x → ⊥) → T (free xs)
  free_from [] h = none
  free_from (x ∷ xs) h = free_cons x xs (h x (Memᴰ.head refl)) (free_from xs (λ y m. h y (Memᴰ.tail m)))

  free_drop : (n : ℕ) (xs : List A) → T (free xs) → T (free (drop_one n xs))
  free_drop n xs h = free_from (drop_one n xs) (λ x m. other_dev xs h x (drop_in n xs x m))

pub no_up_cons : (d : ℕ) (x : Up) (xs : List Up) → (d ≡ x.dev → ⊥) → T (no_up d xs) → T (no_up d (x ∷ xs))
unfolding no_up
no_up_cons d = free_cons (λ x. x.dev) d (no_up d) tt (λ x xs. refl)

pub no_up_drop : (d n : ℕ) (xs : List Up) → T (no_up d xs) → T (no_up d (drop_one n xs))
unfolding no_up
no_up_drop d = free_drop (λ x. x.dev) d (no_up d) tt (λ x xs. refl)

pub no_up_not : (d : ℕ) (xs : List Up) → T (no_up d xs) → (x : Up) → Memᴰ x xs → d ≡ x.dev → ⊥
unfolding no_up
no_up_not d = other_dev (λ x. x.dev) d (no_up d) tt (λ x xs. refl)

pub no_mid_cons : (d : ℕ) (x : Mid) (xs : List Mid) → (d ≡ x.dev → ⊥) → T (no_mid d xs) → T (no_mid d (x ∷ xs))
unfolding no_mid
no_mid_cons d = free_cons (λ x. x.dev) d (no_mid d) tt (λ x xs. refl)

pub no_mid_drop : (d n : ℕ) (xs : List Mid) → T (no_mid d xs) → T (no_mid d (drop_one n xs))
unfolding no_mid
no_mid_drop d = free_drop (λ x. x.dev) d (no_mid d) tt (λ x xs. refl)

pub no_mid_not : (d : ℕ) (xs : List Mid) → T (no_mid d xs) → (x : Mid) → Memᴰ x xs → d ≡ x.dev → ⊥
unfolding no_mid
no_mid_not d = other_dev (λ x. x.dev) d (no_mid d) tt (λ x xs. refl)

pub no_leaf_cons : (d : ℕ) (x : Leaf) (xs : List Leaf) → (d ≡ x.dev → ⊥) → T (no_leaf d xs) → T (no_leaf d (x ∷ xs))
unfolding no_leaf
no_leaf_cons d = free_cons (λ x. x.dev) d (no_leaf d) tt (λ x xs. refl)

pub no_leaf_drop : (d n : ℕ) (xs : List Leaf) → T (no_leaf d xs) → T (no_leaf d (drop_one n xs))
unfolding no_leaf
no_leaf_drop d = free_drop (λ x. x.dev) d (no_leaf d) tt (λ x xs. refl)

pub no_leaf_not : (d : ℕ) (xs : List Leaf) → T (no_leaf d xs) → (x : Leaf) → Memᴰ x xs → d ≡ x.dev → ⊥
unfolding no_leaf
no_leaf_not d = other_dev (λ x. x.dev) d (no_leaf d) tt (λ x xs. refl)
