-- Lists in the front of an array, read newest first.
use Rattle.std.proofs.Common.{◌≡◌, ℕ, zero, suc, ◌+◌, ◌-◌, ◌<◌, ◌≤◌, Bool, true, false, cond, ◌⊎◌, List, [], ◌∷◌, ◌++◌, reverse, length, take, drop, get_or, sym, refl, ap, ◌∙◌, subst, inl, inr, arith, filter, find, IfSome, Some, None, append_assoc, append-nil, length-drop, ltb, eqb, set, not}
use mathlib.Core.List.{Memᴰ}
use Rattle.std.specs.List.{list_any}
use Rattle.std.proofs.lemmas.Bool.{cases_Bool, cond-true, cond-false, or_cases, le-ltb, lt-ltb, not_from_false, not_from_true, ne_eqb, eq-eqb}
use Rattle.std.proofs.lemmas.List.{reverse-append, length-reverse, length-take-le}
use Rattle.std.proofs.lemmas.List.Sorted.{list_any-IsPermutation, IsPermutation-reverse}
use Rattle.std.proofs.lemmas.List.Edits.{take-paste}
use lib.Seq.{paste}
use Rattle.std.proofs.lemmas.List.Filters.{FiltersInPlace, FiltersInPlace-more_set, FiltersInPlace-more_no}
use Rattle.house.specs.Machine.{drop_one}
use Rattle.simulator.specs.Kept.{among, learnt, without}

pub mem_at : {A : Type 0} (xs : List A) (i : ℕ) (x : A) → i < length xs → x ≡ get_or xs i x → Memᴰ x xs
mem_at [] i x l e = absurd (omega arith)
mem_at (y ∷ xs) zero x l e = Memᴰ.head e
mem_at (y ∷ xs) (suc i) x l e = Memᴰ.tail (mem_at xs i x (omega arith) e)

mem_right : {A : Type 0} (xs : List A) {x : A} {ys : List A} → Memᴰ x ys → Memᴰ x (xs ++ ys)
mem_right [] m = m
mem_right (z ∷ xs) m = Memᴰ.tail (mem_right xs m)

mem_left : {A : Type 0} (ys : List A) {x : A} {xs : List A} → Memᴰ x xs → Memᴰ x (xs ++ ys)
mem_left ys (Memᴰ.head e) = Memᴰ.head e
mem_left ys (Memᴰ.tail m) = Memᴰ.tail (mem_left ys m)

reverse_cons : {A : Type 0} (x : A) (xs : List A) → reverse (x ∷ xs) ≡ reverse xs ++ x ∷ []
reverse_cons x xs = reverse-append (x ∷ []) xs

pub mem_reverse : {A : Type 0} {x : A} {xs : List A} → Memᴰ x xs → Memᴰ x (reverse xs)
mem_reverse {A} {x} (Memᴰ.head {x = y} {xs} e) = subst (λ (ys : List A). Memᴰ x ys) (sym (reverse_cons y xs)) (mem_right (reverse xs) (Memᴰ.head e))
mem_reverse {A} {x} (Memᴰ.tail {x = y} {xs} m) = subst (λ (ys : List A). Memᴰ x ys) (sym (reverse_cons y xs)) (mem_left (y ∷ []) (mem_reverse m))

-- what a test of sameness finds is there
pub any_member : {A : Type 0} (eq : A → A → Bool) (same : (x y : A) → eq x y ≡ true → x ≡ y) (x : A) (xs : List A) → list_any (λ y. eq y x) xs ≡ true → Memᴰ x xs
any_member eq same x [] e = absurd (let z : ◌≡◌ {A = Bool} false true = e in let y : ◌≡◌ {A = ℕ} 0 1 = cc in omega arith)
any_member {A} eq same x (y ∷ ys) e = go (or_cases (eq y x) (list_any (λ z. eq z x) ys) e) (any_member eq same x ys)
  where
    go : (eq y x ≡ true) ⊎ (list_any (λ z. eq z x) ys ≡ true) → (list_any (λ z. eq z x) ys ≡ true → Memᴰ x ys) → Memᴰ x (y ∷ ys)
    go (inl a) r = Memᴰ.head (sym (same y x a))
    go (inr a) r = Memᴰ.tail (r a)

pub any_reverse : {A : Type 0} (p : A → Bool) (xs : List A) → list_any p xs ≡ list_any p (reverse xs)
any_reverse p xs = list_any-IsPermutation p xs (reverse xs) (IsPermutation-reverse xs)

pub found_member : {A : Type 0} (p : A → Bool) (xs : List A) → IfSome (find p xs) (λ x. (p x ≡ true) × Memᴰ x xs)
found_member p [] = tt
found_member {A} p (x ∷ xs) = go (cases_Bool (p x)) (found_member p xs)
  where
    P : Rattle.std.specs.declared.option.Option.Option A → Type 0
    P r = IfSome r (λ y. (p y ≡ true) × Memᴰ y (x ∷ xs))

    more : (r : Rattle.std.specs.declared.option.Option.Option A) → IfSome r (λ y. (p y ≡ true) × Memᴰ y xs) → P r
    more None h = tt
    more (Some y) h = (h.0, Memᴰ.tail h.1)

    go : (p x ≡ true) ⊎ (p x ≡ false) → IfSome (find p xs) (λ y. (p y ≡ true) × Memᴰ y xs) → P (cond (p x) (Some x) (find p xs))
    go (inl e) h = subst P (sym (cond-true (p x) (Some x) (find p xs) e)) (e, Memᴰ.head refl)
    go (inr e) h = subst P (sym (cond-false (p x) (Some x) (find p xs) e)) (more (find p xs) h)

-- one taken out
pub drop_mid : {A : Type 0} (pre : List A) (x : A) (xs : List A) → drop_one (length pre) (pre ++ x ∷ xs) ≡ pre ++ xs
unfolding drop_one
drop_mid [] x xs = refl
drop_mid (y ∷ pre) x xs = ap (λ ys. y ∷ ys) (drop_mid pre x xs)

drop_reversed : {A : Type 0} (ys : List A) (x : A) (zs : List A) → drop_one (length zs) (reverse (ys ++ x ∷ zs)) ≡ reverse (ys ++ zs)
drop_reversed {A} ys x zs =
    let a : reverse (ys ++ x ∷ zs) ≡ (reverse zs ++ x ∷ []) ++ reverse ys = reverse-append ys (x ∷ zs) ∙ ap (λ us. us ++ reverse ys) (reverse_cons x zs) in
    let b : reverse (ys ++ x ∷ zs) ≡ reverse zs ++ x ∷ reverse ys = a ∙ append_assoc (reverse zs) (x ∷ []) (reverse ys) in
    ap (drop_one (length zs)) b ∙ (ap (λ n. drop_one n (reverse zs ++ x ∷ reverse ys)) (sym (length-reverse zs)) ∙ (drop_mid (reverse zs) x (reverse ys) ∙ sym (reverse-append ys zs)))

split_taken : {A : Type 0} (xs : List A) (i n : ℕ) → i < n → n ≤ length xs → (x : A) × (take n xs ≡ take i xs ++ x ∷ take (n - suc i) (drop (suc i) xs))
split_taken xs i zero l m = absurd (omega arith)
split_taken [] i (suc n) l m = absurd (omega arith)
split_taken (x ∷ xs) zero (suc n) l m = let q : n ≡ suc n - suc 0 = omega arith in (x, ap (λ j. x ∷ take j xs) q)
split_taken (x ∷ xs) (suc i) (suc n) l m =
    let r = split_taken xs i n (omega arith) (omega arith) in
    let q : n - suc i ≡ suc n - suc (suc i) = omega arith in
    (r.0, ap (λ ys. x ∷ ys) (r.1 ∙ ap (λ j. take i xs ++ r.0 ∷ take j (drop (suc i) xs)) q))

-- n stand there, and the one at i is taken out: those behind it are copied one place up
pub taken_out : {A : Type 0} (xs ys : List A) (n i : ℕ) → i < n → n ≤ length xs → ys ≡ paste xs i (drop (i + 1) xs) (n - (i + 1)) → reverse (take (n - 1) ys) ≡ drop_one (n - 1 - i) (reverse (take n xs))
taken_out {A} xs ys n i l m e =
    let k : ℕ = n - suc i in
    let rest : List A = drop (suc i) xs in
    let s = split_taken xs i n l m in
    let q0 : i + 1 ≡ suc i = omega arith in
    let q1 : n - 1 ≡ i + k = omega arith in
    let q2 : n - 1 - i ≡ k = omega arith in
    let e' : ys ≡ paste xs i rest k = e ∙ ap (λ j. paste xs i (drop j xs) (n - j)) q0 in
    let ln : length rest ≡ length xs - suc i = length-drop (suc i) xs in
    let t : take (n - 1) ys ≡ take i xs ++ take k rest = ap (take (n - 1)) e' ∙ (ap (λ j. take j (paste xs i rest k)) q1 ∙ take-paste xs i rest k (omega arith) (omega arith)) in
    let w : length (take k rest) ≡ k = length-take-le k rest (omega arith) in
    ap reverse t ∙ (sym (drop_reversed (take i xs) s.0 (take k rest)) ∙ (ap (λ j. drop_one j (reverse (take i xs ++ s.0 ∷ take k rest))) (w ∙ sym q2) ∙ ap (λ us. drop_one (n - 1 - i) (reverse us)) (sym s.1)))

-- a filter of a list turned round
filter_append : {A : Type 0} (p : A → Bool) (xs ys : List A) → filter p (xs ++ ys) ≡ filter p xs ++ filter p ys
filter_append p [] ys = refl
filter_append {A} p (x ∷ xs) ys = go (p x) (filter_append p xs ys)
  where
    go : (b : Bool) → filter p (xs ++ ys) ≡ filter p xs ++ filter p ys → cond b (x ∷ filter p (xs ++ ys)) (filter p (xs ++ ys)) ≡ cond b (x ∷ filter p xs) (filter p xs) ++ filter p ys
    go true r = ap (λ us. x ∷ us) r
    go false r = r

pub filter_reverse : {A : Type 0} (p : A → Bool) (xs : List A) → reverse (filter p xs) ≡ filter p (reverse xs)
filter_reverse p [] = refl
filter_reverse {A} p (x ∷ xs) =
    go (p x) refl (filter_reverse p xs) ∙ (sym (filter_append p (reverse xs) (x ∷ [])) ∙ ap (filter p) (sym (reverse_cons x xs)))
  where
    go : (b : Bool) → p x ≡ b → reverse (filter p xs) ≡ filter p (reverse xs) → reverse (cond b (x ∷ filter p xs) (filter p xs)) ≡ filter p (reverse xs) ++ cond b (x ∷ []) []
    go true e r = reverse_cons x (filter p xs) ∙ ap (λ us. us ++ x ∷ []) r
    go false e r = r ∙ sym (append-nil (filter p (reverse xs)))

-- all of a device taken out: so many looked at, so many left
abbrev pub Sifting : {A : Type 0} → (A → ℕ) → ℕ → List A → List A → ℕ → ℕ → Type 0
Sifting dev d xs ys k i = FiltersInPlace (λ x. not (eqb d (dev x))) xs ys k i

module _ {A : Type 0} (dev : A → ℕ) (d : ℕ) (xs ys : List A) (k i : ℕ) (f : Sifting dev d xs ys k i) where
  pub sifting_in : (x : A) (r : ℕ) → i < length ys → x ≡ get_or ys i x → r ≡ dev x → (r ≡ d → ⊥) → Sifting dev d xs (set ys k x) (k + 1) (i + 1)
  sifting_in x r l e q ne = FiltersInPlace-more_set f l (not_from_false (eqb d (dev x)) (ne_eqb d (dev x) (λ z. ne (q ∙ sym z)))) e

  pub sifting_out : (x : A) (r : ℕ) → i < length ys → x ≡ get_or ys i x → r ≡ dev x → r ≡ d → Sifting dev d xs ys k (i + 1)
  sifting_out x r l e q z = FiltersInPlace-more_no f l (not_from_true (eqb d (dev x)) (eq-eqb d (dev x) (sym z ∙ q))) e

  pub sifted : (n : ℕ) → i ≡ n → reverse (take k ys) ≡ without dev d (reverse (take n xs))
  sifted n e = ap reverse f.front ∙ (filter_reverse (λ x. not (eqb d (dev x))) (take i xs) ∙ ap (λ j. without dev d (reverse (take j xs))) e)

-- one chosen among those that stand there
pub chosen : {A : Type 0} (xs ys : List A) (i : ℕ) (x : A) → xs ≡ ys → i < length xs → x ≡ get_or xs i x → Memᴰ x (reverse ys)
chosen {A} xs ys i x e l f = mem_reverse (subst (λ (us : List A). Memᴰ x us) e (mem_at xs i x l f))

-- keeping one more: what a test among those that stand there says
module _ {A : Type 0} (eq : A → A → Bool) (x : A) (xs ys : List A) (n m : ℕ) (r : Bool) (e : xs ≡ ys) (t : r ≡ list_any (λ y. eq y x) xs) where
  is_among : among eq x (reverse ys) ≡ r
  is_among = sym (any_reverse (λ y. eq y x) ys) ∙ (ap (list_any (λ y. eq y x)) (sym e) ∙ sym t)

  pub known_member : (same : (a b : A) → eq a b ≡ true → a ≡ b) → r ≡ true → Memᴰ x (reverse ys)
  known_member same q = mem_reverse (subst (λ (us : List A). Memᴰ x us) e (any_member eq same x xs (sym t ∙ q)))

  pub unknown : r ≡ false → among eq x (reverse ys) ≡ false
  unknown q = is_among ∙ q

  pub learnt_known : r ≡ true → reverse ys ≡ learnt eq x n m (reverse ys)
  learnt_known q = sym (cond-true (among eq x (reverse ys)) _ _ (is_among ∙ q))

  pub learnt_full : r ≡ false → m ≤ n → reverse ys ≡ learnt eq x n m (reverse ys)
  learnt_full q l = sym (cond-false (among eq x (reverse ys)) _ _ (is_among ∙ q) ∙ cond-false (ltb n m) _ _ (le-ltb n m l))

  pub learnt_new : r ≡ false → n < m → x ∷ reverse ys ≡ learnt eq x n m (reverse ys)
  learnt_new q l = sym (cond-false (among eq x (reverse ys)) _ _ (is_among ∙ q) ∙ cond-true (ltb n m) _ _ (lt-ltb n m l))

-- nothing is there to be dropped
pub none_dropped : {A : Type 0} (xs : List A) (n : ℕ) → n ≡ 0 → (k : ℕ) × (reverse (take n xs) ≡ drop_one k (reverse (take n xs)))
unfolding drop_one
none_dropped {A} xs n e = (0, subst (λ (j : ℕ). reverse (take j xs) ≡ drop_one 0 (reverse (take j xs))) (sym e) refl)
