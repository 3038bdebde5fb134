-- Each trick is one step of the unit or of a device, or none.
use Rattle.std.proofs.Common.{◌≡◌, ℕ, zero, suc, ◌+◌, ◌*◌, ◌<◌, Bool, true, false, cond, T, ◌⊎◌, List, [], ◌∷◌, map, length, Result, Ok, Err, sym, refl, ap, ◌∙◌, subst, inl, inr, arith}
use mathlib.Core.List.{Memᴰ}
use Rattle.house.specs.Event.{TookFrom}
use Rattle.house.specs.Machine.{Leaf, Steps, none, more, known, drop_one, up, mid, leaf, less_up, less_mid, less_leaf, flies, fails, takes, puts, misses, frame_in}
use Rattle.simulator.specs.declared.cached.LowerTable.{LowerTable}
use Rattle.simulator.specs.declared.cached.PageEntry.{PageEntry}
use Rattle.simulator.specs.declared.cached.UpperTable.{UpperTable}
use Rattle.simulator.specs.declared.front.NoRoom.{NoRoom}
use Rattle.simulator.specs.declared.refused.Refused.{Refused}
use Rattle.simulator.specs.Store.{mem_of}
use Rattle.simulator.specs.Parts.{Parts, hw_of, seen_of, Goes, up_of, mid_of, leaf_of}
use Rattle.simulator.specs.Effects.{Same, TookAt, PutAt, MissedAt}
use Rattle.simulator.proofs.Forgets.{keeping, steps_at}

pub truly : {b : Bool} → b ≡ true → T b
truly {b} e = subst T (sym e) tt

pub mem_map : {A B : Type 0} (f : A → B) {a : A} {xs : List A} → Memᴰ a xs → Memᴰ (f a) (map f xs)
mem_map f (Memᴰ.head e) = Memᴰ.head (ap f e)
mem_map f (Memᴰ.tail m) = Memᴰ.tail (mem_map f m)

-- whatever the tests say, a list is as it was or has one more
learnt_cases : {A : Type 0} (a b : Bool) (w : A) (xs ys : List A) → ys ≡ cond a xs (cond b (w ∷ xs) xs) → (ys ≡ xs) ⊎ (ys ≡ w ∷ xs)
learnt_cases true b w xs ys e = inl e
learnt_cases false true w xs ys e = inr e
learnt_cases false false w xs ys e = inl e

abbrev with_ups : List UpperTable → Parts → Parts
with_ups ws p = keeping ws p.mids p.leaves p.flying p

abbrev with_mids : List LowerTable → Parts → Parts
with_mids ws p = keeping p.ups ws p.leaves p.flying p

abbrev with_leaves : List PageEntry → Parts → Parts
with_leaves ws p = keeping p.ups p.mids ws p.flying p

abbrev with_flying : List PageEntry → Parts → Parts
with_flying ws p = keeping p.ups p.mids p.leaves ws p

pub up_goes : (p : Parts) (d t : ℕ) (a b : Bool) (ws : List UpperTable) → p.live ≡ true → d < length p.devices → mem_of p.mem 0 d ≡ suc t → ws ≡ cond a p.ups (cond b (record { device = d; table = t } ∷ p.ups) p.ups) →
    Goes p (with_ups ws p)
up_goes p d t a b ws live ld m el = go (learnt_cases a b _ p.ups ws el)
  where
    go : (ws ≡ p.ups) ⊎ (ws ≡ record { device = d; table = t } ∷ p.ups) → Goes p (with_ups ws p)
    go (inl e) = subst (λ (us : List UpperTable). Goes p (with_ups us p)) (sym e) (none (hw_of p) (seen_of p))
    go (inr e) = subst (λ (us : List UpperTable). Goes p (with_ups us p)) (sym e) (more (up (hw_of p) d t (truly live) ld m) (none _ _))

pub mid_goes : (p : Parts) (u : UpperTable) (s t : ℕ) (a b : Bool) (ws : List LowerTable) → Memᴰ u p.ups → s < 512 → mem_of p.mem u.table s ≡ suc t →
    ws ≡ cond a p.mids (cond b (record { device = u.device; slot = s; table = t } ∷ p.mids) p.mids) → Goes p (with_mids ws p)
mid_goes p u s t a b ws mu ls m el = go (learnt_cases a b _ p.mids ws el)
  where
    go : (ws ≡ p.mids) ⊎ (ws ≡ record { device = u.device; slot = s; table = t } ∷ p.mids) → Goes p (with_mids ws p)
    go (inl e) = subst (λ (us : List LowerTable). Goes p (with_mids us p)) (sym e) (none (hw_of p) (seen_of p))
    go (inr e) = subst (λ (us : List LowerTable). Goes p (with_mids us p)) (sym e) (more (mid (hw_of p) (up_of u) s t (mem_map up_of mu) ls m) (none _ _))

pub leaf_goes : (p : Parts) (m : LowerTable) (k e : ℕ) (a b : Bool) (ws : List PageEntry) → Memᴰ m p.mids → k < 512 → e ≡ mem_of p.mem m.table k → 0 < e →
    ws ≡ cond a p.leaves (cond b (record { device = m.device; page = 512 * m.slot + k; entry = e } ∷ p.leaves) p.leaves) → Goes p (with_leaves ws p)
leaf_goes p m k e a b ws mm lk et pt el = go (learnt_cases a b _ p.leaves ws el)
  where
    new : ℕ → Leaf
    new x = record { dev = m.device; page = 512 * m.slot + k; entry = x }

    go : (ws ≡ p.leaves) ⊎ (ws ≡ record { device = m.device; page = 512 * m.slot + k; entry = e } ∷ p.leaves) → Goes p (with_leaves ws p)
    go (inl f) = subst (λ (us : List PageEntry). Goes p (with_leaves us p)) (sym f) (none (hw_of p) (seen_of p))
    go (inr f) =
        subst (λ (us : List PageEntry). Goes p (with_leaves us p)) (sym f)
        (subst (λ (x : ℕ). Steps (hw_of p) (seen_of p) (known (hw_of p).ups (hw_of p).mids (new x ∷ (hw_of p).leaves) (hw_of p).flying (hw_of p)) (seen_of p)) (sym et)
        (more (leaf (hw_of p) (mid_of m) k (mem_map mid_of mm) lk (omega arith)) (none _ _)))

pub fly_goes : (p : Parts) (l : PageEntry) (a b : Bool) (ws : List PageEntry) → Memᴰ l p.leaves → ws ≡ cond a p.flying (cond b (l ∷ p.flying) p.flying) → Goes p (with_flying ws p)
fly_goes p l a b ws ml el = go (learnt_cases a b l p.flying ws el)
  where
    go : (ws ≡ p.flying) ⊎ (ws ≡ l ∷ p.flying) → Goes p (with_flying ws p)
    go (inl e) = subst (λ (us : List PageEntry). Goes p (with_flying us p)) (sym e) (none (hw_of p) (seen_of p))
    go (inr e) = subst (λ (us : List PageEntry). Goes p (with_flying us p)) (sym e) (more (flies (hw_of p) (leaf_of l) (mem_map leaf_of ml)) (none _ _))

-- forgetting one
drop_map : {A B : Type 0} (f : A → B) (n : ℕ) (ws : List A) → drop_one n (map f ws) ≡ map f (drop_one n ws)
unfolding drop_one
drop_map f n [] = refl
drop_map f zero (w ∷ ws) = refl
drop_map f (suc n) (w ∷ ws) = ap (λ xs. f w ∷ xs) (drop_map f n ws)

pub up_dropped : (p : Parts) (ws : List UpperTable) → (n : ℕ) × (ws ≡ drop_one n p.ups) → Goes p (with_ups ws p)
up_dropped p ws (n, e) =
    let h = hw_of p in
    steps_at {h = h} {es = seen_of p} refl refl (ap (λ xs. known xs h.mids h.leaves h.flying h) (drop_map up_of n p.ups ∙ ap (map up_of) (sym e))) refl (more (less_up h n) (none _ _))

pub mid_dropped : (p : Parts) (ws : List LowerTable) → (n : ℕ) × (ws ≡ drop_one n p.mids) → Goes p (with_mids ws p)
mid_dropped p ws (n, e) =
    let h = hw_of p in
    steps_at {h = h} {es = seen_of p} refl refl (ap (λ xs. known h.ups xs h.leaves h.flying h) (drop_map mid_of n p.mids ∙ ap (map mid_of) (sym e))) refl (more (less_mid h n) (none _ _))

pub leaf_dropped : (p : Parts) (ws : List PageEntry) → (n : ℕ) × (ws ≡ drop_one n p.leaves) → Goes p (with_leaves ws p)
leaf_dropped p ws (n, e) =
    let h = hw_of p in
    steps_at {h = h} {es = seen_of p} refl refl (ap (λ xs. known h.ups h.mids xs h.flying h) (drop_map leaf_of n p.leaves ∙ ap (map leaf_of) (sym e))) refl (more (less_leaf h n) (none _ _))

pub less_flying : (p : Parts) (ws : List PageEntry) → (n : ℕ) × (ws ≡ drop_one n p.flying) → Goes p (with_flying ws p)
less_flying p ws (n, e) =
    let h = hw_of p in
    steps_at {h = h} {es = seen_of p} refl refl (ap (λ xs. known h.ups h.mids h.leaves xs h) (drop_map leaf_of n p.flying ∙ ap (map leaf_of) (sym e))) refl (more (fails h n) (none _ _))

-- accesses under way
same_goes : (p q : Parts) → Same p q → Goes p q
same_goes p q s = steps_at {h = hw_of p} {es = seen_of p} refl refl (sym s.0) (sym s.1) (none (hw_of p) (seen_of p))

pub take_goes : (p q : Parts) (l : PageEntry) (k : ℕ) (r : Result ℕ Refused) → Memᴰ l p.flying → k < 512 → TookAt p l.device l.page l.entry k r q → Goes p q
take_goes p q l k (Err e) m lk t = same_goes p q t.0
take_goes p q l k (Ok x) m lk t =
    steps_at {h = hw_of p} {es = seen_of p} refl refl (sym t.1) (sym (t.2 ∙ ap (λ y. TookFrom l.device l.page (frame_in l.entry) k y ∷ seen_of p) t.0))
    (more (takes (hw_of p) (leaf_of l) k (mem_map leaf_of m) lk) (none _ _))

pub put_by_goes : (p q : Parts) (l : PageEntry) (k x : ℕ) (r : Result (Unit {0}) Refused) → Memᴰ l p.flying → k < 512 → x < 18446744073709551616 → PutAt p l.device l.page l.entry k x r q → Goes p q
put_by_goes p q l k x (Err e) m lk lx t = same_goes p q t.0
put_by_goes p q l k x (Ok u) m lk lx t =
    steps_at {h = hw_of p} {es = seen_of p} refl refl (sym t.1) (sym t.2) (more (puts (hw_of p) (leaf_of l) k x (mem_map leaf_of m) lk lx t.0) (none _ _))

pub miss_goes : (p q : Parts) (d g : ℕ) (w : Bool) (r : Result Bool NoRoom) → d < length p.devices → g < 262144 → MissedAt p d g w r q → Goes p q
miss_goes p q d g w (Err e) ld lg t = same_goes p q t
miss_goes p q d g w (Ok false) ld lg t = same_goes p q t.0
miss_goes p q d g w (Ok true) ld lg t = steps_at {h = hw_of p} {es = seen_of p} refl refl (sym t.1) (sym t.2) (more (misses (hw_of p) d g w ld lg t.0) (none _ _))
