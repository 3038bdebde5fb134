-- Forgetting all of a device is a row of single steps, and leaves nothing of it.
use Rattle.std.proofs.Common.{◌≡◌, ℕ, Bool, true, false, cond, not, ◌&&◌, T, eqb, ◌⊎◌, List, [], ◌∷◌, ◌++◌, map, length, sym, refl, ap, ◌∙◌, subst, inl, inr, append_assoc}
use Rattle.std.proofs.lemmas.Bool.{cases_Bool, cond-true, cond-false}
use Rattle.house.specs.Event.{Event, Drained}
use Rattle.house.specs.Machine.{Hw, Step, Steps, none, more, known, drop_one, less_up, less_mid, less_leaf, fails, no_up, no_mid, no_leaf, Forgotten, counted, Drains, yes', not_yet, takes, puts, misses, up, mid, leaf, flies}
use Rattle.simulator.specs.declared.cached.LowerTable.{LowerTable}
use Rattle.simulator.specs.declared.cached.PageEntry.{PageEntry}
use Rattle.simulator.specs.declared.cached.UpperTable.{UpperTable}
use Rattle.simulator.specs.Kept.{without}
use Rattle.simulator.specs.Parts.{Parts, hw_of, seen_of, Goes, up_of, mid_of, leaf_of}
use Rattle.simulator.proofs.Asked.{steps_then}
use Rattle.simulator.proofs.Listed.{drop_mid}

-- any list from which single ones can be dropped
module _ {A W : Type 0} (f : W → A) (dev : W → ℕ) (at : List A → Hw) (es : List Event) (less : (xs : List A) (n : ℕ) → Steps (at xs) es (at (drop_one n xs)) es) (d : ℕ) where
  sieve_from : (pre : List A) (ws : List W) → Steps (at (pre ++ map f ws)) es (at (pre ++ map f (without dev d ws))) es
  sieve_from pre [] = none _ es
  sieve_from pre (w ∷ ws) = go (cases_Bool (not (eqb d (dev w)))) (λ qs. sieve_from qs ws)
    where
      P : List W → Type 0
      P vs = Steps (at (pre ++ (f w ∷ map f ws))) es (at (pre ++ map f vs)) es

      go : (not (eqb d (dev w)) ≡ true) ⊎ (not (eqb d (dev w)) ≡ false) → ((qs : List A) → Steps (at (qs ++ map f ws)) es (at (qs ++ map f (without dev d ws))) es) → P (cond (not (eqb d (dev w))) (w ∷ without dev d ws) (without dev d ws))
      go (inr e) r =
          subst P (sym (cond-false (not (eqb d (dev w))) (w ∷ without dev d ws) (without dev d ws) e))
          (steps_then (subst (λ (xs : List A). Steps (at (pre ++ (f w ∷ map f ws))) es (at xs) es) (drop_mid pre (f w) (map f ws)) (less (pre ++ (f w ∷ map f ws)) (length pre))) (r pre))
      go (inl e) r =
          subst P (sym (cond-true (not (eqb d (dev w))) (w ∷ without dev d ws) (without dev d ws) e))
          (subst (λ (xs : List A). Steps (at xs) es (at (pre ++ (f w ∷ map f (without dev d ws)))) es) (append_assoc pre (f w ∷ []) (map f ws))
          (subst (λ (xs : List A). Steps (at ((pre ++ (f w ∷ [])) ++ map f ws)) es (at xs) es) (append_assoc pre (f w ∷ []) (map f (without dev d ws))) (r (pre ++ (f w ∷ [])))))

  sieve : (ws : List W) → Steps (at (map f ws)) es (at (map f (without dev d ws))) es
  sieve ws = sieve_from [] ws

abbrev up_device : UpperTable → ℕ
up_device u = u.device

abbrev mid_device : LowerTable → ℕ
mid_device l = l.device

abbrev leaf_device : PageEntry → ℕ
leaf_device e = e.device

-- the parts with other lists
abbrev pub keeping : List UpperTable → List LowerTable → List PageEntry → List PageEntry → Parts → Parts
keeping a b c d p =
    record { frames = p.frames; devices = p.devices; mem = p.mem; space = p.space; live = p.live; ups = a; mids = b; leaves = c; flying = d; left = p.left; notes = p.notes }

pub forget_goes : (d : ℕ) (p : Parts) → Goes p (keeping (without up_device d p.ups) (without mid_device d p.mids) (without leaf_device d p.leaves) (without leaf_device d p.flying) p)
forget_goes d p =
    let h = hw_of p in
    let es = seen_of p in
    steps_then (sieve up_of up_device (λ xs. known xs h.mids h.leaves h.flying h) es (λ xs n. more (less_up (known xs h.mids h.leaves h.flying h) n) (none _ es)) d p.ups)
    (steps_then (sieve mid_of mid_device (λ xs. known (map up_of (without up_device d p.ups)) xs h.leaves h.flying h) es (λ xs n. more (less_mid (known (map up_of (without up_device d p.ups)) xs h.leaves h.flying h) n) (none _ es)) d p.mids)
    (steps_then (sieve leaf_of leaf_device (λ xs. known (map up_of (without up_device d p.ups)) (map mid_of (without mid_device d p.mids)) xs h.flying h) es (λ xs n. more (less_leaf (known (map up_of (without up_device d p.ups)) (map mid_of (without mid_device d p.mids)) xs h.flying h) n) (none _ es)) d p.leaves)
    (sieve leaf_of leaf_device (λ xs. known (map up_of (without up_device d p.ups)) (map mid_of (without mid_device d p.mids)) (map leaf_of (without leaf_device d p.leaves)) xs h) es (λ xs n. more (fails (known (map up_of (without up_device d p.ups)) (map mid_of (without mid_device d p.mids)) (map leaf_of (without leaf_device d p.leaves)) xs h) n) (none _ es)) d p.flying)))

-- nothing of d is left: a test that nothing is of d passes what was sifted
module _ {A W : Type 0} (f : W → A) (dev : W → ℕ) (d : ℕ) (clear : List A → Bool) (start : T (clear [])) (more : (w : W) (xs : List A) → T (not (eqb d (dev w))) → T (clear xs) → T (clear (f w ∷ xs))) where
  gone : (ws : List W) → T (clear (map f (without dev d ws)))
  gone [] = start
  gone (w ∷ ws) = go (not (eqb d (dev w))) refl (gone ws)
    where
      go : (b : Bool) → not (eqb d (dev w)) ≡ b → T (clear (map f (without dev d ws))) → T (clear (map f (cond b (w ∷ without dev d ws) (without dev d ws))))
      go true e r = more w (map f (without dev d ws)) (subst T (sym e) tt) r
      go false e r = r

both : (a b : Bool) → T a → T b → T (a && b)
both true b x y = y
both false b x y = x

up_gone : (d : ℕ) (ws : List UpperTable) → T (no_up d (map up_of (without up_device d ws)))
unfolding no_up
up_gone d ws = gone up_of up_device d (no_up d) tt (λ w xs. both (not (eqb d w.device)) (no_up d xs)) ws

mid_gone : (d : ℕ) (ws : List LowerTable) → T (no_mid d (map mid_of (without mid_device d ws)))
unfolding no_mid
mid_gone d ws = gone mid_of mid_device d (no_mid d) tt (λ w xs. both (not (eqb d w.device)) (no_mid d xs)) ws

leaf_gone : (d : ℕ) (ws : List PageEntry) → T (no_leaf d (map leaf_of (without leaf_device d ws)))
unfolding no_leaf
leaf_gone d ws = gone leaf_of leaf_device d (no_leaf d) tt (λ w xs. both (not (eqb d w.device)) (no_leaf d xs)) ws

pub forget_forgets : (d : ℕ) (p : Parts) → Forgotten d (hw_of (keeping (without up_device d p.ups) (without mid_device d p.mids) (without leaf_device d p.leaves) (without leaf_device d p.flying) p))
forget_forgets d p = (up_gone d p.ups, mid_gone d p.mids, leaf_gone d p.leaves, leaf_gone d p.flying)

-- the four lists, each as a call left it
pub keeping_as : (p : Parts) (a a' : List UpperTable) (b b' : List LowerTable) (c c' d d' : List PageEntry) → a ≡ a' → b ≡ b' → c ≡ c' → d ≡ d' → keeping a b c d p ≡ keeping a' b' c' d' p
keeping_as p a a' b b' c c' d d' e f g h = λ t. keeping (e t) (f t) (g t) (h t) p

-- steps leave how often the machine may still be asked
pub step_left : {h i : Hw} {fs : List Event} → Step h fs i → i.left ≡ h.left
step_left (up h d t a b c) = refl
step_left (mid h u s t a b c) = refl
step_left (leaf h m i a b c) = refl
step_left (less_up h n) = refl
step_left (less_mid h n) = refl
step_left (less_leaf h n) = refl
step_left (flies h l a) = refl
step_left (fails h n) = refl
step_left (takes h l k a b) = refl
step_left (puts h l k x a b c d) = refl
step_left (misses h d p w a b c) = refl

pub steps_left : {h j : Hw} {es gs : List Event} → Steps h es j gs → j.left ≡ h.left
steps_left (none h es) = refl
steps_left (more s r) = steps_left r ∙ step_left s

pub steps_at : {h i j k : Hw} {es fs gs hs : List Event} → h ≡ i → es ≡ fs → j ≡ k → gs ≡ hs → Steps h es j gs → Steps i fs k hs
steps_at {h} {i} {j} {k} {es} {fs} {gs} {hs} a b c d s =
    subst (λ (x : Hw). Steps x fs k hs) a (subst (λ (x : List Event). Steps h x k hs) b (subst (λ (x : Hw). Steps h es x hs) c (subst (λ (x : List Event). Steps h es j x) d s)))

pub forgot_all : (d : ℕ) (p : Parts) (a : List UpperTable) (b : List LowerTable) (c e : List PageEntry) → a ≡ without up_device d p.ups → b ≡ without mid_device d p.mids → c ≡ without leaf_device d p.leaves → e ≡ without leaf_device d p.flying →
    Goes p (keeping a b c e p) × Forgotten d (hw_of (keeping a b c e p))
forgot_all d p a b c e f g h i =
    let k = keeping_as p _ a _ b _ c _ e (sym f) (sym g) (sym h) (sym i) in
    (subst (λ (q : Parts). Goes p q) k (forget_goes d p), subst (λ (q : Parts). Forgotten d (hw_of q)) k (forget_forgets d p))

pub left_kept : (p q r : Parts) → Goes p q → r ≡ q → r.left ≡ p.left
left_kept p q r g e = ap (λ (x : Parts). x.left) e ∙ steps_left g

pub drain_no : (d : ℕ) (p a b c q : Parts) → Goes p a → b ≡ a → hw_of c ≡ counted (hw_of b) → seen_of c ≡ Drained d false ∷ seen_of b → Goes c q → Drains d (hw_of p) (seen_of p) false (hw_of q) (seen_of q)
drain_no d p a b c q g e h s r = not_yet (subst (λ (x : Parts). Goes p x) (sym e) g) (steps_at h s refl refl r)

pub drain_yes : (d : ℕ) (p a b f c q : Parts) → Goes p a → b ≡ a → Goes b f → Forgotten d (hw_of f) → hw_of c ≡ counted (hw_of f) → seen_of c ≡ Drained d true ∷ seen_of f → Goes c q → Drains d (hw_of p) (seen_of p) true (hw_of q) (seen_of q)
drain_yes d p a b f c q g e k w h s r = yes' (steps_then (subst (λ (x : Parts). Goes p x) (sym e) g) k) w (steps_at h s refl refl r)
