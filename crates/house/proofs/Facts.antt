-- Small facts that the lemmas on the relation share: views with one part changed, a word put into memory, entries and pages, what
-- is not known of a device, and uses told apart. Assumes nothing.
use Rattle.std.proofs.Common.{◌≡◌, ℕ, suc, ◌+◌, ◌-◌, ◌*◌, ◌/◌, ◌%◌, ◌<◌, Bool, true, false, not, ◌&&◌, ◌||◌, T, eqb, refl, arith, eqb→eq, List, sym, ap, ◌∙◌}
use mathlib.Core.List.{Memᴰ}
use Rattle.std.proofs.lemmas.Bool.{eq-eqb, ne_eqb, cond_both, eqb-true, and_right, and_parts}
use Rattle.house.specs.Machine.{put, frame_in, may_write, Up, Mid, Leaf, no_up, no_mid, no_leaf}
use Rattle.house.specs.Meaning.{Leaving, Use, House, TableOf, Idle, Of, Dev, reaches, is_idle}
use Rattle.house.specs.Sound.{View, entry_of}
use Rattle.house.proofs.Shelf.{both, differ}

-- a view with other uses, another row of devices, other slots
abbrev pub with_uses : (ℕ → Use) → View → View
with_uses u v = record { frames = v.frames; devices = v.devices; what = u; dev = v.dev; slots = v.slots }

abbrev pub with_devs : (ℕ → Dev) → View → View
with_devs e v = record { frames = v.frames; devices = v.devices; what = v.what; dev = e; slots = v.slots }

abbrev pub with_slots : (ℕ → ℕ → Bool) → View → View
with_slots x v = record { frames = v.frames; devices = v.devices; what = v.what; dev = v.dev; slots = x }

-- a word put into memory
pub put_here : (f k x : ℕ) (m : ℕ → ℕ → ℕ) → put f k x m f k ≡ x
put_here f k x m = rw (eq-eqb f f refl, eq-eqb k k refl)

pub put_elsewhere : (f k x : ℕ) (m : ℕ → ℕ → ℕ) (g j : ℕ) → (g ≡ f → ⊥) → put f k x m g j ≡ m g j
put_elsewhere f k x m g j h = rw (ne_eqb g f h)

pub put_beside : (f k x : ℕ) (m : ℕ → ℕ → ℕ) (g j : ℕ) → (j ≡ k → ⊥) → put f k x m g j ≡ m g j
put_beside f k x m g j h = rw (and_right (eqb g f) (eqb j k) (ne_eqb j k h))

pub put_either : (f k x : ℕ) (m : ℕ → ℕ → ℕ) (g j : ℕ) (P : ℕ → Type 0) → (g ≡ f → j ≡ k → P x) → P (m g j) → P (put f k x m g j)
put_either f k x m g j P here there =
    cond_both (eqb g f && eqb j k) x (m g j) P (λ e. let b = and_parts (eqb g f) (eqb j k) e in here (eqb-true g f b.0) (eqb-true j k b.1)) (λ _. there)

-- entries and pages
pub entry_frame : (g : ℕ) (w : Bool) → frame_in (entry_of g w) ≡ g
entry_frame g true = omega arith
entry_frame g false = omega arith

pub entry_writes : (g : ℕ) (w : Bool) → may_write (entry_of g w) ≡ w
entry_writes g true = eq-eqb ((suc (suc (2 * g)) - 1) % 2) 1 (omega arith)
entry_writes g false = ne_eqb ((suc (2 * g) - 1) % 2) 1 (omega arith)

pub entry_some : (g : ℕ) (w : Bool) → 0 < entry_of g w
entry_some g true = omega arith
entry_some g false = omega arith

pub page_back : (p : ℕ) → 512 * (p / 512) + p % 512 ≡ p
page_back p = omega arith

pub page_slot : (p : ℕ) → p < 262144 → p / 512 < 512
page_slot p l = omega arith

pub page_place : (p : ℕ) → p % 512 < 512
page_place p = omega arith

pub slot_of_page : (i j : ℕ) → j < 512 → (512 * i + j) / 512 ≡ i
slot_of_page i j l = omega arith

pub place_of_page : (i j : ℕ) → j < 512 → (512 * i + j) % 512 ≡ j
place_of_page i j l = omega arith

-- nothing of a device is known
pub up_gone : (d : ℕ) (u : Up) (us : List Up) → T (no_up d us) → Memᴰ u us → u.dev ≡ d → ⊥
unfolding no_up
up_gone d u _ t (Memᴰ.head {x = x} {xs = xs} e) h = differ d x.dev (both (not (eqb d x.dev)) (no_up d xs) t).0 (sym h ∙ ap (λ (y : Up). y.dev) e)
up_gone d u _ t (Memᴰ.tail {x = x} {xs = xs} m) h = up_gone d u xs (both (not (eqb d x.dev)) (no_up d xs) t).1 m h

pub mid_gone : (d : ℕ) (u : Mid) (us : List Mid) → T (no_mid d us) → Memᴰ u us → u.dev ≡ d → ⊥
unfolding no_mid
mid_gone d u _ t (Memᴰ.head {x = x} {xs = xs} e) h = differ d x.dev (both (not (eqb d x.dev)) (no_mid d xs) t).0 (sym h ∙ ap (λ (y : Mid). y.dev) e)
mid_gone d u _ t (Memᴰ.tail {x = x} {xs = xs} m) h = mid_gone d u xs (both (not (eqb d x.dev)) (no_mid d xs) t).1 m h

pub leaf_gone : (d : ℕ) (u : Leaf) (us : List Leaf) → T (no_leaf d us) → Memᴰ u us → u.dev ≡ d → ⊥
unfolding no_leaf
leaf_gone d u _ t (Memᴰ.head {x = x} {xs = xs} e) h = differ d x.dev (both (not (eqb d x.dev)) (no_leaf d xs) t).0 (sym h ∙ ap (λ (y : Leaf). y.dev) e)
leaf_gone d u _ t (Memᴰ.tail {x = x} {xs = xs} m) h = leaf_gone d u xs (both (not (eqb d x.dev)) (no_leaf d xs) t).1 m h

-- uses
pub idle_is : (u : Use) → T (is_idle u) → u ≡ Idle
unfolding is_idle
idle_is House t = absurd t
idle_is (TableOf d) t = absurd t
idle_is Idle t = refl
idle_is (Of c x l) t = absurd t

pub table_not_house : (u : Use) (d : ℕ) → u ≡ House → u ≡ TableOf d → ⊥
table_not_house u d p q = let z : ◌≡◌ {A = ℕ} 0 1 = cc in omega arith

pub table_not_idle : (u : Use) (d : ℕ) → u ≡ Idle → u ≡ TableOf d → ⊥
table_not_idle u d p q = let z : ◌≡◌ {A = ℕ} 0 1 = cc in omega arith

pub house_not_idle : (u : Use) → u ≡ House → u ≡ Idle → ⊥
house_not_idle u p q = let z : ◌≡◌ {A = ℕ} 0 1 = cc in omega arith

pub same_table : (u : Use) (d e : ℕ) → u ≡ TableOf d → u ≡ TableOf e → d ≡ e
same_table u d e p q = cc

-- what is reached at a page of a device is lent there, or on its way back from there
pub reached_at : (d p : ℕ) (w x : Bool) (e q : ℕ) → T (reaches d p w (Leaving e q x)) → (d ≡ e) × (p ≡ q)
unfolding reaches
reached_at d p w x e q t =
    let a = (both (eqb d e && eqb p q) (x || not w) t).0 in
    let b = both (eqb d e) (eqb p q) a in
    (eqb→eq d e b.0, eqb→eq p q b.1)
