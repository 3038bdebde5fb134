-- A loop over the places of a program that hides all registers: its start, its step and its end.
use Rattle.std.proofs.Common.{◌≡◌, ℕ, zero, suc, ◌+◌, ◌<◌, ◌≤◌, Bool, true, false, cond, ◌&&◌, eqb, ltb, List, sym, refl, ap, ◌∙◌, ⊎_elim, arith}
use mathlib.Core.Path.{fun_ext}
use Rattle.std.proofs.lemmas.Bool.{eq-eqb, cases_lt, cond_both, lt-ltb, le-ltb}
use Rattle.ledger.specs.declared.Place.{Place}
use Rattle.ledger.specs.declared.Place.TheVariants.{Nothing, Page, Registers}
use Rattle.ledger.specs.Room.{place_of, device_of}
use Rattle.ledger.specs.View.{View, view_of}
use Rattle.ledger.specs.Uses.{owner_is, shows_any}
use Rattle.ledger.specs.Consistent.{Consistent}
use Rattle.ledger.proofs.Entries.{same_view}
use Rattle.ledger.proofs.Laws.{place_within}
use Rattle.ledger.proofs.Coherence.{one_owner}
use Rattle.house.specs.Unmapping.{count, one_if}
use Rattle.house.specs.Closures.{shows_some, bare, bare_below, bared}
use Rattle.house.proofs.Rooms.{registers_ok}

-- past the last place nothing is shown
none_past : (r : List ℕ) (a b : ℕ) → 1024 ≤ b → place_of r a b ≡ Nothing
none_past r a b l = go (place_of r a b) refl
  where
    go : (x : Place) → place_of r a b ≡ x → place_of r a b ≡ Nothing
    go Nothing e = e
    go (Page f) e = absurd (let w = place_within r a b (λ z. let q : Nothing ≡ Page f = sym z ∙ e in let y : ◌≡◌ {A = ℕ} 0 1 = cc in omega arith) in omega (arith, w.1))
    go (Registers f) e = absurd (let w = place_within r a b (λ z. let q : Nothing ≡ Registers f = sym z ∙ e in let y : ◌≡◌ {A = ℕ} 0 1 = cc in omega arith) in omega (arith, w.1))

pub bare_all : (n : ℕ) (r : List ℕ) (c : ℕ) → bare_below c 1024 (view_of n r) ≡ bared c (view_of n r)
bare_all n r c = same_view (bare_below c 1024 (view_of n r)) (bared c (view_of n r)) refl (fun_ext (λ a. fun_ext (λ b. go a b))) refl refl refl
  where
    and_true : (t : Bool) (x y : Place) → cond (t && true) x y ≡ cond t x y
    and_true true x y = refl
    and_true false x y = refl

    same_both : (s t : Bool) (x : Place) → cond s x x ≡ cond t x x
    same_both true true x = refl
    same_both true false x = refl
    same_both false true x = refl
    same_both false false x = refl

    go : (a b : ℕ) → cond (eqb a c && ltb b 1024) (bare (place_of r a b)) (place_of r a b) ≡ cond (eqb a c) (bare (place_of r a b)) (place_of r a b)
    go a b =
        ⊎_elim (λ (l : b < 1024). rw (lt-ltb b 1024 l) (and_true (eqb a c) (bare (place_of r a b)) (place_of r a b)))
        (λ (l : 1024 ≤ b). rw (none_past r a b l) (same_both (eqb a c && ltb b 1024) (eqb a c) Nothing)) (cases_lt b 1024)

-- a place that the loop has not come to shows what it showed
pub looked_at : (n c k : ℕ) (r q : List ℕ) → view_of n q ≡ bare_below c k (view_of n r) → shows_some (place_of q c k) ≡ shows_some (place_of r c k)
looked_at n c k r q e = ap (λ (z : View). shows_some (z.place c k)) e ∙ rw (eq-eqb c c refl, le-ltb k k (omega arith))

-- then the registers of the program's devices are shown nowhere
pub bare_nowhere : (n : ℕ) (r q : List ℕ) → Consistent n r → (c : ℕ) → view_of n q ≡ bared c (view_of n r) → (a b d : ℕ) → place_of q a b ≡ Registers d → owner_is c (device_of q d) ≡ true → ⊥
bare_nowhere n r q K c e a b d p o =
    let dev = ap (λ (z : View). owner_is c (z.device d)) (sym e) ∙ o in
    cond_both (eqb a c) (bare (place_of r a b)) (place_of r a b) (λ z. z ≡ Registers d → ⊥) (λ _. gone (place_of r a b))
    (λ f s. let m = registers_ok K.coherent a b d s in let own = ap (owner_is a) m ∙ eq-eqb a a refl in other f (one_owner a c (device_of r d) own dev))
    (ap (λ (z : View). z.place a b) (sym e) ∙ p)
  where
    gone : (x : Place) → bare x ≡ Registers d → ⊥
    gone Nothing z = let y : ◌≡◌ {A = ℕ} 0 1 = cc in omega arith
    gone (Page f) z = let y : ◌≡◌ {A = ℕ} 0 1 = cc in omega arith
    gone (Registers f) z = let y : ◌≡◌ {A = ℕ} 0 1 = cc in omega arith

    other : eqb a c ≡ false → a ≡ c → ⊥
    other f z = let t : ◌≡◌ {A = Bool} true false = sym (eq-eqb a c z) ∙ f in let y : ◌≡◌ {A = ℕ} 0 1 = cc in omega arith

-- registers and pages are at different places
pub apart : (q p : ℕ → Bool) (n : ℕ) → ((u : ℕ) → one_if (q u) + one_if (p u) ≤ 1) → count q n + count p n ≤ n
unfolding count
apart q p zero h = omega arith
apart q p (suc n) h = let k = apart q p n h in omega (arith, h n)

pub some_or_any : (x : Place) → one_if (shows_some x) + one_if (shows_any (bare x)) ≤ 1
some_or_any Nothing = omega arith
some_or_any (Page f) = omega arith
some_or_any (Registers d) = omega arith
