-- Places that are unmapped while a call is under way: the meaning is not asked for them until the call is over.
use Rattle.std.proofs.Common.{◌≡◌, ℕ, zero, suc, ◌+◌, ◌<◌, ◌≤◌, Bool, true, false, ◌&&◌, ◌||◌, eqb, ltb, List, sym, refl, ap, ◌∙◌, subst, ⊎_elim, add-one, arith}
use mathlib.Core.Path.{fun_ext}
use Rattle.std.proofs.lemmas.Bool.{cases_eq, cases_lt, eq-eqb, ne_eqb, lt-ltb, le-ltb}
use Rattle.ledger.specs.View as ledger
use Rattle.house.specs.Event.{Event}
use Rattle.house.specs.Machine.{Hw, Nothing, Steps, counted, shows}
use Rattle.house.specs.Meaning.{Now}
use Rattle.house.specs.Serving.{Progress, Holds}
use Rattle.house.specs.Unmapping.{Hides, Hid, count, one_if}
use Rattle.house.proofs.Steps.{steps_same}
use Rattle.house.proofs.Between.{holds_steps}
use Rattle.house.proofs.Hiding.{hiding, hide_place}

abbrev pub with_hidden : (ℕ → ℕ → Bool) → Progress → Progress
with_hidden x p = record { cut = p.cut; hidden = x; yeses = p.yeses; noes = p.noes }

-- the places of c below k that pass the test show nothing already
abbrev pub hiding_below : ℕ → (ℕ → Bool) → ℕ → Progress → Progress
hiding_below c q k p = with_hidden (λ a b. (eqb a c && (ltb b k && q b)) || p.hidden a b) p

-- which places are hidden, said in another way
pub hidden_as : {v : ledger.View} (p : Progress) {n : Now} {h : Hw} {es : List Event} (x y : ℕ → ℕ → Bool) → ((a b : ℕ) → x a b ≡ y a b) → Holds v (with_hidden x p) n h es → Holds v (with_hidden y p) n h es
hidden_as {v} p {n} {h} {es} x y e a = subst (λ (z : ℕ → ℕ → Bool). Holds v (with_hidden z p) n h es) (fun_ext (λ i. fun_ext (λ j. e i j))) a

none_below : (t x h : Bool) (b : ℕ) → h ≡ ((t && (ltb b 0 && x)) || h)
none_below t x h b = rw (le-ltb b 0 (omega arith)) (go t)
  where
    go : (t : Bool) → h ≡ ((t && false) || h)
    go true = refl
    go false = refl

and_false : (x : Bool) → (x && false) ≡ false
and_false true = refl
and_false false = refl

-- the next place is passed over
below_skip : (q : ℕ → Bool) (m b : ℕ) → q m ≡ false → (ltb b m && q b) ≡ (ltb b (suc m) && q b)
below_skip q m b e =
    ⊎_elim (λ (z : b ≡ m). rw (z, e) (and_false (ltb m m) ∙ sym (and_false (ltb m (suc m)))))
    (λ (n : b ≡ m → ⊥). ⊎_elim (λ (l : b < m). rw (lt-ltb b m l, lt-ltb b (suc m) (omega arith))) (λ (l : m ≤ b). rw (le-ltb b m l, le-ltb b (suc m) (omega (arith, n)))) (cases_lt b m)) (cases_eq b m)

-- or counted in
below_more : (q : ℕ → Bool) (m b : ℕ) (t h : Bool) → q m ≡ true → ((t && eqb b m) || ((t && (ltb b m && q b)) || h)) ≡ ((t && (ltb b (suc m) && q b)) || h)
below_more q m b t h e =
    ⊎_elim (λ (z : b ≡ m). rw (z, e, eq-eqb m m refl, lt-ltb m (suc m) (omega arith), le-ltb m m (omega arith)) (here t))
    (λ (n : b ≡ m → ⊥). ⊎_elim (λ (l : b < m). rw (ne_eqb b m n, lt-ltb b m l, lt-ltb b (suc m) (omega arith)) (off t (q b))) (λ (l : m ≤ b). rw (ne_eqb b m n, le-ltb b m l, le-ltb b (suc m) (omega (arith, n))) (off t false)) (cases_lt b m)) (cases_eq b m)
  where
    here : (t : Bool) → ((t && true) || ((t && false) || h)) ≡ ((t && true) || h)
    here true = refl
    here false = refl

    off : (t x : Bool) → ((t && false) || ((t && x) || h)) ≡ ((t && x) || h)
    off true x = refl
    off false x = refl

-- all the places that a loop unmaps
pub hides_hold : {v : ledger.View} {p : Progress} {n : Now} {c : ℕ} {q : ℕ → Bool} {h : Hw} {es : List Event} {m : ℕ} {j : Hw} {gs : List Event} → Holds v p n h es → Hides c q h es m j gs → Holds v (hiding_below c q m p) n j gs
hides_hold {p = p} {c = c} {q = q} a Hides.none = hidden_as p p.hidden (hiding_below c q 0 p).hidden (λ i b. none_below (eqb i c) (q b) (p.hidden i b) b) a
hides_hold {p = p} {c = c} {q = q} a (Hides.skip {n = m} s e) =
    hidden_as p (hiding_below c q m p).hidden (hiding_below c q (suc m) p).hidden (λ i b. ap (λ (z : Bool). (eqb i c && z) || p.hidden i b) (below_skip q m b e)) (hides_hold a s)
hides_hold {p = p} {c = c} {q = q} a (Hides.more {n = m} s e t) =
    hidden_as p (hiding c m (hiding_below c q m p)).hidden (hiding_below c q (suc m) p).hidden (λ i b. below_more q m b (eqb i c) (p.hidden i b) e) (holds_steps (hide_place c m (hides_hold a s)) t)

-- the loop, turn by turn
pub hid_none : (c : ℕ) (q : ℕ → Bool) (h : Hw) (es : List Event) → Hid c q h es 0 h es
unfolding count
hid_none c q h es = record { places = Hides.none; left = omega arith; frames = refl; devices = refl }

pub hid_skip : {c : ℕ} {q : ℕ → Bool} {h : Hw} {es : List Event} {n : ℕ} {j : Hw} {gs : List Event} → Hid c q h es n j gs → q n ≡ false → Hid c q h es (n + 1) j gs
unfolding count
hid_skip {c} {q} {h} {es} {n} {j} {gs} a e =
    let k : one_if (q n) ≡ 0 = ap one_if e in
    rw add-one (record { places = Hides.skip a.places e; left = omega (arith, a.left); frames = a.frames; devices = a.devices })

pub hid_more : {c : ℕ} {q : ℕ → Bool} {h : Hw} {es : List Event} {n : ℕ} {i j : Hw} {fs gs : List Event} → Hid c q h es n i fs → q n ≡ true → 0 < i.left → Steps (counted (shows c n Nothing i)) fs j gs → Hid c q h es (n + 1) j gs
unfolding count
hid_more {c} {q} {h} {es} {n} {i} {j} {fs} {gs} a e l m =
    let s = steps_same m in
    let k : one_if (q n) ≡ 1 = ap one_if e in
    rw add-one (record { places = Hides.more a.places e m; left = omega (arith, a.left, s.left); frames = s.frames ∙ a.frames; devices = s.devices ∙ a.devices })

-- at most as many as there are places
pub count_most : (q : ℕ → Bool) (n : ℕ) → count q n ≤ n
unfolding count
count_most q zero = omega arith
count_most q (suc n) = let k = count_most q n in let o = one_most (q n) in omega arith
  where
    one_most : (b : Bool) → one_if b ≤ 1
    one_most true = omega arith
    one_most false = omega arith

-- as long as places are left there are operations left
pub still_left : {c : ℕ} {q : ℕ → Bool} {h : Hw} {es : List Event} {n : ℕ} {j : Hw} {gs : List Event} (m : ℕ) → Hid c q h es n j gs → m ≤ h.left → n < m → 0 < j.left
still_left {q = q} {n = n} m a l lt = let k = count_most q n in omega (arith, a.left)

pub count_rises : (q : ℕ → Bool) (n m : ℕ) → n ≤ m → count q n ≤ count q m
unfolding count
count_rises q n zero l = let z : n ≡ 0 = omega arith in rw z (omega arith)
count_rises q n (suc m) l = ⊎_elim (λ (e : n ≡ suc m). rw e (omega arith)) (λ (d : n ≡ suc m → ⊥). let k = count_rises q n m (omega (arith, d)) in omega arith) (cases_eq n (suc m))

-- there is one left for each that passes
pub left_for : {c : ℕ} {q : ℕ → Bool} {h : Hw} {es : List Event} {n : ℕ} {j : Hw} {gs : List Event} (m : ℕ) → Hid c q h es n j gs → count q m ≤ h.left → n < m → q n ≡ true → 0 < j.left
unfolding count
left_for {q = q} {n = n} m a l lt e =
    let k = count_rises q (suc n) m (omega arith) in
    let o : one_if (q n) ≡ 1 = ap one_if e in
    omega (arith, a.left)
