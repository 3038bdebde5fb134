-- What a consistent room gives of a page that a device has.
use Rattle.std.proofs.Common.{◌≢◌, zero, suc, rules, IsSome, Option, Some, ◌≡◌, ℕ, ◌/◌, ◌<◌, ◌≤◌, Bool, true, ◌&&◌, eqb, ltb, List, sym, refl, ap, ◌∙◌, subst, ⊎_elim, arith}
use Rattle.std.proofs.lemmas.Bool.{and_from, and_parts, eq-eqb, eqb-true, lt-ltb, le-ltb, cases_lt, cond-true}
use Rattle.ledger.specs.declared.Loan.{Loan}
use Rattle.ledger.specs.declared.Loan.TheVariants.{Home, Lent, Leaving}
use Rattle.ledger.specs.declared.mapping.Mapping.{Mapping}
use Rattle.ledger.specs.declared.Use.{Use}
use Rattle.ledger.specs.declared.Use.TheVariants.{Idle}
use Rattle.ledger.specs.declared.Place.TheVariants.{Page}
use Rattle.ledger.specs.declared.Device.{Device}
use Rattle.ledger.specs.Room.{use_of, place_of, low_of}
use Rattle.ledger.specs.View.{View, view_of}
use Rattle.ledger.specs.Uses.{loan_in, is_at, owner_is}
use Rattle.ledger.specs.Consistent.{Coherent, Consistent, LoanOk}
use Rattle.ledger.specs.Words.{noted}
use Rattle.house.specs.Mappings.{recalled, Away}
use Rattle.house.proofs.Rooms.{inside_room, page_there, loan_ok}

-- where a device is to see a page, by its parts
abbrev pub mapping : ℕ → ℕ → Bool → Mapping
mapping d p w = record { device = d; page = p; writes = w }

-- who may have a page lent may have it leaving
recalled_ok : (dev : ℕ → Device) (low : ℕ → ℕ → ℕ) (c : ℕ) (l : Loan) (to : Mapping) → recalled l ≡ Leaving to → LoanOk dev low c l → LoanOk dev low c (Leaving to)
recalled_ok dev low c Home to e o = let z : ◌≡◌ {A = ℕ} 0 1 = cc in absurd (omega arith)
recalled_ok dev low c (Lent m) to e o = subst (λ (y : Loan). LoanOk dev low c y) e (subst (λ (y : Device). owner_is c y ≡ true) (sym o.0) (eq-eqb c c refl), o.1, o.2)
recalled_ok dev low c (Leaving m) to e o = subst (λ (y : Loan). LoanOk dev low c y) e o

here_at : (to m : Mapping) → m ≡ to → (eqb to.device m.device && eqb to.page m.page) ≡ true
here_at to m q = rw q (and_from (eqb to.device to.device) (eqb to.page to.page) (eq-eqb to.device to.device refl) (eq-eqb to.page to.page refl))

recalled_at : (l : Loan) (to : Mapping) → recalled l ≡ Leaving to → is_at to.device to.page l ≡ true
recalled_at Home to e = let z : ◌≡◌ {A = ℕ} 0 1 = cc in absurd (omega arith)
recalled_at (Lent m) to e = here_at to m (cc)
recalled_at (Leaving m) to e = here_at to m (cc)

-- its owner may have it leaving, and no other frame is where it is
pub away_ok : {v : View} (c u f : ℕ) (to : Mapping) → Coherent v → v.place c u ≡ Page f → recalled (loan_in (v.used f)) ≡ Leaving to → LoanOk v.device v.low c (Leaving to)
away_ok {v} c u f to k s e =
    let x = page_there k c u f s in
    recalled_ok v.device v.low c x.0 to (subst (λ (y : Use). recalled (loan_in y) ≡ Leaving to) x.1 e) (loan_ok k c u f x.0 x.1)

pub away_alone : {v : View} (f : ℕ) (to : Mapping) → Coherent v → recalled (loan_in (v.used f)) ≡ Leaving to → (g a b : ℕ) → is_at a b (Leaving to) ≡ true → is_at a b (loan_in (v.used g)) ≡ true → g ≡ f
away_alone {v} f to k e g a b q r =
    let n = and_parts (eqb a to.device) (eqb b to.page) q in
    let x : is_at to.device to.page (loan_in (v.used g)) ≡ true = subst (λ (y : ℕ). is_at to.device y (loan_in (v.used g)) ≡ true) (eqb-true b to.page n.1) (subst (λ (y : ℕ). is_at y b (loan_in (v.used g)) ≡ true) (eqb-true a to.device n.0) r) in
    k.once g f to.device to.page x (recalled_at (loan_in (v.used f)) to e)

-- a frame of the machine, as the view has it
pub frame_seen : (n : ℕ) (r : List ℕ) (f : ℕ) → f < n → (view_of n r).used f ≡ use_of r f
frame_seen n r f l = cond-true (ltb f n) (use_of r f) Idle (lt-ltb f n l)

-- a page that a place shows is in such a frame
pub page_inside : (n : ℕ) (r : List ℕ) (c u f : ℕ) → Consistent n r → place_of r c u ≡ Page f → f < n
page_inside n r c u f k e = ⊎_elim (λ (l : f < n). l) (λ (g : n ≤ f). absurd (gone g)) (cases_lt f n)
  where
    gone : n ≤ f → ⊥
    gone g =
        let p = page_there k.coherent c u f e in
        let q = inside_room n r f g in
        let z : ◌≡◌ {A = ℕ} 0 1 = cc in omega arith

-- a lower table is noted only of a device that there may be
pub low_device : (r : List ℕ) (d i : ℕ) → (low_of r d i ≡ 0 → ⊥) → d < 32
unfolding low_of
low_device r d i n = ⊎_elim (λ (l : d < 32). l) (λ (g : 32 ≤ d). absurd (n (rw (le-ltb d 32 g)))) (cases_lt d 32)

-- how a page that is not home is mapped
pub record Mapped (n : ℕ) (r : List ℕ) (c u f : ℕ) (to : Mapping) : Type 0 where
  pub device : to.device < 32
  pub page : to.page < 262144
  pub some : low_of r to.device (to.page / 512) ≢ 0
  pub away : (t : ℕ) → low_of r to.device (to.page / 512) ≡ suc t → Away (view_of n r) c u f t to

pub mapped_there : {n : ℕ} {r : List ℕ} {c u f : ℕ} {to : Mapping} {x : Use} → Consistent n r → place_of r c u ≡ Page f → x ≡ use_of r f → recalled (loan_in x) ≡ Leaving to → Mapped n r c u f to
mapped_there {n} {r} {c} {u} {f} {to} {x} k s y e =
    let q = frame_seen n r f (page_inside n r c u f k s) in
    let l = subst (λ (y : Use). recalled (loan_in y) ≡ Leaving to) (y ∙ sym q) e in
    let o = away_ok {v = view_of n r} c u f to k.coherent s l in
    let b = low_device r to.device (to.page / 512) o.2 in
    record { device = b; page = o.1; some = o.2; away = λ t g. record { shown = s; loan = l; device = b; page = o.1; table = g } }

-- what is noted at the slot of a mapping
pub noted_at : (r ws : List ℕ) (to : Mapping) {d i : ℕ} {x : Option ℕ} → x ≡ noted (low_of ws d i) → ws ≡ r → d ≡ to.device → i ≡ to.page / 512 → x ≡ noted (low_of r to.device (to.page / 512))
noted_at r ws to {d} {i} q a b e = q ∙ ap (λ (z : List ℕ). noted (low_of z d i)) a ∙ ap (λ (z : ℕ). noted (low_of r z i)) b ∙ ap (λ (z : ℕ). noted (low_of r to.device z)) e

-- what is noted where a table is
pub some_noted : (x : ℕ) → x ≢ 0 → IsSome (noted x)
some_noted zero h = absurd (h refl)
some_noted (suc t) h = refl

pub noted_some : (x t : ℕ) → noted x ≡ Some t → x ≡ suc t
noted_some zero t e = search rules
noted_some (suc f) t e = search rules
