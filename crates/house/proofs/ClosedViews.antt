-- Devices that are closed one after the other, as one change of the room.
use Rattle.std.proofs.Common.{◌≡◌, ℕ, suc, ◌<◌, ◌≤◌, Bool, true, false, cond, ◌&&◌, eqb, ltb, List, ◌∷◌, sym, refl, ap, ◌∙◌, ⊎_elim, arith}
use mathlib.Core.Path.{fun_ext}
use Rattle.std.proofs.lemmas.Bool.{cases_eq, cases_lt, eq-eqb, ne_eqb, lt-ltb, le-ltb}
use Rattle.ledger.specs.declared.Loan.{Loan}
use Rattle.ledger.specs.declared.Loan.TheVariants.{Home, Lent, Leaving}
use Rattle.ledger.specs.declared.Use.{Use}
use Rattle.ledger.specs.declared.Use.TheVariants.{House, TableOf, Idle, PageOf}
use Rattle.ledger.specs.declared.Place.{Place}
use Rattle.ledger.specs.declared.Place.TheVariants.{Nothing, Page, Registers}
use Rattle.ledger.specs.declared.Device.{Device}
use Rattle.ledger.specs.declared.Device.TheVariants.{Shut, Closing}
use Rattle.ledger.specs.View.{View}
use Rattle.ledger.specs.Uses.{map_loan, home_from, leaving_from, no_table, no_registers}
use Rattle.ledger.specs.Changes.{without_registers}
use Rattle.ledger.proofs.Entries.{same_view}
use Rattle.house.specs.Meaning.{is_in}
use Rattle.house.specs.Closures.{closed_as, below, closed_loan, closed_use, closed_all}

-- what a change leaves alone, in a choice
fix_one : {A : Type 0} (f : A → A) (t : Bool) (x y : A) → f x ≡ x → f y ≡ y → f (cond t x y) ≡ cond t x y
fix_one f true x y p q = p
fix_one f false x y p q = q

-- no registers of those devices are shown
abbrev pub unshown : (ℕ → Bool) → Place → Place
unshown mine Nothing = Nothing
unshown mine (Page f) = Page f
unshown mine (Registers d) = cond (mine d) Nothing (Registers d)

abbrev pub unshown_all : (ℕ → Bool) → View → View
unshown_all mine v = record { used = v.used; place = λ a b. unshown mine (v.place a b); device = v.device; top = v.top; low = v.low }

-- one device more
module _ (c d : ℕ) (mine gone mine2 gone2 : ℕ → Bool) (new : mine d ≡ false) (now_mine : mine2 d ≡ true) (same_mine : (e : ℕ) → (e ≡ d → ⊥) → mine2 e ≡ mine e) (same_gone : (e : ℕ) → (e ≡ d → ⊥) → gone2 e ≡ gone e) where
  -- and it was forgotten
  module _ (yes' : gone2 d ≡ true) where
    loan_home : (l : Loan) → home_from d (closed_loan mine gone l) ≡ closed_loan mine2 gone2 l
    loan_home Home = refl
    loan_home (Lent m) =
        ⊎_elim (λ (q : m.device ≡ d). rw (q, new, now_mine, yes', eq-eqb d d refl))
        (λ (n : m.device ≡ d → ⊥). rw (same_mine m.device n, same_gone m.device n) (
        let z : home_from d (Leaving m) ≡ Leaving m = rw (ne_eqb d m.device (λ y. n (sym y))) in
        fix_one (home_from d) (mine m.device) (cond (gone m.device) Home (Leaving m)) (Lent m) (fix_one (home_from d) (gone m.device) Home (Leaving m) refl z) (rw (ne_eqb d m.device (λ y. n (sym y))))
        )) (cases_eq m.device d)
    loan_home (Leaving m) =
        ⊎_elim (λ (q : m.device ≡ d). rw (q, new, now_mine, yes', eq-eqb d d refl))
        (λ (n : m.device ≡ d → ⊥). rw (same_mine m.device n, same_gone m.device n) (
        let z : home_from d (Leaving m) ≡ Leaving m = rw (ne_eqb d m.device (λ y. n (sym y))) in
        fix_one (home_from d) (mine m.device) (cond (gone m.device) Home (Leaving m)) (Leaving m) (fix_one (home_from d) (gone m.device) Home (Leaving m) refl z) z
        )) (cases_eq m.device d)

    use_shut : (x : Use) → no_table d (map_loan (home_from d) (closed_use mine gone x)) ≡ closed_use mine2 gone2 x
    use_shut House = refl
    use_shut (TableOf e t) =
        ⊎_elim (λ (q : e ≡ d). rw (q, new, now_mine, yes', eq-eqb d d refl))
        (λ (n : e ≡ d → ⊥). rw (same_mine e n, same_gone e n) (fix_one (λ (y : Use). no_table d (map_loan (home_from d) y)) (mine e && gone e) Idle (TableOf e t) refl (rw (ne_eqb d e (λ y. n (sym y)))))) (cases_eq e d)
    use_shut Idle = refl
    use_shut (PageOf a b l) = ap (PageOf a b) (loan_home l)

    table_shut : (e x : ℕ) → cond (eqb e d) 0 (cond (mine e && gone e) 0 x) ≡ cond (mine2 e && gone2 e) 0 x
    table_shut e x =
        ⊎_elim (λ (q : e ≡ d). rw (q, eq-eqb d d refl, now_mine, yes')) (λ (n : e ≡ d → ⊥). rw (ne_eqb e d n, same_mine e n, same_gone e n)) (cases_eq e d)

    device_shut : (e : ℕ) (x : Device) → cond (eqb e d) Shut (cond (mine e) (cond (gone e) Shut (Closing c)) x) ≡ cond (mine2 e) (cond (gone2 e) Shut (Closing c)) x
    device_shut e x =
        ⊎_elim (λ (q : e ≡ d). rw (q, eq-eqb d d refl, now_mine, yes')) (λ (n : e ≡ d → ⊥). rw (ne_eqb e d n, same_mine e n, same_gone e n)) (cases_eq e d)

    pub closed_yes : (v : View) → closed_as true c d (closed_all mine gone c v) ≡ closed_all mine2 gone2 c v
    closed_yes v =
        same_view (closed_as true c d (closed_all mine gone c v)) (closed_all mine2 gone2 c v) (fun_ext (λ g. use_shut (v.used g))) refl (fun_ext (λ e. device_shut e (v.device e))) (fun_ext (λ e. table_shut e (v.top e)))
        (fun_ext (λ e. fun_ext (λ i. table_shut e (v.low e i))))

  -- or not
  module _ (no_yet : gone2 d ≡ false) where
    loan_leaving : (l : Loan) → leaving_from d (closed_loan mine gone l) ≡ closed_loan mine2 gone2 l
    loan_leaving Home = refl
    loan_leaving (Lent m) =
        ⊎_elim (λ (q : m.device ≡ d). rw (q, new, now_mine, no_yet, eq-eqb d d refl))
        (λ (n : m.device ≡ d → ⊥). rw (same_mine m.device n, same_gone m.device n) (
        fix_one (leaving_from d) (mine m.device) (cond (gone m.device) Home (Leaving m)) (Lent m) (fix_one (leaving_from d) (gone m.device) Home (Leaving m) refl refl) (rw (ne_eqb d m.device (λ y. n (sym y))))
        )) (cases_eq m.device d)
    loan_leaving (Leaving m) =
        ⊎_elim (λ (q : m.device ≡ d). rw (q, new, now_mine, no_yet))
        (λ (n : m.device ≡ d → ⊥). rw (same_mine m.device n, same_gone m.device n) (fix_one (leaving_from d) (mine m.device) (cond (gone m.device) Home (Leaving m)) (Leaving m) (fix_one (leaving_from d) (gone m.device) Home (Leaving m) refl refl) refl)) (cases_eq m.device d)

    use_closing : (x : Use) → map_loan (leaving_from d) (closed_use mine gone x) ≡ closed_use mine2 gone2 x
    use_closing House = refl
    use_closing (TableOf e t) =
        ⊎_elim (λ (q : e ≡ d). rw (q, new, now_mine, no_yet))
        (λ (n : e ≡ d → ⊥). rw (same_mine e n, same_gone e n) (fix_one (map_loan (leaving_from d)) (mine e && gone e) Idle (TableOf e t) refl refl)) (cases_eq e d)
    use_closing Idle = refl
    use_closing (PageOf a b l) = ap (PageOf a b) (loan_leaving l)

    table_closing : (e x : ℕ) → cond (mine e && gone e) 0 x ≡ cond (mine2 e && gone2 e) 0 x
    table_closing e x = ⊎_elim (λ (q : e ≡ d). rw (q, new, now_mine, no_yet)) (λ (n : e ≡ d → ⊥). rw (same_mine e n, same_gone e n)) (cases_eq e d)

    device_closing : (e : ℕ) (x : Device) → cond (eqb e d) (Closing c) (cond (mine e) (cond (gone e) Shut (Closing c)) x) ≡ cond (mine2 e) (cond (gone2 e) Shut (Closing c)) x
    device_closing e x =
        ⊎_elim (λ (q : e ≡ d). rw (q, eq-eqb d d refl, now_mine, no_yet)) (λ (n : e ≡ d → ⊥). rw (ne_eqb e d n, same_mine e n, same_gone e n)) (cases_eq e d)

    pub closed_no : (v : View) → closed_as false c d (closed_all mine gone c v) ≡ closed_all mine2 gone2 c v
    closed_no v =
        same_view (closed_as false c d (closed_all mine gone c v)) (closed_all mine2 gone2 c v) (fun_ext (λ g. use_closing (v.used g))) refl (fun_ext (λ e. device_closing e (v.device e))) (fun_ext (λ e. table_closing e (v.top e)))
        (fun_ext (λ e. fun_ext (λ i. table_closing e (v.low e i))))

  -- its registers are hidden too
  place_more : (x : Place) → no_registers d (unshown mine x) ≡ unshown mine2 x
  place_more Nothing = refl
  place_more (Page f) = refl
  place_more (Registers e) =
      ⊎_elim (λ (q : e ≡ d). rw (q, new, now_mine, eq-eqb d d refl)) (λ (n : e ≡ d → ⊥). rw (same_mine e n) (fix_one (no_registers d) (mine e) Nothing (Registers e) refl (rw (ne_eqb e d n)))) (cases_eq e d)

  pub unshown_more : (v : View) → without_registers d (unshown_all mine v) ≡ unshown_all mine2 v
  unshown_more v = same_view (without_registers d (unshown_all mine v)) (unshown_all mine2 v) refl (fun_ext (λ a. fun_ext (λ b. place_more (v.place a b)))) refl refl refl

-- none at all
module _ (mine gone : ℕ → Bool) (none : (e : ℕ) → mine e ≡ false) where
  loan_none : (l : Loan) → closed_loan mine gone l ≡ l
  loan_none Home = refl
  loan_none (Lent m) = rw (none m.device)
  loan_none (Leaving m) = rw (none m.device)

  use_none : (x : Use) → closed_use mine gone x ≡ x
  use_none House = refl
  use_none (TableOf e t) = rw (none e)
  use_none Idle = refl
  use_none (PageOf a b l) = ap (PageOf a b) (loan_none l)

  pub closed_none : (c : ℕ) (v : View) → closed_all mine gone c v ≡ v
  closed_none c v = same_view (closed_all mine gone c v) v (fun_ext (λ g. use_none (v.used g))) refl (fun_ext (λ e. rw (none e))) (fun_ext (λ e. rw (none e))) (fun_ext (λ e. fun_ext (λ i. rw (none e))))

  place_none : (x : Place) → unshown mine x ≡ x
  place_none Nothing = refl
  place_none (Page f) = refl
  place_none (Registers e) = rw (none e)

  pub unshown_none : (v : View) → unshown_all mine v ≡ v
  unshown_none v = same_view (unshown_all mine v) v refl (fun_ext (λ a. fun_ext (λ b. place_none (v.place a b)))) refl refl refl

-- the devices below a number
module _ (owns : ℕ → Bool) where
  pub below_none : (e : ℕ) → below 0 owns e ≡ false
  below_none e = rw (le-ltb e 0 (omega arith))

  pub below_self : (n : ℕ) → below n owns n ≡ false
  below_self n = rw (le-ltb n n (omega arith))

  pub below_next : (n : ℕ) → owns n ≡ true → below (suc n) owns n ≡ true
  below_next n o = rw (lt-ltb n (suc n) (omega arith), o)

  pub below_other : (n e : ℕ) → (e ≡ n → ⊥) → below (suc n) owns e ≡ below n owns e
  below_other n e d = ⊎_elim (λ (l : e < n). rw (lt-ltb e n l, lt-ltb e (suc n) (omega arith))) (λ (l : n ≤ e). rw (le-ltb e n l, le-ltb e (suc n) (omega (arith, d)))) (cases_lt e n)

  -- one that is not counted in
  pub below_skip : (n : ℕ) → owns n ≡ false → (e : ℕ) → below n owns e ≡ below (suc n) owns e
  below_skip n o e = ⊎_elim (λ (q : e ≡ n). rw (q, o) (and_false (ltb n n) ∙ sym (and_false (ltb n (suc n))))) (λ (d : e ≡ n → ⊥). sym (below_other n e d)) (cases_eq e n)
    where
      and_false : (x : Bool) → (x && false) ≡ false
      and_false true = refl
      and_false false = refl

  pub closed_skip : (n : ℕ) → owns n ≡ false → (gone : ℕ → Bool) (c : ℕ) (v : View) → closed_all (below n owns) gone c v ≡ closed_all (below (suc n) owns) gone c v
  closed_skip n o gone c v = ap (λ (q : ℕ → Bool). closed_all q gone c v) (fun_ext (below_skip n o))

  pub unshown_skip : (n : ℕ) → owns n ≡ false → (v : View) → unshown_all (below n owns) v ≡ unshown_all (below (suc n) owns) v
  unshown_skip n o v = ap (λ (q : ℕ → Bool). unshown_all q v) (fun_ext (below_skip n o))

-- those that have said yes lie below the next one
pub said_other : (n : ℕ) (ys : List ℕ) (e : ℕ) → (e ≡ n → ⊥) → is_in e (n ∷ ys) ≡ is_in e ys
unfolding is_in
said_other n ys e d = rw (ne_eqb e n d)

pub said_here : (n : ℕ) (ys : List ℕ) → is_in n (n ∷ ys) ≡ true
unfolding is_in
said_here n ys = rw (eq-eqb n n refl)
