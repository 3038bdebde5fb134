-- A device that is shut, or is to be shut: the room's change is the meaning's.
use Rattle.std.proofs.Common.{◌≡◌, ℕ, suc, ◌-◌, Bool, true, false, cond, not, ◌&&◌, T, eqb, sym, refl, ap, ◌∙◌, ⊎_elim, arith, eqb→eq}
use mathlib.Core.Path.{fun_ext}
use Rattle.std.proofs.lemmas.Bool.{cases_eq, eq-eqb, ne_eqb, cond_both, false≢true}
use Rattle.ledger.specs.declared.Loan as loans
use Rattle.ledger.specs.declared.Loan.TheVariants as loan
use Rattle.ledger.specs.declared.Use as uses
use Rattle.ledger.specs.declared.Use.TheVariants as used
use Rattle.ledger.specs.declared.Place.{Place}
use Rattle.ledger.specs.declared.Place.TheVariants as place
use Rattle.ledger.specs.declared.Device.{Device}
use Rattle.ledger.specs.declared.Device.TheVariants as device
use Rattle.ledger.specs.View as ledger
use Rattle.ledger.specs.Uses as tests
use Rattle.ledger.specs.Changes as changes
use Rattle.ledger.proofs.Entries.{same_view}
use Rattle.house.specs.Machine.{Hw, Forgotten}
use Rattle.house.specs.Meaning.{Use, Of, Dev, Shut, Closing, State, is_shut, owner_is, map_loan, leaving_from, home_from, no_table, closing, shut}
use Rattle.house.specs.Sound.{view_of, SoundAt, Held}
use Rattle.house.specs.Kept.{KeptIn, use_meant, loan_meant, dev_meant, regs_meant, tables_in}
use Rattle.house.specs.Closures.{closed_as}
use Rattle.house.proofs.Shelf.{both, differ, from_true, at_one, there}
use Rattle.house.proofs.Keeping.{meant_change}
use Rattle.house.proofs.Tables.{tables_agree}
use Rattle.house.proofs.Shutting.{shut_state}

meant_choice : {A B : Type 0} (m : A → B) (b : Bool) (x y : A) → cond b (m x) (m y) ≡ m (cond b x y)
meant_choice m b x y = meant_change m b x y (m y) refl

pub same_choice : {A : Type 0} (b : Bool) (x : A) → cond b x x ≡ x
same_choice true x = refl
same_choice false x = refl

-- the program that has a device
pub owner_meant : (c : ℕ) (x : Device) → owner_is c (dev_meant x) ≡ tests.owner_is c x
unfolding owner_is dev_meant
owner_meant c device.Shut = refl
owner_meant c (device.Opened w) = refl
owner_meant c (device.Closing w) = refl

loan_leaving : (d : ℕ) (l : loans.Loan) → leaving_from d (loan_meant l) ≡ loan_meant (tests.leaving_from d l)
unfolding leaving_from loan_meant
loan_leaving d loan.Home = refl
loan_leaving d (loan.Lent m) = meant_choice loan_meant (eqb d m.device) (loan.Leaving m) (loan.Lent m)
loan_leaving d (loan.Leaving m) = refl

pub meant_leaving : (d : ℕ) (x : uses.Use) → map_loan (leaving_from d) (use_meant x) ≡ use_meant (tests.map_loan (tests.leaving_from d) x)
unfolding map_loan use_meant
meant_leaving d used.House = refl
meant_leaving d (used.TableOf e w) = refl
meant_leaving d used.Idle = refl
meant_leaving d (used.PageOf a b l) = ap (Of a b) (loan_leaving d l)

loan_home : (d : ℕ) (l : loans.Loan) → home_from d (loan_meant l) ≡ loan_meant (tests.home_from d l)
unfolding home_from loan_meant
loan_home d loan.Home = refl
loan_home d (loan.Lent m) = meant_choice loan_meant (eqb d m.device) loan.Home (loan.Lent m)
loan_home d (loan.Leaving m) = meant_choice loan_meant (eqb d m.device) loan.Home (loan.Leaving m)

pub meant_shut : (d : ℕ) (x : uses.Use) → no_table d (map_loan (home_from d) (use_meant x)) ≡ use_meant (tests.no_table d (tests.map_loan (tests.home_from d) x))
unfolding no_table map_loan use_meant
meant_shut d used.House = refl
meant_shut d (used.TableOf e w) = meant_choice use_meant (eqb d e) used.Idle (used.TableOf e w)
meant_shut d used.Idle = refl
meant_shut d (used.PageOf a b l) = ap (Of a b) (loan_home d l)

-- what was let go before the device is shut or closing makes no difference then
left_home : (d : ℕ) (l : loans.Loan) → tests.home_from d (tests.leaving_from d l) ≡ tests.home_from d l
left_home d loan.Home = refl
left_home d (loan.Lent m) = cond_both (eqb d m.device) (loan.Leaving m) (loan.Lent m) (λ z. tests.home_from d z ≡ tests.home_from d (loan.Lent m)) (λ q. rw q) (λ q. refl)
left_home d (loan.Leaving m) = refl

left_leaving : (d : ℕ) (l : loans.Loan) → tests.leaving_from d (tests.leaving_from d l) ≡ tests.leaving_from d l
left_leaving d loan.Home = refl
left_leaving d (loan.Lent m) = cond_both (eqb d m.device) (loan.Leaving m) (loan.Lent m) (λ z. tests.leaving_from d z ≡ z) (λ q. refl) (λ q. rw q)
left_leaving d (loan.Leaving m) = refl

left_shut : (d : ℕ) (x : uses.Use) → tests.no_table d (tests.map_loan (tests.home_from d) (tests.map_loan (tests.leaving_from d) x)) ≡ tests.no_table d (tests.map_loan (tests.home_from d) x)
left_shut d used.House = refl
left_shut d (used.TableOf e w) = refl
left_shut d used.Idle = refl
left_shut d (used.PageOf a b l) = ap (used.PageOf a b) (left_home d l)

left_closing : (d : ℕ) (x : uses.Use) → tests.map_loan (tests.leaving_from d) (tests.map_loan (tests.leaving_from d) x) ≡ tests.map_loan (tests.leaving_from d) x
left_closing d used.House = refl
left_closing d (used.TableOf e w) = refl
left_closing d used.Idle = refl
left_closing d (used.PageOf a b l) = ap (used.PageOf a b) (left_leaving d l)

-- what was lent to d is leaving
abbrev pub loosened_from : ℕ → ledger.View → ledger.View
loosened_from d v = changes.with_uses (tests.map_loan (tests.leaving_from d)) v

pub closed_left : (b : Bool) (c d : ℕ) (v : ledger.View) → closed_as b c d (changes.without_registers d (loosened_from d v)) ≡ closed_as b c d (changes.without_registers d v)
closed_left true c d v = same_view (closed_as true c d (changes.without_registers d (loosened_from d v))) (closed_as true c d (changes.without_registers d v)) (fun_ext (λ g. left_shut d (v.used g))) refl refl refl refl
closed_left false c d v = same_view (closed_as false c d (changes.without_registers d (loosened_from d v))) (closed_as false c d (changes.without_registers d v)) (fun_ext (λ g. left_closing d (v.used g))) refl refl refl refl

-- registers that are no longer shown
pub meant_registers : (d : ℕ) (x : Place) → cond (eqb (regs_meant x) (suc d)) 0 (regs_meant x) ≡ regs_meant (tests.no_registers d x)
unfolding regs_meant
meant_registers d place.Nothing = same_choice (eqb 0 (suc d)) 0
meant_registers d (place.Page f) = same_choice (eqb 0 (suc d)) 0
meant_registers d (place.Registers e) = ⊎_elim (λ (q : e ≡ d). rw (eq-eqb (suc e) (suc d) (ap suc q), eq-eqb e d q)) (λ (n : e ≡ d → ⊥). rw (ne_eqb (suc e) (suc d) (λ z. n (omega arith)), ne_eqb e d n)) (cases_eq e d)

closing_meant : (c : ℕ) (x : Device) → tests.owner_is c x ≡ true → closing (dev_meant x) ≡ Closing c
unfolding closing dev_meant
closing_meant c device.Shut e = absurd (false≢true e)
closing_meant c (device.Opened w) e = ap Closing (sym (eqb→eq c w (from_true (eqb c w) e)))
closing_meant c (device.Closing w) e = ap Closing (sym (eqb→eq c w (from_true (eqb c w) e)))

module _ (v : ledger.View) {what : ℕ → Use} {dev : ℕ → Dev} {slots : ℕ → ℕ → Bool} {regs : ℕ → ℕ → ℕ} (k : KeptIn v what dev slots regs) where
  pub kept_shut : (d : ℕ) → KeptIn (changes.shut_device d v) (λ f. no_table d (map_loan (home_from d) (what f))) (λ e. cond (eqb e d) Shut (dev e)) (λ e i. slots e i && not (eqb e d)) regs
  unfolding dev_meant
  kept_shut d = record {
    uses_are = λ g. ap (λ (x : Use). no_table d (map_loan (home_from d) x)) (k.uses_are g) ∙ meant_shut d (v.used g);
    devs_are = λ e. meant_change dev_meant (eqb e d) device.Shut (v.device e) (dev e) (k.devs_are e);
    slots_are = λ e i. go (eqb e d) (slots e i) (v.low e i) (k.slots_are e i);
    regs_are = k.regs_are;
  }
    where
      go : (b t : Bool) (x : ℕ) → t ≡ not (eqb x 0) → (t && not b) ≡ not (eqb (cond b 0 x) 0)
      go true true x e = refl
      go true false x e = refl
      go false true x e = e
      go false false x e = e

  pub kept_shutting : (c d : ℕ) → tests.owner_is c (v.device d) ≡ true → KeptIn (changes.closing_for c d v) (λ f. map_loan (leaving_from d) (what f)) (λ e. cond (eqb e d) (closing (dev e)) (dev e)) slots regs
  unfolding dev_meant
  kept_shutting c d o = record {
    uses_are = λ g. ap (map_loan (leaving_from d)) (k.uses_are g) ∙ meant_leaving d (v.used g);
    devs_are = λ e. at e;
    slots_are = k.slots_are;
    regs_are = k.regs_are;
  }
    where
      at : (e : ℕ) → cond (eqb e d) (closing (dev e)) (dev e) ≡ dev_meant (cond (eqb e d) (device.Closing c) (v.device e))
      at e =
          ⊎_elim (λ (q : e ≡ d). rw (eq-eqb e d q) (ap closing (k.devs_are e) ∙ closing_meant c (v.device e) (ap (λ (y : ℕ). tests.owner_is c (v.device y)) q ∙ o)))
          (λ (n : e ≡ d → ⊥). rw (ne_eqb e d n) (k.devs_are e)) (cases_eq e d)

  -- a device's registers are shown nowhere any more
  pub kept_unregistered : (d : ℕ) → KeptIn (changes.without_registers d v) what dev slots (λ c u. cond (eqb (regs c u) (suc d)) 0 (regs c u))
  kept_unregistered d = record {
    uses_are = k.uses_are;
    devs_are = k.devs_are;
    slots_are = k.slots_are;
    regs_are = λ c u. ap (λ (x : ℕ). cond (eqb x (suc d)) 0 x) (k.regs_are c u) ∙ meant_registers d (v.place c u);
  }

-- the tables of a device that is shut are nobody's
pub shut_sound : (v : ledger.View) (s : State) (h : Hw) → SoundAt (tables_in v) (view_of s) h → (d : ℕ) → h.mem 0 d ≡ 0 → Forgotten d h → SoundAt (tables_in (changes.shut_device d v)) (view_of (shut d s)) h
unfolding is_shut
shut_sound v s h a d z f = tables_agree (shut_state s a d z f.0 f.1 f.2 f.3) (tables_in (changes.shut_device d v)) tops lows
  where
    tops : (e : ℕ) → Held (view_of (shut d s)) e → cond (eqb e d) 0 (v.top e) ≡ v.top e
    tops e k = there e d 0 (v.top e) (λ q. at_one (λ (x : Dev). T (not (is_shut x)) → e ≡ d → ⊥) e d Shut (s.dev e) (λ _ y _. y) (λ n _ y. n y) k.1 q)

    lows : (e i : ℕ) → T (s.slots e i && not (eqb e d)) → cond (eqb e d) 0 (v.low e i) - 1 ≡ v.low e i - 1
    lows e i t = ap (λ (x : ℕ). x - 1) (there e d 0 (v.low e i) (differ e d (both (s.slots e i) (not (eqb e d)) t).1))
