-- The room's changes are the meaning's: what is written into an entry of the room, in the words of the meaning.
use Rattle.std.proofs.Common.{◌≡◌, ℕ, suc, Bool, true, false, cond, not, ◌&&◌, ◌||◌, eqb, sym, refl, ap, ◌∙◌, arith}
use Rattle.std.proofs.lemmas.Bool.{and_parts, eqb-true, ne_eqb}
use Rattle.ledger.specs.declared.Use as uses
use Rattle.ledger.specs.declared.Place.{Place}
use Rattle.ledger.specs.declared.Device.{Device}
use Rattle.ledger.specs.View as ledger
use Rattle.ledger.specs.Changes as changes
use Rattle.house.specs.Machine.{Shown}
use Rattle.house.specs.Meaning.{State, Use, use_at, set_use, set_dev, set_slots, set_regs}
use Rattle.house.specs.Kept.{Kept, use_meant, dev_meant, regs_meant, shown_meant}

-- a reading of a changed entry
pub meant_change : {A B : Type 0} (m : A → B) (b : Bool) (x y : A) (z : B) → z ≡ m y → cond b (m x) z ≡ m (cond b x y)
meant_change m true x y z e = refl
meant_change m false x y z e = e

module _ {v : ledger.View} (s : State) (k : Kept v s) where
  pub kept_use : (f : ℕ) (x : uses.Use) → Kept (ledger.with_use f x v) (set_use (use_at f (use_meant x) s.what) s)
  kept_use f x = record {
    uses_are = λ g. meant_change use_meant (eqb g f) x (v.used g) (s.what g) (k.uses_are g);
    devs_are = k.devs_are;
    slots_are = k.slots_are;
    regs_are = k.regs_are;
  }

  -- a change of all uses
  pub kept_uses : (φ : uses.Use → uses.Use) (ψ : Use → Use) → ((x : uses.Use) → ψ (use_meant x) ≡ use_meant (φ x)) → Kept (changes.with_uses φ v) (set_use (λ f. ψ (s.what f)) s)
  kept_uses φ ψ e = record {
    uses_are = λ g. ap ψ (k.uses_are g) ∙ e (v.used g);
    devs_are = k.devs_are;
    slots_are = k.slots_are;
    regs_are = k.regs_are;
  }

  -- a place shows something else, but no other registers
  pub kept_place : (c u : ℕ) (p : Place) → s.regs c u ≡ regs_meant p → Kept (ledger.with_place c u p v) s
  kept_place c u p e = record {
    uses_are = k.uses_are;
    devs_are = k.devs_are;
    slots_are = k.slots_are;
    regs_are = λ a b. sym (same a b (eqb a c && eqb b u) refl) ∙ meant_change regs_meant (eqb a c && eqb b u) p (v.place a b) (s.regs a b) (k.regs_are a b);
  }
    where
      same : (a b : ℕ) (t : Bool) → (eqb a c && eqb b u) ≡ t → cond (eqb a c && eqb b u) (regs_meant p) (s.regs a b) ≡ s.regs a b
      same a b true q = rw q (let r = and_parts (eqb a c) (eqb b u) q in rw (eqb-true a c r.0, eqb-true b u r.1) (sym e))
      same a b false q = rw q refl

  pub kept_registers : (c u : ℕ) (p : Place) → Kept (ledger.with_place c u p v) (set_regs (λ a b. cond (eqb a c && eqb b u) (regs_meant p) (s.regs a b)) s)
  kept_registers c u p = record {
    uses_are = k.uses_are;
    devs_are = k.devs_are;
    slots_are = k.slots_are;
    regs_are = λ a b. meant_change regs_meant (eqb a c && eqb b u) p (v.place a b) (s.regs a b) (k.regs_are a b);
  }

  pub kept_device : (d : ℕ) (x : Device) → Kept (ledger.with_device d x v) (set_dev (λ e. cond (eqb e d) (dev_meant x) (s.dev e)) s)
  kept_device d x = record {
    uses_are = k.uses_are;
    devs_are = λ e. meant_change dev_meant (eqb e d) x (v.device e) (s.dev e) (k.devs_are e);
    slots_are = k.slots_are;
    regs_are = k.regs_are;
  }

  pub kept_top : (d f : ℕ) → Kept (ledger.with_top d f v) s
  kept_top d f = record { uses_are = k.uses_are; devs_are = k.devs_are; slots_are = k.slots_are; regs_are = k.regs_are }

  pub kept_low : (d i f : ℕ) → Kept (ledger.with_low d i (suc f) v) (set_slots (λ e j. s.slots e j || (eqb e d && eqb j i)) s)
  kept_low d i f = record {
    uses_are = k.uses_are;
    devs_are = k.devs_are;
    slots_are = λ e j. go (eqb e d && eqb j i) (s.slots e j) (v.low e j) (k.slots_are e j);
    regs_are = k.regs_are;
  }
    where
      go : (b t : Bool) (x : ℕ) → t ≡ not (eqb x 0) → (t || b) ≡ not (eqb (cond b (suc f) x) 0)
      go true true x e = sym (ap not (ne_eqb (suc f) 0 (λ z. omega arith)))
      go true false x e = sym (ap not (ne_eqb (suc f) 0 (λ z. omega arith)))
      go false true x e = e
      go false false x e = e

-- what a place shows after it is shown or hidden
pub shown_change : (b : Bool) (x : Shown) (p q : Place) (y : Shown) → x ≡ shown_meant p → y ≡ shown_meant q → cond b x y ≡ shown_meant (cond b p q)
shown_change true x p q y e f = e
shown_change false x p q y e f = f
