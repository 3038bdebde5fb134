-- A group or a driver that is out of range.
use Rattle.std.proofs.Common.{◌≡◌, suc, ◌≤◌, Bool, false, ◌&&◌, ltb, ◌⊎◌, List, [], ◌∷◌, inl, inr, arith}
use Rattle.std.specs.List.{list_all}
use Rattle.std.proofs.lemmas.Bool.{true≢false, and_cases, ltb-false}
use Rattle.simulator.specs.declared.devices.Device.{Device}
use Rattle.simulator.specs.Fit.{OutOfRange}

abbrev fits : Device → Bool
fits d = ltb d.group 32 && ltb d.driver 32

pub some_unfit : (ds : List Device) → list_all fits ds ≡ false → OutOfRange ds
some_unfit [] e = absurd (true≢false e)
some_unfit (x ∷ xs) e = go (and_cases (fits x) (list_all fits xs) e) (some_unfit xs)
  where
    go : (fits x ≡ false) ⊎ (list_all fits xs ≡ false) → (list_all fits xs ≡ false → OutOfRange xs) → OutOfRange (x ∷ xs)
    go (inl a) r = (0, omega arith, here (and_cases (ltb x.group 32) (ltb x.driver 32) a))
      where
        here : (ltb x.group 32 ≡ false) ⊎ (ltb x.driver 32 ≡ false) → (32 ≤ x.group) ⊎ (32 ≤ x.driver)
        here (inl b) = inl (ltb-false x.group 32 b)
        here (inr b) = inr (ltb-false x.driver 32 b)
    go (inr a) r = let h = r a in (suc h.0, omega arith, h.2)
