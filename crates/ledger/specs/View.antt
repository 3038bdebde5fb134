-- What a room says, as functions: the five tables without words. `view_of n r` is what r says of n frames; a frame past
-- these is idle. Two rooms with one view say the same of every frame, place, device and slot.
use Rattle.std.specs.Prelude.{ℕ, cond, ◌&&◌, List, ◌==◌, nat_lt}
use Rattle.ledger.specs.declared.Use.{Use}
use Rattle.ledger.specs.declared.Use.TheVariants.{Idle}
use Rattle.ledger.specs.declared.Place.{Place}
use Rattle.ledger.specs.declared.Device.{Device}
use Rattle.ledger.specs.Room.{use_of, place_of, device_of, top_of, low_of}

pub record View : Type 0 where
  pub used : ℕ → Use
  pub place : ℕ → ℕ → Place
  pub device : ℕ → Device
  pub top : ℕ → ℕ
  pub low : ℕ → ℕ → ℕ

abbrev pub view_of : ℕ → List ℕ → View
view_of n r = record { used = λ f. cond (nat_lt f n) (use_of r f) Idle; place = place_of r; device = device_of r; top = top_of r; low = low_of r }

-- One entry of a table is now this, and every other entry of every table is as it was.
abbrev pub with_use : ℕ → Use → View → View
with_use f u s = record { used = λ g. cond (g == f) u (s.used g); place = s.place; device = s.device; top = s.top; low = s.low }

abbrev pub with_place : ℕ → ℕ → Place → View → View
with_place c v p s =
    record { used = s.used; place = λ a b. cond (a == c && b == v) p (s.place a b); device = s.device; top = s.top; low = s.low }

-- as `with_place`, for the tags, which are no part of a view
abbrev pub with_tag : ℕ → ℕ → ℕ → (ℕ → ℕ → ℕ) → ℕ → ℕ → ℕ
with_tag c v x t a b = cond (a == c && b == v) x (t a b)

abbrev pub with_device : ℕ → Device → View → View
with_device d x s = record { used = s.used; place = s.place; device = λ e. cond (e == d) x (s.device e); top = s.top; low = s.low }

abbrev pub with_top : ℕ → ℕ → View → View
with_top d f s = record { used = s.used; place = s.place; device = s.device; top = λ e. cond (e == d) f (s.top e); low = s.low }

abbrev pub with_low : ℕ → ℕ → ℕ → View → View
with_low d i x s =
    record { used = s.used; place = s.place; device = s.device; top = s.top; low = λ e j. cond (e == d && j == i) x (s.low e j) }
