-- What becomes of the room when devices are closed: one is shut if the IOMMU has forgotten it, and else closing.
-- Nothing is assumed here.
use Rattle.std.specs.Prelude.{◌≡◌, ℕ, zero, suc, ◌+◌, ◌*◌, ◌≤◌, Bool, true, false, cond, not, ◌&&◌, ◌||◌, List, [], ◌∷◌, ◌==◌, nat_lt}
use Rattle.ledger.specs.declared.Loan.{Loan}
use Rattle.ledger.specs.declared.Loan.TheVariants.{Home, Lent, Leaving}
use Rattle.ledger.specs.declared.Use.{Use}
use Rattle.ledger.specs.declared.Use.TheVariants.{House, TableOf, Idle, PageOf}
use Rattle.ledger.specs.declared.Place.{Place}
use Rattle.ledger.specs.declared.Place.TheVariants.{Nothing, Page, Registers}
use Rattle.ledger.specs.declared.Device.TheVariants.{Shut, Closing}
use Rattle.ledger.specs.View.{View, with_place}
use Rattle.ledger.specs.Changes.{shut_device, closing_for}
use Rattle.house.specs.Event.{Event}
use Rattle.house.specs.Machine.{Hw, Steps, Drains, counted, with_mem, put}
use Rattle.house.specs.Meaning.{is_in}

-- one device
abbrev pub closed_as : (forgotten : Bool) → (c d : ℕ) → View → View
closed_as true c d v = shut_device d v
closed_as false c d v = closing_for c d v

-- of the devices below n, those that pass the test
abbrev pub below : ℕ → (ℕ → Bool) → ℕ → Bool
below n q e = nat_lt e n && q e

-- all the devices of c that are `mine`: shut where `gone`, and else closing
abbrev pub closed_loan : (mine gone : ℕ → Bool) → Loan → Loan
closed_loan mine gone Home = Home
closed_loan mine gone (Lent m) = cond (mine m.device) (cond (gone m.device) Home (Leaving m)) (Lent m)
closed_loan mine gone (Leaving m) = cond (mine m.device) (cond (gone m.device) Home (Leaving m)) (Leaving m)

abbrev pub closed_use : (mine gone : ℕ → Bool) → Use → Use
closed_use mine gone House = House
closed_use mine gone (TableOf d t) = cond (mine d && gone d) Idle (TableOf d t)
closed_use mine gone Idle = Idle
closed_use mine gone (PageOf c v l) = PageOf c v (closed_loan mine gone l)

abbrev pub closed_all : (mine gone : ℕ → Bool) → ℕ → View → View
closed_all mine gone c v = record {
  used = λ f. closed_use mine gone (v.used f);
  place = v.place;
  device = λ e. cond (mine e) (cond (gone e) Shut (Closing c)) (v.device e);
  top = λ e. cond (mine e && gone e) 0 (v.top e);
  low = λ e i. cond (mine e && gone e) 0 (v.low e i);
}

-- a place that shows no registers any more
abbrev pub shows_some : Place → Bool
shows_some Nothing = false
shows_some (Page f) = false
shows_some (Registers d) = true

abbrev pub bare : Place → Place
bare Nothing = Nothing
bare (Page f) = Page f
bare (Registers d) = Nothing

abbrev pub bare_at : ℕ → ℕ → View → View
bare_at c u v = with_place c u (bare (v.place c u)) v

-- the places of c below k, and all of them
abbrev pub bare_below : ℕ → ℕ → View → View
bare_below c k v = record { used = v.used; place = λ a b. cond (a == c && nat_lt b k) (bare (v.place a b)) (v.place a b); device = v.device; top = v.top; low = v.low }

abbrev pub bared : ℕ → View → View
bared c v = record { used = v.used; place = λ a b. cond (a == c) (bare (v.place a b)) (v.place a b); device = v.device; top = v.top; low = v.low }

-- Of the first devices those that pass the test were taken out of frame 0 and asked once to be forgotten, one after the other:
-- which said yes, and which no.
pub data Closes (owns : ℕ → Bool) (h : Hw) (es : List Event) : ℕ → List ℕ → List ℕ → Hw → List Event → Type 0 where
  none : Closes owns h es 0 [] [] h es
  skip : {n : ℕ} {ys ns : List ℕ} {j : Hw} {gs : List Event} → Closes owns h es n ys ns j gs → owns n ≡ false → Closes owns h es (suc n) ys ns j gs
  gone : {n : ℕ} {ys ns : List ℕ} {i k j : Hw} {fs ks gs : List Event} → Closes owns h es n ys ns i fs → owns n ≡ true → Steps (counted (with_mem (put 0 n 0 i.mem) i)) fs k ks → Drains n k ks true j gs →
      Closes owns h es (suc n) (n ∷ ys) ns j gs
  stays : {n : ℕ} {ys ns : List ℕ} {i k j : Hw} {fs ks gs : List Event} → Closes owns h es n ys ns i fs → owns n ≡ true → Steps (counted (with_mem (put 0 n 0 i.mem) i)) fs k ks → Drains n k ks false j gs →
      Closes owns h es (suc n) ys (n ∷ ns) j gs

-- whether all of them said yes
unfoldable pub all_in : ℕ → (ℕ → Bool) → List ℕ → Bool
all_in zero owns ys = true
all_in (suc n) owns ys = (not (owns n) || is_in n ys) && all_in n owns ys

-- one turn of that: a device, of c if `owns`
abbrev pub ClosesOne : (owns said : Bool) → ℕ → Hw → List Event → Hw → List Event → Type 0
ClosesOne true said d h es j gs = (i : Hw) × (fs : List Event) × Steps (counted (with_mem (put 0 d 0 h.mem) h)) es i fs × Drains d i fs said j gs
ClosesOne false said d h es j gs = (said ≡ true) × (j ≡ h) × (gs ≡ es)

pub record ClosedOne (owns : Bool) (c d : ℕ) (v : View) (h : Hw) (es : List Event) (u : View) (said : Bool) (j : Hw) (gs : List Event) : Type 0 where
  pub asked : ClosesOne owns said d h es j gs
  pub view : u ≡ cond owns (closed_as said c d v) v
  pub left : h.left ≤ j.left + 2
  pub frames : j.frames ≡ h.frames
  pub devices : j.devices ≡ h.devices

-- and all turns, with what they make of the room and leave of the count
pub record ClosedSoFar (owns : ℕ → Bool) (c : ℕ) (v : View) (h : Hw) (es : List Event) (n : ℕ) (u : View) (all : Bool) (j : Hw) (gs : List Event) : Type 0 where
  pub yeses : List ℕ
  pub noes : List ℕ
  pub asked : Closes owns h es n yeses noes j gs
  pub view : u ≡ closed_all (below n owns) (λ e. is_in e yeses) c v
  pub all_yes : all ≡ all_in n owns yeses
  pub left : h.left ≤ j.left + 2 * n
  pub frames : j.frames ≡ h.frames
  pub devices : j.devices ≡ h.devices
