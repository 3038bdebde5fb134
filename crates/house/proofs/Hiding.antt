-- A place is hidden before the call takes effect: all holds, but for that place.
use Rattle.std.proofs.Common.{◌≡◌, ℕ, Bool, true, false, cond, ◌&&◌, ◌||◌, eqb, List, refl}
use Rattle.ledger.specs.View as ledger
use Rattle.house.specs.Event.{Event}
use Rattle.house.specs.Machine.{Hw, Shown, Nothing, counted, shows}
use Rattle.house.specs.Meaning.{Now}
use Rattle.house.specs.Serving.{Progress, Holds}

-- how far a call has come when place u of c shows nothing
abbrev pub hiding : ℕ → ℕ → Progress → Progress
hiding c u p = record { cut = p.cut; hidden = λ a b. (eqb a c && eqb b u) || p.hidden a b; yeses = p.yeses; noes = p.noes }

hidden_too : (b t : Bool) (x y : Shown) → x ≡ cond t Nothing y → cond b Nothing x ≡ cond (b || t) Nothing y
hidden_too true t x y e = refl
hidden_too false t x y e = e

pub hide_place : {v : ledger.View} {p : Progress} {n : Now} {h : Hw} {es : List Event} (c u : ℕ) → Holds v p n h es → Holds v (hiding c u p) n (counted (shows c u Nothing h)) es
hide_place c u a = record {
  fits = a.fits;
  state = a.state;
  run = a.run;
  shape = a.shape;
  drained_are = a.drained_are;
  undrained_are = a.undrained_are;
  kept = a.kept;
  sound = a.sound;
  words = a.words;
  live = a.live;
  shown = λ d y m n. hidden_too (eqb d c && eqb y u) _ _ _ (a.shown d y m n);
  roots = a.roots;
  severed = a.severed;
  forgot = a.forgot;
}
