-- A drain: what it says is noted, and if it says yes of a device that frame 0 has nothing of, that device stays forgotten.
use Rattle.std.proofs.Common.{◌≡◌, ℕ, Bool, true, false, T, List, ◌∷◌, sym, ap, subst, ⊎_elim}
use Rattle.ledger.specs.View as ledger
use Rattle.house.specs.Event.{Event, Drained}
use Rattle.house.specs.Machine.{Hw, Drains, Forgotten, counted}
use Rattle.house.specs.Meaning
use Rattle.house.specs.Meaning.{is_in, told_drain, Now}
use Rattle.house.specs.Serving.{Progress, Holds}
use Rattle.house.proofs.Shelf.{in_cases}
use Rattle.house.proofs.Steps.{drain_split}
use Rattle.house.proofs.Between.{holds_steps}

-- how far a call has come when a drain of d has said b
abbrev pub heard : ℕ → Bool → Progress → Progress
heard d true p = record { cut = p.cut; hidden = p.hidden; yeses = d ∷ p.yeses; noes = p.noes }
heard d false p = record { cut = p.cut; hidden = p.hidden; yeses = p.yeses; noes = d ∷ p.noes }

-- the moment at which the unit says it
pub holds_heard : {v : ledger.View} {p : Progress} {n : Now} {h : Hw} {es : List Event} (d : ℕ) (b : Bool) → Holds v p n h es → (T b → Forgotten d h) → Holds v (heard d b p) n (counted h) (Drained d b ∷ es)
holds_heard {p = p} {h = h} d true a f = record {
  fits = a.fits;
  state = told_drain d true a.state;
  run = Meaning.drains d true a.run;
  shape = a.shape;
  drained_are = ap (λ (z : List ℕ). d ∷ z) a.drained_are;
  undrained_are = a.undrained_are;
  kept = a.kept;
  sound = a.sound;
  words = a.words;
  live = a.live;
  shown = a.shown;
  roots = a.roots;
  severed = a.severed;
  forgot = λ e c i. ⊎_elim (λ (q : e ≡ d). subst (λ (z : ℕ). Forgotten z h) (sym q) (f tt)) (λ (m : T (is_in e p.yeses)). a.forgot e c m) (in_cases e d p.yeses i);
}
holds_heard {p = p} {h = h} d false a f = record {
  fits = a.fits;
  state = told_drain d false a.state;
  run = Meaning.drains d false a.run;
  shape = a.shape;
  drained_are = a.drained_are;
  undrained_are = ap (λ (z : List ℕ). d ∷ z) a.undrained_are;
  kept = a.kept;
  sound = a.sound;
  words = a.words;
  live = a.live;
  shown = a.shown;
  roots = a.roots;
  severed = a.severed;
  forgot = a.forgot;
}

-- the whole of it
pub holds_drain : {v : ledger.View} {p : Progress} {n : Now} {h j : Hw} {es gs : List Event} {d : ℕ} {b : Bool} → Holds v p n h es → Drains d h es b j gs → Holds v (heard d b p) n j gs
holds_drain {d = d} {b = b} a m =
    let q = drain_split m in
    holds_steps (holds_heard d b (holds_steps a q.before) q.forgot) q.after
