-- Making a frame noughts, word by word.
use Rattle.std.proofs.Common.{ℕ, ◌+◌, ◌<◌, List, sym, refl, ◌∙◌, subst, add-one, arith}
use Rattle.house.specs.Event.{Event}
use Rattle.house.specs.Machine.{Hw, Steps, counted, with_mem, put}
use Rattle.house.specs.Operations.{Clears, Cleared}
use Rattle.house.proofs.Steps.{steps_same}

pub cleared_none : (f : ℕ) (h : Hw) (es : List Event) → Cleared f h es 0 h es
cleared_none f h es = record { words = Clears.none; left = omega arith; frames = refl; devices = refl }

pub cleared_more : {f n : ℕ} {h i j : Hw} {es fs gs : List Event} → Cleared f h es n i fs → 0 < i.left → Steps (counted (with_mem (put f n 0 i.mem) i)) fs j gs → Cleared f h es (n + 1) j gs
cleared_more {f} {n} {h} {i} {j} {es} {fs} {gs} c l m =
    let q = steps_same m in
    record {
      words = subst (λ (z : ℕ). Clears f h es z j gs) (sym (add-one n)) (Clears.more c.words m);
      left = omega (arith, q.left, c.left);
      frames = q.frames ∙ c.frames;
      devices = q.devices ∙ c.devices;
    }
