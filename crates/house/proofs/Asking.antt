-- One operation takes one from the count, and leaves the machine's shape.
use Rattle.std.proofs.Common.{ℕ, ◌<◌, Bool, List, ◌∙◌, arith}
use Rattle.house.specs.Event.{Event}
use Rattle.house.specs.Machine.{Hw, Shown, Steps, Drains, counted, with_mem, shows}
use Rattle.house.specs.Operations.{Asked1}
use Rattle.house.proofs.Steps.{steps_same, drain_split}

pub put_asked : {h j : Hw} {es gs : List Event} {m : ℕ → ℕ → ℕ} → 0 < h.left → Steps (counted (with_mem m h)) es j gs → Asked1 h j
put_asked l m = let q = steps_same m in record { left = omega (arith, q.left); frames = q.frames; devices = q.devices }

pub shows_asked : {h j : Hw} {es gs : List Event} (c v : ℕ) (x : Shown) → 0 < h.left → Steps (counted (shows c v x h)) es j gs → Asked1 h j
shows_asked c v x l m = let q = steps_same m in record { left = omega (arith, q.left); frames = q.frames; devices = q.devices }

pub drain_asked : {h j : Hw} {es gs : List Event} {d : ℕ} {b : Bool} → 0 < h.left → Drains d h es b j gs → Asked1 h j
drain_asked l m =
    let q = drain_split m in
    let x = steps_same q.before in
    let y = steps_same q.after in
    record { left = omega (arith, x.left, y.left); frames = y.frames ∙ x.frames; devices = y.devices ∙ x.devices }
