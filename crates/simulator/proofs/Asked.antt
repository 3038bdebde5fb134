-- What each thing that the keeper asks does to the parts, and that devices' steps follow.
use Rattle.std.proofs.Common.{◌≡◌, ℕ, ◌+◌, ◌-◌, ◌*◌, ◌<◌, cond, ◌&&◌, eqb, List, length, set, sym, ap, ◌∙◌, subst}
use mathlib.Core.Path.{fun_ext}
use Rattle.house.specs.Event.{Event}
use Rattle.house.specs.Machine.{Hw, Shown, Steps, none, more, with_mem, counted, put, shows}
use Rattle.simulator.specs.declared.spaces.View.{View}
use Rattle.simulator.specs.Store.{mem_of, space_of, shown_of}
use Rattle.simulator.specs.Parts.{Parts, hw_of, seen_of, Goes}
use Rattle.simulator.proofs.Words.{mem_set, space_set}

pub steps_then : {h i j : Hw} {es fs gs : List Event} → Steps h es i fs → Steps i fs j gs → Steps h es j gs
steps_then (none h es) b = b
steps_then (more s r) b = more s (steps_then r b)

-- the parts after a word of memory was written, and one asking less is left
abbrev pub written : ℕ → List ℕ → ℕ → Parts → Parts
written fr ws l p =
    record { frames = fr; devices = p.devices; mem = ws; space = p.space; live = p.live; ups = p.ups; mids = p.mids; leaves = p.leaves; flying = p.flying; left = l; notes = p.notes }

pub put_path : (p : Parts) (fr : ℕ) (ws : List ℕ) (f k x : ℕ) → length p.mem ≡ 512 * p.frames → f < p.frames → k < 512 → fr ≡ p.frames → ws ≡ set p.mem (512 * f + k) x →
    hw_of (written fr ws (p.left - 1) p) ≡ counted (with_mem (put f k x (mem_of p.mem)) (hw_of p))
put_path p fr ws f k x len lf lk ef ew =
    let m : mem_of ws ≡ put f k x (mem_of p.mem) = subst (λ (us : List ℕ). mem_of us ≡ put f k x (mem_of p.mem)) (sym ew) (fun_ext (λ g. fun_ext (λ j. mem_set p.mem p.frames f k x len lf lk g j))) in
    λ t. record { frames = ef t; devices = length p.devices; group = (hw_of p).group; driver = (hw_of p).driver; mem = m t; space = space_of p.space; live = p.live; ups = (hw_of p).ups; mids = (hw_of p).mids; leaves = (hw_of p).leaves; flying = (hw_of p).flying; left = p.left - 1 }

pub put_goes : (p : Parts) (fr : ℕ) (ws : List ℕ) (f k x : ℕ) (q : Parts) → length p.mem ≡ 512 * p.frames → f < p.frames → k < 512 → fr ≡ p.frames → ws ≡ set p.mem (512 * f + k) x →
    Goes (written fr ws (p.left - 1) p) q → Steps (counted (with_mem (put f k x (mem_of p.mem)) (hw_of p))) (seen_of p) (hw_of q) (seen_of q)
put_goes p fr ws f k x q len lf lk ef ew g = subst (λ (h : Hw). Steps h (seen_of p) (hw_of q) (seen_of q)) (put_path p fr ws f k x len lf lk ef ew) g

-- the parts after a place was changed
abbrev pub placed : List View → ℕ → Parts → Parts
placed ws l p =
    record { frames = p.frames; devices = p.devices; mem = p.mem; space = ws; live = p.live; ups = p.ups; mids = p.mids; leaves = p.leaves; flying = p.flying; left = l; notes = p.notes }

pub place_goes : (p : Parts) (vs : List View) (c v : ℕ) (w : View) (q : Parts) → length p.space ≡ 32768 → c < 32 → v < 1024 → vs ≡ set p.space (1024 * c + v) w →
    Goes (placed vs (p.left - 1) p) q → Steps (counted (shows c v (shown_of w) (hw_of p))) (seen_of p) (hw_of q) (seen_of q)
place_goes p vs c v w q len lc lv ew g = subst (λ (h : Hw). Steps h (seen_of p) (hw_of q) (seen_of q)) path g
  where
    at : ℕ → ℕ → Shown
    at = λ b u. cond (eqb b c && eqb u v) (shown_of w) (space_of p.space b u)

    e : space_of vs ≡ at
    e = ap space_of ew ∙ fun_ext (λ b. fun_ext (λ u. space_set p.space c v w len lc lv b u))

    path : hw_of (placed vs (p.left - 1) p) ≡ counted (shows c v (shown_of w) (hw_of p))
    path = λ t. record { frames = p.frames; devices = length p.devices; group = (hw_of p).group; driver = (hw_of p).driver; mem = (hw_of p).mem; space = e t; live = p.live; ups = (hw_of p).ups; mids = (hw_of p).mids; leaves = (hw_of p).leaves; flying = (hw_of p).flying; left = p.left - 1 }
