-- Walks through the tables, and accesses by what they find.
use Rattle.std.proofs.Common.{◌≡◌, ℕ, zero, suc, ◌+◌, ◌-◌, ◌*◌, ◌/◌, ◌%◌, ◌<◌, Bool, true, false, cond, List, ◌∷◌, length, set, sym, refl, ap, ◌∙◌, subst, arith}
use mathlib.Core.Path.{fun_ext}
use Rattle.std.proofs.lemmas.Bool.{cond-true}
use Rattle.house.specs.Machine.{Hw, with_mem, put, walked, upper, lower}
use Rattle.simulator.specs.declared.events.Event.{Event as Note}
use Rattle.simulator.specs.Notes.{event_of}
use Rattle.simulator.specs.Store.{mem_of, space_of}
use Rattle.simulator.specs.Parts.{Parts, hw_of, seen_of, noted}
use Rattle.simulator.proofs.Asked.{written}
use Rattle.simulator.proofs.Words.{mem_set}

-- a word of memory written
pub mem_path : (p : Parts) (fr : ℕ) (ws : List ℕ) (f k x : ℕ) → length p.mem ≡ 512 * p.frames → f < p.frames → k < 512 → fr ≡ p.frames → ws ≡ set p.mem (512 * f + k) x →
    hw_of (written fr ws p.left p) ≡ with_mem (put f k x (mem_of p.mem)) (hw_of p)
mem_path p fr ws f k x len lf lk ef ew =
    let m : mem_of ws ≡ put f k x (mem_of p.mem) = subst (λ (us : List ℕ). mem_of us ≡ put f k x (mem_of p.mem)) (sym ew) (fun_ext (λ g. fun_ext (λ j. mem_set p.mem p.frames f k x len lf lk g j))) in
    λ t. record { frames = ef t; devices = length p.devices; group = (hw_of p).group; driver = (hw_of p).driver; mem = m t; space = space_of p.space; live = p.live; ups = (hw_of p).ups; mids = (hw_of p).mids; leaves = (hw_of p).leaves; flying = (hw_of p).flying; left = p.left }

-- noted first, and then written
pub noted_written : (p b : Parts) (n : Note) (fr : ℕ) (ws : List ℕ) (f k x : ℕ) → b ≡ noted (n ∷ p.notes) p → length p.mem ≡ 512 * p.frames → f < p.frames → k < 512 → fr ≡ b.frames →
    ws ≡ set b.mem (512 * f + k) x → (hw_of (written fr ws b.left b) ≡ with_mem (put f k x (mem_of p.mem)) (hw_of p)) × (seen_of (written fr ws b.left b) ≡ event_of n ∷ seen_of p)
noted_written p b n fr ws f k x eb len lf lk ef ew = subst P (sym eb) base ef ew
  where
    P : Parts → Type 0
    P c = fr ≡ c.frames → ws ≡ set c.mem (512 * f + k) x → (hw_of (written fr ws c.left c) ≡ with_mem (put f k x (mem_of p.mem)) (hw_of p)) × (seen_of (written fr ws c.left c) ≡ event_of n ∷ seen_of p)

    base : P (noted (n ∷ p.notes) p)
    base a c = (mem_path p fr ws f k x len lf lk a c, λ t. event_of n ∷ seen_of p)

-- what the tables say, along the way
pub walk_none : (h : Hw) (d p : ℕ) → h.mem 0 d ≡ 0 → 0 ≡ walked h d p
unfolding upper
walk_none h d p e = go h.live
  where
    go : (b : Bool) → 0 ≡ cond b (upper (h.mem 0 d) d p h) 0
    go true = sym (ap (λ w. upper w d p h) e)
    go false = refl

pub walk_half : (h : Hw) (d p top : ℕ) → h.mem 0 d ≡ top → 0 < top → h.mem (top - 1) (p / 512) ≡ 0 → 0 ≡ walked h d p
unfolding upper lower
walk_half h d p zero e l f = absurd (omega arith)
walk_half h d p (suc t) e l f = go h.live
  where
    at : h.mem t (p / 512) ≡ 0
    at = let a : suc t - 1 ≡ t = omega arith in subst (λ u. h.mem u (p / 512) ≡ 0) a f

    go : (b : Bool) → 0 ≡ cond b (upper (h.mem 0 d) d p h) 0
    go true = sym (ap (λ w. upper w d p h) e ∙ ap (λ w. lower w d p h) at)
    go false = refl

pub walk_whole : (h : Hw) (d p top low : ℕ) → h.live ≡ true → h.mem 0 d ≡ top → 0 < top → h.mem (top - 1) (p / 512) ≡ low → 0 < low → h.mem (low - 1) (p % 512) ≡ walked h d p
unfolding upper lower
walk_whole h d p zero low v e l f m = absurd (omega arith)
walk_whole h d p (suc t) zero v e l f m = absurd (omega arith)
walk_whole h d p (suc t) (suc s) v e l f m =
    let a : suc t - 1 ≡ t = omega arith in
    let b : suc s - 1 ≡ s = omega arith in
    let g : h.mem t (p / 512) ≡ suc s = subst (λ u. h.mem u (p / 512) ≡ suc s) a f in
    sym (cond-true h.live (upper (h.mem 0 d) d p h) 0 v ∙ (ap (λ w. upper w d p h) e ∙ (ap (λ w. lower w d p h) g ∙ ap (λ u. h.mem u (p % 512)) (sym b))))
