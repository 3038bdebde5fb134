-- A word put into somebody's page leaves the relation as it is. Assumes nothing.
use Rattle.std.proofs.Common.{◌≡◌, ℕ, Bool, cond, not, ◌&&◌, T, eqb, List, ap, T_not}
use mathlib.Core.Path.{subst⁻¹}
use Rattle.house.specs.Machine.{Up, Mid, Leaf, put}
use Rattle.house.specs.Sound.{Tables, View, Sound, Words, is_page}
use Rattle.house.proofs.Facts.{put_elsewhere}
use Rattle.house.proofs.Uses.{mem_keeps}

-- the same word put on both sides
pub words_put : (v : View) (word mem : ℕ → ℕ → ℕ) (f k x : ℕ) → Words v word mem → Words v (put f k x word) (put f k x mem)
words_put v word mem f k x w g c u j l a e b = ap (λ (y : ℕ). cond (eqb g f && eqb j k) x y) (w g c u j l a e b)

pub other_frame : (v : View) (f g : ℕ) → T (is_page (v.what f)) → T (not (is_page (v.what g))) → g ≡ f → ⊥
other_frame v f g p q e = T_not (is_page (v.what g)) q (subst⁻¹ (λ (x : ℕ). T (is_page (v.what x))) e p)

pub put_keeps :
    {t : Tables} {v : View} {mem : ℕ → ℕ → ℕ} {live : Bool} {ups : List Up} {mids : List Mid} {leaves flying : List Leaf} (f k x : ℕ) → T (is_page (v.what f)) →
    Sound t v mem live ups mids leaves flying → Sound t v (put f k x mem) live ups mids leaves flying
put_keeps {t} {v} {mem} f k x p s = mem_keeps s (put f k x mem) (λ g j a b. put_elsewhere f k x mem g j (other_frame v f g p a))
